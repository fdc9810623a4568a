-- The places that a timetable gains of the records that were read so far.
use Rattle.std.proofs.Common.{◌≡◌, inl, inr, ℕ, Bool, true, false, List, [], ◌∷◌, ◌++◌, Result, Ok, Err, refl, sym, ap, subst, ◌∙◌}
use Rattle.std.proofs.Common.{append_assoc, arith}
use Rattle.std.specs.Prelude.{Contains}
use Rattle.std.specs.Str.{is_utf8}
use Rattle.std.proofs.lemmas.List.{append-nil}
use Rattle.std.proofs.lemmas.List.Elements.{All-append, All-nil, All-push, Contains-append_right, Contains-get_or}
use Rattle.desk_io.specs.declared.shelf.Found.{Found}
use Rattle.gtfs_tables.specs.declared.fault.FeedFault.{FeedFault}
use Rattle.gtfs_tables.specs.declared.fault.FeedFault.TheVariants as fault
use Rattle.gtfs_tables.specs.declared.paper.Column.{Column}
use Rattle.gtfs_tables.specs.declared.paper.Paper.TheVariants as paper
use Rattle.gtfs_tables.specs.Fold.{AreChanged, IsTableChanged}
use Rattle.gtfs_tables.specs.Reading.{◌>>=◌, field_at, judged, nothing, provided, table_in, text_in}
use Rattle.gtfs_tables.specs.Table.{TableView}
use Rattle.trip_model.specs.Place.{Place}
use Rattle.trip_model.specs.Timetable.{TimetableView}
use Rattle.deadhead_matrix.specs.declared.read.Columns.{Columns}
use Rattle.deadhead_matrix.specs.Deadheads.{ReadingView, columns_in}
use Rattle.deadhead_matrix.specs.Named.{GainsNamed, HasGained, IsNamed, IsNamedBy, IsPlaceOf}
use Rattle.deadhead_matrix.specs.Posts.{Class, classes_of, place_for}

module _ (Named : Place → Type 0) where
  -- no place was gained
  pub gained-none : (t : TimetableView) → HasGained Named t t
  gained-none t = record { more = []; is = ap (λ places. record t { places = places }) (sym (append-nil t.places)); named = All-nil Named }

  -- one place was gained
  pub gained-one : (t after : TimetableView) (place : Place) → after ≡ record t { places = t.places ++ place ∷ [] } → Named place
      → HasGained Named t after
  gained-one t after place is named = record { more = place ∷ []; is = is; named = All-push Named [] place (All-nil Named) named }

  -- places were gained twice
  pub gained-both : (t between after : TimetableView) → HasGained Named t between → HasGained Named between after → HasGained Named t after
  gained-both t between after first second = record {
    more = first.more ++ second.more;
    is = second.is ∙ ap (λ (b : TimetableView). record b { places = b.places ++ second.more }) first.is
        ∙ ap (λ places. record t { places = places }) (append_assoc t.places first.more second.more);
    named = All-append Named first.more second.more first.named second.named;
  }

-- the places gained are named otherwise too
pub gained-as : (Named Other : Place → Type 0) (t after : TimetableView) → ((place : Place) → Named place → Other place)
    → HasGained Named t after → HasGained Other t after
gained-as Named Other t after also gained = record { more = gained.more; is = gained.is; named = λ k d lt. also _ (gained.named k d lt) }

-- the places gained are still posts, or still terminals
gained-classed : (Named : Place → Type 0) (t after : TimetableView) → HasGained Named t after → after.classed ≡ t.classed
gained-classed Named t after gained = ap (λ (t : TimetableView). t.classed) gained.is

-- a terminal has gained its place for one class more
pub class-gained : (classed : Bool) (classes : List Class) (terminal : List ℕ) (class : Class) (t between after : TimetableView)
    → t.classed ≡ classed → Contains classes class
    → HasGained (IsPlaceOf classed classes terminal) t between
    → HasGained (λ place. place ≡ place_for between.classed terminal class) between after
    → HasGained (IsPlaceOf classed classes terminal) t after
class-gained classed classes terminal class t between after is among first second =
    gained-both (IsPlaceOf classed classes terminal) t between after first
    (gained-as (λ place. place ≡ place_for between.classed terminal class) (IsPlaceOf classed classes terminal) between after
    (λ place same. record {
      class = class;
      among = among;
      is = same ∙ ap (λ b. place_for b terminal class) (gained-classed _ t between first ∙ is);
    }) second)

-- the text that is read of a field is the field
pub text-field : (number : ℕ) (column : Column) (bytes text : List ℕ) → text_in paper.Deadheads number column bytes ≡ Ok text → text ≡ bytes
text-field number column bytes text e = by (is_utf8 bytes) e
  where
    by : (holds : Bool) → provided holds (fault.NotUtf8 paper.Deadheads number column) (Ok bytes) ≡ Ok text → text ≡ bytes
    by true e = cc
    by false e = cc

-- a record has gained places of its first terminal, and then of its second
pub record-gained : (classes : List Class) (columns : Columns) (fields : List (List ℕ)) (from to : List ℕ) (t between after : TimetableView)
    → from ≡ field_at fields columns.from → to ≡ field_at fields columns.to → HasGained (IsPlaceOf t.classed classes from) t between
    → HasGained (IsPlaceOf between.classed classes to) between after → HasGained (IsNamedBy t.classed classes columns fields) t after
record-gained classes columns fields from to t between after from_is to_is first second =
    gained-both (IsNamedBy t.classed classes columns fields) t between after
    (gained-as _ _ t between (λ place of. inl (subst (λ terminal. IsPlaceOf t.classed classes terminal place) from_is of)) first)
    (gained-as _ _ between after (λ place of. inr
    (subst (λ terminal. IsPlaceOf t.classed classes terminal place) to_is
    (subst (λ b. IsPlaceOf b classes to place) (gained-classed _ t between first) of))) second)

-- records add no places but those that one of them names
rows-named : (Named : Place → Type 0) (classed : Bool) (classes : List Class) (columns : Columns) (before after : ReadingView)
    (rows : List (List (List ℕ)))
    → before.timetable.classed ≡ classed
    → ((fields : List (List ℕ)) (place : Place) → Contains rows fields → IsNamedBy classed classes columns fields place → Named place)
    → AreChanged (GainsNamed classes columns) before rows after → HasGained Named before.timetable after.timetable
rows-named Named classed classes columns before after [] is named same =
    subst (λ (a : ReadingView). HasGained Named before.timetable a.timetable) (sym same) (gained-none Named before.timetable)
rows-named Named classed classes columns before after (fields ∷ rows) is named (inl same) =
    subst (λ (a : ReadingView). HasGained Named before.timetable a.timetable) (sym same) (gained-none Named before.timetable)
rows-named Named classed classes columns before after (fields ∷ rows) is named (inr (between, gains, changed)) =
    let here = gained-as (IsNamedBy before.timetable.classed classes columns fields) Named before.timetable between.timetable
    (λ place by. named fields place (Contains-get_or (fields ∷ rows) 0 fields (omega arith))
    (subst (λ b. IsNamedBy b classes columns fields place) is by)) gains in
    let rest = rows-named Named classed classes columns between after rows (gained-classed _ before.timetable between.timetable gains ∙ is)
    (λ other place among by. named other place (Contains-append_right (fields ∷ []) rows other among) by) changed in
    gained-both Named before.timetable between.timetable after.timetable here rest

-- a table adds no places but those that the file names
table-named : (found : Found) (t : TimetableView) (before after : ReadingView) (table : TableView)
    → table_in paper.Deadheads found ≡ Ok table → before.timetable ≡ t
    → IsTableChanged columns_in (GainsNamed (classes_of t)) before table after → HasGained (IsNamed found t) t after.timetable
table-named found t before after table read is (inl same) =
    subst (λ (a : ReadingView). HasGained (IsNamed found t) t a.timetable) (sym same)
    (subst (λ (a : TimetableView). HasGained (IsNamed found t) t a) (sym is) (gained-none (IsNamed found t) t))
table-named found t before after table read is (inr (columns, header, changed)) =
    subst (λ (b : TimetableView). HasGained (IsNamed found t) b after.timetable) is
    (rows-named (IsNamed found t) t.classed (classes_of t) columns before after table.rows (ap (λ (t : TimetableView). t.classed) is)
    (λ fields place among by. record {
      table = table;
      read = read;
      columns = columns;
      header = header;
      fields = fields;
      row = among;
      named = by;
    }) changed)

-- the file adds no places but those that it names, once it was judged as a table
pub file-named : (found : Found) (t : TimetableView) (before after : ReadingView) → before.timetable ≡ t
    → judged paper.Deadheads found ≡ nothing
    → ((table : TableView) → table_in paper.Deadheads found ≡ Ok table
    → IsTableChanged columns_in (GainsNamed (classes_of t)) before table after)
    → HasGained (IsNamed found t) t after.timetable
file-named found t before after is judges each = by (table_in paper.Deadheads found) refl judges
  where
    by : (table : Result TableView FeedFault) → table_in paper.Deadheads found ≡ table → (table >>= λ _. nothing) ≡ nothing
        → HasGained (IsNamed found t) t after.timetable
    by (Ok table) read judges = table-named found t before after table read is (each table read)
    by (Err refused) read judges = cc judges
