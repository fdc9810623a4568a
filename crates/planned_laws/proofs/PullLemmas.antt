-- The timetable of an accepted feed stays valid with the places of its deadheads. Each place has a pull, of no more than a day.
use Rattle.std.proofs.Common.{◌≡◌, ℕ, ◌≤◌, Bool, true, false, cond, List, [], ◌∷◌, ◌++◌, length, Option, Some, None, refl, arith}
use Rattle.std.specs.Prelude.{All, IfOk, fold, nat_lt}
use Rattle.std.proofs.lemmas.Bool.{ltb-true}
use Rattle.std.proofs.lemmas.List.{length-map}
use Rattle.std.proofs.lemmas.List.Elements.{All-head, All-map, All-nil, All-push, All-tail}
use Rattle.desk_io.specs.declared.shelf.Found.{Found}
use Rattle.assignment_model.specs.declared.limits.TheConstants.{MOST_DEADHEAD}
use Rattle.deadhead_matrix.specs.Deadheads.{ReadingView, begun, columns_in, deadhead_in, deadheads_of, or_new_place, with_deadhead}
use Rattle.deadhead_matrix.specs.Deadheads.{with_entries, with_place, with_places, with_unplaced}
use Rattle.deadhead_matrix.specs.Depot.{depot_row_in, pull_of, pulls_by, pulls_of, rows_of, with_row}
use Rattle.deadhead_matrix.specs.Depot as depot
use Rattle.deadhead_matrix.specs.Posts.{Class, classes_met, classes_of, place_for, with_class}
use Rattle.deadhead_matrix.specs.Pulls.{IsPull}
use Rattle.deadhead_matrix.specs.declared.pulls.Pull.{Pull}
use Rattle.deadhead_matrix.specs.declared.pulls.TheConstants.{NO_PULL}
use Rattle.deadhead_matrix.proofs.ClassLemmas.{classes-named}
use Rattle.gtfs_tables.specs.Entries.{Name, value_of, with_record}
use Rattle.gtfs_tables.specs.Fold.{optional_read}
use Rattle.gtfs_tables.specs.Reading.{field_at, filled_in, text_in}
use Rattle.gtfs_tables.specs.declared.fault.FeedFault.TheVariants as fault
use Rattle.gtfs_tables.specs.declared.paper.Column.{Column}
use Rattle.gtfs_tables.specs.declared.paper.Column.TheVariants as column
use Rattle.gtfs_tables.specs.declared.paper.Paper.TheVariants as paper
use Rattle.trip_model.specs.Place.{Place, IsPlace}
use Rattle.trip_model.specs.Timetable.{TimetableView, IsTimetable, number_of, place_names}
use Rattle.trip_model.specs.declared.limits.TheConstants.{MOST_PLACES}
use Rattle.trip_model.proofs.TimetableLemmas.{IsTimetable-push_place, number_of-None}
use Rattle.planned_laws.proofs.ReadLemmas.{optional-kept, read-next, read-provided, read-then}
use Rattle.planned_laws.proofs.SettingsLemmas.{AreValues, IsPlain, number-few, record-kept, value-is, value-or}

-- the place of a terminal for a class is valid
new-valid : (classed : Bool) (terminal : List ℕ) (class : Class) → IsPlain class → IsPlace classed (place_for classed terminal class)
new-valid true terminal class plain = record { is = (refl, plain); layover = omega arith }
new-valid false terminal class plain = record { is = refl; layover = omega arith }

-- the classes of the places of a timetable have no `/`
met-plain : (places : List Place) (before : List Class) → All (IsPlace true) places → All IsPlain before
    → All IsPlain (fold (λ classes place. with_class classes place.class) before places)
met-plain [] before each plain = plain
met-plain (p ∷ places) before each plain =
    met-plain places (with_class before p.class) (All-tail (IsPlace true) p places each)
    (classes-named before p.class plain (All-head (IsPlace true) p places each).is.1)

classes-plain : (t : TimetableView) → IsTimetable t → All IsPlain (classes_of t)
classes-plain t valid = by t.classed valid.each
  where
    by : (classed : Bool) → All (IsPlace classed) t.places → All IsPlain (cond classed (classes_met t.places) ([] ∷ []))
    by true each = met-plain t.places [] each (All-nil IsPlain)
    by false each = All-push IsPlain [] [] (All-nil IsPlain) refl

-- a timetable that was read with a place, or with places
abbrev IsValidWith : {A : Type 0} → TimetableView × A → Type 0
IsValidWith r = IsTimetable r.0

place-added : (t : TimetableView) (terminal : List ℕ) (class : Class) → IsTimetable t → IsPlain class
    → IfOk (with_place t (place_for t.classed terminal class)) IsValidWith
place-added t terminal class valid plain = by (number_of (place_names t) place.name) refl
  where
    place : Place
    place = place_for t.classed terminal class

    by : (number : Option ℕ) → number_of (place_names t) place.name ≡ number → IfOk (or_new_place t place number) IsValidWith
    by (Some n) found = valid
    by None new =
        read-provided IsValidWith (nat_lt (length t.places) MOST_PLACES) (fault.TooManyPlaces paper.Deadheads) _
        (λ room. IsTimetable-push_place t place valid (number_of-None (place_names t) place.name new)
        (ltb-true (length t.places) MOST_PLACES room) (new-valid t.classed terminal class plain))

places-added : (terminal : List ℕ) (t : TimetableView) (numbers : List ℕ) (classes : List Class) → All IsPlain classes → IsTimetable t
    → IfOk (with_places terminal t numbers classes) IsValidWith
places-added terminal t numbers [] plain valid = valid
places-added terminal t numbers (class ∷ classes) plain valid =
    read-next IsValidWith IsValidWith (with_place t (place_for t.classed terminal class))
    (λ here. with_places terminal here.0 (numbers ++ here.1 ∷ []) classes)
    (place-added t terminal class valid (All-head IsPlain class classes plain))
    (λ here now. places-added terminal here.0 (numbers ++ here.1 ∷ []) classes (All-tail IsPlain class classes plain) now)

abbrev IsValidReading : ReadingView → Type 0
IsValidReading r = IsTimetable r.timetable

deadhead-kept : (classes : List Class) → All IsPlain classes → (columns : _) (number : ℕ) (before : ReadingView)
    (fields : List (List ℕ)) → IsValidReading before → IfOk (with_deadhead classes columns number before fields) IsValidReading
unfolding with_deadhead
deadhead-kept classes plain columns number before fields valid =
    read-then IsValidReading (deadhead_in columns number fields) _
    (λ deadhead. read-next IsValidWith IsValidReading (with_places deadhead.0 before.timetable [] classes) _
    (places-added deadhead.0 before.timetable [] classes plain valid)
    (λ from now. read-next IsValidWith IsValidReading (with_places deadhead.1 from.0 [] classes) _
    (places-added deadhead.1 from.0 [] classes plain now)
    (λ to then. read-then IsValidReading (with_entries number deadhead.2 before.entries from.1 to.1) _
    (λ entries. read-then IsValidReading (with_unplaced number classes before.unplaced (deadhead.0, deadhead.1)) _ (λ unplaced. then)))))

-- the timetable with the places of the deadheads is valid
pub deadheads-read : (found : Found) (t : TimetableView) → IsTimetable t → IfOk (deadheads_of found t) (λ r. IsTimetable r.0)
deadheads-read found t valid =
    read-next IsValidReading IsValidWith (optional_read paper.Deadheads columns_in (with_deadhead (classes_of t)) (begun t) found) _
    (optional-kept IsValidReading paper.Deadheads columns_in (with_deadhead (classes_of t)) (begun t)
    (deadhead-kept (classes_of t) (classes-plain t valid)) valid found) (λ read now. now)

-- a record of pulls
row-few : (columns : _) (number : ℕ) (fields : List (List ℕ))
    → IfOk (depot_row_in columns number fields) (λ entry. IsPull entry.1)
unfolding depot_row_in
row-few columns number fields =
    let P : Name × Pull → Type 0 = λ entry. IsPull entry.1 in
    let few : (column : Column) (text : List ℕ) → IfOk (depot.minutes_in number column text) (λ n. n ≤ MOST_DEADHEAD) =
    λ column text. number-few paper.Depot number column 4 MOST_DEADHEAD text in
    read-then P (text_in paper.Depot number column.Terminal (field_at fields columns.terminal)) _
    (λ terminal. read-then P (text_in paper.Depot number column.PullOut (field_at fields columns.pull_out)) _
    (λ out_text. read-then P (text_in paper.Depot number column.PullIn (field_at fields columns.pull_in)) _
    (λ in_text. read-then P (filled_in paper.Depot number column.Terminal terminal) _
    (λ _. read-then P (filled_in paper.Depot number column.PullOut out_text) _
    (λ _. read-then P (filled_in paper.Depot number column.PullIn in_text) _
    (λ _. read-next (λ n. n ≤ MOST_DEADHEAD) P (depot.minutes_in number column.PullOut out_text) _ (few column.PullOut out_text)
    (λ pull_out out. read-next (λ n. n ≤ MOST_DEADHEAD) P (depot.minutes_in number column.PullIn in_text) _ (few column.PullIn in_text)
    (λ pull_in home. record { pull_out = out; pull_in = home }))))))))

rows-read : (found : Found) → IfOk (rows_of found) (AreValues IsPull)
rows-read =
    optional-kept (AreValues IsPull) paper.Depot depot.columns_in with_row []
    (λ columns number before fields are. read-next (λ entry. IsPull entry.1) (AreValues IsPull) (depot_row_in columns number fields)
    (with_record paper.Depot number before) (row-few columns number fields)
    (λ entry few. record-kept IsPull paper.Depot number before entry are few)) (All-nil (λ e. IsPull e.1))

-- no pull is longer than one may be, and there are as many as places
pub record ArePulls (places : List Place) (pulls : List Pull) : Type 0 where
  pub each : All IsPull pulls
  pub count : length pulls ≡ length places

pub pulls-read : (found : Found) (t : TimetableView) → IfOk (pulls_of found t) (ArePulls t.places)
pulls-read found t =
    read-next (AreValues IsPull) (ArePulls t.places) (rows_of found) _ (rows-read found)
    (λ rows are. record {
      each =
          All-map IsPull (λ (place : Place). pull_of rows place.terminal) t.places
          (λ i d lt. value-or IsPull (value_of _ rows) NO_PULL (value-is IsPull rows _ are) none);
      count = length-map t.places (λ (place : Place). pull_of rows place.terminal);
    })
  where
    none : IsPull NO_PULL
    none = record { pull_out = omega arith; pull_in = omega arith }
