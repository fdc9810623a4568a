-- Every entry of a file takes time.
use Rattle.std.proofs.Common.{◌≡◌, ℕ, ◌+◌, ◌<◌, ◌==◌, Bool, true, false, not, List, [], ◌∷◌, ◌++◌, Result, Ok, Err, refl, sym, ap, subst}
use Rattle.std.proofs.Common.{◌∙◌, ⊎_elim, arith}
use Rattle.std.proofs.lemmas.Bool.{cases_eq, eq-eqb, false≢true}
use Rattle.std.proofs.lemmas.List.Elements.{All-nil, All-push}
use Rattle.std.specs.Str.{bytes_eq}
use Rattle.desk_io.specs.declared.shelf.Found.{Found}
use Rattle.desk_io.specs.declared.shelf.Found.TheVariants.{Missing}
use Rattle.gtfs_tables.specs.declared.fault.FeedFault.{FeedFault}
use Rattle.gtfs_tables.specs.declared.fault.FeedFault.TheVariants as fault
use Rattle.gtfs_tables.specs.declared.paper.Column.TheVariants as column
use Rattle.gtfs_tables.specs.declared.paper.Paper.TheVariants as paper
use Rattle.gtfs_tables.specs.Fold.{table_read, paper_read}
use Rattle.gtfs_tables.specs.Reading.{◌>>=◌, provided, each_record, table_in, number_in, text_in, filled_in, field_at}
use Rattle.gtfs_tables.specs.Table.{TableView}
use Rattle.trip_model.specs.Timetable.{TimetableView}
use Rattle.deadhead_matrix.specs.declared.entry.Entry.{Entry}
use Rattle.assignment_model.specs.declared.limits.TheConstants.{MOST_DEADHEAD}
use Rattle.deadhead_matrix.specs.Deadheads.{ReadingView, begun, columns_in, minutes_in, deadhead_in, deadheads_of, has_entry, with_places}
use Rattle.deadhead_matrix.specs.Deadheads.{with_entry, with_entries, with_unplaced, with_deadhead}
use Rattle.deadhead_matrix.specs.Posts.{classes_of}
use Rattle.joined_deficits.specs.Joined.{TakeTime}

-- what was read in two parts was read in each
read-parts : {A B : Type 0} (read : Result A FeedFault) (next : A → Result B FeedFault) (y : B) → (read >>= next) ≡ Ok y
    → (x : A) × (read ≡ Ok x) × (next x ≡ Ok y)
read-parts (Ok x) next y e = (x, refl, e)
read-parts (Err refused) next y e = cc

same_Ok : {A : Type 0} (x y : A) → ◌≡◌ {A = Result A FeedFault} (Ok x) (Ok y) → x ≡ y
same_Ok x y e = cc

-- what was provided for was read, and the condition holds
provided-parts : {A : Type 0} (holds : Bool) (refused : FeedFault) (x y : A) → provided holds refused (Ok x) ≡ Ok y
    → (holds ≡ true) × (x ≡ y)
provided-parts true refused x y e = (refl, cc)
provided-parts false refused x y e = cc

-- minutes that were read are not 0
minutes-last : (number : ℕ) (text : List ℕ) (minutes : ℕ) → minutes_in number text ≡ Ok minutes → 0 < minutes
minutes-last number text minutes e =
    let parts = read-parts (number_in paper.Deadheads number column.Minutes 4 MOST_DEADHEAD text)
    (λ minutes. provided (not (minutes == 0)) (fault.BadNumber paper.Deadheads number column.Minutes) (Ok minutes)) minutes e in
    let tested = provided-parts (not (parts.0 == 0)) (fault.BadNumber paper.Deadheads number column.Minutes) parts.0 minutes parts.2 in
    ⊎_elim
    (λ (none : parts.0 ≡ 0). absurd (false≢true (sym (ap not (eq-eqb parts.0 0 none)) ∙ tested.0)))
    (λ (some : parts.0 ≡ 0 → ⊥). let same = tested.1 in omega arith)
    (cases_eq parts.0 0)

entries-last : (number minutes : ℕ) (before after : List Entry) (froms tos : List ℕ) → 0 < minutes → TakeTime before
    → with_entries number minutes before froms tos ≡ Ok after → TakeTime after
entries-last number minutes before after (a ∷ froms) (b ∷ tos) lasts are e =
    let entry : Entry = record { from = a; to = b; minutes = minutes } in
    let parts = read-parts (with_entry number before entry) (λ more. with_entries number minutes more froms tos) after e in
    let pushed = provided-parts (not (has_entry before a b)) (fault.DuplicateRow paper.Deadheads number) (before ++ entry ∷ []) parts.0
    parts.1 in
    entries-last number minutes parts.0 after froms tos lasts
    (subst TakeTime pushed.1 (All-push (λ (e : Entry). 0 < e.minutes) before entry are lasts)) parts.2
entries-last number minutes before after [] tos lasts are e = let same : before ≡ after = cc in subst TakeTime same are
entries-last number minutes before after (a ∷ froms) [] lasts are e = let same : before ≡ after = cc in subst TakeTime same are

-- what records give, of which each adds entries that take time alone
each-lasts : (step : ℕ → ReadingView → List (List ℕ) → Result ReadingView FeedFault)
    → ((number : ℕ) (before after : ReadingView) (fields : List (List ℕ)) → TakeTime before.entries → step number before fields ≡ Ok after
    → TakeTime after.entries)
    → (number : ℕ) (before after : ReadingView) (rows : List (List (List ℕ))) → TakeTime before.entries
    → each_record step number before rows ≡ Ok after → TakeTime after.entries
each-lasts step lasts number before after [] are e = let same : before ≡ after = cc in
    subst (λ (read : ReadingView). TakeTime read.entries) same are
each-lasts step lasts number before after (fields ∷ rows) are e =
    let parts = read-parts (step number before fields) (λ more. each_record step (number + 1) more rows) after e in
    each-lasts step lasts (number + 1) parts.0 after rows (lasts number before parts.0 fields are parts.1) parts.2

table-lasts : (t : TimetableView) (after : ReadingView) (table : TableView)
    → table_read columns_in (with_deadhead (classes_of t)) (begun t) table ≡ Ok after → TakeTime after.entries
unfolding with_deadhead deadhead_in
table-lasts t after table e =
    let classes = classes_of t in
    let read = read-parts (columns_in table.header) (λ columns. each_record (with_deadhead classes columns) 1 (begun t) table.rows) after
    e in
    let columns = read.0 in
    each-lasts (with_deadhead classes columns) (λ number before more fields are given.
    let d = read-parts (deadhead_in columns number fields) _ more given in
    let f = read-parts (with_places d.0.0 before.timetable [] classes) _ more d.2 in
    let t = read-parts (with_places d.0.1 f.0.0 [] classes) _ more f.2 in
    let es = read-parts (with_entries number d.0.2 before.entries f.0.1 t.0.1) _ more t.2 in
    let us = read-parts (with_unplaced number classes before.unplaced (d.0.0, d.0.1)) _ more es.2 in
    let all : ReadingView = record { timetable = t.0.0; entries = es.0; unplaced = us.0 } in
    let same : all ≡ more = same_Ok all more us.2 in
    let from = read-parts (text_in paper.Deadheads number column.From (field_at fields columns.from)) _ d.0 d.1 in
    let to = read-parts (text_in paper.Deadheads number column.To (field_at fields columns.to)) _ d.0 from.2 in
    let text = read-parts (text_in paper.Deadheads number column.Minutes (field_at fields columns.minutes)) _ d.0 to.2 in
    let from_filled = read-parts (filled_in paper.Deadheads number column.From from.0) _ d.0 text.2 in
    let to_filled = read-parts (filled_in paper.Deadheads number column.To to.0) _ d.0 from_filled.2 in
    let text_filled = read-parts (filled_in paper.Deadheads number column.Minutes text.0) _ d.0 to_filled.2 in
    let minutes = read-parts (minutes_in number text.0) _ d.0 text_filled.2 in
    let differ = provided-parts (not (bytes_eq from.0 to.0)) (fault.SameTerminal number) (from.0, to.0, minutes.0) d.0 minutes.2 in
    let lasts = subst (λ (r : List ℕ × List ℕ × ℕ). 0 < r.2) differ.1 (minutes-last number text.0 minutes.0 minutes.1) in
    subst (λ (read : ReadingView). TakeTime read.entries) same (entries-last number d.0.2 before.entries es.0 f.0.1 t.0.1 lasts are es.1))
    1 (begun t) after table.rows (All-nil (λ (e : Entry). 0 < e.minutes)) read.2

found-lasts : (found : Found) (t : TimetableView) (after : ReadingView)
    → paper_read paper.Deadheads columns_in (with_deadhead (classes_of t)) (begun t) found ≡ Ok after → TakeTime after.entries
found-lasts found t after e =
    let parts = read-parts (table_in paper.Deadheads found) (table_read columns_in (with_deadhead (classes_of t)) (begun t)) after e in
    table-lasts t after parts.0 parts.2

-- every entry of a file takes time
pub entries-take_time : (found : Found) (t after : TimetableView) (entries : List Entry) → deadheads_of found t ≡ Ok (after, entries)
    → TakeTime entries
entries-take_time Missing t after entries e =
    let same : (t, []) ≡ (after, entries) = cc in
    subst (λ (r : TimetableView × List Entry). TakeTime r.1) same (All-nil (λ (e : Entry). 0 < e.minutes))
entries-take_time found t after entries e =
    let parts = read-parts (paper_read paper.Deadheads columns_in (with_deadhead (classes_of t)) (begun t) found)
    (λ read. Ok (read.timetable, read.entries)) (after, entries) e in
    let same : (parts.0.timetable, parts.0.entries) ≡ (after, entries) = cc (parts.2) in
    subst (λ (r : TimetableView × List Entry). TakeTime r.1) same (found-lasts found t parts.0 parts.1)
