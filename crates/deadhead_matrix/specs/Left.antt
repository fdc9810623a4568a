-- The places that a timetable has gained of `deadheads.csv`, also where the file is refused.
use Rattle.std.specs.Prelude.{◌≡◌, ℕ, ◌+◌, List, [], ◌∷◌, Result, Ok, Err}
use Rattle.desk_io.specs.declared.shelf.Found.{Found}
use Rattle.desk_io.specs.declared.shelf.Found.TheVariants.{Missing}
use Rattle.gtfs_tables.specs.declared.fault.FeedFault.{FeedFault}
use Rattle.gtfs_tables.specs.declared.paper.Paper.TheVariants as paper
use Rattle.gtfs_tables.specs.Reading.{table_in}
use Rattle.gtfs_tables.specs.Table.{TableView}
use Rattle.trip_model.specs.Timetable.{TimetableView}
use Rattle.deadhead_matrix.specs.declared.read.Columns.{Columns}
use Rattle.deadhead_matrix.specs.Deadheads.{ReadingView, columns_in, deadhead_in, begun, with_deadhead, with_place, with_places}
use Rattle.deadhead_matrix.specs.Posts.{Class, classes_of, place_for}

-- what is left after a part was read, and what is left where it was refused
abbrev pub left_after : {A B : Type 0} → Result A FeedFault → (A → B) → B → B
left_after (Ok read) next here = next read
left_after (Err refused) next here = here

-- the timetable that a terminal leaves, with its place for each class in turn as far as there is room
abbrev pub left_places : List ℕ → TimetableView → List Class → TimetableView
left_places terminal timetable [] = timetable
left_places terminal timetable (class ∷ classes) =
    left_after (with_place timetable (place_for timetable.classed terminal class)) (λ here. left_places terminal here.0 classes) timetable

-- the timetable that a record leaves, also where it is refused. Where the fields are of their form, it has the places of the
-- first terminal. It also has those of the second where there was room for all of the first
unfoldable pub left_by : List Class → Columns → ℕ → TimetableView → List (List ℕ) → TimetableView
left_by classes columns number timetable fields =
    left_after (deadhead_in columns number fields) (λ deadhead.
    left_after (with_places deadhead.0 timetable [] classes) (λ from. left_places deadhead.1 from.0 classes)
    (left_places deadhead.0 timetable classes)) timetable

-- the timetable that records leave, up to the first that is refused
abbrev pub left_by_each : List Class → Columns → ℕ → ReadingView → List (List (List ℕ)) → TimetableView
left_by_each classes columns number before [] = before.timetable
left_by_each classes columns number before (fields ∷ rows) =
    left_after (with_deadhead classes columns number before fields) (λ more. left_by_each classes columns (number + 1) more rows)
    (left_by classes columns number before.timetable fields)

-- the timetable that the records of a table leave after others, up to its first refusal
abbrev pub left_by_table : List Class → ReadingView → TableView → TimetableView
left_by_table classes before table =
    left_after (columns_in table.header) (λ columns. left_by_each classes columns 1 before table.rows) before.timetable

-- the timetable that a paper leaves
abbrev pub left_by_paper : List Class → Found → ReadingView → TimetableView
left_by_paper classes found before = left_after (table_in paper.Deadheads found) (left_by_table classes before) before.timetable

-- the timetable that the file leaves, up to its first refusal
abbrev pub timetable_left : Found → TimetableView → TimetableView
timetable_left Missing timetable = timetable
timetable_left found timetable = left_by_paper (classes_of timetable) found (begun timetable)

-- what a refused record leaves of what those before it gave
abbrev pub Leaves : List Class → Columns → ℕ → ReadingView → List (List ℕ) → ReadingView → Type 0
Leaves classes columns number before fields after = after.timetable ≡ left_by classes columns number before.timetable fields
