-- The entries that `deadheads.csv` allows, and the places that it names.
use Rattle.std.specs.Prelude.{ℕ, not, ◌==◌, ◌&&◌, nat_lt, Bool, List, [], ◌∷◌, ◌++◌, length, map, Option, None, Some, Result, Ok, String}
use Rattle.std.specs.Prelude.{string_bytes}
use Rattle.std.specs.List.{list_any}
use Rattle.std.specs.Str.{bytes_eq}
use Rattle.desk_io.specs.declared.shelf.Found.{Found}
use Rattle.gtfs_tables.specs.declared.fault.FeedFault.{FeedFault}
use Rattle.gtfs_tables.specs.declared.fault.FeedFault.TheVariants as fault
use Rattle.gtfs_tables.specs.declared.paper.Column.TheVariants as column
use Rattle.gtfs_tables.specs.declared.paper.Paper.TheVariants as paper
use Rattle.gtfs_tables.specs.Fold.{optional_read}
use Rattle.gtfs_tables.specs.Reading.{◌>>=◌, provided, column_in, field_at, text_in, filled_in, number_in}
use Rattle.trip_model.specs.declared.limits.TheConstants.{MOST_PLACES}
use Rattle.trip_model.specs.Place.{Place}
use Rattle.trip_model.specs.Timetable.{TimetableView, place_names, number_of}
use Rattle.deadhead_matrix.specs.declared.entry.Entry.{Entry}
use Rattle.assignment_model.specs.declared.limits.TheConstants.{MOST_DEADHEAD}
use Rattle.deadhead_matrix.specs.declared.read.Columns.{Columns}
use Rattle.deadhead_matrix.specs.Posts.{Class, classes_of, place_for}

-- the value of a field that has to be a number of at most four digits from 1 to 1,440
abbrev pub minutes_in : ℕ → List ℕ → Result ℕ FeedFault
minutes_in number text = number_in paper.Deadheads number column.Minutes 4 MOST_DEADHEAD text
    >>= λ minutes. provided (not (minutes == 0)) (fault.BadNumber paper.Deadheads number column.Minutes) (Ok minutes)

-- the names of the two terminals of one record, which differ, and its minutes
unfoldable pub deadhead_in : Columns → ℕ → List (List ℕ) → Result (List ℕ × List ℕ × ℕ) FeedFault
deadhead_in columns number fields = do
  from ← text_in paper.Deadheads number column.From (field_at fields columns.from)
  to ← text_in paper.Deadheads number column.To (field_at fields columns.to)
  minutes_text ← text_in paper.Deadheads number column.Minutes (field_at fields columns.minutes)
  _ ← filled_in paper.Deadheads number column.From from
  _ ← filled_in paper.Deadheads number column.To to
  _ ← filled_in paper.Deadheads number column.Minutes minutes_text
  minutes ← minutes_in number minutes_text
  provided (not (bytes_eq from to)) (fault.SameTerminal number) (Ok (from, to, minutes))

-- rule: too many places
-- the place that was found, or a new one, where there are fewer than 512
abbrev pub or_new_place : TimetableView → Place → Option ℕ → Result (TimetableView × ℕ) FeedFault
or_new_place timetable place (Some number) = Ok (timetable, number)
or_new_place timetable place None = provided (nat_lt (length timetable.places) MOST_PLACES) (fault.TooManyPlaces paper.Deadheads)
    (Ok (record timetable { places = timetable.places ++ place ∷ [] }, length timetable.places))

-- the timetable with a place of that name, and the place's number
abbrev pub with_place : TimetableView → Place → Result (TimetableView × ℕ) FeedFault
with_place timetable place = or_new_place timetable place (number_of (place_names timetable) place.name)

-- the timetable with the place of a terminal for each class in turn, and the numbers of these places after those so far
abbrev pub with_places : List ℕ → TimetableView → List ℕ → List Class → Result (TimetableView × List ℕ) FeedFault
with_places terminal timetable numbers [] = Ok (timetable, numbers)
with_places terminal timetable numbers (class ∷ classes) =
    with_place timetable (place_for timetable.classed terminal class) >>= λ here. with_places terminal here.0 (numbers ++ here.1 ∷ [])
    classes

-- whether an entry leads from one place to the other
abbrev pub has_entry : List Entry → ℕ → ℕ → Bool
has_entry entries from to = list_any (λ e. (e.from == from) && (e.to == to)) entries

-- word: entry = deadhead
-- the entries with that of a record, which no earlier record may have between its two places
abbrev pub with_entry : ℕ → List Entry → Entry → Result (List Entry) FeedFault
with_entry number before entry =
    provided (not (has_entry before entry.from entry.to)) (fault.DuplicateRow paper.Deadheads number) (Ok (before ++ entry ∷ []))

-- the entries with those of a record, from each of these places to the one beside it
abbrev pub with_entries : ℕ → ℕ → List Entry → List ℕ → List ℕ → Result (List Entry) FeedFault
with_entries number minutes before (a ∷ froms) (b ∷ tos) =
    with_entry number before (record { from = a; to = b; minutes = minutes }) >>= λ more. with_entries number minutes more froms tos
with_entries number minutes before _ _ = Ok before

-- two terminals by their names
abbrev pub Ends : Type 0
Ends = List ℕ × List ℕ

-- whether a record with these ends is among others
abbrev pub has_ends : List Ends → Ends → Bool
has_ends before ends = list_any (λ e. bytes_eq ends.0 e.0 && bytes_eq ends.1 e.1) before

-- the ends of records with those of one more, which no earlier one may have
abbrev pub with_ends : ℕ → List Ends → Ends → Result (List Ends) FeedFault
with_ends number before ends = provided (not (has_ends before ends)) (fault.DuplicateRow paper.Deadheads number) (Ok (before ++ ends ∷ []))

-- the same of a record whose terminals have no places, as where there are no classes; of another nothing is kept
abbrev pub with_unplaced : ℕ → List Class → List Ends → Ends → Result (List Ends) FeedFault
with_unplaced number [] before ends = with_ends number before ends
with_unplaced number (class ∷ classes) before ends = Ok before

-- what records give: the timetable with their places, their entries, and the ends of those whose terminals have no places
pub record ReadingView : Type 0 where
  pub timetable : TimetableView
  pub entries : List Entry
  pub unplaced : List Ends

-- rule: the order of refusals within a file
-- What the records give with one more, where vehicles are of these classes. Earlier records are sought by its two places
-- for each class: one that is new has none. Where there are no classes, they are sought by its ends.
unfoldable pub with_deadhead : List Class → Columns → ℕ → ReadingView → List (List ℕ) → Result ReadingView FeedFault
with_deadhead classes columns number before fields = do
  deadhead ← deadhead_in columns number fields
  from ← with_places deadhead.0 before.timetable [] classes
  to ← with_places deadhead.1 from.0 [] classes
  entries ← with_entries number deadhead.2 before.entries from.1 to.1
  unplaced ← with_unplaced number classes before.unplaced (deadhead.0, deadhead.1)
  Ok (record { timetable = to.0; entries = entries; unplaced = unplaced })

-- where the required columns are
unfoldable pub columns_in : List (List ℕ) → Result Columns FeedFault
columns_in header = do
  from ← column_in paper.Deadheads column.From header
  to ← column_in paper.Deadheads column.To header
  minutes ← column_in paper.Deadheads column.Minutes header
  Ok (record { from = from; to = to; minutes = minutes })

-- what there is before the first record
abbrev pub begun : TimetableView → ReadingView
begun timetable = record { timetable = timetable; entries = []; unplaced = [] }

-- the timetable and the entries of the file, record by record, for the classes of its places before. Without a file there are
-- no entries
abbrev pub deadheads_of : Found → TimetableView → Result (TimetableView × List Entry) FeedFault
deadheads_of found timetable = optional_read paper.Deadheads columns_in (with_deadhead (classes_of timetable)) (begun timetable) found
    >>= λ read. Ok (read.timetable, read.entries)

-- the ends that a set of names holds in order
abbrev pub ends_from : {Y : Type 0} → List (String Y × String Y) → List Ends
ends_from keys = map (λ key. (string_bytes key.0, string_bytes key.1)) keys
