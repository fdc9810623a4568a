-- What `shifts` asks, and what it puts of a feed.
use Rattle.std.specs.Prelude.{◌≡◌, ℕ, ◌+◌, ◌*◌, ℤ, List, [], ◌∷◌, ◌++◌, length, codes, unsigned_abs}
use Rattle.gtfs_tables.specs.Writing.{record_text}
use Rattle.trip_model.specs.Timetable.{TimetableView, slot_at}
use Rattle.trip_model.specs.Fleet.{deficit_sum, with_shift}
use Rattle.edit_script.specs.declared.edit.Edit.TheVariants as edit
use Rattle.edit_script.specs.Lines.{fields_of}
use Rattle.shift_moves.specs.Lowering.{IsFirst, IsLowering}
use Rattle.shift_moves.specs.declared.search.Shift.{Shift}
use Rattle.desk_run.specs.Commands.{Asked}
use Rattle.desk_feed.specs.Judging.{of_feed}
use Rattle.desk_feed.specs.Showing.{TextAsked, showing}
use Rattle.lowering_commands.specs.Fleet.{total_line}

-- a timetable after a shift
abbrev pub after_shift : TimetableView → Shift → TimetableView
after_shift timetable shift = with_shift timetable shift.slot shift.by

-- shifts. Each is the first one after those before it, and after all of them there is none
abbrev pub AreShifts : TimetableView → List Shift → Type 0
AreShifts timetable [] = (slot : ℕ) (by : ℤ) → ¬ IsLowering timetable slot by
AreShifts timetable (s ∷ ss) = IsFirst timetable s.slot s.by × AreShifts (after_shift timetable s) ss

-- the canonical line of a shift as an edit
abbrev pub shift_line : TimetableView → Shift → List ℕ
shift_line timetable shift = record_text (fields_of (edit.Shift (slot_at timetable shift.slot).name shift.by))

-- their lines. Then how many there are, with those put before, and the sum of the maxima after them all
abbrev pub shifts_text : TimetableView → ℕ → List Shift → List ℕ
shifts_text timetable before [] = total_line (codes "shifts ") before (unsigned_abs (deficit_sum timetable))
shifts_text timetable before (s ∷ ss) = shift_line timetable s ++ shifts_text (after_shift timetable s) (before + 1) ss

-- the text is that of such shifts
pub record IsShiftsText (timetable : TimetableView) (before : ℕ) (text : List ℕ) : Type 0 where
  pub shifts : List Shift
  pub are : AreShifts timetable shifts
  pub printed : text ≡ shifts_text timetable before shifts

-- so many steps count a search over so many trips
abbrev pub steps_of_search : ℕ → ℕ
steps_of_search n = 13440 * n

-- and so many the shifts that are made one after the other: the deficits, no more shifts than trips, since each of them takes a
-- vehicle, and then one search that finds none
abbrev pub steps_of_shifts : ℕ → ℕ
steps_of_shifts n = 28 * n + (steps_of_search n + 56) * n + steps_of_search n

-- which texts `shifts` may put, and the most steps
abbrev pub shifts_shown : TextAsked
shifts_shown = record { Shows = λ stands. IsShiftsText stands.timetable 0; most = λ timetable. steps_of_shifts (length timetable.slots) }

-- what `shifts` asks of a run
unfoldable pub shifts_asked : Asked
shifts_asked = of_feed (showing shifts_shown)
