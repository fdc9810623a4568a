-- The shifts that lower the sum of the maxima of the deficits, and the first of them.
use Rattle.std.specs.Prelude.{◌≡◌, ◌≢◌, ◌⊎◌, ℕ, ◌<◌, true, length, ℤ, pos, ◌<ℤ◌, unsigned_abs}
use Rattle.trip_model.specs.Fleet.{deficit_sum, with_shift}
use Rattle.trip_model.specs.Timetable.{TimetableView, slot_at}
use Rattle.trip_model.specs.Trip.{MayShift}

-- rule: which shifts lower the fleet
-- the trip in a slot runs and may be moved by so many minutes, at least one. With it so moved the sum of the maxima is smaller
pub record IsLowering (timetable : TimetableView) (slot : ℕ) (by : ℤ) : Type 0 where
  pub in_timetable : slot < length timetable.slots
  pub live : (slot_at timetable slot).trip.live ≡ true
  pub moved : by ≢ pos 0
  pub within : MayShift (slot_at timetable slot).trip by
  pub lower : deficit_sum (with_shift timetable slot by) <ℤ deficit_sum timetable

-- of two numbers of minutes the one of the lesser size comes first, and of one size the negative one
abbrev pub IsBefore : ℤ → ℤ → Type 0
IsBefore by other = (unsigned_abs by < unsigned_abs other) ⊎ ((unsigned_abs by ≡ unsigned_abs other) × (by <ℤ other))

-- of two shifts the one of the lesser slot comes first, and of one slot the one whose number of minutes does
abbrev pub Precedes : ℕ → ℤ → ℕ → ℤ → Type 0
Precedes slot by other_slot other = (slot < other_slot) ⊎ ((slot ≡ other_slot) × IsBefore by other)

-- rule: the order of shifts
-- the shift lowers the sum, and no shift before it does
pub record IsFirst (timetable : TimetableView) (slot : ℕ) (by : ℤ) : Type 0 where
  pub lowering : IsLowering timetable slot by
  pub least : (s : ℕ) (b : ℤ) → IsLowering timetable s b → Precedes s b slot by → ⊥
