-- One shift after the other.
use Rattle.std.proofs.Common.{◌≡◌, ℕ, zero, suc, ◌+◌, ◌*◌, ◌<◌, ◌≤◌, List, [], ◌∷◌, ◌++◌, length, ℤ, pos, negsuc, ◌≤ℤ◌, refl, ap, subst}
use Rattle.std.proofs.Common.{◌∙◌, arith}
use Rattle.std.specs.Prelude.{codes, unsigned_abs}
use Rattle.std.proofs.Math.ListN.{length-set}
use Rattle.std.proofs.Math.Nat.{mul-le-mul_left, mul-suc}
use Rattle.std.proofs.lemmas.Int.{ints}
use Rattle.trip_model.specs.Deficit.{deficit, live_moves}
use Rattle.trip_model.specs.Fleet.{deficit_sum}
use Rattle.trip_model.specs.Maximum.{first_maximum, sum_of_maxima}
use Rattle.trip_model.specs.Timetable.{TimetableView}
use Rattle.deficit_steps.specs.Changes.{IsDeficits, value}
use Rattle.deficit_steps.specs.Holds.{Holds}
use Rattle.shift_moves.specs.Lowering.{IsFirst, IsLowering}
use Rattle.shift_moves.specs.declared.search.Shift.{Shift}
use Rattle.lowering_commands.specs.Fleet.{total_line}
use Rattle.lowering_commands.specs.Shifts.{IsShiftsText, after_shift, shift_line}
use Rattle.lowering_commands.proofs.ChainsLemmas.{SumHeld}

-- a shift before the text of the others
pub shift-before : (old new : TimetableView) (shift : Shift) (number : ℕ) (rest : List ℕ) → IsFirst old shift.slot shift.by
    → new ≡ after_shift old shift → IsShiftsText new (number + 1) rest
    → IsShiftsText old number (shift_line old shift ++ rest)
shift-before old new shift number rest first made is =
    let after = subst (λ (t : TimetableView). IsShiftsText t (number + 1) rest) made is in
    record {
      shifts = shift ∷ after.shifts;
      are = (first, after.are);
      printed = ap (λ text. shift_line old shift ++ text) after.printed;
    }

-- no shift is left
pub no-shift : (timetable : TimetableView) (number sum : ℕ) → ((slot : ℕ) (by : ℤ) → ¬ IsLowering timetable slot by)
    → pos sum ≡ deficit_sum timetable
    → IsShiftsText timetable number (total_line (codes "shifts ") number sum)
no-shift timetable number sum none is =
    record { shifts = []; are = none; printed = ap (total_line (codes "shifts ") number) (ap unsigned_abs is) }

-- a shift leaves the number of slots
pub length-after_shift : (old new : TimetableView) (shift : Shift) → new ≡ after_shift old shift → length new.slots ≡ length old.slots
length-after_shift old new shift made = ap (λ (t : TimetableView). length t.slots) made ∙ length-set old.slots shift.slot _

-- the sum falls
pub sum-falls : (old new : TimetableView) (shift : Shift) (sum next : ℕ) → IsFirst old shift.slot shift.by → new ≡ after_shift old shift
    → pos sum ≡ deficit_sum old → pos next ≡ deficit_sum new → next + 1 ≤ sum
sum-falls old new shift sum next first made is after =
    let lower = first.lowering.lower in
    let same = ap deficit_sum made in
    omega (arith, ints, is, after, lower, same)

-- what is needed of the laws
abbrev pub MaximumHeld : Type 0
MaximumHeld = (deficits : List (List ℤ)) (place : ℕ) → IsDeficits deficits → place < length deficits
    → pos 0 ≤ℤ (first_maximum (value deficits place)).0

-- the sum of the maxima that are kept is not below 0
kept-positive : MaximumHeld → (deficits : List (List ℤ)) (n : ℕ) → IsDeficits deficits → n ≤ length deficits
    → pos 0 ≤ℤ sum_of_maxima (value deficits) n
kept-positive positive deficits zero valid within = omega (arith, ints)
kept-positive positive deficits (suc n) valid within =
    omega (arith, ints, kept-positive positive deficits n valid (omega (arith, within)), positive deficits n valid (omega (arith, within)))

-- the sum of the maxima that are kept is that of the timetable
pub sum-kept : SumHeld → (timetable : TimetableView) (deficits : List (List ℤ)) → IsDeficits deficits
    → Holds deficits (live_moves timetable.slots) → length deficits ≡ length timetable.places
    → sum_of_maxima (value deficits) (length deficits) ≡ deficit_sum timetable
sum-kept total timetable deficits valid held rows =
    total deficits (live_moves timetable.slots) valid held ∙ ap (sum_of_maxima (deficit (live_moves timetable.slots))) rows

number-of : (z : ℤ) → pos 0 ≤ℤ z → pos (unsigned_abs z) ≡ z
number-of (pos n) positive = refl
number-of (negsuc n) positive = absurd (omega (arith, ints, positive))

-- so that is a number
pub sum-number : SumHeld → MaximumHeld → (timetable : TimetableView) (deficits : List (List ℤ)) → IsDeficits deficits
    → Holds deficits (live_moves timetable.slots) → length deficits ≡ length timetable.places
    → pos (unsigned_abs (deficit_sum timetable)) ≡ deficit_sum timetable
sum-number total positive timetable deficits valid held rows =
    number-of (deficit_sum timetable)
    (subst (λ z. pos 0 ≤ℤ z) (sum-kept total timetable deficits valid held rows)
    (kept-positive positive deficits (length deficits) valid (omega arith)))

-- so many times a number, and once more
pub times-more : (c a b : ℕ) → a + 1 ≤ b → c * a + c ≤ c * b
times-more c a b le = let next : suc a ≤ b = omega (arith, le) in omega (arith, mul-suc c a, mul-le-mul_left c next)

pub times-le : (c a b : ℕ) → a ≤ b → c * a ≤ c * b
times-le c a b le = mul-le-mul_left c le
