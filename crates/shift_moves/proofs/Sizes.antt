-- Numbers of minutes by their size, and where shifts of one size, of one slot and of all slots lower the sum.
use Rattle.std.proofs.Common.{◌≡◌, ◌≢◌, ◌⊎◌, ℕ, ◌+◌, ◌-◌, ◌*◌, ◌<◌, ◌≤◌, Bool, true, false, min, max, ℤ, pos, neg_ℤ, refl, ap, ◌∙◌, subst}
use Rattle.std.proofs.Common.{inl, inr, ⊎_elim, arith}
use Rattle.std.specs.Prelude.{unsigned_abs, negsuc}
use Rattle.std.proofs.lemmas.Bool.{cases_eq, cases_lt}
use Rattle.trip_model.specs.Timetable.{TimetableView, slot_at}
use Rattle.trip_model.specs.Trip.{MayShift}
use Rattle.shift_moves.specs.Lowering.{IsBefore, IsFirst, IsLowering}
use Rattle.shift_moves.specs.Trial.{IsFirstInSlot, IsRoom}

-- a number of a size is that many minutes earlier, or as many later
sides : (by : ℤ) (size : ℕ) → unsigned_abs by ≡ size → (by ≡ neg_ℤ (pos size)) ⊎ (by ≡ pos size)
sides (pos n) size e = inr (ap pos e)
sides (negsuc n) size e = inl (ap (λ k. neg_ℤ (pos k)) e)

-- one size more, of which neither shift lowers the sum
pub none-up_to : (t : TimetableView) (s size : ℕ) → (IsLowering t s (neg_ℤ (pos size)) → ⊥) → (IsLowering t s (pos size) → ⊥)
    → ((by : ℤ) → unsigned_abs by < size → IsLowering t s by → ⊥)
    → (by : ℤ) → unsigned_abs by < size + 1 → IsLowering t s by → ⊥
none-up_to t s size earlier later below by h lowering = ⊎_elim
    (λ (less : unsigned_abs by < size). below by less lowering)
    (λ (most : size ≤ unsigned_abs by). ⊎_elim
    (λ (is : by ≡ neg_ℤ (pos size)). earlier (subst (IsLowering t s) is lowering))
    (λ (is : by ≡ pos size). later (subst (IsLowering t s) is lowering))
    (sides by size (omega arith)))
    (cases_lt (unsigned_abs by) size)

-- past the sizes by which the trip may be moved there is none
pub none-past : (t : TimetableView) (s earlier later size : ℕ) → IsRoom (slot_at t s).trip earlier later → earlier < size → later < size
    → ((by : ℤ) → unsigned_abs by < size → IsLowering t s by → ⊥)
    → (by : ℤ) → IsLowering t s by → ⊥
none-past t s earlier later size room e l below by lowering = ⊎_elim
    (λ (less : unsigned_abs by < size). below by less lowering)
    (λ (most : size ≤ unsigned_abs by). ⊎_elim
    (λ (is : by ≡ neg_ℤ (pos (unsigned_abs by))). (let within = room.no_earlier (unsigned_abs by)
    (subst (MayShift (slot_at t s).trip) is lowering.within) in absurd (omega (arith, within, e, most))))
    (λ (is : by ≡ pos (unsigned_abs by)). (let within = room.no_later (unsigned_abs by)
    (subst (MayShift (slot_at t s).trip) is lowering.within) in absurd (omega (arith, within, l, most))))
    (sides by (unsigned_abs by) refl))
    (cases_lt (unsigned_abs by) size)

-- what a try of one size costs, where it is made only for a size by which the trip may be moved
pub paid-for : (may : Bool) (old new size most : ℕ) → 0 < size → new ≤ old + 112 → (may ≡ false → new ≡ old) → (may ≡ true → size ≤ most)
    → new + 112 * min (size - 1) most ≤ old + 112 * min size most
paid-for true old new size most some paid none within = omega (arith, paid, within refl)
paid-for false old new size most some paid none within = omega (arith, none refl)

-- below the least sizes that can lower the sum no shift does
pub none-below : (t : TimetableView) (s earlier later : ℕ) → ((size : ℕ) → size < earlier → IsLowering t s (neg_ℤ (pos size)) → ⊥)
    → ((size : ℕ) → size < later → IsLowering t s (pos size) → ⊥)
    → (size : ℕ) → size ≤ max (min earlier later) 1 → (by : ℤ) → unsigned_abs by < size → IsLowering t s by → ⊥
none-below t s earlier later sooner after size few by h lowering = ⊎_elim
    (λ (none : unsigned_abs by ≡ 0). lowering.moved
    (⊎_elim (λ is. is ∙ ap (λ k. neg_ℤ (pos k)) none) (λ is. is ∙ ap pos none) (sides by (unsigned_abs by) refl)))
    (λ (some : unsigned_abs by ≡ 0 → ⊥). ⊎_elim
    (λ (is : by ≡ neg_ℤ (pos (unsigned_abs by))). (let other : unsigned_abs by ≢ 0 = some in
    sooner (unsigned_abs by) (omega (arith, h, few, other)) (subst (IsLowering t s) is lowering)))
    (λ (is : by ≡ pos (unsigned_abs by)). (let other : unsigned_abs by ≢ 0 = some in
    after (unsigned_abs by) (omega (arith, h, few, other)) (subst (IsLowering t s) is lowering)))
    (sides by (unsigned_abs by) refl))
    (cases_eq (unsigned_abs by) 0)

-- the first of a slot is the first of all where no lesser slot has one
pub IsFirst-of_slot : (t : TimetableView) (s : ℕ) (by : ℤ) → ((slot : ℕ) (b : ℤ) → slot < s → IsLowering t slot b → ⊥)
    → IsFirstInSlot t s by → IsFirst t s by
IsFirst-of_slot t s by none first = record {
  lowering = first.lowering;
  least = λ slot b lowering before. ⊎_elim
      (λ (less : slot < s). none slot b less lowering)
      (λ (same : (slot ≡ s) × IsBefore b by). first.least b (subst (λ k. IsLowering t k b) same.0 lowering) same.1)
      before;
}
