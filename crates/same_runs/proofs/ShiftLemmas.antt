-- The shifts that lower the sum of the maxima one after the other are determined by the timetable.
use Rattle.std.proofs.Common.{◌≡◌, ◌<◌, List, [], ◌∷◌, ℤ, pos, ◌<ℤ◌, refl, sym, ap, subst, inl, inr, ⊎_elim, arith}
use Rattle.std.specs.Prelude.{negsuc, unsigned_abs}
use Rattle.std.proofs.lemmas.Bool.{cases_lt}
use Rattle.std.proofs.lemmas.Int.{ints}
use Rattle.trip_model.specs.Timetable.{TimetableView}
use Rattle.shift_moves.specs.Lowering.{IsFirst}
use Rattle.shift_moves.specs.declared.search.Shift.{Shift}
use Rattle.lowering_commands.specs.Shifts.{AreShifts, after_shift}

-- two numbers of minutes of one size of which neither is less are one
one-by : (a b : ℤ) → unsigned_abs a ≡ unsigned_abs b → (a <ℤ b → ⊥) → (b <ℤ a → ⊥) → a ≡ b
one-by (pos m) (pos n) size below above = ap pos size
one-by (pos m) (negsuc n) size below above = absurd (above (omega (arith, ints)))
one-by (negsuc m) (pos n) size below above = absurd (below (omega (arith, ints)))
one-by (negsuc m) (negsuc n) size below above = ap negsuc (omega (arith, size))

-- two first shifts are one
one-first : (timetable : TimetableView) (one other : Shift) → IsFirst timetable one.slot one.by → IsFirst timetable other.slot other.by
    → one ≡ other
one-first timetable one other first first' =
    let before = first'.least one.slot one.by first.lowering in
    let after = first.least other.slot other.by first'.lowering in
    let slot : one.slot ≡ other.slot = ⊎_elim
    (λ (less : one.slot < other.slot). absurd (before (inl less)))
    (λ more. ⊎_elim (λ (less : other.slot < one.slot). absurd (after (inl less))) (λ rest. omega (arith, more, rest))
    (cases_lt other.slot one.slot))
    (cases_lt one.slot other.slot) in
    let size : unsigned_abs one.by ≡ unsigned_abs other.by = ⊎_elim
    (λ (less : unsigned_abs one.by < unsigned_abs other.by). absurd (before (inr (slot, inl less))))
    (λ more. ⊎_elim (λ (less : unsigned_abs other.by < unsigned_abs one.by). absurd (after (inr (sym slot, inl less))))
    (λ rest. omega (arith, more, rest)) (cases_lt (unsigned_abs other.by) (unsigned_abs one.by)))
    (cases_lt (unsigned_abs one.by) (unsigned_abs other.by)) in
    let by : one.by ≡ other.by = one-by one.by other.by size (λ less. before (inr (slot, inr (size, less))))
    (λ less. after (inr (sym slot, inr (sym size, less)))) in
    λ i. record { slot = slot i; by = by i }

pub one-shifts : (timetable : TimetableView) (one other : List Shift) → AreShifts timetable one → AreShifts timetable other → one ≡ other
one-shifts timetable [] [] none none' = refl
one-shifts timetable [] (s ∷ ss) none are = absurd (none s.slot s.by are.0.lowering)
one-shifts timetable (s ∷ ss) [] are none = absurd (none s.slot s.by are.0.lowering)
one-shifts timetable (s ∷ ss) (z ∷ zs) are are' =
    let first = one-first timetable s z are.0 are'.0 in
    let rest = one-shifts (after_shift timetable s) ss zs are.1
    (subst (λ shift. AreShifts (after_shift timetable shift) zs) (sym first) are'.1) in
    λ i. first i ∷ rest i
