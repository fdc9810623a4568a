-- When a shift is accepted, and which refusal comes first.
use Rattle.std.proofs.Common.{◌≡◌, ℕ, ◌&&◌, ℤ, pos, neg_ℤ, ◌+ℤ◌, ◌≤ℤ◌, Bool, true, false, Option, Result, Ok, Err, Some, refl, sym, ap}
use Rattle.std.proofs.Common.{subst, ◌∙◌}
use Rattle.std.specs.Prelude.{int_le}
use lib.Signed.{le_z_yes}
use lib.Dec.{T}
use Rattle.trip_model.specs.declared.trip.Trip.{Trip}
use Rattle.trip_model.specs.Trip.{MayShift}
use Rattle.trip_model.specs.Timetable.{TimetableView, slot_at}
use Rattle.trip_model.specs.Fleet.{with_shift}
use Rattle.edit_script.specs.declared.fault.EditFault.{EditFault}
use Rattle.edit_script.specs.declared.fault.EditFault.TheVariants as fault
use Rattle.edit_script.specs.Changes.{is_within, provided, shifted_at}

-- a shift by the tests of its trip
abbrev shift_tests : TimetableView → ℤ → ℕ → ℤ → Bool → Bool → Bool → Result TimetableView EditFault
shift_tests t by s sum live within from =
    provided live fault.NotLive (provided within (fault.OutsideTolerance sum) (provided from fault.BeforeMidnight (Ok (with_shift t s by))))

module _ (t : TimetableView) (by sum : ℤ) (o : Option ℕ) (s : ℕ) (found : Trip) (at : Some s ≡ o) (is : found ≡ (slot_at t s).trip)
    (live : found.live ≡ true) (sum_is : sum ≡ found.offset +ℤ by) where
  shift-live : shifted_at t by o ≡ shift_tests t by s sum true (is_within found sum) (int_le (pos 0) (pos found.departs +ℤ by))
  shift-live =
      ap (shifted_at t by) (sym at)
      ∙ ap (λ (trip : Trip). shift_tests t by s (trip.offset +ℤ by) trip.live (is_within trip (trip.offset +ℤ by))
      (int_le (pos 0) (pos trip.departs +ℤ by))) (sym is)
      ∙ ap (λ off. shift_tests t by s off found.live (is_within found off) (int_le (pos 0) (pos found.departs +ℤ by))) (sym sum_is)
      ∙ ap (λ live. shift_tests t by s sum live (is_within found sum) (int_le (pos 0) (pos found.departs +ℤ by))) live

  moved_test : (gone : ℤ) → gone ≡ by → (found : Trip) (test : Bool) → int_le (pos 0) (pos found.departs +ℤ gone) ≡ test
      → int_le (pos 0) (pos found.departs +ℤ by) ≡ test
  moved_test gone gone_is found test from = ap (λ by. int_le (pos 0) (pos found.departs +ℤ by)) (sym gone_is) ∙ from

  -- one out of its tolerances
  pub shift-outside : is_within found sum ≡ false → shifted_at t by o ≡ Err (fault.OutsideTolerance sum)
  shift-outside outside = shift-live ∙ ap (λ within. shift_tests t by s sum true within (int_le (pos 0) (pos found.departs +ℤ by))) outside

  -- one to before midnight
  pub shift-early : (gone : ℤ) → gone ≡ by → is_within found sum ≡ true → int_le (pos 0) (pos found.departs +ℤ gone) ≡ false
      → shifted_at t by o ≡ Err fault.BeforeMidnight
  shift-early gone gone_is within from = shift-live
      ∙ λ i. shift_tests t by s sum true (within i) (moved_test gone gone_is found false from i)

  -- one that is accepted
  pub shift-accepted : (gone : ℤ) → gone ≡ by → is_within found sum ≡ true → int_le (pos 0) (pos found.departs +ℤ gone) ≡ true
      → shifted_at t by o ≡ Ok (with_shift t s by)
  shift-accepted gone gone_is within from = shift-live
      ∙ λ i. shift_tests t by s sum true (within i) (moved_test gone gone_is found true from i)

and_both : (a b : Bool) → (a && b) ≡ true → (a ≡ true) × (b ≡ true)
and_both true true e = (refl, refl)
and_both true false e = cc
and_both false b e = cc

le_from : (x y : ℤ) → int_le x y ≡ true → x ≤ℤ y
le_from x y e = le_z_yes (subst T (sym e) tt)

-- within its tolerances and from midnight on a trip may be moved
pub MayShift-is : (trip : Trip) (by sum gone : ℤ) → sum ≡ trip.offset +ℤ by → gone ≡ by → is_within trip sum ≡ true
    → int_le (pos 0) (pos trip.departs +ℤ gone) ≡ true → MayShift trip by
MayShift-is trip by sum gone sum_is gone_is within departs =
    let both = and_both (int_le (neg_ℤ (pos trip.early)) sum) (int_le sum (pos trip.late)) within in
    record {
      not_too_early = subst (λ sum. neg_ℤ (pos trip.early) ≤ℤ sum) sum_is (le_from _ _ both.0);
      not_too_late = subst (λ sum. sum ≤ℤ pos trip.late) sum_is (le_from _ _ both.1);
      departs = subst (λ by. pos 0 ≤ℤ (pos trip.departs +ℤ by)) gone_is (le_from _ _ departs);
    }
