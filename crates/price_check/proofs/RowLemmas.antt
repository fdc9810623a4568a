-- What is said of a record, where the slots that it speaks of are known.
use Rattle.std.proofs.Common.{◌≡◌, ℕ, zero, suc, ◌+◌, ◌-◌, ◌<◌, ◌≤◌, ◌||◌, nat_eq, Bool, true, false, List, [], ◌∷◌, length, map, take}
use Rattle.std.proofs.Common.{get_or, Option, None, Some, refl, sym, ap, ◌∙◌, if◌then◌else◌, arith}
use Rattle.std.specs.Prelude.{is_some, is_none, IsSome}
use Rattle.std.specs.Bool.{then_some}
use Rattle.std.specs.Option.{option_eq, option_map_or}
use Rattle.std.proofs.lemmas.Bool.{false≢true}
use Rattle.std.proofs.lemmas.List.{get_or-map}
use Rattle.gtfs_tables.specs.declared.paper.Paper.{Paper}
use Rattle.trip_model.specs.Plain.{move_of_slot}
use Rattle.trip_model.specs.Timetable.{TimetableView, slot_at}
use Rattle.trip_model.specs.Trip.{move_of}
use Rattle.deadhead_matrix.specs.Matrix.{MatrixView}
use Rattle.deadhead_matrix.specs.Fitting.{network_of}
use Rattle.price_check.specs.declared.verdict.Reason.TheVariants.{UnknownTrip}
use Rattle.price_check.specs.Claim.{named}
use Rattle.price_check.specs.Reasons.{unknown, stands, repeats}

-- the slot that the record of a number names
pub named-map : {X : Type 0} (slot_of : X → Option ℕ) (rows : List X) (at : ℕ) (x : X) → at < length rows → x ≡ get_or rows at x
    → named (map slot_of rows) at ≡ slot_of x
named-map slot_of rows at x lt is = get_or-map slot_of rows at x None lt ∙ ap slot_of (sym is)

-- a record that names a slot is not unknown, and one that names none is
pub unknown-none : (paper : Paper) (slots : List (Option ℕ)) (at : ℕ) → IsSome (named slots at) → unknown paper slots at ≡ None
unknown-none paper slots at known = by (named slots at) known
  where
    by : (slot : Option ℕ) → IsSome slot → then_some (is_none slot) (UnknownTrip paper (at + 1)) ≡ None
    by None known = absurd (false≢true known)
    by (Some s) known = refl

pub unknown-some : (paper : Paper) (slots : List (Option ℕ)) (at : ℕ) → is_some (named slots at) ≡ false
    → Some (UnknownTrip paper (at + 1)) ≡ unknown paper slots at
unknown-some paper slots at none = by (named slots at) none
  where
    by : (slot : Option ℕ) → is_some slot ≡ false
        → Some (UnknownTrip paper (at + 1)) ≡ then_some (is_none slot) (UnknownTrip paper (at + 1))
    by None none = refl
    by (Some s) none = absurd (false≢true (sym none))

-- a record that is found to name s, and none that does
pub stands-found : (slots : List (Option ℕ)) (s k : ℕ) → k < length slots → option_eq nat_eq (named slots k) (Some s) ≡ true
    → true ≡ stands slots s
stands-found [] s k lt e = absurd (omega arith)
stands-found (slot ∷ slots) s zero lt e = ap (λ b. b || stands slots s) (sym e)
stands-found (slot ∷ slots) s (suc k) lt e =
    sym (or-true (option_eq nat_eq slot (Some s)) (stands slots s) (sym (stands-found slots s k (omega arith) e)))
  where
    or-true : (a b : Bool) → b ≡ true → (a || b) ≡ true
    or-true true b e = refl
    or-true false b e = e

pub stands-none : (slots : List (Option ℕ)) (s n : ℕ) → ((k : ℕ) → k < n → option_eq nat_eq (named slots k) (Some s) ≡ false)
    → length slots ≤ n → false ≡ stands slots s
stands-none [] s n none le = refl
stands-none (slot ∷ slots) s n none le =
    stands-none slots s (n - 1) (λ k lt. none (suc k) (omega (arith, lt))) (omega arith)
    ∙ sym (ap (λ b. b || stands slots s) (none 0 (omega arith)))

-- an earlier record names the slot of the record, where it names one
pub repeats-some : (slots : List (Option ℕ)) (at s : ℕ) → named slots at ≡ Some s → repeats slots at ≡ stands (take at slots) s
repeats-some slots at s e = ap (λ slot. option_map_or (stands (take at slots)) slot false) e

pub repeats-none : (slots : List (Option ℕ)) (at : ℕ) → named slots at ≡ None → repeats slots at ≡ false
repeats-none slots at e = ap (λ slot. option_map_or (stands (take at slots)) slot false) e

-- a trip runs in the network exactly where it is live
pub live-is : (timetable : TimetableView) (matrix : MatrixView) (s : ℕ) → s < length timetable.slots
    → (network_of timetable matrix).live s ≡ (slot_at timetable s).trip.live
live-is timetable matrix s lt = ap is_some (get_or-map move_of_slot timetable.slots s _ None lt) ∙ by (slot_at timetable s).trip.live
  where
    by : (live : Bool) → is_some (if live then Some (move_of (slot_at timetable s).trip) else None) ≡ live
    by true = refl
    by false = refl
