-- What is done to the trip in a slot is taken back to the same timetable, and touches no other slot.
use Rattle.std.proofs.Common.{◌≡◌, ℕ, ◌<◌, ℤ, pos, neg_ℤ, ◌+ℤ◌, ◌≤ℤ◌, true, false, [], ◌∷◌, ◌++◌, length, set, take, sym, ap, subst, ◌∙◌}
use Rattle.std.proofs.Common.{arith}
use Rattle.std.specs.Prelude.{unsigned_abs}
use Rattle.std.proofs.Math.ListN.{length-set}
use Rattle.std.proofs.Math.Seq.{take-append_seam}
use Rattle.std.proofs.lemmas.Int.{ints}
use Rattle.std.proofs.lemmas.List.{get_or-set_same, length-append, set-get_or, set-set}
use Rattle.trip_model.specs.declared.trip.Trip.{Trip}
use Rattle.trip_model.specs.Trip.{MayShift, shifted, IsValidTrip}
use Rattle.trip_model.specs.Timetable.{IsTimetable, Slot, TimetableView, slot_at, with_trip}
use Rattle.edit_script.specs.declared.changes.Change.{Change}
use Rattle.edit_script.specs.declared.changes.Made.{Made}
use Rattle.edit_script.specs.declared.changes.Made.TheVariants.{Moved, Cancelled, Restored, Added}
use Rattle.edit_script.specs.Made.{CanMake, CanUnmake, MayMake, WasMade, with_change, with_made, without_made}

-- the trip that was put in a slot stands there
pub slot_at-with_trip : (t : TimetableView) (s : ℕ) (trip : Trip) → s < length t.slots
    → slot_at (with_trip t s trip) s ≡ record (slot_at t s) { trip = trip }
slot_at-with_trip t s trip within = get_or-set_same t.slots s _ _ within

-- of two trips put in a slot the second stays
pub with_trip-twice : (t : TimetableView) (s : ℕ) (one two : Trip) → s < length t.slots
    → with_trip (with_trip t s one) s two ≡ with_trip t s two
with_trip-twice t s one two within =
    ap (λ (slot : Slot). record t { slots = set (set t.slots s (record (slot_at t s) { trip = one })) s (record slot { trip = two }) })
    (slot_at-with_trip t s one within)
    ∙ ap (λ slots. record t { slots = slots }) (set-set t.slots s _ _)

-- the trip of a slot, put there, changes nothing
pub with_trip-same : (t : TimetableView) (s : ℕ) → with_trip t s (slot_at t s).trip ≡ t
with_trip-same t s = ap (λ slots. record t { slots = slots }) (set-get_or t.slots s _)

-- a trip moved there and back is as it was
pub shifted_back : (trip : Trip) (by : ℤ) → pos 0 ≤ℤ (pos trip.departs +ℤ by) → trip.departs < trip.ends
    → shifted (shifted trip by) (neg_ℤ by) ≡ trip
shifted_back trip by departs forward =
    let leaves : unsigned_abs (pos (unsigned_abs (pos trip.departs +ℤ by)) +ℤ neg_ℤ by) ≡ trip.departs = omega (arith, ints) in
    let arrives : unsigned_abs (pos (unsigned_abs (pos trip.ends +ℤ by)) +ℤ neg_ℤ by) ≡ trip.ends = omega (arith, ints) in
    let off : (trip.offset +ℤ by) +ℤ neg_ℤ by ≡ trip.offset = omega (arith, ints) in
    λ i. record trip { departs = leaves i; ends = arrives i; offset = off i }

-- and may be moved back
pub MayShift-back : (trip : Trip) (by : ℤ) → pos 0 ≤ℤ (pos trip.departs +ℤ by) → neg_ℤ (pos trip.early) ≤ℤ trip.offset
    → trip.offset ≤ℤ pos trip.late → MayShift (shifted trip by) (neg_ℤ by)
MayShift-back trip by departs early late = record {
  not_too_early = omega (arith, ints);
  not_too_late = omega (arith, ints);
  departs = omega (arith, ints);
}

-- the trip of a slot of a timetable is valid
pub trip-valid : (t : TimetableView) (s : ℕ) → IsTimetable t → s < length t.slots → IsValidTrip t.places (slot_at t s).trip
trip-valid t s valid within = valid.trips s _ within

-- another trip for the one in a slot, and that one again
pub with_trip-back : (t : TimetableView) (s : ℕ) (one two : Trip) → s < length t.slots → two ≡ (slot_at t s).trip
    → with_trip (with_trip t s one) s two ≡ t
with_trip-back t s one two within is = with_trip-twice t s one two within ∙ ap (with_trip t s) is ∙ with_trip-same t s

-- what was made and taken back is as it was
pub without_made-with_made : (t : TimetableView) (s : ℕ) (made : Made) → IsTimetable t → CanMake t s made
    → without_made (with_made t s made) s made ≡ t
without_made-with_made t s (Moved by) valid can =
    let there = slot_at-with_trip t s (shifted (slot_at t s).trip by) can.slot in
    ap (λ (slot : Slot). with_trip (with_trip t s (shifted (slot_at t s).trip by)) s (shifted slot.trip (neg_ℤ by))) there
    ∙ with_trip-back t s _ _ can.slot (shifted_back (slot_at t s).trip by can.within.departs (trip-valid t s valid can.slot).forward)
without_made-with_made t s Cancelled valid can =
    let there = slot_at-with_trip t s (record (slot_at t s).trip { live = false }) can.0 in
    ap (λ (slot : Slot). with_trip (with_trip t s (record (slot_at t s).trip { live = false })) s (record slot.trip { live = true })) there
    ∙ with_trip-back t s _ _ can.0 (ap (λ live. record (slot_at t s).trip { live = live }) (sym can.1))
without_made-with_made t s Restored valid can =
    let there = slot_at-with_trip t s (record (slot_at t s).trip { live = true }) can.0 in
    ap (λ (slot : Slot). with_trip (with_trip t s (record (slot_at t s).trip { live = true })) s (record slot.trip { live = false })) there
    ∙ with_trip-back t s _ _ can.0 (ap (λ live. record (slot_at t s).trip { live = live }) (sym can.1))
without_made-with_made t s (Added name trip) valid can =
    ap (λ slots. record t { slots = slots })
    (ap (λ n. take n (t.slots ++ record { name = name; trip = trip } ∷ [])) can.slot ∙ take-append_seam t.slots _)

-- what was made can be taken back
pub CanUnmake-with_made : (t : TimetableView) (s : ℕ) (made : Made) → IsTimetable t → CanMake t s made
    → CanUnmake (with_made t s made) s made
CanUnmake-with_made t s (Moved by) valid can =
    let trip = (slot_at t s).trip in
    let now = trip-valid t s valid can.slot in
    let there = ap (λ (slot : Slot). slot.trip) (slot_at-with_trip t s (shifted trip by) can.slot) in
    record {
      slot = omega (arith, can.slot, length-set t.slots s (record (slot_at t s) { trip = shifted trip by }));
      live = ap (λ (trip : Trip). trip.live) there ∙ can.live;
      moves = omega (arith, ints, can.moves);
      most = omega (arith, ints, can.most);
      within = subst (λ (trip : Trip). MayShift trip (neg_ℤ by)) (sym there)
          (MayShift-back trip by can.within.departs now.not_too_early now.not_too_late);
    }
CanUnmake-with_made t s Cancelled valid can =
    let there = ap (λ (slot : Slot). slot.trip.live) (slot_at-with_trip t s (record (slot_at t s).trip { live = false }) can.0) in
    (omega (arith, can.0, length-set t.slots s (record (slot_at t s) { trip = record (slot_at t s).trip { live = false } })), there)
CanUnmake-with_made t s Restored valid can =
    let there = ap (λ (slot : Slot). slot.trip.live) (slot_at-with_trip t s (record (slot_at t s).trip { live = true }) can.0) in
    (omega (arith, can.0, length-set t.slots s (record (slot_at t s) { trip = record (slot_at t s).trip { live = true } })), there)
CanUnmake-with_made t s (Added name trip) valid can =
    omega (arith, can.slot, length-append t.slots (record { name = name; trip = trip } ∷ []))

-- a change that is made is the last that was made
pub WasMade-with_change : (t now : TimetableView) (change : Change) → IsTimetable t → MayMake t change → now ≡ with_change t change
    → WasMade now change
WasMade-with_change t now change valid can is =
    let back = without_made-with_made t change.slot change.made valid can in
    subst (λ u. WasMade u change) (sym is) (record {
      unmakes = CanUnmake-with_made t change.slot change.made valid can;
      makes = subst (λ u. MayMake u change) (sym back) can;
      again = ap (λ u. with_change u change) back;
    })
