-- An edit of a trip that is accepted is done in a slot, and leads from a valid timetable to a valid one of the same places.
use Rattle.std.proofs.Common.{◌≡◌, ℕ, ◌<◌, ◌≤◌, nat_lt, ℤ, pos, neg_ℤ, ◌+ℤ◌, ◌≤ℤ◌, Bool, true, false, not, List, [], length, Option}
use Rattle.std.proofs.Common.{None, Some, Result, Ok, Err, refl, sym, ap, subst, arith}
use Rattle.std.specs.Prelude.{int_le}
use Rattle.std.specs.Str.{bytes_eq}
use Rattle.std.proofs.lemmas.Bool.{and_parts, ltb-true}
use Rattle.std.proofs.lemmas.Int.{ints}
use Rattle.std.proofs.lemmas.List.{length-map}
use Rattle.std.proofs.lemmas.List.Quantifiers.{position-Some}
use Rattle.std.proofs.lemmas.Slice.Eq.{bytes_eq-Decides}
use lib.Signed.{le_z_yes}
use lib.Dec.{T}
use Rattle.trip_model.specs.Fleet.{with_shift}
use Rattle.trip_model.specs.Place.{Place, class_of, terminal_place}
use Rattle.trip_model.specs.Timetable.{IsTimetable, Slot, TimetableView, number_of, place_names, slot_at, slot_names, with_trip}
use Rattle.trip_model.specs.Trip.{IsValidTrip, MayShift, shifted}
use Rattle.trip_model.specs.declared.limits.TheConstants.{LAST_DEPARTURE}
use Rattle.trip_model.specs.declared.trip.Trip.{Trip}
use Rattle.trip_model.proofs.SlotLemmas.{IsTimetable-with_trip, IsValidTrip-shifted}
use Rattle.trip_model.proofs.TimetableLemmas.{IsTimetable-push_slot, number_of-None}
use Rattle.edit_script.specs.Changes.{IsSlotOf, cancelled_at, edited, extra_from, extra_new, extra_to, extra_trip, is_within, provided}
use Rattle.edit_script.specs.Changes.{restored_at, shifted_at, with_extra, with_live}
use Rattle.edit_script.specs.Edits.{EditsTrip, InForm}
use Rattle.edit_script.specs.declared.edit.Edit.{Edit}
use Rattle.edit_script.specs.declared.edit.Edit.TheVariants.{Shift, Cancel, Restore, Extra}
use Rattle.edit_script.specs.declared.fault.EditFault.{EditFault}
use Rattle.edit_script.specs.declared.fault.EditFault.TheVariants as fault

-- the timetable after an edit of the trip in a slot
pub record IsValidEdit (edit : Edit) (t next : TimetableView) : Type 0 where
  pub slot : ℕ
  pub told : IsSlotOf edit t (Some slot)
  pub valid : IsTimetable next
  pub places : next.places ≡ t.places

same-Ok : (t next : TimetableView) → ◌≡◌ {A = Result TimetableView EditFault} (Ok t) (Ok next) → t ≡ next
same-Ok t next e = cc

not-refused : {A : Type 0} (refused : EditFault) (next : TimetableView) → ◌≡◌ {A = Result TimetableView EditFault} (Err refused) (Ok next)
    → A
not-refused refused next e = absurd (cc)

provided-ok : (holds : Bool) (refused : EditFault) (rest : Result TimetableView EditFault) (next : TimetableView)
    → provided holds refused rest ≡ Ok next → (holds ≡ true) × (rest ≡ Ok next)
provided-ok true refused rest next e = (refl, e)
provided-ok false refused rest next e = not-refused refused next e

-- a name that has a number is one of the list
named-within : (names : List (List ℕ)) (name : List ℕ) (s : ℕ) → number_of names name ≡ Some s → s < length names
named-within names name s e = (position-Some (bytes_eq name) names s name e).0

le-from : (x y : ℤ) → int_le x y ≡ true → x ≤ℤ y
le-from x y e = le_z_yes (subst T (sym e) tt)

-- a trip that runs again, or no more, is as valid
valid-live : (places : List Place) (trip : Trip) (live : Bool) → IsValidTrip places trip → IsValidTrip places (record trip { live = live })
valid-live places trip live valid = record {
  from = valid.from;
  to = valid.to;
  one_class = valid.one_class;
  forward = valid.forward;
  early = valid.early;
  late = valid.late;
  not_too_early = valid.not_too_early;
  not_too_late = valid.not_too_late;
  departs_from_midnight = valid.departs_from_midnight;
  departs_in_day = valid.departs_in_day;
  ends_in_day = valid.ends_in_day;
}

module _ (t next : TimetableView) (valid : IsTimetable t) where
  -- the slot of a trip is one of the timetable
  slot-there : (trip : List ℕ) (s : ℕ) → number_of (slot_names t) trip ≡ Some s → s < length t.slots
  slot-there trip s e = omega (arith, named-within (slot_names t) trip s e, length-map t.slots (λ (q : Slot). q.name))

  place-there : (name : List ℕ) (p : ℕ) → number_of (place_names t) name ≡ Some p → p < length t.places
  place-there name p e = omega (arith, named-within (place_names t) name p e, length-map t.places (λ (q : Place). q.name))

  -- another valid trip in its slot
  put-in : (edit : Edit) (s : ℕ) (trip : Trip) → IsSlotOf edit t (Some s) → IsValidTrip t.places trip → with_trip t s trip ≡ next
      → IsValidEdit edit t next
  put-in edit s trip told now is = record {
    slot = s;
    told = told;
    valid = subst IsTimetable is (IsTimetable-with_trip t s trip valid now);
    places = ap (λ (u : TimetableView). u.places) (sym is);
  }

  cancelled : (trip : List ℕ) (o : Option ℕ) → number_of (slot_names t) trip ≡ o → cancelled_at t o ≡ Ok next
      → IsValidEdit (Cancel trip) t next
  cancelled trip None none e = not-refused fault.UnknownTrip next e
  cancelled trip (Some s) found e =
      let there = slot-there trip s found in
      let one = provided-ok (slot_at t s).trip.live fault.NotLive (Ok (with_live t s false)) next e in
      put-in (Cancel trip) s (record (slot_at t s).trip { live = false }) (there, sym found)
      (valid-live t.places (slot_at t s).trip false (valid.trips s _ there)) (same-Ok (with_live t s false) next one.1)

  restored : (trip : List ℕ) (o : Option ℕ) → number_of (slot_names t) trip ≡ o → restored_at t o ≡ Ok next
      → IsValidEdit (Restore trip) t next
  restored trip None none e = not-refused fault.UnknownTrip next e
  restored trip (Some s) found e =
      let there = slot-there trip s found in
      let one = provided-ok (not (slot_at t s).trip.live) fault.NotCancelled (Ok (with_live t s true)) next e in
      put-in (Restore trip) s (record (slot_at t s).trip { live = true }) (there, sym found)
      (valid-live t.places (slot_at t s).trip true (valid.trips s _ there)) (same-Ok (with_live t s true) next one.1)

  moved : (trip : List ℕ) (by : ℤ) (o : Option ℕ) → number_of (slot_names t) trip ≡ o → shifted_at t by o ≡ Ok next
      → IsValidEdit (Shift trip by) t next
  moved trip by None none e = not-refused fault.UnknownTrip next e
  moved trip by (Some s) found e =
      let there = slot-there trip s found in
      let was : Trip = (slot_at t s).trip in
      let sum : ℤ = was.offset +ℤ by in
      let late : Result TimetableView EditFault = provided (int_le (pos 0) (pos was.departs +ℤ by)) fault.BeforeMidnight
      (Ok (with_shift t s by)) in
      let within : Result TimetableView EditFault = provided (is_within was sum) (fault.OutsideTolerance sum) late in
      let one = provided-ok was.live fault.NotLive within next e in
      let two = provided-ok (is_within was sum) (fault.OutsideTolerance sum) late next one.1 in
      let three = provided-ok (int_le (pos 0) (pos was.departs +ℤ by)) fault.BeforeMidnight (Ok (with_shift t s by)) next two.1 in
      let both = and_parts (int_le (neg_ℤ (pos was.early)) sum) (int_le sum (pos was.late)) two.0 in
      let may : MayShift was by = record {
        not_too_early = le-from (neg_ℤ (pos was.early)) sum both.0;
        not_too_late = le-from sum (pos was.late) both.1;
        departs = le-from (pos 0) (pos was.departs +ℤ by) three.0;
      } in
      put-in (Shift trip by) s (shifted was by) (there, sym found) (IsValidTrip-shifted t.places was by (valid.trips s _ there) may)
      (same-Ok (with_shift t s by) next three.1)

  -- a new trip in a slot of its own
  module _ (trip from to : List ℕ) (departs arrives : ℕ) (early : departs ≤ LAST_DEPARTURE) (soon : arrives ≤ LAST_DEPARTURE)
      (new : number_of (slot_names t) trip ≡ None) where
    extra-valid : (a b : ℕ) → a < length t.places → b < length t.places → class_of t.places a ≡ class_of t.places b → departs < arrives
        → IsValidTrip t.places (extra_trip t a b departs arrives)
    extra-valid a b start last same forward =
        let layover = (valid.each b (terminal_place [] 0) last).layover in
        record {
          from = start;
          to = last;
          one_class = same;
          forward = omega (arith, forward);
          early = valid.early;
          late = valid.late;
          not_too_early = omega (arith, ints);
          not_too_late = omega (arith, ints);
          departs_from_midnight = omega (arith, ints);
          departs_in_day = omega (arith, ints, early);
          ends_in_day = omega (arith, ints, soon, layover);
        }

    added-to : (a : ℕ) → a < length t.places → (o : Option ℕ) → number_of (place_names t) to ≡ o
        → extra_to t trip departs arrives a o ≡ Ok next → IsValidEdit (Extra trip from to departs arrives) t next
    added-to a there None none e = absurd (cc)
    added-to a there (Some b) found e =
        let added : Trip = extra_trip t a b departs arrives in
        let last : Result TimetableView EditFault = Ok (with_extra t trip added) in
        let room : Result TimetableView EditFault = provided (nat_lt (length t.slots) 4096) fault.TooManyTrips last in
        let forward : Result TimetableView EditFault = provided (nat_lt departs arrives) fault.NotForward room in
        let one = provided-ok (bytes_eq (class_of t.places a) (class_of t.places b)) fault.ClassesDiffer forward next e in
        let two = provided-ok (nat_lt departs arrives) fault.NotForward room next one.1 in
        let three = provided-ok (nat_lt (length t.slots) 4096) fault.TooManyTrips last next two.1 in
        let is = same-Ok (with_extra t trip added) next three.1 in
        record {
          slot = length t.slots;
          told = refl;
          valid = subst IsTimetable is
              (IsTimetable-push_slot t (record { name = trip; trip = added }) valid (number_of-None (slot_names t) trip new)
              (ltb-true (length t.slots) 4096 three.0)
              (extra-valid a b there (place-there to b found)
              ((bytes_eq-Decides (class_of t.places a) (class_of t.places b)).0 one.0) (ltb-true departs arrives two.0)));
          places = ap (λ (u : TimetableView). u.places) (sym is);
        }

    added-from : (o : Option ℕ) → number_of (place_names t) from ≡ o → extra_from t trip to departs arrives o ≡ Ok next
        → IsValidEdit (Extra trip from to departs arrives) t next
    added-from None none e = absurd (cc)
    added-from (Some a) found e = added-to a (place-there from a found) (number_of (place_names t) to) refl e

  added : (trip from to : List ℕ) (departs arrives : ℕ) → departs ≤ LAST_DEPARTURE → arrives ≤ LAST_DEPARTURE → (o : Option ℕ)
      → number_of (slot_names t) trip ≡ o → extra_new t trip from to departs arrives o ≡ Ok next
      → IsValidEdit (Extra trip from to departs arrives) t next
  added trip from to departs arrives early soon (Some s) found e = not-refused fault.TripExists next e
  added trip from to departs arrives early soon None new e =
      added-from trip from to departs arrives early soon new (number_of (place_names t) from) refl e

  pub valid-edit : (edit : Edit) → EditsTrip edit → InForm edit → edited t edit ≡ Ok next → IsValidEdit edit t next
  valid-edit (Shift trip by) trips form e = moved trip by (number_of (slot_names t) trip) refl e
  valid-edit (Cancel trip) trips form e = cancelled trip (number_of (slot_names t) trip) refl e
  valid-edit (Restore trip) trips form e = restored trip (number_of (slot_names t) trip) refl e
  valid-edit (Extra trip from to departs arrives) trips form e =
      added trip from to departs arrives form.1 form.2 (number_of (slot_names t) trip) refl e
  valid-edit edit trips form e = absurd trips
