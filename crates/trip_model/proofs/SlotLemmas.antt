-- What stays of a timetable as the trip of a slot changes and as the last slot is taken off, and what a copy has so far.
use Rattle.std.proofs.Common.{◌≡◌, ℕ, zero, suc, ◌+◌, ◌<◌, Bool, List, [], ◌∷◌, ◌++◌, length, get_or, set, take, All, ℤ, pos, ◌+ℤ◌, refl}
use Rattle.std.proofs.Common.{sym, ap, subst, ◌∙◌, arith}
use Rattle.std.specs.Prelude.{String, string_bytes, unsigned_abs}
use Rattle.std.proofs.Math.ListN.{get_or-append, length-set}
use Rattle.std.proofs.Math.Seq.{map-set_same}
use Rattle.std.proofs.lemmas.Int.{ints}
use Rattle.std.proofs.lemmas.List.{length-append, map-append, take_more}
use Rattle.std.proofs.lemmas.List.Elements.{All-set}
use Rattle.indexmap.specs.IndexMap.{set_value_at}
use Rattle.trip_model.specs.declared.timetable.Post.{Post}
use Rattle.trip_model.specs.declared.trip.Trip.{Trip}
use Rattle.trip_model.specs.Place.{Place, IsPlace, class_of}
use Rattle.trip_model.specs.Trip.{IsValidTrip, MayShift, shifted}
use Rattle.trip_model.specs.Timetable.{TimetableView, Slot, IsTimetable, AreDistinct, slot_names, place_at, slot_at, slots_of}
use Rattle.trip_model.specs.Timetable.{timetable_of, with_trip}

-- the slots that a map holds after a write by index
pub slots_of-set : {Y : Type 0} (es : List (String Y × Trip)) (s : ℕ) (trip : Trip) (d : Slot)
    → slots_of (set_value_at es s trip) ≡ set (slots_of es) s (record (get_or (slots_of es) s d) { trip = trip })
slots_of-set [] s trip d = refl
slots_of-set (e ∷ es) zero trip d = refl
slots_of-set (e ∷ es) (suc s) trip d = ap (λ rest. record { name = string_bytes e.0; trip = e.1 } ∷ rest) (slots_of-set es s trip d)

-- the timetable after the trip of a slot was written in its map
pub written_trip : {Y : Type 0} (classed : Bool) (es : List (String Y × Post)) (ts : List (String Y × Trip)) (early late i s : ℕ)
    (trip : Trip) (t : TimetableView)
    → timetable_of classed es ts early late ≡ t → i ≡ s → timetable_of classed es (set_value_at ts i trip) early late ≡ with_trip t s trip
written_trip classed es ts early late i s trip t view at =
    ap (λ slots. record (timetable_of classed es ts early late) { slots = slots }) (slots_of-set ts i trip _)
    ∙ λ j. with_trip (view j) (at j) trip

-- a timetable stays one with another valid trip in a slot
pub IsTimetable-with_trip : (t : TimetableView) (s : ℕ) (trip : Trip) → IsTimetable t → IsValidTrip t.places trip
    → IsTimetable (with_trip t s trip)
IsTimetable-with_trip t s trip valid now =
    let slot : Slot = record (slot_at t s) { trip = trip } in
    record {
      place_names = valid.place_names;
      slot_names = subst AreDistinct (sym (map-set_same (λ (q : Slot). q.name) t.slots s slot _ refl)) valid.slot_names;
      each = valid.each;
      trips = All-set (λ q. IsValidTrip t.places q.trip) t.slots s slot now valid.trips;
      places = valid.places;
      slots = omega (arith, valid.slots, length-set t.slots s slot);
      early = valid.early;
      late = valid.late;
    }

-- what holds of a list holds of its front
All-front : {X : Type 0} (P : X → Type 0) (xs ys : List X) → All P (xs ++ ys) → All P xs
All-front P xs ys all = λ i d lt. subst P (get_or-append xs ys d i lt) (all i d (omega (arith, length-append xs ys)))

-- the front of distinct names
AreDistinct-front : (names more : List (List ℕ)) → AreDistinct (names ++ more) → AreDistinct names
AreDistinct-front names more distinct = λ i j d before lt same.
    distinct i j d before (omega (arith, length-append names more))
    (get_or-append names more d i (omega arith) ∙ same ∙ sym (get_or-append names more d j lt))

-- a timetable stays one as the last slot is taken off
pub IsTimetable-pop_slot : (t : TimetableView) (s : Slot) → IsTimetable (record t { slots = t.slots ++ s ∷ [] }) → IsTimetable t
IsTimetable-pop_slot t s valid = record {
  place_names = valid.place_names;
  slot_names = AreDistinct-front (slot_names t) (s.name ∷ [])
      (subst AreDistinct (map-append (λ (q : Slot). q.name) t.slots (s ∷ [])) valid.slot_names);
  each = valid.each;
  trips = All-front (λ q. IsValidTrip t.places q.trip) t.slots (s ∷ []) valid.trips;
  places = valid.places;
  slots = omega (arith, valid.slots, length-append t.slots (s ∷ []));
  early = valid.early;
  late = valid.late;
}

-- a trip that may be moved by so many minutes stays valid
pub IsValidTrip-shifted : (places : List Place) (trip : Trip) (by : ℤ) → IsValidTrip places trip → MayShift trip by
    → IsValidTrip places (shifted trip by)
IsValidTrip-shifted places trip by valid may = record {
  from = valid.from;
  to = valid.to;
  one_class = valid.one_class;
  forward = omega (arith, ints, valid.forward, may.departs);
  early = valid.early;
  late = valid.late;
  not_too_early = may.not_too_early;
  not_too_late = may.not_too_late;
  departs_from_midnight = omega (arith, ints, valid.departs_from_midnight, may.departs);
  departs_in_day = omega (arith, ints, valid.departs_in_day, may.departs);
  ends_in_day = omega (arith, ints, valid.ends_in_day, valid.forward, may.departs);
}

-- a trip with these minutes is the trip moved by so many
pub shifted-is : (trip : Trip) (by : ℤ) (departs ends : ℕ) (offset : ℤ) → departs ≡ unsigned_abs (pos trip.departs +ℤ by)
    → ends ≡ unsigned_abs (pos trip.ends +ℤ by) → offset ≡ trip.offset +ℤ by
    → record trip { departs = departs; ends = ends; offset = offset } ≡ shifted trip by
shifted-is trip by departs ends offset departs_is ends_is offset_is =
    λ i. record trip { departs = departs_is i; ends = ends_is i; offset = offset_is i }

-- a place with the name, the terminal, the class and the layover of one of a timetable is that one
pub place-is : (t : TimetableView) (i : ℕ) (name terminal class : List ℕ) (layover : ℕ) → name ≡ (place_at t i).name
    → terminal ≡ (place_at t i).terminal → class ≡ class_of t.places i → layover ≡ (place_at t i).layover
    → record { name = name; terminal = terminal; class = class; layover = layover } ≡ place_at t i
unfolding class_of
place-is t i name terminal class layover name_is terminal_is class_is layover_is =
    λ j. record { name = name_is j; terminal = terminal_is j; class = class_is j; layover = layover_is j }

-- it may be pushed to a copy
pub IsPlace-copied : (t copy : TimetableView) (i : ℕ) (p : Place) → IsTimetable t → i < length t.places
    → copy ≡ record t { places = take i t.places; slots = [] } → p ≡ place_at t i → IsPlace copy.classed p
IsPlace-copied t copy i p valid lt so_far is =
    let at : IsPlace t.classed (place_at t i) = valid.each i _ lt in
    subst (λ classed. IsPlace classed p) (ap (λ (u : TimetableView). u.classed) (sym so_far)) (subst (IsPlace t.classed) (sym is) at)

-- the places of a copy so far with the next one are those with one more
pub places_go_on : (t copy next : TimetableView) (i : ℕ) (p : Place) → i < length t.places
    → copy ≡ record t { places = take i t.places; slots = [] } → p ≡ place_at t i
    → next ≡ record copy { places = copy.places ++ p ∷ [] } → next ≡ record t { places = take (i + 1) t.places; slots = [] }
places_go_on t copy next i p lt so_far is pushed =
    pushed ∙ (λ j. record (so_far j) { places = (so_far j).places ++ is j ∷ [] })
    ∙ ap (λ places. record t { places = places; slots = [] }) (sym (take_more t.places i _ lt))
