-- What is done to the trip in a slot touches that slot.
use Rattle.std.proofs.Common.{◌≡◌, ◌≢◌, ℕ, zero, suc, ◌<◌, List, [], ◌∷◌, ◌++◌, length, set, slice_get, Option, Some, None, refl, sym, ap}
use Rattle.std.proofs.Common.{subst, ◌∙◌, arith}
use Rattle.std.specs.Option.{option_map}
use Rattle.std.proofs.Math.ListN.{length-set}
use Rattle.std.proofs.lemmas.Int.{ints}
use Rattle.std.proofs.lemmas.Bool.{false≢true}
use Rattle.std.proofs.lemmas.Option.{slice_get-get_or, slice_get_past}
use Rattle.trip_model.specs.declared.trip.Trip.{Trip}
use Rattle.trip_model.specs.Timetable.{Slot, TimetableView, slot_at, with_trip}
use Rattle.edit_script.specs.declared.changes.Change.{Change}
use Rattle.edit_script.specs.declared.changes.Made.{Made}
use Rattle.edit_script.specs.declared.changes.Made.TheVariants.{Moved, Cancelled, Restored, Added}
use Rattle.edit_script.specs.Changes.{with_extra}
use Rattle.edit_script.specs.Made.{CanMake, WasMade, with_made, without_change}
use Rattle.edit_script.specs.Script.{IsChangedIn, IsTouchedIn, trip_in}
use Rattle.edit_script.proofs.MadeLemmas.{slot_at-with_trip, with_trip-back}
use Rattle.edit_script.proofs.TimetablesLemmas.{slice_get-push}

slice_get-set_same : {X : Type 0} (xs : List X) (i : ℕ) (x : X) → i < length xs → slice_get (set xs i x) i ≡ Some x
slice_get-set_same [] i x within = absurd (omega arith)
slice_get-set_same (y ∷ xs) zero x within = refl
slice_get-set_same (y ∷ xs) (suc i) x within = slice_get-set_same xs i x (omega arith)

-- the trip in a slot that is there, and in one where it was put
trip_in-there : (t : TimetableView) (s : ℕ) → s < length t.slots → trip_in t s ≡ Some (slot_at t s).trip
trip_in-there t s within = ap (option_map (λ (slot : Slot). slot.trip)) (slice_get-get_or t.slots s _ within)

trip_in-put : (t : TimetableView) (s : ℕ) (trip : Trip) → s < length t.slots → trip_in (with_trip t s trip) s ≡ Some trip
trip_in-put t s trip within = ap (option_map (λ (slot : Slot). slot.trip)) (slice_get-set_same t.slots s _ within)

-- another trip is put into a slot
IsTouchedIn-put : (t : TimetableView) (s : ℕ) (trip : Trip) → s < length t.slots → (slot_at t s).trip ≢ trip
    → IsTouchedIn (Some s) (trip_in t s) (trip_in (with_trip t s trip) s) t (with_trip t s trip)
IsTouchedIn-put t s trip within differs =
    subst (λ before. IsTouchedIn (Some s) before (trip_in (with_trip t s trip) s) t (with_trip t s trip)) (sym (trip_in-there t s within))
    (subst (λ after. IsTouchedIn (Some s) (Some (slot_at t s).trip) after t (with_trip t s trip)) (sym (trip_in-put t s trip within))
    (record { slot = within; trip = refl; differs = differs; timetable = refl }))

-- one is added in a new last slot
IsTouchedIn-added : (t : TimetableView) (s : ℕ) (name : List ℕ) (trip : Trip) → s ≡ length t.slots
    → IsTouchedIn (Some s) (trip_in t s) (trip_in (with_extra t name trip) s) t (with_extra t name trip)
IsTouchedIn-added t s name trip last =
    let slot : Slot = record { name = name; trip = trip } in
    let none : slice_get t.slots s ≡ None = slice_get_past t.slots s (omega (arith, last)) in
    let some : slice_get (t.slots ++ slot ∷ []) s ≡ Some slot = ap (slice_get (t.slots ++ slot ∷ [])) last ∙ slice_get-push t.slots slot in
    subst (λ before. IsTouchedIn (Some s) before (trip_in (with_extra t name trip) s) t (with_extra t name trip))
    (sym (ap (option_map (λ (slot : Slot). slot.trip)) none))
    (subst (λ after. IsTouchedIn (Some s) None after t (with_extra t name trip)) (sym (ap (option_map (λ (slot : Slot). slot.trip)) some))
    (record { slot = last; timetable = (name, refl) }))

-- what is done to the trip in a slot touches it
pub IsTouchedIn-with_made : (t : TimetableView) (s : ℕ) (made : Made) → CanMake t s made
    → IsTouchedIn (Some s) (trip_in t s) (trip_in (with_made t s made) s) t (with_made t s made)
IsTouchedIn-with_made t s (Moved by) can =
    IsTouchedIn-put t s _ can.slot (λ same. let off = ap (λ (trip : Trip). trip.offset) same in omega (arith, ints, can.moves, off))
IsTouchedIn-with_made t s Cancelled can =
    IsTouchedIn-put t s _ can.0 (λ same. false≢true (sym (sym can.1 ∙ ap (λ (trip : Trip). trip.live) same)))
IsTouchedIn-with_made t s Restored can = IsTouchedIn-put t s _ can.0 (λ same. false≢true (sym can.1 ∙ ap (λ (trip : Trip). trip.live) same))
IsTouchedIn-with_made t s (Added name trip) can = IsTouchedIn-added t s name trip can.slot

IsChangedIn-back : (s : ℕ) (before after : Trip) (old new : TimetableView) → IsChangedIn s before after old new
    → IsChangedIn s after before new old
IsChangedIn-back s before after old new is = record {
  slot = subst (λ (t : TimetableView). s < length t.slots) (sym is.timetable)
      (omega (arith, is.slot, length-set old.slots s (record (slot_at old s) { trip = after })));
  trip = sym (ap (λ t. (slot_at t s).trip) is.timetable ∙ ap (λ (slot : Slot). slot.trip) (slot_at-with_trip old s after is.slot));
  differs = λ same. is.differs (sym same);
  timetable = sym (ap (λ t. with_trip t s before) is.timetable ∙ with_trip-back old s after before is.slot is.trip);
}

IsTouchedIn-back : (s : ℕ) (before after : Option Trip) (old new : TimetableView) → IsTouchedIn (Some s) before after old new
    → IsTouchedIn (Some s) after before new old
IsTouchedIn-back s (Some before) (Some after) old new is = IsChangedIn-back s before after old new is
IsTouchedIn-back s None (Some after) old new is = is
IsTouchedIn-back s (Some before) None old new is = is
IsTouchedIn-back s None None old new is = absurd is

-- and so does what is taken back
pub IsTouchedIn-without_change : (t : TimetableView) (change : Change) → WasMade t change
    → IsTouchedIn (Some change.slot) (trip_in t change.slot) (trip_in (without_change t change) change.slot) t (without_change t change)
IsTouchedIn-without_change t change was =
    let u = without_change t change in
    IsTouchedIn-back change.slot (trip_in u change.slot) (trip_in t change.slot) u t
    (subst (λ now. IsTouchedIn (Some change.slot) (trip_in u change.slot) (trip_in now change.slot) u now) was.again
    (IsTouchedIn-with_made u change.slot change.made was.makes))

-- the trips that calls tell of the slot
pub IsTouched-told : (s : ℕ) (before after : Option Trip) (old now due : TimetableView) → before ≡ trip_in old s → after ≡ trip_in now s
    → now ≡ due → IsTouchedIn (Some s) (trip_in old s) (trip_in due s) old due
    → IsTouchedIn (Some s) before after old now
IsTouched-told s before after old now due before_is after_is now_is is =
    subst (λ before. IsTouchedIn (Some s) before after old now) (sym before_is)
    (subst (λ after. IsTouchedIn (Some s) (trip_in old s) after old now) (sym after_is)
    (subst (λ t. IsTouchedIn (Some s) (trip_in old s) (trip_in t s) old t) (sym now_is) is))
