-- Timetables that agree on every name but one.
use Rattle.std.proofs.Common.{◌≡◌, ◌≢◌, ℕ, ◌≤◌, ℤ, pos, ◌+ℤ◌, Bool, true, false, cond, not, List, [], ◌∷◌, ◌++◌, length, Option, Some}
use Rattle.std.proofs.Common.{None, Result, Ok, Err, refl, sym, ap, subst, ◌∙◌, nat_lt, arith}
use Rattle.std.specs.Prelude.{IsOk, int_le}
use Rattle.std.specs.Str.{bytes_eq}
use Rattle.std.proofs.Math.ListN.{length-set}
use Rattle.std.proofs.lemmas.Bool.{false≢true}
use Rattle.std.proofs.lemmas.Bool.Decides.{nat_tests}
use Rattle.std.proofs.lemmas.List.{length-append}
use Rattle.std.proofs.lemmas.Slice.Eq.{bytes_eq-Decides}
use Rattle.trip_model.specs.declared.limits.TheConstants.{MOST_SLOTS}
use Rattle.trip_model.specs.declared.trip.Trip.{Trip}
use Rattle.trip_model.specs.Place.{class_of}
use Rattle.trip_model.specs.Timetable.{TimetableView, Slot, number_of, place_names, slot_at, with_trip}
use Rattle.trip_model.specs.Trip.{shifted}
use Rattle.edit_script.specs.declared.edit.Edit.{Edit}
use Rattle.edit_script.specs.declared.edit.Edit.TheVariants.{Shift, Cancel, Restore, Extra, Undo, Redo, Show}
use Rattle.edit_script.specs.declared.fault.EditFault.{EditFault}
use Rattle.edit_script.specs.declared.fault.EditFault.TheVariants as fault
use Rattle.edit_script.specs.Changes.{cancelled_at, edited, extra_from, extra_new, extra_to, extra_trip, is_within, provided, restored_at}
use Rattle.edit_script.specs.Changes.{shifted_at, with_extra}
use Rattle.edit_script.specs.Machine.{or_same}
use Rattle.edit_script.specs.Edits.{trip_of}
use Rattle.planner_desk.proofs.Slots.{names_of, trip_among, trip_among-None, trip_among-Some, trip_among-added, trip_among-new}
use Rattle.planner_desk.proofs.Slots.{trip_among-other, trip_among-put, with_slot}

-- two lists of slots agree on the trips of every name but one, and the second has no more slots
pub record Agree (name : List ℕ) (one other : List Slot) : Type 0 where
  pub names : (asked : List ℕ) → asked ≢ name → trip_among one asked ≡ trip_among other asked
  pub fewer : length other ≤ length one

-- a timetable with other slots
abbrev pub with_slots : TimetableView → List Slot → TimetableView
with_slots t slots = record t { slots = slots }

-- an edit that was accepted over a timetable is accepted with other slots, and afterwards they agree again
pub record GoesOn (name : List ℕ) (after : TimetableView) (due : Result TimetableView EditFault) : Type 0 where
  pub slots : List Slot
  pub accepted : due ≡ Ok (with_slots after slots)
  pub agree : Agree name after.slots slots

-- the slot past the last
abbrev past : Slot
past = record { name = []; trip = record { from = 0; to = 0; departs = 0; ends = 0; offset = pos 0; early = 0; late = 0; live = false } }

-- what is done to a trip, put into its slot
abbrev put_trip : TimetableView → ℕ → Result Trip EditFault → Result TimetableView EditFault
put_trip t s (Ok trip) = Ok (with_trip t s trip)
put_trip t s (Err refused) = Err refused

abbrev put_at : TimetableView → (Trip → Result Trip EditFault) → Option ℕ → Result TimetableView EditFault
put_at t f None = Err fault.UnknownTrip
put_at t f (Some s) = put_trip t s (f (slot_at t s).trip)

-- what is done to the trip of a shift, a cancellation and a restoration
abbrev passing : Bool → EditFault → Result Trip EditFault → Result Trip EditFault
passing holds refused rest = cond holds rest (Err refused)

abbrev shift_trip : ℤ → Trip → Result Trip EditFault
shift_trip by trip =
    passing trip.live fault.NotLive (
    passing (is_within trip (trip.offset +ℤ by)) (fault.OutsideTolerance (trip.offset +ℤ by)) (
    passing (int_le (pos 0) (pos trip.departs +ℤ by)) fault.BeforeMidnight (
    Ok (shifted trip by))))

abbrev cancel_trip : Trip → Result Trip EditFault
cancel_trip trip = passing trip.live fault.NotLive (Ok (record trip { live = false }))

abbrev restore_trip : Trip → Result Trip EditFault
restore_trip trip = passing (not trip.live) fault.NotCancelled (Ok (record trip { live = true }))

put-passing : (t : TimetableView) (s : ℕ) (holds : Bool) (refused : EditFault) (rest : Result Trip EditFault)
    (due : Result TimetableView EditFault) → put_trip t s rest ≡ due
    → put_trip t s (passing holds refused rest) ≡ provided holds refused due
put-passing t s true refused rest due is = is
put-passing t s false refused rest due is = refl

shifted-is_put : (t : TimetableView) (by : ℤ) (o : Option ℕ) → shifted_at t by o ≡ put_at t (shift_trip by) o
shifted-is_put t by None = refl
shifted-is_put t by (Some s) =
    let trip = (slot_at t s).trip in
    sym (put-passing t s trip.live fault.NotLive _ _
    (put-passing t s (is_within trip (trip.offset +ℤ by)) (fault.OutsideTolerance (trip.offset +ℤ by)) _ _
    (put-passing t s (int_le (pos 0) (pos trip.departs +ℤ by)) fault.BeforeMidnight (Ok (shifted trip by)) _ refl)))

cancelled-is_put : (t : TimetableView) (o : Option ℕ) → cancelled_at t o ≡ put_at t cancel_trip o
cancelled-is_put t None = refl
cancelled-is_put t (Some s) = let trip = (slot_at t s).trip in
    sym (put-passing t s trip.live fault.NotLive (Ok (record trip { live = false })) _ refl)

restored-is_put : (t : TimetableView) (o : Option ℕ) → restored_at t o ≡ put_at t restore_trip o
restored-is_put t None = refl
restored-is_put t (Some s) = let trip = (slot_at t s).trip in
    sym (put-passing t s (not trip.live) fault.NotCancelled (Ok (record trip { live = true })) _ refl)

some-inj : {X : Type 0} (x y : X) → Some x ≡ Some y → x ≡ y
some-inj x y e = cc

module _ (name : List ℕ) (t : TimetableView) (slots : List Slot) (agree : Agree name t.slots slots) (trip_name : List ℕ) where
  -- they agree again after the same trip was put into the slots of the same name
  put-names : (n m : ℕ) (trip : Trip) → number_of (names_of t.slots) trip_name ≡ Some n → number_of (names_of slots) trip_name ≡ Some m
      → (asked : List ℕ) → asked ≢ name → (same : Bool) → bytes_eq asked trip_name ≡ same
      → trip_among (with_slot past t.slots n trip) asked ≡ trip_among (with_slot past slots m trip) asked
  put-names n m trip at_n at_m asked differs true same =
      let is : asked ≡ trip_name = (bytes_eq-Decides asked trip_name).0 same in
      subst (λ asked. trip_among (with_slot past t.slots n trip) asked ≡ trip_among (with_slot past slots m trip) asked) (sym is)
      (trip_among-put past t.slots trip_name trip n at_n ∙ sym (trip_among-put past slots trip_name trip m at_m))
  put-names n m trip at_n at_m asked differs false same =
      let other : asked ≢ trip_name = λ is. false≢true (sym same ∙ (bytes_eq-Decides asked trip_name).1 is) in
      trip_among-other past t.slots trip_name asked trip other n at_n ∙ agree.names asked differs
      ∙ sym (trip_among-other past slots trip_name asked trip other m at_m)

  put-done : (n m : ℕ) → number_of (names_of t.slots) trip_name ≡ Some n → number_of (names_of slots) trip_name ≡ Some m
      → (done : Result Trip EditFault) → IsOk (put_trip t n done)
      → GoesOn name (or_same t (put_trip t n done)) (put_trip (with_slots t slots) m done)
  put-done n m at_n at_m (Ok trip) ok = record {
    slots = with_slot past slots m trip;
    accepted = refl;
    agree = record {
      names = λ asked differs. put-names n m trip at_n at_m asked differs (bytes_eq asked trip_name) refl;
      fewer = omega (
        arith,
        agree.fewer,
        length-set t.slots n (record (slot_at t n) { trip = trip }),
        length-set slots m
            (record (slot_at (with_slots t slots) m) { trip = trip }),
      );
    };
  }
  put-done n m at_n at_m (Err refused) ok = absurd (false≢true ok)

  -- what is done to the trip of a name on which they agree is done with the other slots too
  put-found : trip_name ≢ name → (f : Trip → Result Trip EditFault) (o p : Option ℕ) → number_of (names_of t.slots) trip_name ≡ o
      → number_of (names_of slots) trip_name ≡ p → IsOk (put_at t f o)
      → GoesOn name (or_same t (put_at t f o)) (put_at (with_slots t slots) f p)
  put-found differs f None p at_n at_m ok = absurd (false≢true ok)
  put-found differs f (Some n) None at_n at_m ok =
      let there = trip_among-Some past t.slots trip_name n at_n in
      let gone = trip_among-None slots trip_name at_m in
      let same = agree.names trip_name differs in
      cc
  put-found differs f (Some n) (Some m) at_n at_m ok =
      let same : (slot_at t n).trip ≡ (slot_at (with_slots t slots) m).trip =
      some-inj _ _ (sym (trip_among-Some past t.slots trip_name n at_n) ∙ agree.names trip_name differs
      ∙ trip_among-Some past slots trip_name m at_m) in
      subst (λ trip. GoesOn name (or_same t (put_trip t n (f (slot_at t n).trip))) (put_trip (with_slots t slots) m (f trip))) same
      (put-done n m at_n at_m (f (slot_at t n).trip) ok)

  put-goes_on : trip_name ≢ name → (f : Trip → Result Trip EditFault) → IsOk (put_at t f (number_of (names_of t.slots) trip_name))
      → GoesOn name (or_same t (put_at t f (number_of (names_of t.slots) trip_name)))
      (put_at (with_slots t slots) f (number_of (names_of slots) trip_name))
  put-goes_on differs f = put-found differs f (number_of (names_of t.slots) trip_name) (number_of (names_of slots) trip_name) refl refl

  -- they agree again after the same new trip was added to both
  added-names : (trip : Trip) → trip_among t.slots trip_name ≡ None → trip_among slots trip_name ≡ None → (asked : List ℕ) → asked ≢ name
      → (same : Bool) → bytes_eq asked trip_name ≡ same
      → trip_among (t.slots ++ record { name = trip_name; trip = trip } ∷ []) asked ≡ trip_among
      (slots ++ record { name = trip_name; trip = trip } ∷ []) asked
  added-names trip new_one new_other asked differs true same =
      let is : asked ≡ trip_name = (bytes_eq-Decides asked trip_name).0 same in
      subst (λ asked. trip_among (t.slots ++ record { name = trip_name; trip = trip } ∷ []) asked ≡ trip_among
      (slots ++ record { name = trip_name; trip = trip } ∷ []) asked) (sym is)
      (trip_among-new t.slots trip_name trip new_one ∙ sym (trip_among-new slots trip_name trip new_other))
  added-names trip new_one new_other asked differs false same =
      let other : asked ≢ trip_name = λ is. false≢true (sym same ∙ (bytes_eq-Decides asked trip_name).1 is) in
      trip_among-added t.slots trip_name asked trip other ∙ agree.names asked differs
      ∙ sym (trip_among-added slots trip_name asked trip other)

  -- an extra trip by the tests of its ends and of the room
  extra-tests : trip_among t.slots trip_name ≡ None → trip_among slots trip_name ≡ None
      → (trip : Trip) (one_class forward room more : Bool) → (room ≡ true → more ≡ true)
      → IsOk (provided one_class fault.ClassesDiffer
      (provided forward fault.NotForward (provided room fault.TooManyTrips (Ok (with_extra t trip_name trip)))))
      → GoesOn name (or_same t (provided one_class fault.ClassesDiffer
      (provided forward fault.NotForward (provided room fault.TooManyTrips (Ok (with_extra t trip_name trip))))))
      (provided one_class fault.ClassesDiffer
      (provided forward fault.NotForward (provided more fault.TooManyTrips (Ok (with_extra (with_slots t slots) trip_name trip)))))
  extra-tests new_one new_other trip true true true more has_room ok = record {
    slots = slots ++ record { name = trip_name; trip = trip } ∷ [];
    accepted = ap (λ more. provided more fault.TooManyTrips (Ok (with_extra (with_slots t slots) trip_name trip))) (has_room refl);
    agree = record {
      names = λ asked differs. added-names trip new_one new_other asked differs (bytes_eq asked trip_name) refl;
      fewer = omega (
        arith,
        agree.fewer,
        length-append t.slots (record { name = trip_name; trip = trip } ∷ []),
        length-append slots
            (record { name = trip_name; trip = trip } ∷ []),
      );
    };
  }
  extra-tests new_one new_other trip true true false more has_room ok = absurd (false≢true ok)
  extra-tests new_one new_other trip true false room more has_room ok = absurd (false≢true ok)
  extra-tests new_one new_other trip false forward room more has_room ok = absurd (false≢true ok)

  room-stays : nat_lt (length t.slots) MOST_SLOTS ≡ true → nat_lt (length slots) MOST_SLOTS ≡ true
  room-stays room = let fewer = agree.fewer in grind (arith, nat_tests)

  extra-to : trip_among t.slots trip_name ≡ None → trip_among slots trip_name ≡ None → (departs arrives from : ℕ) (to : Option ℕ)
      → IsOk (extra_to t trip_name departs arrives from to)
      → GoesOn name (or_same t (extra_to t trip_name departs arrives from to))
      (extra_to (with_slots t slots) trip_name departs arrives from to)
  extra-to new_one new_other departs arrives from None ok = absurd (false≢true ok)
  extra-to new_one new_other departs arrives from (Some to) ok =
      extra-tests new_one new_other (extra_trip t from to departs arrives) (bytes_eq (class_of t.places from) (class_of t.places to))
      (nat_lt departs arrives) (nat_lt (length t.slots) MOST_SLOTS) (nat_lt (length slots) MOST_SLOTS) room-stays ok

  extra-from : trip_among t.slots trip_name ≡ None → trip_among slots trip_name ≡ None
      → (to : List ℕ) (departs arrives : ℕ) (from : Option ℕ) → IsOk (extra_from t trip_name to departs arrives from)
      → GoesOn name (or_same t (extra_from t trip_name to departs arrives from))
      (extra_from (with_slots t slots) trip_name to departs arrives from)
  extra-from new_one new_other to departs arrives None ok = absurd (false≢true ok)
  extra-from new_one new_other to departs arrives (Some from) ok =
      extra-to new_one new_other departs arrives from (number_of (place_names t) to) ok

  extra-found : trip_name ≢ name → (from to : List ℕ) (departs arrives : ℕ) (o p : Option ℕ) → number_of (names_of t.slots) trip_name ≡ o
      → number_of (names_of slots) trip_name ≡ p
      → IsOk (extra_new t trip_name from to departs arrives o)
      → GoesOn name (or_same t (extra_new t trip_name from to departs arrives o))
      (extra_new (with_slots t slots) trip_name from to departs arrives p)
  extra-found differs from to departs arrives (Some n) p at_n at_m ok = absurd (false≢true ok)
  extra-found differs from to departs arrives None (Some m) at_n at_m ok =
      let gone = trip_among-None t.slots trip_name at_n in
      let there = trip_among-Some past slots trip_name m at_m in
      let same = agree.names trip_name differs in
      cc
  extra-found differs from to departs arrives None None at_n at_m ok =
      extra-from (trip_among-None t.slots trip_name at_n) (trip_among-None slots trip_name at_m) to departs arrives
      (number_of (place_names t) from) ok

-- the same of what was put, said of equal results
goes_on-by : (name : List ℕ) (t : TimetableView) (one one_is other other_is : Result TimetableView EditFault) → one ≡ one_is
    → other ≡ other_is → (IsOk one_is → GoesOn name (or_same t one_is) other_is)
    → IsOk one → GoesOn name (or_same t one) other
goes_on-by name t one one_is other other_is e f go ok =
    subst (λ other. GoesOn name (or_same t one) other) (sym f)
    (subst (λ one. GoesOn name (or_same t one) other_is) (sym e) (go (subst IsOk e ok)))

-- an edit of another trip that is accepted over a timetable is accepted with other slots that agree, and they agree again
pub edit-goes_on : (name : List ℕ) (t : TimetableView) (slots : List Slot) (edit : Edit) → Agree name t.slots slots → trip_of edit ≢ name
    → IsOk (edited t edit)
    → GoesOn name (or_same t (edited t edit)) (edited (with_slots t slots) edit)
edit-goes_on name t slots (Shift trip by) agree differs =
    goes_on-by name t _ _ _ _ (shifted-is_put t by (number_of (names_of t.slots) trip))
    (shifted-is_put (with_slots t slots) by (number_of (names_of slots) trip))
    (put-goes_on name t slots agree trip differs (shift_trip by))
edit-goes_on name t slots (Cancel trip) agree differs =
    goes_on-by name t _ _ _ _ (cancelled-is_put t (number_of (names_of t.slots) trip))
    (cancelled-is_put (with_slots t slots) (number_of (names_of slots) trip)) (put-goes_on name t slots agree trip differs cancel_trip)
edit-goes_on name t slots (Restore trip) agree differs =
    goes_on-by name t _ _ _ _ (restored-is_put t (number_of (names_of t.slots) trip))
    (restored-is_put (with_slots t slots) (number_of (names_of slots) trip)) (put-goes_on name t slots agree trip differs restore_trip)
edit-goes_on name t slots (Extra trip from to departs arrives) agree differs =
    extra-found name t slots agree trip differs from to departs arrives (number_of (names_of t.slots) trip)
    (number_of (names_of slots) trip) refl refl
edit-goes_on name t slots Undo agree differs = λ ok. record { slots = slots; accepted = refl; agree = agree }
edit-goes_on name t slots Redo agree differs = λ ok. record { slots = slots; accepted = refl; agree = agree }
edit-goes_on name t slots Show agree differs = λ ok. record { slots = slots; accepted = refl; agree = agree }

-- a timetable differs from the one before an edit in the slots alone, and agrees with it on every name but the edit's
pub record DiffersIn (name : List ℕ) (before after : TimetableView) : Type 0 where
  pub slots_alone : with_slots after before.slots ≡ before
  pub agree : Agree name after.slots before.slots

put-differs : (t : TimetableView) (name : List ℕ) (f : Trip → Result Trip EditFault) (n : ℕ) → number_of (names_of t.slots) name ≡ Some n
    → (done : Result Trip EditFault) → IsOk (put_trip t n done)
    → DiffersIn name t (or_same t (put_trip t n done))
put-differs t name f n at (Ok trip) ok = record {
  slots_alone = refl;
  agree = record {
    names = λ asked differs. trip_among-other past t.slots name asked trip differs n at;
    fewer = omega (arith, length-set t.slots n (record (slot_at t n) { trip = trip }));
  };
}
put-differs t name f n at (Err refused) ok = absurd (false≢true ok)

put_at-differs : (t : TimetableView) (name : List ℕ) (f : Trip → Result Trip EditFault) (o : Option ℕ)
    → number_of (names_of t.slots) name ≡ o → (due : Result TimetableView EditFault) → due ≡ put_at t f o → IsOk due
    → DiffersIn name t (or_same t due)
put_at-differs t name f None at due is ok = absurd (false≢true (subst IsOk is ok))
put_at-differs t name f (Some n) at due is ok =
    subst (λ due. DiffersIn name t (or_same t due)) (sym is) (put-differs t name f n at (f (slot_at t n).trip) (subst IsOk is ok))

extra-differs-tests : (t : TimetableView) (name : List ℕ) (trip : Trip) (one_class forward room : Bool)
    → IsOk (provided one_class fault.ClassesDiffer
    (provided forward fault.NotForward (provided room fault.TooManyTrips (Ok (with_extra t name trip)))))
    → DiffersIn name t (or_same t (provided one_class fault.ClassesDiffer
    (provided forward fault.NotForward (provided room fault.TooManyTrips (Ok (with_extra t name trip))))))
extra-differs-tests t name trip true true true ok = record {
  slots_alone = refl;
  agree = record {
    names = λ asked differs. trip_among-added t.slots name asked trip differs;
    fewer = omega (arith, length-append t.slots (record { name = name; trip = trip } ∷ []));
  };
}
extra-differs-tests t name trip true true false ok = absurd (false≢true ok)
extra-differs-tests t name trip true false room ok = absurd (false≢true ok)
extra-differs-tests t name trip false forward room ok = absurd (false≢true ok)

extra-differs-to : (t : TimetableView) (name : List ℕ) (departs arrives from : ℕ) (to : Option ℕ)
    → IsOk (extra_to t name departs arrives from to) → DiffersIn name t (or_same t (extra_to t name departs arrives from to))
extra-differs-to t name departs arrives from None ok = absurd (false≢true ok)
extra-differs-to t name departs arrives from (Some to) ok =
    extra-differs-tests t name (extra_trip t from to departs arrives) (bytes_eq (class_of t.places from) (class_of t.places to))
    (nat_lt departs arrives) (nat_lt (length t.slots) MOST_SLOTS) ok

extra-differs-from : (t : TimetableView) (name to : List ℕ) (departs arrives : ℕ) (from : Option ℕ)
    → IsOk (extra_from t name to departs arrives from) → DiffersIn name t (or_same t (extra_from t name to departs arrives from))
extra-differs-from t name to departs arrives None ok = absurd (false≢true ok)
extra-differs-from t name to departs arrives (Some from) ok = extra-differs-to t name departs arrives from (number_of (place_names t) to) ok

extra-differs : (t : TimetableView) (name from to : List ℕ) (departs arrives : ℕ) (o : Option ℕ)
    → IsOk (extra_new t name from to departs arrives o) → DiffersIn name t (or_same t (extra_new t name from to departs arrives o))
extra-differs t name from to departs arrives (Some n) ok = absurd (false≢true ok)
extra-differs t name from to departs arrives None ok = extra-differs-from t name to departs arrives (number_of (place_names t) from) ok

same-differs : (name : List ℕ) (t : TimetableView) → DiffersIn name t t
same-differs name t = record { slots_alone = refl; agree = record { names = λ asked differs. refl; fewer = omega arith } }

-- an accepted edit changes the state of its own name alone
pub edit-differs : (t : TimetableView) (edit : Edit) → IsOk (edited t edit) → DiffersIn (trip_of edit) t (or_same t (edited t edit))
edit-differs t (Shift trip by) ok =
    put_at-differs t trip (shift_trip by) (number_of (names_of t.slots) trip) refl _
    (shifted-is_put t by (number_of (names_of t.slots) trip)) ok
edit-differs t (Cancel trip) ok =
    put_at-differs t trip cancel_trip (number_of (names_of t.slots) trip) refl _ (cancelled-is_put t (number_of (names_of t.slots) trip)) ok
edit-differs t (Restore trip) ok =
    put_at-differs t trip restore_trip (number_of (names_of t.slots) trip) refl _ (restored-is_put t (number_of (names_of t.slots) trip)) ok
edit-differs t (Extra trip from to departs arrives) ok = extra-differs t trip from to departs arrives (number_of (names_of t.slots) trip) ok
edit-differs t Undo ok = same-differs [] t
edit-differs t Redo ok = same-differs [] t
edit-differs t Show ok = same-differs [] t
