-- What stands after edits follows what stood before them.
use Rattle.std.proofs.Common.{◌≡◌, ℕ, ◌<◌, ◌≤◌, Bool, true, false, List, [], ◌∷◌, length, take, fold, Option, None, Some, Result, Ok, ℤ}
use Rattle.std.proofs.Common.{pos, ◌+ℤ◌, ◌≤ℤ◌, nat_lt, not, refl, sym, ap, subst, ◌∙◌, arith, inl, inr}
use Rattle.std.specs.Prelude.{int_le}
use lib.Signed.{le_z_yes}
use lib.Dec.{T}
use Rattle.std.specs.Str.{bytes_eq}
use Rattle.std.proofs.Math.Seq.{map-set_same}
use Rattle.std.proofs.lemmas.Bool.{cases_eq}
use Rattle.std.proofs.lemmas.Int.{ints}
use Rattle.std.proofs.lemmas.List.{get_or-set_other, get_or-set_same, get_or_append_left, length-map, length-take, map-append}
use Rattle.std.proofs.lemmas.List.{take-append-le, take_all}
use Rattle.trip_model.specs.declared.limits.TheConstants.{MOST_SLOTS}
use Rattle.trip_model.specs.declared.trip.Trip.{Trip}
use Rattle.trip_model.specs.Place.{class_of}
use Rattle.trip_model.specs.Timetable.{TimetableView, Slot, number_of, place_names, slot_at, slot_names, with_trip}
use Rattle.trip_model.specs.Trip.{shifted}
use Rattle.trip_model.specs.Fleet.{with_shift}
use Rattle.edit_script.specs.declared.edit.Edit.{Edit}
use Rattle.edit_script.specs.declared.edit.Edit.TheVariants.{Shift, Cancel, Restore, Extra, Undo, Redo, Show}
use Rattle.edit_script.specs.declared.edit.Line.{Line}
use Rattle.edit_script.specs.declared.edit.Line.TheVariants as line
use Rattle.edit_script.specs.declared.fault.EditFault.{EditFault}
use Rattle.edit_script.specs.declared.fault.EditFault.TheVariants as fault
use Rattle.edit_script.specs.Changes.{cancelled_at, edited, extra_from, extra_new, extra_to, extra_trip, is_within, provided, restored_at}
use Rattle.edit_script.specs.Changes.{shifted_at, with_extra, with_live}
use Rattle.edit_script.specs.Machine.{Numbered, after_line, after_record, machine, or_same}
use Rattle.written_laws.specs.Follows.{AreForward, IsEditedFrom, IsSameTrip}
use Rattle.written_laws.specs.Laws as spec

-- a trip, and what is done to it, are the same trip
same-trip : (trip : Trip) → IsSameTrip trip trip
same-trip trip = record { from = refl; to = refl; departs = refl; ends = refl; early = refl; late = refl }

same-then : (one two three : Trip) → IsSameTrip one two → IsSameTrip two three → IsSameTrip one three
same-then one two three first second = record {
  from = second.from ∙ first.from;
  to = second.to ∙ first.to;
  departs = second.departs ∙ first.departs;
  ends = second.ends ∙ first.ends;
  early = second.early ∙ first.early;
  late = second.late ∙ first.late;
}

shifted-same : (trip : Trip) (by : ℤ) → trip.departs < trip.ends → pos 0 ≤ℤ (pos trip.departs +ℤ by) → IsSameTrip trip (shifted trip by)
shifted-same trip by forward from =
    record { from = refl; to = refl; departs = omega (arith, ints); ends = omega (arith, ints); early = refl; late = refl }

shifted-stays : (trip : Trip) (by : ℤ) → trip.departs < trip.ends → pos 0 ≤ℤ (pos trip.departs +ℤ by)
    → IsSameTrip trip (shifted trip by) × ((shifted trip by).departs < (shifted trip by).ends)
shifted-stays trip by forward from = (shifted-same trip by forward from, omega (arith, ints))

-- a timetable follows another, and its trips of the other end after they depart
record StaysOn (base t : TimetableView) : Type 0 where
  follows : IsEditedFrom base t
  forward : (s : ℕ) → s < length base.slots → (slot_at t s).trip.departs < (slot_at t s).trip.ends

-- it has at least the slots of the other
enough : (base t : TimetableView) → IsEditedFrom base t → length base.slots ≤ length t.slots
enough base t follows =
    omega (
      arith,
      ap length follows.names,
      length-take (length base.slots) (slot_names t),
      length-map t.slots (λ (s : Slot). s.name),
      length-map base.slots (λ (s : Slot). s.name),
    )

module _ (base t : TimetableView) (on : StaysOn base t) where
  -- with another trip in a slot
  with_trip-on : (s : ℕ) (trip : Trip) → (s < length base.slots → IsSameTrip (slot_at t s).trip trip × (trip.departs < trip.ends))
      → StaysOn base (with_trip t s trip)
  with_trip-on s trip stays = record {
    follows = record {
      names = ap (take (length base.slots)) (map-set_same (λ (q : Slot). q.name) t.slots s (record (slot_at t s) { trip = trip }) _ refl)
          ∙ on.follows.names;
      trips = λ n within. at n within (λ now. IsSameTrip (slot_at base n).trip now) (on.follows.trips n within)
          (λ e. same-then (slot_at base n).trip (slot_at t s).trip trip
          (subst (λ k. IsSameTrip (slot_at base n).trip (slot_at t k).trip) e (on.follows.trips n within))
          (stays (omega (arith, within, e))).0);
    };
    forward = λ n within. at n within (λ (now : Trip). now.departs < now.ends) (on.forward n within)
        (λ e. (stays (omega (arith, within, e))).1);
  }
    where
      at : (n : ℕ) → n < length base.slots → (P : Trip → Type 0) → P (slot_at t n).trip → (n ≡ s → P trip)
          → P (slot_at (with_trip t s trip) n).trip
      at n within P before now = elim (cases_eq n s) [
        | inl same ↦
            let there : s < length t.slots = omega (arith, within, same, enough base t on.follows) in
            subst P (sym (ap (λ k. (slot_at (with_trip t s trip) k).trip) same
            ∙ ap (λ (slot : Slot). slot.trip) (get_or-set_same t.slots s (record (slot_at t s) { trip = trip }) _ there))) (now same)
        | inr other ↦ subst P (sym (ap (λ (slot : Slot). slot.trip)
            (get_or-set_other t.slots s n (record (slot_at t s) { trip = trip }) _ other))) before
      ]

  -- with one more slot
  with_extra-on : (name : List ℕ) (trip : Trip) → StaysOn base (with_extra t name trip)
  with_extra-on name trip =
      let slot : Slot = record { name = name; trip = trip } in
      let some = enough base t on.follows in
      record {
        follows = record {
          names = ap (take (length base.slots)) (map-append (λ (q : Slot). q.name) t.slots (slot ∷ []))
              ∙ take-append-le (length base.slots) (slot_names t) (name ∷ [])
              (omega (arith, some, length-map t.slots (λ (q : Slot). q.name))) ∙ on.follows.names;
          trips = λ n within. subst (λ (q : Slot). IsSameTrip (slot_at base n).trip q.trip)
              (sym (get_or_append_left t.slots (slot ∷ []) _ n (omega (arith, some, within)))) (on.follows.trips n within);
        };
        forward = λ n within. subst (λ (q : Slot). q.trip.departs < q.trip.ends)
            (sym (get_or_append_left t.slots (slot ∷ []) _ n (omega (arith, some, within)))) (on.forward n within);
      }

-- an edit is accepted only where all its tests hold, and otherwise changes nothing
keeps-provided : (base t : TimetableView) (holds : Bool) (refused : EditFault) (rest : Result TimetableView EditFault) → StaysOn base t
    → (holds ≡ true → StaysOn base (or_same t rest)) → StaysOn base (or_same t (provided holds refused rest))
keeps-provided base t true refused rest on keeps = keeps refl
keeps-provided base t false refused rest on keeps = on

-- each edit of a trip
module _ (base t : TimetableView) (on : StaysOn base t) where
  shifted-on : (by : ℤ) (slot : Option ℕ) → StaysOn base (or_same t (shifted_at t by slot))
  shifted-on by None = on
  shifted-on by (Some s) =
      let trip = (slot_at t s).trip in
      let kept : Result TimetableView EditFault = Ok (with_shift t s by) in
      let late : Result TimetableView EditFault = provided (int_le (pos 0) (pos trip.departs +ℤ by)) fault.BeforeMidnight kept in
      let far : Result TimetableView EditFault =
      provided (is_within trip (trip.offset +ℤ by)) (fault.OutsideTolerance (trip.offset +ℤ by)) late in
      keeps-provided base t trip.live fault.NotLive far on
      (λ _. keeps-provided base t (is_within trip (trip.offset +ℤ by)) (fault.OutsideTolerance (trip.offset +ℤ by)) late on
      (λ _. keeps-provided base t (int_le (pos 0) (pos trip.departs +ℤ by)) fault.BeforeMidnight kept on
      (λ from. with_trip-on base t on s (shifted trip by)
      (λ within. shifted-stays trip by (on.forward s within) (le_z_yes (subst T (sym from) tt))))))

  live-on : (s : ℕ) (live : Bool) → StaysOn base (with_live t s live)
  live-on s live = with_trip-on base t on s (record (slot_at t s).trip { live = live }) (λ within.
      (record { from = refl; to = refl; departs = refl; ends = refl; early = refl; late = refl }, on.forward s within))

  cancelled-on : (slot : Option ℕ) → StaysOn base (or_same t (cancelled_at t slot))
  cancelled-on None = on
  cancelled-on (Some s) = keeps-provided base t (slot_at t s).trip.live fault.NotLive (Ok (with_live t s false)) on (λ _. live-on s false)

  restored-on : (slot : Option ℕ) → StaysOn base (or_same t (restored_at t slot))
  restored-on None = on
  restored-on (Some s) = keeps-provided base t (not (slot_at t s).trip.live) fault.NotCancelled (Ok (with_live t s true)) on
      (λ _. live-on s true)

  extra-to-on : (name : List ℕ) (departs arrives from : ℕ) (to : Option ℕ)
      → StaysOn base (or_same t (extra_to t name departs arrives from to))
  extra-to-on name departs arrives from None = on
  extra-to-on name departs arrives from (Some to) =
      let kept : Result TimetableView EditFault = Ok (with_extra t name (extra_trip t from to departs arrives)) in
      let many : Result TimetableView EditFault = provided (nat_lt (length t.slots) MOST_SLOTS) fault.TooManyTrips kept in
      let back : Result TimetableView EditFault = provided (nat_lt departs arrives) fault.NotForward many in
      keeps-provided base t (bytes_eq (class_of t.places from) (class_of t.places to)) fault.ClassesDiffer back on
      (λ _. keeps-provided base t (nat_lt departs arrives) fault.NotForward many on
      (λ _. keeps-provided base t (nat_lt (length t.slots) MOST_SLOTS) fault.TooManyTrips kept on
      (λ _. with_extra-on base t on name (extra_trip t from to departs arrives))))

  extra-from-on : (name to : List ℕ) (departs arrives : ℕ) (from : Option ℕ)
      → StaysOn base (or_same t (extra_from t name to departs arrives from))
  extra-from-on name to departs arrives None = on
  extra-from-on name to departs arrives (Some from) = extra-to-on name departs arrives from (number_of (place_names t) to)

  extra-on : (name from to : List ℕ) (departs arrives : ℕ) (slot : Option ℕ)
      → StaysOn base (or_same t (extra_new t name from to departs arrives slot))
  extra-on name from to departs arrives (Some s) = on
  extra-on name from to departs arrives None = extra-from-on name to departs arrives (number_of (place_names t) from)

  edited-on : (edit : Edit) → StaysOn base (or_same t (edited t edit))
  edited-on (Shift trip by) = shifted-on by (number_of (slot_names t) trip)
  edited-on (Cancel trip) = cancelled-on (number_of (slot_names t) trip)
  edited-on (Restore trip) = restored-on (number_of (slot_names t) trip)
  edited-on (Extra trip from to departs arrives) = extra-on trip from to departs arrives (number_of (slot_names t) trip)
  edited-on Undo = on
  edited-on Redo = on
  edited-on Show = on

  line-on : (line : Line) → StaysOn base (after_line t line)
  line-on (line.Edit edit) = edited-on edit
  line-on line.NotAnEdit = on

-- records one after the other
records-on : (base t : TimetableView) (records : List Numbered) → StaysOn base t → StaysOn base (fold after_record t records)
records-on base t [] on = on
records-on base t (r ∷ records) on = records-on base (after_record t r) records (line-on base t on r.line)

-- a timetable follows itself
itself : (base : TimetableView) → AreForward base → StaysOn base base
itself base forward = record {
  follows = record {
    names = take_all (length base.slots) (slot_names base) (omega (arith, length-map base.slots (λ (s : Slot). s.name)));
    trips = λ s within. same-trip (slot_at base s).trip;
  };
  forward = λ s within. forward s _ within;
}

pub standing-follows : spec.StandingFollows
standing-follows base records forward = (records-on base base (machine base records).standing (itself base forward)).follows
