-- A script follows the edit machine over the records of a feed, and no edit changes the places.
use Rattle.std.proofs.Common.{◌≡◌, ◌≢◌, ℕ, suc, ◌+◌, Bool, true, false, not, List, [], ◌∷◌, ◌++◌, length, fold, Option, None, Some, Result}
use Rattle.std.proofs.Common.{Ok, Err, nat_lt, ◌||◌, ℤ, pos, refl, sym, ap, subst, ◌∙◌, arith}
use Rattle.std.specs.Prelude.{IsOk, int_le, is_some, ◌+ℤ◌}
use Rattle.std.specs.Str.{bytes_eq}
use Rattle.std.proofs.lemmas.Bool.{false≢true}
use Rattle.trip_model.specs.declared.limits.TheConstants.{MOST_SLOTS}
use Rattle.trip_model.specs.Place.{class_of}
use Rattle.trip_model.specs.Timetable.{TimetableView, number_of, place_names, slot_at, slot_names}
use Rattle.trip_model.specs.Fleet.{with_shift}
use Rattle.edit_script.specs.declared.edit.Edit.{Edit}
use Rattle.edit_script.specs.declared.edit.Edit.TheVariants.{Shift, Cancel, Restore, Extra, Undo, Redo, Show}
use Rattle.edit_script.specs.declared.edit.Line.{Line}
use Rattle.edit_script.specs.declared.edit.Line.TheVariants as line
use Rattle.edit_script.specs.declared.fault.EditFault.{EditFault}
use Rattle.edit_script.specs.declared.fault.EditFault.TheVariants as fault
use Rattle.edit_script.specs.Changes.{cancelled_at, edited, extra_from, extra_new, extra_to, extra_trip, is_within, provided, restored_at}
use Rattle.edit_script.specs.Changes.{shifted_at, with_extra, with_live}
use Rattle.edit_script.specs.Follow.{IsLineAt}
use Rattle.edit_script.specs.Machine.{IsAt, Numbered, State, after_line, after_record, machine, or_same}
use Rattle.edit_script.specs.Script.{IsRefusal, ScriptView}
use Rattle.desk_feed.specs.Script.{AreRefusals, IsStepped, first_records, line_at, record_at, refusal_in, refusal_text, refused_to}
use Rattle.desk_feed.specs.Script.{gathered, some_refused, standing_at, state_at, step_at}

-- the records of a moment, and what was put of them
pub first-none : (lines : List Line) → first_records lines 0 ≡ []
unfolding first_records gathered
first-none lines = refl

pub first-next : (lines : List Line) (n k : ℕ) → k ≡ n + 1 → first_records lines k ≡ first_records lines n ++ record_at lines n ∷ []
unfolding first_records gathered
first-next lines n k e = let next : k ≡ suc n = omega (arith, e) in ap (first_records lines) next

pub refused-none : (base : TimetableView) (lines : List Line) → refused_to base lines 0 ≡ []
unfolding refused_to gathered
refused-none base lines = refl

pub refused-next : (base : TimetableView) (lines : List Line) (n k : ℕ) → k ≡ n + 1
    → refused_to base lines k ≡ refused_to base lines n ++ refusal_text (n + 1) (line_at lines n) (refusal_in (step_at base lines n))
unfolding refused_to gathered
refused-next base lines n k e = let next : k ≡ suc n = omega (arith, e) in ap (refused_to base lines) next

pub some-none : (base : TimetableView) (lines : List Line) → some_refused base lines 0 ≡ false
unfolding some_refused gathered
some-none base lines = refl

pub some-next : (base : TimetableView) (lines : List Line) (n k : ℕ) → k ≡ n + 1
    → some_refused base lines k ≡ (some_refused base lines n || is_some (refusal_in (step_at base lines n)))
unfolding some_refused gathered
some-next base lines n k e = let next : k ≡ suc n = omega (arith, e) in ap (some_refused base lines) next

-- a step of the machine that is accepted has no refusal
pub none-refused : (due : Result State EditFault) → IsOk due → None ≡ refusal_in due
none-refused (Ok m) is = refl
none-refused (Err refused) is = absurd (false≢true is)

-- a refusal that is not lack of memory is that of the script
pub refusal-named : (refused : EditFault) (edit : Edit) (due : Result ScriptView EditFault) → refused ≢ fault.Memory
    → IsRefusal refused edit due → due ≡ Err refused
refusal-named fault.Memory edit due named is = absurd (named refl)
refusal-named refused edit due named is = is

-- what a record does is that of its place
pub IsStepped-at : (lines : List Line) (n number : ℕ) (l : Line) (refused : Option EditFault) (old new : ScriptView) → number ≡ n + 1
    → IsLineAt lines n l → IsStepped number l refused old new → IsStepped (n + 1) (line_at lines n) refused old new
IsStepped-at lines n number l refused old new number_is at stepped =
    subst (λ number. IsStepped number (line_at lines n) refused old new) number_is
    (subst (λ l. IsStepped number l refused old new) (at.is line.NotAnEdit) stepped)

-- before the first record, and after one more
pub refusals-none : (base : TimetableView) (lines : List Line) (script : ScriptView) → IsAt base (machine base []) script
    → AreRefusals base lines 0 script [] false
refusals-none base lines script at = record {
  at = subst (λ records. IsAt base (machine base records) script) (sym (first-none lines)) at;
  text_is = sym (refused-none base lines);
  some_is = sym (some-none base lines);
}

pub refusals-next : (base : TimetableView) (lines : List Line) (n : ℕ) (refused : Option EditFault) (old new : ScriptView)
    (text more : List ℕ) (some some_more : Bool) → AreRefusals base lines n old text some
    → IsStepped (n + 1) (line_at lines n) refused old new → more ≡ text ++ refusal_text (n + 1) (line_at lines n) refused
    → some_more ≡ (some || is_some refused) → AreRefusals base lines (n + 1) new more some_more
refusals-next base lines n refused old new text more some some_more so_far stepped put some_is =
    let step = stepped base (first_records lines n) so_far.at in
    record {
      at = subst (λ records. IsAt base (machine base records) new) (sym (first-next lines n (n + 1) refl)) step.1;
      text_is = put ∙ (λ i. so_far.text_is i ++ refusal_text (n + 1) (line_at lines n) (step.0 i))
          ∙ sym (refused-next base lines n (n + 1) refl);
      some_is = some_is ∙ (λ i. so_far.some_is i || is_some (step.0 i)) ∙ sym (some-next base lines n (n + 1) refl);
    }

-- no edit changes the places
abbrev Keeps : TimetableView → Result TimetableView EditFault → Type 0
Keeps t due = (or_same t due).places ≡ t.places

keeps-provided : (t : TimetableView) (holds : Bool) (refused : EditFault) (rest : Result TimetableView EditFault) → Keeps t rest
    → Keeps t (provided holds refused rest)
keeps-provided t true refused rest keeps = keeps
keeps-provided t false refused rest keeps = refl

module _ (t : TimetableView) where
  keeps-shifted : (by : ℤ) (slot : Option ℕ) → Keeps t (shifted_at t by slot)
  keeps-shifted by None = refl
  keeps-shifted by (Some s) =
      let trip = (slot_at t s).trip in
      let kept : Result TimetableView EditFault = Ok (with_shift t s by) in
      let late : Result TimetableView EditFault = provided (int_le (pos 0) (pos trip.departs +ℤ by)) fault.BeforeMidnight kept in
      let far : Result TimetableView EditFault =
      provided (is_within trip (trip.offset +ℤ by)) (fault.OutsideTolerance (trip.offset +ℤ by)) late in
      keeps-provided t trip.live fault.NotLive far
      (keeps-provided t (is_within trip (trip.offset +ℤ by)) (fault.OutsideTolerance (trip.offset +ℤ by)) late
      (keeps-provided t (int_le (pos 0) (pos trip.departs +ℤ by)) fault.BeforeMidnight kept refl))

  keeps-cancelled : (slot : Option ℕ) → Keeps t (cancelled_at t slot)
  keeps-cancelled None = refl
  keeps-cancelled (Some s) = keeps-provided t (slot_at t s).trip.live fault.NotLive (Ok (with_live t s false)) refl

  keeps-restored : (slot : Option ℕ) → Keeps t (restored_at t slot)
  keeps-restored None = refl
  keeps-restored (Some s) = keeps-provided t (not (slot_at t s).trip.live) fault.NotCancelled (Ok (with_live t s true)) refl

  keeps-to : (name : List ℕ) (departs arrives from : ℕ) (to : Option ℕ) → Keeps t (extra_to t name departs arrives from to)
  keeps-to name departs arrives from None = refl
  keeps-to name departs arrives from (Some to) =
      let kept : Result TimetableView EditFault = Ok (with_extra t name (extra_trip t from to departs arrives)) in
      let many : Result TimetableView EditFault = provided (nat_lt (length t.slots) MOST_SLOTS) fault.TooManyTrips kept in
      let back : Result TimetableView EditFault = provided (nat_lt departs arrives) fault.NotForward many in
      keeps-provided t (bytes_eq (class_of t.places from) (class_of t.places to)) fault.ClassesDiffer back
      (keeps-provided t (nat_lt departs arrives) fault.NotForward many
      (keeps-provided t (nat_lt (length t.slots) MOST_SLOTS) fault.TooManyTrips kept refl))

  keeps-from : (name to : List ℕ) (departs arrives : ℕ) (from : Option ℕ) → Keeps t (extra_from t name to departs arrives from)
  keeps-from name to departs arrives None = refl
  keeps-from name to departs arrives (Some from) = keeps-to name departs arrives from (number_of (place_names t) to)

  keeps-new : (name from to : List ℕ) (departs arrives : ℕ) (slot : Option ℕ) → Keeps t (extra_new t name from to departs arrives slot)
  keeps-new name from to departs arrives (Some s) = refl
  keeps-new name from to departs arrives None = keeps-from name to departs arrives (number_of (place_names t) from)

  keeps-edited : (edit : Edit) → Keeps t (edited t edit)
  keeps-edited (Shift trip by) = keeps-shifted by (number_of (slot_names t) trip)
  keeps-edited (Cancel trip) = keeps-cancelled (number_of (slot_names t) trip)
  keeps-edited (Restore trip) = keeps-restored (number_of (slot_names t) trip)
  keeps-edited (Extra trip from to departs arrives) = keeps-new trip from to departs arrives (number_of (slot_names t) trip)
  keeps-edited Undo = refl
  keeps-edited Redo = refl
  keeps-edited Show = refl

  keeps-line : (line : Line) → (after_line t line).places ≡ t.places
  keeps-line (line.Edit edit) = keeps-edited edit
  keeps-line line.NotAnEdit = refl

places-after : (base : TimetableView) (records : List Numbered) → (fold after_record base records).places ≡ base.places
places-after base [] = refl
places-after base (r ∷ records) = places-after (after_record base r) records ∙ keeps-line base r.line

-- the places are those of the base timetable at each moment
pub standing-places : (base : TimetableView) (lines : List Line) (m : ℕ) → (standing_at base lines m).places ≡ base.places
standing-places base lines m = places-after base (state_at base lines m).standing
