-- A script stays at the state of the machine.
use Rattle.std.proofs.Common.{◌≡◌, ℕ, zero, suc, ◌+◌, ◌-◌, ◌≤◌, ◌==◌, min, Bool, true, false, List, [], ◌∷◌, ◌++◌, length, drop, fold}
use Rattle.std.proofs.Common.{nat_lt, Result, Ok, Err, Some, refl, sym, ap, subst, ◌∙◌, arith, if◌then◌else◌}
use Rattle.std.specs.Prelude.{IsOk}
use Rattle.std.proofs.lemmas.List.{drop-append-le, drop-drop, length-append, length-drop, map-append, nil_from_length}
use Rattle.std.proofs.lemmas.List.Sums.{fold-append}
use Rattle.std.proofs.lemmas.Bool.Decides.{nat_tests}
use Rattle.trip_model.specs.Timetable.{TimetableView}
use Rattle.undo_log.specs.Log.{last_item}
use Rattle.edit_script.specs.declared.edit.Edit.{Edit}
use Rattle.edit_script.specs.declared.edit.Edit.TheVariants.{Shift, Cancel, Restore, Extra, Undo, Redo, Show}
use Rattle.edit_script.specs.declared.edit.Line.TheVariants as line
use Rattle.edit_script.specs.declared.edit.TheConstants.{MOST_SHOWS}
use Rattle.edit_script.specs.declared.fault.EditFault.{EditFault}
use Rattle.edit_script.specs.declared.fault.EditFault.TheVariants as fault
use Rattle.edit_script.specs.Changes.{edited}
use Rattle.edit_script.specs.Machine.{AreAlike, IsAt, Numbered, State, after_record, begun, if_accepted, machine, numbers_of, or_same}
use Rattle.edit_script.specs.Machine.{or_stays, state_after, timetable_at, with_record, with_redo, with_standing, with_undo}
use Rattle.edit_script.specs.Script.{ScriptView, all_but_last, if_edited, if_redone, if_undone, last_alone, opened, stepped, with_edit}
use Rattle.edit_script.specs.Timetables.{timetables_before, timetables_past}
use Rattle.edit_script.proofs.TimetablesLemmas.{all_but_last-push, timetables_before-push, last_alone-push, last_item-push}
use Rattle.edit_script.proofs.TimetablesLemmas.{length-timetables_before, timetables_past-push}

numbers_of-push : (records : List Numbered) (r : Numbered) → numbers_of (records ++ r ∷ []) ≡ numbers_of records ++ r.number ∷ []
numbers_of-push records r = map-append (λ (r : Numbered). r.number) records (r ∷ [])

fold-push : (base : TimetableView) (records : List Numbered) (r : Numbered)
    → fold after_record base (records ++ r ∷ []) ≡ after_record (fold after_record base records) r
fold-push base records r = fold-append after_record base records (r ∷ [])

-- a list is empty, or has a last item
data IsEnded {X : Type 0} (xs : List X) : Type 0 where
  empty : xs ≡ [] → IsEnded xs
  ended : (front : List X) (x : X) → xs ≡ front ++ x ∷ [] → IsEnded xs

IsEnded-cons : {X : Type 0} (y : X) (xs : List X) → IsEnded xs → IsEnded (y ∷ xs)
IsEnded-cons y xs (empty is) = ended [] y (ap (λ xs. y ∷ xs) is)
IsEnded-cons y xs (ended front x is) = ended (y ∷ front) x (ap (λ xs. y ∷ xs) is)

is_ended : {X : Type 0} (xs : List X) → IsEnded xs
is_ended [] = empty refl
is_ended (y ∷ xs) = IsEnded-cons y xs (is_ended xs)

-- as many can be undone as there are timetables before them
kept_le : (base : TimetableView) (m : State) (s : ScriptView) → IsAt base m s → m.kept ≤ length m.standing
kept_le base m s at =
    omega (
      arith,
      at.kept,
      ap length at.earlier,
      length-drop (length m.standing - m.kept) (timetables_before after_record base m.standing),
      length-timetables_before after_record base m.standing,
    )

-- the timetables before the edits that can be undone, with the one that stands
earlier-push : (base : TimetableView) (standing : List Numbered) (r : Numbered) (kept : ℕ) → kept ≤ length standing
    → drop (length standing - kept) (timetables_before after_record base standing) ++ fold after_record base standing
    ∷ [] ≡ drop (length standing - kept) (timetables_before after_record base (standing ++ r ∷ []))
earlier-push base standing r kept within =
    sym (ap (drop (length standing - kept)) (timetables_before-push after_record base standing r)
    ∙ drop-append-le (length standing - kept) (timetables_before after_record base standing) (fold after_record base standing ∷ [])
    (omega (arith, length-timetables_before after_record base standing)))

-- an edit of a trip
edit_alike : (base t : TimetableView) (m : State) (s : ScriptView) (r : Numbered) → IsAt base m s
    → after_record (timetable_at base m) r ≡ t → IsAt base (with_standing m r) (with_edit s r.number t)
edit_alike base t m s r at is =
    let within = kept_le base m s at in
    let all = timetables_before after_record base (m.standing ++ r ∷ []) in
    let so_far : s.earlier ++ s.timetable ∷ [] ≡ drop (length m.standing - m.kept) all =
    (λ i. at.earlier i ++ at.timetable i ∷ []) ∙ earlier-push base m.standing r m.kept within in
    let count : length (s.earlier ++ s.timetable ∷ []) ≡ m.kept + 1 = length-append s.earlier (s.timetable ∷ [])
    ∙ ap (λ n. n + 1) at.kept in
    let places : (length m.standing - m.kept) + (length (s.earlier ++ s.timetable ∷ []) - 256) ≡ length (m.standing ++ r ∷ []) - min
    (m.kept + 1) 256 =
    omega (arith, count, length-append m.standing (r ∷ [])) in
    record {
      timetable = sym is ∙ sym (fold-push base m.standing r);
      standing = ap (λ numbers. numbers ++ r.number ∷ []) at.standing ∙ sym (numbers_of-push m.standing r);
      undone = refl;
      kept = length-drop (length (s.earlier ++ s.timetable ∷ []) - 256) (s.earlier ++ s.timetable ∷ []) ∙ omega (arith, count);
      shows = at.shows;
      earlier = ap (drop (length (s.earlier ++ s.timetable ∷ []) - 256)) so_far
          ∙ drop-drop (length (s.earlier ++ s.timetable ∷ []) - 256) (length m.standing - m.kept) all ∙ ap (λ n. drop n all) places;
      later = refl;
    }

edited_alike : (base : TimetableView) (m : State) (s : ScriptView) (r : Numbered) (due : Result TimetableView EditFault) → IsAt base m s
    → after_record (timetable_at base m) r ≡ or_same (timetable_at base m) due
    → AreAlike base (if_edited s r.number due) (if_accepted m r due)
edited_alike base m s r (Ok t) at is = edit_alike base t m s r at is
edited_alike base m s r (Err refused) at is = refl

-- an edit of a trip, over the timetable that stands
trip_alike : (base : TimetableView) (m : State) (s : ScriptView) (number : ℕ) (edit : Edit) → IsAt base m s
    → AreAlike base (if_edited s number (edited s.timetable edit))
    (if_accepted m (record { number = number; line = line.Edit edit }) (edited (timetable_at base m) edit))
trip_alike base m s number edit at =
    let r : Numbered = record { number = number; line = line.Edit edit } in
    subst (λ t. AreAlike base (if_edited s number (edited t edit)) (if_accepted m r (edited (timetable_at base m) edit))) (sym at.timetable)
    (edited_alike base m s r (edited (timetable_at base m) edit) at refl)

-- an undo of the last record that stands
undone_alike : (base : TimetableView) (m : State) (s : ScriptView) (front : List Numbered) (r : Numbered) (kept : ℕ) → IsAt base m s
    → m.standing ≡ front ++ r ∷ [] → m.kept ≡ suc kept
    → AreAlike base (if_undone s (last_item s.earlier)) (Ok (with_undo m))
undone_alike base m s front r kept at is some =
    let within : kept ≤ length front = omega (arith, kept_le base m s at, ap length is, length-append front (r ∷ []), some) in
    let before = fold after_record base front in
    let first = drop (length front - kept) (timetables_before after_record base front) in
    let places : length m.standing - m.kept ≡ length front - kept = omega (arith, ap length is, length-append front (r ∷ []), some) in
    let earlier : s.earlier ≡ first ++ before ∷ [] =
    at.earlier ∙ (λ i. drop (places i) (timetables_before after_record base (is i))) ∙ sym (earlier-push base front r kept within) in
    let now : s.timetable ≡ after_record before r = at.timetable ∙ ap (fold after_record base) is ∙ fold-push base front r in
    let stands : s.standing ≡ numbers_of front ++ r.number ∷ [] = at.standing ∙ ap numbers_of is ∙ numbers_of-push front r in
    let last : last_item s.earlier ≡ Some before = ap last_item earlier ∙ last_item-push first before in
    let fewer : all_but_last m.standing ≡ front = ap all_but_last is ∙ all_but_last-push front r in
    let alone : last_alone m.standing ≡ r ∷ [] = ap last_alone is ∙ last_alone-push front r in
    let less : all_but_last s.earlier ≡ first = ap all_but_last earlier ∙ all_but_last-push first before in
    subst (λ last. AreAlike base (if_undone s last) (Ok (with_undo m))) (sym last) (record {
      timetable = ap (fold after_record base) (sym fewer);
      standing = ap all_but_last stands ∙ all_but_last-push (numbers_of front) r.number ∙ ap numbers_of (sym fewer);
      undone = (λ i. at.undone i ++ (ap last_alone stands ∙ last_alone-push (numbers_of front) r.number) i)
          ∙ sym (ap (λ alone. numbers_of (m.undone ++ alone)) alone ∙ numbers_of-push m.undone r);
      kept = ap length less ∙ length-drop (length front - kept) (timetables_before after_record base front)
          ∙ omega (arith, length-timetables_before after_record base front, some);
      shows = at.shows;
      earlier = less ∙ λ i. drop ((omega_places front kept m.kept some (all_but_last m.standing) fewer) i)
          (timetables_before after_record base (sym fewer i));
      later = (λ i. (at.later ∙ ap (λ t. timetables_past after_record t m.undone) (sym at.timetable ∙ now)) i ++ now i ∷ [])
          ∙ sym ((λ i. timetables_past after_record (fold after_record base (fewer i)) (m.undone ++ alone i))
          ∙ timetables_past-push after_record before m.undone r);
    })
  where
    omega_places : (front : List Numbered) (kept more : ℕ) → more ≡ suc kept → (fewer : List Numbered) → fewer ≡ front
        → length front - kept ≡ length fewer - (more - 1)
    omega_places front kept more some fewer is = omega (arith, ap length is)

suc-not_zero : (n : ℕ) → (suc n == 0) ≡ false
suc-not_zero n = grind (arith, nat_tests)

undo_alike : (base : TimetableView) (m : State) (s : ScriptView) (kept : ℕ) → IsAt base m s → m.kept ≡ kept
    → AreAlike base (if_undone s (last_item s.earlier)) (if kept == 0 then Err fault.NothingToUndo else Ok (with_undo m))
undo_alike base m s zero at none =
    let empty : s.earlier ≡ [] = nil_from_length s.earlier (at.kept ∙ none) in
    subst (λ earlier. AreAlike base (if_undone s (last_item earlier)) (Err fault.NothingToUndo)) (sym empty) refl
undo_alike base m s (suc kept) at some =
    subst (λ none. AreAlike base (if_undone s (last_item s.earlier)) (if none then Err fault.NothingToUndo else Ok (with_undo m)))
    (sym (suc-not_zero kept)) (by_end (is_ended m.standing))
  where
    by_end : IsEnded m.standing → AreAlike base (if_undone s (last_item s.earlier)) (Ok (with_undo m))
    by_end (empty is) = absurd (omega (arith, kept_le base m s at, ap length is, some))
    by_end (ended front r is) = undone_alike base m s front r kept at is some

-- a redo of the last record that was undone
redone_alike : (base : TimetableView) (m : State) (s : ScriptView) (front : List Numbered) (r : Numbered) → IsAt base m s
    → m.undone ≡ front ++ r ∷ []
    → AreAlike base (if_redone s (last_item s.later)) (Ok (with_redo m))
redone_alike base m s front r at is =
    let t = timetable_at base m in
    let next = after_record t r in
    let within = kept_le base m s at in
    let later : s.later ≡ timetables_past after_record next front ++ next ∷ [] = at.later ∙ ap (timetables_past after_record t) is
    ∙ timetables_past-push after_record t front r in
    let undone : s.undone ≡ numbers_of front ++ r.number ∷ [] = at.undone ∙ ap numbers_of is ∙ numbers_of-push front r in
    let last : last_item s.later ≡ Some next = ap last_item later ∙ last_item-push (timetables_past after_record next front) next in
    let fewer : all_but_last m.undone ≡ front = ap all_but_last is ∙ all_but_last-push front r in
    let alone : last_alone m.undone ≡ r ∷ [] = ap last_alone is ∙ last_alone-push front r in
    let stands : timetable_at base (with_redo m) ≡ next = ap (λ alone. fold after_record base (m.standing ++ alone)) alone
    ∙ fold-push base m.standing r in
    let all = timetables_before after_record base (m.standing ++ r ∷ []) in
    let places : length m.standing - m.kept ≡ length (m.standing ++ r ∷ []) - (m.kept + 1) =
    omega (arith, length-append m.standing (r ∷ [])) in
    subst (λ last. AreAlike base (if_redone s last) (Ok (with_redo m))) (sym last) (record {
      timetable = sym stands;
      standing = (λ i. at.standing i ++ (ap last_alone undone ∙ last_alone-push (numbers_of front) r.number) i)
          ∙ sym (ap (λ alone. numbers_of (m.standing ++ alone)) alone ∙ numbers_of-push m.standing r);
      undone = ap all_but_last undone ∙ all_but_last-push (numbers_of front) r.number ∙ ap numbers_of (sym fewer);
      kept = length-append s.earlier (s.timetable ∷ []) ∙ ap (λ n. n + 1) at.kept;
      shows = at.shows;
      earlier = (λ i. at.earlier i ++ at.timetable i ∷ []) ∙ earlier-push base m.standing r m.kept within ∙ ap (λ n. drop n all) places
          ∙ ap (λ alone. drop (length (m.standing ++ alone) - (m.kept + 1)) (timetables_before after_record base (m.standing ++ alone)))
          (sym alone);
      later = ap all_but_last later ∙ all_but_last-push (timetables_past after_record next front) next
          ∙ λ i. timetables_past after_record (sym stands i) (sym fewer i);
    })

redo_alike : (base : TimetableView) (m : State) (s : ScriptView) → IsAt base m s → IsEnded m.undone
    → AreAlike base (if_redone s (last_item s.later)) (if length m.undone == 0 then Err fault.NothingToRedo else Ok (with_redo m))
redo_alike base m s at (empty is) =
    let none : s.later ≡ [] = at.later ∙ ap (timetables_past after_record (timetable_at base m)) is in
    subst (λ later. AreAlike base (if_redone s (last_item later))
    (if length m.undone == 0 then Err fault.NothingToRedo else Ok (with_redo m))) (sym none)
    (subst (λ n. AreAlike base (Err fault.NothingToRedo) (if n == 0 then Err fault.NothingToRedo else Ok (with_redo m)))
    (sym (ap length is)) refl)
redo_alike base m s at (ended front r is) =
    subst (λ none. AreAlike base (if_redone s (last_item s.later)) (if none then Err fault.NothingToRedo else Ok (with_redo m)))
    (sym (ap (λ n. n == 0) (ap length is ∙ length-append front (r ∷ []) ∙ one_more (length front)) ∙ suc-not_zero (length front)))
    (redone_alike base m s front r at is)
  where
    one_more : (n : ℕ) → n + 1 ≡ suc n
    one_more n = omega arith

-- a show
show_alike : (base : TimetableView) (m : State) (s : ScriptView) (room : Bool) → IsAt base m s
    → AreAlike base (if room then Ok (record s { shows = s.shows + 1 }) else Err fault.TooManyShows)
    (if room then Ok (record m { shows = m.shows + 1 }) else Err fault.TooManyShows)
show_alike base m s true at = record {
  timetable = at.timetable;
  standing = at.standing;
  undone = at.undone;
  kept = at.kept;
  shows = ap (λ n. n + 1) at.shows;
  earlier = at.earlier;
  later = at.later;
}
show_alike base m s false at = refl

-- each edit
pub step_alike : (base : TimetableView) (m : State) (s : ScriptView) (number : ℕ) (edit : Edit) → IsAt base m s
    → AreAlike base (stepped s number edit) (state_after base m (record { number = number; line = line.Edit edit }))
step_alike base m s number (Shift trip by) at = trip_alike base m s number (Shift trip by) at
step_alike base m s number (Cancel trip) at = trip_alike base m s number (Cancel trip) at
step_alike base m s number (Restore trip) at = trip_alike base m s number (Restore trip) at
step_alike base m s number (Extra trip from to departs arrives) at = trip_alike base m s number (Extra trip from to departs arrives) at
step_alike base m s number Undo at = undo_alike base m s m.kept at refl
step_alike base m s number Redo at = redo_alike base m s at (is_ended m.undone)
step_alike base m s number Show at =
    subst (λ shows. AreAlike base (if nat_lt shows MOST_SHOWS then Ok (record s { shows = s.shows + 1 }) else Err fault.TooManyShows)
    (if nat_lt m.shows MOST_SHOWS then Ok (record m { shows = m.shows + 1 }) else Err fault.TooManyShows)) (sym at.shows)
    (show_alike base m s (nat_lt m.shows MOST_SHOWS) at)

-- one record more
machine-push : (base : TimetableView) (records : List Numbered) (r : Numbered)
    → machine base (records ++ r ∷ []) ≡ with_record base (machine base records) r
machine-push base records r = fold-append (with_record base) begun records (r ∷ [])

-- at the start
pub IsAt-start : (base : TimetableView) → IsAt base (machine base []) (opened base)
IsAt-start base = record { timetable = refl; standing = refl; undone = refl; kept = refl; shows = refl; earlier = refl; later = refl }

at_accepted : (base : TimetableView) (m : State) (s : ScriptView) (due : Result State EditFault) → AreAlike base (Ok s) due
    → IsOk due × IsAt base (or_stays m due) s
at_accepted base m s (Ok next) alike = (refl, alike)
at_accepted base m s (Err refused) alike = absurd alike

at_refused : (base : TimetableView) (m : State) (refused : EditFault) (due : Result State EditFault) → AreAlike base (Err refused) due
    → (due ≡ Err refused) × (or_stays m due ≡ m)
at_refused base m refused (Ok next) alike = absurd alike
at_refused base m refused (Err other) alike = (ap Err (sym alike), refl)

-- after a record that is accepted, one that is refused, and one of no form
pub IsAt-accepted : (base : TimetableView) (records : List Numbered) (s next : ScriptView) (number : ℕ) (edit : Edit)
    → IsAt base (machine base records) s → stepped s number edit ≡ Ok next
    → IsOk (state_after base (machine base records) (record { number = number; line = line.Edit edit }))
    × IsAt base (machine base (records ++ record { number = number; line = line.Edit edit } ∷ [])) next
IsAt-accepted base records s next number edit at is =
    let m = machine base records in
    let r : Numbered = record { number = number; line = line.Edit edit } in
    let alike = at_accepted base m next (state_after base m r)
    (subst (λ step. AreAlike base step (state_after base m r)) is (step_alike base m s number edit at)) in
    (alike.0, subst (λ m. IsAt base m next) (sym (machine-push base records r)) alike.1)

pub IsAt-refused : (base : TimetableView) (records : List Numbered) (s : ScriptView) (number : ℕ) (edit : Edit) (refused : EditFault)
    → IsAt base (machine base records) s → stepped s number edit ≡ Err refused
    → (state_after base (machine base records) (record { number = number; line = line.Edit edit }) ≡ Err refused)
    × IsAt base (machine base (records ++ record { number = number; line = line.Edit edit } ∷ [])) s
IsAt-refused base records s number edit refused at is =
    let m = machine base records in
    let r : Numbered = record { number = number; line = line.Edit edit } in
    let alike = at_refused base m refused (state_after base m r)
    (subst (λ step. AreAlike base step (state_after base m r)) is (step_alike base m s number edit at)) in
    (alike.0, subst (λ m. IsAt base m s) (sym (machine-push base records r ∙ alike.1)) at)

pub IsAt-no_edit : (base : TimetableView) (records : List Numbered) (s : ScriptView) (number : ℕ) → IsAt base (machine base records) s
    → IsAt base (machine base (records ++ record { number = number; line = line.NotAnEdit } ∷ [])) s
IsAt-no_edit base records s number at =
    subst (λ m. IsAt base m s) (sym (machine-push base records (record { number = number; line = line.NotAnEdit }))) at
