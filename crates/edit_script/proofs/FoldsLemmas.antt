-- The records that stand after a script fold, whatever was undone and redone: what stands and then what can be redone is one list
-- of edits, each of which was accepted over those before it.
use Rattle.std.proofs.Common.{◌≡◌, suc, ◌+◌, ◌-◌, ◌==◌, Bool, true, false, List, [], ◌∷◌, ◌++◌, drop, fold, length, reverse, Result, Ok}
use Rattle.std.proofs.Common.{Err, refl, sym, ap, subst, ◌∙◌, arith, if◌then◌else◌}
use Rattle.std.specs.Prelude.{IsOk, nat_lt}
use Rattle.std.proofs.lemmas.List.{append-nil, append_assoc, reverse-append, take-append-drop}
use Rattle.trip_model.specs.Timetable.{TimetableView}
use Rattle.edit_script.specs.declared.edit.Edit.{Edit}
use Rattle.edit_script.specs.declared.edit.Edit.TheVariants.{Shift, Cancel, Restore, Extra, Undo, Redo, Show}
use Rattle.edit_script.specs.declared.edit.Line.{Line}
use Rattle.edit_script.specs.declared.edit.Line.TheVariants as line
use Rattle.edit_script.specs.declared.edit.TheConstants.{MOST_SHOWS}
use Rattle.edit_script.specs.declared.fault.EditFault.{EditFault}
use Rattle.edit_script.specs.declared.fault.EditFault.TheVariants as fault
use Rattle.edit_script.specs.Changes.{edited}
use Rattle.edit_script.specs.Folds.{Folds, IsAccepted}
use Rattle.edit_script.specs.Machine.{Numbered, State, after_record, begun, if_accepted, machine, or_stays, state_by, timetable_at}
use Rattle.edit_script.specs.Machine.{with_record, with_redo, with_undo}
use Rattle.edit_script.specs.Script.{all_but_last, last_alone}

folds-append : (t : TimetableView) (one other : List Numbered) → Folds t one → Folds (fold after_record t one) other
    → Folds t (one ++ other)
folds-append t [] other first second = second
folds-append t (r ∷ one) other first second = (first.0, folds-append (after_record t r) one other first.1 second)

folds-front : (t : TimetableView) (one other : List Numbered) → Folds t (one ++ other) → Folds t one
folds-front t [] other all = tt
folds-front t (r ∷ one) other all = (all.0, folds-front (after_record t r) one other all.1)

-- a list is what is before its last item, and that item
parted : {X : Type 0} (xs : List X) → all_but_last xs ++ last_alone xs ≡ xs
parted xs = take-append-drop (length xs - 1) xs

-- which alone is the same in reverse
last-reverse : {X : Type 0} (xs : List X) → reverse (last_alone xs) ≡ last_alone xs
last-reverse [] = refl
last-reverse (x ∷ []) = refl
last-reverse (x ∷ y ∷ xs) = ap reverse next ∙ last-reverse (y ∷ xs) ∙ sym next
  where
    next : last_alone (x ∷ y ∷ xs) ≡ last_alone (y ∷ xs)
    next = let more : length (x ∷ y ∷ xs) - 1 ≡ suc (length (y ∷ xs) - 1) = omega arith in ap (λ n. drop n (x ∷ y ∷ xs)) more

-- what stands, and then what can be redone, the next first
abbrev history : State → List Numbered
history m = m.standing ++ reverse m.undone

history-undo : (m : State) → history (with_undo m) ≡ history m
history-undo m =
    ap (λ rs. all_but_last m.standing ++ rs)
    (reverse-append m.undone (last_alone m.standing) ∙ ap (λ rs. rs ++ reverse m.undone) (last-reverse m.standing))
    ∙ sym (append_assoc (all_but_last m.standing) (last_alone m.standing) (reverse m.undone))
    ∙ ap (λ rs. rs ++ reverse m.undone) (parted m.standing)

history-redo : (m : State) → history (with_redo m) ≡ history m
history-redo m =
    append_assoc m.standing (last_alone m.undone) (reverse (all_but_last m.undone))
    ∙ ap (λ rs. m.standing ++ rs)
    (ap (λ rs. rs ++ reverse (all_but_last m.undone)) (sym (last-reverse m.undone))
    ∙ sym (reverse-append (all_but_last m.undone) (last_alone m.undone)) ∙ ap reverse (parted m.undone))

module _ (base : TimetableView) (m : State) (r : Numbered) (folds : Folds base (history m)) where
  abbrev Stays : Result State EditFault → Type 0
  Stays due = Folds base (history (or_stays m due))

  edit-stays : (edit : Edit) → r.line ≡ line.Edit edit → (due : Result TimetableView EditFault) → edited (timetable_at base m) edit ≡ due
      → Stays (if_accepted m r due)
  edit-stays edit is (Err refused) e = folds
  edit-stays edit is (Ok changed) e =
      subst (Folds base) (sym (append-nil (m.standing ++ r ∷ [])))
      (folds-append base m.standing (r ∷ []) (folds-front base m.standing (reverse m.undone) folds)
      (subst (IsAccepted (timetable_at base m)) (sym is) (subst IsOk (sym e) refl), tt))

  undo-stays : (none : Bool) → Stays (if none then Err fault.NothingToUndo else Ok (with_undo m))
  undo-stays true = folds
  undo-stays false = subst (Folds base) (sym (history-undo m)) folds

  redo-stays : (none : Bool) → Stays (if none then Err fault.NothingToRedo else Ok (with_redo m))
  redo-stays true = folds
  redo-stays false = subst (Folds base) (sym (history-redo m)) folds

  show-stays : (few : Bool) → Stays (if few then Ok (record m { shows = m.shows + 1 }) else Err fault.TooManyShows)
  show-stays true = folds
  show-stays false = folds

  line-stays : (l : Line) → r.line ≡ l → Stays (state_by (timetable_at base m) m r l)
  line-stays line.NotAnEdit is = folds
  line-stays (line.Edit Undo) is = undo-stays (m.kept == 0)
  line-stays (line.Edit Redo) is = redo-stays (length m.undone == 0)
  line-stays (line.Edit Show) is = show-stays (nat_lt m.shows MOST_SHOWS)
  line-stays (line.Edit (Shift trip by)) is = edit-stays (Shift trip by) is (edited (timetable_at base m) (Shift trip by)) refl
  line-stays (line.Edit (Cancel trip)) is = edit-stays (Cancel trip) is (edited (timetable_at base m) (Cancel trip)) refl
  line-stays (line.Edit (Restore trip)) is = edit-stays (Restore trip) is (edited (timetable_at base m) (Restore trip)) refl
  line-stays (line.Edit (Extra trip from to departs arrives)) is =
      edit-stays (Extra trip from to departs arrives) is (edited (timetable_at base m) (Extra trip from to departs arrives)) refl

records-fold : (base : TimetableView) (m : State) (records : List Numbered) → Folds base (history m)
    → Folds base (history (fold (with_record base) m records))
records-fold base m [] folds = folds
records-fold base m (r ∷ records) folds = records-fold base (with_record base m r) records (line-stays base m r folds r.line refl)

pub standing-folds : (base : TimetableView) (records : List Numbered) → Folds base (machine base records).standing
standing-folds base records =
    let m = machine base records in
    folds-front base m.standing (reverse m.undone) (records-fold base begun records tt)
