-- The plans of a desk after an edit, one by one.
use Rattle.std.proofs.Common.{◌≡◌, ℕ, suc, ◌-◌, ◌<◌, List, [], ◌∷◌, ◌++◌, length, slice_get, take, Some, refl, sym, ap, ◌∙◌, arith}
use Rattle.std.specs.Prelude.{unwrap_or}
use Rattle.std.proofs.lemmas.List.{length-append}
use Rattle.std.proofs.lemmas.Option.{same_Some}
use Rattle.std.proofs.Math.Seq.{take-append_seam}
use Rattle.deadhead_matrix.specs.Matrix.{MatrixView}
use Rattle.edit_script.specs.Changes.{IsSlotOf}
use Rattle.edit_script.specs.Edits.{EditsTrip}
use Rattle.edit_script.specs.Script.{all_but_last}
use Rattle.edit_script.specs.declared.edit.Edit.{Edit}
use Rattle.edit_script.specs.declared.edit.Edit.TheVariants.{Shift, Cancel, Restore, Extra, Undo, Redo, Show}
use Rattle.trip_model.specs.Timetable.{TimetableView}
use Rattle.undo_log.specs.Log.{latest_items, last_item}
use Rattle.undo_log.proofs.LastItem.{take_last_item}
use Rattle.desk_core.specs.Computed.{PlansView, edited_slot, plan_repaired, plans_after, plans_back, plans_forth}

-- the last of a list to which an item was appended
pub get-middle : {X : Type 0} (xs : List X) (x : X) (ys : List X) → slice_get (xs ++ x ∷ ys) (length xs) ≡ Some x
get-middle [] x ys = refl
get-middle (y ∷ xs) x ys = get-middle xs x ys

last-appended : {X : Type 0} (xs : List X) (x : X) → last_item (xs ++ x ∷ []) ≡ Some x
last-appended xs x =
    ap (slice_get (xs ++ x ∷ [])) (let last : length (xs ++ x ∷ []) - 1 ≡ length xs = omega (arith, length-append xs (x ∷ [])) in last)
    ∙ get-middle xs x []

front-appended : {X : Type 0} (xs : List X) (x : X) → all_but_last (xs ++ x ∷ []) ≡ xs
front-appended xs x =
    ap (λ n. take n (xs ++ x ∷ [])) (let last : length (xs ++ x ∷ []) - 1 ≡ length xs = omega (arith, length-append xs (x ∷ [])) in last)
    ∙ take-append_seam xs (x ∷ [])

-- a list that is not empty has a last item
some-last : {X : Type 0} (xs : List X) → 0 < length xs → (x : X) × (last_item xs ≡ Some x)
some-last [] there = absurd (omega (arith, there))
some-last (x ∷ []) there = (x, refl)
some-last (x ∷ y ∷ xs) there =
    let rest = some-last (y ∷ xs) (omega arith) in
    let last : suc (suc (length xs)) - 1 ≡ suc (suc (length xs) - 1) = omega arith in
    (rest.0, ap (slice_get (x ∷ y ∷ xs)) last ∙ rest.1)

-- the last plan of those that could be undone stands again
pub record IsUndone (old new : PlansView) : Type 0 where
  pub earlier : old.earlier ≡ new.earlier ++ new.plan ∷ []
  pub later : new.later ≡ old.later ++ old.plan ∷ []

pub plans-undone : (old new : PlansView) → IsUndone old new → new ≡ plans_back old (last_item old.earlier)
plans-undone old new is =
    let last : last_item old.earlier ≡ Some new.plan = ap last_item is.earlier ∙ last-appended new.earlier new.plan in
    let front : new.earlier ≡ all_but_last old.earlier = sym (ap all_but_last is.earlier ∙ front-appended new.earlier new.plan) in
    (λ i. record { plan = new.plan; earlier = front i; later = is.later i }) ∙ ap (plans_back old) (sym last)

pub undone-of : (old new : PlansView) → new ≡ plans_back old (last_item old.earlier) → 0 < length old.earlier → IsUndone old new
undone-of old new is there =
    let some = some-last old.earlier there in
    let to : new ≡ plans_back old (Some some.0) = is ∙ ap (plans_back old) some.1 in
    record {
      earlier = sym (take_last_item old.earlier some.0 some.1) ∙ ap (λ (plans : PlansView). plans.earlier ++ plans.plan ∷ []) (sym to);
      later = ap (λ (plans : PlansView). plans.later) to;
    }

-- the last plan of those that could be redone stands again
pub record IsRedone (old new : PlansView) : Type 0 where
  pub later : old.later ≡ new.later ++ new.plan ∷ []
  pub earlier : new.earlier ≡ old.earlier ++ old.plan ∷ []

pub plans-redone : (old new : PlansView) → IsRedone old new → new ≡ plans_forth old (last_item old.later)
plans-redone old new is =
    let last : last_item old.later ≡ Some new.plan = ap last_item is.later ∙ last-appended new.later new.plan in
    let front : new.later ≡ all_but_last old.later = sym (ap all_but_last is.later ∙ front-appended new.later new.plan) in
    (λ i. record { plan = new.plan; earlier = is.earlier i; later = front i }) ∙ ap (plans_forth old) (sym last)

pub redone-of : (old new : PlansView) → new ≡ plans_forth old (last_item old.later) → 0 < length old.later → IsRedone old new
redone-of old new is there =
    let some = some-last old.later there in
    let to : new ≡ plans_forth old (Some some.0) = is ∙ ap (plans_forth old) some.1 in
    record {
      later = sym (take_last_item old.later some.0 some.1) ∙ ap (λ (plans : PlansView). plans.later ++ plans.plan ∷ []) (sym to);
      earlier = ap (λ (plans : PlansView). plans.earlier) to;
    }

-- the plan before is the last that can be undone, of 256 at most, and none can be redone
pub record IsKept (old new : PlansView) : Type 0 where
  pub earlier : new.earlier ≡ latest_items (old.earlier ++ old.plan ∷ [])
  pub later : new.later ≡ []

-- an edit of a trip is done in its slot
slot-is : (edit : Edit) (t : TimetableView) (slot : ℕ) → EditsTrip edit → IsSlotOf edit t (Some slot) → slot ≡ edited_slot edit t
slot-is (Shift trip by) t slot trips told = ap (λ found. unwrap_or found (length t.slots)) told.1
slot-is (Cancel trip) t slot trips told = ap (λ found. unwrap_or found (length t.slots)) told.1
slot-is (Restore trip) t slot trips told = ap (λ found. unwrap_or found (length t.slots)) told.1
slot-is (Extra trip from to departs arrives) t slot trips told = same_Some slot (length t.slots) told
slot-is edit t slot trips told = absurd trips

-- and the plan is repaired there
pub plans-edited : (edit : Edit) (before after : TimetableView) (matrix : MatrixView) (old new : PlansView) (slot : ℕ) → EditsTrip edit
    → IsSlotOf edit before (Some slot)
    → new.plan ≡ plan_repaired edit slot after matrix old.plan → IsKept old new → new ≡ plans_after edit before after matrix old
plans-edited edit before after matrix old new slot trips told found kept = by edit trips due
  where
    due : new ≡ record {
      plan = plan_repaired edit (edited_slot edit before) after matrix old.plan;
      earlier = latest_items (old.earlier ++ old.plan ∷ []);
      later = [];
    }
    due = λ i. record {
      plan = (found ∙ ap (λ s. plan_repaired edit s after matrix old.plan) (slot-is edit before slot trips told)) i;
      earlier = kept.earlier i;
      later = kept.later i;
    }

    by : (edit : Edit) → EditsTrip edit
        → new ≡ record {
          plan = plan_repaired edit (edited_slot edit before) after matrix old.plan;
          earlier = latest_items (old.earlier ++ old.plan ∷ []);
          later = [];
        }
        → new ≡ plans_after edit before after matrix old
    by Undo trips due = absurd trips
    by Redo trips due = absurd trips
    by Show trips due = absurd trips
    by edit trips due = due

-- so the plan before it is kept
pub kept-of : (edit : Edit) (before after : TimetableView) (matrix : MatrixView) (old new : PlansView) → EditsTrip edit
    → new ≡ plans_after edit before after matrix old → IsKept old new
kept-of Undo before after matrix old new trips is = absurd trips
kept-of Redo before after matrix old new trips is = absurd trips
kept-of Show before after matrix old new trips is = absurd trips
kept-of edit before after matrix old new trips is =
    record { earlier = ap (λ (plans : PlansView). plans.earlier) is; later = ap (λ (plans : PlansView). plans.later) is }
