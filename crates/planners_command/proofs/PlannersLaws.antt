-- What holds of the records of planners, in whatever order they come, and that they change no place.
use Rattle.std.proofs.Common.{◌≡◌, ℕ, ◌+◌, List, [], ◌∷◌, Result, Ok, Err, refl, sym, ap, subst, ◌∙◌}
use Rattle.std.specs.Prelude.{IsOk}
use Rattle.std.proofs.lemmas.Bool.{false≢true}
use Rattle.trip_model.specs.Timetable.{TimetableView}
use Rattle.planner_desk.specs.Laws.{AlwaysFolds, HolderStands, NothingStands, TakesBack, UndoTakesBack}
use Rattle.planner_desk.specs.Machine.{line_after, or_stays}
use Rattle.planner_desk.specs.Standing.{Folds, after_standing, timetable_of, undone}
use Rattle.planner_desk.specs.declared.edit.PlannerLine.{PlannerLine}
use Rattle.planner_desk.specs.declared.fault.PlannerFault.{PlannerFault}
use Rattle.planner_desk.specs.declared.standing.Standing.{Standing}
use Rattle.planner_desk.proofs.Agreement.{edit-differs}
use Rattle.planners_command.specs.Moments.{ArePlanners, IsUndoAt, first_records, stand_at, step_at}
use Rattle.planners_command.proofs.MomentsLemmas.{stand-suc}

-- edits that stand change no place
pub places-standing : (base : TimetableView) (standing : List Standing) → Folds base standing
    → (timetable_of base standing).places ≡ base.places
places-standing base [] folds = refl
places-standing base (r ∷ standing) folds =
    places-standing (after_standing base r) standing folds.1
    ∙ ap (λ (t : TimetableView). t.places) (edit-differs base r.asked.edit folds.0).slots_alone

module _ (takes : UndoTakesBack) (nothing : NothingStands) (holds : HolderStands) (always : AlwaysFolds) (base : TimetableView)
    (lines : List PlannerLine) where
  -- an undo makes those that stand without the planner's last
  undo-step : (n : ℕ) (planner : List ℕ) → IsUndoAt lines n planner → step_at base lines n ≡ undone planner (stand_at base lines n)
  undo-step n planner is = ap (line_after base (stand_at base lines n) (n + 1)) is

  taken-by : (n : ℕ) (planner : List ℕ) (due : Result (List Standing) PlannerFault) → IsOk due
      → undone planner (stand_at base lines n) ≡ due → TakesBack planner (stand_at base lines n) (or_stays (stand_at base lines n) due)
  taken-by n planner (Ok next) ok is = takes planner (stand_at base lines n) next is
  taken-by n planner (Err refused) ok is = absurd (false≢true ok)

  pub are-planners : ArePlanners base lines
  are-planners = record {
    folds = λ m. always base (first_records lines m);
    unchanged = λ n refused is. stand-suc base lines n ∙ ap (or_stays (stand_at base lines n)) is;
    taken = λ n planner is ok. subst (TakesBack planner (stand_at base lines n)) (sym (stand-suc base lines n))
        (taken-by n planner (step_at base lines n) ok (sym (undo-step n planner is)));
    nothing = λ n planner is refused. nothing planner (stand_at base lines n) (sym (undo-step n planner is) ∙ refused);
    held = λ n planner number is refused. holds planner (stand_at base lines n) number (sym (undo-step n planner is) ∙ refused);
  }
