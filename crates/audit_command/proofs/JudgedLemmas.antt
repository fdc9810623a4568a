-- What is put of stated blocks: their cost, or their misfits.
use Rattle.std.proofs.Common.{◌≡◌, ◌≤◌, ℕ, List, [], ◌∷◌, length, Result, Ok, Err, ap, subst, ◌∙◌, arith}
use Rattle.std.specs.Prelude.{IfOk}
use Rattle.std.proofs.lemmas.List.{length-map}
use Rattle.trip_model.specs.declared.limits.TheConstants.{MOST_SLOTS}
use Rattle.trip_model.specs.Blocking.{IsBlocking}
use Rattle.trip_model.specs.Timetable.{TimetableView}
use Rattle.deadhead_matrix.specs.Matrix.{MatrixView}
use Rattle.assignment_model.specs.Prices.{Plan}
use Rattle.deadhead_matrix.specs.Fitting.{network_of}
use Rattle.block_audit.specs.declared.misfit.Misfit.{Misfit}
use Rattle.block_audit.specs.Stated.{AreStated, NamedBlock, slots_by}
use Rattle.block_audit.proofs.AboveLemmas.{says-standing, standing-least}
use Rattle.desk_run.specs.Outcome.{OutcomeView}
use Rattle.desk_run.specs.declared.status.Ending.{Ending}
use Rattle.desk_feed.specs.Edited.{refusing_first}
use Rattle.deadhead_matrix.specs.Plans.{IsScheduled}
use Rattle.audit_command.specs.Audit.{IsCosted, JudgesStated, text_of_costs}

abbrev is-some : List Misfit → Type 0
is-some [] = ⊥
is-some (misfit ∷ misfits) = Unit {0}

module _ (refused : List ℕ) (end : Ending) (timetable : TimetableView) (matrix : MatrixView) (stated : List NamedBlock) where
  -- least blocks are no more than stated ones
  pub few-least : (plan : Plan) (least : List (List ℕ)) → IsScheduled timetable matrix plan least
      → IsBlocking (network_of timetable matrix) (slots_by stated) → AreStated stated → length least ≤ MOST_SLOTS
  few-least plan least is are valid =
      omega (arith, is.least.fewest.fewest (slots_by stated) are, length-map stated (λ (b : NamedBlock). b.slots), valid.few)

  pub costed-given : {E : Type 0} (plan : Plan) (least : List (List ℕ)) → IsScheduled timetable matrix plan least
      → IsBlocking (network_of timetable matrix) (slots_by stated)
      → (text : List ℕ) → text ≡ text_of_costs (network_of timetable matrix) (slots_by stated) least
      → (result : Result OutcomeView E) → IfOk result (λ outcome. outcome ≡ refusing_first refused text end)
      → IfOk result (IsCosted refused end timetable matrix stated)
  costed-given plan least is are text text_is (Err e) done = tt
  costed-given plan least is are text text_is (Ok outcome) done = record {
    plan = plan;
    least = least;
    scheduled = is;
    done = done ∙ ap (λ t. refusing_first refused t end) text_is;
    says = says-standing (network_of timetable matrix) (slots_by stated) least are is.least;
    nothing = λ as_good. standing-least (network_of timetable matrix) (slots_by stated) least as_good is.least;
  }

  -- where there is no misfit
  pub judged-none : {E : Type 0} (misfits : List Misfit) → misfits ≡ [] → (result : Result OutcomeView E)
      → IfOk result (IsCosted refused end timetable matrix stated)
      → IfOk result (λ outcome. JudgesStated refused end timetable matrix stated misfits outcome)
  judged-none [] e result done = done
  judged-none (misfit ∷ misfits) e (Err f) done = tt
  judged-none (misfit ∷ misfits) e (Ok outcome) done = absurd (subst is-some e tt)
