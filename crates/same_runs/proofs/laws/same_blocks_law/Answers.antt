use Rattle.std.proofs.Common.{ap, ◌∙◌}
use Rattle.desk_run.specs.Outcome.{OutcomeView}
use Rattle.same_runs.specs.Blocks.{blocks_after}
use Rattle.same_runs.proofs.PlanLemmas.{drawn-are, one-matrix}
use Rattle.same_runs.proofs.laws.same_blocks_law.Goals as goal

pub returns : goal.returns
returns c = record {
  listed = λ likings naming said outcome plan. ap (λ (o : OutcomeView). o.writes) plan.done;
  joined = λ likings naming said outcome other plan is.
      drawn-are likings said is.matrix is.plan is.blocks is.drawn
      ∙ ap (blocks_after likings said) (one-matrix said is.matrix plan.matrix is.matrix_is plan.matrix_is);
  drawn = λ likings naming said outcome other plan is.
      drawn-are likings said is.matrix is.plan is.blocks is.drawn
      ∙ ap (blocks_after likings said) (one-matrix said is.matrix plan.matrix is.matrix_is plan.matrix_is);
  written = λ likings naming said outcome other trips stop_times plan is.
      drawn-are likings said is.matrix is.plan is.blocks is.drawn
      ∙ ap (blocks_after likings said) (one-matrix said is.matrix plan.matrix is.matrix_is plan.matrix_is);
}
