use Rattle.planner_desk.proofs.Folding.{always_folds, stays_folding}
use Rattle.planner_desk.proofs.laws.folding_law.Goals as goal

pub returns-clause-step : goal.returns-clause-step
returns-clause-step c = stays_folding

pub returns-clause-always : goal.returns-clause-always
returns-clause-always c = always_folds
