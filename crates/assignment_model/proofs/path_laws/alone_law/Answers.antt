use Rattle.assignment_model.proofs.PathLemmas.{IsTaken-alone, taken-alone, IsAdded-alone}
use Rattle.assignment_model.proofs.path_laws.alone_law.Goals as goal

pub returns-clause-taken : goal.returns-clause-taken
returns-clause-taken c = IsTaken-alone

pub returns-clause-unchanged : goal.returns-clause-unchanged
returns-clause-unchanged c = taken-alone

pub returns-clause-added : goal.returns-clause-added
returns-clause-added c = IsAdded-alone
