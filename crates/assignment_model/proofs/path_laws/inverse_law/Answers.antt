use Rattle.assignment_model.proofs.PathLemmas.{right-left, left-right, AreNextTrips-befores, befores-befores}
use Rattle.assignment_model.proofs.path_laws.inverse_law.Goals as goal

pub returns-clause-right : goal.returns-clause-right
returns-clause-right c = right-left

pub returns-clause-left : goal.returns-clause-left
returns-clause-left c = left-right

pub returns-clause-inverse : goal.returns-clause-inverse
returns-clause-inverse c = AreNextTrips-befores

pub returns-clause-twice : goal.returns-clause-twice
returns-clause-twice c = befores-befores
