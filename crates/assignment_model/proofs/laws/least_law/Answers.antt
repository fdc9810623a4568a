use Rattle.assignment_model.proofs.TightLemmas.{least-tight, tight-least}
use Rattle.assignment_model.proofs.laws.least_law.Goals as goal

pub returns-clause-tight : goal.returns-clause-tight
returns-clause-tight c = least-tight

pub returns-clause-least : goal.returns-clause-least
returns-clause-least c = tight-least
