use Rattle.std.proofs.Common.{[]}
use Rattle.deficit_steps.proofs.DeficitsLemmas.{value-held, sum_of_maxima-agree, maximum-positive, change-held, begins-held}
use Rattle.deficit_steps.proofs.laws.held_law.Goals as goal

pub returns-clause-deficit : goal.returns-clause-deficit
returns-clause-deficit c = λ deficits moves place minute valid held there h.
    value-held deficits moves place (valid.changes place [] there) held there minute h

pub returns-clause-total : goal.returns-clause-total
returns-clause-total c = λ deficits moves valid held.
    sum_of_maxima-agree _ _ _ (λ place minute there h. value-held deficits moves place (valid.changes place [] there) held there minute h)

pub returns-clause-maximum : goal.returns-clause-maximum
returns-clause-maximum c = λ deficits place valid there. maximum-positive deficits place (valid.changes place [] there)

pub returns-clause-change : goal.returns-clause-change
returns-clause-change c = change-held

pub returns-clause-begins : goal.returns-clause-begins
returns-clause-begins c = begins-held
