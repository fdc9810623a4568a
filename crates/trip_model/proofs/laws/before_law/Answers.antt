use Rattle.trip_model.proofs.BeforeLemmas.{next-before, before-next}
use Rattle.trip_model.proofs.laws.before_law.Goals as goal

pub returns-clause-next : goal.returns-clause-next
returns-clause-next c = next-before

pub returns-clause-before : goal.returns-clause-before
returns-clause-before c = before-next
