use Rattle.trip_model.proofs.MaximumLemmas.{IsFirstMaximum-first_maximum, first_maximum-unique}
use Rattle.trip_model.proofs.laws.first_maximum_law.Goals as goal

pub returns-clause-exists : goal.returns-clause-exists
returns-clause-exists c = IsFirstMaximum-first_maximum

pub returns-clause-unique : goal.returns-clause-unique
returns-clause-unique c = first_maximum-unique
