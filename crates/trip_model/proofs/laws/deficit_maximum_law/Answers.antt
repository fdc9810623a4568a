use Rattle.trip_model.proofs.MaximumLemmas.{deficit-maximum}
use Rattle.trip_model.proofs.laws.deficit_maximum_law.Goals as goal

pub returns : goal.returns
returns c = deficit-maximum
