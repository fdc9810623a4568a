use Rattle.assignment_model.proofs.PriceSums.{sum-prices}
use Rattle.assignment_model.proofs.laws.prices_law.Goals as goal

pub returns : goal.returns
returns c = sum-prices
