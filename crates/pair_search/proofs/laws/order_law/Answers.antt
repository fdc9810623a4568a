use Rattle.pair_search.proofs.LawLemmas.{arranged-is, departing-is}
use Rattle.pair_search.proofs.laws.order_law.Goals as goal

pub returns : goal.returns
returns c = record { columns = arranged-is; departures = departing-is }
