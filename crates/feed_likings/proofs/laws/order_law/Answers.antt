use Rattle.feed_likings.proofs.OrderLemmas.{first-decides}
use Rattle.feed_likings.proofs.laws.order_law.Goals as goal

pub returns : goal.returns
returns c = first-decides
