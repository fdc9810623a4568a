use Rattle.desk_feed.proofs.FirstLemmas.{refused-first}
use Rattle.desk_feed.proofs.laws.first_refusal_law.Goals as goal

pub returns : goal.returns
returns c = refused-first
