use Rattle.trip_model.proofs.Chains.{IsBlocking-blocks_along, blocks-and-links}
use Rattle.trip_model.proofs.laws.links_law.Goals as goal

pub returns-clause-blocking : goal.returns-clause-blocking
returns-clause-blocking c = IsBlocking-blocks_along

pub returns-clause-count : goal.returns-clause-count
returns-clause-count c = blocks-and-links
