use Rattle.joined_deficits.proofs.Theorem.{sum-at-most, sum-of-fewest}
use Rattle.joined_deficits.proofs.laws.joined_law.Goals as goal

pub returns-clause-most : goal.returns-clause-most
returns-clause-most c = sum-at-most c.plain_blocks_law.ensures.theorem

pub returns-clause-fewest : goal.returns-clause-fewest
returns-clause-fewest c = sum-of-fewest c.plain_blocks_law.ensures.theorem

pub returns-clause-least : goal.returns-clause-least
returns-clause-least c = λ t matrix blocks valid least count lasting free is. sum-of-fewest c.plain_blocks_law.ensures.theorem t matrix
    blocks valid least count lasting free is.fewest
