use Rattle.std.proofs.Common.{arith}
use Rattle.pair_search.proofs.scan.nearest_of.Goals as goal

pub returns-then-best-was-clause-least : goal.returns-then-best-was-clause-least
returns-then-best-was-clause-least c =
    λ j from to undone. omega (arith, c.if-best-was.true, c.requires.near c.args.group j c.requires.group from to undone)
