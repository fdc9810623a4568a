use Rattle.std.proofs.Common.{arith}
use Rattle.std.proofs.lemmas.Int.{ints, clamps}
use Rattle.terminal_maxima.specs.MaxPrefixLaws.{same_prefix}
use Rattle.terminal_maxima.proofs.max_prefix.MaxPrefixSummary.join.Goals as goal

pub returns : goal.returns
returns c = same_prefix _ _ (omega (arith, ints)) (omega (arith, ints, clamps, c.max.ensures.value))
