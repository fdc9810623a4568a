use Rattle.std.proofs.Common.{refl}
use Rattle.std.specs.Fmt.{digits}
use Rattle.examples_computed.proofs.feeds.a_refusal.Goals as goal

pub returns : goal.returns
unfolding digits
returns c = refl
