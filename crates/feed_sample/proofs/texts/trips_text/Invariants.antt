use Rattle.std.proofs.Common.{◌≡◌}
use Rattle.std.specs.Prelude.{string_bytes}
use Rattle.feed_sample.specs.Sample.{trips_text}
use Rattle.feed_sample.proofs.texts.trips_text.Given as goal

abbrev pub invariant-loop-i : goal.invariant-loop-i
invariant-loop-i l = string_bytes l.text ≡ trips_text l.i
