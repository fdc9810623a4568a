use Rattle.std.proofs.Common.{◌≡◌, ◌∷◌, [], ◌++◌, codes}
use Rattle.std.specs.Prelude.{string_bytes}
use Rattle.feed_sample.specs.Sample.{deadhead_lines_to}
use Rattle.feed_sample.proofs.texts.deadheads_text.Given as goal

abbrev pub invariant-loop-pair : goal.invariant-loop-pair
invariant-loop-pair l = string_bytes l.text ≡ codes "from,to,minutes" ++ 10 ∷ [] ++ deadhead_lines_to l.pair
