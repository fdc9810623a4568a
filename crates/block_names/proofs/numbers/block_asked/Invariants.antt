use Rattle.std.proofs.Common.{fold, get_or, [], None}
use Rattle.std.specs.List.{range_with_len}
use Rattle.block_names.specs.Names.{with_more}
use Rattle.block_names.specs.Numbered.{trips_numbered}
use Rattle.block_names.proofs.MostLemmas.{IsMost}
use Rattle.block_names.proofs.numbers.block_asked.Given as goal

abbrev pub invariant-loop-block : goal.invariant-loop-block
invariant-loop-block l =
    IsMost (λ b. trips_numbered l.numbers l.number (get_or l.blocks b []))
    (fold (with_more (λ b. trips_numbered l.numbers l.number (get_or l.blocks b []))) None (range_with_len 0 l.block)) l.most
