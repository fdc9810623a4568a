use Rattle.std.proofs.Common.{◌≡◌, map}
use Rattle.std.specs.List.{range_with_len}
use Rattle.block_names.specs.Numbered.{block_asked}
use Rattle.block_names.proofs.numbers.blocks_asked.Given as goal

abbrev pub invariant-loop-number : goal.invariant-loop-number
invariant-loop-number l = l.asked.items ≡ map (block_asked l.numbers l.blocks) (range_with_len 0 l.number)
