use Rattle.std.proofs.Common.{◌≡◌, map, filter, take}
use Rattle.block_audit.specs.Stated.{begins, block_from}
use Rattle.block_audit.proofs.stated.grouped.Given as goal

abbrev pub invariant-loop-slot : goal.invariant-loop-slot
invariant-loop-slot l = l.blocks.items ≡ map (block_from l.names l.order) (filter (begins l.names l.order) (take l.slot-index l.order))
