use Rattle.std.proofs.Common.{◌≡◌, filter, take}
use Rattle.block_audit.specs.Stated.{is_of}
use Rattle.block_audit.proofs.stated.slots_of.Given as goal

abbrev pub invariant-loop-slot : goal.invariant-loop-slot
invariant-loop-slot l = l.slots.items ≡ filter (is_of l.names l.name) (take l.slot-index l.order)
