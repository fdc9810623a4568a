use Rattle.std.proofs.Common.{◌≡◌, drop}
use Rattle.block_audit.specs.Stated.{is_first}
use Rattle.block_audit.proofs.names.Names.begins.Given as goal

abbrev pub invariant-loop-other : goal.invariant-loop-other
invariant-loop-other l = is_first l.self l.name (drop l.other-index l.order) l.slot ≡ is_first l.self l.name l.order l.slot
