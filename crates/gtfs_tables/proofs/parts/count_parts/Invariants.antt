use Rattle.std.proofs.Common.{◌≡◌, ◌≤◌, ◌+◌, length, take}
use Rattle.gtfs_tables.specs.Parts.{parts}
use Rattle.gtfs_tables.proofs.parts.count_parts.Given as goal

abbrev pub invariant-loop-byte : goal.invariant-loop-byte
invariant-loop-byte l = (l.count ≡ length (parts (take l.byte-index l.line))) × (l.count ≤ l.byte-index + 1)
