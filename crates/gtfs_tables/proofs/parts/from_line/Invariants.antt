use Rattle.std.proofs.Common.{◌≡◌, length}
use Rattle.gtfs_tables.specs.Parts as spec
use Rattle.gtfs_tables.proofs.parts.from_line.Given as goal

abbrev pub invariant-lines : goal.invariant-lines
invariant-lines l = spec.from_line l.left ≡ spec.from_line l.bytes

abbrev pub decreases-lines : goal.decreases-lines
decreases-lines l = length l.left
