use Rattle.std.proofs.Common.{◌≡◌, ◌∷◌, drop}
use Rattle.gtfs_tables.specs.Parts.{later_parts, parts}
use Rattle.gtfs_tables.proofs.parts.part.Given as goal

abbrev pub invariant-loop-before : goal.invariant-loop-before
invariant-loop-before l = drop l.before (parts l.line) ≡ l.part ∷ later_parts l.behind
