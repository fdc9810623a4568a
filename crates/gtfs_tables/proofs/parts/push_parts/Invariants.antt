use Rattle.std.proofs.Common.{◌≡◌, ◌++◌, length, map}
use Rattle.gtfs_tables.specs.Parts.{later_parts, parts}
use Rattle.gtfs_tables.proofs.parts.push_parts.Given as goal

abbrev pub invariant-parts : goal.invariant-parts
invariant-parts l =
    map (λ field. field.now) l.fields.items ++ later_parts l.behind ≡ map (λ field. field.now) l.fn.fields.items ++ parts l.line

abbrev pub decreases-parts : goal.decreases-parts
decreases-parts l = length (later_parts l.behind)
