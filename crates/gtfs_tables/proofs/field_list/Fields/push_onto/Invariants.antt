use Rattle.std.proofs.Common.{◌≡◌, ◌++◌, map, take}
use Rattle.gtfs_tables.proofs.field_list.Fields.push_onto.Given as goal

abbrev pub invariant-loop-place : goal.invariant-loop-place
invariant-loop-place l = map (λ field. field.now) l.fields.items ≡ map (λ field. field.now) l.initial.fields.items ++ take l.place l.self
