use Rattle.std.proofs.Common.{◌≡◌, map, filter, false, get_or}
use Rattle.std.specs.List.{range_with_len}
use Rattle.desk_settings.specs.Selected.{field_of}
use Rattle.feed_likings.proofs.fields.Fields.of.Given as goal

abbrev pub invariant-loop-before : goal.invariant-loop-before
invariant-loop-before l = map (λ field. field.now) l.fields.items ≡ map (field_of l.fn.column l.trips)
    (filter (λ r. get_or l.chosen r false) (range_with_len 0 l.before))
