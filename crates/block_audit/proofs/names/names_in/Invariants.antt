use Rattle.std.proofs.Common.{◌≡◌, map, filter, false, get_or}
use Rattle.std.specs.List.{range_with_len}
use Rattle.block_audit.specs.Stated.{block_field}
use Rattle.block_audit.proofs.names.names_in.Given as goal

abbrev pub invariant-loop-before : goal.invariant-loop-before
invariant-loop-before l = map (λ name. name.now) l.names.items ≡ map (block_field l.trips)
    (filter (λ r. get_or l.chosen r false) (range_with_len 0 l.before))
