use Rattle.std.proofs.Common.{◌≡◌, ◌≤◌, map, vec_len, vec_capacity}
use Rattle.std.specs.List.{range_with_len}
use Rattle.plan_history.specs.Stands.{stand_at}
use Rattle.plan_history.proofs.stand.copy_stands.Given as goal

abbrev pub invariant-loop-slot : goal.invariant-loop-slot
invariant-loop-slot l = record {
  copied : l.copied.items ≡ map (stand_at l.plan) (range_with_len 0 l.slot);
  count : vec_len l.copied ≡ l.slot;
  room : 4096 ≤ vec_capacity l.copied;
}
