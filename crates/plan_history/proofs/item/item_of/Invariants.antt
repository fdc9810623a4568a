use Rattle.std.proofs.Common.{◌≡◌, ◌≤◌, length, vec_len, vec_capacity}
use Rattle.plan_history.specs.Stands.{changes_upto}
use Rattle.plan_history.proofs.item.item_of.Given as goal

abbrev pub invariant-loop-slot : goal.invariant-loop-slot
invariant-loop-slot l = record {
  noted : l.changes.items ≡ changes_upto l.was l.plan l.slot;
  count : vec_len l.changes ≤ l.slot;
  room : length l.plan.next ≤ vec_capacity l.changes;
}
