use Rattle.std.proofs.Common.{◌≡◌, length, take}
use Rattle.plan_history.specs.Items.{written, stood_after}
use Rattle.plan_history.proofs.item.write_after.Given as goal

abbrev pub invariant-loop-changed : goal.invariant-loop-changed
invariant-loop-changed l = record {
  over : l.solver ≡ written stood_after l.initial.solver (take l.changed-index l.changes);
  slots : length l.solver.next ≡ length l.initial.solver.next;
}
