use Rattle.std.proofs.Common.{◌≡◌, ◌-◌, ◌≤◌, ◌++◌, drop, get_or}
use Rattle.block_audit.specs.Misfits.{block_misfits, misfits_after}
use Rattle.block_audit.proofs.misfit.push_block.Given as goal

abbrev pub invariant-loop-n : goal.invariant-loop-n
invariant-loop-n l = record {
  begun : 1 ≤ l.n;
  made : l.misfits.items ++ misfits_after l.timetable l.matrix l.block (get_or l.slots (l.n - 1) 0) (drop l.n l.slots) ≡ l.fn.misfits.items
      ++ block_misfits l.timetable l.matrix l.block l.slots;
}
