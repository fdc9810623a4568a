use Rattle.std.proofs.Common.{◌≡◌, ◌++◌, drop}
use Rattle.block_audit.specs.Misfits.{misfits_from, misfits_in}
use Rattle.block_audit.proofs.misfit.misfits.Given as goal

abbrev pub invariant-loop-b : goal.invariant-loop-b
invariant-loop-b l = l.misfits.items ++ misfits_from l.timetable l.matrix l.b (drop l.b l.stated) ≡ misfits_in l.timetable l.matrix l.stated
