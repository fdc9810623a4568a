use Rattle.std.proofs.Common.{◌≡◌, ℕ, ◌<◌, Some}
use Rattle.std.specs.Prelude.{pos}
use Rattle.block_writer.specs.StopTimes.{offset_of}
use Rattle.block_writer.proofs.stop_times.moves_some.Given as goal

abbrev pub invariant-loop-slot : goal.invariant-loop-slot
invariant-loop-slot l = (k : ℕ) → k < l.slot → offset_of l.timetable l.base (Some k) ≡ pos 0
