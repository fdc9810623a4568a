use Rattle.std.proofs.Common.{◌≡◌, false, take}
use Rattle.std.specs.List.{list_any}
use Rattle.chart_text.specs.Blocks.{is_running}
use Rattle.chart_text.proofs.blocks.runs_in.Given as goal

abbrev pub invariant-loop-slot : goal.invariant-loop-slot
invariant-loop-slot l = list_any (is_running l.timetable l.column) (take l.slot-index l.block) ≡ false
