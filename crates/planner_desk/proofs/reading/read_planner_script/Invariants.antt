use Rattle.std.proofs.Common.{◌≡◌, All, map, take}
use Rattle.planner_desk.specs.Forms.{IsPlannerLine, planner_line_of}
use Rattle.planner_desk.proofs.reading.read_planner_script.Given as goal

abbrev pub invariant-loop-row : goal.invariant-loop-row
invariant-loop-row l = (l.lines.items ≡ map planner_line_of (take l.row-index l.row-items)) × All IsPlannerLine l.lines.items
