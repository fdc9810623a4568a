use Rattle.std.proofs.Common.{◌≡◌, ◌-◌, false, take}
use Rattle.std.specs.List.{list_any}
use Rattle.deadhead_matrix.specs.Matrix.{walk}
use Rattle.chart_text.specs.Blocks.{is_walking, links}
use Rattle.chart_text.proofs.blocks.walks_in.Given as goal

abbrev pub invariant-loop-next : goal.invariant-loop-next
invariant-loop-next l = list_any (is_walking l.timetable (walk l.matrix) l.column) (take (l.next - 1) (links l.block)) ≡ false
