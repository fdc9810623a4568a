use Rattle.std.proofs.Common.{◌≡◌, ◌++◌, map, take}
use Rattle.std.specs.Prelude.{string_bytes}
use Rattle.deadhead_matrix.specs.Matrix.{walk}
use Rattle.chart_text.specs.Blocks.{block_mark}
use Rattle.chart_text.proofs.blocks.push_marks.Given as goal

abbrev pub invariant-loop-column : goal.invariant-loop-column
invariant-loop-column l =
    string_bytes l.text ≡ string_bytes l.initial.text
    ++ map (block_mark l.timetable (walk l.matrix) l.block) (take l.column-index l.columns)
