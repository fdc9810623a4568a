use Rattle.std.proofs.Common.{◌≡◌, ◌++◌, take}
use Rattle.std.specs.Prelude.{string_bytes}
use Rattle.std.specs.List.{flat_map, enumerate_from}
use Rattle.deadhead_matrix.specs.Matrix.{walk}
use Rattle.chart_text.proofs.BlocksLemmas.{line_numbered}
use Rattle.chart_text.proofs.blocks.block_chart.Given as goal

abbrev pub invariant-loop-number : goal.invariant-loop-number
invariant-loop-number l =
    string_bytes l.text ≡ string_bytes l.initial.text
    ++ flat_map (line_numbered l.named.timetable.now (walk l.named.matrix.now) l.columns.items l.named.names.now)
    (enumerate_from 0 (take l.number l.named.blocks.now))
