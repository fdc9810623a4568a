use Rattle.std.proofs.Common.{◌≡◌}
use Rattle.std.specs.Prelude.{string_bytes}
use Rattle.std.specs.List.{flat_map, range_with_len}
use Rattle.block_build.proofs.LinesWritten.{line_numbered}
use Rattle.block_build.proofs.lines.block_lines.Given as goal

abbrev pub invariant-loop-number : goal.invariant-loop-number
invariant-loop-number l =
    string_bytes l.text
    ≡ flat_map (line_numbered l.named.timetable.now l.named.matrix.now l.margin l.named.names.now l.named.blocks.now)
    (range_with_len 0 l.number)
