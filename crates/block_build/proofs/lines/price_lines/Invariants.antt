use Rattle.std.proofs.Common.{◌≡◌}
use Rattle.std.specs.Prelude.{string_bytes}
use Rattle.std.specs.List.{flat_map, range_with_len}
use Rattle.block_build.specs.Lines.{price_line}
use Rattle.block_build.proofs.lines.price_lines.Given as goal

abbrev pub invariant-loop-slot : goal.invariant-loop-slot
invariant-loop-slot l =
    string_bytes l.text
    ≡ flat_map (price_line l.prices.timetable.now l.prices.leave.now l.prices.enter.now) (range_with_len 0 l.slot)
