use Rattle.std.proofs.Common.{◌≡◌, ◌++◌}
use Rattle.std.specs.Prelude.{string_bytes, slice_index}
use Rattle.std.specs.List.{flat_map, range_with_len}
use Rattle.deadhead_matrix.specs.Matrix.{walk}
use Rattle.trip_model.specs.Timetable.{slot_at}
use Rattle.block_build.specs.Lines.{joint, trip_text}
use Rattle.block_build.proofs.lines.push_trips.Given as goal

abbrev pub invariant-loop-n : goal.invariant-loop-n
invariant-loop-n l =
    string_bytes l.text ≡ string_bytes l.initial.text
    ++ flat_map (λ n. joint l.timetable (walk l.matrix) l.block n ++ trip_text (slot_at l.timetable (slice_index l.block n)))
    (range_with_len 0 l.n)
