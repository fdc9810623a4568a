use Rattle.std.proofs.Common.{◌≡◌, ◌≤◌, take, unwrap_or}
use Rattle.trip_model.specs.Deficit.{live_moves}
use Rattle.chart_text.specs.Columns.{first_departure, last_end}
use Rattle.chart_text.proofs.columns.first_and_last.Given as goal

abbrev pub invariant-loop-slot : goal.invariant-loop-slot
invariant-loop-slot l =
    (l.first ≡ unwrap_or (first_departure (live_moves (take l.slot l.timetable.slots))) 65535)
    × (l.last ≡ last_end (live_moves (take l.slot l.timetable.slots))) × (l.last ≤ 6300)
