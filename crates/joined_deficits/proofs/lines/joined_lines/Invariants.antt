use Rattle.std.proofs.Common.{◌≡◌, take}
use Rattle.std.specs.Prelude.{string_bytes}
use Rattle.std.specs.List.{flat_map, enumerate_from}
use Rattle.trip_model.specs.Timetable.{place_names}
use Rattle.deficit_steps.specs.Changes.{value}
use Rattle.joined_deficits.specs.Lines.{joined_place}
use Rattle.joined_deficits.proofs.lines.joined_lines.Given as goal

abbrev pub invariant-loop-place : goal.invariant-loop-place
invariant-loop-place l =
    string_bytes l.text ≡ flat_map (λ place. joined_place place.1 (value l.joined place.0) (value l.before place.0))
    (enumerate_from 0 (take l.place (place_names l.timetable)))
