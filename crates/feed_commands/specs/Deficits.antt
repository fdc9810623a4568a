-- What `deficits` asks, and what it puts of a feed.
use Rattle.std.specs.Prelude.{◌≡◌, ℕ, ◌*◌, List, length}
use Rattle.trip_model.specs.Deficit.{deficit, live_moves}
use Rattle.trip_model.specs.Timetable.{TimetableView, place_names}
use Rattle.deficit_steps.specs.Lines.{deficit_text}
use Rattle.desk_run.specs.Commands.{Asked}
use Rattle.desk_feed.specs.Judging.{of_feed}
use Rattle.desk_feed.specs.Showing.{TextAsked, showing}

-- the deficit functions of the trips that run: departures so far less arrivals so far, of each place
abbrev pub deficits_text : TimetableView → List ℕ
deficits_text timetable = deficit_text (place_names timetable) (deficit (live_moves timetable.slots))

-- the text of the deficits of the timetable that stands
abbrev pub deficits_shown : TextAsked
deficits_shown = record { Shows = λ stands text. text ≡ deficits_text stands.timetable; most = λ timetable. 28 * length timetable.slots }

-- what `deficits` asks of a run
unfoldable pub deficits_asked : Asked
deficits_asked = of_feed (showing deficits_shown)
