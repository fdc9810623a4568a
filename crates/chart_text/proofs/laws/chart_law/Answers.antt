use Rattle.std.proofs.Common.{arith}
use Rattle.std.proofs.lemmas.List.{length-map}
use Rattle.trip_model.specs.Deficit.{deficit, live_moves}
use Rattle.trip_model.specs.Timetable.{place_names}
use Rattle.deficit_steps.specs.Changes.{value}
use Rattle.chart_text.specs.Columns.{columns_of}
use Rattle.chart_text.proofs.ColumnsLemmas.{columns_of-in_day}
use Rattle.chart_text.proofs.DeficitsLemmas.{chart_of-agree}
use Rattle.chart_text.proofs.laws.chart_law.Goals as goal

pub returns : goal.returns
returns c = λ timetable deficits moves valid rows held len.
    let names = length-map timetable.places (λ p. p.name) in
    chart_of-agree (columns_of (live_moves timetable.slots)) (place_names timetable) (value deficits) (deficit moves)
    (columns_of-in_day timetable valid)
    (λ place minute there h. c.held_law.ensures.deficit deficits moves place minute rows held (omega arith) h)
