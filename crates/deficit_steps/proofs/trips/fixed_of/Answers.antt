use Rattle.std.proofs.Common.{ap, ◌∙◌}
use Rattle.trip_model.specs.Deficit.{deficit, live_moves}
use Rattle.trip_model.specs.Maximum.{sum_of_maxima}
use Rattle.deficit_steps.proofs.trips.fixed_of.Goals as goal

pub returns-clause-sum : goal.returns-clause-sum
returns-clause-sum g c =
    let slots = c.args.timetable.now.slots in
    let deficits = c.in_ok-deficits.deficits in
    c.total.ensures ∙ c.held_law.ensures.total deficits (live_moves slots) c.places-places.ensures.valid c.in_ok-deficits.ensures.held
    ∙ ap (sum_of_maxima (deficit (live_moves slots))) c.in_ok-deficits.ensures.places
