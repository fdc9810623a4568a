use Rattle.std.proofs.Common.{ap, ◌∙◌, arith}
use Rattle.trip_model.specs.Deficit.{live_moves}
use Rattle.trip_model.specs.Trip.{move_of}
use Rattle.trip_model.specs.declared.trip.Move.{Move}
use Rattle.shift_moves.proofs.Untouched.{high-read, not-earlier, not-later}
use Rattle.shift_moves.proofs.trial.least_sizes.Goals as goal

pub returns-clause-earlier : goal.returns-clause-earlier
returns-clause-earlier c size h =
    let t = c.args.timetable.now in
    let d = c.args.deficits.now in
    let stands = c.as_move-stands.result in
    not-earlier t c.args.slot size c.max-came.result.1 stands c.requires.in_timetable c.requires.live
    (c.as_move-stands.ensures ∙ ap move_of c.trip.ensures.value)
    (omega (
      arith,
      c.trip.ensures.valid.forward,
      ap (λ (x : Move). x.leaves) c.as_move-stands.ensures,
      ap (λ (x : Move). x.arrives)
          c.as_move-stands.ensures,
    ))
    (high-read t d stands.to c.max-came.result.0 c.max-came.result.1
    (λ k minute within early. c.held_law.ensures.deficit d (live_moves t.slots) k minute c.places-places.ensures.valid c.requires.held
    within early)
    (omega (arith, c.requires.rows, c.trip.ensures.valid.to, ap (λ (x : Move). x.to) c.as_move-stands.ensures)) c.max-came.ensures.computed)
    (c.least_earlier.ensures size h)

pub returns-clause-later : goal.returns-clause-later
returns-clause-later c size h =
    let t = c.args.timetable.now in
    let d = c.args.deficits.now in
    let stands = c.as_move-stands.result in
    not-later t c.args.slot size c.max-left.result.1 stands c.requires.in_timetable c.requires.live
    (c.as_move-stands.ensures ∙ ap move_of c.trip.ensures.value)
    (high-read t d stands.from c.max-left.result.0 c.max-left.result.1
    (λ k minute within early. c.held_law.ensures.deficit d (live_moves t.slots) k minute c.places-places.ensures.valid c.requires.held
    within early)
    (omega (arith, c.requires.rows, c.trip.ensures.valid.from, ap (λ (x : Move). x.from) c.as_move-stands.ensures))
    c.max-left.ensures.computed)
    (c.least_later.ensures size h)
