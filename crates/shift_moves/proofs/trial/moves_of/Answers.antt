use Rattle.std.proofs.Common.{◌≡◌, ap, ◌∙◌, rules}
use Rattle.trip_model.specs.Timetable.{slot_at}
use Rattle.trip_model.specs.Trip.{move_of, shifted}
use Rattle.trip_model.specs.declared.trip.Move.{Move}
use Rattle.shift_moves.proofs.Holding.{AreSwapped-shift}
use Rattle.shift_moves.proofs.trial.moves_of.Goals as goal

pub returns-clause-swapped : goal.returns-clause-swapped
returns-clause-swapped c =
    let trip = (slot_at c.args.timetable.now c.args.slot).trip in
    let stands : c.as_move-stands.result ≡ move_of trip = c.as_move-stands.ensures ∙ ap move_of c.trip.ensures.value in
    let m : Move = record {
      from = c.as_move-stands.result.from;
      to = c.as_move-stands.result.to;
      leaves = c.unwrap.result;
      arrives = c.unwrap-2.result;
    } in
    let moved : m ≡ move_of (shifted trip c.args.by) = search rules in
    AreSwapped-shift c.args.timetable.now c.args.slot c.args.by c.as_move-stands.result m c.requires.slot c.requires.live stands moved
