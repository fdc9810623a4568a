use Rattle.std.proofs.Common.{◌<◌, ◌≤◌, length, arith, sym, ap, ◌∙◌, take, true, false, ◌++◌, ◌∷◌, []}
use Rattle.std.proofs.lemmas.List.{append-nil}
use Rattle.std.proofs.lemmas.Int.{ints}
use Rattle.trip_model.specs.Deficit.{live_moves}
use Rattle.trip_model.specs.declared.trip.Move.{Move}
use Rattle.deficit_steps.proofs.Held.{live_moves_more, few_moves, room_above, room_below}
use Rattle.deficit_steps.proofs.trips.deficits_of.Goals as goal
use Rattle.deficit_steps.proofs.trips.deficits_of.Goals.{then-trip, else-trip}

pub add-requires-clause-raised : goal.add-requires-clause-raised
add-requires-clause-raised g c =
    let v = c.trip-trip.ensures.valid in
    let place : c.as_move.result.from < length c.loop-s.deficits =
    omega (arith, v.from, ap (λ (m : Move). m.from) c.as_move.ensures, c.loop-s.invariant.places) in
    let minute : c.as_move.result.leaves ≤ 8191 =
    omega (arith, ints, v.forward, v.ends_in_day, v.not_too_late, v.late, ap (λ (m : Move). m.leaves) c.as_move.ensures) in
    let few : length (live_moves (take c.loop-s.s c.args.timetable.now.slots)) ≤ 4096 =
    few_moves c.args.timetable.now.slots c.loop-s.s c.slots-s-end.ensures.valid.slots in
    room_above _ _ few (c.held_law.ensures.change c.loop-s.deficits (live_moves (take c.loop-s.s c.args.timetable.now.slots))
    c.as_move.result.from c.as_move.result.leaves c.loop-s.invariant.held place minute)

pub add-requires-clause-lowered : goal.add-requires-clause-lowered
add-requires-clause-lowered g c =
    let v = c.trip-trip.ensures.valid in
    let place : c.as_move.result.to < length c.loop-s.deficits =
    omega (arith, v.to, ap (λ (m : Move). m.to) c.as_move.ensures, c.loop-s.invariant.places) in
    let minute : c.as_move.result.arrives ≤ 8191 =
    omega (arith, ints, v.forward, v.ends_in_day, v.not_too_late, v.late, ap (λ (m : Move). m.arrives) c.as_move.ensures) in
    let few : length (live_moves (take c.loop-s.s c.args.timetable.now.slots)) ≤ 4096 =
    few_moves c.args.timetable.now.slots c.loop-s.s c.slots-s-end.ensures.valid.slots in
    room_below _ _ few (c.held_law.ensures.change c.loop-s.deficits (live_moves (take c.loop-s.s c.args.timetable.now.slots))
    c.as_move.result.to c.as_move.result.arrives c.loop-s.invariant.held place minute)

pub loop-s-preserved : goal.loop-s-preserved
loop-s-preserved g c =
    let slots = c.args.timetable.now.slots in
    let lt : c.loop-s.s < length slots = omega (arith, c.slots-s-end.ensures.count) in
    elim c.if-trip.branch [
      | then-trip w ↦
          let moves = live_moves_more slots c.loop-s.s _ c.trip-trip.result true lt c.trip-trip.ensures.value w.if-trip.true
          ∙ ap (λ m. live_moves (take c.loop-s.s slots) ++ m ∷ []) (sym w.as_move.ensures) in
          record {
            held = rw (w.deficits-is, moves) (w.add.ensures.held (live_moves (take c.loop-s.s slots)) c.loop-s.invariant.held);
            places = ap length w.deficits-is ∙ w.add.ensures.places ∙ c.loop-s.invariant.places;
            counted = omega (arith, w.steps-is, w.add.ensures.counted, c.loop-s.invariant.counted);
          }
      | else-trip w ↦
          let moves = live_moves_more slots c.loop-s.s _ c.trip-trip.result false lt c.trip-trip.ensures.value w.if-trip.false
          ∙ append-nil (live_moves (take c.loop-s.s slots)) in
          record {
            held = rw (w.deficits-is, moves) c.loop-s.invariant.held;
            places = ap length w.deficits-is ∙ c.loop-s.invariant.places;
            counted = omega (arith, w.steps-is, c.loop-s.invariant.counted);
          }
    ]
