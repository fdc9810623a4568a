use Rattle.std.proofs.Common.{arith, refl, subst, ◌∙◌}
use Rattle.shift_moves.specs.Trial.{IsRoom}
use Rattle.shift_moves.proofs.Sizes.{none-below, none-past, none-up_to}
use Rattle.shift_moves.proofs.search.shift_of_slot.Goals as goal

pub loop-size-init : goal.loop-size-init
loop-size-init g c = record {
  unchanged = refl;
  none = none-below c.args.timetable.now c.args.slot c.least_sizes-least.result.earlier c.least_sizes-least.result.later
      c.least_sizes-least.ensures.earlier c.least_sizes-least.ensures.later _ (omega arith);
  counted = omega arith;
}

pub loop-size-preserved : goal.loop-size-preserved
loop-size-preserved g c = record {
  unchanged = c.in_default.ensures.unchanged ∙ c.loop-size.invariant.unchanged;
  none = none-up_to c.args.timetable.now c.args.slot c.loop-size.size c.in_default.ensures.none_earlier c.in_default.ensures.none_later
      c.loop-size.invariant.none;
  counted = omega (arith, c.in_default.ensures.counted, c.loop-size.invariant.counted);
}

pub returns-clause-none : goal.returns-clause-none
returns-clause-none g c =
    let room = c.room_of-room.result in
    none-past c.args.timetable.now c.args.slot room.earlier room.later c.loop-size.size
    (subst (λ trip. IsRoom trip room.earlier room.later) c.trip-trip.ensures.value c.room_of-room.ensures) (omega arith) (omega arith)
    c.loop-size.invariant.none
