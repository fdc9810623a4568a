use Rattle.std.proofs.Common.{sym, ◌∙◌, arith}
use Rattle.joined_deficits.proofs.LegLemmas.{arrives-in_day}
use Rattle.joined_deficits.proofs.legs.deadhead.Goals as goal

pub overflow_cast-result : goal.overflow_cast-result
overflow_cast-result c = omega (
  arith,
  arrives-in_day c.args.timetable.now c.args.matrix.now c.args.before c.args.slot c.in-Some.minutes c.trip-trip.result c.trip-next.result
      c.trip-trip.ensures.value c.trip-next.ensures.value
      c.trip-next.ensures.valid c.requires.fits (sym c.minutes.ensures.walk ∙ c.in-Some.is),
)

pub overflow_add-result : goal.overflow_add-result
overflow_add-result c = omega (
  arith,
  arrives-in_day c.args.timetable.now c.args.matrix.now c.args.before c.args.slot c.in-Some.minutes c.trip-trip.result c.trip-next.result
      c.trip-trip.ensures.value c.trip-next.ensures.value
      c.trip-next.ensures.valid c.requires.fits (sym c.minutes.ensures.walk ∙ c.in-Some.is),
)
