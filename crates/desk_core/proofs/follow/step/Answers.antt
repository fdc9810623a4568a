use Rattle.std.proofs.Common.{subst}
use Rattle.trip_model.specs.Timetable.{IsTimetable}
use Rattle.desk_core.proofs.follow.step.Goals as goal

pub follow-requires : goal.follow-requires
follow-requires g c = (
  c.args.script.now.timetable,
  c.step.new.self.timetable,
  record {
    before = subst IsTimetable c.timetable.ensures c.slots-before.ensures.valid;
    after = subst IsTimetable c.timetable-2.ensures c.slots-after.ensures.valid;
    touches = c.in_ok-touched.ensures.touched;
  },
  c.requires.with,
)

pub returns-clause-with : goal.returns-clause-with
returns-clause-with g c = c.follow.ensures.with c.args.script.now.timetable c.step.new.self.timetable (record {
  before = subst IsTimetable c.timetable.ensures c.slots-before.ensures.valid;
  after = subst IsTimetable c.timetable-2.ensures c.slots-after.ensures.valid;
  touches = c.in_ok-touched.ensures.touched;
}) c.requires.with
