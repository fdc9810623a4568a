use Rattle.std.proofs.Common.{subst}
use Rattle.desk_feed.specs.Commands.{said_to}
use Rattle.feed_likings.specs.Likings.{likings_in}
use Rattle.write_command.specs.Writable.{IsWritable}
use Rattle.write_command.specs.Write.{stop_times_in, trips_table}
use Rattle.write_command.proofs.Given.{refused-by, texts-of, written-given}
use Rattle.write_command.proofs.write.written_of.Goals as goal

pub returns-in-Refused-clause-writes : goal.returns-in-Refused-clause-writes
returns-in-Refused-clause-writes g c =
    let read = c.args.said.read.now in
    let said = said_to c.args.said in
    refused-by (likings_in read said.settings said.base) c.args.naming.now said c.timetable-stands.result.now c.slots-slots.result (trips_table read) (stop_times_in read) c.in-Refused.outcome
    (subst (IsWritable said.settings c.timetable-stands.result.now c.slots-slots.result (trips_table read) (stop_times_in read))
    c.in-Refused.is c.in_ok-outcome.ensures)

pub written-requires-clause-trips : goal.written-requires-clause-trips
written-requires-clause-trips g c =
    let read = c.args.said.read.now in
    texts-of (trips_table read) c.in-Texts.trips
    (subst (IsWritable c.args.said.settings.now c.timetable-stands.result.now c.slots-slots.result (trips_table read) (stop_times_in read))
    c.in-Texts.is c.in_ok-outcome.ensures).0

pub returns-clause-writes : goal.returns-clause-writes
returns-clause-writes g c =
    let read = c.args.said.read.now in
    let said = said_to c.args.said in
    written-given read c.args.naming.now said c.in_ok-matrix.matrix c.in_ok-likings.likings c.in_ok-drawn.drawn c.timetable-stands.result.now c.slots-slots.result c.in-Texts.trips
    c.in-Texts.stop_times
    c.in_ok-matrix.ensures c.in_ok-drawn.ensures.drawn c.in_ok-likings.ensures c.timetable-stands.ensures.timetable c.slots-slots.ensures.count
    (subst (IsWritable said.settings c.timetable-stands.result.now c.slots-slots.result (trips_table read) (stop_times_in read)) c.in-Texts.is
    c.in_ok-outcome.ensures)
    c.written.result c.written.ensures
