use Rattle.std.proofs.lemmas.Str.{IsUtf8-from_ascii}
use Rattle.gtfs_tables.specs.declared.paper.Column.TheVariants as column
use Rattle.gtfs_tables.specs.declared.paper.Paper.TheVariants as paper
use Rattle.gtfs_tables.proofs.ReadingLemmas.{text_in-other, text_in-utf8}
use Rattle.feed_read.proofs.stop_times.judge_name.Goals as goal

pub returns-then-is_ascii : goal.returns-then-is_ascii
returns-then-is_ascii c =
    text_in-utf8 paper.StopTimes c.args.number column.TripId c.args.name.now
    (IsUtf8-from_ascii c.args.name.now (c.is_ascii.ensures c.if-is_ascii.true))

pub returns-in-Ok : goal.returns-in-Ok
returns-in-Ok c = text_in-utf8 paper.StopTimes c.args.number column.TripId c.args.name.now c.in-Ok.ensures.cases.1

pub returns-in-Err : goal.returns-in-Err
returns-in-Err c = text_in-other paper.StopTimes c.args.number column.TripId c.args.name.now c.in-Err.ensures.cases.0
