use Rattle.std.proofs.lemmas.Result.{err_from_is_err_and}
use Rattle.gtfs_tables.specs.Reading.{table_in}
use Rattle.gtfs_tables.proofs.ReadingLemmas.{header-table}
use Rattle.gtfs_tables.specs.declared.paper.Paper.TheVariants as paper
use Rattle.block_writer.proofs.CopiedLines.{plain-copied}
use Rattle.block_writer.proofs.Rewritten.{started, stop-times-made, stop-times-refused}
use Rattle.block_writer.proofs.stop_times.stop_times_text.Goals as goal

pub returns-in_err-written-clause-refused : goal.returns-in_err-written-clause-refused
returns-in_err-written-clause-refused c =
    let p = err_from_is_err_and c.from_residual-in_err-written.result c.from_residual-in_err-written.ensures.1 in
    let begins =
    started c.new-records.result c.push_row.new.self c.in_ok-header.header c.new-records.ensures
    c.in_ok-push_row.ensures.pushed in
    rw (p.1, p.2)
    (stop-times-refused c.args.timetable.now c.args.base c.in_ok-header.header c.push_row.new.self
    (table_in paper.StopTimes c.args.found.now)
    c.in_err-written.field-0.0 (header-table paper.StopTimes c.args.found.now c.in_ok-header.header c.in_ok-header.ensures) begins
    c.in_err-written.ensures)

pub returns-clause-written : goal.returns-clause-written
returns-clause-written c =
    let begins =
    started c.new-records.result c.push_row.new.self c.in_ok-header.header c.new-records.ensures
    c.in_ok-push_row.ensures.pushed in
    rw c.in_ok-into_bytes.ensures.bytes
    (stop-times-made c.args.timetable.now c.args.base c.in_ok-header.header c.push_row.new.self
    (table_in paper.StopTimes c.args.found.now) _
    (header-table paper.StopTimes c.args.found.now c.in_ok-header.header c.in_ok-header.ensures) begins c.in_ok-written.ensures)

pub returns-in-Some-clause-written : goal.returns-in-Some-clause-written
returns-in-Some-clause-written c =
    (plain-copied c.args.timetable.now c.args.base (c.moves_some-some.ensures.none c.if-not-some.true) c.len.result c.args.found.now
    c.in-Some.bytes.now c.in-Some.ensures)
