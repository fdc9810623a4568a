use Rattle.std.proofs.Common.{refl}
use Rattle.deadhead_matrix.specs.Deadheads.{ReadingView}
use Rattle.deadhead_matrix.proofs.LeftLemmas.{left-file}
use Rattle.deadhead_matrix.proofs.NamedLemmas.{file-named}
use Rattle.deadhead_matrix.proofs.read.read_all.Goals as goal

pub returns-in_ok-judge_table-in-TooLong-clause-left :
    goal.returns-in_ok-judge_table-in-TooLong-clause-left
returns-in_ok-judge_table-in-TooLong-clause-left c = λ other.
    let reading = c.args.reading.now in
    let after = c.read_traced.new.records in
    let before_read : ReadingView = record { timetable = reading.timetable; entries = reading.deadheads; unplaced = reading.unplaced } in
    let after_read : ReadingView = record { timetable = after.timetable; entries = after.deadheads; unplaced = after.unplaced } in
    left-file c.args.found.now reading.classes.items before_read after_read c.requires.classes
    (λ i. record { timetable = reading.timetable; entries = c.requires.begun i; unplaced = c.requires.placed i })
    c.in_ok-judge_table-in-TooLong.ensures (λ table is. c.read_traced.ensures.left table is other)

pub returns-in_ok-judge_table-in-TooLong-clause-gained :
    goal.returns-in_ok-judge_table-in-TooLong-clause-gained
returns-in_ok-judge_table-in-TooLong-clause-gained c =
    let reading = c.args.reading.now in
    let after = c.read_traced.new.records in
    let before_read : ReadingView = record { timetable = reading.timetable; entries = reading.deadheads; unplaced = reading.unplaced } in
    let after_read : ReadingView = record { timetable = after.timetable; entries = after.deadheads; unplaced = after.unplaced } in
    file-named c.args.found.now reading.timetable before_read after_read refl c.in_ok-judge_table-in-TooLong.ensures
    (λ table is. rw c.requires.classes at (c.read_traced.ensures.changed table is))
