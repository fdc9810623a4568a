use Rattle.std.proofs.lemmas.Result.{err_from_is_err_and}
use Rattle.desk_run.specs.Reading.{found_of}
use Rattle.desk_feed.proofs.SaidLemmas.{said-no_timetable, said-no_deadheads, said-no_pulls, said-no_rules, said-no_lines}
use Rattle.desk_feed.proofs.feed.read_feed.Goals as goal

pub returns-in_err-timetable-clause-gives : goal.returns-in_err-timetable-clause-gives
returns-in_err-timetable-clause-gives c =
    let p = err_from_is_err_and c.from_residual-in_err-timetable.result c.from_residual-in_err-timetable.ensures.1 in
    let found = found_of c.args.read.now.pages in
    rw (p.1, p.2) (said-no_timetable found c.in_ok-settings.settings c.in_ok-settings.ensures c.in_err-timetable.field-0.0
    c.in_err-timetable.ensures)

pub returns-in_err-deadheads-clause-gives : goal.returns-in_err-deadheads-clause-gives
returns-in_err-deadheads-clause-gives c =
    let p = err_from_is_err_and c.from_residual-in_err-deadheads.result c.from_residual-in_err-deadheads.ensures.1 in
    let found = found_of c.args.read.now.pages in
    rw (p.1, p.2) (said-no_deadheads found c.in_ok-settings.settings c.in_ok-settings.ensures c.in_ok-timetable.timetable
    c.in_ok-timetable.ensures
    c.in_err-deadheads.field-0.0 c.in_err-deadheads.ensures)

pub returns-in_err-pulls-clause-gives : goal.returns-in_err-pulls-clause-gives
returns-in_err-pulls-clause-gives c =
    let p = err_from_is_err_and c.from_residual-in_err-pulls.result c.from_residual-in_err-pulls.ensures.1 in
    let found = found_of c.args.read.now.pages in
    rw (p.1, p.2) (said-no_pulls found c.in_ok-settings.settings c.in_ok-settings.ensures c.in_ok-timetable.timetable
    c.in_ok-timetable.ensures
    _ c.in_ok-deadheads.ensures c.in_err-pulls.field-0.0 c.in_err-pulls.ensures.gives)

pub returns-in_err-rules-clause-gives : goal.returns-in_err-rules-clause-gives
returns-in_err-rules-clause-gives c =
    let p = err_from_is_err_and c.from_residual-in_err-rules.result c.from_residual-in_err-rules.ensures.1 in
    let found = found_of c.args.read.now.pages in
    rw (p.1, p.2) (said-no_rules found c.in_ok-settings.settings c.in_ok-settings.ensures c.in_ok-timetable.timetable
    c.in_ok-timetable.ensures
    _ c.in_ok-deadheads.ensures c.in_ok-pulls.pulls c.in_ok-pulls.ensures.gives c.in_err-rules.field-0.0 c.in_err-rules.ensures)

pub returns-in_err-lines-clause-gives : goal.returns-in_err-lines-clause-gives
returns-in_err-lines-clause-gives c =
    let p = err_from_is_err_and c.from_residual-in_err-lines.result c.from_residual-in_err-lines.ensures.1 in
    let found = found_of c.args.read.now.pages in
    rw (p.1, p.2) (said-no_lines found c.in_ok-settings.settings c.in_ok-settings.ensures c.in_ok-timetable.timetable
    c.in_ok-timetable.ensures
    _ c.in_ok-deadheads.ensures c.in_ok-pulls.pulls c.in_ok-pulls.ensures.gives c.in_ok-rules.rules c.in_err-lines.field-0.0
    c.in_ok-rules.ensures c.in_err-lines.ensures.gives)
