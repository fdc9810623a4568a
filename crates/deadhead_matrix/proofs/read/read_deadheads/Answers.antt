use Rattle.std.proofs.Common.{ap}
use Rattle.std.proofs.lemmas.Result.{err_from_is_err_and}
use Rattle.gtfs_tables.proofs.ReadingLemmas.{Fails-equal}
use Rattle.deadhead_matrix.specs.Deadheads.{deadheads_of}
use Rattle.deadhead_matrix.proofs.read.read_deadheads.Goals as goal

pub returns-in_err-read-clause-gives : goal.returns-in_err-read-clause-gives
returns-in_err-read-clause-gives c =
    let p = err_from_is_err_and c.from_residual-in_err-read.result c.from_residual-in_err-read.ensures.1 in
    rw (p.1, p.2) (Fails-equal c.in_err-read.field-0.0 _ _ (ap (deadheads_of c.args.found.now) c.in_ok-reading.ensures.timetable)
    c.in_err-read.ensures.gives)
