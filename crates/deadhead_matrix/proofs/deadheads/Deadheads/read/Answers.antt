use Rattle.deadhead_matrix.proofs.TerminalWalks.{walks-read}
use Rattle.deadhead_matrix.proofs.deadheads.Deadheads.read.Goals as goal

pub returns-clause-walks : goal.returns-clause-walks
returns-clause-walks c =
    walks-read c.args.deadheads.now c.args.timetable.now c.read_deadheads-read.new.timetable c.read_deadheads-read.result
    c.places-before.ensures.valid c.places-after.ensures.valid c.read_deadheads-read.ensures.gives
