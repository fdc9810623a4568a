use Rattle.blocks_command.proofs.Given.{are-of, done-last, named-last, pulls-of}
use Rattle.blocks_command.proofs.blocks.planned.Goals as goal

pub returns-clause-are : goal.returns-clause-are
returns-clause-are g c =
    are-of c.args.timetable c.args.lines.now c.args.matrix c.args.likings.now c.args.naming.now c.in_ok-followed.followed
    c.in_ok-followed.ensures.followed c.finished.result

pub returns-clause-pulls : goal.returns-clause-pulls
returns-clause-pulls g c =
    pulls-of c.args.timetable c.args.lines.now c.args.matrix c.args.likings.now c.args.naming.now c.in_ok-followed.followed
    c.in_ok-followed.ensures.followed c.finished.result

pub returns-clause-named : goal.returns-clause-named
returns-clause-named g c =
    named-last c.args.timetable c.args.lines.now c.args.matrix c.args.likings.now c.args.naming.now c.in_ok-followed.followed
    c.in_ok-followed.ensures.followed c.finished.result c.finished.ensures.named

pub returns-clause-done : goal.returns-clause-done
returns-clause-done g c =
    done-last c.args.timetable c.args.lines.now c.args.matrix c.args.likings.now c.args.naming.now c.in_ok-followed.followed
    c.in_ok-followed.ensures.followed c.finished.result c.finished.ensures.done
