use Rattle.planners_command.proofs.NumbersLemmas.{numbers-put}
use Rattle.planners_command.proofs.numbers.push_numbers.Goals as goal

pub returns-clause-numbers : goal.returns-clause-numbers
returns-clause-numbers g c =
    let schedule = c.in_ok-schedule.schedule in
    numbers-put c.plain_law.ensures.moves c.plain_law.ensures.made c.plain_blocks_law.ensures.reached c.args.timetable.now
    c.args.matrix.now schedule.solver schedule.blocks c.slots-slots.ensures.valid
    c.in_ok-schedule.ensures.scheduled c.in_ok-fixed.fixed c.len-vehicles.result c.empty_minutes-minutes.result _ _
    c.in_ok-fixed.ensures.sum c.len-vehicles.ensures.count c.empty_minutes-minutes.ensures c.push_numbers_line.result
    c.push_numbers_line.ensures
