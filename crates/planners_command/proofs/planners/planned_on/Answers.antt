use Rattle.desk_feed.specs.Commands.{said_to}
use Rattle.desk_feed.specs.Feed.{standing}
use Rattle.planners_command.proofs.Given.{planners-of}
use Rattle.planners_command.proofs.PlannersLaws.{are-planners}
use Rattle.planners_command.proofs.planners.planned_on.Goals as goal

pub returns-clause-planned : goal.returns-clause-planned
returns-clause-planned g c =
    let said = said_to c.args.said in
    let lines = c.args.lines.now in
    planners-of said lines c.in_ok-matrix.matrix c.in_ok-edited.edited c.in_ok-matrix.ensures c.in_ok-edited.ensures.edited
    (are-planners c.undo_law.ensures.taken c.undo_law.ensures.nothing c.undo_law.ensures.held c.folding_law.ensures.always (standing said)
    lines)
    c.planned.result c.planned.ensures.planned
