use Rattle.edit_script.proofs.TouchLemmas.{IsTouched-told, IsTouchedIn-without_change}
use Rattle.edit_script.proofs.changes.unmake.Goals as goal

pub returns-clause-touched : goal.returns-clause-touched
returns-clause-touched c =
    let change = c.args.change.now in
    IsTouched-told change.slot _ _ c.args.timetable.now _ _ c.trip_at-before.ensures.trip c.trip_at.ensures.trip c.take.ensures
    (IsTouchedIn-without_change c.args.timetable.now change c.requires.was)
