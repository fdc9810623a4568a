use Rattle.std.proofs.Common.{ap, ◌∙◌}
use Rattle.edit_script.specs.Made.{without_change}
use Rattle.edit_script.proofs.MadeLemmas.{WasMade-with_change, without_made-with_made}
use Rattle.edit_script.proofs.TouchLemmas.{IsTouched-told, IsTouchedIn-with_made}
use Rattle.edit_script.proofs.changes.make.Goals as goal

pub returns-in-Ok-clause-back : goal.returns-in-Ok-clause-back
returns-in-Ok-clause-back c =
    let change = c.args.change.now in
    ap (λ t. without_change t change) c.in-Ok.ensures.made
    ∙ without_made-with_made c.args.timetable.now change.slot change.made c.trip_at-before.ensures.valid c.requires.can

pub returns-in-Ok-clause-was : goal.returns-in-Ok-clause-was
returns-in-Ok-clause-was c = WasMade-with_change c.args.timetable.now _ c.args.change.now c.trip_at-before.ensures.valid c.requires.can
    c.in-Ok.ensures.made

pub returns-in-Ok-clause-touched : goal.returns-in-Ok-clause-touched
returns-in-Ok-clause-touched c =
    let change = c.args.change.now in
    IsTouched-told change.slot _ _ c.args.timetable.now _ _ c.trip_at-before.ensures.trip c.trip_at.ensures.trip c.in-Ok.ensures.made
    (IsTouchedIn-with_made c.args.timetable.now change.slot change.made c.requires.can)
