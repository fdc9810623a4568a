use Rattle.std.proofs.Common.{ap, ◌∙◌, []}
use Rattle.std.proofs.lemmas.List.Sums.{fold_push}
use Rattle.planner_desk.specs.Machine.{edit_record, no_edit_record, or_stays, planners_machine, with_record}
use Rattle.planner_desk.proofs.laws.machine_law.Goals as goal

pub returns-clause-accepted : goal.returns-clause-accepted
returns-clause-accepted c = λ base records next number asked is.
    fold_push (with_record base) [] records (edit_record number asked) ∙ ap (or_stays (planners_machine base records)) is

pub returns-clause-refused : goal.returns-clause-refused
returns-clause-refused c = λ base records refused number asked is.
    fold_push (with_record base) [] records (edit_record number asked) ∙ ap (or_stays (planners_machine base records)) is

pub returns-clause-no_edit : goal.returns-clause-no_edit
returns-clause-no_edit c = λ base records number. fold_push (with_record base) [] records (no_edit_record number)
