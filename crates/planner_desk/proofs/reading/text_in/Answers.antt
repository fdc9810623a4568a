use Rattle.std.proofs.Common.{sym, ap, ◌∙◌, Some}
use Rattle.planner_desk.proofs.FieldsRead.{text-other, text-utf8}
use Rattle.planner_desk.proofs.reading.text_in.Goals as goal

pub returns-in-Ok : goal.returns-in-Ok
returns-in-Ok c = sym (text-utf8 c.args.field.now c.in-Ok.ensures.cases.1 ∙ ap Some (sym c.in-Ok.ensures.cases.0))

pub returns-in-Err : goal.returns-in-Err
returns-in-Err c = sym (text-other c.args.field.now c.in-Err.ensures.cases.0)
