use Rattle.std.proofs.Common.{length, sym, ap, ◌∙◌}
use Rattle.edit_script.specs.Made.{without_change}
use Rattle.edit_script.specs.Script.{ScriptView}
use Rattle.edit_script.proofs.TimetablesLemmas.{length-timetables_past}
use Rattle.edit_script.proofs.script.Script.kept.Goals as goal

pub returns : goal.returns
returns c = c.kept.ensures.count ∙ sym (length-timetables_past without_change c.self.inside.timetable c.self.inside.log.kept)
    ∙ ap (λ (s : ScriptView). length s.earlier) c.self.view_is
