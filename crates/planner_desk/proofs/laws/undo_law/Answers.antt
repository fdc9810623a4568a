use Rattle.planner_desk.proofs.UndoLemmas.{holder_stands, nothing_stands, undo_takes_back}
use Rattle.planner_desk.proofs.laws.undo_law.Goals as goal

pub returns-clause-taken : goal.returns-clause-taken
returns-clause-taken c = undo_takes_back

pub returns-clause-nothing : goal.returns-clause-nothing
returns-clause-nothing c = nothing_stands

pub returns-clause-held : goal.returns-clause-held
returns-clause-held c = holder_stands
