use Rattle.desk_core.proofs.DeskLemmas.{done-undo, refused-undo}
use Rattle.desk_core.proofs.desk.Desk.apply.Goals as goal

pub returns-in-Undo-clause-done : goal.returns-in-Undo-clause-done
returns-in-Undo-clause-done g c =
    done-undo c.undo.result c.args.number c.args.edit.now c.args.self.now c.undo.new.self c.in-Undo.is c.undo.ensures.done

pub returns-in-Undo-clause-refused : goal.returns-in-Undo-clause-refused
returns-in-Undo-clause-refused g c =
    refused-undo c.undo.result c.args.number c.args.edit.now c.args.self.now.script c.in-Undo.is c.undo.ensures.refused
