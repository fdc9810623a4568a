use Rattle.std.proofs.Common.{◌<◌, length, w32, sym, ap, subst, ◌∙◌, arith}
use Rattle.std.proofs.lemmas.Int.{to_z-of_z}
use Rattle.deficit_steps.specs.Changes.{IsChange, AreChanges}
use Rattle.deficit_steps.specs.Leaves.{sums}
use Rattle.deficit_steps.proofs.LeavesLemmas.{change_read, leaf_written, SumsLeaves-change}
use Rattle.deficit_steps.proofs.RowLemmas.{raised-is, AreChanges-with}
use Rattle.deficit_steps.proofs.row.PlaceChanges.change.Goals as goal

pub set-requires-clause-lawful : goal.set-requires-clause-lawful
set-requires-clause-lawful g c =
    let changes = c.args.self.now in
    let n = c.args.minute in
    let there : n < length changes = omega (arith, c.requires.valid.minutes) in
    let read = change_read c.self.inside.tree changes n c.leaf.result c.self.view_is c.leaf.ensures.found in
    let raised = raised-is changes n c.leaf.result.sum c.args.by read there c.requires.valid.bounded c.ranges.by c.requires.bounded in
    SumsLeaves-change _ (subst IsChange (sym raised) c.requires.bounded)
    (to_z-of_z w32 c.max.result (record { sfits = c.max.type_inv }) ∙ c.max.ensures.value)

pub returns-clause-changed : goal.returns-clause-changed
returns-clause-changed g c =
    let changes = c.args.self.now in
    let n = c.args.minute in
    let there : n < length changes = omega (arith, c.requires.valid.minutes) in
    let read = change_read c.self.inside.tree changes n c.leaf.result c.self.view_is c.leaf.ensures.found in
    let raised = raised-is changes n c.leaf.result.sum c.args.by read there c.requires.valid.bounded c.ranges.by c.requires.bounded in
    ap sums c.set.ensures.replaced ∙ leaf_written c.self.inside.tree changes n c.args.by _ c.self.view_is raised

pub returns-clause-valid : goal.returns-clause-valid
returns-clause-valid g c =
    subst AreChanges (sym (returns-clause-changed g c))
    (AreChanges-with c.args.self.now c.args.minute c.args.by c.requires.valid c.requires.minute c.requires.bounded c.requires.begins)
