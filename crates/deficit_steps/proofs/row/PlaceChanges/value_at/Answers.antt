use Rattle.std.proofs.Common.{◌<◌, length, arith}
use Rattle.deficit_steps.proofs.LeavesLemmas.{change_read}
use Rattle.deficit_steps.proofs.RowLemmas.{next_sum-fits, next_sum-is}
use Rattle.deficit_steps.proofs.row.PlaceChanges.value_at.Goals as goal

pub overflow_add-value : goal.overflow_add-value
overflow_add-value c =
    let changes = c.args.self.now in
    let read = change_read c.self.inside.tree changes c.loop-m.m c.leaf-value.result c.self.view_is c.leaf-value.ensures.found in
    let there : c.loop-m.m < length changes = omega (arith, c.requires.valid.minutes) in
    next_sum-fits changes c.loop-m.m _ _ read c.requires.valid.bounded (omega (arith, c.requires.valid.minutes)) there c.loop-m.invariant

pub loop-m-preserved : goal.loop-m-preserved
loop-m-preserved c =
    let changes = c.args.self.now in
    let read = change_read c.self.inside.tree changes c.loop-m.m c.leaf-value.result c.self.view_is c.leaf-value.ensures.found in
    let there : c.loop-m.m < length changes = omega (arith, c.requires.valid.minutes) in
    next_sum-is changes c.loop-m.m _ _ read c.requires.valid.bounded (omega (arith, c.requires.valid.minutes)) there c.loop-m.invariant
