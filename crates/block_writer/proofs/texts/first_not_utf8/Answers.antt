use Rattle.std.proofs.Common.{arith}
use Rattle.block_writer.proofs.TextsTold.{all-told, bad-header, bad-row, first-bad, none-bad, up-to-header, up-to-more}
use Rattle.block_writer.proofs.texts.first_not_utf8.Goals as goal

pub returns-in-Some-clause-some : goal.returns-in-Some-clause-some
returns-in-Some-clause-some c =
    bad-header c.args.table.now c.header.result.now c.in-Some.place c.header.ensures
    (first-bad c.header.result.now c.bad_field.result c.in-Some.place c.in-Some.is c.bad_field.ensures)

pub loop-before-init : goal.loop-before-init
loop-before-init c =
    up-to-header c.args.table.now c.header.result.now c.header.ensures
    (none-bad c.header.result.now c.bad_field.result c.in_default.is c.bad_field.ensures)

pub returns-in-Some-bad_field-clause-some : goal.returns-in-Some-bad_field-clause-some
returns-in-Some-bad_field-clause-some c =
    bad-row c.args.table.now c.row.result.now c.loop-before.before c.in-Some-bad_field.place (omega (arith, c.records-before-end.ensures))
    c.loop-before.invariant c.row.ensures.value
    (first-bad c.row.result.now c.bad_field-in-loop-before.result c.in-Some-bad_field.place c.in-Some-bad_field.is
    c.bad_field-in-loop-before.ensures)

pub loop-before-preserved : goal.loop-before-preserved
loop-before-preserved c =
    up-to-more c.args.table.now c.row.result.now c.loop-before.before c.loop-before.invariant c.row.ensures.value
    (none-bad c.row.result.now c.bad_field-in-loop-before.result c.in_default-bad_field.is c.bad_field-in-loop-before.ensures)

pub returns-clause-none : goal.returns-clause-none
returns-clause-none c = all-told c.args.table.now c.loop-before.before (omega (arith, c.records-before-end.ensures)) c.loop-before.invariant
