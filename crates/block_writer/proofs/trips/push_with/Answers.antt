use Rattle.std.proofs.Common.{◌≡◌, map, set, ap, ◌∙◌, arith}
use Rattle.block_writer.specs.Fields.{with_field}
use Rattle.block_writer.proofs.FieldsWritten.{seen-set, with-set, written-as}
use Rattle.block_writer.proofs.trips.push_with.Goals as goal

pub returns-then-place-len : goal.returns-then-place-len
returns-then-place-len c =
    let row = c.args.row.now in
    let field = c.args.field.now in
    let seen : map (λ field. field.now) c.deref.result.now ≡ with_field row c.args.place field =
    ap (map (λ field. field.now)) c.deref.ensures.value
    ∙ seen-set c.in_ok-fields.fields.items row c.args.place c.as_bytes.result c.in_ok-fields.ensures
    ∙ ap (λ field. set row c.args.place field) c.as_bytes.ensures.value
    ∙ with-set row c.args.place field (omega (arith, c.len.ensures)) in
    written-as c.push.result c.args.records.now c.push.new.self _ _ seen c.push.ensures.pushed
