use Rattle.std.proofs.Common.{◌≡◌, ◌+◌, ◌-◌, ◌++◌, [], ◌∷◌, cond, false, get_or, sym, ap, ◌∙◌, arith}
use Rattle.gtfs_tables.specs.Reading.{field_at, place_of}
use Rattle.desk_settings.specs.Selected.{field_of}
use Rattle.feed_likings.proofs.FieldLemmas.{passing-more}
use Rattle.feed_likings.proofs.fields.Fields.of.Goals as goal

pub loop-before-preserved : goal.loop-before-preserved
loop-before-preserved c =
    let column = c.args.column in
    let trips = c.args.trips.now in
    let chosen = c.args.chosen.now in
    let n = c.loop-before.before in
    let at : n + 1 - 1 ≡ n = omega arith in
    let row = c.row.ensures.value ∙ ap (λ r. get_or trips.rows r []) at in
    let place = c.place_of-place.ensures ∙ ap (place_of column) c.header.ensures in
    let field : c.field-field.result.now ≡ field_of column trips n = c.field-field.ensures ∙ (λ i. field_at (row i) (place i)) in
    c.in_ok-push_field.ensures
    ∙ (λ i. c.loop-before.invariant i ++ cond (get_or chosen n false) (field i ∷ []) [])
    ∙ sym (passing-more (field_of column trips) (λ r. get_or chosen r false) n)
