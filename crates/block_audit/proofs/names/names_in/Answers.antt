use Rattle.std.proofs.Common.{◌≡◌, ◌+◌, ◌-◌, ◌++◌, [], ◌∷◌, cond, false, get_or, sym, ap, subst, ◌∙◌, arith}
use Rattle.std.specs.Str.{IsUtf8}
use Rattle.gtfs_tables.specs.declared.paper.Column.TheVariants as column
use Rattle.gtfs_tables.specs.Reading.{field_at, place_of}
use Rattle.block_audit.specs.Stated.{block_field}
use Rattle.block_audit.proofs.StepsLemmas.{passing-more}
use Rattle.block_audit.proofs.names.names_in.Goals as goal

pub push_name-requires : goal.push_name-requires
push_name-requires c =
    let trips = c.args.trips.now in
    let n = c.loop-before.before in
    let at : n + 1 - 1 ≡ n = omega arith in
    let row = c.row.ensures.value ∙ ap (λ r. get_or trips.rows r []) at in
    let place = c.place_of-place.ensures ∙ ap (place_of column.BlockId) c.header.ensures in
    let field : c.field-field.result.now ≡ block_field trips n = c.field-field.ensures ∙ (λ i. field_at (row i) (place i)) in
    λ is. subst IsUtf8 (sym field) (c.requires.names n (omega (arith, c.loop-before-test.true, c.records-before-end.ensures)) is)

pub loop-before-preserved : goal.loop-before-preserved
loop-before-preserved c =
    let trips = c.args.trips.now in
    let chosen = c.args.chosen.now in
    let n = c.loop-before.before in
    let at : n + 1 - 1 ≡ n = omega arith in
    let row = c.row.ensures.value ∙ ap (λ r. get_or trips.rows r []) at in
    let place = c.place_of-place.ensures ∙ ap (place_of column.BlockId) c.header.ensures in
    let field : c.field-field.result.now ≡ block_field trips n = c.field-field.ensures ∙ (λ i. field_at (row i) (place i)) in
    c.in_ok-push_name.ensures
    ∙ (λ i. c.loop-before.invariant i ++ cond (get_or chosen n false) (field i ∷ []) [])
    ∙ sym (passing-more (block_field trips) (λ r. get_or chosen r false) n)
