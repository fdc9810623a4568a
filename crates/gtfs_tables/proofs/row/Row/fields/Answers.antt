use Rattle.std.proofs.Common.{◌≡◌, ◌<◌, ◌≤◌, ◌-◌, [], length, add-one, arith, get_or, map, replicate, refl, sym, ◌∙◌}
use Rattle.std.proofs.Math.Seq.{take-append_seam, take-suc}
use Rattle.std.proofs.lemmas.List.{take_all}
use Rattle.gtfs_tables.proofs.Fields.{padded-end}
use Rattle.gtfs_tables.proofs.row.Row.fields.Goals as goal

pub loop-place-init : goal.loop-place-init
loop-place-init c =
    let fields = c.self.inside.fields in
    let own : map (λ field. field.now) c.push_onto.new.fields.items ≡ fields =
    c.in_ok-push_onto.ensures ∙ rw c.in_ok-fields.ensures.items refl in
    rw (own, c.len-place.ensures, ← c.self.view_is) (sym (take-append_seam fields (replicate (c.self.inside.width - length fields) [])))

pub loop-place-preserved : goal.loop-place-preserved
loop-place-preserved c =
    let row = c.args.self.now in
    let place = c.loop-place.place in
    let within : place < length row = omega (arith, c.loop-place-test.true, c.len-place-end.ensures) in
    let behind : length c.self.inside.fields ≤ place = omega (arith, c.loop-place.auto.place, c.len-place.ensures) in
    let empty : get_or row place [] ≡ [] =
    rw (← c.self.view_is) (padded-end c.self.inside.fields (c.self.inside.width - length c.self.inside.fields) place behind) in
    c.in_ok-push_field.ensures ∙ rw (c.loop-place.invariant, add-one place, take-suc row place [] within, empty) refl

pub returns : goal.returns
returns c =
    c.loop-place.invariant ∙ take_all c.loop-place.place c.args.self.now (omega (arith, c.loop-place-test.false, c.len-place-end.ensures))
