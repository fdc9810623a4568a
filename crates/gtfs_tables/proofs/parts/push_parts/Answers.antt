use Rattle.std.proofs.Common.{◌++◌, ◌∷◌, [], ap, append_assoc, map, refl, sym, ◌∙◌}
use Rattle.std.proofs.lemmas.List.{append-nil}
use Rattle.gtfs_tables.specs.Parts.{later_parts}
use Rattle.gtfs_tables.proofs.parts.push_parts.Goals as goal

pub parts-init : goal.parts-init
parts-init c =
    let before = map (λ field. field.now) c.args.fields.now.items in
    let later = later_parts c.first_part.result.1 in
    rw (c.in_ok-push_field.ensures, append_assoc before (c.first_part.result.0.now ∷ []) later, ← c.first_part.ensures) refl

pub returns : goal.returns
returns c =
    sym (append-nil (map (λ field. field.now) c.parts.fields.items))
    ∙ (ap (λ behind. map (λ field. field.now) c.parts.fields.items ++ later_parts behind) (sym c.in_default.is) ∙ c.parts.invariant)
