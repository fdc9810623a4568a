use Rattle.std.proofs.Common.{◌≡◌, ◌-◌, ◌∙◌, [], ◌∷◌, List, ℕ, Bor, ap, arith, drop, length, map, refl, sym}
use Rattle.std.proofs.lemmas.List.{append-nil, length-drop}
use Rattle.gtfs_tables.proofs.Fields.{length-padded}
use Rattle.gtfs_tables.proofs.PartLemmas.{from-place}
use Rattle.gtfs_tables.proofs.row.Row.without_first.Goals as goal

-- the bytes of fields
abbrev now : List (Bor (List ℕ)) → List (List ℕ)
now fields = map (λ field. field.now) fields

now-drop : (fields : List (Bor (List ℕ))) → now (drop 1 fields) ≡ drop 1 (now fields)
now-drop [] = refl
now-drop (field ∷ fields) = refl

pub returns : goal.returns
returns c =
    let row = c.args.self.now in
    let inside = c.self.inside in
    let width : length row ≡ inside.width =
    sym (ap length c.self.view_is) ∙ length-padded inside.width inside.fields c.self.invariant in
    let own : now c.deref.result.now ≡ row = ap now c.deref.ensures.value ∙ c.in_ok-own.ensures in
    let rest : c.of.result ≡ drop 1 row =
    c.of.ensures ∙ (c.in_ok-fields.ensures.fields ∙ (ap now (from-place 1 c.deref.result.now)
    ∙ (now-drop c.deref.result.now ∙ ap (λ (fields : List (List ℕ)). drop 1 fields) own))) in
    let full : inside.width - 1 - length (drop 1 row) ≡ 0 = omega (arith, width, length-drop 1 row) in
    rw (rest, full) (append-nil (drop 1 row))
