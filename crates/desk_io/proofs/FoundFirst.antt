-- What a search of a list of entries for a name answers at its first entry.
use Rattle.std.proofs.Common.{◌≡◌, ℕ, Bool, true, false, cond, List, ◌∷◌, Some, sym, ap, ◌∙◌}
use Rattle.std.specs.FinMap.{find}
use Rattle.std.specs.Cmp.Lexicographic.{slice_cmp}
use Rattle.std.specs.Ordering.{nat_cmp}
use Rattle.std.specs.Str.{bytes_eq}
use Rattle.std.proofs.lemmas.Map.Text.{is_eq-slice_cmp}
use Rattle.std.proofs.lemmas.Slice.Eq.{bytes_eq-Decides}

-- equality of bytes is the same from both sides
bytes_eq-sym : (xs ys : List ℕ) (b : Bool) → bytes_eq xs ys ≡ b → bytes_eq ys xs ≡ b
bytes_eq-sym xs ys true e = (bytes_eq-Decides ys xs).1 (sym ((bytes_eq-Decides xs ys).0 e))
bytes_eq-sym xs ys false e =
    elim (bytes_eq ys xs) as (λ t. bytes_eq ys xs ≡ t → t ≡ false) [
      | true ↦ λ t. sym ((bytes_eq-Decides xs ys).1 (sym ((bytes_eq-Decides ys xs).0 t))) ∙ e
      | false ↦ λ t. λ i. false
    ] (λ i. bytes_eq ys xs)

-- the entry has the name
pub find-here : {X : Type 0} (name : List ℕ) (e : List ℕ × X) (es : List (List ℕ × X)) → bytes_eq e.0 name ≡ true
    → find (slice_cmp nat_cmp) name (e ∷ es) ≡ Some e.1
find-here name e es same =
    ap (λ b. cond b (Some e.1) (find (slice_cmp nat_cmp) name es)) (is_eq-slice_cmp name e.0 ∙ bytes_eq-sym e.0 name true same)

-- the entry has another name
pub find-other : {X : Type 0} (name : List ℕ) (e : List ℕ × X) (es : List (List ℕ × X)) → bytes_eq e.0 name ≡ false
    → find (slice_cmp nat_cmp) name (e ∷ es) ≡ find (slice_cmp nat_cmp) name es
find-other name e es other =
    ap (λ b. cond b (Some e.1) (find (slice_cmp nat_cmp) name es)) (is_eq-slice_cmp name e.0 ∙ bytes_eq-sym e.0 name false other)
