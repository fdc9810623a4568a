-- Fields as they are collected, and as a map holds them.
use Rattle.std.proofs.Common.{◌≡◌, ℕ, ◌+◌, Bool, true, false, cond, List, [], ◌∷◌, ◌++◌, map, filter, None, Some, suc, refl, sym}
use Rattle.std.proofs.Common.{ap, ◌∙◌}
use Rattle.std.proofs.Common.{arith}
use Rattle.std.specs.List.{range_with_len}
use Rattle.std.specs.Map.{lookup}
use Rattle.std.specs.Str.{bytes_eq}
use Rattle.std.proofs.lemmas.List.{map-append}
use Rattle.std.proofs.lemmas.List.Elements.{filter-append}
use Rattle.gtfs_tables.specs.Entries.{Name, Entries, value_of}
use Rattle.indexmap.specs.IndexMap.{IndexMap, insert_entry}
use Rattle.indexmap.proofs.CallerLemmas.{insert_entry-new}
use Rattle.trip_model.proofs.StepsLemmas.{range_with_len-more}

-- the numbers that pass, up to one more
pub passing-more : {X : Type 0} (f : ℕ → X) (p : ℕ → Bool) (n : ℕ)
    → map f (filter p (range_with_len 0 (n + 1))) ≡ map f (filter p (range_with_len 0 n)) ++ cond (p n) (f n ∷ []) []
passing-more f p n =
    ap (λ m. map f (filter p (range_with_len 0 m))) (let e : n + 1 ≡ suc n = omega arith in e)
    ∙ ap (λ xs. map f (filter p xs)) (range_with_len-more 0 n)
    ∙ ap (λ x. map f (filter p (range_with_len 0 n ++ x ∷ []))) (let e : 0 + n ≡ n = omega arith in e)
    ∙ ap (map f) (filter-append p (range_with_len 0 n) (n ∷ []))
    ∙ map-append f (filter p (range_with_len 0 n)) (filter p (n ∷ []))
    ∙ ap (λ xs. map f (filter p (range_with_len 0 n)) ++ xs) (one (p n))
  where
    one : (b : Bool) → map f (cond b (n ∷ []) []) ≡ cond b (f n ∷ []) []
    one true = refl
    one false = refl

module _ {K : Type 0} (bytes : K → Name) where
  -- the entries of a map whose keys have bytes
  abbrev pub seen : {X : Type 0} → List (K × X) → Entries X
  seen es = map (λ e. (bytes e.0, e.1)) es

  pub value_of-seen : {X : Type 0} (name : Name) (es : List (K × X))
      → value_of name (seen es) ≡ lookup (λ k. bytes_eq name (bytes k)) es
  value_of-seen name [] = refl
  value_of-seen name (e ∷ es) = ap (λ found. cond (bytes_eq name (bytes e.0)) (Some e.1) found) (value_of-seen name es)

  -- a new key goes last
  pub seen-new : {X S : Type 0} (m new : IndexMap K X S) (key : K) (value : X) (entries : Entries X) → seen m.entries ≡ entries
      → value_of (bytes key) entries ≡ None → new.entries ≡ insert_entry (λ x y. bytes_eq (bytes x) (bytes y)) m.entries key value
      → seen new.entries ≡ entries ++ (bytes key, value) ∷ []
  seen-new m new key value entries view none put =
      let absent : lookup (λ k. bytes_eq (bytes key) (bytes k)) m.entries ≡ None =
      sym (value_of-seen (bytes key) m.entries) ∙ ap (value_of (bytes key)) view ∙ none in
      ap (λ es. seen es) (put ∙ insert_entry-new (λ x y. bytes_eq (bytes x) (bytes y)) m key value absent)
      ∙ map-append _ m.entries ((key, value) ∷ [])
      ∙ ap (λ es. es ++ (bytes key, value) ∷ []) view
