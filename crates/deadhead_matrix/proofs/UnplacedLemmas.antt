-- The ends of records among the keys that a set holds.
use Rattle.std.proofs.Common.{◌≡◌, ℕ, Bool, ◌&&◌, ◌||◌, List, [], ◌∷◌, refl, ap, ◌∙◌, String, string_bytes}
use Rattle.std.specs.Prelude.{string_eq}
use Rattle.std.specs.List.{list_any}
use Rattle.std.specs.Str.{bytes_eq}
use Rattle.deadhead_matrix.specs.Deadheads.{Ends, has_ends, ends_from}

-- the test of the set's keys
abbrev pub keys_eq : {Y : Type 0} → String Y × String Y → String Y × String Y → Bool
keys_eq a b = string_eq a.0 b.0 && string_eq a.1 b.1

-- ends stand among the keys where the set has them
pub has_ends-from : {Y : Type 0} (from to : List ℕ) (ks : List (String Y × String Y))
    → list_any (λ k. bytes_eq from (string_bytes k.0) && bytes_eq to (string_bytes k.1)) ks ≡ has_ends (ends_from ks) (from, to)
has_ends-from from to [] = refl
has_ends-from from to (k ∷ ks) =
    ap (λ b. (bytes_eq from (string_bytes k.0) && bytes_eq to (string_bytes k.1)) || b) (has_ends-from from to ks)

pub has_ends-keys : {Y : Type 0} (old : List (String Y × String Y)) (a b : String Y) (ends : List Ends) (from to : List ℕ)
    → ends_from old ≡ ends → string_bytes a ≡ from → string_bytes b ≡ to
    → list_any (keys_eq (a, b)) old ≡ has_ends ends (from, to)
has_ends-keys old a b ends from to view first second =
    has_ends-from (string_bytes a) (string_bytes b) old ∙ (λ i. has_ends (view i) (first i, second i))
