-- The fields of a record with empty ones at its end.
use Rattle.std.proofs.Common.{◌≡◌, ℕ, zero, suc, ◌+◌, ◌-◌, ◌≤◌, List, [], ◌∷◌, ◌++◌, drop, length, get_or, replicate, take}
use Rattle.std.proofs.Common.{unwrap_or, All, get_or-drop, refl, sym, arith}
use Rattle.std.specs.Str.{IsAscii, IsUtf8}
use Rattle.std.proofs.lemmas.List.{append-nil, length-append, length-replicate}
use Rattle.std.proofs.lemmas.List.Elements.{All-append, All-cons, All-nil, All-replicate}
use Rattle.std.proofs.lemmas.Str.{IsUtf8-from_ascii, IsUtf8-nil}
use Rattle.csv.specs.Records.{cut_from, field_at}
use Rattle.gtfs_tables.specs.Rows.{padded}

-- the field at a place, and an empty one past those that the record has
pub field_at-plain : (fields : List (List ℕ)) (n : ℕ) → unwrap_or (field_at fields n) [] ≡ get_or fields n []
unfolding field_at
field_at-plain [] n = refl
field_at-plain (f ∷ fields) zero = refl
field_at-plain (f ∷ fields) (suc n) = field_at-plain fields n

empty-at : (k n : ℕ) → get_or {A = List ℕ} (replicate k []) n [] ≡ []
empty-at zero n = refl
empty-at (suc k) zero = refl
empty-at (suc k) (suc n) = empty-at k n

-- empty fields at the end of a record are as none
pub padded-at : (fields : List (List ℕ)) (k n : ℕ) → get_or fields n [] ≡ get_or (fields ++ replicate k []) n []
padded-at [] k n = sym (empty-at k n)
padded-at (f ∷ fields) k zero = refl
padded-at (f ∷ fields) k (suc n) = padded-at fields k n

-- a padded record has empty fields behind its own
pub padded-end : (fields : List (List ℕ)) (k n : ℕ) → length fields ≤ n → get_or (fields ++ replicate k []) n [] ≡ []
padded-end [] k n behind = empty-at k n
padded-end (f ∷ fields) k zero behind = absurd (omega arith)
padded-end (f ∷ fields) k (suc n) behind = padded-end fields k n (omega arith)

-- as many fields as there are leave a record as it is
pub padded-full : (fields : List (List ℕ)) → padded (length fields) fields ≡ fields
padded-full fields = let none : length fields - length fields ≡ 0 = omega arith in rw (none, append-nil fields) refl

-- a padded record has the fields of its width
pub length-padded : (width : ℕ) (fields : List (List ℕ)) → length fields ≤ width → length (padded width fields) ≡ width
length-padded width fields fits = simp (length-append, length-replicate) (omega arith)

-- a record has at least the fields of the width that it is padded to
pub padded-length : (width : ℕ) (fields : List (List ℕ)) → length (padded width fields) ≡ length fields + (width - length fields)
padded-length width fields = simp (length-append, length-replicate) refl

-- the front of a text of ASCII is one
ascii-take : (n : ℕ) (text : List ℕ) → IsAscii text → IsAscii (take n text)
ascii-take zero text ascii i = omega arith
ascii-take (suc n) [] ascii i = omega arith
ascii-take (suc n) (b ∷ text) ascii zero = ascii 0
ascii-take (suc n) (b ∷ text) ascii (suc i) = ascii-take n text (λ k. ascii (suc k)) i

-- the fields of a record whose bytes are ASCII are UTF-8
pub cut-texts : (start : ℕ) (ends bytes : List ℕ) → IsAscii bytes → All IsUtf8 (cut_from start ends bytes)
unfolding cut_from
cut-texts start [] bytes ascii = All-nil IsUtf8
cut-texts start (end ∷ ends) bytes ascii =
    let rest : IsAscii (drop start bytes) = λ i. rw (get_or-drop start bytes i 0) (ascii (start + i)) in
    All-cons IsUtf8 (take (end - start) (drop start bytes)) (cut_from end ends bytes)
    (IsUtf8-from_ascii _ (ascii-take (end - start) _ rest)) (cut-texts end ends bytes ascii)

-- where the fields of a record are UTF-8, so are empty ones at its end
pub padded-texts : (width : ℕ) (fields : List (List ℕ)) → All IsUtf8 fields → All IsUtf8 (padded width fields)
padded-texts width fields texts =
    All-append IsUtf8 fields (replicate (width - length fields) []) texts (All-replicate IsUtf8 (width - length fields) [] IsUtf8-nil)
