-- The first slots of fields, as a loop over the slots notes them.
use Rattle.std.proofs.Common.{◌≡◌, ℕ, zero, suc, ◌+◌, ◌<◌, ◌≤◌, ◌==◌, nat_lt, Bool, true, false, cond, List, [], ◌∷◌, ◌++◌, length}
use Rattle.std.proofs.Common.{Option, Some, None, is_some, ◌||◌, ⊎_elim, refl, sym, ap, subst, ◌∙◌, arith}
use Rattle.std.specs.List.{position_or_len, range_with_len}
use Rattle.std.specs.Str.{bytes_eq}
use Rattle.std.proofs.lemmas.Bool.{cases_lt, lt-ltb, true≢false, eqb-true}
use Rattle.std.proofs.lemmas.List.Sums.{position_or_len_is}
use Rattle.std.proofs.lemmas.Slice.Eq.{bytes_eq-Decides}
use Rattle.gtfs_tables.specs.Entries.{Name, Entries, has_name, value_of}
use Rattle.desk_settings.specs.Selected.{slot_field}
use Rattle.trip_model.specs.Timetable.{number_of}
use Rattle.trip_model.proofs.StepsLemmas.{range_with_len-more}
use Rattle.feed_likings.specs.Alike.{first_with, first_alike, noted_number, with_slot}

-- the first of two, if there is one, or else the second
abbrev pub or_else : {X : Type 0} → Option X → Option X → Option X
or_else None other = other
or_else (Some x) other = Some x

or_else-cond : {X : Type 0} (b : Bool) (x : X) (front whole last : Option X) → whole ≡ or_else front last
    → cond b (Some x) whole ≡ or_else (cond b (Some x) front) last
or_else-cond true x front whole last e = refl
or_else-cond false x front whole last e = e

pub bytes-itself : (xs : List ℕ) → bytes_eq xs xs ≡ true
bytes-itself xs = (bytes_eq-Decides xs xs).1 refl

-- the first with a field, where there is one slot more
first_with-push : (fields : List (List ℕ)) (field : List ℕ) (slots : List ℕ) (t : ℕ)
    → first_with fields field (slots ++ t ∷ [])
    ≡ or_else (first_with fields field slots) (cond (bytes_eq field (slot_field fields t)) (Some t) None)
first_with-push fields field [] t = refl
first_with-push fields field (x ∷ slots) t =
    or_else-cond (bytes_eq field (slot_field fields x)) x (first_with fields field slots) _ _ (first_with-push fields field slots t)

range-more : (n : ℕ) → range_with_len 0 (n + 1) ≡ range_with_len 0 n ++ n ∷ []
range-more n =
    ap (λ m. range_with_len 0 m) (let e : n + 1 ≡ suc n = omega arith in e)
    ∙ range_with_len-more 0 n
    ∙ ap (λ x. range_with_len 0 n ++ x ∷ []) (let e : 0 + n ≡ n = omega arith in e)

-- and so of all slots below a number
first_with-more : (fields : List (List ℕ)) (field : List ℕ) (n : ℕ)
    → first_with fields field (range_with_len 0 (n + 1))
    ≡ or_else (first_with fields field (range_with_len 0 n)) (cond (bytes_eq field (slot_field fields n)) (Some n) None)
first_with-more fields field n = ap (first_with fields field) (range-more n) ∙ first_with-push fields field (range_with_len 0 n) n

value_of-push : {X : Type 0} (name field : Name) (x : X) (entries : Entries X)
    → value_of name (entries ++ (field, x) ∷ []) ≡ or_else (value_of name entries) (cond (bytes_eq name field) (Some x) None)
value_of-push name field x [] = refl
value_of-push name field x (e ∷ entries) =
    or_else-cond (bytes_eq name e.0) e.1 (value_of name entries) _ _ (value_of-push name field x entries)

pub value_of-itself : {X : Type 0} (field : Name) (x : X) (entries : Entries X) → value_of field entries ≡ None
    → value_of field (entries ++ (field, x) ∷ []) ≡ Some x
value_of-itself field x entries none =
    value_of-push field field x entries ∙ ap (λ o. or_else o (cond (bytes_eq field field) (Some x) None)) none
    ∙ ap (λ b. cond b (Some x) None) (bytes-itself field)

-- of each field that is not empty it was noted which slot below a number is the first
abbrev pub AreNoted : List (List ℕ) → ℕ → Entries ℕ → Type 0
AreNoted fields n firsts = (name : List ℕ) → 0 < length name → value_of name firsts ≡ first_with fields name (range_with_len 0 n)

stays : {X : Type 0} (name field : Name) (x : X) (found : Option X) → (bytes_eq name field ≡ true → is_some found ≡ true)
    → found ≡ or_else found (cond (bytes_eq name field) (Some x) None)
stays name field x (Some y) has = refl
stays name field x None has = by (bytes_eq name field) refl
  where
    by : (b : Bool) → bytes_eq name field ≡ b → None ≡ cond b (Some x) None
    by true e = absurd (let h = has e in cc)
    by false e = refl

-- a slot is noted whose field is not empty
noted-filled : (fields : List (List ℕ)) (n : ℕ) (firsts : Entries ℕ) → AreNoted fields n firsts → (name : List ℕ) → 0 < length name
    → (b : Bool) → has_name (slot_field fields n) firsts ≡ b
    → value_of name (cond b firsts (firsts ++ (slot_field fields n, n) ∷ [])) ≡ first_with fields name (range_with_len 0 (n + 1))
noted-filled fields n firsts so_far name filled b has = by b has ∙ sym whole
  where
    field : List ℕ
    field = slot_field fields n

    last : Option ℕ
    last = cond (bytes_eq name field) (Some n) None

    whole : first_with fields name (range_with_len 0 (n + 1)) ≡ or_else (value_of name firsts) last
    whole = first_with-more fields name n ∙ ap (λ o. or_else o last) (sym (so_far name filled))

    by : (b : Bool) → has_name field firsts ≡ b
        → value_of name (cond b firsts (firsts ++ (field, n) ∷ [])) ≡ or_else (value_of name firsts) last
    by true has = stays name field n (value_of name firsts)
        (λ same. ap (λ f. is_some (value_of f firsts)) ((bytes_eq-Decides name field).0 same) ∙ has)
    by false new = value_of-push name field n firsts

-- nothing is noted of a slot whose field is empty
noted-none : (fields : List (List ℕ)) (n : ℕ) (firsts : Entries ℕ) → length (slot_field fields n) ≡ 0 → AreNoted fields n firsts
    → AreNoted fields (n + 1) firsts
noted-none fields n firsts empty so_far name filled =
    so_far name filled ∙ none (first_with fields name (range_with_len 0 n)) ∙ sym (first_with-more fields name n)
  where
    apart : bytes_eq name (slot_field fields n) ≡ false
    apart = by (bytes_eq name (slot_field fields n)) refl
      where
        by : (b : Bool) → bytes_eq name (slot_field fields n) ≡ b → b ≡ false
        by false e = refl
        by true e =
            let same = ap (λ (xs : List ℕ). length xs) ((bytes_eq-Decides name (slot_field fields n)).0 e) in
            absurd (omega (arith, same, empty, filled))

    or-none : (o : Option ℕ) → o ≡ or_else o None
    or-none None = refl
    or-none (Some x) = refl

    none : (o : Option ℕ) → o ≡ or_else o (cond (bytes_eq name (slot_field fields n)) (Some n) None)
    none o = or-none o ∙ ap (λ b. or_else o (cond b (Some n) None)) (sym apart)

-- one more slot is noted
pub noted-more : (fields : List (List ℕ)) (n : ℕ) (firsts : Entries ℕ) → AreNoted fields n firsts
    → AreNoted fields (n + 1) (with_slot firsts (slot_field fields n) n)
noted-more fields n firsts so_far name filled = by (length (slot_field fields n) == 0) refl
  where
    by : (empty : Bool) → (length (slot_field fields n) == 0) ≡ empty
        → value_of name (cond (empty || has_name (slot_field fields n) firsts) firsts (firsts ++ (slot_field fields n, n) ∷ []))
        ≡ first_with fields name (range_with_len 0 (n + 1))
    by true is = noted-none fields n firsts (eqb-true _ 0 is) so_far name filled
    by false is = noted-filled fields n firsts so_far name filled (has_name (slot_field fields n) firsts) refl

-- a slot below a number is the first that has a field, or there is none
IsFirst : List (List ℕ) → List ℕ → ℕ → Option ℕ → Type 0
IsFirst fields field n None = (h : ℕ) → h < n → bytes_eq field (slot_field fields h) ≡ false
IsFirst fields field n (Some k) = (k < n) × (bytes_eq field (slot_field fields k) ≡ true)
    × ((h : ℕ) → h < k → bytes_eq field (slot_field fields h) ≡ false)

first-below : (fields : List (List ℕ)) (field : List ℕ) (n : ℕ)
    → IsFirst fields field n (first_with fields field (range_with_len 0 n))
unfolding IsFirst
first-below fields field zero = λ h less. absurd (omega (arith, less))
first-below fields field (suc n) =
    subst (IsFirst fields field (suc n))
    (sym (ap (λ m. first_with fields field (range_with_len 0 m)) (let e : suc n ≡ n + 1 = omega arith in e)
    ∙ first_with-more fields field n))
    (by (first_with fields field (range_with_len 0 n)) (bytes_eq field (slot_field fields n)) refl (first-below fields field n))
  where
    by : (o : Option ℕ) (b : Bool) → bytes_eq field (slot_field fields n) ≡ b → IsFirst fields field n o
        → IsFirst fields field (suc n) (or_else o (cond b (Some n) None))
    by (Some k) b e is = (omega (arith, is.0), is.1, is.2)
    by None true e is = (omega arith, e, is)
    by None false e is = λ h less. ⊎_elim
        (λ (lt : h < n). is h lt)
        (λ (le : n ≤ h). ap (λ x. bytes_eq field (slot_field fields x)) (let same : h ≡ n = omega (arith, less, le) in same) ∙ e)
        (cases_lt h n)

-- past the last field each is empty
pub field-past : (fields : List (List ℕ)) (s : ℕ) → 0 < length (slot_field fields s) → s < length fields
field-past [] s filled = absurd (omega (arith, filled))
field-past (x ∷ fields) zero filled = omega arith
field-past (x ∷ fields) (suc s) filled = let rest = field-past fields s filled in omega (arith, rest)

-- the first slot, up to one, that has its field is the first of all
number-first : (fields : List (List ℕ)) (s : ℕ) → 0 < length (slot_field fields s)
    → first_with fields (slot_field fields s) (range_with_len 0 (s + 1)) ≡ number_of fields (slot_field fields s)
unfolding IsFirst
number-first fields s filled = by (first_with fields field (range_with_len 0 (s + 1))) (first-below fields field (s + 1))
  where
    field : List ℕ
    field = slot_field fields s

    by : (o : Option ℕ) → IsFirst fields field (s + 1) o → o ≡ number_of fields field
    by None none = absurd (true≢false (sym (bytes-itself field) ∙ none s (omega arith)))
    by (Some k) is =
        let same = ap (λ (xs : List ℕ). length xs) ((bytes_eq-Decides field (slot_field fields k)).0 is.1) in
        let within : k < length fields = field-past fields k (omega (arith, same, filled)) in
        let at : position_or_len (bytes_eq field) fields ≡ k =
        position_or_len_is (bytes_eq field) fields k [] (omega (arith, within)) is.2 (λ _. is.1) in
        sym ((λ j. cond (nat_lt (at j) (length fields)) (Some (at j)) None)
        ∙ ap (λ b. cond b (Some k) None) (lt-ltb k (length fields) within))

-- the number of a slot by what is noted up to it
pub number-noted : (fields : List (List ℕ)) (s : ℕ) (firsts : Entries ℕ) → AreNoted fields (s + 1) firsts
    → noted_number firsts (slot_field fields s) ≡ first_alike fields s
number-noted fields s firsts so_far = by (length (slot_field fields s) == 0) refl
  where
    field : List ℕ
    field = slot_field fields s

    positive : (n : ℕ) → (n == 0) ≡ false → 0 < n
    positive zero e = absurd cc
    positive (suc n) e = omega arith

    by : (empty : Bool) → (length field == 0) ≡ empty
        → cond empty None (value_of field firsts) ≡ cond empty None (number_of fields field)
    by true is = refl
    by false is = let filled = positive (length field) is in so_far field filled ∙ number-first fields s filled
