-- Names among the keys that a set holds.
use Rattle.std.proofs.Common.{◌≡◌, ◌≢◌, ◌+◌, Bool, true, false, cond, not, nat_lt, ◌||◌, ◌&&◌, fold, List, [], ◌∷◌, ◌++◌, map, AllPairs}
use Rattle.std.proofs.Common.{Some, None, position, refl, sym, ap, subst, ◌∙◌, String, string_bytes}
use Rattle.std.specs.Prelude.{string_eq}
use Rattle.std.specs.List.{list_any, prefix_len, IsDistinct, AllByRecursion}
use Rattle.std.specs.Str.{bytes_eq}
use Rattle.std.proofs.lemmas.List.{map-append, length-map}
use Rattle.std.proofs.lemmas.Map.Made.{AllPairs-from_IsDistinct}
use Rattle.std.proofs.lemmas.Slice.Eq.{bytes_eq-Decides}
use Rattle.indexmap.specs.IndexSet.{insert_key}
use Rattle.gtfs_tables.specs.Entries.{Name}
use Rattle.desk_settings.specs.Names.{each_once, if_among, is_among, kept_among, with_name}

-- a name is among the keys where the set has it
pub is_among-keys : {Y : Type 0} (name : Name) (ks : List (String Y))
    → list_any (λ k. bytes_eq name (string_bytes k)) ks ≡ is_among name (map string_bytes ks)
is_among-keys name [] = refl
is_among-keys name (k ∷ ks) = ap (λ b. bytes_eq name (string_bytes k) || b) (is_among-keys name ks)

map_cond : {A B : Type 0} (f : A → B) (b : Bool) (xs ys : List A) → map f (cond b xs ys) ≡ cond b (map f xs) (map f ys)
map_cond f true xs ys = refl
map_cond f false xs ys = refl

-- the keys after an insert are the names with the one that was inserted
pub added : {Y : Type 0} (old new : List (String Y)) (key : String Y) (names : List Name) (name : Name)
    → map string_bytes old ≡ names → string_bytes key ≡ name → new ≡ insert_key string_eq old key
    → map string_bytes new ≡ with_name names name
added old new key names name view same put =
    ap (map string_bytes) put
    ∙ map_cond string_bytes (list_any (string_eq key) old) old (old ++ key ∷ [])
    ∙ ap (λ b. cond b (map string_bytes old) (map string_bytes (old ++ key ∷ []))) (is_among-keys (string_bytes key) old)
    ∙ ap (λ ks. cond (is_among (string_bytes key) (map string_bytes old)) (map string_bytes old) ks)
    (map-append string_bytes old (key ∷ []))
    ∙ (λ i. with_name (view i) (same i))

prefix_len-map : {A B : Type 0} (p : B → Bool) (f : A → B) (xs : List A) → prefix_len p (map f xs) ≡ prefix_len (λ x. p (f x)) xs
prefix_len-map p f [] = refl
prefix_len-map p f (x ∷ xs) = ap (λ n. cond (p (f x)) (1 + n) 0) (prefix_len-map p f xs)

-- a name's number is the index of its key
pub number-keys : {Y : Type 0} (name : Name) (ks : List (String Y))
    → position (λ k. bytes_eq name (string_bytes k)) ks ≡ position (bytes_eq name) (map string_bytes ks)
number-keys name ks = sym
    (λ i. cond (nat_lt (prefix_len-map (λ x. not (bytes_eq name x)) string_bytes ks i) (length-map ks string_bytes i))
    (Some (prefix_len-map (λ x. not (bytes_eq name x)) string_bytes ks i)) None)

apart-map : {Y : Type 0} (k : String Y) (ks : List (String Y)) → AllByRecursion (λ x. string_eq k x ≡ false) ks
    → AllByRecursion (λ x. bytes_eq (string_bytes k) x ≡ false) (map string_bytes ks)
apart-map k [] apart = tt
apart-map k (x ∷ xs) apart = (apart.0, apart-map k xs apart.1)

distinct-map : {Y : Type 0} (ks : List (String Y)) → IsDistinct string_eq ks → IsDistinct bytes_eq (map string_bytes ks)
unfolding IsDistinct
distinct-map [] distinct = tt
distinct-map (k ∷ ks) distinct = (apart-map k ks distinct.0, distinct-map ks distinct.1)

-- the names of a set are distinct
pub keys-distinct : {Y : Type 0} (ks : List (String Y)) (names : List Name) → map string_bytes ks ≡ names → IsDistinct string_eq ks
    → AllPairs (λ x y. x ≢ y) names
keys-distinct ks names view distinct =
    subst (λ ns. AllPairs (λ x y. x ≢ y) ns) view
    (AllPairs-from_IsDistinct bytes_eq-Decides (map string_bytes ks) (distinct-map ks distinct))

or-false : (b : Bool) → (b || false) ≡ b
or-false true = refl
or-false false = refl

or-assoc : (a b c : Bool) → (a || (b || c)) ≡ ((a || b) || c)
or-assoc true b c = refl
or-assoc false b c = refl

either-of : (a b c d : Bool) → ((a || (b && d)) || (c && d)) ≡ (a || ((b || c) && d))
either-of true b c d = refl
either-of false true c true = refl
either-of false true true false = refl
either-of false true false false = refl
either-of false false c d = refl

-- a name is among the names with one more where it was among them or is that one
among-more : (s n : Name) (names : List Name) → is_among s (names ++ n ∷ []) ≡ (is_among s names || bytes_eq s n)
among-more s n [] = or-false (bytes_eq s n)
among-more s n (x ∷ names) = ap (λ b. bytes_eq s x || b) (among-more s n names) ∙ or-assoc (bytes_eq s x) (is_among s names) (bytes_eq s n)

among-again : (s n : Name) (names : List Name) → is_among n names ≡ true → is_among s names ≡ (is_among s names || bytes_eq s n)
among-again s n names has = by (bytes_eq s n) refl
  where
    by : (b : Bool) → bytes_eq s n ≡ b → is_among s names ≡ (is_among s names || bytes_eq s n)
    by true same =
        let is = ap (λ m. is_among m names) ((bytes_eq-Decides s n).0 same) ∙ has in
        is ∙ sym (ap (λ b. b || bytes_eq s n) is)
    by false apart = sym (or-false (is_among s names)) ∙ sym (ap (λ b. is_among s names || b) apart)

among-with : (s n : Name) (names : List Name) → is_among s (with_name names n) ≡ (is_among s names || bytes_eq s n)
among-with s n names = by (is_among n names) refl
  where
    by : (b : Bool) → is_among n names ≡ b → is_among s (with_name names n) ≡ (is_among s names || bytes_eq s n)
    by true has = ap (λ b. is_among s (cond b names (names ++ n ∷ []))) has ∙ among-again s n names has
    by false new = ap (λ b. is_among s (cond b names (names ++ n ∷ []))) new ∙ among-more s n names

among-after : (s : Name) (before names : List Name) → is_among s (fold with_name before names) ≡ (is_among s before || is_among s names)
among-after s before [] = sym (or-false (is_among s before))
among-after s before (n ∷ names) =
    among-after s (with_name before n) names
    ∙ ap (λ b. b || is_among s names) (among-with s n before)
    ∙ sym (or-assoc (is_among s before) (bytes_eq s n) (is_among s names))

-- a name is among names, each taken once, where it is among them
pub among-once : (s : Name) (names : List Name) → is_among s (each_once names) ≡ is_among s names
among-once s names = among-after s [] names

among-if : (s n : Name) (others kept : List Name)
    → is_among s (if_among others kept n) ≡ (is_among s kept || (bytes_eq s n && is_among s others))
among-if s n others kept = by (is_among n others) (bytes_eq s n) refl refl
  where
    by : (b d : Bool) → is_among n others ≡ b → bytes_eq s n ≡ d
        → is_among s (if_among others kept n) ≡ (is_among s kept || (bytes_eq s n && is_among s others))
    by true true has same =
        ap (λ b. is_among s (cond b (with_name kept n) kept)) has ∙ among-with s n kept
        ∙ ap (λ b. is_among s kept || b) (same ∙ sym (λ i. same i && (ap (λ m. is_among m others) ((bytes_eq-Decides s n).0 same) ∙ has) i))
    by true false has apart =
        ap (λ b. is_among s (cond b (with_name kept n) kept)) has ∙ among-with s n kept
        ∙ ap (λ b. is_among s kept || b) (apart ∙ sym (ap (λ b. b && is_among s others) apart))
    by false true new same =
        ap (λ b. is_among s (cond b (with_name kept n) kept)) new
        ∙ sym (or-false (is_among s kept))
        ∙ sym (ap (λ b. is_among s kept || b) (λ i. same i && (ap (λ m. is_among m others) ((bytes_eq-Decides s n).0 same) ∙ new) i))
    by false false new apart =
        ap (λ b. is_among s (cond b (with_name kept n) kept)) new
        ∙ sym (or-false (is_among s kept))
        ∙ sym (ap (λ b. is_among s kept || (b && is_among s others)) apart)

among-kept_after : (s : Name) (others kept names : List Name)
    → is_among s (fold (if_among others) kept names) ≡ (is_among s kept || (is_among s names && is_among s others))
among-kept_after s others kept [] = sym (or-false (is_among s kept))
among-kept_after s others kept (n ∷ names) =
    among-kept_after s others (if_among others kept n) names
    ∙ ap (λ b. b || (is_among s names && is_among s others)) (among-if s n others kept)
    ∙ either-of (is_among s kept) (bytes_eq s n) (is_among s names) (is_among s others)

-- a name is among those that are kept where it is among the names and among the others
pub among-kept : (s : Name) (others names : List Name) → is_among s (kept_among others names) ≡ (is_among s names && is_among s others)
among-kept s others names = among-kept_after s others [] names
