-- The names of rules: each once, with its number.
use Rattle.std.proofs.Common.{◌≡◌, ℕ, zero, suc, ◌+◌, ◌*◌, ◌<◌, ◌≤◌, Bool, true, false, cond, not, ◌||◌, ◌==◌, List, [], ◌∷◌, ◌++◌}
use Rattle.std.proofs.Common.{subst, length, get_or, fold, Some, None, refl, sym, ap, ◌∙◌, ⊎_elim, arith}
use Rattle.std.specs.List.{list_any, position_or_len}
use Rattle.std.specs.Str.{bytes_eq}
use Rattle.std.proofs.Math.ListN.{get_or-append}
use Rattle.std.proofs.Math.Bool.{or-false}
use Rattle.std.proofs.lemmas.Bool.{or_parts, or_from, both_ways, false_from_ne_true, cases_lt, cases_Bool, lt-ltb, eqb-true, eqb-false}
use Rattle.std.proofs.lemmas.Cmp.{nat_list_eq_equiv}
use Rattle.std.proofs.lemmas.List.{length-append}
use Rattle.std.proofs.lemmas.List.Folds.{list_any_none, list_any_at}
use Rattle.std.proofs.lemmas.List.Quantifiers.{position-Some}
use Rattle.std.proofs.lemmas.List.Sums.{fold-append, fails_before_first}
use Rattle.std.proofs.lemmas.Option.{none-some}
use Rattle.std.proofs.lemmas.Slice.Eq.{bytes_eq-Decides}
use Rattle.pair_rules.specs.Rules.{PairRule, with_name, with_names, names_of, number_of, names_first, names_second}

-- a name is one of the names
abbrev pub is_named : List ℕ → List (List ℕ) → Bool
is_named name names = list_any (bytes_eq name) names

-- a name joins names one after the other
pub with_name-cons : (n : List ℕ) (names : List (List ℕ)) (a : List ℕ)
    → with_name (n ∷ names) a ≡ cond (bytes_eq a n) (n ∷ names) (n ∷ with_name names a)
with_name-cons n names a = by (bytes_eq a n) (is_named a names)
  where
    by : (b c : Bool) → cond (b || c) (n ∷ names) ((n ∷ names) ++ a ∷ []) ≡ cond b (n ∷ names) (n ∷ cond c names (names ++ a ∷ []))
    by true c = refl
    by false true = refl
    by false false = refl

-- whether a name is one of them, with one more
pub is_named-with_name : (name : List ℕ) (names : List (List ℕ)) (a : List ℕ)
    → is_named name (with_name names a) ≡ (is_named name names || bytes_eq name a)
is_named-with_name name [] a = or-false (bytes_eq name a)
is_named-with_name name (n ∷ names) a =
    ap (is_named name) (with_name-cons n names a) ∙ by (bytes_eq a n) refl (is_named-with_name name names a)
  where
    or-assoc : (x y z : Bool) → (x || (y || z)) ≡ ((x || y) || z)
    or-assoc true y z = refl
    or-assoc false y z = refl

    absorbed : (x y z : Bool) → z ≡ x → (x || y) ≡ ((x || y) || z)
    absorbed true y z same = refl
    absorbed false true z same = refl
    absorbed false false z same = sym same

    by : (b : Bool) → bytes_eq a n ≡ b → is_named name (with_name names a) ≡ (is_named name names || bytes_eq name a)
        → is_named name (cond b (n ∷ names) (n ∷ with_name names a)) ≡ ((bytes_eq name n || is_named name names) || bytes_eq name a)
    by true same rest = absorbed (bytes_eq name n) (is_named name names) (bytes_eq name a)
        (ap (bytes_eq name) ((bytes_eq-Decides a n).0 same))
    by false other rest = ap (λ b. bytes_eq name n || b) rest
        ∙ or-assoc (bytes_eq name n) (is_named name names) (bytes_eq name a)

-- no name comes twice
abbrev pub AreOnce : List (List ℕ) → Type 0
AreOnce [] = Unit {0}
AreOnce (n ∷ names) = (is_named n names ≡ false) × AreOnce names

pub AreOnce-with_name : (names : List (List ℕ)) (a : List ℕ) → AreOnce names → AreOnce (with_name names a)
AreOnce-with_name [] a once = (refl, tt)
AreOnce-with_name (n ∷ names) a once = by (bytes_eq a n) refl (AreOnce-with_name names a once.1)
  where
    by : (b : Bool) → bytes_eq a n ≡ b → AreOnce (with_name names a) → AreOnce (with_name (n ∷ names) a)
    by true same rest = subst AreOnce (sym (with_name-cons n names a ∙ ap (λ b. cond b (n ∷ names) (n ∷ with_name names a)) same)) once
    by false other rest = subst AreOnce (sym (with_name-cons n names a ∙ ap (λ b. cond b (n ∷ names) (n ∷ with_name names a)) other)) (
      is_named-with_name n names a ∙ or_from (is_named n names) (bytes_eq n a) once.0 (nat_list_eq_equiv.symm n a ∙ other),
      rest,
    )

pub AreOnce-with_names : (names : List (List ℕ)) (rule : PairRule) → AreOnce names → AreOnce (with_names names rule)
AreOnce-with_names names rule once =
    AreOnce-with_name (with_name names rule.before) rule.after (AreOnce-with_name names rule.before once)

once-fold : (names : List (List ℕ)) (rules : List PairRule) → AreOnce names → AreOnce (fold with_names names rules)
once-fold names [] once = once
once-fold names (rule ∷ rules) once = once-fold (with_names names rule) rules (AreOnce-with_names names rule once)

pub AreOnce-names_of : (rules : List PairRule) → AreOnce (names_of rules)
AreOnce-names_of rules = once-fold [] rules tt

-- names keep their numbers as one joins
pub get_or-with_name : (names : List (List ℕ)) (a : List ℕ) (i : ℕ) (d : List ℕ) → i < length names
    → get_or (with_name names a) i d ≡ get_or names i d
get_or-with_name names a i d lt = by (is_named a names)
  where
    by : (b : Bool) → get_or (cond b names (names ++ a ∷ [])) i d ≡ get_or names i d
    by true = refl
    by false = get_or-append names (a ∷ []) d i lt

pub length-with_name : (names : List (List ℕ)) (a : List ℕ)
    → (length names ≤ length (with_name names a)) × (length (with_name names a) ≤ length names + 1)
length-with_name names a = by (is_named a names)
  where
    by : (b : Bool)
        → (length names ≤ length (cond b names (names ++ a ∷ []))) × (length (cond b names (names ++ a ∷ [])) ≤ length names + 1)
    by true = (omega arith, omega arith)
    by false = (omega (arith, length-append names (a ∷ [])), omega (arith, length-append names (a ∷ [])))

-- the name that joins has the number at which it was looked for
pub number-with_name : (names : List (List ℕ)) (a d : List ℕ)
    → (position_or_len (bytes_eq a) names < length (with_name names a))
    × (get_or (with_name names a) (position_or_len (bytes_eq a) names) d ≡ a)
number-with_name [] a d = (omega arith, refl)
number-with_name (n ∷ names) a d = by (bytes_eq a n) refl (number-with_name names a d)
  where
    at : (b : Bool) → bytes_eq a n ≡ b → with_name (n ∷ names) a ≡ cond b (n ∷ names) (n ∷ with_name names a)
    at b is = with_name-cons n names a ∙ ap (λ c. cond c (n ∷ names) (n ∷ with_name names a)) is

    place : (b : Bool) → bytes_eq a n ≡ b
        → position_or_len (bytes_eq a) (n ∷ names) ≡ cond (not b) (1 + position_or_len (bytes_eq a) names) 0
    place b is = ap (λ c. cond (not c) (1 + position_or_len (bytes_eq a) names) 0) is

    by : (b : Bool) → bytes_eq a n ≡ b
        → (position_or_len (bytes_eq a) names < length (with_name names a))
        × (get_or (with_name names a) (position_or_len (bytes_eq a) names) d ≡ a)
        → (position_or_len (bytes_eq a) (n ∷ names) < length (with_name (n ∷ names) a))
        × (get_or (with_name (n ∷ names) a) (position_or_len (bytes_eq a) (n ∷ names)) d ≡ a)
    by true is rest = rw (at true is, place true is) (omega arith, sym ((bytes_eq-Decides a n).0 is))
    by false is rest =
        let next : 1 + position_or_len (bytes_eq a) names ≡ suc (position_or_len (bytes_eq a) names) = omega arith in
        rw (at false is, place false is) (omega (arith, rest.0), ap (λ k. get_or (n ∷ with_name names a) k d) next ∙ rest.1)

-- there are at most twice as many names as rules
length-fold : (names : List (List ℕ)) (rules : List PairRule) → length (fold with_names names rules) ≤ length names + 2 * length rules
length-fold names [] = omega arith
length-fold names (rule ∷ rules) =
    let first = length-with_name names rule.before in
    let second = length-with_name (with_name names rule.before) rule.after in
    let rest = length-fold (with_names names rule) rules in
    omega (arith, first.1, second.1, rest)

pub length-names_of : (rules : List PairRule) → length (names_of rules) ≤ 2 * length rules
length-names_of rules = omega (arith, length-fold [] rules)

pub names_of-push : (rules : List PairRule) (rule : PairRule) → names_of (rules ++ rule ∷ []) ≡ with_names (names_of rules) rule
names_of-push rules rule = fold-append with_names [] rules (rule ∷ [])

-- a name that is none of the names of rules is of no rule
unnamed-fold : (name : List ℕ) (names : List (List ℕ)) (rules : List PairRule) → is_named name (fold with_names names rules) ≡ false
    → (is_named name names ≡ false) × (names_first rules name ≡ false) × (names_second rules name ≡ false)
unnamed-fold name names [] none = (none, refl, refl)
unnamed-fold name names (rule ∷ rules) none =
    let rest = unnamed-fold name (with_names names rule) rules none in
    let second = or_parts (is_named name (with_name names rule.before)) (bytes_eq name rule.after)
    (sym (is_named-with_name name (with_name names rule.before) rule.after) ∙ rest.0) in
    let first = or_parts (is_named name names) (bytes_eq name rule.before)
    (sym (is_named-with_name name names rule.before) ∙ second.0) in
    (first.0, or_from _ _ first.1 rest.1, or_from _ _ second.1 rest.2)

pub unnamed : (name : List ℕ) (rules : List PairRule) → is_named name (names_of rules) ≡ false
    → (names_first rules name ≡ false) × (names_second rules name ≡ false)
unnamed name rules none = let parts = unnamed-fold name [] rules none in (parts.1, parts.2)

-- a name with a number is the name of that number
pub number_of-Some : (rules : List PairRule) (name : List ℕ) (i : ℕ) → number_of rules name ≡ Some i
    → (i < length (names_of rules)) × (get_or (names_of rules) i [] ≡ name)
number_of-Some rules name i found =
    let at = position-Some (bytes_eq name) (names_of rules) i [] found in
    (at.0, sym ((bytes_eq-Decides name (get_or (names_of rules) i [])).0 at.1))

-- a name without a number is none of the names
pub number_of-None : (rules : List PairRule) (name : List ℕ) → number_of rules name ≡ None → is_named name (names_of rules) ≡ false
number_of-None rules name none = list_any_none (bytes_eq name) (names_of rules) (λ k d lt. fails k d lt)
  where
    fails : (k : ℕ) (d : List ℕ) → k < length (names_of rules) → bytes_eq name (get_or (names_of rules) k d) ≡ false
    fails k d lt = ⊎_elim
        (λ (h : position_or_len (bytes_eq name) (names_of rules) < length (names_of rules)). absurd
        (none-some _ (sym none ∙ ap (λ b. cond b (Some (position_or_len (bytes_eq name) (names_of rules))) None) (lt-ltb _ _ h))))
        (λ (h : length (names_of rules) ≤ position_or_len (bytes_eq name) (names_of rules)).
        fails_before_first (bytes_eq name) (names_of rules) k d (omega (arith, h, lt)))
        (cases_lt (position_or_len (bytes_eq name) (names_of rules)) (length (names_of rules)))

-- names of one number are the same, and others are not
same-number : (names : List (List ℕ)) → AreOnce names → (i j : ℕ) (d : List ℕ) → i < length names → j < length names
    → bytes_eq (get_or names i d) (get_or names j d) ≡ true → i ≡ j
same-number [] once i j d first second is = absurd (omega arith)
same-number (n ∷ names) once zero zero d first second is = refl
same-number (n ∷ names) once zero (suc j) d first second is =
    absurd (both_ways (is_named n names) once.0 (list_any_at (bytes_eq n) names j d (omega arith) is))
same-number (n ∷ names) once (suc i) zero d first second is =
    absurd (both_ways (is_named n names) once.0
    (list_any_at (bytes_eq n) names i d (omega arith) (nat_list_eq_equiv.symm n (get_or names i d) ∙ is)))
same-number (n ∷ names) once (suc i) (suc j) d first second is =
    ap suc (same-number names once.1 i j d (omega arith) (omega arith) is)

pub eq-by_name : (names : List (List ℕ)) → AreOnce names → (i j : ℕ) (d : List ℕ) → i < length names → j < length names
    → (i == j) ≡ bytes_eq (get_or names i d) (get_or names j d)
eq-by_name names once i j d first second = ⊎_elim
    (λ (h : (i == j) ≡ true). h
    ∙ sym ((bytes_eq-Decides (get_or names i d) (get_or names j d)).1 (ap (λ k. get_or names k d) (eqb-true i j h))))
    (λ (h : (i == j) ≡ false). h ∙ sym (false_from_ne_true (bytes_eq (get_or names i d) (get_or names j d))
    (λ is. eqb-false i j h (same-number names once i j d first second is))))
    (cases_Bool (i == j))
