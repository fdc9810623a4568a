-- In the blocks that are made by names each slot stands as often as in their order.
use Rattle.std.proofs.Common.{◌≡◌, ◌⊎◌, inl, inr, ℕ, zero, suc, ◌+◌, ◌<◌, ◌≤◌, ◌==◌, ◌||◌, Bool, true, false, cond, List, [], ◌∷◌, length}
use Rattle.std.proofs.Common.{map, filter, sum_by, if◌then◌else◌, refl, sym, ap, ◌∙◌, ⊎_elim, arith}
use Rattle.std.specs.Str.{bytes_eq}
use Rattle.std.proofs.lemmas.Bool.{cases_Bool, eq-eqb, ne_eqb, eqb-true, false≢true, false_from_ne_true}
use Rattle.std.proofs.lemmas.List.Sums.{sum_by-cons, sum_by-append}
use Rattle.std.proofs.lemmas.Slice.Eq.{bytes_eq-Decides}
use Rattle.trip_model.specs.Blocking.{times, StandsOnce, slots_in}
use Rattle.trip_model.proofs.Counting.{times-cons}
use Rattle.block_audit.specs.Stated.{name_at, is_alone, is_of, is_first, begins, block_from, blocks_by, slots_by}

abbrev one : Bool → ℕ
one b = cond b 1 0

-- how often a slot stands among those that pass
pub times-filter : (p : ℕ → Bool) (s : ℕ) (xs : List ℕ) → times s (filter p xs) ≡ cond (p s) (times s xs) 0
times-filter p s [] = by (p s)
  where
    by : (b : Bool) → ◌≡◌ {A = ℕ} 0 (cond b 0 0)
    by true = refl
    by false = refl
times-filter p s (x ∷ xs) = ⊎_elim
    (λ (e : p x ≡ true).
    ap (λ b. times s (cond b (x ∷ filter p xs) (filter p xs))) e
    ∙ times-cons s x (filter p xs)
    ∙ ap (λ n. one (x == s) + n) (times-filter p s xs)
    ∙ there e (p s) refl)
    (λ (e : p x ≡ false).
    ap (λ b. times s (cond b (x ∷ filter p xs) (filter p xs))) e
    ∙ times-filter p s xs
    ∙ gone e (p s) refl)
    (cases_Bool (p x))
  where
    other : (b : Bool) → p x ≡ b → (p s ≡ b → ⊥) → one (x == s) ≡ 0
    other b e fails = ap one (ne_eqb x s (λ same. fails (ap p (sym same) ∙ e)))

    there : p x ≡ true → (b : Bool) → p s ≡ b → one (x == s) + cond b (times s xs) 0 ≡ cond b (times s (x ∷ xs)) 0
    there e true is = sym (times-cons s x xs)
    there e false is = omega (arith, other true e (λ yes. false≢true (sym is ∙ yes)))

    gone : p x ≡ false → (b : Bool) → p s ≡ b → ◌≡◌ {A = ℕ} (cond b (times s xs) 0) (cond b (times s (x ∷ xs)) 0)
    gone e true is = omega (arith, times-cons s x xs, other false e (λ fails. false≢true (sym fails ∙ is)))
    gone e false is = refl

-- how often a slot stands in the blocks of some of the trips, trip by trip
pub times-blocks : (names : List (List ℕ)) (order : List ℕ) (s : ℕ) (xs : List ℕ)
    → times s (slots_in (slots_by (map (block_from names order) (filter (begins names order) xs))))
    ≡ sum_by (λ f. cond (begins names order f) (times s (block_from names order f).slots) 0) xs
times-blocks names order s [] = refl
times-blocks names order s (x ∷ xs) =
    by (begins names order x) ∙ ap (λ n. cond (begins names order x) (times s (block_from names order x).slots) 0 + n)
    (times-blocks names order s xs)
    ∙ sym (sum_by-cons (λ f. cond (begins names order f) (times s (block_from names order f).slots) 0) x xs)
  where
    by : (b : Bool) → times s (slots_in
        (slots_by (map (block_from names order) (cond b (x ∷ filter (begins names order) xs) (filter (begins names order) xs)))))
        ≡ cond b (times s (block_from names order x).slots) 0 + times s
        (slots_in (slots_by (map (block_from names order) (filter (begins names order) xs))))
    by true = sum_by-append (λ y. cond (y == s) 1 0) (block_from names order x).slots
        (slots_in (slots_by (map (block_from names order) (filter (begins names order) xs))))
    by false = omega arith

-- sums of equal terms
pub sum_by-same : (f g : ℕ → ℕ) (xs : List ℕ) → ((x : ℕ) → f x ≡ g x) → sum_by f xs ≡ sum_by g xs
sum_by-same f g [] same = refl
sum_by-same f g (x ∷ xs) same = omega (arith, sum_by-cons f x xs, sum_by-cons g x xs, same x, sum_by-same f g xs same)

same-text : (xs ys : List ℕ) → bytes_eq xs ys ≡ true → xs ≡ ys
same-text xs ys e = (bytes_eq-Decides xs ys).0 e

text-itself : (xs ys : List ℕ) → xs ≡ ys → bytes_eq xs ys ≡ true
text-itself xs ys e = (bytes_eq-Decides xs ys).1 e

-- the first trip of a name that some trip of the order has
pub record IsFirstOf (names : List (List ℕ)) (name : List ℕ) (order : List ℕ) (x : ℕ) : Type 0 where
  pub named : is_of names name x ≡ true
  pub stands : 0 < times x order
  pub first : (f : ℕ) → is_first names name order f ≡ (x == f)

first-of : (names : List (List ℕ)) (name : List ℕ) (order : List ℕ) (s : ℕ) → is_of names name s ≡ true → 0 < times s order
    → (x : ℕ) × IsFirstOf names name order x
first-of names name [] s named stands = absurd (omega arith)
first-of names name (x ∷ order) s named stands = ⊎_elim
    (λ (e : is_of names name x ≡ true). (
      x,
      record {
        named = e;
        stands = omega (arith, times-cons x x order, ap one (eq-eqb x x refl));
        first = λ f. ap (λ b. if b then x == f else is_first names name order f) e;
      },
    ))
    (λ (e : is_of names name x ≡ false).
    let other : one (x == s) ≡ 0 = ap one (ne_eqb x s (λ same. false≢true (sym e ∙ ap (is_of names name) same ∙ named))) in
    let rest = first-of names name order s named (omega (arith, times-cons s x order, other)) in (
      rest.0,
      record {
        named = rest.1.named;
        stands = omega (arith, times-cons rest.0 x order, rest.1.stands);
        first = λ f. ap (λ b. if b then x == f else is_first names name order f) e ∙ rest.1.first f;
      },
    ))
    (cases_Bool (is_of names name x))

module _ (names : List (List ℕ)) (order : List ℕ) (s : ℕ) where
  abbrev term : ℕ → ℕ
  term f = cond (begins names order f) (times s (block_from names order f).slots) 0

  -- the term of a trip without a name, whose block is that trip
  term-alone : (f : ℕ) → is_alone names f ≡ true → term f ≡ one (f == s)
  term-alone f e =
      (λ i. cond (e i || is_first names (name_at names f) order f)
      (times s (if e i then f ∷ [] else filter (is_of names (name_at names f)) order)) 0)
      ∙ times-cons s f []
      ∙ (let zero-less : one (f == s) + 0 ≡ one (f == s) = omega arith in zero-less)

  -- that of a trip of a name
  term-named : (f : ℕ) → is_alone names f ≡ false
      → term f ≡ cond (is_first names (name_at names f) order f) (cond (is_of names (name_at names f) s) (times s order) 0) 0
  term-named f e =
      (λ i. cond (e i || is_first names (name_at names f) order f)
      (times s (if e i then f ∷ [] else filter (is_of names (name_at names f)) order)) 0)
      ∙ ap (λ n. cond (is_first names (name_at names f) order f) n 0) (times-filter (is_of names (name_at names f)) s order)

  alone-same : (f x : ℕ) → is_of names (name_at names f) x ≡ true → is_alone names x ≡ is_alone names f
  alone-same f x e = ap (λ (name : List ℕ). length name == 0) (same-text (name_at names x) (name_at names f) e)

  zero-either : (b : Bool) → ◌≡◌ {A = ℕ} (cond b 0 0) 0
  zero-either true = refl
  zero-either false = refl

  -- a slot without a name stands in its own block alone
  term-of-alone : is_alone names s ≡ true → (f : ℕ) → term f ≡ one (f == s)
  term-of-alone alone f = ⊎_elim
      (λ (e : is_alone names f ≡ true). term-alone f e)
      (λ (e : is_alone names f ≡ false).
      let not-of : is_of names (name_at names f) s ≡ false =
      false_from_ne_true (is_of names (name_at names f) s) (λ yes. false≢true (sym e ∙ sym (alone-same f s yes) ∙ alone)) in
      let differ : one (f == s) ≡ 0 = ap one (ne_eqb f s (λ same. false≢true (sym e ∙ ap (is_alone names) same ∙ alone))) in
      term-named f e
      ∙ ap (λ b. cond (is_first names (name_at names f) order f) (cond b (times s order) 0) 0) not-of
      ∙ zero-either (is_first names (name_at names f) order f)
      ∙ sym differ)
      (cases_Bool (is_alone names f))

  -- a slot with a name stands in the block of the first trip of that name alone
  term-of-named : is_alone names s ≡ false → (x : ℕ) → IsFirstOf names (name_at names s) order x → (f : ℕ)
      → term f ≡ cond (x == f) (times s order) 0
  term-of-named named x is f = ⊎_elim
      (λ (e : is_alone names f ≡ true).
      let x-named : is_alone names x ≡ false = alone-same s x is.named ∙ named in
      let not-s : one (f == s) ≡ 0 = ap one (ne_eqb f s (λ same. false≢true (sym named ∙ ap (is_alone names) (sym same) ∙ e))) in
      let not-x : (x == f) ≡ false = ne_eqb x f (λ same. false≢true (sym x-named ∙ ap (is_alone names) same ∙ e)) in
      term-alone f e ∙ not-s ∙ sym (ap (λ b. cond b (times s order) 0) not-x))
      (λ (e : is_alone names f ≡ false).
      ⊎_elim
      (λ (yes : is_of names (name_at names f) s ≡ true).
      let same : name_at names f ≡ name_at names s = sym (same-text (name_at names s) (name_at names f) yes) in
      term-named f e
      ∙ ap (λ b. cond (is_first names (name_at names f) order f) (cond b (times s order) 0) 0) yes
      ∙ ap (λ name. cond (is_first names name order f) (times s order) 0) same
      ∙ ap (λ b. cond b (times s order) 0) (is.first f))
      (λ (fails : is_of names (name_at names f) s ≡ false).
      let not-x : (x == f) ≡ false = ne_eqb x f (λ same.
      false≢true (sym fails ∙ text-itself (name_at names s) (name_at names f)
      (sym (same-text (name_at names x) (name_at names s) is.named) ∙ ap (name_at names) same))) in
      term-named f e
      ∙ ap (λ b. cond (is_first names (name_at names f) order f) (cond b (times s order) 0) 0) fails
      ∙ zero-either (is_first names (name_at names f) order f)
      ∙ sym (ap (λ b. cond b (times s order) 0) not-x))
      (cases_Bool (is_of names (name_at names f) s)))
      (cases_Bool (is_alone names f))

-- the sum of what stands at one slot alone
sum-at : (x c : ℕ) (xs : List ℕ) → times x xs ≡ 1 → sum_by (λ f. cond (x == f) c 0) xs ≡ c
sum-at x c xs once = turned xs ∙ (let e : sum_by (λ f. cond (f == x) c 0) xs ≡ c = weighed xs once in e)
  where
    turn : (f : ℕ) → ◌≡◌ {A = ℕ} (cond (x == f) c 0) (cond (f == x) c 0)
    turn f = ⊎_elim
        (λ (e : (x == f) ≡ true). ap (λ b. cond b c 0) (e ∙ sym (eq-eqb f x (sym (eqb-true x f e)))))
        (λ (e : (x == f) ≡ false). ap (λ b. cond b c 0) (e ∙ sym (ne_eqb f x (λ same. false≢true (sym e ∙ eq-eqb x f (sym same))))))
        (cases_Bool (x == f))

    turned : (xs : List ℕ) → sum_by (λ f. cond (x == f) c 0) xs ≡ sum_by (λ f. cond (f == x) c 0) xs
    turned xs = sum_by-same (λ f. cond (x == f) c 0) (λ f. cond (f == x) c 0) xs turn

    none : (xs : List ℕ) → times x xs ≡ 0 → sum_by (λ f. cond (f == x) c 0) xs ≡ 0
    none [] fails = refl
    none (y ∷ xs) fails = ⊎_elim
        (λ (e : (y == x) ≡ true). absurd (omega (arith, fails, times-cons x y xs, ap one e)))
        (λ (e : (y == x) ≡ false).
        let here : ◌≡◌ {A = ℕ} (cond (y == x) c 0) 0 = ap (λ b. cond b c 0) e in
        let rest = none xs (omega (arith, fails, times-cons x y xs)) in
        omega (arith, sum_by-cons (λ f. cond (f == x) c 0) y xs, here, rest))
        (cases_Bool (y == x))

    weighed : (xs : List ℕ) → times x xs ≡ 1 → sum_by (λ f. cond (f == x) c 0) xs ≡ c
    weighed [] fails = absurd (omega (arith, fails))
    weighed (y ∷ xs) fails = ⊎_elim
        (λ (e : (y == x) ≡ true).
        let here : ◌≡◌ {A = ℕ} (cond (y == x) c 0) c = ap (λ b. cond b c 0) e in
        let rest = none xs (omega (arith, fails, times-cons x y xs, ap one e)) in
        omega (arith, sum_by-cons (λ f. cond (f == x) c 0) y xs, here, rest))
        (λ (e : (y == x) ≡ false).
        let here : ◌≡◌ {A = ℕ} (cond (y == x) c 0) 0 = ap (λ b. cond b c 0) e in
        let rest = weighed xs (omega (arith, fails, times-cons x y xs, ap one e)) in
        omega (arith, sum_by-cons (λ f. cond (f == x) c 0) y xs, here, rest))
        (cases_Bool (y == x))

at-most-one : (b : Bool) → one b ≤ 1
at-most-one true = omega arith
at-most-one false = omega arith

-- each slot stands in the blocks as often as in their order, where it stands there once at the most
pub times-blocks_by : (live : ℕ → Bool) (names : List (List ℕ)) (order : List ℕ) → StandsOnce live order → (s : ℕ)
    → times s (slots_in (slots_by (blocks_by names order))) ≡ times s order
times-blocks_by live names order stands s =
    times-blocks names order s order ∙ ⊎_elim
    (λ (alone : is_alone names s ≡ true). sum_by-same (term names order s) (λ f. one (f == s)) order (term-of-alone names order s alone))
    (λ (named : is_alone names s ≡ false).
    ⊎_elim
    (λ (some : 0 < times s order).
    let first = first-of names (name_at names s) order s (text-itself (name_at names s) (name_at names s) refl) some in
    let once : times first.0 order ≡ 1 = omega (arith, first.1.stands, stands.once first.0, at-most-one (live first.0)) in
    sum_by-same (term names order s) (λ f. cond (first.0 == f) (times s order) 0) order (term-of-named names order s named first.0 first.1)
    ∙ sum-at first.0 (times s order) order once)
    (λ (fails : times s order ≡ 0). none named fails)
    (cases-none (times s order)))
    (cases_Bool (is_alone names s))
  where
    cases-none : (n : ℕ) → (0 < n) ⊎ (n ≡ 0)
    cases-none zero = inr refl
    cases-none (suc n) = inl (omega arith)

    none-at : is_alone names s ≡ false → times s order ≡ 0 → (f : ℕ) → term names order s f ≡ 0
    none-at named fails f = ⊎_elim
        (λ (e : is_alone names f ≡ true). term-alone names order s f e
        ∙ ap one (ne_eqb f s (λ same. false≢true (sym named ∙ ap (is_alone names) (sym same) ∙ e))))
        (λ (e : is_alone names f ≡ false).
        term-named names order s f e
        ∙ ap (λ n. cond (is_first names (name_at names f) order f) (cond (is_of names (name_at names f) s) n 0) 0) fails
        ∙ ap (λ n. cond (is_first names (name_at names f) order f) n 0) (zero-either names order s (is_of names (name_at names f) s))
        ∙ zero-either names order s (is_first names (name_at names f) order f))
        (cases_Bool (is_alone names f))

    zeros : (xs : List ℕ) → sum_by (λ _. 0) xs ≡ 0
    zeros [] = refl
    zeros (x ∷ xs) = omega (arith, sum_by-cons (λ _. 0) x xs, zeros xs)

    none : is_alone names s ≡ false → times s order ≡ 0 → sum_by (term names order s) order ≡ times s order
    none named fails = sum_by-same (term names order s) (λ _. 0) order (none-at named fails) ∙ zeros order ∙ sym fails
