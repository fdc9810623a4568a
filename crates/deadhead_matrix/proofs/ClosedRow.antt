-- A row of minutes, of which each is that of a walk and no entry leads on in fewer, is one of least walks, and is bounded.
use Rattle.std.proofs.Common.{◌≡◌, ℕ, ◌+◌, ◌*◌, ◌<◌, ◌≤◌, nat_le, nat_lt, Bool, true, false, cond, List, [], ◌∷◌, length}
use Rattle.std.proofs.Common.{get_or, None, Some, count_by, if◌then◌else◌, refl, sym, ap, subst, ◌∙◌, ⊎_elim, inl, inr, ◌⊎◌, arith}
use Rattle.std.proofs.Common.{zero, suc}
use Rattle.std.specs.List.{Contains}
use Rattle.std.proofs.lemmas.Bool.{cases_lt, cases_Bool, false≢true, leb-true, le-leb, ltb-true, lt-ltb}
use Rattle.std.proofs.lemmas.List.Sums.{sum_by-cons, count_by-le-length}
use Rattle.deadhead_matrix.specs.declared.entry.Entry.{Entry}
use Rattle.deadhead_matrix.specs.Walks.{IsWalk, walk_minutes, IsLeastWalk}
use Rattle.deadhead_matrix.specs.Rows.{far, dist_at, found_at, IsBounded}

-- what a number adds to a count
abbrev one_if : (ℕ → Bool) → ℕ → ℕ
one_if p x = cond (p x) 1 0

one_if-implied : (p q : ℕ → Bool) (x : ℕ) → (p x ≡ true → q x ≡ true) → one_if p x ≤ one_if q x
one_if-implied p q x implied = by (p x) refl
  where
    by : (b : Bool) → p x ≡ b → cond b 1 0 ≤ one_if q x
    by true is = let one : one_if q x ≡ 1 = ap (λ b. cond b 1 0) (implied is) in omega (arith, one)
    by false is = omega arith

-- where each number that passes p passes q, no more pass p
count-implied : (p q : ℕ → Bool) → ((x : ℕ) → p x ≡ true → q x ≡ true) → (xs : List ℕ) → count_by p xs ≤ count_by q xs
count-implied p q implied [] = omega arith
count-implied p q implied (x ∷ xs) =
    omega (arith, sum_by-cons (one_if p) x xs, sum_by-cons (one_if q) x xs, one_if-implied p q x (implied x), count-implied p q implied xs)

-- where one passes q alone, fewer pass p
count-fewer : (p q : ℕ → Bool) → ((x : ℕ) → p x ≡ true → q x ≡ true) → (xs : List ℕ) (i d : ℕ) → i < length xs
    → p (get_or xs i d) ≡ false → q (get_or xs i d) ≡ true
    → count_by p xs + 1 ≤ count_by q xs
count-fewer p q implied [] i d within fails passes = absurd (omega (arith, within))
count-fewer p q implied (x ∷ xs) zero d within fails passes =
    let none : one_if p x ≡ 0 = ap (λ b. cond b 1 0) fails in
    let one : one_if q x ≡ 1 = ap (λ b. cond b 1 0) passes in
    omega (arith, sum_by-cons (one_if p) x xs, sum_by-cons (one_if q) x xs, none, one, count-implied p q implied xs)
count-fewer p q implied (x ∷ xs) (suc i) d within fails passes =
    omega (
      arith,
      sum_by-cons (one_if p) x xs,
      sum_by-cons (one_if q) x xs,
      one_if-implied p q x (implied x),
      count-fewer p q implied xs i d (omega (arith, within)) fails passes,
    )

one-more : (m : ℕ) → suc m ≡ m + 1
one-more m = omega arith

-- whether a place that is so far is near, within so many entries of a day
abbrev is_near : ℕ → ℕ → Bool
is_near m d = nat_le d (1440 * m)

near-more : (m d : ℕ) → is_near m d ≡ true → is_near (m + 1) d ≡ true
near-more m d near = le-leb d (1440 * (m + 1)) (omega (arith, leb-true d (1440 * m) near))

not-near : (m d : ℕ) → 1440 * m < d → is_near m d ≡ false
not-near m d above = ⊎_elim
    (λ (near : is_near m d ≡ true). absurd (omega (arith, leb-true d (1440 * m) near, above)))
    (λ (beyond : is_near m d ≡ false). beyond)
    (cases_Bool (is_near m d))

-- a row of minutes from a place, after which no entry leads on in fewer
pub record IsClosedRow (entries : List Entry) (start : ℕ) (dist : List ℕ) : Type 0 where
  pub len : length dist ≡ 512
  pub start_in : start < 512
  pub home : dist_at dist start ≡ 0
  pub walks : (b : ℕ) → dist_at dist b < far → (es : List Entry) × IsWalk entries start es b × (walk_minutes es ≡ dist_at dist b)
  pub closed : (e : Entry) → Contains entries e → dist_at dist e.to ≤ dist_at dist e.from + e.minutes
  pub short : (e : Entry) → Contains entries e → e.minutes ≤ 1440
  pub within : (e : Entry) → Contains entries e → e.to < 512

module _ (entries : List Entry) (start : ℕ) (dist : List ℕ) (row : IsClosedRow entries start dist) where
  -- every walk takes at least as long as its end is farther
  along : (es : List Entry) (a b : ℕ) → IsWalk entries a es b → dist_at dist b ≤ dist_at dist a + walk_minutes es
  along [] a b walk = let same = ap (dist_at dist) walk in omega (arith, same)
  along (e ∷ es) a b walk =
      let from = ap (dist_at dist) walk.1 in
      omega (arith, from, row.closed e walk.0, along es e.to b walk.2, sum_by-cons (λ (e : Entry). e.minutes) e es)

  -- no place is beyond so many entries of a day and within one more
  abbrev IsStable : ℕ → Type 0
  IsStable m = (b : ℕ) → b < 512 → dist_at dist b ≤ 1440 * (m + 1) → dist_at dist b ≤ 1440 * m

  stable-or_more : (m : ℕ) → IsStable m ⊎ (count_by (is_near m) dist + 1 ≤ count_by (is_near (m + 1)) dist)
  stable-or_more m = ⊎_elim
      (λ (more : count_by (is_near m) dist < count_by (is_near (m + 1)) dist). inr (omega (arith, more)))
      (λ (same : count_by (is_near (m + 1)) dist ≤ count_by (is_near m) dist). inl
      (λ b b_in near. ⊎_elim
      (λ (beyond : 1440 * m < dist_at dist b). absurd
      (let more = count-fewer (is_near m) (is_near (m + 1)) (near-more m) dist b far (omega (arith, b_in, row.len))
      (not-near m (dist_at dist b) beyond) (le-leb (dist_at dist b) (1440 * (m + 1)) near) in omega (arith, more, same)))
      (λ (le : dist_at dist b ≤ 1440 * m). le)
      (cases_lt (1440 * m) (dist_at dist b))))
      (cases_lt (count_by (is_near m) dist) (count_by (is_near (m + 1)) dist))

  -- either that comes about at some number, or with each number a place more is near
  levels : (m : ℕ) → ((k : ℕ) × (k ≤ m) × IsStable k) ⊎ (m + 1 ≤ count_by (is_near m) dist)
  levels zero = inr (let one = count-fewer (λ _. false) (is_near 0) (λ x fails. absurd (false≢true fails)) dist start far
      (omega (arith, row.start_in, row.len)) refl (le-leb (dist_at dist start) 0 (omega (arith, row.home))) in omega (arith, one))
  levels (suc m) = ⊎_elim
      (λ (some : (k : ℕ) × (k ≤ m) × IsStable k). inl (some.0, omega (arith, some.1), some.2))
      (λ (many : m + 1 ≤ count_by (is_near m) dist). ⊎_elim
      (λ (stable : IsStable m). inl (m, omega arith, stable))
      (λ (more : count_by (is_near m) dist + 1 ≤ count_by (is_near (m + 1)) dist). inr
      (let next = ap (λ k. count_by (is_near k) dist) (one-more m) in omega (arith, next, more, many)))
      (stable-or_more m))
      (levels m)

  -- then walks lead to none that is farther
  stays : (k : ℕ) → IsStable k → (es : List Entry) (a b : ℕ) → IsWalk entries a es b → dist_at dist a ≤ 1440 * k → dist_at dist b ≤ 1440 * k
  stays k stable [] a b walk near = let same = ap (dist_at dist) walk in omega (arith, same, near)
  stays k stable (e ∷ es) a b walk near =
      let from = ap (dist_at dist) walk.1 in
      stays k stable es e.to b walk.2 (stable e.to (row.within e walk.0)
      (omega (arith, from, near, row.closed e walk.0, row.short e walk.0)))

  -- the end of a walk is no farther than the longest walk
  bounded : (es : List Entry) (b : ℕ) → IsWalk entries start es b → b < 512 → dist_at dist b ≤ 735840
  bounded es b walk b_in = ⊎_elim
      (λ (some : (k : ℕ) × (k ≤ 511) × IsStable k).
      omega (arith, some.1, stays some.0 some.2 es start b walk (omega (arith, row.home))))
      (λ (many : 512 ≤ count_by (is_near 511) dist). ⊎_elim
      (λ (beyond : 735840 < dist_at dist b). absurd
      (let fewer = count-fewer (is_near 511) (λ _. true) (λ x _. refl) dist b far (omega (arith, b_in, row.len))
      (not-near 511 (dist_at dist b) beyond) refl in
      omega (arith, fewer, many, count_by-le-length (λ (_ : ℕ). true) dist, row.len)))
      (λ (le : dist_at dist b ≤ 735840). le)
      (cases_lt 735840 (dist_at dist b)))
      (levels 511)

  -- walks end within the row
  ends-within : (es : List Entry) (a b : ℕ) → IsWalk entries a es b → a < 512 → b < 512
  ends-within [] a b walk a_in = subst (λ x. x < 512) walk a_in
  ends-within (e ∷ es) a b walk a_in = ends-within es e.to b walk.2 (row.within e walk.0)

  pub IsBounded-closed : IsBounded dist
  IsBounded-closed = λ b b_in near. let walk = row.walks b near in bounded walk.0 b walk.1 (omega (arith, b_in, row.len))

  pub IsLeastWalk-closed : (b : ℕ) → IsLeastWalk entries start b (found_at dist b)
  IsLeastWalk-closed b = by (nat_lt (dist_at dist b) far) refl
    where
      by : (test : Bool) → nat_lt (dist_at dist b) far ≡ test → IsLeastWalk entries start b (if test then Some (dist_at dist b) else None)
      by true near = record {
        reached = row.walks b (ltb-true (dist_at dist b) far near);
        least = λ es walk. omega (arith, along es start b walk, row.home);
      }
      by false not_near = λ es walk.
          false≢true (sym not_near ∙ lt-ltb (dist_at dist b) far
          (omega (arith, bounded es b walk (ends-within es start b walk row.start_in))))
