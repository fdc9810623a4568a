-- What comes first of numbers below a bound.
use Rattle.std.proofs.Common.{◌≡◌, ℕ, zero, suc, ◌+◌, ◌<◌, ◌≤◌, map, Option, None, Some, refl, sym, ap, ◌∙◌, arith}
use Rattle.std.specs.List.{range_with_len}
use Rattle.std.specs.Option.{option_or}
use Rattle.std.proofs.lemmas.Option.{none-some}
use Rattle.price_check.specs.Reasons.{first_of, first_at}

-- nothing is found at numbers below a bound
abbrev pub NoneBelow : {A : Type 0} → (ℕ → Option A) → ℕ → Type 0
NoneBelow f n = (k : ℕ) → k < n → f k ≡ None

-- the first of a range and what comes after it
skip : {A : Type 0} (f : ℕ → Option A) (a n : ℕ) → f (a + 0) ≡ None
    → first_of (map f (range_with_len a (suc n))) ≡ first_of (map f (range_with_len (a + 1) n))
skip f a n none =
    ap (λ found. option_or found (first_of (map f (range_with_len (a + 1) n)))) ((let e : a ≡ a + 0 = omega arith in ap f e) ∙ none)

next : (a k : ℕ) → (a + 1) + k ≡ a + suc k
next a k = omega arith

none-from : {A : Type 0} (f : ℕ → Option A) (a n : ℕ) → ((k : ℕ) → k < n → f (a + k) ≡ None) → first_of (map f (range_with_len a n)) ≡ None
none-from f a zero none = refl
none-from f a (suc n) none =
    skip f a n (none 0 (omega arith)) ∙ none-from f (a + 1) n (λ k lt. ap f (next a k) ∙ none (suc k) (omega arith))

found-from : {A : Type 0} (f : ℕ → Option A) (a n m : ℕ) (r : A) → ((k : ℕ) → k < m → f (a + k) ≡ None) → m < n → f (a + m) ≡ Some r
    → first_of (map f (range_with_len a n)) ≡ Some r
found-from f a zero m r none lt e = absurd (omega arith)
found-from f a (suc n) zero r none lt e =
    ap (λ found. option_or found (first_of (map f (range_with_len (a + 1) n)))) ((let e : a ≡ a + 0 = omega arith in ap f e) ∙ e)
found-from f a (suc n) (suc m) r none lt e =
    skip f a n (none 0 (omega arith))
    ∙ found-from f (a + 1) n m r (λ k below. ap f (next a k) ∙ none (suc k) (omega arith)) (omega arith) (ap f (next a m) ∙ e)

-- none is found
pub none_first : {A : Type 0} (f : ℕ → Option A) (n m : ℕ) → NoneBelow f m → n ≤ m → None ≡ first_at f n
none_first f n m none le = sym (none-from f 0 n (λ k lt. (let e : 0 + k ≡ k = omega arith in ap f e) ∙ none k (omega arith)))

-- one is found, and none below it
pub found_first : {A : Type 0} (f : ℕ → Option A) (n m : ℕ) (r : A) → NoneBelow f m → m < n → Some r ≡ f m → Some r ≡ first_at f n
found_first f n m r none lt e =
    sym (found-from f 0 n m r (λ k below. (let e : 0 + k ≡ k = omega arith in ap f e) ∙ none k below) lt
    ((let e : 0 + m ≡ m = omega arith in ap f e) ∙ sym e))

-- where none is found, there is none at any number
pub or-none : {A : Type 0} (a b : Option A) → option_or a b ≡ None → (a ≡ None) × (b ≡ None)
or-none None b e = (refl, e)
or-none (Some x) b e = absurd (none-some x (sym e))

each-from : {A : Type 0} (f : ℕ → Option A) (a n : ℕ) → first_of (map f (range_with_len a n)) ≡ None → (k : ℕ) → k < n → f (a + k) ≡ None
each-from f a zero e k lt = absurd (omega arith)
each-from f a (suc n) e zero lt =
    (let same : a + 0 ≡ a = omega arith in ap f same) ∙ (or-none (f a) (first_of (map f (range_with_len (a + 1) n))) e).0
each-from f a (suc n) e (suc k) lt =
    sym (ap f (next a k)) ∙ each-from f (a + 1) n (or-none (f a) (first_of (map f (range_with_len (a + 1) n))) e).1 k (omega (arith, lt))

pub first_at-each : {A : Type 0} (f : ℕ → Option A) (n : ℕ) → first_at f n ≡ None → NoneBelow f n
first_at-each f n e k lt = (let same : k ≡ 0 + k = omega arith in ap f same) ∙ each-from f 0 n e k lt
