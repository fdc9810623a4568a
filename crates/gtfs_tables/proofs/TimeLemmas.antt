-- The parts of a time, whose length is known.
use Rattle.std.proofs.Common.{◌≡◌, ℕ, zero, suc, List, [], ◌∷◌, length, get_or, refl, ap, subst}
use Rattle.gtfs_tables.specs.Spaces.{without_spaces}
use Rattle.gtfs_tables.specs.Times.{full_minute, full_time, minute_of, seconds_of}

-- so many elements, each by its place
abbrev pub listed : ℕ → (ℕ → ℕ) → List ℕ
listed zero at = []
listed (suc n) at = at 0 ∷ listed n (λ i. at (suc i))

-- a list is its elements
listed-all : (s : List ℕ) → s ≡ listed (length s) (λ i. get_or s i 0)
listed-all [] = refl
listed-all (x ∷ s) = ap (λ rest. x ∷ rest) (listed-all s)

module _ (text form : List ℕ) (is : form ≡ without_spaces text) where
  parts : (n : ℕ) → length form ≡ n → form ≡ listed n (λ i. get_or form i 0)
  parts n count = subst (λ n. form ≡ listed n (λ i. get_or form i 0)) count (listed-all form)

  pub short-time : length form ≡ 7 → seconds_of text ≡ full_time (48 ∷ listed 7 (λ i. get_or form i 0))
  short-time count = rw (← is, count) (ap (λ form. full_time (48 ∷ form)) (parts 7 count))

  pub long-time : length form ≡ 8 → seconds_of text ≡ full_time (listed 8 (λ i. get_or form i 0))
  long-time count = rw (← is, count) (ap full_time (parts 8 count))

  pub short-minute : length form ≡ 4 → minute_of text ≡ full_minute (48 ∷ listed 4 (λ i. get_or form i 0))
  short-minute count = rw (← is, count) (ap (λ form. full_minute (48 ∷ form)) (parts 4 count))

  pub long-minute : length form ≡ 5 → minute_of text ≡ full_minute (listed 5 (λ i. get_or form i 0))
  long-minute count = rw (← is, count) (ap full_minute (parts 5 count))
