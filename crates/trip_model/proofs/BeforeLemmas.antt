-- The trip before another.
use Rattle.std.proofs.Common.{◌≡◌, ℕ, ◌<◌, ◌≤◌, Bool, true, false, cond, List, length, get_or, position, Option, None, Some, refl, sym, ap}
use Rattle.std.proofs.Common.{◌∙◌, ⊎_elim, arith}
use Rattle.std.specs.List.{position_or_len}
use Rattle.std.proofs.lemmas.Bool.{cases_lt, lt-ltb, eq-eqb, eqb-true, false≢true}
use Rattle.std.proofs.lemmas.List.{get_or_past}
use Rattle.std.proofs.lemmas.List.Quantifiers.{position-Some}
use Rattle.std.proofs.lemmas.List.Sums.{fails_before_first}
use Rattle.std.proofs.lemmas.Option.{none-some}
use Rattle.trip_model.specs.Links.{next_of, before_of, leads_to, AreApart}

-- where no place is the first that passes, none passes
pub position-None : {X : Type 0} (p : X → Bool) (xs : List X) (i : ℕ) (d : X) → position p xs ≡ None → i < length xs
    → p (get_or xs i d) ≡ false
position-None p xs i d none lt = ⊎_elim
    (λ (h : position_or_len p xs < length xs). absurd
    (none-some _ (sym none ∙ ap (λ b. cond b (Some (position_or_len p xs)) None) (lt-ltb _ _ h))))
    (λ (h : length xs ≤ position_or_len p xs). fails_before_first p xs i d (omega (arith, h, lt)))
    (cases_lt (position_or_len p xs) (length xs))

-- a link that leads to s
leads_to-is : (s : ℕ) (next : Option ℕ) → leads_to s next ≡ true → next ≡ Some s
leads_to-is s None e = absurd (false≢true e)
leads_to-is s (Some j) e = ap Some (eqb-true j s e)

-- a slot that has a next trip is one of the slots
pub next-within : (links : List (Option ℕ)) (i j : ℕ) → next_of links i ≡ Some j → i < length links
next-within links i j next = ⊎_elim
    (λ (h : i < length links). h)
    (λ (h : length links ≤ i). absurd (none-some j (sym (get_or_past links i None h) ∙ next)))
    (cases_lt i (length links))

-- a trip is the next of the one before it
pub next-before : (links : List (Option ℕ)) (i j : ℕ) → before_of links j ≡ Some i → next_of links i ≡ Some j
next-before links i j before = leads_to-is j (next_of links i) (position-Some (leads_to j) links i None before).1

-- and no other is before it
pub before-next : (links : List (Option ℕ)) (i j : ℕ) → AreApart links → next_of links i ≡ Some j → before_of links j ≡ Some i
before-next links i j apart next = by (before_of links j) refl
  where
    by : (before : Option ℕ) → before_of links j ≡ before → before_of links j ≡ Some i
    by None none = absurd (false≢true
        (sym (position-None (leads_to j) links i None none (next-within links i j next)) ∙ ap (leads_to j) next ∙ eq-eqb j j refl))
    by (Some h) found = found ∙ ap Some (apart h i j (next-before links h j found) next)
