-- The trip before another, where slots are looked at in order.
use Rattle.std.proofs.Common.{◌≡◌, ℕ, ◌<◌, ◌≤◌, true, false, List, length, Option, None, Some, refl, ap, ◌∙◌, inl, inr, ◌⊎◌, arith}
use Rattle.std.specs.Prelude.{nat_eq}
use Rattle.std.specs.Option.{option_eq}
use Rattle.std.proofs.lemmas.Bool.{both_ways, cases_lt, eq-eqb, eqb-true, false≢true}
use Rattle.std.proofs.lemmas.List.Quantifiers.{position-Some}
use Rattle.trip_model.specs.Links.{next_of, before_of, leads_to}
use Rattle.trip_model.proofs.BeforeLemmas.{next-before, next-within, position-None}

-- what is found to be that slot is that slot
pub found-there : (next : Option ℕ) (s : ℕ) → option_eq nat_eq next (Some s) ≡ true → next ≡ Some s
found-there None s e = absurd (false≢true e)
found-there (Some j) s e = ap Some (eqb-true j s e)

leads-there : (links : List (Option ℕ)) (s i : ℕ) → next_of links i ≡ Some s → leads_to s (next_of links i) ≡ true
leads-there links s i next = ap (leads_to s) next ∙ eq-eqb s s refl

-- where no slot leads there, no trip is before it
pub before-none : (links : List (Option ℕ)) (s : ℕ) → ((k : ℕ) → k < length links → leads_to s (next_of links k) ≡ false)
    → before_of links s ≡ None
before-none links s fails = by (before_of links s) refl
  where
    by : (before : Option ℕ) → before_of links s ≡ before → before_of links s ≡ None
    by None e = e
    by (Some i) e =
        let next = next-before links i s e in
        absurd (both_ways (leads_to s (next_of links i)) (fails i (next-within links i s next)) (leads-there links s i next))

-- the first slot that leads there is the trip before it
pub before-first : (links : List (Option ℕ)) (s i : ℕ) → ((k : ℕ) → k < i → leads_to s (next_of links k) ≡ false)
    → next_of links i ≡ Some s → before_of links s ≡ Some i
before-first links s i fails next = by (before_of links s) refl
  where
    order : (h : ℕ) → before_of links s ≡ Some h → (h < i) ⊎ (i ≤ h) → (i < h) ⊎ (h ≤ i) → before_of links s ≡ Some i
    order h e (inl less) _ = absurd
        (both_ways (leads_to s (next_of links h)) (fails h less) (leads-there links s h (next-before links h s e)))
    order h e (inr _) (inl more) =
        absurd (both_ways (leads_to s (next_of links i)) ((position-Some (leads_to s) links h None e).2 i more)
        (leads-there links s i next))
    order h e (inr l) (inr m) = let same : h ≡ i = omega arith in e ∙ ap Some same

    by : (before : Option ℕ) → before_of links s ≡ before → before_of links s ≡ Some i
    by None e = absurd (both_ways (leads_to s (next_of links i)) (position-None (leads_to s) links i None e (next-within links i s next))
        (leads-there links s i next))
    by (Some h) e = order h e (cases_lt h i) (cases_lt i h)
