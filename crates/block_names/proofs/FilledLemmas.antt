-- Names that blocks take, and free ones for the others: none comes twice.
use Rattle.std.proofs.Common.{◌≡◌, ◌≢◌, ℕ, suc, ◌≤◌, Bool, true, false, List, [], ◌∷◌, length, Option, Some, None, refl, sym, ap}
use Rattle.std.proofs.Common.{◌∙◌, arith}
use Rattle.std.specs.Prelude.{AllPairs, IfSome}
use Rattle.std.specs.List.{AllByRecursion}
use Rattle.std.proofs.lemmas.Bool.{true≢false}
use Rattle.std.proofs.lemmas.List.Elements.{All-from_recursion}
use Rattle.std.proofs.lemmas.List.Kept.{AllPairs-cons}
use Rattle.block_names.specs.Names.{filled_up}

pub each-weaker : {X : Type 0} (P Q : X → Type 0) → ((x : X) → P x → Q x) → (xs : List X) → AllByRecursion P xs → AllByRecursion Q xs
each-weaker P Q weaker [] each = tt
each-weaker P Q weaker (x ∷ xs) each = (weaker x each.0, each-weaker P Q weaker xs each.1)

-- no name is one of those behind it
abbrev pub AreApart : List (List ℕ) → Type 0
AreApart [] = Unit {0}
AreApart (x ∷ xs) = AllByRecursion (λ y. x ≢ y) xs × AreApart xs

pub pairs-apart : (xs : List (List ℕ)) → AreApart xs → AllPairs (λ x y. x ≢ y) xs
pairs-apart [] apart = λ i j d less lt. absurd (omega (arith, lt))
pairs-apart (x ∷ xs) apart =
    AllPairs-cons (λ x y. x ≢ y) x xs (All-from_recursion (λ y. x ≢ y) xs apart.0) (pairs-apart xs apart.1)

-- no name is taken by two
abbrev pub AreTakenOnce : List (Option (List ℕ)) → Type 0
AreTakenOnce [] = Unit {0}
AreTakenOnce (None ∷ taken) = AreTakenOnce taken
AreTakenOnce (Some x ∷ taken) = AllByRecursion (λ o. IfSome o (λ y. x ≢ y)) taken × AreTakenOnce taken

-- how many take none
abbrev pub nones : List (Option (List ℕ)) → ℕ
nones [] = 0
nones (None ∷ taken) = suc (nones taken)
nones (Some x ∷ taken) = nones taken

pub nones-few : (taken : List (Option (List ℕ))) → nones taken ≤ length taken
nones-few [] = omega arith
nones-few (None ∷ taken) = let rest = nones-few taken in omega (arith, rest)
nones-few (Some x ∷ taken) = let rest = nones-few taken in omega (arith, rest)

pub filled-count : (free : List (List ℕ)) (taken : List (Option (List ℕ))) → length (filled_up free taken) ≡ length taken
filled-count free [] = refl
filled-count free (Some x ∷ taken) = ap suc (filled-count free taken)
filled-count [] (None ∷ taken) = ap suc (filled-count [] taken)
filled-count (name ∷ free) (None ∷ taken) = ap suc (filled-count free taken)

-- what holds of the free names and of those that are taken holds of all, where there are enough free ones
pub filled-each : (P : List ℕ → Type 0) (free : List (List ℕ)) (taken : List (Option (List ℕ))) → AllByRecursion P free
    → AllByRecursion (λ o. IfSome o P) taken → nones taken ≤ length free → AllByRecursion P (filled_up free taken)
filled-each P free [] frees takens enough = tt
filled-each P free (Some x ∷ taken) frees takens enough = (takens.0, filled-each P free taken frees takens.1 enough)
filled-each P [] (None ∷ taken) frees takens enough = absurd (omega (arith, enough))
filled-each P (name ∷ free) (None ∷ taken) frees takens enough =
    (frees.0, filled-each P free taken frees.1 takens.1 (omega (arith, enough)))

-- free names differ, taken ones differ, and a test tells them from each other: all differ
pub filled-apart : (p : List ℕ → Bool) (free : List (List ℕ)) (taken : List (Option (List ℕ))) → AreApart free → AreTakenOnce taken
    → AllByRecursion (λ x. p x ≡ false) free → AllByRecursion (λ o. IfSome o (λ x. p x ≡ true)) taken
    → nones taken ≤ length free → AreApart (filled_up free taken)
filled-apart p free [] apart once fails passes enough = tt
filled-apart p free (Some x ∷ taken) apart once fails passes enough = (
  filled-each (λ y. x ≢ y) free taken
      (each-weaker (λ y. p y ≡ false) (λ y. x ≢ y) (λ y no e. true≢false (sym passes.0 ∙ ap p e ∙ no)) free fails)
      once.0 enough,
  filled-apart p free taken apart once.1 fails passes.1 enough,
)
filled-apart p [] (None ∷ taken) apart once fails passes enough = absurd (omega (arith, enough))
filled-apart p (name ∷ free) (None ∷ taken) apart once fails passes enough =
    let few : nones taken ≤ length free = omega (arith, enough) in (
      filled-each (λ y. name ≢ y) free taken apart.0
          (each-weaker (λ o. IfSome o (λ x. p x ≡ true)) (λ o. IfSome o (λ y. name ≢ y)) other taken passes.1) few,
      filled-apart p free taken apart.1 once fails.1 passes.1 few,
    )
  where
    other : (o : Option (List ℕ)) → IfSome o (λ x. p x ≡ true) → IfSome o (λ y. name ≢ y)
    other None has = tt
    other (Some y) has = λ e. true≢false (sym has ∙ ap p (sym e) ∙ fails.0)
