-- A network in which rules forbid some pairs: what fits there fits without the rules.
use Rattle.std.proofs.Common.{◌≡◌, ℕ, Bool, true, false, List, Option, None, Some, if◌then◌else◌, refl, sym, ap, ◌∙◌}
use Rattle.std.specs.Prelude.{IsSome}
use Rattle.std.proofs.lemmas.Bool.{false≢true}
use Rattle.std.proofs.lemmas.Option.{none-some}
use Rattle.trip_model.specs.Links.{AreLinks}
use Rattle.trip_model.specs.Network.{Network, Fits, AreDepartures}
use Rattle.assignment_model.specs.Prices.{IsDay, weight}
use Rattle.pair_rules.specs.Rules.{PairRule, allows}
use Rattle.deadhead_matrix.specs.Fitting.{allowed_network, name_at}

kept : (test : Bool) (found : Option ℕ) (m : ℕ) → (if test then found else None) ≡ Some m → found ≡ Some m
kept true found m e = e
kept false found m e = absurd (none-some m e)

kept-some : (test : Bool) (found : Option ℕ) → IsSome {T = ℕ} (if test then found else None) → IsSome found
kept-some true found is = is
kept-some false found is = absurd (false≢true is)

test-some : (test : Bool) (found : Option ℕ) → IsSome {T = ℕ} (if test then found else None) → test ≡ true
test-some true found is = refl
test-some false found is = absurd (false≢true is)

-- the rules allow the pair of two slots
abbrev pub are_allowed : List PairRule → List (List ℕ) → ℕ → ℕ → Bool
are_allowed rules names i j = allows rules (name_at names i) (name_at names j)

-- a pair that fits takes as many minutes without the rules
pub allowed-minutes : (rules : List PairRule) (names : List (List ℕ)) (network : Network) (i j m : ℕ)
    → (allowed_network rules names network).empty i j ≡ Some m → network.empty i j ≡ Some m
allowed-minutes rules names network i j m e = kept (are_allowed rules names i j) (network.empty i j) m e

-- a pair that fits does so without the rules
pub allowed-fits : (rules : List PairRule) (names : List (List ℕ)) (network : Network) (i j : ℕ)
    → Fits (allowed_network rules names network) i j → Fits network i j
allowed-fits rules names network i j fits = kept-some (are_allowed rules names i j) (network.empty i j) fits

-- the rules allow a pair that fits
pub fits-allowed : (rules : List PairRule) (names : List (List ℕ)) (network : Network) (i j : ℕ)
    → Fits (allowed_network rules names network) i j → are_allowed rules names i j ≡ true
fits-allowed rules names network i j fits = test-some (are_allowed rules names i j) (network.empty i j) fits

-- a pair that the rules allow is as without them
pub allowed-empty : (rules : List PairRule) (names : List (List ℕ)) (network : Network) (i j : ℕ) → are_allowed rules names i j ≡ true
    → (allowed_network rules names network).empty i j ≡ network.empty i j
allowed-empty rules names network i j allowed = ap (λ test. if test then network.empty i j else None) allowed

pub allowed-weight : (rules : List PairRule) (names : List (List ℕ)) (network : Network) (i j : ℕ) → are_allowed rules names i j ≡ true
    → weight (allowed_network rules names network) i j ≡ weight network i j
allowed-weight rules names network i j allowed =
    ap (λ test. weight (record network { empty = λ _ _. if test then network.empty i j else None }) i j) allowed

-- a pair that they forbid does not fit
pub forbidden-empty : (rules : List PairRule) (names : List (List ℕ)) (network : Network) (i j : ℕ) → are_allowed rules names i j ≡ false
    → (allowed_network rules names network).empty i j ≡ None
forbidden-empty rules names network i j forbidden = ap (λ test. if test then network.empty i j else None) forbidden

pub forbidden-weight : (rules : List PairRule) (names : List (List ℕ)) (network : Network) (i j : ℕ) → are_allowed rules names i j ≡ false
    → weight (allowed_network rules names network) i j ≡ None
forbidden-weight rules names network i j forbidden =
    ap (λ test. weight (record network { empty = λ _ _. if test then network.empty i j else None }) i j) forbidden

pub AreDepartures-allowed : (rules : List PairRule) (names : List (List ℕ)) (network : Network) (departs : ℕ → ℕ)
    → AreDepartures network departs → AreDepartures (allowed_network rules names network) departs
AreDepartures-allowed rules names network departs are = record {
  runs = λ i j fits. are.runs i j (allowed-fits rules names network i j fits);
  rises = λ i j fits. are.rises i j (allowed-fits rules names network i j fits);
  within = λ i j fits. are.within i j (allowed-fits rules names network i j fits);
}

pub IsDay-allowed : (rules : List PairRule) (names : List (List ℕ)) (network : Network) (slots : ℕ) → IsDay network slots
    → IsDay (allowed_network rules names network) slots
IsDay-allowed rules names network slots is = record {
  few = is.few;
  within = is.within;
  walks = λ i j m e. is.walks i j m (allowed-minutes rules names network i j m e);
  out = is.out;
  home = is.home;
}

pub AreLinks-allowed : (rules : List PairRule) (names : List (List ℕ)) (network : Network) (links : List (Option ℕ))
    → AreLinks (allowed_network rules names network) links → AreLinks network links
AreLinks-allowed rules names network links are = record {
  fits = λ i j next. allowed-fits rules names network i j (are.fits i j next);
  once = are.once;
}

-- so where a pair weighs nothing without the rules, it weighs nothing with them
pub unfit-weight : (rules : List PairRule) (names : List (List ℕ)) (network : Network) (i j : ℕ) → weight network i j ≡ None
    → weight (allowed_network rules names network) i j ≡ None
unfit-weight rules names network i j none = by (are_allowed rules names i j) refl
  where
    by : (test : Bool) → are_allowed rules names i j ≡ test → weight (allowed_network rules names network) i j ≡ None
    by true allowed = allowed-weight rules names network i j allowed ∙ none
    by false forbidden = forbidden-weight rules names network i j forbidden

-- what a pair weighs with the rules it also weighs without them
pub fit-weight : (rules : List PairRule) (names : List (List ℕ)) (network : Network) (i j k : ℕ)
    → weight (allowed_network rules names network) i j ≡ Some k
    → (are_allowed rules names i j ≡ true) × (weight network i j ≡ Some k)
fit-weight rules names network i j k fits = by (are_allowed rules names i j) refl
  where
    by : (test : Bool) → are_allowed rules names i j ≡ test → (are_allowed rules names i j ≡ true) × (weight network i j ≡ Some k)
    by true allowed = (allowed, sym (allowed-weight rules names network i j allowed) ∙ fits)
    by false forbidden = absurd (none-some k (sym (forbidden-weight rules names network i j forbidden) ∙ fits))
