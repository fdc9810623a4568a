-- What the weights of a side are.
use Rattle.std.proofs.Common.{◌≡◌, ◌≢◌, ℕ, Bool, true, false, cond, List, Option, None, Some, refl, sym, ap, ◌∙◌, ⊎_elim, inl, inr, ◌⊎◌}
use Rattle.std.specs.Prelude.{if◌then◌else◌}
use Rattle.std.proofs.lemmas.Bool.{cases_eq, eq-eqb, ne_eqb}
use Rattle.std.proofs.lemmas.Option.{none-some, same_Some}
use Rattle.trip_model.specs.Links.{leads_to}
use Rattle.assignment_model.specs.Prices.{weight}
use Rattle.deadhead_matrix.specs.Fitting.{name_at}
use Rattle.deadhead_matrix.proofs.Ruled.{allowed-weight, forbidden-weight}
use Rattle.pair_rules.specs.Rules.{PairRule, allows}
use Rattle.pair_graph.specs.Pairs.{PairsView, pairs_network, walks_network}
use Rattle.pair_search.specs.Assignment.{AreWeights}
use Rattle.pair_search.specs.Arranged.{weight_from}
use Rattle.pair_search.specs.Side.{SideView, side_allows, side_walk_weight, side_weight, IsSideOf}
use Rattle.pair_search.proofs.LooseLemmas.{IsWithout, AreWeights-turned, AreWeights-without}

-- the weights of all pairs, from the side
abbrev pub all_weights : PairsView → Bool → ℕ → ℕ → Option ℕ
all_weights pairs turned i j = if turned then weight (pairs_network pairs) j i else weight (pairs_network pairs) i j

-- the weights of pairs from one side are those that are computed
pub weight-side : (pairs : PairsView) (turned : Bool) (without : Option ℕ) (side : SideView) → IsSideOf pairs turned without side
    → side_weight side ≡ weight_from pairs turned without
unfolding side_weight
weight-side pairs turned without side is = ap (λ (s : SideView). weight_from s.pairs s.turned s.without) is

-- one that is left out leads to nothing else
leads : (b : Option ℕ) (j : ℕ) → ((b ≡ Some j) × (leads_to j b ≡ true)) ⊎ ((b ≢ Some j) × (leads_to j b ≡ false))
leads None j = inr (λ e. none-some j e, refl)
leads (Some s) j = ⊎_elim
    (λ (e : s ≡ j). inl (ap Some e, eq-eqb s j e))
    (λ (ne : s ≡ j → ⊥). inr (λ e. ne (same_Some s j e), ne_eqb s j ne))
    (cases_eq s j)

pub masked : (side : SideView) (i j : ℕ) (left : Bool) → leads_to j side.without ≡ left
    → side_weight side i j ≡ cond left None (all_weights side.pairs side.turned i j)
unfolding side_weight
masked side i j left e = ap (λ t. cond t None (all_weights side.pairs side.turned i j)) e

pub IsWithout-side : (side : SideView) → IsWithout (side_weight side) (all_weights side.pairs side.turned) side.without
IsWithout-side side = record {
  some = λ i j k e. ⊎_elim
      (λ (at-b : (side.without ≡ Some j) × (leads_to j side.without ≡ true)). absurd (none-some k (sym (masked side i j true at-b.1) ∙ e)))
      (λ (away : (side.without ≢ Some j) × (leads_to j side.without ≡ false)). sym (masked side i j false away.1) ∙ e)
      (leads side.without j);
  all = λ i j k other e. ⊎_elim
      (λ (at-b : (side.without ≡ Some j) × (leads_to j side.without ≡ true)). absurd (other at-b.0))
      (λ (away : (side.without ≢ Some j) × (leads_to j side.without ≡ false)). masked side i j false away.1 ∙ e)
      (leads side.without j);
  none = λ i j at-b. ⊎_elim
      (λ (here : (side.without ≡ Some j) × (leads_to j side.without ≡ true)). masked side i j true here.1)
      (λ (away : (side.without ≢ Some j) × (leads_to j side.without ≡ false)). absurd (away.0 at-b))
      (leads side.without j);
}

-- what the rules forbid weighs nothing
pub forbidden-side : (side : SideView) (i j : ℕ) → side_allows side i j ≡ false → side_weight side i j ≡ None
unfolding side_weight
forbidden-side side i j forbidden = by side.turned (leads_to j side.without) refl refl forbidden
  where
    rules : List PairRule
    rules = side.pairs.matrix.rules

    names : List (List ℕ)
    names = side.pairs.names

    asked : Bool → Bool
    asked t = if t then allows rules (name_at names j) (name_at names i) else allows rules (name_at names i) (name_at names j)

    by : (turned left : Bool) → side.turned ≡ turned → leads_to j side.without ≡ left → side_allows side i j ≡ false
        → side_weight side i j ≡ None
    by turned true is out e = masked side i j true out
    by true false is out e = masked side i j false out ∙ ap (λ t. all_weights side.pairs t i j) is
        ∙ forbidden-weight rules names (walks_network side.pairs) j i
        (sym (ap asked is) ∙ e)
    by false false is out e = masked side i j false out ∙ ap (λ t. all_weights side.pairs t i j) is
        ∙ forbidden-weight rules names (walks_network side.pairs) i j
        (sym (ap asked is) ∙ e)

-- what they allow weighs as without them
pub allowed-side : (side : SideView) (i j : ℕ) → side_allows side i j ≡ true → side_weight side i j ≡ side_walk_weight side i j
unfolding side_weight
allowed-side side i j allowed = by side.turned (leads_to j side.without) refl refl allowed
  where
    rules : List PairRule
    rules = side.pairs.matrix.rules

    names : List (List ℕ)
    names = side.pairs.names

    asked : Bool → Bool
    asked t = if t then allows rules (name_at names j) (name_at names i) else allows rules (name_at names i) (name_at names j)

    walks : Bool → Option ℕ
    walks t = if t then weight (walks_network side.pairs) j i else weight (walks_network side.pairs) i j

    by : (turned left : Bool) → side.turned ≡ turned → leads_to j side.without ≡ left → side_allows side i j ≡ true
        → side_weight side i j ≡ side_walk_weight side i j
    by turned true is out e = masked side i j true out ∙ sym (ap (λ t. if t then None else walks side.turned) out)
    by true false is out e = masked side i j false out ∙ ap (λ t. all_weights side.pairs t i j) is
        ∙ allowed-weight rules names (walks_network side.pairs) j i
        (sym (ap asked is) ∙ e)
        ∙ sym (ap walks is) ∙ sym (ap (λ t. if t then None else walks side.turned) out)
    by false false is out e = masked side i j false out ∙ ap (λ t. all_weights side.pairs t i j) is
        ∙ allowed-weight rules names (walks_network side.pairs) i j
        (sym (ap asked is) ∙ e)
        ∙ sym (ap walks is) ∙ sym (ap (λ t. if t then None else walks side.turned) out)

-- what fits weighs as without them
pub fit-side : (side : SideView) (i j k : ℕ) → side_weight side i j ≡ Some k → side_walk_weight side i j ≡ Some k
fit-side side i j k fits = by (side_allows side i j) refl
  where
    by : (test : Bool) → side_allows side i j ≡ test → side_walk_weight side i j ≡ Some k
    by true allowed = sym (allowed-side side i j allowed) ∙ fits
    by false forbidden = absurd (none-some k (sym (forbidden-side side i j forbidden) ∙ fits))

-- weights are those of a network, from either side
pub AreWeights-side : (side : SideView) (n : ℕ) → AreWeights (weight (pairs_network side.pairs)) n → AreWeights (side_weight side) n
AreWeights-side side n weights =
    AreWeights-without (side_weight side) (all_weights side.pairs side.turned) side.without n (IsWithout-side side) (by side.turned)
  where
    by : (turned : Bool) → AreWeights (all_weights side.pairs turned) n
    by true = AreWeights-turned (weight (pairs_network side.pairs)) n weights
    by false = weights
