-- Pairs without the trip of a slot, and what is known of their network.
use Rattle.std.proofs.Common.{◌≡◌, ◌≢◌, ℕ, ◌+◌, ◌-◌, ◌<◌, ◌≤◌, Bool, true, false, List, length, get_or, set, Option, None, Some}
use Rattle.std.proofs.Common.{if◌then◌else◌, refl, sym, ap, ◌∙◌, ⊎_elim, inl, inr, ◌⊎◌, arith}
use Rattle.std.specs.Option.{is_some, option_map}
use Rattle.std.proofs.lemmas.Bool.{both_ways, cases_eq, cases_lt}
use Rattle.std.proofs.lemmas.List.{get_or-set_same, get_or-set_other, get_or_past, length-set}
use Rattle.trip_model.specs.declared.trip.Move.{Move}
use Rattle.trip_model.specs.Links.{AreLinks}
use Rattle.trip_model.specs.Network.{Network, Fits, AreDepartures}
use Rattle.trip_model.specs.Plain.{move_at}
use Rattle.trip_model.proofs.Counting.{runs-within}
use Rattle.pair_rules.specs.Rules.{allows}
use Rattle.deadhead_matrix.specs.Fitting.{empty_between, out_before, home_after, name_at}
use Rattle.deadhead_matrix.specs.Matrix.{MatrixView, walk}
use Rattle.deadhead_matrix.proofs.Ruled.{are_allowed}
use Rattle.assignment_model.specs.Paths.{AreNextTrips}
use Rattle.assignment_model.specs.Prices.{weight, Plan, IsCertified, IsLoose}
use Rattle.assignment_model.proofs.Looseness.{IsCertified-loose}
use Rattle.pair_graph.specs.Pairs.{PairsView, pairs_network}
use Rattle.price_repair.specs.Without.{pairs_without}

-- a network without the trip of s: that does not run, and all else is as in the whole
pub record LacksTrip (whole rest : Network) (s : ℕ) : Type 0 where
  pub dead : rest.live s ≡ false
  pub live : (i : ℕ) → i ≢ s → rest.live i ≡ whole.live i
  pub empty : (i j : ℕ) → i ≢ s → j ≢ s → rest.empty i j ≡ whole.empty i j
  pub weights : (i j : ℕ) → i ≢ s → j ≢ s → weight rest i j ≡ weight whole i j

-- what is written over a slot of a list, where that is what stands past its end, is there
pub get_or-set_default : {X : Type 0} → (xs : List X) (s : ℕ) (x : X) → get_or (set xs s x) s x ≡ x
get_or-set_default xs s x = ⊎_elim
    (λ (h : s < length xs). get_or-set_same xs s x x h)
    (λ (h : length xs ≤ s). get_or_past (set xs s x) s x (omega (arith, h, length-set xs s x)))
    (cases_lt s (length xs))

-- the minutes between two moves, where the rules allow the pair
between : MatrixView → Bool → Option Move → Option Move → Option ℕ
between matrix allowed a b = if allowed then empty_between (walk matrix) a b else None

-- and the weight of the one and the other
weighed : MatrixView → Bool → Option Move → Option Move → Option ℕ
weighed matrix allowed a b = option_map (λ minutes. 67108864 + home_after matrix.pulls a + out_before matrix.pulls b - minutes)
    (if allowed then empty_between (walk matrix) a b else None)

pub LacksTrip-without : (pairs : PairsView) (s : ℕ) → LacksTrip (pairs_network pairs) (pairs_network (pairs_without pairs s)) s
unfolding between weighed
LacksTrip-without pairs s =
    let rest = set pairs.moves s None in
    let allowed = are_allowed pairs.matrix.rules pairs.names in
    let other : (i : ℕ) → i ≢ s → move_at rest i ≡ move_at pairs.moves i = λ i ne. get_or-set_other pairs.moves s i None None ne in
    record {
      dead = ap is_some (get_or-set_default pairs.moves s None);
      live = λ i ne. ap is_some (other i ne);
      empty = λ i j p q. ap (λ a. between pairs.matrix (allowed i j) a (move_at rest j)) (other i p)
          ∙ ap (between pairs.matrix (allowed i j) (move_at pairs.moves i)) (other j q);
      weights = λ i j p q. ap (λ a. weighed pairs.matrix (allowed i j) a (move_at rest j)) (other i p)
          ∙ ap (weighed pairs.matrix (allowed i j) (move_at pairs.moves i)) (other j q);
    }

-- pairs that fit without the trip are not of its slot
pub fits-other : (whole rest : Network) (departs : ℕ → ℕ) (s i j : ℕ) → LacksTrip whole rest s → AreDepartures rest departs → Fits rest i j
    → (i ≢ s) × (j ≢ s)
fits-other whole rest departs s i j lacks clock fits =
    let runs = clock.runs i j fits in (
      λ same. both_ways (rest.live s) lacks.dead (sym (ap rest.live same) ∙ runs.0),
      λ same. both_ways (rest.live s) lacks.dead (sym (ap rest.live same) ∙ runs.1),
    )

-- links of slots of the list are next trips
pub AreNextTrips-links : (network : Network) (departs : ℕ → ℕ) (links : List (Option ℕ)) → AreDepartures network departs
    → ((s : ℕ) → network.live s ≡ true → s < length links) → AreLinks network links
    → AreNextTrips links
AreNextTrips-links network departs links clock within are = record {
  within = λ i j e. within j (clock.runs i j (are.fits i j e)).1;
  once = are.once;
}

-- a plan from which no side is left out is certified for the pairs
pub IsCertified-pairs : (pairs : PairsView) (departs : ℕ → ℕ) (plan : Plan) → AreDepartures (pairs_network pairs) departs
    → length plan.next ≡ length pairs.moves → IsLoose (pairs_network pairs) plan None None
    → IsCertified (pairs_network pairs) plan
IsCertified-pairs pairs departs plan clock slots loose =
    IsCertified-loose (pairs_network pairs) departs plan clock (λ s live. omega (arith, runs-within pairs.moves s live, slots)) loose

-- the network of names and moves as a function of the name and the move of each slot
network_by : MatrixView → (ℕ → List ℕ) → (ℕ → Option Move) → Network
network_by matrix name move = record {
  live = λ s. is_some (move s);
  empty = λ i j. if allows matrix.rules (name i) (name j) then empty_between (walk matrix) (move i) (move j) else None;
  out = λ s. out_before matrix.pulls (move s);
  home = λ s. home_after matrix.pulls (move s);
}

-- what is None where it is allowed is None
none-by : (allowed : Bool) (found : Option ℕ) → found ≡ None → (if allowed then found else None) ≡ None
none-by true found e = e
none-by false found e = refl

-- nothing leads to where there is no move
to-none : (walk : ℕ → ℕ → Option ℕ) (m : Option Move) → empty_between walk m None ≡ None
to-none walk None = refl
to-none walk (Some a) = refl

-- where a slot makes no move, its name says nothing
module _ (matrix : MatrixView) (name name' : ℕ → List ℕ) (move : ℕ → Option Move) (s : ℕ) (none : move s ≡ None)
    (names : (i : ℕ) → i ≢ s → name i ≡ name' i) where
  still : (i j : ℕ) → empty_between (walk matrix) (move i) (move j) ≡ None
      → (network_by matrix name move).empty i j ≡ (network_by matrix name' move).empty i j
  unfolding network_by
  still i j e = none-by (allows matrix.rules (name i) (name j)) (empty_between (walk matrix) (move i) (move j)) e
      ∙ sym (none-by (allows matrix.rules (name' i) (name' j)) (empty_between (walk matrix) (move i) (move j)) e)

  same-empty : (i j : ℕ) → (i ≡ s) ⊎ (i ≢ s) → (j ≡ s) ⊎ (j ≢ s)
      → (network_by matrix name move).empty i j ≡ (network_by matrix name' move).empty i j
  unfolding network_by
  same-empty i j (inl same) at-j = still i j (ap (λ m. empty_between (walk matrix) m (move j)) (ap move same ∙ none))
  same-empty i j (inr other) (inl same) =
      still i j (ap (empty_between (walk matrix) (move i)) (ap move same ∙ none) ∙ to-none (walk matrix) (move i))
  same-empty i j (inr p) (inr q) = λ k.
      if allows matrix.rules (names i p k) (names j q k) then empty_between (walk matrix) (move i) (move j) else None

  same-network : network_by matrix name move ≡ network_by matrix name' move
  unfolding network_by
  same-network = λ k. record {
    live = λ i. is_some (move i);
    empty = λ i j. same-empty i j (cases_eq i s) (cases_eq j s) k;
    out = λ i. out_before matrix.pulls (move i);
    home = λ i. home_after matrix.pulls (move i);
  }

-- pairs that agree but in one slot, in which the others have no trip, make one network without it
pub network-without : (pairs rest : PairsView) (s : ℕ) → rest.matrix ≡ pairs.matrix → move_at rest.moves s ≡ None
    → ((i : ℕ) → i ≢ s → move_at rest.moves i ≡ move_at pairs.moves i)
    → ((i : ℕ) → i ≢ s → name_at rest.names i ≡ name_at pairs.names i)
    → pairs_network (pairs_without pairs s) ≡ pairs_network rest
unfolding network_by
network-without pairs rest s matrix none others names =
    let moves : move_at (set pairs.moves s None) ≡ move_at rest.moves = λ j i. each i (cases_eq i s) j in
    same-network pairs.matrix (name_at pairs.names) (name_at rest.names) (move_at (set pairs.moves s None)) s
    (get_or-set_default pairs.moves s None) (λ i other. sym (names i other))
    ∙ ap (network_by pairs.matrix (name_at rest.names)) moves
    ∙ ap (λ m. network_by m (name_at rest.names) (move_at rest.moves)) (sym matrix)
  where
    each : (i : ℕ) → (i ≡ s) ⊎ (i ≢ s) → move_at (set pairs.moves s None) i ≡ move_at rest.moves i
    each i (inl same) = ap (move_at (set pairs.moves s None)) same ∙ get_or-set_default pairs.moves s None ∙ sym none
        ∙ sym (ap (move_at rest.moves) same)
    each i (inr other) = get_or-set_other pairs.moves s i None None other ∙ sym (others i other)
