-- Plans of next trips with their dual prices, and when the prices prove that a plan is least.
use Rattle.std.specs.Prelude.{◌≡◌, ◌≢◌, ℕ, ◌+◌, ◌-◌, ◌<◌, ◌≤◌, true, false, List, length, sum, sum_by, slice_index_or, Option, None, Some}
use Rattle.std.specs.Prelude.{IfSome, unwrap_or}
use Rattle.std.specs.List.{range_with_len}
use Rattle.std.specs.Option.{option_map}
use Rattle.trip_model.specs.declared.limits.TheConstants.{LAST_MINUTE, MOST_SLOTS}
use Rattle.assignment_model.specs.declared.limits.TheConstants.{MOST_DEADHEAD, VEHICLE_WEIGHT}
use Rattle.trip_model.specs.Links.{next_of, AreLinks}
use Rattle.trip_model.specs.Network.{Network}

-- rule: the weight of a pair of trips
-- word: weight = saving of a connection
-- what it saves to make j next after i: a vehicle, and the empty minutes home after i and out to j, less those of the walk.
-- None where they do not fit
abbrev pub weight : Network → ℕ → ℕ → Option ℕ
weight network i j = option_map (λ minutes. VEHICLE_WEIGHT + network.home i + network.out j - minutes) (network.empty i j)

-- word: plan = assignment with dual prices
-- word: leave, enter = dual prices u, v
-- for each slot the trip that its vehicle makes next, and two prices: one for leaving it, and one for entering it
pub record Plan : Type 0 where
  pub next : List (Option ℕ)
  pub leave : List ℕ
  pub enter : List ℕ

-- the price of a slot; 0 past the last one
abbrev pub price : List ℕ → ℕ → ℕ
price prices s = slice_index_or prices s 0

-- the weight of the link from a slot, and 0 where there is none
abbrev pub weight_to : Network → ℕ → Option ℕ → ℕ
weight_to network i None = 0
weight_to network i (Some j) = unwrap_or (weight network i j) 0

-- the weights of all links
abbrev pub link_weights : Network → List (Option ℕ) → ℕ
link_weights network links = sum_by (λ i. weight_to network i (next_of links i)) (range_with_len 0 (length links))

-- rule: when prices prove a plan
-- word: certified = optimal by complementary slackness
-- A plan whose prices prove it. Links fit, and no trip is the next of two. A slot that is not live has no next trip and no
-- price. On each pair that fits the two prices reach its weight. All prices together are the weights of the links.
pub record IsCertified (network : Network) (plan : Plan) : Type 0 where
  pub leaves : length plan.leave ≡ length plan.next
  pub enters : length plan.enter ≡ length plan.next
  pub links : AreLinks network plan.next
  pub dead : (s : ℕ) → network.live s ≡ false → (next_of plan.next s ≡ None) × (price plan.leave s ≡ 0) × (price plan.enter s ≡ 0)
  pub covers : (i j k : ℕ) → weight network i j ≡ Some k → k ≤ price plan.leave i + price plan.enter j
  pub sums : sum plan.leave + sum plan.enter ≡ link_weights network plan.next

-- A network of one day. Its live slots are below a number of at most 4,096. No walk between trips that fit is longer than the
-- day. No way out of the depot or home takes more than 1,440 minutes.
pub record IsDay (network : Network) (slots : ℕ) : Type 0 where
  pub few : slots ≤ MOST_SLOTS
  pub within : (s : ℕ) → network.live s ≡ true → s < slots
  pub walks : (i j m : ℕ) → network.empty i j ≡ Some m → m ≤ LAST_MINUTE
  pub out : (s : ℕ) → network.out s ≤ MOST_DEADHEAD
  pub home : (s : ℕ) → network.home s ≤ MOST_DEADHEAD

-- A plan on the way to a certified one. It is as such a plan, but a has no next trip and b is the next of none. Of pairs that
-- leave a or enter b nothing is asked. In place of the sums, on each link the two prices are its weight. A trip other than a
-- without a next one has no leaving price. A trip other than b without one before it has no entering price.
pub record IsLoose (network : Network) (plan : Plan) (a b : Option ℕ) : Type 0 where
  pub leaves : length plan.leave ≡ length plan.next
  pub enters : length plan.enter ≡ length plan.next
  pub links : AreLinks network plan.next
  pub dead : (s : ℕ) → network.live s ≡ false → (next_of plan.next s ≡ None) × (price plan.leave s ≡ 0) × (price plan.enter s ≡ 0)
  pub before : IfSome a (λ s. (network.live s ≡ true) × (next_of plan.next s ≡ None))
  pub after : IfSome b (λ s. (network.live s ≡ true) × ((i : ℕ) → next_of plan.next i ≢ Some s))
  pub covers : (i j k : ℕ) → a ≢ Some i → b ≢ Some j → weight network i j ≡ Some k → k ≤ price plan.leave i + price plan.enter j
  pub tight : (i j : ℕ) → next_of plan.next i ≡ Some j → price plan.leave i + price plan.enter j ≡ weight_to network i (Some j)
  pub leave_zero : (s : ℕ) → a ≢ Some s → next_of plan.next s ≡ None → price plan.leave s ≡ 0
  pub enter_zero : (s : ℕ) → b ≢ Some s → ((i : ℕ) → next_of plan.next i ≢ Some s) → price plan.enter s ≡ 0
