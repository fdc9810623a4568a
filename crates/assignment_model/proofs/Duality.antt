-- No blocking weighs more than the prices of a certified plan, so the plan's own blocks are least.
use Rattle.std.proofs.Common.{◌≡◌, ℕ, zero, suc, ◌+◌, ◌-◌, ◌*◌, ◌<◌, ◌≤◌, Bool, true, false, List, [], ◌∷◌, ◌++◌, length, map, filter, sum_by}
use Rattle.std.proofs.Common.{Option, None, Some, refl, sym, ap, ◌∙◌, ⊎_elim, arith}
use Rattle.std.specs.List.{sum, range_with_len, AllByRecursion}
use Rattle.std.specs.Option.{is_some, unwrap_or, option_map}
use Rattle.std.proofs.lemmas.Bool.{cases_lt, false≢true}
use Rattle.std.proofs.lemmas.List.{length-append, map-id}
use Rattle.std.proofs.lemmas.List.Sums.{sum_by-cons, sum_by-append, sum-map, count_by-le-length, length-filter}
use Rattle.std.proofs.lemmas.List.FromFn.{length-range_with_len}
use Rattle.trip_model.proofs.StepsLemmas.{range_with_len-more}
use Rattle.trip_model.specs.Blocking.{StandsOnce, Follow, IsBlock, slots_in, IsBlocking, minutes_after, block_minutes, empty_minutes}
use Rattle.trip_model.specs.Blocking.{IsLeast}
use Rattle.trip_model.specs.Links.{next_of, is_first, along, block_from, blocks_along, AreLinks}
use Rattle.trip_model.specs.Network.{Network, Fits, AreDepartures}
use Rattle.trip_model.proofs.Chains.{GoesOn, AreChains, chains-of, block_from-is, IsBlocking-blocks_along}
use Rattle.trip_model.proofs.Counting.{sum_below, sum_below-add, sum_below-list, sum_by-below, sum_by-standing, StandsOnce-filter_range}
use Rattle.trip_model.proofs.Counting.{length-ones}
use Rattle.assignment_model.specs.declared.limits.TheConstants.{VEHICLE_WEIGHT}
use Rattle.assignment_model.specs.Prices.{weight, Plan, price, weight_to, link_weights, IsCertified, IsDay}

-- the weight of two trips that fit
pub fitting : (network : Network) (i j : ℕ) → Fits network i j → (m : ℕ) × (network.empty i j ≡ Some m)
fitting network i j fits = by (network.empty i j) fits
  where
    by : (found : Option ℕ) → is_some found ≡ true → (m : ℕ) × (found ≡ Some m)
    by None e = absurd (false≢true e)
    by (Some m) e = (m, refl)

-- the weights along a chain
unfoldable pub worth_after : Network → ℕ → List ℕ → ℕ
worth_after network i [] = 0
worth_after network i (j ∷ js) = unwrap_or (weight network i j) 0 + worth_after network j js

unfoldable pub worth : Network → List ℕ → ℕ
worth network [] = 0
worth network (i ∷ js) = worth_after network i js

pub weight_is : (network : Network) (i j m : ℕ) → network.empty i j ≡ Some m
    → weight network i j ≡ Some (VEHICLE_WEIGHT + network.home i + network.out j - m)
weight_is network i j m e = ap (option_map (λ minutes. VEHICLE_WEIGHT + network.home i + network.out j - minutes)) e

pub worth_is : (network : Network) (i j m : ℕ) → network.empty i j ≡ Some m
    → unwrap_or (weight network i j) 0 ≡ VEHICLE_WEIGHT + network.home i + network.out j - m
worth_is network i j m e = ap (λ w. unwrap_or w 0) (weight_is network i j m e)

walk_is : (network : Network) (i j m : ℕ) → network.empty i j ≡ Some m → unwrap_or (network.empty i j) 0 ≡ m
walk_is network i j m e = ap (λ w. unwrap_or w 0) e

-- both prices of a slot
unfoldable pub prices : Plan → ℕ → ℕ
prices plan s = price plan.leave s + price plan.enter s

-- a chain weighs no more than its prices
pub chain-le : (network : Network) (plan : Plan) → IsCertified network plan → (i : ℕ) (js : List ℕ) → Follow network i js
    → worth_after network i js ≤ price plan.leave i + sum_by (prices plan) js
unfolding worth_after prices
chain-le network plan proved i [] follows = omega arith
chain-le network plan proved i (j ∷ js) follows =
    let m = fitting network i j follows.0 in
    let covers = proved.covers i j _ (weight_is network i j m.0 m.1) in
    omega (arith, worth_is network i j m.0 m.1, covers, sum_by-cons (prices plan) j js, chain-le network plan proved j js follows.1)

-- blocks weigh no more than their prices
pub blocks-le : (network : Network) (plan : Plan) → IsCertified network plan → (blocks : List (List ℕ))
    → AllByRecursion (IsBlock network) blocks
    → sum_by (worth network) blocks ≤ sum_by (prices plan) (slots_in blocks)
unfolding worth prices
blocks-le network plan proved [] each = omega arith
blocks-le network plan proved ([] ∷ blocks) each = absurd each.0
blocks-le network plan proved ((i ∷ js) ∷ blocks) each =
    let here : worth_after network i js ≤ price plan.leave i + sum_by (prices plan) js = chain-le network plan proved i js each.0 in
    omega (
      arith,
      sum_by-cons (worth network) (i ∷ js) blocks,
      sum_by-append (prices plan) (i ∷ js) (slots_in blocks),
      sum_by-cons
          (prices plan) i js,
      here,
      blocks-le network plan proved blocks each.1,
    )

-- the empty minutes out to a trip and home after it
pub pulls : Network → ℕ → ℕ
pulls network s = network.out s + network.home s

-- what a chain weighs and how long it runs empty are together the same for all chains of as many trips, but for the pulls
chain-balance : (network : Network) (slots : ℕ) → IsDay network slots → (i : ℕ) (js : List ℕ) → Follow network i js
    → worth_after network i js + minutes_after network i js ≡ VEHICLE_WEIGHT * length js + network.home i + sum_by (pulls network) js
unfolding worth_after pulls
chain-balance network slots day i [] follows = omega arith
chain-balance network slots day i (j ∷ js) follows =
    let m = fitting network i j follows.0 in
    let short = day.walks i j m.0 m.1 in
    omega (
      arith,
      worth_is network i j m.0 m.1,
      walk_is network i j m.0 m.1,
      short,
      sum_by-cons (pulls network) j js,
      chain-balance network
          slots day j js follows.1,
    )

pub blocks-balance : (network : Network) (slots : ℕ) → IsDay network slots → (blocks : List (List ℕ)) → AllByRecursion (IsBlock network) blocks
    → sum_by (worth network) blocks + empty_minutes network blocks + VEHICLE_WEIGHT * length blocks ≡ VEHICLE_WEIGHT * length
    (slots_in blocks) + sum_by (pulls network) (slots_in blocks)
unfolding worth pulls
blocks-balance network slots day [] each = omega arith
blocks-balance network slots day ([] ∷ blocks) each = absurd each.0
blocks-balance network slots day ((i ∷ js) ∷ blocks) each =
    omega (
      arith,
      sum_by-cons (worth network) (i ∷ js) blocks,
      sum_by-cons (block_minutes network) (i ∷ js) blocks,
      length-append (i ∷ js) (slots_in blocks),
      sum_by-append (pulls network) (i ∷ js) (slots_in blocks),
      sum_by-cons (pulls network) i js,
      chain-balance network slots day i js each.0,
      blocks-balance network slots day blocks each.1,
    )

-- how far the empty minutes of a chain stand from its pulls
chain-bounds : (network : Network) (slots : ℕ) → IsDay network slots → (i : ℕ) (js : List ℕ) → Follow network i js
    → (minutes_after network i js ≤ 8191 * length js + network.home i + sum_by (pulls network) js)
    × (network.home i + sum_by (pulls network) js ≤ minutes_after network i js + 2880 * length js)
unfolding pulls
chain-bounds network slots day i [] follows = (omega arith, omega arith)
chain-bounds network slots day i (j ∷ js) follows =
    let m = fitting network i j follows.0 in
    let short = day.walks i j m.0 m.1 in
    let rest = chain-bounds network slots day j js follows.1 in (
      omega (arith, walk_is network i j m.0 m.1, short, sum_by-cons (pulls network) j js, rest.0),
      omega (arith, walk_is network i j m.0 m.1, day.out j, day.home i, sum_by-cons (pulls network) j js, rest.1),
    )

pub blocks-bounds : (network : Network) (slots : ℕ) → IsDay network slots → (blocks : List (List ℕ)) → AllByRecursion (IsBlock network) blocks
    → (empty_minutes network blocks ≤ 8191 * length (slots_in blocks) + sum_by (pulls network) (slots_in blocks))
    × (sum_by (pulls network) (slots_in blocks) ≤ empty_minutes network blocks + 2880 * length (slots_in blocks))
unfolding pulls
blocks-bounds network slots day [] each = (omega arith, omega arith)
blocks-bounds network slots day ([] ∷ blocks) each = absurd each.0
blocks-bounds network slots day ((i ∷ js) ∷ blocks) each =
    let here = chain-bounds network slots day i js each.0 in
    let rest = blocks-bounds network slots day blocks each.1 in
    let minutes = sum_by-cons (block_minutes network) (i ∷ js) blocks in
    let lengths = length-append (i ∷ js) (slots_in blocks) in
    let all = sum_by-append (pulls network) (i ∷ js) (slots_in blocks) in
    let first = sum_by-cons (pulls network) i js in (
      omega (arith, minutes, lengths, all, first, here.0, rest.0),
      omega (arith, minutes, lengths, all, first, here.1, rest.1),
    )

-- the weight of the link from a slot
link_weight : Network → List (Option ℕ) → ℕ → ℕ
link_weight network links s = weight_to network s (next_of links s)

-- a chain of links weighs what its links do
chain-links : (network : Network) (links : List (Option ℕ)) (i : ℕ) (js : List ℕ) → GoesOn links i js
    → worth_after network i js ≡ sum_by (link_weight network links) (i ∷ js)
unfolding worth_after link_weight
chain-links network links i [] goes =
    let none : weight_to network i (next_of links i) ≡ 0 = ap (weight_to network i) goes in
    omega (arith, none, sum_by-cons (link_weight network links) i [])
chain-links network links i (j ∷ js) goes =
    let here : weight_to network i (next_of links i) ≡ unwrap_or (weight network i j) 0 = ap (weight_to network i) goes.0 in
    omega (arith, here, sum_by-cons (link_weight network links) i (j ∷ js), chain-links network links j js goes.1)

blocks-links : (network : Network) (links : List (Option ℕ)) → AreChains links → (firsts : List ℕ)
    → sum_by (worth network) (map (block_from links) firsts) ≡ sum_by (link_weight network links) (slots_in (map (block_from links) firsts))
unfolding worth
blocks-links network links chains [] = refl
blocks-links network links chains (i ∷ firsts) =
    let js = along links 8191 (next_of links i) in
    let rest = slots_in (map (block_from links) firsts) in
    let here = ap (worth network) (block_from-is links i) in
    let flat = ap (λ block. sum_by (link_weight network links) (block ++ rest)) (block_from-is links i)
    ∙ sum_by-append (link_weight network links) (i ∷ js) rest in
    omega (
      arith,
      sum_by-cons (worth network) (block_from links i) (map (block_from links) firsts),
      here,
      flat,
      chain-links network links i
          js (chains.goes_on i),
      blocks-links network links chains firsts,
    )

-- sums over a range and over a list, as sums below a bound
pub sum_by-range : (f : ℕ → ℕ) (n : ℕ) → sum_by f (range_with_len 0 n) ≡ sum_below f n
sum_by-range f zero = refl
sum_by-range f (suc n) =
    ap (sum_by f) (range_with_len-more 0 n) ∙ sum_by-append f (range_with_len 0 n) ((0 + n) ∷ [])
    ∙ (let last : sum_by f ((0 + n) ∷ []) ≡ f n = one n in omega (arith, last, sum_by-range f n))
  where
    one : (n : ℕ) → sum_by f ((0 + n) ∷ []) ≡ f n
    one n = ap (λ m. sum_by f (m ∷ [])) (let e : 0 + n ≡ n = omega arith in e) ∙ (let e = sum_by-cons f n [] in omega (arith, e))

pub sum-below : (xs : List ℕ) → sum xs ≡ sum_below (price xs) (length xs)
sum-below xs = ap sum (sym (map-id xs)) ∙ sum-map (λ x. x) xs ∙ sym (sum_below-list (λ x. x) xs 0)

-- what the prices of all slots of a blocking come to
pub prices-all : (network : Network) (plan : Plan) → IsCertified network plan → (slots : List ℕ) → StandsOnce network.live slots
    → ((s : ℕ) → network.live s ≡ true → s < length plan.next)
    → sum_by (prices plan) slots ≡ link_weights network plan.next
unfolding prices
prices-all network plan proved slots stands within =
    sum_by-below network.live (prices plan) (length plan.next) slots within
    (λ s dead. let none = proved.dead s dead in omega (arith, none.1, none.2)) stands
    ∙ sum_below-add (price plan.leave) (price plan.enter) (length plan.next)
    ∙ (λ i. sum_below (price plan.leave) (sym proved.leaves i) + sum_below (price plan.enter) (sym proved.enters i))
    ∙ (λ i. sym (sum-below plan.leave) i + sym (sum-below plan.enter) i)
    ∙ proved.sums

-- and what the blocks of links weigh
pub links-weight : (network : Network) (links : List (Option ℕ)) (departs : ℕ → ℕ) → AreLinks network links → AreDepartures network departs
    → (order : List ℕ) → StandsOnce network.live order
    → ((s : ℕ) → network.live s ≡ true → s < length links)
    → ((s : ℕ) → network.live s ≡ false → next_of links s ≡ None)
    → sum_by (worth network) (blocks_along links order) ≡ link_weights network links
unfolding link_weight
links-weight network links departs are clock order stands within dead =
    let blocking = IsBlocking-blocks_along network departs links order clock are stands in
    blocks-links network links (chains-of network departs links clock are) (filter (is_first links) order)
    ∙ sum_by-below network.live (link_weight network links) (length links) (slots_in (blocks_along links order)) within
    (λ s none. ap (weight_to network s) (dead s none)) blocking.stands
    ∙ sym (sum_by-range (link_weight network links) (length links))

-- a list in which each live slot stands once is no longer than there are slots
pub standing-length : (live : ℕ → Bool) (n : ℕ) (slots : List ℕ) → ((s : ℕ) → live s ≡ true → s < n) → StandsOnce live slots → length slots ≤ n
standing-length live n slots within stands =
    let same = sum_by-standing live (λ _. 1) slots (filter live (range_with_len 0 n)) stands (StandsOnce-filter_range live n within) in
    let few = count_by-le-length live (range_with_len 0 n) in
    omega (
      arith,
      length-ones slots,
      length-ones (filter live (range_with_len 0 n)),
      same,
      length-filter live (range_with_len 0 n),
      few,
      length-range_with_len 0 n,
    )

-- the blocks of a certified plan beside any others: vehicles and empty minutes together are as many as the weights lack, and no empty
-- minutes are worth a vehicle
pub record Compared (network : Network) (plan : Plan) (own others : List (List ℕ)) : Type 0 where
  pub balance : sum_by (worth network) own + empty_minutes network own + VEHICLE_WEIGHT * length own
      ≡ sum_by (worth network) others + empty_minutes network others + VEHICLE_WEIGHT * length others
  pub weighs : sum_by (worth network) own ≡ sum_by (prices plan) (slots_in others)
  pub shorter : empty_minutes network own ≤ empty_minutes network others + 45346816
  pub longer : empty_minutes network others ≤ empty_minutes network own + 45346816

pub compared : (network : Network) (slots : ℕ) (plan : Plan) (departs : ℕ → ℕ) → IsDay network slots → length plan.next ≡ slots
    → IsCertified network plan → AreDepartures network departs
    → (order : List ℕ) → StandsOnce network.live order → (others : List (List ℕ)) → IsBlocking network others
    → Compared network plan (blocks_along plan.next order) others
compared network slots plan departs day len proved clock order stands others other =
    let own = blocks_along plan.next order in
    let blocking = IsBlocking-blocks_along network departs plan.next order clock proved.links stands in
    let within : (s : ℕ) → network.live s ≡ true → s < length plan.next = λ s live. omega (arith, day.within s live, len) in
    let mine = blocks-balance network slots day own blocking.each in
    let theirs = blocks-balance network slots day others other.each in
    let lengths = sum_by-standing network.live (λ _. 1) (slots_in own) (slots_in others) blocking.stands other.stands in
    let long_own = length-ones (slots_in own) in
    let long_others = length-ones (slots_in others) in
    let same_pulls = sum_by-standing network.live (pulls network) (slots_in own) (slots_in others) blocking.stands other.stands in
    let few = standing-length network.live slots (slots_in others) day.within other.stands in
    let mine_near = blocks-bounds network slots day own blocking.each in
    let theirs_near = blocks-bounds network slots day others other.each in
    let limit = day.few in record {
      balance = omega arith;
      weighs = links-weight network plan.next departs proved.links clock order stands within (λ s dead. (proved.dead s dead).0)
          ∙ sym (prices-all network plan proved (slots_in others) other.stands within);
      shorter = omega (arith, mine_near.0, theirs_near.1);
      longer = omega (arith, mine_near.1, theirs_near.0);
    }

-- the blocks of a certified plan are least
pub IsLeast-certified : (network : Network) (slots : ℕ) (plan : Plan) (departs : ℕ → ℕ) → IsDay network slots → length plan.next ≡ slots
    → IsCertified network plan → AreDepartures network departs
    → (order : List ℕ) → StandsOnce network.live order → IsLeast network (blocks_along plan.next order)
IsLeast-certified network slots plan departs day len proved clock order stands = record {
  fewest = record {
    blocking = IsBlocking-blocks_along network departs plan.next order clock proved.links stands;
    fewest = λ others other. (let cost = own-cost others other in
        let longer = (beside others other).longer in
        ⊎_elim
        (λ (less : length others < length (blocks_along plan.next order)). absurd (omega (arith, cost, longer)))
        (λ (enough : length (blocks_along plan.next order) ≤ length others). enough)
        (cases_lt (length others) (length (blocks_along plan.next order))));
  };
  shortest = λ others other same. (let cost = own-cost others other in omega (arith, cost));
}
  where
    own : List (List ℕ)
    own = blocks_along plan.next order

    beside : (others : List (List ℕ)) → IsBlocking network others → Compared network plan own others
    beside = compared network slots plan departs day len proved clock order stands

    own-cost : (others : List (List ℕ)) → IsBlocking network others
        → VEHICLE_WEIGHT * length own + empty_minutes network own ≤ VEHICLE_WEIGHT * length others + empty_minutes network others
    own-cost others other =
        let c = beside others other in
        let most = blocks-le network plan proved others other.each in
        omega (arith, c.balance, c.weighs, most)
