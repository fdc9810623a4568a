-- The blockings that are least are exactly those that lose nothing of the prices.
use Rattle.std.proofs.Common.{◌≡◌, ℕ, ◌+◌, ◌<◌, ◌≤◌, List, [], ◌∷◌, length, filter, sum_by, Some, sym, ap, ◌∙◌, ⊎_elim, arith}
use Rattle.std.specs.List.{range_with_len, AllByRecursion}
use Rattle.std.specs.Option.{unwrap_or}
use Rattle.std.proofs.lemmas.Bool.{cases_lt}
use Rattle.std.proofs.lemmas.List.Sums.{sum_by-cons, sum_by-append}
use Rattle.trip_model.specs.Blocking.{StandsOnce, Follow, IsBlock, slots_in, IsBlocking, IsLeast}
use Rattle.trip_model.specs.Links.{blocks_along}
use Rattle.trip_model.specs.Network.{Network, AreDepartures}
use Rattle.trip_model.proofs.Counting.{StandsOnce-filter_range}
use Rattle.assignment_model.specs.Prices.{weight, Plan, price, IsCertified, IsDay}
use Rattle.assignment_model.specs.Tight.{AreTightAfter, IsTightBlock}
use Rattle.assignment_model.proofs.Duality.{fitting, weight_is, worth_is, worth_after, worth, prices, chain-le, blocks-le}
use Rattle.assignment_model.proofs.Duality.{compared, IsLeast-certified}

-- a chain that weighs as much as its prices is tight, and the other way round
chain-tight : (network : Network) (plan : Plan) → IsCertified network plan → (i : ℕ) (js : List ℕ) → Follow network i js
    → worth_after network i js ≡ price plan.leave i + sum_by (prices plan) js → AreTightAfter network plan i js
unfolding worth_after prices
chain-tight network plan proved i [] follows e = omega (arith, e)
chain-tight network plan proved i (j ∷ js) follows e =
    let m = fitting network i j follows.0 in
    let covers = proved.covers i j _ (weight_is network i j m.0 m.1) in
    let worth = worth_is network i j m.0 m.1 in
    let sums = sum_by-cons (prices plan) j js in
    let rest = chain-le network plan proved j js follows.1 in (
      weight_is network i j m.0 m.1 ∙ ap Some (omega (arith, worth, covers, sums, rest, e)),
      chain-tight network plan proved j js follows.1 (omega (arith, worth, covers, sums, rest, e)),
    )

tight-chain : (network : Network) (plan : Plan) (i : ℕ) (js : List ℕ) → AreTightAfter network plan i js
    → worth_after network i js ≡ price plan.leave i + sum_by (prices plan) js
unfolding worth_after prices
tight-chain network plan i [] tight = omega (arith, tight)
tight-chain network plan i (j ∷ js) tight =
    let here : unwrap_or (weight network i j) 0 ≡ price plan.leave i + price plan.enter j = ap (λ w. unwrap_or w 0) tight.0 in
    omega (arith, here, sum_by-cons (prices plan) j js, tight-chain network plan j js tight.1)

-- and so are blocks
blocks-tight : (network : Network) (plan : Plan) → IsCertified network plan → (blocks : List (List ℕ))
    → AllByRecursion (IsBlock network) blocks → sum_by (worth network) blocks ≡ sum_by (prices plan) (slots_in blocks)
    → AllByRecursion (IsTightBlock network plan) blocks
unfolding worth prices
blocks-tight network plan proved [] each e = each
blocks-tight network plan proved ([] ∷ blocks) each e = absurd each.0
blocks-tight network plan proved ((i ∷ js) ∷ blocks) each e =
    let here = chain-le network plan proved i js each.0 in
    let rest = blocks-le network plan proved blocks each.1 in
    let weighs = sum_by-cons (worth network) (i ∷ js) blocks in
    let all = sum_by-append (prices plan) (i ∷ js) (slots_in blocks) in
    let first = sum_by-cons (prices plan) i js in (
      (
        omega (arith, e, here, rest, weighs, all, first),
        chain-tight network plan proved i js each.0 (omega (arith, e, here, rest, weighs, all, first)),
      ),
      blocks-tight network plan proved blocks each.1 (omega (arith, e, here, rest, weighs, all, first)),
    )

pub tight-blocks : (network : Network) (plan : Plan) (blocks : List (List ℕ)) → AllByRecursion (IsTightBlock network plan) blocks
    → sum_by (worth network) blocks ≡ sum_by (prices plan) (slots_in blocks)
unfolding worth prices
tight-blocks network plan [] tight = omega arith
tight-blocks network plan ([] ∷ blocks) tight = absurd tight.0
tight-blocks network plan ((i ∷ js) ∷ blocks) tight =
    omega (
      arith,
      sum_by-cons (worth network) (i ∷ js) blocks,
      sum_by-append (prices plan) (i ∷ js) (slots_in blocks),
      sum_by-cons (prices plan) i js,
      tight.0.0,
      tight-chain network plan i js tight.0.1,
      tight-blocks network plan blocks tight.1,
    )

-- least blocks are tight
pub least-tight : (network : Network) (slots : ℕ) (plan : Plan) (departs : ℕ → ℕ) → IsDay network slots → length plan.next ≡ slots
    → IsCertified network plan → AreDepartures network departs
    → (blocks : List (List ℕ)) → IsLeast network blocks → AllByRecursion (IsTightBlock network plan) blocks
least-tight network slots plan departs day len proved clock blocks least =
    let blocking = least.fewest.blocking in
    let order = filter network.live (range_with_len 0 slots) in
    let stands : StandsOnce network.live order = StandsOnce-filter_range network.live slots day.within in
    let own = blocks_along plan.next order in
    let certified = IsLeast-certified network slots plan departs day len proved clock order stands in
    let c = compared network slots plan departs day len proved clock order stands blocks blocking in
    let no_more = certified.fewest.fewest blocks blocking in
    let no_fewer = least.fewest.fewest own certified.fewest.blocking in
    let as_many : length blocks ≡ length own = omega (arith, no_more, no_fewer) in
    let shorter = certified.shortest blocks blocking as_many in
    let longer = least.shortest own certified.fewest.blocking (sym as_many) in
    let balance = c.balance in
    let weighs = c.weighs in
    blocks-tight network plan proved blocks blocking.each (omega (arith, as_many, shorter, longer, balance, weighs))

-- and tight blocks are least
pub tight-least : (network : Network) (slots : ℕ) (plan : Plan) (departs : ℕ → ℕ) → IsDay network slots → length plan.next ≡ slots
    → IsCertified network plan → AreDepartures network departs
    → (blocks : List (List ℕ)) → IsBlocking network blocks → AllByRecursion (IsTightBlock network plan) blocks → IsLeast network blocks
tight-least network slots plan departs day len proved clock blocks blocking tight =
    let order = filter network.live (range_with_len 0 slots) in
    let stands : StandsOnce network.live order = StandsOnce-filter_range network.live slots day.within in
    let own = blocks_along plan.next order in
    let certified = IsLeast-certified network slots plan departs day len proved clock order stands in
    let c = compared network slots plan departs day len proved clock order stands blocks blocking in
    let no_more : length own ≤ length blocks = certified.fewest.fewest blocks blocking in
    let weighs = c.weighs ∙ sym (tight-blocks network plan blocks tight) in
    let balance = c.balance in
    let near = c.shorter in
    let as_many : length blocks ≡ length own = ⊎_elim
    (λ (more : length own < length blocks). absurd (omega (arith, more, weighs, balance, near)))
    (λ (enough : length blocks ≤ length own). omega (arith, enough, no_more))
    (cases_lt (length own) (length blocks)) in
    record {
      fewest = record {
        blocking = blocking;
        fewest = λ others other. (let fewest = certified.fewest.fewest others other in omega (arith, fewest, as_many));
      };
      shortest = λ others other same. (let shortest = certified.shortest others other (same ∙ as_many) in
          omega (arith, shortest, as_many, weighs, balance));
    }
