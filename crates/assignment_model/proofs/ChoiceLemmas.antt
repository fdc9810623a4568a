-- Links over tight pairs that are worth most are those of a least plan, which is liked no less than any other.
use Rattle.std.proofs.Common.{◌≡◌, ℕ, zero, suc, ◌+◌, ◌*◌, ◌<◌, ◌≤◌, ◌==◌, ◌||◌, true, false, cond, List, [], ◌∷◌, ◌++◌, length, map, filter, ◌-◌, if◌then◌else◌, not, subst}
use Rattle.std.proofs.Common.{sum_by, Option, None, Some, refl, sym, ap, ◌∙◌, ⊎_elim, arith}
use Rattle.std.specs.List.{range_with_len, list_any, All, AllByRecursion}
use Rattle.std.proofs.lemmas.Bool.{cases_Bool, eq-eqb, eqb-true, false≢true}
use Rattle.std.specs.Option.{is_some, option_map}
use Rattle.std.proofs.lemmas.Option.{none-some, same_Some}
use Rattle.std.proofs.lemmas.List.{length-append}
use Rattle.std.proofs.lemmas.List.Elements.{All-head, All-tail, filter_passes}
use Rattle.std.proofs.lemmas.List.Sums.{sum_by-cons, sum_by-append}
use Rattle.trip_model.specs.Blocking.{StandsOnce, slots_in}
use Rattle.trip_model.specs.Links.{next_of, leads_to, is_first, along, block_from, blocks_along, AreLinks}
use Rattle.trip_model.specs.Network.{Network, Fits, AreDepartures}
use Rattle.trip_model.proofs.Chains.{GoesOn, AreChains, chains-of, block_from-is, IsBlocking-blocks_along}
use Rattle.trip_model.proofs.Counting.{sum_by-standing, StandsOnce-filter_range}
use Rattle.assignment_model.specs.declared.limits.TheConstants.{MOST_LIKING, PRICED, VEHICLE_WEIGHT}
use Rattle.assignment_model.specs.Choice.{liked_after, block_liking, liking, IsChosen, priced, worth_of, worths, AreWorthMost}
use Rattle.assignment_model.specs.Prices.{weight, Plan, price, IsCertified, IsDay}
use Rattle.assignment_model.specs.Tight.{IsTight, AreTightAfter, IsTightBlock}
use Rattle.assignment_model.proofs.Duality.{prices-all, links-weight, standing-length, IsLeast-certified}
use Rattle.assignment_model.proofs.TightLemmas.{least-tight, tight-least, tight-blocks}

-- a pair that is worth something is tight, and what it is worth
record IsWorth (network : Network) (plan : Plan) (like : ℕ → ℕ → ℕ) (i j k : ℕ) : Type 0 where
  tight : IsTight network plan i j
  worth : k ≡ like i j + priced (price plan.leave i) + priced (price plan.enter j)

worth-tight : (network : Network) (plan : Plan) (like : ℕ → ℕ → ℕ) (i j k : ℕ) → worths network plan like i j ≡ Some k
    → IsWorth network plan like i j k
worth-tight network plan like i j k e = by (weight network i j) refl e
  where
    all : ℕ
    all = price plan.leave i + price plan.enter j

    by : (found : Option ℕ) → weight network i j ≡ found → worth_of plan (like i j) i j found ≡ Some k → IsWorth network plan like i j k
    by None here is = absurd (none-some k is)
    by (Some w) here is = ⊎_elim
        (λ (yes : (w == all) ≡ true). record {
          tight = here ∙ ap Some (eqb-true w all yes);
          worth = sym (same_Some _ k (ap (λ b. if b then Some (like i j + priced (price plan.leave i) + priced (price plan.enter j)) else None)
              (sym yes) ∙ is));
        })
        (λ (no : (w == all) ≡ false). absurd (none-some k (ap
        (λ b. if b then Some (like i j + priced (price plan.leave i) + priced (price plan.enter j)) else None) (sym no) ∙ is)))
        (cases_Bool (w == all))

-- and a tight pair is worth something
tight-worth : (network : Network) (plan : Plan) (like : ℕ → ℕ → ℕ) (i j : ℕ) → IsTight network plan i j
    → worths network plan like i j ≡ Some (like i j + priced (price plan.leave i) + priced (price plan.enter j))
tight-worth network plan like i j tight =
    let all = price plan.leave i + price plan.enter j in
    ap (worth_of plan (like i j) i j) tight
    ∙ ap (λ b. if b then Some (like i j + priced (price plan.leave i) + priced (price plan.enter j)) else None) (eq-eqb all all refl)

-- what both sides of a slot count for, and both prices by which worths are proved
counts : Plan → ℕ → ℕ
counts plan s = priced (price plan.leave s) + priced (price plan.enter s)

bids : List ℕ → List ℕ → ℕ → ℕ
bids u v s = price u s + price v s

priced-zero : (p : ℕ) → p ≡ 0 → priced p ≡ 0
priced-zero p e = ap priced e

-- a tight chain is worth no more than it is bid
tight-bid : (network : Network) (plan : Plan) (like : ℕ → ℕ → ℕ) (next : List (Option ℕ)) (u v : List ℕ)
    → AreWorthMost (worths network plan like) next u v → (i : ℕ) (js : List ℕ) → AreTightAfter network plan i js
    → liked_after like i js + priced (price plan.leave i) + sum_by (counts plan) js ≤ price u i + sum_by (bids u v) js
unfolding counts bids
tight-bid network plan like next u v most i [] tight = omega (arith, priced-zero (price plan.leave i) tight)
tight-bid network plan like next u v most i (j ∷ js) tight =
    let covers = most.covers i j _ (tight-worth network plan like i j tight.0) in
    let rest = tight-bid network plan like next u v most j js tight.1 in
    omega (arith, covers, rest, sum_by-cons (counts plan) j js, sum_by-cons (bids u v) j js)

tight-bids : (network : Network) (plan : Plan) (like : ℕ → ℕ → ℕ) (next : List (Option ℕ)) (u v : List ℕ)
    → AreWorthMost (worths network plan like) next u v → (blocks : List (List ℕ)) → AllByRecursion (IsTightBlock network plan) blocks
    → liking like blocks + sum_by (counts plan) (slots_in blocks) ≤ sum_by (bids u v) (slots_in blocks)
unfolding counts bids
tight-bids network plan like next u v most [] tight = omega arith
tight-bids network plan like next u v most ([] ∷ blocks) tight = absurd tight.0
tight-bids network plan like next u v most ((i ∷ js) ∷ blocks) tight =
    omega (
      arith,
      sum_by-cons (block_liking like) (i ∷ js) blocks,
      sum_by-append (counts plan) (i ∷ js) (slots_in blocks),
      sum_by-append (bids u v) (i ∷ js) (slots_in blocks),
      sum_by-cons (counts plan) i js,
      sum_by-cons (bids u v) i js,
      priced-zero (price plan.enter i) tight.0.0,
      tight-bid network plan like next u v most i js tight.0.1,
      tight-bids network plan like next u v most blocks tight.1,
    )

-- what the ends of blocks count for: leaving the last trip, and entering the first
end_after : Plan → ℕ → List ℕ → ℕ
end_after plan i [] = priced (price plan.leave i)
end_after plan i (j ∷ js) = end_after plan j js

ends : Plan → List ℕ → ℕ
ends plan [] = 0
ends plan (i ∷ js) = priced (price plan.enter i) + end_after plan i js

-- a chain of links is worth what it is bid, but for its ends
chain-bid : (network : Network) (plan : Plan) (like : ℕ → ℕ → ℕ) (next : List (Option ℕ)) (u v : List ℕ)
    → AreWorthMost (worths network plan like) next u v → (i : ℕ) (js : List ℕ) → GoesOn next i js
    → price u i + sum_by (bids u v) js + end_after plan i js ≡ liked_after like i js + priced (price plan.leave i) + sum_by (counts plan) js
unfolding counts bids end_after
chain-bid network plan like next u v most i [] goes = omega (arith, most.leave_zero i goes)
chain-bid network plan like next u v most i (j ∷ js) goes =
    let here = (worth-tight network plan like i j _ (most.tight i j goes.0)).worth in
    let rest = chain-bid network plan like next u v most j js goes.1 in
    omega (arith, here, rest, sum_by-cons (counts plan) j js, sum_by-cons (bids u v) j js)

-- a slot to which a link leads is no first one
leads : (links : List (Option ℕ)) (h i : ℕ) → next_of links h ≡ Some i → list_any (leads_to i) links ≡ true
leads [] h i e = absurd (none-some i e)
leads (None ∷ links) zero i e = absurd (none-some i e)
leads (None ∷ links) (suc h) i e = leads links h i e
leads (Some j ∷ links) zero i e = ap (λ b. b || list_any (leads_to i) links) (eq-eqb j i (same_Some j i e))
leads (Some j ∷ links) (suc h) i e = ⊎_elim
    (λ (yes : (j == i) ≡ true). ap (λ b. b || list_any (leads_to i) links) yes)
    (λ (no : (j == i) ≡ false). ap (λ b. b || list_any (leads_to i) links) no ∙ leads links h i e)
    (cases_Bool (j == i))

first-none : (links : List (Option ℕ)) (i : ℕ) → is_first links i ≡ true → (h : ℕ) → next_of links h ≡ Some i → ⊥
first-none links i first h e = false≢true (ap not (sym (leads links h i e)) ∙ first)

-- blocks along links are worth what they are bid, but for their ends
blocks-bid : (network : Network) (plan : Plan) (like : ℕ → ℕ → ℕ) (next : List (Option ℕ)) (u v : List ℕ)
    → AreWorthMost (worths network plan like) next u v → AreChains next → (firsts : List ℕ) → All (λ i. is_first next i ≡ true) firsts
    → sum_by (bids u v) (slots_in (map (block_from next) firsts)) + sum_by (ends plan) (map (block_from next) firsts)
    ≡ liking like (map (block_from next) firsts) + sum_by (counts plan) (slots_in (map (block_from next) firsts))
unfolding counts bids ends
blocks-bid network plan like next u v most chains [] first = refl
blocks-bid network plan like next u v most chains (i ∷ firsts) first =
    let js = along next 8191 (next_of next i) in
    let blocks = map (block_from next) firsts in
    let rest = slots_in blocks in
    let is = block_from-is next i in
    let entered = most.enter_zero i (first-none next i (All-head (λ i. is_first next i ≡ true) i firsts first)) in
    let bid = ap (λ block. sum_by (bids u v) (block ++ rest)) is ∙ sum_by-append (bids u v) (i ∷ js) rest in
    let counted = ap (λ block. sum_by (counts plan) (block ++ rest)) is ∙ sum_by-append (counts plan) (i ∷ js) rest in
    let ended = ap (λ block. sum_by (ends plan) (block ∷ blocks)) is ∙ sum_by-cons (ends plan) (i ∷ js) blocks in
    let liked = ap (λ block. liking like (block ∷ blocks)) is ∙ sum_by-cons (block_liking like) (i ∷ js) blocks in
    omega (
      arith,
      entered,
      bid,
      counted,
      ended,
      liked,
      sum_by-cons (bids u v) i js,
      sum_by-cons (counts plan) i js,
      chain-bid network plan like next u v most i js (chains.goes_on i),
      blocks-bid network plan like next u v most chains firsts (All-tail (λ i. is_first next i ≡ true) i firsts first),
    )

-- what is liked of blocks is less than what one priced side counts for
liked-most : (like : ℕ → ℕ → ℕ) → ((i j : ℕ) → like i j ≤ MOST_LIKING) → (i : ℕ) (js : List ℕ)
    → liked_after like i js ≤ MOST_LIKING * length js
liked-most like bound i [] = omega arith
liked-most like bound i (j ∷ js) = omega (arith, bound i j, liked-most like bound j js)

liking-most : (like : ℕ → ℕ → ℕ) → ((i j : ℕ) → like i j ≤ MOST_LIKING) → (blocks : List (List ℕ))
    → liking like blocks ≤ MOST_LIKING * length (slots_in blocks)
liking-most like bound [] = omega arith
liking-most like bound ([] ∷ blocks) =
    omega (arith, sum_by-cons (block_liking like) [] blocks, liking-most like bound blocks)
liking-most like bound ((i ∷ js) ∷ blocks) =
    omega (
      arith,
      sum_by-cons (block_liking like) (i ∷ js) blocks,
      length-append (i ∷ js) (slots_in blocks),
      liked-most like bound i js,
      liking-most like bound blocks,
    )

-- what counts for less than a priced side has no price
unpriced : (p : ℕ) → priced p < PRICED → p ≡ 0
unpriced p h = ⊎_elim
    (λ (yes : (p == 0) ≡ true). eqb-true p 0 yes)
    (λ (no : (p == 0) ≡ false). (let e : ◌≡◌ {A = ℕ} (priced p) PRICED = ap (λ b. cond b 0 PRICED) no in absurd (omega (arith, e, h))))
    (cases_Bool (p == 0))

-- a chain of links whose ends have no price is tight, and so are blocks along links
chain-tight : (network : Network) (plan : Plan) (like : ℕ → ℕ → ℕ) (next : List (Option ℕ)) (u v : List ℕ)
    → AreWorthMost (worths network plan like) next u v → (i : ℕ) (js : List ℕ) → GoesOn next i js → end_after plan i js < PRICED
    → AreTightAfter network plan i js
unfolding end_after
chain-tight network plan like next u v most i [] goes h = unpriced (price plan.leave i) h
chain-tight network plan like next u v most i (j ∷ js) goes h =
    ((worth-tight network plan like i j _ (most.tight i j goes.0)).tight, chain-tight network plan like next u v most j js goes.1 h)

ends-tight : (network : Network) (plan : Plan) (like : ℕ → ℕ → ℕ) (next : List (Option ℕ)) (u v : List ℕ)
    → AreWorthMost (worths network plan like) next u v → AreChains next → (firsts : List ℕ)
    → sum_by (ends plan) (map (block_from next) firsts) < PRICED
    → AllByRecursion (IsTightBlock network plan) (map (block_from next) firsts)
unfolding ends
ends-tight network plan like next u v most chains [] h = tt
ends-tight network plan like next u v most chains (i ∷ firsts) h =
    let js = along next 8191 (next_of next i) in
    let blocks = map (block_from next) firsts in
    let is = block_from-is next i in
    let ended = ap (λ block. sum_by (ends plan) (block ∷ blocks)) is ∙ sum_by-cons (ends plan) (i ∷ js) blocks in
    let first : priced (price plan.enter i) < PRICED = omega (arith, h, ended) in
    let last : end_after plan i js < PRICED = omega (arith, h, ended) in (
      subst (IsTightBlock network plan) (sym is)
          (unpriced (price plan.enter i) first, chain-tight network plan like next u v most i js (chains.goes_on i) last),
      ends-tight network plan like next u v most chains firsts (omega (arith, h, ended)),
    )

-- links that are worth something are of pairs that fit
worth-links : (network : Network) (plan : Plan) (like : ℕ → ℕ → ℕ) (next : List (Option ℕ)) (u v : List ℕ)
    → AreWorthMost (worths network plan like) next u v → AreLinks network next
worth-links network plan like next u v most = record {
  fits = λ i j e. by i j (network.empty i j) refl (worth-tight network plan like i j _ (most.tight i j e)).tight;
  once = most.once;
}
  where
    by : (i j : ℕ) (found : Option ℕ) → network.empty i j ≡ found → IsTight network plan i j → Fits network i j
    by i j None here tight = absurd (none-some _ (sym (ap (option_map (λ minutes. VEHICLE_WEIGHT + network.home i + network.out j - minutes)) here) ∙ tight))
    by i j (Some m) here tight = ap is_some here

-- the links that are worth most, beside the plan whose prices tell what is tight
pub record Choice (network : Network) (slots : ℕ) (plan : Plan) (departs : ℕ → ℕ) (like : ℕ → ℕ → ℕ) (next : List (Option ℕ))
    (u v : List ℕ) : Type 0 where
  pub day : IsDay network slots
  pub plans : length plan.next ≡ slots
  pub certified : IsCertified network plan
  pub clock : AreDepartures network departs
  pub bound : (i j : ℕ) → like i j ≤ MOST_LIKING
  pub slots_next : length next ≡ slots
  pub most : AreWorthMost (worths network plan like) next u v

-- their blocks are least
tight-own : (network : Network) (slots : ℕ) (plan : Plan) (departs : ℕ → ℕ) (like : ℕ → ℕ → ℕ) (next : List (Option ℕ)) (u v : List ℕ)
    → Choice network slots plan departs like next u v → (order : List ℕ) → StandsOnce network.live order
    → AllByRecursion (IsTightBlock network plan) (blocks_along next order)
tight-own network slots plan departs like next u v c order stands =
    let links = worth-links network plan like next u v c.most in
    let chains = chains-of network departs next c.clock links in
    let own = blocks_along next order in
    let was = blocks_along plan.next order in
    let least = IsLeast-certified network slots plan departs c.day c.plans c.certified c.clock order stands in
    let blocking = IsBlocking-blocks_along network departs next order c.clock links stands in
    let bid = blocks-bid network plan like next u v c.most chains (filter (is_first next) order) (filter_passes (is_first next) order) in
    let bids_was = tight-bids network plan like next u v c.most was
    (least-tight network slots plan departs c.day c.plans c.certified c.clock was least) in
    let same_bids = sum_by-standing network.live (bids u v) (slots_in own) (slots_in was) blocking.stands least.fewest.blocking.stands in
    let same_counts = sum_by-standing network.live (counts plan) (slots_in own) (slots_in was) blocking.stands least.fewest.blocking.stands in
    let liked = liking-most like c.bound own in
    let few = standing-length network.live slots (slots_in own) c.day.within blocking.stands in
    let limit = c.day.few in
    ends-tight network plan like next u v c.most chains (filter (is_first next) order) (omega arith)

-- and no least blocking is liked more
pub chosen : (network : Network) (slots : ℕ) (plan : Plan) (departs : ℕ → ℕ) (like : ℕ → ℕ → ℕ) (next : List (Option ℕ)) (u v : List ℕ)
    → Choice network slots plan departs like next u v → (order : List ℕ) → StandsOnce network.live order
    → IsChosen network like (blocks_along next order)
chosen network slots plan departs like next u v c order stands =
    let links = worth-links network plan like next u v c.most in
    let chains = chains-of network departs next c.clock links in
    let own = blocks_along next order in
    let blocking = IsBlocking-blocks_along network departs next order c.clock links stands in
    let bid = blocks-bid network plan like next u v c.most chains (filter (is_first next) order) (filter_passes (is_first next) order) in
    record {
      least = tight-least network slots plan departs c.day c.plans c.certified c.clock own blocking
          (tight-own network slots plan departs like next u v c order stands);
      liked = λ others least. (
          let bids_others = tight-bids network plan like next u v c.most others
          (least-tight network slots plan departs c.day c.plans c.certified c.clock others least) in
          let stand = least.fewest.blocking.stands in
          let same_bids = sum_by-standing network.live (bids u v) (slots_in own) (slots_in others) blocking.stands stand in
          let same_counts = sum_by-standing network.live (counts plan) (slots_in own) (slots_in others) blocking.stands stand in
          omega (arith, bid, bids_others, same_bids, same_counts));
    }

-- the plan that has these links and the prices as they stand is certified
pub chosen-certified : (network : Network) (slots : ℕ) (plan : Plan) (departs : ℕ → ℕ) (like : ℕ → ℕ → ℕ) (next : List (Option ℕ)) (u v : List ℕ)
    → Choice network slots plan departs like next u v → IsCertified network (record plan { next = next })
chosen-certified network slots plan departs like next u v c =
    let links = worth-links network plan like next u v c.most in
    let order = filter network.live (range_with_len 0 slots) in
    let stands : StandsOnce network.live order = StandsOnce-filter_range network.live slots c.day.within in
    let own = blocks_along next order in
    let blocking = IsBlocking-blocks_along network departs next order c.clock links stands in
    let within : (s : ℕ) → network.live s ≡ true → s < slots = c.day.within in
    let none : (s : ℕ) → network.live s ≡ false → next_of next s ≡ None = λ s dead. by links s dead (next_of next s) refl in
    let weighs = links-weight network next departs links c.clock order stands (λ s live. omega (arith, within s live, c.slots_next)) none in
    let tight = tight-blocks network plan own (tight-own network slots plan departs like next u v c order stands) in
    let all = prices-all network plan c.certified (slots_in own) blocking.stands (λ s live. omega (arith, within s live, c.plans)) in
    record {
      leaves = c.certified.leaves ∙ c.plans ∙ sym c.slots_next;
      enters = c.certified.enters ∙ c.plans ∙ sym c.slots_next;
      links = links;
      dead = λ s dead. (none s dead, (c.certified.dead s dead).1, (c.certified.dead s dead).2);
      covers = c.certified.covers;
      sums = c.certified.sums ∙ sym all ∙ sym tight ∙ weighs;
    }
  where
    by : AreLinks network next → (s : ℕ) → network.live s ≡ false → (found : Option ℕ) → next_of next s ≡ found → next_of next s ≡ None
    by links s dead None e = e
    by links s dead (Some j) e = absurd (false≢true (sym dead ∙ (c.clock.runs s j (links.fits s j e)).0))
