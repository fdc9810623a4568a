-- Of the least plans of pairs the chosen one is certified, and its blocks are liked best.
use Rattle.std.proofs.Common.{◌≡◌, ℕ, ◌+◌, ◌<◌, ◌≤◌, ◌==◌, Bool, true, false, cond, List, length, Option, None, Some, if◌then◌else◌}
use Rattle.std.proofs.Common.{refl, subst, ⊎_elim, arith}
use Rattle.std.proofs.lemmas.Bool.{cases_Bool}
use Rattle.std.proofs.lemmas.Option.{none-some, same_Some}
use Rattle.assignment_model.specs.Choice.{IsChosen, priced, worth_of, worths}
use Rattle.assignment_model.specs.Prices.{Plan, IsCertified, price, weight}
use Rattle.assignment_model.specs.declared.limits.TheConstants.{MOST_LIKING, PRICED}
use Rattle.assignment_model.proofs.ChoiceLemmas.{Choice, chosen, chosen-certified}
use Rattle.assignment_model.proofs.Duality.{IsLeast-certified}
use Rattle.pair_graph.specs.Pairs.{PairsView, pairs_network}
use Rattle.pair_search.specs.Arranged.{bare, departing}
use Rattle.pair_search.specs.Assignment.{AreWeights}
use Rattle.pair_search.specs.Determined.{found_each}
use Rattle.pair_search.specs.declared.limits.TheConstants.{GREATEST_PRICE}
use Rattle.plan_choice.specs.Chosen.{chosen_plan, pair_liking, wait_between}
use Rattle.plan_choice.specs.Likings.{LikingsView, likes_nothing}
use Rattle.plan_choice.proofs.ChosenLemmas.{AreWorthMost-matched, IsChosen-unliked, chosen-itself, chosen-most}
use Rattle.plan_choice.proofs.LikingsLemmas.{liking-most, liking-nothing}
use Rattle.trip_model.specs.Blocking.{StandsOnce}
use Rattle.trip_model.specs.Links.{blocks_along}
use Rattle.trip_model.specs.Order.{minute_left}
use Rattle.trip_model.specs.Plain.{move_at}
use Rattle.planned_laws.specs.Laws.{ArePairs, AreLikings, HasSlots}
use Rattle.planned_laws.proofs.EachLemmas.{each-found}
use Rattle.planned_laws.proofs.OrderLemmas.{AreAll-departing}
use Rattle.planned_laws.proofs.PairLemmas.{day-pairs, clock-pairs, weights-pairs}

priced-most : (p : ℕ) → priced p ≤ PRICED
priced-most p = by (p == 0)
  where
    by : (b : Bool) → cond b 0 PRICED ≤ PRICED
    by true = omega arith
    by false = omega arith

module _ (pairs : PairsView) (are : ArePairs pairs) (likings : LikingsView) (liked : AreLikings likings) (plan : Plan) where
  liking-low : (i j : ℕ) → pair_liking pairs likings i j ≤ MOST_LIKING
  liking-low i j = omega (arith, liking-most likings i j (wait_between pairs i j), liked)

  -- a pair that is worth something fits, and is not worth too much
  worth-low : (i j k : ℕ) (v : Option ℕ) → weight (pairs_network pairs) i j ≡ v
      → worth_of plan (pair_liking pairs likings i j) i j v ≡ Some k
      → ((i < length pairs.moves) × (j < length pairs.moves)) × (k ≤ GREATEST_PRICE)
  worth-low i j k None weighs e = absurd (none-some k e)
  worth-low i j k (Some v) weighs e =
      let inside = (weights-pairs pairs are).within i j v weighs in
      (inside, by (v == price plan.leave i + price plan.enter j) e)
    where
      by : (tight : Bool) → (if tight then Some (pair_liking pairs likings i j + priced (price plan.leave i) + priced (price plan.enter j))
          else None) ≡ Some k → k ≤ GREATEST_PRICE
      by true is =
          let same = same_Some (pair_liking pairs likings i j + priced (price plan.leave i) + priced (price plan.enter j)) k is in
          omega (arith, same, liking-low i j, priced-most (price plan.leave i), priced-most (price plan.enter j))
      by false is = absurd (none-some k is)

  AreWeights-worth : AreWeights (worths (pairs_network pairs) plan (pair_liking pairs likings)) (length pairs.moves)
  AreWeights-worth = record {
    within = λ i j k e. (worth-low i j k (weight (pairs_network pairs) i j) refl e).0;
    most = λ i j k e. (worth-low i j k (weight (pairs_network pairs) i j) refl e).1;
  }

-- The chosen plan has as many slots as pairs have. Its prices certify it, and no least blocking is liked more than its blocks, in
-- each order of the trips that run.
pub record IsChosenPlan (pairs : PairsView) (likings : LikingsView) (plan : Plan) : Type 0 where
  pub slots : HasSlots (length pairs.moves) plan
  pub certified : IsCertified (pairs_network pairs) plan
  pub chosen : (order : List ℕ) → StandsOnce (pairs_network pairs).live order
      → IsChosen (pairs_network pairs) (pair_liking pairs likings) (blocks_along plan.next order)

pub chosen-certified-plan : (pairs : PairsView) → ArePairs pairs → (likings : LikingsView) → AreLikings likings → (plan : Plan)
    → HasSlots (length pairs.moves) plan → IsCertified (pairs_network pairs) plan
    → IsChosenPlan pairs likings (chosen_plan pairs likings plan)
chosen-certified-plan pairs are likings liked plan slots certified = ⊎_elim
    (λ (nothing : likes_nothing likings ≡ true).
    subst (IsChosenPlan pairs likings) (chosen-itself pairs likings plan plan.next nothing refl)
    (record {
      slots = slots;
      certified = certified;
      chosen = λ order stands.
          IsChosen-unliked (pairs_network pairs) (pair_liking pairs likings) (blocks_along plan.next order)
          (λ i j. liking-nothing likings nothing i j (wait_between pairs i j))
          (IsLeast-certified (pairs_network pairs) (length pairs.moves) plan (λ s. minute_left (move_at pairs.moves s))
          (day-pairs pairs are)
          slots.next certified (clock-pairs pairs are) order stands);
    }))
    (λ (something : likes_nothing likings ≡ false).
    let w : ℕ → ℕ → Option ℕ = worths (pairs_network pairs) plan (pair_liking pairs likings) in
    let n : ℕ = length pairs.moves in
    let found : Plan = found_each w (departing pairs) (bare n) in
    let whole = each-found w n (departing pairs) are.few (AreWeights-worth pairs are likings liked plan) (AreAll-departing pairs) in
    let choice : Choice (pairs_network pairs) n plan (λ s. minute_left (move_at pairs.moves s)) (pair_liking pairs likings) found.next
    found.leave found.enter = record {
      day = day-pairs pairs are;
      plans = slots.next;
      certified = certified;
      clock = clock-pairs pairs are;
      bound = liking-low pairs are likings liked plan;
      slots_next = whole.slots.next;
      most = AreWorthMost-matched w found.next found.leave found.enter whole.matched whole.covers;
    } in
    subst (IsChosenPlan pairs likings)
    (chosen-most pairs likings plan found.next w something (λ i j. refl) refl)
    (record {
      slots = record { next = whole.slots.next; leave = slots.leave; enter = slots.enter };
      certified =
          chosen-certified (pairs_network pairs) n plan (λ s. minute_left (move_at pairs.moves s)) (pair_liking pairs likings) found.next
          found.leave found.enter choice;
      chosen =
          chosen (pairs_network pairs) n plan (λ s. minute_left (move_at pairs.moves s)) (pair_liking pairs likings) found.next found.leave
          found.enter choice;
    }))
    (cases_Bool (likes_nothing likings))
