-- The plan of a claim whose records name each live slot once, and fit, is certified where its prices reach all weights and
-- come to those of the links.
use Rattle.std.proofs.Common.{◌≡◌, ℕ, ◌+◌, ◌<◌, ◌≤◌, nat_eq, nat_lt, Bool, true, false, List, [], length, map, Option, None, Some}
use Rattle.std.proofs.Common.{if◌then◌else◌, refl, sym, ap, ◌∙◌, ⊎_elim, arith}
use Rattle.std.specs.Prelude.{is_some}
use Rattle.std.specs.Bool.{then_some}
use Rattle.std.specs.List.{range_with_len, sum}
use Rattle.std.specs.Option.{option_eq, option_and_then, option_map}
use Rattle.std.proofs.lemmas.Bool.{cases_lt, false≢true, ltb-false}
use Rattle.std.proofs.lemmas.List.FromFn.{length-map-range_with_len}
use Rattle.std.proofs.lemmas.List.Sums.{sum-map}
use Rattle.std.proofs.lemmas.Option.{none-some}
use Rattle.trip_model.specs.Links.{next_of, AreLinks}
use Rattle.trip_model.specs.Network.{Network, Fits, AreDepartures}
use Rattle.trip_model.proofs.Counting.{sum_below, sum_below-same, sum_by-below}
use Rattle.assignment_model.specs.Prices.{weight, weight_to, link_weights, price, IsCertified}
use Rattle.assignment_model.proofs.Duality.{sum_by-range}
use Rattle.price_check.specs.declared.claim.BlockRow.{BlockRow}
use Rattle.price_check.specs.declared.claim.PriceRow.{PriceRow}
use Rattle.price_check.specs.declared.verdict.Reason.{Reason}
use Rattle.price_check.specs.declared.verdict.Reason.TheVariants.{PriceLow}
use Rattle.price_check.specs.Claim.{ClaimedView, block_slots, price_slots, block_row, price_row, slot_before}
use Rattle.price_check.specs.Certificate.{slots_named, NameOnce, next_in, row_of, plan_of}
use Rattle.price_check.specs.Reasons.{fit, lower, low_from, price_sum, weight_sum}
use Rattle.price_check.proofs.CostLemmas.{known-each}
use Rattle.price_check.proofs.ChainLemmas.{Chained, chained-from, before_at-none}
use Rattle.price_check.proofs.NamedLemmas.{named-once, dead-stands, stands-once}
use Rattle.price_check.proofs.PlanLemmas.{total, sum-picked, prices-total, weight_after, weight_sum-is, weight-picked, next-once}
use Rattle.price_check.proofs.PlanLemmas.{next-fits, row-there, row-none, at-plan, past-plan, next-plan}

if-out : {X Y : Type 0} (g : X → Y) (b : Bool) (x y : X) → g (if b then x else y) ≡ (if b then g x else g y)
if-out g true x y = refl
if-out g false x y = refl

-- the prices of one side of a plan are those of the records
prices-side : (live : ℕ → Bool) (n : ℕ) (rows : List PriceRow) (g : PriceRow → ℕ) → g (row_of [] 0) ≡ 0 → ((s : ℕ) → live s ≡ true → s < n)
    → NameOnce live (price_slots rows)
    → sum (map (λ s. g (row_of rows s)) (range_with_len 0 n)) ≡ total (λ r _. g r) rows
prices-side live n rows g none within names =
    let f = λ (s : ℕ). g (row_of rows s) in
    sum-map f (range_with_len 0 n) ∙ sum_by-range f n
    ∙ sym (sum_by-below live f n (slots_named (price_slots rows)) within
    (λ s dead. ap g (row-none rows s (dead-stands live (price_slots rows) names s dead)) ∙ none) names.once)
    ∙ sum-picked (λ (r : PriceRow). r.slot) (λ r _. g r) (λ rows s. g (row_of rows s))
    (λ r rows s. if-out g (option_eq nat_eq r.slot (Some s)) r (row_of rows s)) rows
    (known-each (λ (r : PriceRow). r.slot) rows names.known) (named-once live (price_slots rows) names)

pub plan-prices : (live : ℕ → Bool) (n : ℕ) (claimed : ClaimedView) → ((s : ℕ) → live s ≡ true → s < n)
    → NameOnce live (price_slots claimed.prices)
    → sum (plan_of n claimed).leave + sum (plan_of n claimed).enter ≡ price_sum claimed.prices
plan-prices live n claimed within names =
    (λ i. prices-side live n claimed.prices (λ r. r.leave) refl within names i + prices-side live n claimed.prices (λ r. r.enter) refl
    within names i)
    ∙ prices-total claimed.prices

-- a slot whose trip does not run has no next trip
dead-next : (network : Network) (departs : ℕ → ℕ) (rows : List BlockRow) → AreDepartures network departs → Chained network None rows
    → (s : ℕ) → network.live s ≡ false → next_in rows s ≡ None
dead-next network departs rows clock chained s dead = by (next_in rows s) refl
  where
    by : (next : Option ℕ) → next_in rows s ≡ next → next ≡ None
    by None e = refl
    by (Some j) e = absurd (false≢true (sym dead ∙ (clock.runs s j (next-fits network None rows s j chained e)).0))

pub plan-weights : (network : Network) (departs : ℕ → ℕ) (n : ℕ) (claimed : ClaimedView) → AreDepartures network departs
    → ((s : ℕ) → network.live s ≡ true → s < n)
    → NameOnce network.live (block_slots claimed.blocks) → Chained network None claimed.blocks
    → link_weights network (plan_of n claimed).next ≡ weight_sum network claimed.blocks
plan-weights network departs n claimed clock within names chained =
    let rows = claimed.blocks in
    let next = (plan_of n claimed).next in
    let planned = λ (i : ℕ). weight_to network i (next_of next i) in
    let worth = λ (i : ℕ). weight_to network i (next_in rows i) in
    sum_by-range planned (length next)
    ∙ ap (sum_below planned) (length-map-range_with_len (next_in rows) 0 n)
    ∙ sum_below-same planned worth n (λ i lt. ap (weight_to network i) (at-plan (next_in rows) n i None lt))
    ∙ sym (sum_by-below network.live worth n (slots_named (block_slots rows)) within
    (λ s dead. ap (weight_to network s) (dead-next network departs rows clock chained s dead)) names.once)
    ∙ sum-picked (λ (r : BlockRow). r.slot) (weight_after network) (λ rows s. weight_to network s (next_in rows s)) (weight-picked network)
    rows
    (known-each (λ (r : BlockRow). r.slot) rows names.known) (named-once network.live (block_slots rows) names)
    ∙ sym (weight_sum-is network rows)

-- the links of the plan
pub plan-links : (network : Network) (n : ℕ) (claimed : ClaimedView) → NameOnce network.live (block_slots claimed.blocks)
    → Chained network None claimed.blocks → AreLinks network (plan_of n claimed).next
plan-links network n claimed names chained = record {
  fits = λ i j e. next-fits network None claimed.blocks i j chained (next-plan (next_in claimed.blocks) n i j e);
  once = λ h i j a b. next-once claimed.blocks h i j (named-once network.live (block_slots claimed.blocks) names j)
      (next-plan (next_in claimed.blocks) n h j a) (next-plan (next_in claimed.blocks) n i j b);
}

-- the price of a slot in the plan
pub plan-price : (n : ℕ) (rows : List PriceRow) (g : PriceRow → ℕ) (s : ℕ) → s < n
    → price (map (λ s. g (row_of rows s)) (range_with_len 0 n)) s ≡ g (row_of rows s)
plan-price n rows g s lt = at-plan (λ s. g (row_of rows s)) n s 0 lt

dead-price : (live : ℕ → Bool) (n : ℕ) (rows : List PriceRow) (g : PriceRow → ℕ) → g (row_of [] 0) ≡ 0 → NameOnce live (price_slots rows)
    → (s : ℕ) → live s ≡ false
    → price (map (λ s. g (row_of rows s)) (range_with_len 0 n)) s ≡ 0
dead-price live n rows g none names s dead = ⊎_elim
    (λ (lt : s < n). plan-price n rows g s lt ∙ ap g (row-none rows s (dead-stands live (price_slots rows) names s dead)) ∙ none)
    (λ (le : n ≤ s). past-plan (λ s. g (row_of rows s)) n s 0 le)
    (cases_lt s n)

-- a reason that there is none of does not hold
pub then-none : (b : Bool) (reason : Reason) → then_some b reason ≡ None → b ≡ false
then-none true reason e = absurd (none-some reason (sym e))
then-none false reason e = refl

-- prices that are not too low reach the weight
reaches : (network : Network) (i j k leave : ℕ) (row : PriceRow) → row.slot ≡ Some j → weight network i j ≡ Some k
    → low_from network i leave row ≡ None → k ≤ leave + row.enter
reaches network i j k leave row is weighs none =
    ltb-false (leave + row.enter) k
    (then-none (nat_lt (leave + row.enter) k) (PriceLow i j)
    (ap (lower i j (leave + row.enter)) (sym weighs)
    ∙ ap (option_and_then (λ j. lower i j (leave + row.enter) (weight network i j))) (sym is) ∙ none))

weight-fits : (network : Network) (i j k : ℕ) → weight network i j ≡ Some k → Fits network i j
weight-fits network i j k e = by (network.empty i j) refl
  where
    by : (found : Option ℕ) → network.empty i j ≡ found → is_some found ≡ true
    by None none = absurd (none-some k (sym (ap (option_map _) none) ∙ e))
    by (Some m) some = refl

pub certified-from : (network : Network) (departs : ℕ → ℕ) (n : ℕ) (claimed : ClaimedView) → AreDepartures network departs
    → ((s : ℕ) → network.live s ≡ true → s < n)
    → NameOnce network.live (block_slots claimed.blocks) → NameOnce network.live (price_slots claimed.prices)
    → ((at : ℕ) → at < length claimed.blocks → fit network (slot_before claimed.blocks at) (block_row claimed.blocks at).slot ≡ true)
    → ((a b i : ℕ) → a < length claimed.prices → b < length claimed.prices → (price_row claimed.prices a).slot ≡ Some i
    → low_from network i (price_row claimed.prices a).leave (price_row claimed.prices b) ≡ None)
    → price_sum claimed.prices ≡ weight_sum network claimed.blocks → IsCertified network (plan_of n claimed)
certified-from network departs n claimed clock within blocks prices fits reached sums =
    let rows = claimed.prices in
    let chained = chained-from network None claimed.blocks
    (λ at lt. ap (λ b. fit network b (block_row claimed.blocks at).slot) (before_at-none claimed.blocks at) ∙ fits at lt) in
    let size = length-map-range_with_len (next_in claimed.blocks) 0 n in
    record {
      leaves = length-map-range_with_len (λ s. (row_of rows s).leave) 0 n ∙ sym size;
      enters = length-map-range_with_len (λ s. (row_of rows s).enter) 0 n ∙ sym size;
      links = plan-links network n claimed blocks chained;
      dead = λ s dead. (
        dead-link s dead chained,
        dead-price network.live n rows (λ r. r.leave) refl prices s dead,
        dead-price network.live n rows (λ r. r.enter) refl prices s dead,
      );
      covers = λ i j k weighs. (
          let lives = clock.runs i j (weight-fits network i j k weighs) in
          let a = row-there rows i (stands-once network.live (price_slots rows) prices i lives.0) in
          let b = row-there rows j (stands-once network.live (price_slots rows) prices j lives.1) in
          let le = reaches network i j k (price_row rows a.0).leave (price_row rows b.0) b.2 weighs (reached a.0 b.0 i a.1 b.1 a.2) in
          let leave = plan-price n rows (λ r. r.leave) i (within i lives.0) ∙ ap (λ (r : PriceRow). r.leave) a.3 in
          let enter = plan-price n rows (λ r. r.enter) j (within j lives.1) ∙ ap (λ (r : PriceRow). r.enter) b.3 in
          omega (arith, le, leave, enter));
      sums = plan-prices network.live n claimed within prices ∙ sums
          ∙ sym (plan-weights network departs n claimed clock within blocks chained);
    }
  where
    dead-link : (s : ℕ) → network.live s ≡ false → Chained network None claimed.blocks → next_of (plan_of n claimed).next s ≡ None
    dead-link s dead chained = ⊎_elim
        (λ (lt : s < n). at-plan (next_in claimed.blocks) n s None lt ∙ dead-next network departs claimed.blocks clock chained s dead)
        (λ (le : n ≤ s). past-plan (next_in claimed.blocks) n s None le)
        (cases_lt s n)
