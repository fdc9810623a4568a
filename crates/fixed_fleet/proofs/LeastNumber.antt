-- No blocking without deadheads has fewer blocks than the sum of the maxima.
use Rattle.std.proofs.Common.{◌≡◌, ℕ, zero, suc, ◌+◌, ◌≤◌, ◌==◌, ◌&&◌, nat_le, nat_lt, Bool, true, false, cond, List, [], ◌∷◌, length}
use Rattle.std.proofs.Common.{sum_by, pos, ◌+ℤ◌, Option, None, Some, refl, ◌∙◌, arith}
use Rattle.std.specs.List.{AllByRecursion}
use Rattle.std.proofs.lemmas.Bool.{and_parts, eqb-true, leb-true}
use Rattle.std.proofs.lemmas.Bool.Decides.{nat_tests}
use Rattle.std.proofs.lemmas.Int.{ints}
use Rattle.std.proofs.lemmas.List.Sums.{sum_by-cons, sum_by-append}
use Rattle.trip_model.specs.declared.trip.Move.{Move}
use Rattle.trip_model.specs.Blocking.{Follow, IsBlock, slots_in, IsBlocking}
use Rattle.trip_model.specs.Deficit.{departures, arrivals, deficit}
use Rattle.trip_model.specs.Maximum.{first_maximum, sum_of_maxima}
use Rattle.trip_model.specs.Plain.{move_at, made, meets, plain_network}
use Rattle.trip_model.proofs.Counting.{sum_below, sum_below-le, sum_below-add, sum_below-zero, over, sum_by-made_standing}
use Rattle.trip_model.proofs.MaximumLemmas.{IsFirstMaximum-first_maximum}
use Rattle.trip_model.proofs.PlainLemmas.{fits-plain}

-- 1 for a move that leaves a place by a minute, for one that arrives there by it, for one that begins there, and else 0
abbrev pub leaves_by : ℕ → ℕ → Move → ℕ
leaves_by k t m = cond ((m.from == k) && nat_le m.leaves t) 1 0

abbrev pub arrives_by : ℕ → ℕ → Move → ℕ
arrives_by k t m = cond ((m.to == k) && nat_le m.arrives t) 1 0

abbrev pub begins_at : ℕ → Move → ℕ
begins_at k m = cond (m.from == k) 1 0

-- where two moves meet, the second leaves a place by a minute only if the first has arrived there by it
meets-by : (k t : ℕ) (m n : Option Move) → meets m n ≡ true → over (leaves_by k t) n ≤ over (arrives_by k t) m
meets-by k t None n e = absurd (grind arith)
meets-by k t (Some a) None e = absurd (grind arith)
meets-by k t (Some a) (Some b) e =
    let parts = and_parts (a.to == b.from) (nat_le a.arrives b.leaves) e in
    let place = eqb-true a.to b.from parts.0 in
    let minute = leb-true a.arrives b.leaves parts.1 in
    grind (arith, nat_tests)

begins : (k t : ℕ) (m : Option Move) → over (leaves_by k t) m ≤ over (begins_at k) m
begins k t None = omega arith
begins k t (Some a) = by (a.from == k) (nat_le a.leaves t)
  where
    by : (b c : Bool) → ◌≤◌ (cond (b && c) 1 0) (cond b 1 0)
    by true true = omega arith
    by true false = omega arith
    by false c = omega arith

-- a chain: each departure after the first has an arrival before it
chain-balance : (moves : List (Option Move)) (k t i : ℕ) (js : List ℕ) → Follow (plain_network moves) i js
    → sum_by (λ s. over (leaves_by k t) (move_at moves s)) js ≤ sum_by (λ s. over (arrives_by k t) (move_at moves s)) (i ∷ js)
chain-balance moves k t i [] follows = omega arith
chain-balance moves k t i (j ∷ js) follows =
    let leaves : ℕ → ℕ = λ s. over (leaves_by k t) (move_at moves s) in
    let arrives : ℕ → ℕ = λ s. over (arrives_by k t) (move_at moves s) in
    let here = meets-by k t (move_at moves i) (move_at moves j) (fits-plain moves i j follows.0) in
    omega (arith, sum_by-cons leaves j js, sum_by-cons arrives i (j ∷ js), here, chain-balance moves k t j js follows.1)

-- whether a block begins at a place
abbrev first_at : List (Option Move) → ℕ → List ℕ → ℕ
first_at moves k [] = 0
first_at moves k (i ∷ js) = over (begins_at k) (move_at moves i)

-- blocks: as many departures as arrivals, but for those that are first in their block
blocks-balance : (moves : List (Option Move)) (k t : ℕ) (blocks : List (List ℕ)) → AllByRecursion (IsBlock (plain_network moves)) blocks
    → sum_by (λ s. over (leaves_by k t) (move_at moves s)) (slots_in blocks)
    ≤ sum_by (λ s. over (arrives_by k t) (move_at moves s)) (slots_in blocks) + sum_by (first_at moves k) blocks
blocks-balance moves k t [] each = omega arith
blocks-balance moves k t ([] ∷ blocks) each = absurd each.0
blocks-balance moves k t ((i ∷ js) ∷ blocks) each =
    let leaves : ℕ → ℕ = λ s. over (leaves_by k t) (move_at moves s) in
    let arrives : ℕ → ℕ = λ s. over (arrives_by k t) (move_at moves s) in
    omega (
      arith,
      sum_by-append leaves (i ∷ js) (slots_in blocks),
      sum_by-append arrives (i ∷ js) (slots_in blocks),
      sum_by-cons leaves i js,
      chain-balance moves k t i js each.0,
      begins k t (move_at moves i),
      sum_by-cons (first_at moves k) (i ∷ js) blocks,
      blocks-balance moves k t blocks each.1,
    )

-- a number is one of those below a bound at most once
one_of : (a n : ℕ) → sum_below (λ k. cond (a == k) 1 0) n ≡ cond (nat_lt a n) 1 0
one_of a zero = grind (arith, nat_tests)
one_of a (suc n) = let below = one_of a n in grind (arith, nat_tests)

pub begins-below : (n : ℕ) (m : Option Move) → sum_below (λ k. over (begins_at k) m) n ≤ 1
begins-below n None = omega (arith, sum_below-zero (λ k. 0) n (λ s h. refl))
begins-below n (Some a) = let one = one_of a.from n in grind (arith, nat_tests)

first-below : (moves : List (Option Move)) (n : ℕ) (block : List ℕ) → sum_below (λ k. first_at moves k block) n ≤ 1
first-below moves n [] = omega (arith, sum_below-zero (λ k. 0) n (λ s h. refl))
first-below moves n (i ∷ js) = begins-below n (move_at moves i)

firsts-below : (moves : List (Option Move)) (n : ℕ) (blocks : List (List ℕ))
    → sum_below (λ k. sum_by (first_at moves k) blocks) n ≤ length blocks
firsts-below moves n [] = omega (arith, sum_below-zero (λ k. 0) n (λ s h. refl))
firsts-below moves n (block ∷ blocks) =
    let split = sum_below-le (λ k. sum_by (first_at moves k) (block ∷ blocks))
    (λ k. first_at moves k block + sum_by (first_at moves k) blocks) n
    (λ k h. omega (arith, sum_by-cons (first_at moves k) block blocks)) in
    omega (
      arith,
      split,
      sum_below-add (λ k. first_at moves k block) (λ k. sum_by (first_at moves k) blocks) n,
      first-below moves n block,
      firsts-below moves n blocks,
    )

-- A number for each place that is the maximum of its deficit.
pub record AreMaxima (moves : List Move) (high : ℕ → ℕ) : Type 0 where
  pub is : (k : ℕ) → pos (high k) ≡ (first_maximum (deficit moves k)).0

-- some minute has as many more departures than arrivals so far, and none has more
pub maximum-reached : (moves : List Move) (high : ℕ → ℕ) → AreMaxima moves high → (k : ℕ)
    → (t : ℕ) × (departures moves k t ≡ arrivals moves k t + high k)
maximum-reached moves high are k =
    let best = IsFirstMaximum-first_maximum (deficit moves k) in (
      (first_maximum (deficit moves k)).1,
      (let e = best.reached in let h = are.is k in omega (arith, ints)),
    )

pub maximum-bounds : (moves : List Move) (high : ℕ → ℕ) → AreMaxima moves high → (k t : ℕ) → t ≤ 8191
    → departures moves k t ≤ arrivals moves k t + high k
maximum-bounds moves high are k t h =
    let best = IsFirstMaximum-first_maximum (deficit moves k) in
    let le = best.greatest t h in
    let is = are.is k in
    omega (arith, ints)

pub sum-of-maxima : (moves : List Move) (high : ℕ → ℕ) → AreMaxima moves high → (places : ℕ)
    → pos (sum_below high places) ≡ sum_of_maxima (deficit moves) places
sum-of-maxima moves high are zero = refl
sum-of-maxima moves high are (suc places) =
    sum (sum_below high places) (high places) ∙ (λ i. sum-of-maxima moves high are places i +ℤ are.is places i)
  where
    sum : (a b : ℕ) → pos (a + b) ≡ (pos a +ℤ pos b)
    sum a b = omega (arith, ints)

-- at each place, the maximum is at most the number of the blocks that begin there
maximum-firsts : (moves : List (Option Move)) (high : ℕ → ℕ) (blocks : List (List ℕ)) → AreMaxima (made moves) high
    → IsBlocking (plain_network moves) blocks
    → (k : ℕ) → high k ≤ sum_by (first_at moves k) blocks
maximum-firsts moves high blocks are blocking k =
    let t = maximum-reached (made moves) high are k in
    let leaves = sum_by-made_standing (leaves_by k t.0) moves (slots_in blocks) blocking.stands in
    let arrives = sum_by-made_standing (arrives_by k t.0) moves (slots_in blocks) blocking.stands in
    let balance = blocks-balance moves k t.0 blocks blocking.each in
    omega (arith, t.1, leaves, arrives, balance)

-- no blocking has fewer blocks than the sum of the maxima
pub sum-le-blocks : (places : ℕ) (moves : List (Option Move)) (high : ℕ → ℕ) (blocks : List (List ℕ)) → AreMaxima (made moves) high
    → IsBlocking (plain_network moves) blocks
    → sum_below high places ≤ length blocks
sum-le-blocks places moves high blocks are blocking =
    omega (
      arith,
      sum_below-le high (λ k. sum_by (first_at moves k) blocks) places
          (λ k h. maximum-firsts moves high blocks are blocking k),
      firsts-below moves places blocks,
    )
