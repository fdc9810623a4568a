-- The empty minutes of a blocking: which slots stand in it, and how many minutes it has at the most.
use Rattle.std.proofs.Common.{◌≡◌, ℕ, zero, suc, ◌+◌, ◌*◌, ◌<◌, ◌≤◌, ◌==◌, Bool, true, false, cond, List, [], ◌∷◌, length, drop, get_or}
use Rattle.std.proofs.Common.{filter, Option, None, Some, refl, ap, ◌∙◌, ⊎_elim, arith}
use Rattle.std.specs.List.{range_with_len, AllByRecursion}
use Rattle.std.proofs.Math.Seq.{drop-cons}
use Rattle.std.specs.Option.{IsSome, unwrap_or}
use Rattle.std.proofs.lemmas.Bool.{cases_Bool, eq-eqb, false≢true}
use Rattle.std.proofs.lemmas.List.{length-append}
use Rattle.std.proofs.lemmas.List.Sums.{sum_by-cons, sum_by-append, count_by-le-length, length-filter}
use Rattle.std.proofs.lemmas.List.FromFn.{length-range_with_len}
use Rattle.assignment_model.specs.Prices.{IsDay}
use Rattle.trip_model.specs.Blocking.{times, StandsOnce, Follow, IsBlock, slots_in, IsBlocking, minutes_after, block_minutes, empty_minutes}
use Rattle.trip_model.specs.Network.{Network}
use Rattle.trip_model.proofs.Counting.{sum_by-standing, StandsOnce-filter_range, length-ones, times-cons}

-- a slot of a list stands in it
stands-there : (slots : List ℕ) (k d : ℕ) → k < length slots → 0 < times (get_or slots k d) slots
stands-there [] k d h = absurd (omega arith)
stands-there (s ∷ slots) zero d h =
    let here : ◌≡◌ {A = ℕ} (cond (s == s) 1 0) 1 = ap (λ b. cond b 1 0) (eq-eqb s s refl) in
    omega (arith, times-cons s s slots, here)
stands-there (s ∷ slots) (suc k) d h = omega (arith, times-cons (get_or slots k d) s slots, stands-there slots k d (omega arith))

-- and in the blocks, where the list is one of them
stands-among : (blocks : List (List ℕ)) (n s : ℕ) → times s (get_or blocks n []) ≤ times s (slots_in blocks)
stands-among [] n s = omega arith
stands-among (block ∷ blocks) zero s = omega (arith, sum_by-append (λ x. cond (x == s) 1 0) block (slots_in blocks))
stands-among (block ∷ blocks) (suc n) s =
    omega (arith, sum_by-append (λ x. cond (x == s) 1 0) block (slots_in blocks), stands-among blocks n s)

-- each slot of a block of a blocking is live
pub block-live : (network : Network) (blocks : List (List ℕ)) → IsBlocking network blocks → (n k d : ℕ) → k < length (get_or blocks n [])
    → network.live (get_or (get_or blocks n []) k d) ≡ true
block-live network blocks are n k d h =
    let s = get_or (get_or blocks n []) k d in
    ⊎_elim
    (λ (live : network.live s ≡ true). live)
    (λ (dead : network.live s ≡ false).
    let none : ◌≡◌ {A = ℕ} (cond (network.live s) 1 0) 0 = ap (λ b. cond b 1 0) dead in
    absurd (omega (arith, are.stands.once s, none, stands-among blocks n s, stands-there (get_or blocks n []) k d h)))
    (cases_Bool (network.live s))

-- each block of a blocking is one that a vehicle can make
pub block-made : (network : Network) (blocks : List (List ℕ)) → AllByRecursion (IsBlock network) blocks → (n : ℕ) → n < length blocks
    → IsBlock network (get_or blocks n [])
block-made network [] each n h = absurd (omega arith)
block-made network (block ∷ blocks) each zero h = each.0
block-made network (block ∷ blocks) each (suc n) h = block-made network blocks each.1 n (omega arith)

fitting : (found : Option ℕ) → IsSome found → (m : ℕ) × (found ≡ Some m)
fitting (Some m) is = (m, refl)
fitting None is = absurd (false≢true is)

-- no chain has more than the longest walks and the longest way home
chain-most : (network : Network) (slots : ℕ) → IsDay network slots → (i : ℕ) (js : List ℕ) → Follow network i js
    → minutes_after network i js ≤ 8191 * length js + 1440
chain-most network slots day i [] follow = omega (arith, day.home i)
chain-most network slots day i (j ∷ js) follow =
    let m = fitting (network.empty i j) follow.0 in
    let short = day.walks i j m.0 m.1 in
    let is : unwrap_or (network.empty i j) 0 ≡ m.0 = ap (λ o. unwrap_or o 0) m.1 in
    omega (arith, is, short, chain-most network slots day j js follow.1)

blocks-most : (network : Network) (slots : ℕ) → IsDay network slots → (blocks : List (List ℕ)) → AllByRecursion (IsBlock network) blocks
    → empty_minutes network blocks ≤ 11071 * length (slots_in blocks)
blocks-most network slots day [] each = omega arith
blocks-most network slots day ([] ∷ blocks) each = absurd each.0
blocks-most network slots day ((i ∷ js) ∷ blocks) each =
    omega (
      arith,
      sum_by-cons (block_minutes network) (i ∷ js) blocks,
      length-append (i ∷ js) (slots_in blocks),
      day.out i,
      chain-most network slots day i js each.0,
      blocks-most network slots day blocks each.1,
    )

-- no more slots stand in a blocking than there are
standing-few : (live : ℕ → Bool) (n : ℕ) (slots : List ℕ) → ((s : ℕ) → live s ≡ true → s < n) → StandsOnce live slots → length slots ≤ n
standing-few live n slots within stands =
    omega (
      arith,
      length-ones slots,
      length-ones (filter live (range_with_len 0 n)),
      sum_by-standing live (λ _. 1) slots (filter live (range_with_len 0 n)) stands (StandsOnce-filter_range live n within),
      length-filter live (range_with_len 0 n),
      count_by-le-length live (range_with_len 0 n),
      length-range_with_len 0 n,
    )

-- the empty minutes of a blocking are fewer than 2 to the 32
pub minutes-few : (network : Network) (slots : ℕ) → IsDay network slots → (blocks : List (List ℕ)) → IsBlocking network blocks
    → empty_minutes network blocks < 4294967296
minutes-few network slots day blocks are =
    omega (
      arith,
      blocks-most network slots day blocks are.each,
      standing-few network.live slots (slots_in blocks) day.within are.stands,
      day.few,
    )

-- the minutes of the blocks from one on are those of this block and of those after it
pub minutes-from : (network : Network) (blocks : List (List ℕ)) (n : ℕ) → n < length blocks
    → empty_minutes network (drop n blocks) ≡ block_minutes network (get_or blocks n []) + empty_minutes network (drop (n + 1) blocks)
minutes-from network blocks n h =
    let rest : suc n ≡ n + 1 = omega arith in
    ap (empty_minutes network) (drop-cons blocks n [] h)
    ∙ sum_by-cons (block_minutes network) (get_or blocks n []) (drop (suc n) blocks)
    ∙ ap (λ m. block_minutes network (get_or blocks n []) + empty_minutes network (drop m blocks)) rest
