-- The blocks and the prices of a certified plan can be written.
use Rattle.std.proofs.Common.{◌≡◌, ℕ, ◌<◌, ◌≤◌, ◌==◌, cond, Bool, true, false, List, [], ◌∷◌, ◌++◌, length, map, All, Option, None, refl}
use Rattle.std.proofs.Common.{sym, ap, subst, ◌∙◌, arith}
use Rattle.std.specs.List.{AllByRecursion}
use Rattle.std.proofs.lemmas.Bool.{eq-eqb}
use Rattle.std.proofs.lemmas.List.{get_or_default, length-map}
use Rattle.std.proofs.lemmas.List.FromFn.{get_or-map-range_with_len, length-map-range_with_len}
use Rattle.block_build.specs.Files.{minutes_before}
use Rattle.deadhead_matrix.specs.Matrix.{MatrixView}
use Rattle.assignment_model.specs.Prices.{Plan, IsDay}
use Rattle.deadhead_matrix.proofs.Days.{IsDay-ruled}
use Rattle.assignment_model.proofs.GreatestPrice.{certified-most}
use Rattle.deadhead_matrix.specs.Fitting.{network_of}
use Rattle.price_check.specs.declared.claim.BlockRow.{BlockRow}
use Rattle.price_check.specs.Claim.{Runs}
use Rattle.price_check.proofs.CertificateLemmas.{network-departures, network-within}
use Rattle.trip_model.specs.Blocking.{times, slots_in, StandsOnce, IsBlock, IsBlocking}
use Rattle.trip_model.specs.Links.{block_from}
use Rattle.trip_model.specs.Order.{by_departure}
use Rattle.trip_model.specs.Plain.{live_slots, move_of_slot, trip_moves}
use Rattle.trip_model.specs.Timetable.{TimetableView, slot_names}
use Rattle.trip_model.proofs.Chains.{AreChains, IsBlocking-blocks_along, block_from-is, chains-of}
use Rattle.trip_model.proofs.Counting.{StandsOnce-live_slots, length-ones, sum_by-standing, times-cons}
use Rattle.trip_model.proofs.OrderLemmas.{StandsOnce-by_departure, slot-live}
use Rattle.trip_model.proofs.PlainLemmas.{AreMoves-trips}
use Rattle.claim_files.specs.Written.{AreOfPlan, CanBeWritten, written_trip, written_block}
use Rattle.claim_files.proofs.ChainRows.{IsChain, block-chain}
use Rattle.claim_files.proofs.ClaimedMinutes.{Begins, chain-few}
use Rattle.claim_files.proofs.EvenTables.{all-of}
use Rattle.claim_files.proofs.PricesBack.{live-few}

-- each slot of a list stands in it
still-standing : (y : ℕ) (xs ys : List ℕ) → AllByRecursion (λ x. 0 < times x xs) ys → AllByRecursion (λ x. 0 < times x (y ∷ xs)) ys
still-standing y xs [] stand = tt
still-standing y xs (x ∷ ys) stand = (omega (arith, stand.0, times-cons x y xs), still-standing y xs ys stand.1)

each-stands : (xs : List ℕ) → AllByRecursion (λ x. 0 < times x xs) xs
each-stands [] = tt
each-stands (x ∷ xs) =
    let one : ◌≡◌ {A = ℕ} (cond (x == x) 1 0) 1 = ap (λ b. cond b 1 0) (eq-eqb x x refl) in
    (omega (arith, one, times-cons x x xs), still-standing x xs xs (each-stands xs))

each-to : {X : Type 0} (P Q : X → Type 0) → ((x : X) → P x → Q x) → (xs : List X) → AllByRecursion P xs → AllByRecursion Q xs
each-to P Q to [] each = tt
each-to P Q to (x ∷ xs) each = (to x each.0, each-to P Q to xs each.1)

-- a slot that stands is live
live-standing : (live : ℕ → Bool) (xs : List ℕ) (x : ℕ) → StandsOnce live xs → 0 < times x xs → live x ≡ true
live-standing live xs x stands some = by (live x) (stands.once x)
  where
    by : (b : Bool) → times x xs ≡ cond b 1 0 → b ≡ true
    by true e = refl
    by false e = absurd (omega (arith, e, some))

-- what holds of all slots of blocks holds of those of each
first-part : (P : ℕ → Type 0) (xs ys : List ℕ) → AllByRecursion P (xs ++ ys) → AllByRecursion P xs × AllByRecursion P ys
first-part P [] ys each = (tt, each)
first-part P (x ∷ xs) ys each = let rest = first-part P xs ys each.1 in ((each.0, rest.0), rest.1)

by-blocks : (P : ℕ → Type 0) (blocks : List (List ℕ)) → AllByRecursion P (slots_in blocks) → AllByRecursion (AllByRecursion P) blocks
by-blocks P [] each = tt
by-blocks P (block ∷ blocks) each = let parts = first-part P block (slots_in blocks) each in (parts.0, by-blocks P blocks parts.1)

-- the blocks along links are chains
chains-along : (links : List (Option ℕ)) → AreChains links → (firsts : List ℕ)
    → AllByRecursion (IsChain links) (map (block_from links) firsts)
chains-along links chains [] = tt
chains-along links chains (i ∷ firsts) =
    (subst (IsChain links) (sym (block_from-is links i)) (chains.goes_on i), chains-along links chains firsts)

module _ (t : TimetableView) (m : MatrixView) (names : List (List ℕ)) (plan : Plan) (blocks : List (List ℕ))
    (of : AreOfPlan t m names plan blocks) where
  moves-day : IsDay (network_of t m) (length t.slots)
  moves-day =
      subst (IsDay (network_of t m)) (length-map t.slots move_of_slot)
      (IsDay-ruled (length t.places) (slot_names t) (trip_moves t.slots) m (AreMoves-trips t of.valid) of.pulls
      (omega (arith, of.valid.slots, length-map t.slots move_of_slot)))

  pub plan-blocking : IsBlocking (network_of t m) blocks
  plan-blocking =
      subst (IsBlocking (network_of t m)) (sym of.along)
      (IsBlocking-blocks_along (network_of t m) _ plan.next (by_departure (trip_moves t.slots)) (network-departures t m of.valid)
      of.certified.certified.links (StandsOnce-by_departure (trip_moves t.slots)))

  pub plan-chains : AllByRecursion (IsChain plan.next) blocks
  plan-chains =
      subst (AllByRecursion (IsChain plan.next)) (sym of.along)
      (chains-along plan.next (chains-of (network_of t m) _ plan.next (network-departures t m of.valid) of.certified.certified.links) _)

  plan-live : AllByRecursion (AllByRecursion (λ s. (network_of t m).live s ≡ true)) blocks
  plan-live =
      by-blocks (λ s. (network_of t m).live s ≡ true) blocks
      (each-to (λ x. 0 < times x (slots_in blocks)) (λ s. (network_of t m).live s ≡ true)
      (λ x. live-standing (network_of t m).live (slots_in blocks) x plan-blocking.stands) (slots_in blocks)
      (each-stands (slots_in blocks)))

  all-begin : (blocks : List (List ℕ)) → AllByRecursion (IsBlock (network_of t m)) blocks
      → AllByRecursion (AllByRecursion (λ s. (network_of t m).live s ≡ true)) blocks → AllByRecursion (Begins t m) blocks
  all-begin [] each live = tt
  all-begin ([] ∷ blocks) each live = absurd each.0
  all-begin ((i ∷ js) ∷ blocks) each live = ((live.0.0, each.0), all-begin blocks each.1 live.1)

  pub plan-begins : AllByRecursion (Begins t m) blocks
  plan-begins = all-begin blocks plan-blocking.each plan-live

  runs-of : (s : ℕ) → (network_of t m).live s ≡ true → Runs t s
  runs-of s live = record { within = network-within t m s live; live = sym (slot-live t s) ∙ live }

  few-shown : (block : List ℕ) → Begins t m block → (n : ℕ) → n < length block → minutes_before t m block n ≤ 999999
  few-shown [] begins n lt = absurd begins
  few-shown (i ∷ js) begins n lt =
      let block = i ∷ js in
      let few = chain-few t m (length t.slots) 0 None i js moves-day begins.0 begins.1 in
      let each = all-of (λ (r : BlockRow). r.deadhead ≤ 8191) (written_block t m 0 block)
      (subst (AllByRecursion (λ (r : BlockRow). r.deadhead ≤ 8191)) (sym (block-chain t m 0 block)) few) in
      let at = get_or-map-range_with_len (written_trip t m 0 block) 0 (length block) n n (written_trip t m 0 block 0) lt (omega arith) in
      let here = each n (written_trip t m 0 block 0)
      (omega (arith, lt, length-map-range_with_len (written_trip t m 0 block) 0 (length block))) in
      omega (arith, here, ap (λ (r : BlockRow). r.deadhead) at)

  slots-few : length (slots_in blocks) ≤ 4096
  slots-few =
      let same = sum_by-standing (network_of t m).live (λ _. 1) (slots_in blocks) (live_slots (trip_moves t.slots)) plan-blocking.stands
      (StandsOnce-live_slots (trip_moves t.slots)) in
      omega (arith, same, length-ones (slots_in blocks), length-ones (live_slots (trip_moves t.slots)), live-few t, of.valid.slots)

  -- the blocks and the prices of a plan can be written
  pub plan-written : CanBeWritten t m names blocks plan.leave plan.enter
  plan-written =
      let most = certified-most (network_of t m) (length t.slots) plan _ moves-day of.certified.slots of.certified.certified
      (network-departures t m of.valid) in
      record {
        named = of.named;
        names = of.names;
        filled = all-of (λ block. 0 < length block) blocks
            (each-to (Begins t m) (λ block. 0 < length block) filled blocks plan-begins);
        run = all-of (All (Runs t)) blocks
            (each-to (AllByRecursion (λ s. (network_of t m).live s ≡ true)) (All (Runs t))
            (λ block live. all-of (Runs t) block (each-to (λ s. (network_of t m).live s ≡ true) (Runs t) runs-of block live)) blocks
            plan-live);
        few = slots-few;
        shown = all-of (λ block. (n : ℕ) → n < length block → minutes_before t m block n ≤ 999999) blocks
            (each-to (Begins t m) (λ block. (n : ℕ) → n < length block → minutes_before t m block n ≤ 999999) few-shown blocks
            plan-begins);
        left = λ s d lt. omega (arith, (most s).0, get_or_default plan.leave s d 0 lt);
        entered = λ s d lt. omega (arith, (most s).1, get_or_default plan.enter s d 0 lt);
      }
    where
      filled : (block : List ℕ) → Begins t m block → 0 < length block
      filled [] begins = absurd begins
      filled (i ∷ js) begins = omega arith
