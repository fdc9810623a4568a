-- What the written blocks and prices of a certified plan claim is a certificate.
use Rattle.std.proofs.Common.{◌≡◌, ℕ, ◌==◌, ◌||◌, cond, Bool, true, false, List, [], ◌∷◌, length, map, None, Some, refl, sym, ap, subst}
use Rattle.std.proofs.Common.{◌∙◌, arith}
use Rattle.std.specs.Prelude.{IsSome}
use Rattle.std.proofs.lemmas.Bool.{eqb-true, or_parts}
use Rattle.std.proofs.lemmas.List.FromFn.{fill_by_all}
use Rattle.deadhead_matrix.specs.Matrix.{MatrixView}
use Rattle.assignment_model.specs.Prices.{Plan, price, IsCertified}
use Rattle.deadhead_matrix.specs.Fitting.{network_of}
use Rattle.price_check.specs.declared.claim.PriceRow.{PriceRow}
use Rattle.price_check.specs.declared.verdict.Verdict.TheVariants.{Yes}
use Rattle.price_check.specs.Claim.{ClaimedView, AreKnown, block_slots, blocks_in, price_slots}
use Rattle.price_check.specs.Certificate.{IsCertificate, NameOnce, next_in, plan_of, row_of, slots_named, AreShown}
use Rattle.price_check.specs.Reasons.{verdict_by}
use Rattle.price_check.proofs.ChainLemmas.{slots_in-blocks}
use Rattle.price_check.proofs.ReasonLemmas.{reason-none}
use Rattle.trip_model.specs.Blocking.{empty_minutes, times, slots_in, StandsOnce, IsBlocking}
use Rattle.trip_model.specs.Links.{next_of}
use Rattle.trip_model.specs.Plain.{live_slots, trip_moves}
use Rattle.trip_model.specs.Timetable.{TimetableView}
use Rattle.trip_model.proofs.Counting.{StandsOnce-live_slots, times-cons}
use Rattle.claim_files.specs.Written.{AreOfPlan, IsAccepted, written_block, written_blocks, written_claim, written_price, written_prices}
use Rattle.claim_files.proofs.ChainRows.{on-rows, rows_on}
use Rattle.claim_files.proofs.ClaimedLinks.{among, blocks-claimed, known-at, known-claimed, next-claimed}
use Rattle.claim_files.proofs.ClaimedMinutes.{shown-claimed}
use Rattle.claim_files.proofs.FilesBack.{written-back}
use Rattle.claim_files.proofs.Numbered.{each-map, flat-numbered}
use Rattle.claim_files.proofs.PlanWritten.{plan-begins, plan-blocking, plan-chains, plan-written}

-- a slot that is not among slots does not stand there
none-among : (s : ℕ) (xs : List ℕ) → among s xs ≡ false → times s xs ≡ 0
none-among s [] none = refl
none-among s (x ∷ xs) none =
    let parts = or_parts (x == s) (among s xs) none in
    let here : ◌≡◌ {A = ℕ} (cond (x == s) 1 0) 0 = ap (λ b. cond b 1 0) parts.0 in
    omega (arith, here, none-among s xs parts.1, times-cons s x xs)

-- and is not live, where each live slot stands
dead-among : (live : ℕ → Bool) (xs : List ℕ) (s : ℕ) → StandsOnce live xs → among s xs ≡ false → live s ≡ false
dead-among live xs s stands none = by (live s) (sym (none-among s xs none) ∙ stands.once s)
  where
    by : (b : Bool) → ◌≡◌ {A = ℕ} 0 (cond b 1 0) → b ≡ false
    by false e = refl
    by true e = absurd (omega (arith, e))

-- the slots that rows of slots name
named-all : (xs : List ℕ) → slots_named (map (λ s. Some s) xs) ≡ xs
named-all [] = refl
named-all (x ∷ xs) = ap (λ ys. x ∷ ys) (named-all xs)

slots-priced : (t : TimetableView) (leave enter xs : List ℕ) → price_slots (map (written_price t leave enter) xs) ≡ map (λ s. Some s) xs
slots-priced t leave enter [] = refl
slots-priced t leave enter (x ∷ xs) = ap (λ ys. Some x ∷ ys) (slots-priced t leave enter xs)

-- the row of a slot among the rows of slots
row-among : (t : TimetableView) (leave enter : List ℕ) (s : ℕ) (xs : List ℕ)
    → row_of (map (written_price t leave enter) xs) s ≡ cond (among s xs) (written_price t leave enter s) (row_of [] s)
row-among t leave enter s [] = refl
row-among t leave enter s (x ∷ xs) = by (row-among t leave enter s xs) (x == s) refl
  where
    rest : PriceRow
    rest = row_of (map (written_price t leave enter) xs) s

    by : row_of (map (written_price t leave enter) xs) s ≡ cond (among s xs) (written_price t leave enter s) (row_of [] s) → (b : Bool)
        → (x == s) ≡ b → cond (x == s) (written_price t leave enter x) rest ≡ cond ((x == s) || among s xs) (written_price t leave enter s)
        (row_of [] s)
    by later true e =
        ap (λ b. cond b (written_price t leave enter x) rest) e ∙ ap (written_price t leave enter) (eqb-true x s e)
        ∙ sym (ap (λ b. cond (b || among s xs) (written_price t leave enter s) (row_of [] s)) e)
    by later false e =
        ap (λ b. cond b (written_price t leave enter x) rest) e ∙ later
        ∙ sym (ap (λ b. cond (b || among s xs) (written_price t leave enter s) (row_of [] s)) e)

module _ (t : TimetableView) (m : MatrixView) (names : List (List ℕ)) (plan : Plan) (blocks : List (List ℕ))
    (of : AreOfPlan t m names plan blocks) where
  claim : ClaimedView
  claim = written_claim t m blocks plan.leave plan.enter

  rows-are : written_blocks t m blocks ≡ rows_on t m 0 blocks
  rows-are = flat-numbered (written_block t m) blocks ∙ on-rows t m 0 blocks

  claimed-blocks : blocks_in (written_blocks t m blocks) ≡ blocks
  claimed-blocks = ap blocks_in rows-are ∙ blocks-claimed t m plan.next 0 blocks (plan-chains t m names plan blocks of)

  names-blocks : NameOnce (network_of t m).live (block_slots (written_blocks t m blocks))
  names-blocks = record {
    known = subst (λ rows. AreKnown (block_slots rows)) (sym rows-are) (known-claimed t m 0 blocks);
    once = subst (StandsOnce (network_of t m).live) (sym (ap slots_in claimed-blocks) ∙ slots_in-blocks (written_blocks t m blocks))
        (plan-blocking t m names plan blocks of).stands;
  }

  names-prices : NameOnce (network_of t m).live (price_slots (written_prices t plan.leave plan.enter))
  names-prices =
      let live = live_slots (trip_moves t.slots) in
      record {
        known = known-at (λ (r : PriceRow). r.slot) (written_prices t plan.leave plan.enter)
            (each-map (λ (r : PriceRow). IsSome r.slot) (written_price t plan.leave plan.enter) live (λ s. refl));
        once = subst (StandsOnce (network_of t m).live) (sym (ap slots_named (slots-priced t plan.leave plan.enter live) ∙ named-all live))
            (StandsOnce-live_slots (trip_moves t.slots));
      }

  -- the links that are claimed are those of the plan
  claimed-next : (s : ℕ) → next_of plan.next s ≡ next_in (written_blocks t m blocks) s
  claimed-next s =
      let stands = (plan-blocking t m names plan blocks of).stands in
      sym (ap (λ rows. next_in rows s) rows-are ∙ next-claimed t m plan.next 0 s blocks (plan-chains t m names plan blocks of)
      ∙ by (among s (slots_in blocks)) (dead-among (network_of t m).live (slots_in blocks) s stands))
    where
      by : (b : Bool) → (b ≡ false → (network_of t m).live s ≡ false) → cond b (next_of plan.next s) None ≡ next_of plan.next s
      by true dead = refl
      by false dead = sym (of.certified.certified.dead s (dead refl)).0

  claimed-row : (s : ℕ) → row_of (written_prices t plan.leave plan.enter) s ≡ cond (among s (live_slots (trip_moves t.slots)))
      (written_price t plan.leave plan.enter s) (row_of [] s)
  claimed-row s = row-among t plan.leave plan.enter s (live_slots (trip_moves t.slots))

  unpriced : (s : ℕ) → among s (live_slots (trip_moves t.slots)) ≡ false → (network_of t m).live s ≡ false
  unpriced s none = dead-among (network_of t m).live (live_slots (trip_moves t.slots)) s (StandsOnce-live_slots (trip_moves t.slots)) none

  -- and so are the prices
  claimed-leave : (s : ℕ) → price plan.leave s ≡ (row_of (written_prices t plan.leave plan.enter) s).leave
  claimed-leave s = sym (ap (λ (r : PriceRow). r.leave) (claimed-row s) ∙ by (among s (live_slots (trip_moves t.slots))) (unpriced s))
    where
      by : (b : Bool) → (b ≡ false → (network_of t m).live s ≡ false)
          → (cond b (written_price t plan.leave plan.enter s) (row_of [] s)).leave ≡ price plan.leave s
      by true dead = refl
      by false dead = sym (of.certified.certified.dead s (dead refl)).1

  claimed-enter : (s : ℕ) → price plan.enter s ≡ (row_of (written_prices t plan.leave plan.enter) s).enter
  claimed-enter s = sym (ap (λ (r : PriceRow). r.enter) (claimed-row s) ∙ by (among s (live_slots (trip_moves t.slots))) (unpriced s))
    where
      by : (b : Bool) → (b ≡ false → (network_of t m).live s ≡ false)
          → (cond b (written_price t plan.leave plan.enter s) (row_of [] s)).enter ≡ price plan.enter s
      by true dead = refl
      by false dead = sym (of.certified.certified.dead s (dead refl)).2

  plan-claimed : plan ≡ plan_of (length t.slots) claim
  unfolding claim
  plan-claimed =
      let n = length t.slots in
      let size = of.certified.slots in
      let next = fill_by_all (next_in (written_blocks t m blocks)) plan.next n None size (λ s lt. claimed-next s) in
      let leave = fill_by_all (λ s. (row_of (written_prices t plan.leave plan.enter) s).leave) plan.leave n 0
      (of.certified.certified.leaves ∙ size) (λ s lt. claimed-leave s) in
      let enter = fill_by_all (λ s. (row_of (written_prices t plan.leave plan.enter) s).enter) plan.enter n 0
      (of.certified.certified.enters ∙ size) (λ s lt. claimed-enter s) in
      λ i. record { next = next i; leave = leave i; enter = enter i }

  pub certificate : IsCertificate (network_of t m) (length t.slots) (written_claim t m blocks plan.leave plan.enter)
  unfolding claim
  certificate = record {
    blocks = names-blocks;
    prices = names-prices;
    blocking = subst (IsBlocking (network_of t m)) (sym claimed-blocks) (plan-blocking t m names plan blocks of);
    shown = subst (AreShown (network_of t m)) (sym rows-are)
        (shown-claimed t m plan.next blocks (plan-chains t m names plan blocks of) (plan-begins t m names plan blocks of));
    certified = subst (IsCertified (network_of t m)) plan-claimed of.certified.certified;
  }

  -- the checker says yes, with the vehicles and the empty minutes of the blocks
  pub accepted : IsAccepted t m names blocks plan.leave plan.enter
  accepted =
      let claimed = written_claim t m blocks plan.leave plan.enter in (
        claimed,
        written-back t m names blocks plan.leave plan.enter of.valid (plan-written t m names plan blocks of),
        ap (verdict_by (network_of t m) claimed.blocks) (reason-none t m claimed of.valid certificate)
            ∙ ap (λ blocks. Yes (length blocks) (empty_minutes (network_of t m) blocks)) claimed-blocks,
      )
