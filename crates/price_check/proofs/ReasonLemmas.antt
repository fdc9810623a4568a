-- No reason holds against a certificate.
use Rattle.std.proofs.Common.{◌≡◌, ℕ, zero, suc, ◌+◌, ◌<◌, ◌≤◌, ◌==◌, ◌&&◌, not, nat_eq, nat_lt, cond, Bool, true, false, List, [], ◌∷◌}
use Rattle.std.proofs.Common.{length, Option, None, Some, if◌then◌else◌, refl, sym, ap, ◌∙◌, arith}
use Rattle.std.specs.Bool.{then_some}
use Rattle.std.specs.Option.{option_and_then, option_eq, option_or}
use Rattle.std.proofs.lemmas.Bool.{eq-eqb, le-ltb}
use Rattle.std.proofs.lemmas.List.{get_or-map, length-map}
use Rattle.gtfs_tables.specs.declared.paper.Paper.{Paper}
use Rattle.gtfs_tables.specs.declared.paper.Paper.TheVariants.{Blocks, Prices}
use Rattle.trip_model.specs.Blocking.{times}
use Rattle.trip_model.specs.Network.{Network}
use Rattle.trip_model.specs.Order.{minute_left}
use Rattle.trip_model.specs.Plain.{move_at, trip_moves}
use Rattle.trip_model.specs.Timetable.{TimetableView, IsTimetable, slot_at}
use Rattle.deadhead_matrix.specs.Matrix.{MatrixView}
use Rattle.assignment_model.specs.Prices.{weight}
use Rattle.deadhead_matrix.specs.Fitting.{network_of}
use Rattle.price_check.specs.declared.claim.BlockRow.{BlockRow}
use Rattle.price_check.specs.declared.claim.PriceRow.{PriceRow}
use Rattle.price_check.specs.declared.verdict.Reason.{Reason}
use Rattle.price_check.specs.declared.verdict.Reason.TheVariants.{TripTwice, TripMissing, NotFit, MinutesDiffer, PriceLow, SumsDiffer}
use Rattle.price_check.specs.Claim.{ClaimedView, block_slots, price_slots, block_row, price_row, slot_before}
use Rattle.price_check.specs.Certificate.{slots_named, NameOnce, row_of, IsCertificate, AreShown}
use Rattle.price_check.specs.Reasons.{first_at, unknown, twice, missing, fit, differing, differs, minutes_before, lower, low, low_from}
use Rattle.price_check.specs.Reasons.{first_low_from, price_sum, weight_sum, stands, repeats, misnamed, unproved, reason_of}
use Rattle.price_check.proofs.CertificateLemmas.{network-departures, network-within}
use Rattle.price_check.proofs.CertifiedLemmas.{plan-prices, plan-weights, plan-price}
use Rattle.price_check.proofs.ChainLemmas.{chained-from, before_at-none, fit-blocks}
use Rattle.price_check.proofs.CostLemmas.{names-known}
use Rattle.price_check.proofs.First.{NoneBelow, none_first}
use Rattle.price_check.proofs.NamedLemmas.{named-stands, standing-live, slot-is, times-named, named-once, stands-once, repeats-once}
use Rattle.price_check.proofs.RowLemmas.{live-is, unknown-none}

-- a reason whose test fails is none
none-then : (b : Bool) (reason : Reason) → b ≡ false → then_some b reason ≡ None
none-then b reason e = ap (λ b. then_some b reason) e

none-all : {A : Type 0} (f : ℕ → Option A) (n : ℕ) → NoneBelow f n → first_at f n ≡ None
none-all f n none = sym (none_first f n n none (omega arith))

none-or : {A : Type 0} (a b : Option A) → a ≡ None → b ≡ None → option_or a b ≡ None
none-or a b is_a is_b = ap (λ found. option_or found b) is_a ∙ is_b

-- none of the first three reasons holds where the records of a file name each live slot once
missing-none : (t : TimetableView) (m : MatrixView) (paper : Paper) (slots : List (Option ℕ)) → NameOnce (network_of t m).live slots
    → NoneBelow (missing t paper slots) (length t.slots)
missing-none t m paper slots names s lt =
    none-then ((slot_at t s).trip.live && not (stands slots s)) (TripMissing paper s) (by (slot_at t s).trip.live refl)
  where
    by : (live : Bool) → (slot_at t s).trip.live ≡ live → ((slot_at t s).trip.live && not (stands slots s)) ≡ false
    by false e = ap (λ live. live && not (stands slots s)) e
    by true e = λ i. e i && not (stands-once (network_of t m).live slots names s (live-is t m s lt ∙ e) i)

unknown-all : (live : ℕ → Bool) (paper : Paper) (slots : List (Option ℕ)) → NameOnce live slots
    → NoneBelow (unknown paper slots) (length slots)
unknown-all live paper slots names at lt = unknown-none paper slots at (names.known at lt)

twice-all : (live : ℕ → Bool) (paper : Paper) (slots : List (Option ℕ)) → NameOnce live slots → NoneBelow (twice paper slots) (length slots)
twice-all live paper slots names at lt = none-then (repeats slots at) (TripTwice paper (at + 1)) (repeats-once live slots names at lt)

-- none of the other four
differing-none : (network : Network) (rows : List BlockRow) → AreShown network rows → NoneBelow (differing network rows) (length rows)
differing-none network rows shown at lt = by (block_row rows at).slot refl
  where
    minutes : ℕ → ℕ
    minutes j = minutes_before network (slot_before rows at) j

    given : ℕ
    given = (block_row rows at).deadhead

    by : (slot : Option ℕ) → (block_row rows at).slot ≡ slot → differing network rows at ≡ None
    by None e = ap (option_and_then (λ j. differs (at + 1) given (minutes j))) e
    by (Some s) e =
        ap (option_and_then (λ j. differs (at + 1) given (minutes j))) e
        ∙ none-then (not (given == minutes s)) (MinutesDiffer (at + 1) given (minutes s))
        (ap not (eq-eqb given (minutes s) (shown at s lt e)))

-- the record of the prices of a slot that a record names is that one
price-stands : (rows : List PriceRow) (at s : ℕ) → at < length rows → (price_row rows at).slot ≡ Some s
    → 0 < times s (slots_named (price_slots rows))
price-stands rows at s lt is =
    named-stands (price_slots rows) at s (omega (arith, lt, length-map rows (λ (r : PriceRow). r.slot)))
    (get_or-map (λ (r : PriceRow). r.slot) rows at _ None lt ∙ is)

row-at : (rows : List PriceRow) (at s : ℕ) → times s (slots_named (price_slots rows)) ≤ 1 → at < length rows
    → (price_row rows at).slot ≡ Some s → row_of rows s ≡ price_row rows at
row-at [] at s few lt is = absurd (omega arith)
row-at (r ∷ rows) zero s few lt is = ap (λ b. if b then r else row_of rows s) (slot-is s r.slot is)
row-at (r ∷ rows) (suc at) s few lt is =
    let more = times-named s r.slot (price_slots rows) in
    let later = ap (λ b. if b then r else row_of rows s) (by (option_eq nat_eq r.slot (Some s)) refl) in
    later ∙ row-at rows at s (omega (arith, few, more)) (omega (arith, lt)) is
  where
    by : (b : Bool) → option_eq nat_eq r.slot (Some s) ≡ b → option_eq nat_eq r.slot (Some s) ≡ false
    by false e = e
    by true e =
        let one : ◌≡◌ {A = ℕ} (cond (option_eq nat_eq r.slot (Some s)) 1 0) 1 = ap (λ b. cond b 1 0) e in
        absurd (omega (arith, few, one, times-named s r.slot (price_slots rows), price-stands rows at s (omega (arith, lt)) is))

-- prices that reach the weight are not too low
lower-none : (i j prices : ℕ) (weighs : Option ℕ) → ((k : ℕ) → weighs ≡ Some k → k ≤ prices) → lower i j prices weighs ≡ None
lower-none i j prices None reach = refl
lower-none i j prices (Some k) reach = none-then (nat_lt prices k) (PriceLow i j) (le-ltb prices k (reach k refl))

low-none : (network : Network) (rows : List PriceRow)
    → ((a b i j k : ℕ) → a < length rows → b < length rows → (price_row rows a).slot ≡ Some i → (price_row rows b).slot ≡ Some j
    → weight network i j ≡ Some k
    → k ≤ (price_row rows a).leave + (price_row rows b).enter) → NoneBelow (low network rows) (length rows)
low-none network rows reach a a_in = by (price_row rows a).slot refl
  where
    leave : ℕ
    leave = (price_row rows a).leave

    at : (i : ℕ) → (price_row rows a).slot ≡ Some i → (b : ℕ) → b < length rows → (slot : Option ℕ) → (price_row rows b).slot ≡ slot
        → low_from network i leave (price_row rows b) ≡ None
    at i is b b_in None e = ap (option_and_then (λ j. lower i j (leave + (price_row rows b).enter) (weight network i j))) e
    at i is b b_in (Some j) e =
        ap (option_and_then (λ j. lower i j (leave + (price_row rows b).enter) (weight network i j))) e
        ∙ lower-none i j (leave + (price_row rows b).enter) (weight network i j) (λ k weighs. reach a b i j k a_in b_in is e weighs)

    by : (slot : Option ℕ) → (price_row rows a).slot ≡ slot → low network rows a ≡ None
    by None e = ap (option_and_then (λ i. first_low_from network rows i leave)) e
    by (Some i) e =
        ap (option_and_then (λ i. first_low_from network rows i leave)) e
        ∙ none-all (λ b. low_from network i leave (price_row rows b)) (length rows) (λ b b_in. at i e b b_in (price_row rows b).slot refl)

-- the prices of two records reach the weight of a pair that fits
reach-from : (network : Network) (n : ℕ) (claimed : ClaimedView) → IsCertificate network n claimed
    → ((s : ℕ) → network.live s ≡ true → s < n)
    → (a b i j k : ℕ) → a < length claimed.prices → b < length claimed.prices → (price_row claimed.prices a).slot ≡ Some i
    → (price_row claimed.prices b).slot ≡ Some j
    → weight network i j ≡ Some k → k ≤ (price_row claimed.prices a).leave + (price_row claimed.prices b).enter
reach-from network n claimed proved within a b i j k a_in b_in is_a is_b weighs =
    let rows = claimed.prices in
    let once = named-once network.live (price_slots rows) proved.prices in
    let i_in = within i (standing-live network.live (price_slots rows) proved.prices i (price-stands rows a i a_in is_a)) in
    let j_in = within j (standing-live network.live (price_slots rows) proved.prices j (price-stands rows b j b_in is_b)) in
    let leave = plan-price n rows (λ r. r.leave) i i_in ∙ ap (λ (r : PriceRow). r.leave) (row-at rows a i (once i) a_in is_a) in
    let enter = plan-price n rows (λ r. r.enter) j j_in ∙ ap (λ (r : PriceRow). r.enter) (row-at rows b j (once j) b_in is_b) in
    omega (arith, proved.certified.covers i j k weighs, leave, enter)

-- no reason holds against a certificate
pub reason-none : (t : TimetableView) (m : MatrixView) (claimed : ClaimedView) → IsTimetable t
    → IsCertificate (network_of t m) (length t.slots) claimed → reason_of t m claimed ≡ None
reason-none t m claimed valid proved =
    let network = network_of t m in
    let block_size = length-map claimed.blocks (λ (r : BlockRow). r.slot) in
    let price_size = length-map claimed.prices (λ (r : PriceRow). r.slot) in
    let known = names-known claimed.blocks proved.blocks.known in
    let fits = fit-blocks network claimed.blocks known proved.blocking.each in
    let chained = chained-from network None claimed.blocks
    (λ at lt. ap (λ b. fit network b (block_row claimed.blocks at).slot) (before_at-none claimed.blocks at) ∙ fits at lt) in
    let sums : price_sum claimed.prices ≡ weight_sum network claimed.blocks
    = sym (plan-prices network.live (length t.slots) claimed (network-within t m) proved.prices) ∙ proved.certified.sums
    ∙ plan-weights network (λ s. minute_left (move_at (trip_moves t.slots) s)) (length t.slots) claimed (network-departures t m valid)
    (network-within t m) proved.blocks chained in
    none-or (misnamed t claimed) (unproved network claimed)
    (none-or _ _ (none-all _ _ (λ at lt. unknown-all network.live Blocks (block_slots claimed.blocks) proved.blocks at
    (omega (arith, lt, block_size))))
    (none-or _ _ (none-all _ _ (λ at lt. unknown-all network.live Prices (price_slots claimed.prices) proved.prices at
    (omega (arith, lt, price_size))))
    (none-or _ _ (none-all _ _ (λ at lt. twice-all network.live Blocks (block_slots claimed.blocks) proved.blocks at
    (omega (arith, lt, block_size))))
    (none-or _ _ (none-all _ _ (λ at lt. twice-all network.live Prices (price_slots claimed.prices) proved.prices at
    (omega (arith, lt, price_size))))
    (none-or _ _ (none-all _ _ (missing-none t m Blocks (block_slots claimed.blocks) proved.blocks))
    (none-or _ _ (none-all _ _ (missing-none t m Prices (price_slots claimed.prices) proved.prices)) refl))))))
    (none-or _ _ (none-all _ _ (λ at lt. none-then (not (fit network (slot_before claimed.blocks at) (block_row claimed.blocks at).slot))
    (NotFit (at + 1)) (ap not (fits at lt))))
    (none-or _ _ (none-all _ _ (differing-none network claimed.blocks proved.shown))
    (none-or _ _ (none-all _ _ (low-none network claimed.prices (reach-from network (length t.slots) claimed proved (network-within t m))))
    (none-or _ _ (none-then (not (price_sum claimed.prices == weight_sum network claimed.blocks))
    (SumsDiffer (price_sum claimed.prices) (weight_sum network claimed.blocks))
    (ap not (eq-eqb (price_sum claimed.prices) (weight_sum network claimed.blocks) sums)))
    refl))))
