-- What a verdict of no speaks of is there.
use Rattle.std.proofs.Common.{◌≡◌, ℕ, zero, suc, ◌+◌, ◌<◌, ◌==◌, not, nat_lt, Bool, true, false, length, map, Option, None, Some, refl}
use Rattle.std.proofs.Common.{subst, arith}
use Rattle.std.specs.Prelude.{⊤, IfSome}
use Rattle.std.specs.Bool.{then_some}
use Rattle.std.specs.List.{range_with_len}
use Rattle.std.specs.Option.{option_and_then, option_or}
use Rattle.deadhead_matrix.specs.Matrix.{MatrixView}
use Rattle.assignment_model.specs.Prices.{weight}
use Rattle.deadhead_matrix.specs.Fitting.{network_of}
use Rattle.gtfs_tables.specs.declared.paper.Paper.{Paper}
use Rattle.gtfs_tables.specs.declared.paper.Paper.TheVariants.{Blocks, Prices}
use Rattle.price_check.specs.declared.verdict.Reason.{Reason}
use Rattle.price_check.specs.declared.verdict.Reason.TheVariants.{UnknownTrip, TripTwice, TripMissing, NotFit, MinutesDiffer, PriceLow}
use Rattle.price_check.specs.declared.verdict.Reason.TheVariants.{SumsDiffer}
use Rattle.price_check.specs.declared.verdict.Verdict.TheVariants.{No}
use Rattle.price_check.specs.Claim.{ClaimedView, ArePriceRows, NamesLive, block_row, block_slots, price_row, price_slots, slot_before}
use Rattle.price_check.specs.Reasons.{differing, differs, first_at, first_low_from, first_of, low, low_from, lower, minutes_before}
use Rattle.price_check.specs.Reasons.{misnamed, missing, price_sum, reason_of, twice, unequal, unfit, unknown, unproved, verdict_by}
use Rattle.price_check.specs.Reasons.{verdict_of, weight_sum}
use Rattle.trip_model.specs.Network.{Network}
use Rattle.trip_model.specs.Timetable.{TimetableView}
use Rattle.claim_files.specs.Lines.{HasRecord, IsTold, records_in}

-- what is found among several is one of them
found-or : {A : Type 0} (P : A → Type 0) (a b : Option A) → IfSome a P → IfSome b P → IfSome (option_or a b) P
found-or P None b first second = second
found-or P (Some x) b first second = first

found-then : {A : Type 0} (P : A → Type 0) (b : Bool) (x : A) → P x → IfSome (then_some b x) P
found-then P true x holds = holds
found-then P false x holds = tt

found-from : {A : Type 0} (P : A → Type 0) (f : ℕ → Option A) (a n : ℕ) → ((k : ℕ) → k < a + n → IfSome (f k) P)
    → IfSome (first_of (map f (range_with_len a n))) P
found-from P f a zero each = tt
found-from P f a (suc n) each =
    found-or P (f a) (first_of (map f (range_with_len (a + 1) n))) (each a (omega arith))
    (found-from P f (a + 1) n (λ k lt. each k (omega (arith, lt))))

found-at : {A : Type 0} (P : A → Type 0) (f : ℕ → Option A) (n : ℕ) → ((k : ℕ) → k < n → IfSome (f k) P) → IfSome (first_at f n) P
found-at P f n each = found-from P f 0 n (λ k lt. each k (omega (arith, lt)))

found-and : {A B : Type 0} (P : A → Type 0) (Q : B → Type 0) (found : Option A) (f : A → Option B) → IfSome found P
    → ((x : A) → P x → IfSome (f x) Q) → IfSome (option_and_then f found) Q
found-and P Q None f holds to = tt
found-and P Q (Some x) f holds to = to x holds

module _ (t : TimetableView) (m : MatrixView) (claimed : ClaimedView) (priced : ArePriceRows t claimed.prices) where
  abbrev Told : Reason → Type 0
  Told = IsTold t claimed

  record-there : (paper : Paper) (size at : ℕ) → size ≡ records_in claimed paper → at < size → HasRecord claimed paper (at + 1)
  record-there paper size at is lt = record { counted = omega arith; within = omega (arith, is, lt) }

  misnamed-told : IfSome (misnamed t claimed) Told
  misnamed-told =
      found-or Told _ _ (found-at Told (unknown Blocks (block_slots claimed.blocks)) (length claimed.blocks)
      (λ at lt. found-then Told _ (UnknownTrip Blocks (at + 1)) (record-there Blocks (length claimed.blocks) at refl lt)))
      (found-or Told _ _ (found-at Told (unknown Prices (price_slots claimed.prices)) (length claimed.prices)
      (λ at lt. found-then Told _ (UnknownTrip Prices (at + 1)) (record-there Prices (length claimed.prices) at refl lt)))
      (found-or Told _ _ (found-at Told (twice Blocks (block_slots claimed.blocks)) (length claimed.blocks)
      (λ at lt. found-then Told _ (TripTwice Blocks (at + 1)) (record-there Blocks (length claimed.blocks) at refl lt)))
      (found-or Told _ _ (found-at Told (twice Prices (price_slots claimed.prices)) (length claimed.prices)
      (λ at lt. found-then Told _ (TripTwice Prices (at + 1)) (record-there Prices (length claimed.prices) at refl lt)))
      (found-or Told _ _ (found-at Told (missing t Blocks (block_slots claimed.blocks)) (length t.slots)
      (λ s lt. found-then Told _ (TripMissing Blocks s) lt))
      (found-or Told _ _ (found-at Told (missing t Prices (price_slots claimed.prices)) (length t.slots)
      (λ s lt. found-then Told _ (TripMissing Prices s) lt)) tt)))))

  -- the slot of a record of prices is one of the slots
  slot-there : (at : ℕ) → at < length claimed.prices → IfSome (price_row claimed.prices at).slot (λ s. s < length t.slots)
  slot-there at lt = by (price_row claimed.prices at).slot (priced.each at _ lt)
    where
      by : (slot : Option ℕ) → NamesLive t slot → IfSome slot (λ s. s < length t.slots)
      by None live = tt
      by (Some s) live = live.within

  lower-told : (i j prices : ℕ) → i < length t.slots → j < length t.slots → (weighs : Option ℕ) → IfSome (lower i j prices weighs) Told
  lower-told i j prices i_in j_in None = tt
  lower-told i j prices i_in j_in (Some w) = found-then Told (nat_lt prices w) (PriceLow i j) (i_in, j_in)

  low-told : (network : Network) (a : ℕ) → a < length claimed.prices → IfSome (low network claimed.prices a) Told
  low-told network a a_in =
      found-and (λ i. i < length t.slots) Told (price_row claimed.prices a).slot
      (λ i. first_low_from network claimed.prices i (price_row claimed.prices a).leave) (slot-there a a_in)
      (λ i i_in. found-at Told (λ b. low_from network i (price_row claimed.prices a).leave (price_row claimed.prices b))
      (length claimed.prices)
      (λ b b_in. found-and (λ j. j < length t.slots) Told (price_row claimed.prices b).slot
      (λ j. lower i j ((price_row claimed.prices a).leave + (price_row claimed.prices b).enter) (weight network i j))
      (slot-there b b_in)
      (λ j j_in. lower-told i j ((price_row claimed.prices a).leave + (price_row claimed.prices b).enter) i_in j_in (weight network i j))))

  differing-told : (network : Network) (at : ℕ) → IfSome (differing network claimed.blocks at) Told
  differing-told network at =
      found-and (λ _. ⊤) Told (block_row claimed.blocks at).slot
      (λ j. differs (at + 1) (block_row claimed.blocks at).deadhead (minutes_before network (slot_before claimed.blocks at) j))
      (any (block_row claimed.blocks at).slot)
      (λ j _. found-then Told _ (MinutesDiffer (at + 1) (block_row claimed.blocks at).deadhead
      (minutes_before network (slot_before claimed.blocks at) j)) tt)
    where
      any : (slot : Option ℕ) → IfSome slot (λ _. ⊤)
      any None = tt
      any (Some s) = tt

  unproved-told : (network : Network) → IfSome (unproved network claimed) Told
  unproved-told network =
      found-or Told _ _ (found-at Told (unfit network claimed.blocks) (length claimed.blocks)
      (λ at lt. found-then Told _ (NotFit (at + 1)) (record-there Blocks (length claimed.blocks) at refl lt)))
      (found-or Told _ _ (found-at Told (differing network claimed.blocks) (length claimed.blocks) (λ at lt. differing-told network at))
      (found-or Told _ _ (found-at Told (low network claimed.prices) (length claimed.prices) (low-told network))
      (found-or Told (unequal (price_sum claimed.prices) (weight_sum network claimed.blocks)) None
      (found-then Told (not (price_sum claimed.prices == weight_sum network claimed.blocks))
      (SumsDiffer (price_sum claimed.prices) (weight_sum network claimed.blocks)) tt) tt)))

  -- what is told of the reason of a no
  pub no-told : (reason : Reason) → verdict_of t m claimed ≡ No reason → IsTold t claimed reason
  no-told reason e = by (reason_of t m claimed)
      (found-or Told (misnamed t claimed) (unproved (network_of t m) claimed) misnamed-told (unproved-told (network_of t m))) e
    where
      by : (found : Option Reason) → IfSome found Told → verdict_by (network_of t m) claimed.blocks found ≡ No reason
          → IsTold t claimed reason
      by None told e = absurd (cc)
      by (Some given) told e = let same : given ≡ reason = cc in subst (IsTold t claimed) same told
