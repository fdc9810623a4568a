-- A claim against which no reason holds is a certificate.
use Rattle.std.proofs.Common.{◌≡◌, ℕ, ◌+◌, ◌<◌, ◌≤◌, ◌==◌, ◌&&◌, not, Bool, true, false, List, [], length, map, All, Option, None, Some}
use Rattle.std.proofs.Common.{refl, sym, ap, subst, ◌∙◌, ⊎_elim, arith}
use Rattle.std.specs.Prelude.{is_none, IsSome, IfSome}
use Rattle.std.specs.Bool.{then_some}
use Rattle.std.specs.Option.{option_and_then}
use Rattle.std.proofs.lemmas.Bool.{cases_lt, eqb-true, false≢true}
use Rattle.std.proofs.lemmas.List.{get_or-map, get_or_past, length-map}
use Rattle.std.proofs.lemmas.Option.{none-some}
use Rattle.gtfs_tables.specs.declared.paper.Paper.{Paper}
use Rattle.gtfs_tables.specs.declared.paper.Paper.TheVariants.{Blocks, Prices}
use Rattle.trip_model.specs.Blocking.{StandsOnce}
use Rattle.trip_model.specs.Network.{Network, AreDepartures}
use Rattle.trip_model.specs.Order.{minute_left}
use Rattle.trip_model.specs.Plain.{move_at, move_of_slot, trip_moves}
use Rattle.trip_model.specs.Timetable.{TimetableView, IsTimetable, slot_at, slot_names}
use Rattle.trip_model.proofs.Counting.{runs-within}
use Rattle.trip_model.proofs.PlainLemmas.{AreMoves-trips}
use Rattle.deadhead_matrix.specs.Matrix.{MatrixView}
use Rattle.deadhead_matrix.proofs.Days.{AreDepartures-ruled}
use Rattle.deadhead_matrix.specs.Fitting.{network_of}
use Rattle.price_check.specs.declared.claim.BlockRow.{BlockRow}
use Rattle.price_check.specs.declared.claim.PriceRow.{PriceRow}
use Rattle.price_check.specs.declared.verdict.Reason.TheVariants.{UnknownTrip, TripTwice, TripMissing, NotFit, MinutesDiffer, SumsDiffer}
use Rattle.price_check.specs.Claim.{ClaimedView, NamesLive, Runs, AreBlockRows, ArePriceRows, named, block_row, price_row, slot_before}
use Rattle.price_check.specs.Certificate.{NameOnce, IsCertificate}
use Rattle.price_check.specs.Reasons.{unknown, twice, missing, unfit, fit, differing, differs, minutes_before, low, low_from}
use Rattle.price_check.specs.Reasons.{first_low_from, price_sum, weight_sum, stands, repeats, misnamed, unproved, reason_of}
use Rattle.price_check.proofs.CertifiedLemmas.{certified-from, then-none}
use Rattle.price_check.proofs.ChainLemmas.{blocks-fit, slots_in-blocks}
use Rattle.price_check.proofs.CostLemmas.{names-known}
use Rattle.price_check.proofs.First.{NoneBelow, or-none, first_at-each}
use Rattle.price_check.proofs.NamedLemmas.{NameOnce-from}
use Rattle.price_check.proofs.RowLemmas.{live-is}

not-false : (b : Bool) → not b ≡ false → b ≡ true
not-false true e = refl
not-false false e = sym e

and-not : (a b : Bool) → a ≡ true → (a && not b) ≡ false → b ≡ true
and-not a true is e = refl
and-not a false is e = absurd (false≢true (sym e ∙ ap (λ a. a && true) is))

-- departures rise along the network, and its live slots are those of the timetable
pub network-departures : (t : TimetableView) (m : MatrixView) → IsTimetable t
    → AreDepartures (network_of t m) (λ s. minute_left (move_at (trip_moves t.slots) s))
network-departures t m valid = AreDepartures-ruled (length t.places) (slot_names t) (trip_moves t.slots) m (AreMoves-trips t valid)

pub network-within : (t : TimetableView) (m : MatrixView) (s : ℕ) → (network_of t m).live s ≡ true → s < length t.slots
network-within t m s live = omega (arith, runs-within (trip_moves t.slots) s live, length-map t.slots move_of_slot)

-- a slot that a record names is live
named-live : {X : Type 0} (slot_of : X → Option ℕ) (t : TimetableView) (m : MatrixView) (rows : List X) (d : X)
    → All (λ r. NamesLive t (slot_of r)) rows
    → (at s : ℕ) → named (map slot_of rows) at ≡ Some s → (network_of t m).live s ≡ true
named-live slot_of t m rows d each at s e = ⊎_elim
    (λ (lt : at < length rows).
    let runs : Runs t s = subst (λ slot. IfSome slot (Runs t)) (sym (get_or-map slot_of rows at d None lt) ∙ e) (each at d lt) in
    live-is t m s runs.within ∙ runs.live)
    (λ (le : length rows ≤ at). absurd
    (none-some s (sym (get_or_past (map slot_of rows) at None (omega (arith, le, length-map rows slot_of))) ∙ e)))
    (cases_lt at (length rows))

known-of : (paper : Paper) (slots : List (Option ℕ)) (at : ℕ) → unknown paper slots at ≡ None → IsSome (named slots at)
known-of paper slots at none = by (named slots at) none
  where
    by : (slot : Option ℕ) → then_some (is_none slot) (UnknownTrip paper (at + 1)) ≡ None → IsSome slot
    by None e = absurd (none-some (UnknownTrip paper (at + 1)) (sym e))
    by (Some s) e = refl

-- where none of the first three reasons holds of a file, its records name each live slot once
names-from : {X : Type 0} (slot_of : X → Option ℕ) (t : TimetableView) (m : MatrixView) (paper : Paper) (rows : List X) (d : X)
    → All (λ r. NamesLive t (slot_of r)) rows
    → NoneBelow (unknown paper (map slot_of rows)) (length rows) → NoneBelow (twice paper (map slot_of rows)) (length rows)
    → NoneBelow (missing t paper (map slot_of rows)) (length t.slots)
    → NameOnce (network_of t m).live (map slot_of rows)
names-from slot_of t m paper rows d each known once there =
    let slots = map slot_of rows in
    let size = length-map rows slot_of in
    NameOnce-from (network_of t m).live slots
    (λ at lt. known-of paper slots at (known at (omega (arith, lt, size))))
    (λ at lt. then-none (repeats slots at) (TripTwice paper (at + 1)) (once at (omega (arith, lt, size))))
    (λ s live. let lt = network-within t m s live in
    and-not (slot_at t s).trip.live (stands slots s) (sym (live-is t m s lt) ∙ live)
    (then-none ((slot_at t s).trip.live && not (stands slots s)) (TripMissing paper s) (there s lt)))
    (named-live slot_of t m rows d each)

shown-at : (network : Network) (rows : List BlockRow) (at s : ℕ) → differing network rows at ≡ None → (block_row rows at).slot ≡ Some s
    → (block_row rows at).deadhead ≡ minutes_before network (slot_before rows at) s
shown-at network rows at s none is =
    let shown = (block_row rows at).deadhead in
    let minutes = minutes_before network (slot_before rows at) s in
    let agrees = ap (option_and_then (λ j. differs (at + 1) shown (minutes_before network (slot_before rows at) j))) (sym is) ∙ none in
    eqb-true shown minutes (not-false (shown == minutes) (then-none (not (shown == minutes)) (MinutesDiffer (at + 1) shown minutes) agrees))

-- no reason holds only against a certificate
pub certificate-from : (t : TimetableView) (m : MatrixView) (claimed : ClaimedView) → IsTimetable t → AreBlockRows t claimed.blocks
    → ArePriceRows t claimed.prices
    → reason_of t m claimed ≡ None → IsCertificate (network_of t m) (length t.slots) claimed
certificate-from t m claimed valid blocks prices none =
    let network = network_of t m in
    let parts = or-none (misnamed t claimed) (unproved network claimed) none in
    let n1 = or-none _ _ parts.0 in
    let n2 = or-none _ _ n1.1 in
    let n3 = or-none _ _ n2.1 in
    let n4 = or-none _ _ n3.1 in
    let n5 = or-none _ _ n4.1 in
    let n6 = or-none _ _ n5.1 in
    let u1 = or-none _ _ parts.1 in
    let u2 = or-none _ _ u1.1 in
    let u3 = or-none _ _ u2.1 in
    let u4 = or-none _ _ u3.1 in
    let block_names = names-from (λ (r : BlockRow). r.slot) t m Blocks claimed.blocks (block_row [] 0) blocks.each (first_at-each _ _ n1.0)
    (first_at-each _ _ n3.0) (first_at-each _ _ n5.0) in
    let price_names = names-from (λ (r : PriceRow). r.slot) t m Prices claimed.prices (price_row [] 0) prices.each (first_at-each _ _ n2.0)
    (first_at-each _ _ n4.0) (first_at-each _ _ n6.0) in
    let fits : (at : ℕ) → at < length claimed.blocks → fit network (slot_before claimed.blocks at) (block_row claimed.blocks at).slot ≡ true
    = λ at lt. (let b = fit network (slot_before claimed.blocks at) (block_row claimed.blocks at).slot in
    not-false b (then-none (not b) (NotFit (at + 1))
    (first_at-each (unfit network claimed.blocks) (length claimed.blocks) u1.0 at lt))) in
    let known = names-known claimed.blocks block_names.known in
    let equal = price_sum claimed.prices == weight_sum network claimed.blocks in
    record {
      blocks = block_names;
      prices = price_names;
      blocking = record {
        stands = subst (StandsOnce network.live) (sym (slots_in-blocks claimed.blocks)) block_names.once;
        each = blocks-fit network claimed.blocks known fits;
      };
      shown = λ at s lt is. shown-at network claimed.blocks at s
          (first_at-each (differing network claimed.blocks) (length claimed.blocks) u2.0 at lt) is;
      certified = certified-from network (λ s. minute_left (move_at (trip_moves t.slots) s)) (length t.slots) claimed
          (network-departures t m valid) (network-within t m) block_names price_names fits
          (λ a b i a_in b_in is. first_at-each (λ b. low_from network i (price_row claimed.prices a).leave (price_row claimed.prices b))
          (length claimed.prices)
          (ap (option_and_then (λ i. first_low_from network claimed.prices i (price_row claimed.prices a).leave)) (sym is)
          ∙ first_at-each (low network claimed.prices) (length claimed.prices) u3.0 a a_in) b b_in)
          (eqb-true (price_sum claimed.prices) (weight_sum network claimed.blocks)
          (not-false equal (then-none (not equal) (SumsDiffer (price_sum claimed.prices) (weight_sum network claimed.blocks)) u4.0)));
    }
