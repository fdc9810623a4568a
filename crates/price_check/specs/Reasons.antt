-- Why a claim is no certificate: the seven reasons, each with the record or the slots at which it holds first.
use Rattle.std.specs.Prelude.{ℕ, ◌+◌, ◌==◌, ◌&&◌, not, nat_eq, nat_lt, Bool, true, false, List, [], ◌∷◌, length, map, take, sum_by, Option}
use Rattle.std.specs.Prelude.{None, Some, is_none, is_some, unwrap_or, ⊤}
use Rattle.std.specs.Bool.{then_some}
use Rattle.std.specs.List.{list_any, range_with_len}
use Rattle.std.specs.Option.{option_or, option_and_then, option_eq, option_map_or}
use Rattle.gtfs_tables.specs.declared.paper.Paper.{Paper}
use Rattle.gtfs_tables.specs.declared.paper.Paper.TheVariants.{Blocks, Prices}
use Rattle.price_check.specs.declared.claim.BlockRow.{BlockRow}
use Rattle.price_check.specs.declared.claim.PriceRow.{PriceRow}
use Rattle.price_check.specs.declared.verdict.Reason.{Reason}
use Rattle.price_check.specs.declared.verdict.Reason.TheVariants.{UnknownTrip, TripTwice, TripMissing, NotFit, MinutesDiffer, PriceLow}
use Rattle.price_check.specs.declared.verdict.Reason.TheVariants.{SumsDiffer}
use Rattle.price_check.specs.declared.verdict.Verdict.{Verdict}
use Rattle.price_check.specs.declared.verdict.Verdict.TheVariants.{Yes, No}
use Rattle.trip_model.specs.Blocking.{empty_minutes}
use Rattle.trip_model.specs.Network.{Network}
use Rattle.trip_model.specs.Timetable.{TimetableView, slot_at}
use Rattle.deadhead_matrix.specs.Matrix.{MatrixView}
use Rattle.assignment_model.specs.Prices.{weight}
use Rattle.deadhead_matrix.specs.Fitting.{network_of}
use Rattle.price_check.specs.Claim.{ClaimedView, block_slots, price_slots, named, block_row, price_row, slot_before, blocks_in}

-- the first of them that there is
abbrev pub first_of : {A : Type 0} → List (Option A) → Option A
first_of [] = None
first_of (found ∷ others) = option_or found (first_of others)

-- what comes first, by number, of numbers below a bound
abbrev pub first_at : {A : Type 0} → (ℕ → Option A) → ℕ → Option A
first_at f n = first_of (map f (range_with_len 0 n))

-- a record names s
abbrev pub stands : List (Option ℕ) → ℕ → Bool
stands slots s = list_any (λ slot. option_eq nat_eq slot (Some s)) slots

-- 1: the record names no slot
abbrev pub unknown : Paper → List (Option ℕ) → ℕ → Option Reason
unknown paper slots at = then_some (is_none (named slots at)) (UnknownTrip paper (at + 1))

-- the slot that a record names is named by an earlier one
abbrev pub repeats : List (Option ℕ) → ℕ → Bool
repeats slots at = option_map_or (stands (take at slots)) (named slots at) false

-- rule: two trips of one name
-- 2: the record names a slot that an earlier record of the file names
abbrev pub twice : Paper → List (Option ℕ) → ℕ → Option Reason
twice paper slots at = then_some (repeats slots at) (TripTwice paper (at + 1))

-- 3: the trip of a slot runs, and no record of the file names it
abbrev pub missing : TimetableView → Paper → List (Option ℕ) → ℕ → Option Reason
missing timetable paper slots s = then_some ((slot_at timetable s).trip.live && not (stands slots s)) (TripMissing paper s)

-- the second trip fits after the first, where there are two
abbrev pub fit : Network → Option ℕ → Option ℕ → Bool
fit network (Some i) (Some j) = is_some (network.empty i j)
fit network _ _ = true

-- 4: the trip of the record does not fit after the one before it in its block
abbrev pub unfit : Network → List BlockRow → ℕ → Option Reason
unfit network rows at = then_some (not (fit network (slot_before rows at) (block_row rows at).slot)) (NotFit (at + 1))

-- the empty minutes before the trip of j: those out of the depot, or those from the trip before it in its block
abbrev pub minutes_before : Network → Option ℕ → ℕ → ℕ
minutes_before network None j = network.out j
minutes_before network (Some i) j = unwrap_or (network.empty i j) 0

-- these are not the minutes that are shown
abbrev pub differs : ℕ → ℕ → ℕ → Option Reason
differs number shown minutes = then_some (not (shown == minutes)) (MinutesDiffer number shown minutes)

-- 5: the record does not show the empty minutes before its trip
abbrev pub differing : Network → List BlockRow → ℕ → Option Reason
differing network rows at =
    option_and_then (λ j. differs (at + 1) (block_row rows at).deadhead (minutes_before network (slot_before rows at) j))
    (block_row rows at).slot

-- the prices do not reach the weight of the pair, where there is one
abbrev pub lower : ℕ → ℕ → ℕ → Option ℕ → Option Reason
lower i j prices weighs = option_and_then (λ w. then_some (nat_lt prices w) (PriceLow i j)) weighs

-- the trip of a record fits after that of i, and the prices of leaving i and of entering it do not reach the weight
abbrev pub low_from : Network → ℕ → ℕ → PriceRow → Option Reason
low_from network i leave row = option_and_then (λ j. lower i j (leave + row.enter) (weight network i j)) row.slot

-- the first record for which that is so
abbrev pub first_low_from : Network → List PriceRow → ℕ → ℕ → Option Reason
first_low_from network rows i leave = first_at (λ b. low_from network i leave (price_row rows b)) (length rows)

-- 6: there is such a record for the trip of the record, with the price of leaving it
abbrev pub low : Network → List PriceRow → ℕ → Option Reason
low network rows a = option_and_then (λ i. first_low_from network rows i (price_row rows a).leave) (price_row rows a).slot

-- all prices together
abbrev pub price_sum : List PriceRow → ℕ
price_sum rows = sum_by (λ r. r.leave + r.enter) rows

-- the weight of the link from the one trip to the other, where there are two
abbrev pub link_weight : Network → Option ℕ → Option ℕ → ℕ
link_weight network (Some i) (Some j) = unwrap_or (weight network i j) 0
link_weight network _ _ = 0

-- the weight of the link to the trip of a record; 0 where it is the first of its block
abbrev pub weight_before : Network → List BlockRow → ℕ → ℕ
weight_before network rows at = link_weight network (slot_before rows at) (block_row rows at).slot

-- the weights of all links together
abbrev pub weight_sum : Network → List BlockRow → ℕ
weight_sum network rows = sum_by (weight_before network rows) (range_with_len 0 (length rows))

-- 7: the prices together are not the weights of the links
abbrev pub unequal : ℕ → ℕ → Option Reason
unequal prices weights = then_some (not (prices == weights)) (SumsDiffer prices weights)

-- the first of the first three reasons, each sought in the blocks before the prices
abbrev pub misnamed : TimetableView → ClaimedView → Option Reason
misnamed timetable claimed = first_of (
    first_at (unknown Blocks (block_slots claimed.blocks)) (length claimed.blocks)
    ∷ first_at (unknown Prices (price_slots claimed.prices)) (length claimed.prices)
    ∷ first_at (twice Blocks (block_slots claimed.blocks)) (length claimed.blocks)
    ∷ first_at (twice Prices (price_slots claimed.prices)) (length claimed.prices)
    ∷ first_at (missing timetable Blocks (block_slots claimed.blocks)) (length timetable.slots)
    ∷ first_at (missing timetable Prices (price_slots claimed.prices)) (length timetable.slots)
    ∷ [])

-- the first of the other four reasons
abbrev pub unproved : Network → ClaimedView → Option Reason
unproved network claimed = first_of (
    first_at (unfit network claimed.blocks) (length claimed.blocks)
    ∷ first_at (differing network claimed.blocks) (length claimed.blocks)
    ∷ first_at (low network claimed.prices) (length claimed.prices)
    ∷ unequal (price_sum claimed.prices) (weight_sum network claimed.blocks)
    ∷ [])

-- rule: why a claim is refused
-- the first reason of the seven that holds, at its least record or slot
abbrev pub reason_of : TimetableView → MatrixView → ClaimedView → Option Reason
reason_of timetable matrix claimed = option_or (misnamed timetable claimed) (unproved (network_of timetable matrix) claimed)

-- no, for that reason; else yes, with the vehicles and the empty minutes of the blocks
abbrev pub verdict_by : Network → List BlockRow → Option Reason → Verdict
verdict_by network rows None = Yes (length (blocks_in rows)) (empty_minutes network (blocks_in rows))
verdict_by network rows (Some reason) = No reason

-- rule: the verdict on a claim
-- the verdict on a claim
abbrev pub verdict_of : TimetableView → MatrixView → ClaimedView → Verdict
verdict_of timetable matrix claimed = verdict_by (network_of timetable matrix) claimed.blocks (reason_of timetable matrix claimed)

-- the fact, where the verdict is yes
abbrev pub OnYes : Verdict → Type 0 → Type 0
OnYes (Yes vehicles minutes) P = P
OnYes (No reason) P = ⊤
