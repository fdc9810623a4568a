-- What is claimed of a timetable: the records of `blocks.csv` and those of `prices.csv`, each numbered from 0 here, and what
-- they say together.
use Rattle.std.specs.Prelude.{◌≡◌, ℕ, zero, suc, ◌<◌, ◌≤◌, ◌==◌, Bool, true, false, List, [], ◌∷◌, length, map, slice_index_or, All}
use Rattle.std.specs.Prelude.{Option, None, Some, IfSome, IsSome, if◌then◌else◌}
use Rattle.price_check.specs.declared.claim.BlockRow.{BlockRow}
use Rattle.price_check.specs.declared.claim.PriceRow.{PriceRow}
use Rattle.price_check.specs.declared.claim.TheConstants.{MOST_PRICE}
use Rattle.trip_model.specs.declared.limits.TheConstants.{MOST_SLOTS}
use Rattle.trip_model.specs.Timetable.{TimetableView, slot_at}

-- word: claim = submitted schedule
-- the records of both files, in their order
pub record ClaimedView : Type 0 where
  pub blocks : List BlockRow
  pub prices : List PriceRow

-- the slots that the records of a file name, None where a record names none
abbrev pub block_slots : List BlockRow → List (Option ℕ)
block_slots rows = map (λ r. r.slot) rows

abbrev pub price_slots : List PriceRow → List (Option ℕ)
price_slots rows = map (λ r. r.slot) rows

-- the slot that a record names; none past the last record
abbrev pub named : List (Option ℕ) → ℕ → Option ℕ
named slots at = slice_index_or slots at None

-- each record names a slot
abbrev pub AreKnown : List (Option ℕ) → Type 0
AreKnown slots = (at : ℕ) → at < length slots → IsSome (named slots at)

-- the records of `blocks.csv` and of `prices.csv` by number; past the last one a record that names no slot
abbrev pub block_row : List BlockRow → ℕ → BlockRow
block_row rows at = slice_index_or rows at (record { block = 0; trip = []; slot = None; deadhead = 0 })

abbrev pub price_row : List PriceRow → ℕ → PriceRow
price_row rows at = slice_index_or rows at (record { trip = []; slot = None; leave = 0; enter = 0 })

-- the slot of a record, where the next one is of the same block
abbrev pub slot_on : BlockRow → BlockRow → Option ℕ
slot_on r next = if r.block == next.block then r.slot else None

-- the slot of the record before, where that is of the same block
abbrev pub slot_before : List BlockRow → ℕ → Option ℕ
slot_before rows zero = None
slot_before rows (suc at) = slot_on (block_row rows at) (block_row rows (suc at))

-- the first of the records is of the block of that number
abbrev pub begin_with : List BlockRow → ℕ → Bool
begin_with [] number = false
begin_with (r ∷ rows) number = number == r.block

-- blocks with one more trip before them: at the front of the first block, or as a block of its own
abbrev pub with_trip_before : List (List ℕ) → Bool → Option ℕ → List (List ℕ)
with_trip_before blocks joins None = blocks
with_trip_before [] joins (Some s) = (s ∷ []) ∷ []
with_trip_before (block ∷ blocks) joins (Some s) = if joins then (s ∷ block) ∷ blocks else (s ∷ []) ∷ block ∷ blocks

-- the blocks that are claimed: records next to each other with one number are those of one block
abbrev pub blocks_in : List BlockRow → List (List ℕ)
blocks_in [] = []
blocks_in (r ∷ rows) = with_trip_before (blocks_in rows) (begin_with rows r.block) r.slot

-- the trip of a slot runs
pub record Runs (timetable : TimetableView) (s : ℕ) : Type 0 where
  pub within : s < length timetable.slots
  pub live : (slot_at timetable s).trip.live ≡ true

-- the slot, where there is one, is one whose trip runs
abbrev pub NamesLive : TimetableView → Option ℕ → Type 0
NamesLive timetable slot = IfSome slot (Runs timetable)

-- the prices of a record are of at most 12 digits
pub record IsPriced (row : PriceRow) : Type 0 where
  pub leave : row.leave ≤ MOST_PRICE
  pub enter : row.enter ≤ MOST_PRICE

-- the records of `blocks.csv` are at most 4,096, which name slots whose trips run, or none
pub record AreBlockRows (timetable : TimetableView) (rows : List BlockRow) : Type 0 where
  pub few : length rows ≤ MOST_SLOTS
  pub each : All (λ r. NamesLive timetable r.slot) rows

-- and so are those of `prices.csv`, with their prices
pub record ArePriceRows (timetable : TimetableView) (rows : List PriceRow) : Type 0 where
  pub few : length rows ≤ MOST_SLOTS
  pub each : All (λ r. NamesLive timetable r.slot) rows
  pub priced : All IsPriced rows
