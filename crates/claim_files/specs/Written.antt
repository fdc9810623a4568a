-- The claim that written blocks and prices make.
use Rattle.std.specs.Prelude.{◌≡◌, ℕ, ◌<◌, ◌≤◌, List, [], length, map, slice_index, slice_index_or, All, Some, Result, Ok}
use Rattle.std.specs.List.{flat_map, range_with_len}
use Rattle.desk_io.specs.declared.shelf.Found.TheVariants.{File}
use Rattle.block_build.specs.Files.{blocks_text, minutes_before, prices_text}
use Rattle.block_build.specs.Names.{AreBlockNames, IsName}
use Rattle.deadhead_matrix.specs.Matrix.{MatrixView}
use Rattle.assignment_model.specs.Prices.{Plan, price}
use Rattle.deadhead_matrix.specs.Plans.{IsPlanFor}
use Rattle.deadhead_matrix.specs.Pulls.{IsPull}
use Rattle.deadhead_matrix.specs.Fitting.{network_of}
use Rattle.price_check.specs.declared.claim.BlockRow.{BlockRow}
use Rattle.price_check.specs.declared.claim.PriceRow.{PriceRow}
use Rattle.price_check.specs.declared.claim.TheConstants.{MOST_PRICE}
use Rattle.price_check.specs.declared.verdict.Verdict.TheVariants.{Yes}
use Rattle.price_check.specs.Claim.{ClaimedView, Runs}
use Rattle.price_check.specs.Reasons.{verdict_of}
use Rattle.trip_model.specs.declared.limits.TheConstants.{MOST_SLOTS}
use Rattle.trip_model.specs.Blocking.{empty_minutes, slots_in}
use Rattle.trip_model.specs.Links.{blocks_along}
use Rattle.trip_model.specs.Order.{by_departure}
use Rattle.trip_model.specs.Plain.{live_slots, trip_moves}
use Rattle.trip_model.specs.Timetable.{TimetableView, IsTimetable, slot_at}
use Rattle.claim_files.specs.declared.blocks.TheConstants.{MOST_SHOWN}
use Rattle.claim_files.specs.declared.fault.ClaimFault.{ClaimFault}
use Rattle.claim_files.specs.Claims.{claimed_of}

-- the row of the n-th trip of a block of that number: its name, its slot, and the empty minutes before it
abbrev pub written_trip : TimetableView → MatrixView → ℕ → List ℕ → ℕ → BlockRow
written_trip timetable matrix number block n = record {
  block = number;
  trip = (slot_at timetable (slice_index block n)).name;
  slot = Some (slice_index block n);
  deadhead = minutes_before timetable matrix block n;
}

-- the rows of a block, trip by trip
abbrev pub written_block : TimetableView → MatrixView → ℕ → List ℕ → List BlockRow
written_block timetable matrix number block = map (written_trip timetable matrix number block) (range_with_len 0 (length block))

-- the rows of blocks, block by block
abbrev pub written_blocks : TimetableView → MatrixView → List (List ℕ) → List BlockRow
written_blocks timetable matrix blocks =
    flat_map (λ number. written_block timetable matrix number (slice_index_or blocks number [])) (range_with_len 0 (length blocks))

-- the row of a slot: the name of its trip, and its two prices
abbrev pub written_price : TimetableView → List ℕ → List ℕ → ℕ → PriceRow
written_price timetable leave enter s =
    record { trip = (slot_at timetable s).name; slot = Some s; leave = price leave s; enter = price enter s }

-- the rows of the trips that run, slot by slot
abbrev pub written_prices : TimetableView → List ℕ → List ℕ → List PriceRow
written_prices timetable leave enter = map (written_price timetable leave enter) (live_slots (trip_moves timetable.slots))

-- the claim of blocks and prices
abbrev pub written_claim : TimetableView → MatrixView → List (List ℕ) → List ℕ → List ℕ → ClaimedView
written_claim timetable matrix blocks leave enter =
    record { blocks = written_blocks timetable matrix blocks; prices = written_prices timetable leave enter }

-- what is claimed by the two files as they are written
abbrev pub written : TimetableView → MatrixView → List (List ℕ) → List (List ℕ) → List ℕ → List ℕ → Result ClaimedView ClaimFault
written timetable matrix names blocks leave enter =
    claimed_of timetable (File (blocks_text timetable matrix names blocks)) (File (prices_text timetable leave enter))

-- Blocks and prices that can be written. Names are text that is not empty, and no two blocks have the same. No block is empty,
-- and its trips run; they are at most 4,096 in all. Empty minutes have at most six digits, and prices at most twelve.
pub record CanBeWritten (timetable : TimetableView) (matrix : MatrixView) (block_names blocks : List (List ℕ))
    (leave enter : List ℕ) : Type 0 where
  pub named : AreBlockNames (length blocks) block_names
  pub names : All (λ slot. IsName slot.name) timetable.slots
  pub filled : All (λ block. 0 < length block) blocks
  pub run : All (All (Runs timetable)) blocks
  pub few : length (slots_in blocks) ≤ MOST_SLOTS
  pub shown : All (λ block. (n : ℕ) → n < length block → minutes_before timetable matrix block n ≤ MOST_SHOWN) blocks
  pub left : All (λ price. price ≤ MOST_PRICE) leave
  pub entered : All (λ price. price ≤ MOST_PRICE) enter

-- The blocks of a certified plan are those along its links, by the departures of their first trips. Its timetable and its
-- matrix are valid, names are text that is not empty, and no two blocks have the same.
pub record AreOfPlan (timetable : TimetableView) (matrix : MatrixView) (block_names : List (List ℕ)) (plan : Plan)
    (blocks : List (List ℕ)) : Type 0 where
  pub valid : IsTimetable timetable
  pub pulls : All IsPull matrix.pulls
  pub certified : IsPlanFor timetable matrix plan
  pub along : blocks ≡ blocks_along plan.next (by_departure (trip_moves timetable.slots))
  pub named : AreBlockNames (length blocks) block_names
  pub names : All (λ slot. IsName slot.name) timetable.slots

-- What is written is read as a claim on which the verdict is yes, with as many vehicles and empty minutes as the blocks have.
abbrev pub IsAccepted : TimetableView → MatrixView → List (List ℕ) → List (List ℕ) → List ℕ → List ℕ → Type 0
IsAccepted timetable matrix names blocks leave enter =
    (claimed : ClaimedView) × (written timetable matrix names blocks leave enter ≡ Ok claimed)
    × (verdict_of timetable matrix claimed ≡ Yes (length blocks) (empty_minutes (network_of timetable matrix) blocks))
