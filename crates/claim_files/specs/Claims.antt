-- What is claimed by two files, or why they are no claim.
use Rattle.std.specs.Prelude.{◌≡◌, ℕ, List, Result, Ok, Err, ⊤}
use Rattle.desk_io.specs.declared.shelf.Found.{Found}
use Rattle.gtfs_tables.specs.declared.fault.FeedFault.{FeedFault}
use Rattle.gtfs_tables.specs.declared.fault.FeedFault.TheVariants as fault
use Rattle.gtfs_tables.specs.declared.paper.Paper.{Paper}
use Rattle.gtfs_tables.specs.declared.paper.Paper.TheVariants as paper
use Rattle.price_check.specs.declared.claim.BlockRow.{BlockRow}
use Rattle.price_check.specs.declared.claim.PriceRow.{PriceRow}
use Rattle.price_check.specs.Claim.{ClaimedView}
use Rattle.trip_model.specs.Timetable.{TimetableView}
use Rattle.claim_files.specs.declared.fault.ClaimFault.{ClaimFault}
use Rattle.claim_files.specs.declared.fault.ClaimFault.TheVariants as claim
use Rattle.claim_files.specs.Blocks.{rows_of}
use Rattle.claim_files.specs.Prices.{prices_of}

-- the record at which a file is refused, counted from 1 after the header; 0 where it is refused for its header
abbrev pub refused_at : FeedFault → ℕ
refused_at (fault.RowTooLong paper number) = number
refused_at (fault.NotUtf8 paper number column) = number
refused_at (fault.EmptyField paper number column) = number
refused_at (fault.BadNumber paper number column) = number
refused_at (fault.DuplicateRow paper number) = number
refused_at (fault.TooManyTrips number) = number
refused_at _ = 0

-- why a file is no part of a claim, by why it is refused
abbrev pub claim_fault_of : Paper → FeedFault → ClaimFault
claim_fault_of paper (fault.Missing _) = claim.Missing paper
claim_fault_of paper (fault.TooLong _) = claim.TooLong paper
claim_fault_of paper fault.Memory = claim.Memory
claim_fault_of paper refused = claim.NotForm paper (refused_at refused)

-- the claim of both files, each with its rows or its fault
abbrev pub claimed_by : Result (List BlockRow) FeedFault → Result (List PriceRow) FeedFault → Result ClaimedView ClaimFault
claimed_by (Err refused) prices = Err (claim_fault_of paper.Blocks refused)
claimed_by (Ok blocks) (Err refused) = Err (claim_fault_of paper.Prices refused)
claimed_by (Ok blocks) (Ok prices) = Ok (record { blocks = blocks; prices = prices })

-- rule: the order of refusals from file to file
-- what is claimed, or the first fault of `blocks.csv` and then of `prices.csv`
abbrev pub claimed_of : TimetableView → Found → Found → Result ClaimedView ClaimFault
claimed_of timetable blocks prices = claimed_by (rows_of timetable blocks) (prices_of timetable prices)

-- a fault is the one that was due, or lack of memory, which is never due
abbrev pub FailsFor : ClaimFault → Result ClaimedView ClaimFault → Type 0
FailsFor claim.Memory due = ⊤
FailsFor fault due = due ≡ Err fault

-- a call gives what is claimed, or the fault that was due, or it found no memory
abbrev pub GivesClaim : Result ClaimedView ClaimFault → Result ClaimedView ClaimFault → Type 0
GivesClaim (Ok claimed) due = due ≡ Ok claimed
GivesClaim (Err fault) due = FailsFor fault due
