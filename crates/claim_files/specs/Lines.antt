-- The printed lines of a `no`: of a claim that cannot be read, and of a reason against one that can.
use Rattle.std.specs.Prelude.{ℕ, ◌-◌, ◌<◌, ◌≤◌, List, [], ◌∷◌, ◌++◌, length, codes, ⊤}
use Rattle.std.specs.Fmt.{decimal}
use Rattle.gtfs_tables.specs.Faults.{record_text_of}
use Rattle.gtfs_tables.specs.Papers.{file_name_of}
use Rattle.gtfs_tables.specs.declared.paper.Paper.{Paper}
use Rattle.gtfs_tables.specs.declared.paper.Paper.TheVariants as paper
use Rattle.price_check.specs.declared.verdict.Reason.{Reason}
use Rattle.price_check.specs.declared.verdict.Reason.TheVariants.{UnknownTrip, TripTwice, TripMissing, NotFit, MinutesDiffer, PriceLow}
use Rattle.price_check.specs.declared.verdict.Reason.TheVariants.{SumsDiffer}
use Rattle.price_check.specs.Claim.{ClaimedView, block_row, price_row}
use Rattle.trip_model.specs.Timetable.{TimetableView, slot_at}
use Rattle.claim_files.specs.declared.fault.ClaimFault.{ClaimFault}
use Rattle.claim_files.specs.declared.fault.ClaimFault.TheVariants as claim

-- what is printed of a claim that cannot be read; of lack of memory nothing is
abbrev pub claim_text_of : ClaimFault → List ℕ
claim_text_of (claim.Missing paper) = file_name_of paper ++ codes ": missing"
claim_text_of (claim.TooLong paper) = file_name_of paper ++ codes ": too long"
claim_text_of (claim.NotForm paper number) = record_text_of paper number (codes "not in form")
claim_text_of claim.Memory = []

-- the line of a no for that cause, with its line feed
abbrev pub no_line : List ℕ → List ℕ
no_line cause = codes "no: " ++ cause ++ 10 ∷ []

-- the whole line of a claim that cannot be read
abbrev pub claim_line_of : ClaimFault → List ℕ
claim_line_of fault = no_line (claim_text_of fault)

-- how many records a file of a claim has
abbrev pub records_in : ClaimedView → Paper → ℕ
records_in claimed paper.Blocks = length claimed.blocks
records_in claimed paper.Prices = length claimed.prices
records_in claimed _ = 0

-- the name of the trip in the record of that number, counted from 1
abbrev pub trip_named : ClaimedView → Paper → ℕ → List ℕ
trip_named claimed paper.Blocks number = (block_row claimed.blocks (number - 1)).trip
trip_named claimed paper.Prices number = (price_row claimed.prices (number - 1)).trip
trip_named claimed _ number = []

-- a file of a claim has a record of that number, counted from 1
pub record HasRecord (claimed : ClaimedView) (paper : Paper) (number : ℕ) : Type 0 where
  pub counted : 0 < number
  pub within : number ≤ records_in claimed paper

-- the records and the slots whose names are printed of a reason are there
abbrev pub IsTold : TimetableView → ClaimedView → Reason → Type 0
IsTold timetable claimed (UnknownTrip paper number) = HasRecord claimed paper number
IsTold timetable claimed (TripTwice paper number) = HasRecord claimed paper number
IsTold timetable claimed (TripMissing paper s) = s < length timetable.slots
IsTold timetable claimed (NotFit number) = HasRecord claimed paper.Blocks number
IsTold timetable claimed (MinutesDiffer number shown minutes) = ⊤
IsTold timetable claimed (PriceLow i j) = (i < length timetable.slots) × (j < length timetable.slots)
IsTold timetable claimed (SumsDiffer prices weights) = ⊤

-- rule: the text of a `no`
-- what is printed of a reason
abbrev pub reason_text_of : TimetableView → ClaimedView → Reason → List ℕ
reason_text_of timetable claimed (UnknownTrip paper number) =
    record_text_of paper number (codes "unknown trip " ++ trip_named claimed paper number)
reason_text_of timetable claimed (TripTwice paper number) =
    record_text_of paper number (codes "trip " ++ (trip_named claimed paper number ++ codes " twice"))
reason_text_of timetable claimed (TripMissing paper s) = file_name_of paper
    ++ (codes ": trip " ++ ((slot_at timetable s).name ++ codes " missing"))
reason_text_of timetable claimed (NotFit number) =
    record_text_of paper.Blocks number (trip_named claimed paper.Blocks number ++ codes " does not fit")
reason_text_of timetable claimed (MinutesDiffer number shown minutes) =
    record_text_of paper.Blocks number (codes "minutes " ++ (decimal shown ++ (codes ", not " ++ decimal minutes)))
reason_text_of timetable claimed (PriceLow i j) =
    codes "price of " ++ ((slot_at timetable i).name ++ (codes " to " ++ ((slot_at timetable j).name ++ codes " too low")))
reason_text_of timetable claimed (SumsDiffer prices weights) = codes "prices sum to "
    ++ (decimal prices ++ (codes ", weights to " ++ decimal weights))

-- the whole line of a reason
abbrev pub reason_line_of : TimetableView → ClaimedView → Reason → List ℕ
reason_line_of timetable claimed reason = no_line (reason_text_of timetable claimed reason)
