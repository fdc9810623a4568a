-- What is written reads back.
use Rattle.std.specs.Prelude.{◌≡◌, ℕ, ◌≤◌, List, All, IsUtf8, Some}
use Rattle.gtfs_tables.specs.declared.times.TheConstants.{LAST_SECOND}
use Rattle.gtfs_tables.specs.Records.{records}
use Rattle.gtfs_tables.specs.Times.{minute_digits, minute_of, rounded_down}
use Rattle.gtfs_tables.specs.Writing.{record_text, records_text, ReadBack}

-- records that are written read back as the same records
abbrev pub ReadsBack : Type 0
ReadsBack = (rows : List (List (List ℕ))) → ReadBack rows → records (records_text rows) ≡ rows

-- a record of fields that are UTF-8 is written in UTF-8
abbrev pub StaysText : Type 0
StaysText = (fields : List (List ℕ)) → All IsUtf8 fields → IsUtf8 (record_text fields)

-- a minute up to 99:59 that is printed reads as the same minute
abbrev pub MinuteReadsBack : Type 0
MinuteReadsBack = (minute : ℕ) → minute ≤ rounded_down LAST_SECOND → minute_of (minute_digits minute) ≡ Some minute
