-- The records of a comma-separated file, by what `csv` promises of its reader.
use Rattle.std.specs.Prelude.{◌≡◌, ℕ, ◌+◌, List, [], ◌∷◌, Bool, true, false, MatchBool, Some, IsSome, length, unwrap_or}
use Rattle.std.specs.Borrow.{Bor}
use Rattle.csv.specs.Machine.{ends_at_end}
use Rattle.csv.specs.Reading as csv
use Rattle.csv.specs.declared.reader.Reader.{Reader}
use Rattle.csv.specs.declared.reader.Trim.TheVariants as trim
use Rattle.gtfs_tables.specs.Parts.{IsUnquoted}
use Rattle.gtfs_tables.specs.Rows.{padded}
use Rattle.gtfs_tables.specs.declared.records.Records.{Records}
use Rattle.gtfs_tables.specs.declared.records.Records.TheVariants.{Lines, Quoted}

-- the records that `csv` reads of bytes, with comma and double quote, of any lengths
abbrev pub records_in : List ℕ → List (List (List ℕ))
records_in bytes = csv.records csv.default_config bytes

-- rule: the records of a file
-- the records of a file, after at most one leading byte-order mark
abbrev pub records : List ℕ → List (List (List ℕ))
records bytes = records_in (csv.strip_bom bytes)

-- the bytes that a reader over a slice has yet to read; none where it has failed
abbrev pub unread : Reader (Bor (List ℕ)) → List ℕ
unread reader = unwrap_or (csv.source_of (λ (bytes : Bor (List ℕ)). Some bytes.now) reader) []

-- the records that a reader has yet to read
abbrev pub reader_left : Reader (Bor (List ℕ)) → List (List (List ℕ))
reader_left reader = csv.records_from csv.default_config (length (unread reader) + 1) (csv.reader_state reader) (unread reader)

-- a reader that is between two records, with commas and double quotes, and has not failed
pub record IsReader (reader : Reader (Bor (List ℕ))) : Type 0 where
  pub config : csv.reader_config reader ≡ csv.default_config
  pub untrimmed : csv.reader_trim reader ≡ trim.None
  pub flexible : csv.is_flexible reader ≡ true
  pub ready : csv.Ready reader
  pub source : IsSome (csv.source_of (λ (bytes : Bor (List ℕ)). Some bytes.now) reader)
  pub between : ends_at_end (csv.reader_state reader) ≡ false

-- a read found the next record of a reader, with these fields, and is behind it; or there was none left
abbrev pub ReadsQuoted : Reader (Bor (List ℕ)) → Bool → List (List ℕ) → Reader (Bor (List ℕ)) → Type 0
ReadsQuoted old found fields new =
    MatchBool found ((reader_left old ≡ fields ∷ reader_left new) × IsReader new) (reader_left old ≡ [])

-- the records that are left of a file
abbrev pub records_left : Records → List (List (List ℕ))
records_left (Lines bytes) = records_in bytes.now
records_left (Quoted reader) = reader_left reader

-- these are between two records
abbrev pub IsReading : Records → Type 0
IsReading (Lines bytes) = IsUnquoted bytes.now
IsReading (Quoted reader) = IsReader reader

-- a read found the next record, with these fields, and is behind it; or there was none left
abbrev pub ReadsNext : Records → Bool → List (List ℕ) → Records → Type 0
ReadsNext old found fields new =
    MatchBool found ((records_left old ≡ fields ∷ records_left new) × IsReading new) (records_left old ≡ [])

-- a row became the next record, padded to the width, which a longer record exceeds; or there was none left
abbrev pub ReadsRow : ℕ → Records → Bool → List (List ℕ) → Records → Type 0
ReadsRow width old found row new =
    MatchBool found ((fields : List (List ℕ)) × (records_left old ≡ fields ∷ records_left new) × (row ≡ padded width fields)
    × IsReading new) (records_left old ≡ [])
