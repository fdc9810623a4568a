-- Tables whose fields are texts, and which field is refused that is not one.
use Rattle.std.specs.Prelude.{◌≡◌, ℕ, ◌<◌, ◌≤◌, ◌==◌, Bool, false, not, List, [], ◌∷◌, ◌++◌, length, All, slice_index_or, Option, None}
use Rattle.std.specs.Prelude.{Some, Result, Ok, Err, if◌then◌else◌}
use Rattle.std.specs.List.{position_from}
use Rattle.std.specs.Str.{IsUtf8, is_utf8}
use Rattle.gtfs_tables.specs.Papers.{column_name_of}
use Rattle.gtfs_tables.specs.Reading.{◌>>=◌}
use Rattle.gtfs_tables.specs.Table.{TableView, column_of}
use Rattle.gtfs_tables.specs.Writing.{record_text}
use Rattle.gtfs_tables.specs.declared.fault.FeedFault.{FeedFault}
use Rattle.gtfs_tables.specs.declared.fault.FeedFault.TheVariants as fault
use Rattle.gtfs_tables.specs.declared.paper.Column.{Column}
use Rattle.gtfs_tables.specs.declared.paper.Column.TheVariants as column
use Rattle.gtfs_tables.specs.declared.paper.Paper.{Paper}

-- each name of a column and each field of a record is UTF-8
pub record AreTexts (table : TableView) : Type 0 where
  pub header : All IsUtf8 table.header
  pub rows : All (All IsUtf8) table.rows

-- a field, counted from 0, is the first of a record that is not UTF-8
pub record IsFirstBadField (row : List (List ℕ)) (place : ℕ) : Type 0 where
  pub within : place < length row
  pub bad : ¬ IsUtf8 (slice_index_or row place [])
  pub before : (k : ℕ) → k < place → IsUtf8 (slice_index_or row k [])

-- a record of a table, counted from 1 after the header, which is record 0
abbrev pub record_at : TableView → ℕ → List (List ℕ)
record_at table number = slice_index_or (table.header ∷ table.rows) number []

-- a field of the record of that number is the first of a table that is not UTF-8
pub record IsFirstBad (table : TableView) (number place : ℕ) : Type 0 where
  pub within : number ≤ length table.rows
  pub field : IsFirstBadField (record_at table number) place
  pub before : (k : ℕ) → k < number → All IsUtf8 (record_at table k)

-- the column of a place, counted from 0: the one of these whose first place in the header that is, and else another one
abbrev pub is_at : ℕ → Option ℕ → Bool
is_at place None = false
is_at place (Some first) = first == place

abbrev pub column_at : List Column → List (List ℕ) → ℕ → Column
column_at [] header place = column.Other
column_at (c ∷ columns) header place = if is_at place (column_of (column_name_of c) header) then c else column_at columns header place

-- a table is refused for its first field that is not UTF-8, the header being record 0
pub record IsRefusedFor (paper : Paper) (columns : List Column) (table : TableView) (refused : FeedFault) : Type 0 where
  pub number : ℕ
  pub place : ℕ
  pub first : IsFirstBad table number place
  pub told : refused ≡ fault.NotUtf8 paper number (column_at columns table.header place)

-- a paper is refused as it is no table, or for the first field of its table that is not UTF-8
abbrev pub IsRefusedPaper : Paper → List Column → Result TableView FeedFault → FeedFault → Type 0
IsRefusedPaper paper columns (Ok table) refused = IsRefusedFor paper columns table refused
IsRefusedPaper paper columns (Err due) refused = refused ≡ due

-- a paper is a table of texts, and something holds of it
abbrev pub IsTextPaper : (TableView → Type 0) → Result TableView FeedFault → Type 0
IsTextPaper Says (Ok table) = AreTexts table × Says table
IsTextPaper Says (Err due) = ⊥

-- the number, from 0, of the first field of a record that is not UTF-8
abbrev pub bad_field : List (List ℕ) → Option ℕ
bad_field row = position_from (λ field. not (is_utf8 field)) 0 row

-- the fields of a record of that number; it is refused for its first field that is not UTF-8, whose column the header tells
abbrev pub unless_bad : Paper → List Column → List (List ℕ) → ℕ → List (List ℕ) → Option ℕ → Result (List (List ℕ)) FeedFault
unless_bad paper columns header number row None = Ok row
unless_bad paper columns header number row (Some place) = Err (fault.NotUtf8 paper number (column_at columns header place))

abbrev pub texts_in : Paper → List Column → List (List ℕ) → ℕ → List (List ℕ) → Result (List (List ℕ)) FeedFault
texts_in paper columns header number row = unless_bad paper columns header number row (bad_field row)

-- the text so far with one record more, written by a rule, where its fields are texts
abbrev pub with_written : Paper → List Column → List (List ℕ) → (List (List ℕ) → List (List ℕ)) → ℕ → List ℕ → List (List ℕ)
    → Result (List ℕ) FeedFault
with_written paper columns header written number text row =
    texts_in paper columns header number row >>= λ fields. Ok (text ++ record_text (written fields))
