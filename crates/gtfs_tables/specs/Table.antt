-- A table: a header, and rows of as many fields.
use Rattle.std.specs.Prelude.{◌≡◌, ℕ, ◌<◌, ◌^◌, List, [], ◌∷◌, length, map, slice_index_or, Bool, Option, Some, None, Result, Ok, Err}
use Rattle.std.specs.Prelude.{nat_lt, ⊤}
use Rattle.std.specs.List.{position_from}
use Rattle.std.specs.Str.{bytes_eq}
use Rattle.gtfs_tables.specs.declared.table.TableFault.{TableFault}
use Rattle.gtfs_tables.specs.declared.table.TableFault.TheVariants.{NoHeader, RowTooLong, Memory}
use Rattle.gtfs_tables.specs.Records.{records}
use Rattle.gtfs_tables.specs.Rows.{padded}
use Rattle.gtfs_tables.specs.Spaces.{without_spaces}

-- what a clause sees of a table: the fields of its header, and those of each record after it
pub record TableView : Type 0 where
  pub header : List (List ℕ)
  pub rows : List (List (List ℕ))

-- whether a record has more fields than the header
abbrev pub is_longer : ℕ → List (List ℕ) → Bool
is_longer width fields = nat_lt width (length fields)

-- the padded rows, unless a record is too long
abbrev pub unless_too_long : Option ℕ → List (List (List ℕ)) → Result (List (List (List ℕ))) TableFault
unless_too_long None rows = Ok rows
unless_too_long (Some r) rows = Err (RowTooLong r)

-- the records after a header of this many fields: each padded; refused with the number, from 1, of the first that is longer
abbrev pub body_of : ℕ → List (List (List ℕ)) → Result (List (List (List ℕ))) TableFault
body_of width rows = unless_too_long (position_from (is_longer width) 1 rows) (map (padded width) rows)

-- a header over its rows
abbrev pub with_header : List (List ℕ) → Result (List (List (List ℕ))) TableFault → Result TableView TableFault
with_header header (Ok rows) = Ok (record { header = header; rows = rows })
with_header header (Err fault) = Err fault

-- the table of a list of records: the first is the header, and without one there is no table
abbrev pub table_from : List (List (List ℕ)) → Result TableView TableFault
table_from [] = Err NoHeader
table_from (header ∷ rows) = with_header header (body_of (length header) rows)

-- the table of a file
abbrev pub table_of : List ℕ → Result TableView TableFault
table_of bytes = table_from (records bytes)

-- a refusal is the one that was due, or lack of memory
abbrev pub IsFaultOf : {T : Type 0} → Result T TableFault → TableFault → Type 0
IsFaultOf due NoHeader = due ≡ Err NoHeader
IsFaultOf due (RowTooLong r) = due ≡ Err (RowTooLong r)
IsFaultOf due Memory = ⊤

-- rule: which column has a name
-- the first column whose name, without spaces at both ends, is this one; columns count from 0
abbrev pub column_of : List ℕ → List (List ℕ) → Option ℕ
column_of name header = position_from (λ column. bytes_eq (without_spaces column) name) 0 header

-- what each table keeps: every row has as many fields as the header, and a u32 counts the rows
pub record IsTable (table : TableView) : Type 0 where
  pub width : (i : ℕ) → i < length table.rows → length (slice_index_or table.rows i []) ≡ length table.header
  pub count : length table.rows < 2 ^ 32
