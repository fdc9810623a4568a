-- Reading one part of a feed after another, up to the first refusal.
use Rattle.std.specs.Prelude.{◌≡◌, ℕ, ◌+◌, Bool, not, ◌==◌, List, [], ◌∷◌, length, nat_le, slice_index_or, Option, Some, None, option_map}
use Rattle.std.specs.Prelude.{unwrap_or, Result, Ok, Err, ⊤, if◌then◌else◌}
use Rattle.std.specs.Option.{ok_or}
use Rattle.std.specs.Str.{is_utf8}
use Rattle.desk_io.specs.declared.shelf.Found.{Found}
use Rattle.desk_io.specs.declared.shelf.Found.TheVariants.{File, Missing, TooLong}
use Rattle.gtfs_tables.specs.declared.fault.FeedFault.{FeedFault}
use Rattle.gtfs_tables.specs.declared.fault.FeedFault.TheVariants as fault
use Rattle.gtfs_tables.specs.declared.paper.Paper.{Paper}
use Rattle.gtfs_tables.specs.declared.paper.Column.{Column}
use Rattle.gtfs_tables.specs.declared.table.TableFault.{TableFault}
use Rattle.gtfs_tables.specs.declared.table.TableFault.TheVariants as table
use Rattle.gtfs_tables.specs.Numbers.{number_of}
use Rattle.gtfs_tables.specs.Papers.{column_name_of}
use Rattle.gtfs_tables.specs.Records.{records}
use Rattle.gtfs_tables.specs.Spaces.{without_spaces}
use Rattle.gtfs_tables.specs.Table.{TableView, table_of, column_of}
use Rattle.gtfs_tables.specs.Times.{seconds_of}

-- what is read next, where nothing was refused so far
infixl 10 ◌>>=◌
abbrev pub ◌>>=◌ : {A B : Type 0} → Result A FeedFault → (A → Result B FeedFault) → Result B FeedFault
(Ok x) >>= next = next x
(Err refused) >>= next = Err refused

-- what is read where a fact holds, and else the refusal
abbrev pub provided : {A : Type 0} → Bool → FeedFault → Result A FeedFault → Result A FeedFault
provided holds refused rest = if holds then rest else Err refused

-- a fault is the one that was due, or lack of memory, which is never due
abbrev pub Fails : {A : Type 0} → FeedFault → Result A FeedFault → Type 0
Fails fault.Memory read = ⊤
Fails refused read = read ≡ Err refused

-- A call gives what the definition of its reading gives, seen by a view, or it found no memory.
abbrev pub Gives : {X Y : Type 0} → (X → Y) → Result X FeedFault → Result Y FeedFault → Type 0
Gives view (Ok x) read = read ≡ Ok (view x)
Gives view (Err refused) read = Fails refused read

-- why the bytes of a paper are no table
abbrev pub table_refusal : Paper → TableFault → FeedFault
table_refusal paper table.NoHeader = fault.NoHeader paper
table_refusal paper (table.RowTooLong number) = fault.RowTooLong paper number
table_refusal paper table.Memory = fault.Memory

-- a table, or the refusal of its paper
abbrev pub or_refused : Paper → Result TableView TableFault → Result TableView FeedFault
or_refused paper (Ok table) = Ok table
or_refused paper (Err refused) = Err (table_refusal paper refused)

-- the table of a paper that must be there
abbrev pub table_in : Paper → Found → Result TableView FeedFault
table_in paper Missing = Err (fault.Missing paper)
table_in paper TooLong = Err (fault.TooLong paper)
table_in paper (File bytes) = or_refused paper (table_of bytes)

-- the header of records, whatever comes after it
abbrev pub header_from : Paper → List (List (List ℕ)) → Result (List (List ℕ)) FeedFault
header_from paper [] = Err (fault.NoHeader paper)
header_from paper (header ∷ rows) = Ok header

-- the header of a paper that must be there
abbrev pub header_in : Paper → Found → Result (List (List ℕ)) FeedFault
header_in paper Missing = Err (fault.Missing paper)
header_in paper TooLong = Err (fault.TooLong paper)
header_in paper (File bytes) = header_from paper (records bytes)

-- the bytes of a file that need not be there, if it is
abbrev pub optional_bytes : Paper → Found → Result (Option (List ℕ)) FeedFault
optional_bytes paper Missing = Ok None
optional_bytes paper TooLong = Err (fault.TooLong paper)
optional_bytes paper (File bytes) = Ok (Some bytes)

-- what bytes give, and what there is without them
abbrev pub or_none : {A : Type 0} → A → (List ℕ → Result A FeedFault) → Option (List ℕ) → Result A FeedFault
or_none none read None = Ok none
or_none none read (Some bytes) = read bytes

-- what the bytes of a file give that need not be there
abbrev pub optional_in : {A : Type 0} → Paper → A → (List ℕ → Result A FeedFault) → Found → Result A FeedFault
optional_in paper none read found = optional_bytes paper found >>= or_none none read

-- nothing was to be read, and nothing is refused
abbrev pub nothing : Result (Unit {0}) FeedFault
nothing = Ok tt

-- a paper is a table, and nothing more is read of it
abbrev pub judged : Paper → Found → Result (Unit {0}) FeedFault
judged paper found = table_in paper found >>= λ _. nothing

-- the number, from 0, of a column that must be there
abbrev pub column_in : Paper → Column → List (List ℕ) → Result ℕ FeedFault
column_in paper column header = ok_or (column_of (column_name_of column) header) (fault.NoColumn paper column)

-- rule: a column that need not be there
-- the number, from 0, of a column that need not be there; where it is not, of the next column
abbrev pub place_of : Column → List (List ℕ) → ℕ
place_of column header = unwrap_or (column_of (column_name_of column) header) (length header)

-- the field of a record in the column of that number
abbrev pub field_at : List (List ℕ) → ℕ → List ℕ
field_at fields place = slice_index_or fields place []

-- the bytes of a field of that record and column, which must be UTF-8
abbrev pub text_in : Paper → ℕ → Column → List ℕ → Result (List ℕ) FeedFault
text_in paper number column bytes = provided (is_utf8 bytes) (fault.NotUtf8 paper number column) (Ok bytes)

-- the text of a field of that record and column, which must not be empty
abbrev pub filled_in : Paper → ℕ → Column → List ℕ → Result (List ℕ) FeedFault
filled_in paper number column text = provided (not (length text == 0)) (fault.EmptyField paper number column) (Ok text)

-- a number that is at most this, if there is one
abbrev pub at_most : ℕ → Option ℕ → Option ℕ
at_most most None = None
at_most most (Some value) = if nat_le value most then Some value else None

-- the value of a field of that record and column: a number of at most so many digits that is at most this
abbrev pub number_in : Paper → ℕ → Column → ℕ → ℕ → List ℕ → Result ℕ FeedFault
number_in paper number column digits most text = ok_or (at_most most (number_of digits text)) (fault.BadNumber paper number column)

-- the seconds of a time in a field of that record and column, if there is one: spaces alone are none
abbrev pub time_in : Paper → ℕ → Column → List ℕ → Result (Option ℕ) FeedFault
time_in paper number column text =
    if length (without_spaces text) == 0 then Ok None
    else ok_or (option_map Some (seconds_of text)) (fault.BadTime paper number column)

-- the records one by one, each with its number, the first with this one, and with what those before it gave
abbrev pub each_record : {A R : Type 0} → (ℕ → A → R → Result A FeedFault) → ℕ → A → List R → Result A FeedFault
each_record read number so_far [] = Ok so_far
each_record read number so_far (fields ∷ rows) = read number so_far fields >>= λ more. each_record read (number + 1) more rows
