-- Reading a paper record by record, by what is made of its columns and of each record.
use Rattle.std.specs.Prelude.{◌≡◌, ℕ, ◌+◌, ◌⊎◌, List, [], ◌∷◌, map, Option, Some, None, Result, Ok, Err}
use Rattle.std.specs.List.{position_from}
use Rattle.desk_io.specs.declared.shelf.Found.{Found}
use Rattle.gtfs_tables.specs.declared.fault.FeedFault.{FeedFault}
use Rattle.gtfs_tables.specs.declared.fault.FeedFault.TheVariants as fault
use Rattle.gtfs_tables.specs.declared.paper.Paper.{Paper}
use Rattle.gtfs_tables.specs.Reading.{◌>>=◌, optional_in, or_refused, table_in, each_record}
use Rattle.gtfs_tables.specs.Rows.{padded}
use Rattle.gtfs_tables.specs.Table.{TableView, is_longer, table_of}

-- what reading makes of the header
abbrev pub ColumnsIn : Type 0 → Type 0
ColumnsIn C = List (List ℕ) → Result C FeedFault

-- what reading makes of a record of that number, after what those before it gave
abbrev pub Step : Type 0 → Type 0
Step A = ℕ → A → List (List ℕ) → Result A FeedFault

-- what a refused record of that number leaves of what those before it gave
abbrev pub Leaving : Type 0 → Type 1
Leaving A = ℕ → A → List (List ℕ) → A → Type 0

-- what a table gives: its columns, and then its records one by one
abbrev pub table_read : {C A : Type 0} → ColumnsIn C → (C → Step A) → A → TableView → Result A FeedFault
table_read columns_in step start table = columns_in table.header >>= λ columns. each_record (step columns) 1 start table.rows

-- what the bytes of a paper give
abbrev pub bytes_read : {C A : Type 0} → Paper → ColumnsIn C → (C → Step A) → A → List ℕ → Result A FeedFault
bytes_read paper columns_in step start bytes = or_refused paper (table_of bytes) >>= table_read columns_in step start

-- what a paper that must be there gives
abbrev pub paper_read : {C A : Type 0} → Paper → ColumnsIn C → (C → Step A) → A → Found → Result A FeedFault
paper_read paper columns_in step start found = table_in paper found >>= table_read columns_in step start

-- rule: a file that need not be there
-- what a paper gives that need not be there: without it there are no records
abbrev pub optional_read : {C A : Type 0} → Paper → ColumnsIn C → (C → Step A) → A → Found → Result A FeedFault
optional_read paper columns_in step start found = optional_in paper start (bytes_read paper columns_in step start) found

-- the number of the first record that is longer than the header, counted from this one
abbrev pub longer_from : ℕ → ℕ → List (List (List ℕ)) → Option ℕ
longer_from width number rows = position_from (is_longer width) number rows

-- a record that is too long is refused before all other refusals of records, wherever it is in the file
abbrev pub unless_longer : {A : Type 0} → Paper → Option ℕ → Result A FeedFault → Result A FeedFault
unless_longer paper None read = read
unless_longer paper (Some number) read = Err (fault.RowTooLong paper number)

-- rule: a record that is longer than the header
-- the refusal that is due where this one came and these records are left
abbrev pub due : Paper → Option ℕ → FeedFault → FeedFault
due paper None refused = refused
due paper (Some number) refused = fault.RowTooLong paper number

-- what the records that are left give, each padded to the width of the header
abbrev pub rest_read : {A : Type 0} → Paper → ℕ → Step A → ℕ → A → List (List (List ℕ)) → Result A FeedFault
rest_read paper width step number before rows =
    unless_longer paper (longer_from width number rows) (each_record step number before (map (padded width) rows))

-- what holds after a part was read: what it leaves where it was refused, else what holds of what it gave
abbrev pub LeftBy : {A : Type 0} → Type 0 → (A → Type 0) → Result A FeedFault → Type 0
LeftBy here next (Ok more) = next more
LeftBy here next (Err refused) = here

-- what records leave, up to the first that is refused
abbrev pub AreLeft : {A : Type 0} → Step A → Leaving A → ℕ → A → List (List (List ℕ)) → A → Type 0
AreLeft step leaving number before [] after = after ≡ before
AreLeft step leaving number before (fields ∷ rows) after =
    LeftBy (leaving number before fields after) (λ more. AreLeft step leaving (number + 1) more rows after) (step number before fields)

-- what a table leaves, up to its first refusal
abbrev pub IsTableLeft : {C A : Type 0} → ColumnsIn C → (C → Step A) → (C → Leaving A) → A → TableView → A → Type 0
IsTableLeft columns_in step leaving start table after =
    LeftBy (after ≡ start) (λ columns. AreLeft (step columns) (leaving columns) 1 start table.rows after) (columns_in table.header)

-- what a record changes at the most, whatever the answer is
abbrev pub Change : Type 0 → Type 1
Change A = List (List ℕ) → A → A → Type 0

-- no more was changed than the first of these records change, one after the other
abbrev pub AreChanged : {A : Type 0} → Change A → A → List (List (List ℕ)) → A → Type 0
AreChanged changes before [] after = after ≡ before
AreChanged {A} changes before (fields ∷ rows) after = (after ≡ before)
    ⊎ ((between : A) × changes fields before between × AreChanged changes between rows after)

-- the same of the records of a table
abbrev pub IsTableChanged : {C A : Type 0} → ColumnsIn C → (C → Change A) → A → TableView → A → Type 0
IsTableChanged {C} columns_in changes start table after =
    (after ≡ start) ⊎ ((columns : C) × (columns_in table.header ≡ Ok columns) × AreChanged (changes columns) start table.rows after)
