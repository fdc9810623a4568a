-- What holds of what is read, where nothing is refused. Each part is judged by what the parts before it gave.
use Rattle.std.proofs.Common.{◌≡◌, ℕ, ◌+◌, Bool, true, false, cond, List, [], ◌∷◌, Option, Some, None, option_map, option_and_then}
use Rattle.std.proofs.Common.{Result, Ok, Err, refl}
use Rattle.std.specs.Option.{ok_or}
use Rattle.std.specs.Prelude.{IfOk, IfSome}
use Rattle.desk_io.specs.declared.shelf.Found.{Found}
use Rattle.desk_io.specs.declared.shelf.Found.TheVariants.{File, Missing, TooLong}
use Rattle.gtfs_tables.specs.declared.fault.FeedFault.{FeedFault}
use Rattle.gtfs_tables.specs.declared.paper.Paper.{Paper}
use Rattle.gtfs_tables.specs.Fold.{ColumnsIn, Step, optional_read, paper_read, table_read}
use Rattle.gtfs_tables.specs.Reading.{◌>>=◌, each_record, optional_in, or_refused, provided, table_in}
use Rattle.gtfs_tables.specs.Table.{TableView, table_of}

-- what the next part gives, by what holds of the part before it
pub read-next : {A B : Type 0} (P : A → Type 0) (Q : B → Type 0) (read : Result A FeedFault) (next : A → Result B FeedFault)
    → IfOk read P → ((x : A) → P x → IfOk (next x) Q) → IfOk (read >>= next) Q
read-next P Q (Ok x) next is more = more x is
read-next P Q (Err refused) next is more = tt

-- and whatever the part before it gave
pub read-then : {A B : Type 0} (Q : B → Type 0) (read : Result A FeedFault) (next : A → Result B FeedFault)
    → ((x : A) → IfOk (next x) Q) → IfOk (read >>= next) Q
read-then Q (Ok x) next more = more x
read-then Q (Err refused) next more = tt

-- what is read where a fact holds
pub read-provided : {A : Type 0} (P : A → Type 0) (holds : Bool) (refused : FeedFault) (rest : Result A FeedFault)
    → (holds ≡ true → IfOk rest P) → IfOk (provided holds refused rest) P
read-provided P true refused rest is = is refl
read-provided P false refused rest is = tt

-- what is read where there is a value
pub read-or : {A : Type 0} (P : A → Type 0) (value : Option A) (refused : FeedFault) → IfSome value P → IfOk (ok_or value refused) P
read-or P (Some x) refused is = is
read-or P None refused is = tt

-- what each record keeps holds after all
pub read-each : {A R : Type 0} (P : A → Type 0) (read : ℕ → A → R → Result A FeedFault)
    → ((number : ℕ) (before : A) (fields : R) → P before → IfOk (read number before fields) P)
    → (number : ℕ) (before : A) (rows : List R) → P before → IfOk (each_record read number before rows) P
read-each P read keeps number before [] is = is
read-each P read keeps number before (fields ∷ rows) is =
    read-next P P (read number before fields) (λ more. each_record read (number + 1) more rows) (keeps number before fields is)
    (λ more now. read-each P read keeps (number + 1) more rows now)

module _ {C A : Type 0} (P : A → Type 0) (paper : Paper) (columns_in : ColumnsIn C) (step : C → Step A) (start : A)
    (keeps : (columns : C) (number : ℕ) (before : A) (fields : List (List ℕ)) → P before → IfOk (step columns number before fields) P)
    (begins : P start) where
  table-kept : (table : TableView) → IfOk (table_read columns_in step start table) P
  table-kept table =
      read-then P (columns_in table.header) (λ columns. each_record (step columns) 1 start table.rows)
      (λ columns. read-each P (step columns) (keeps columns) 1 start table.rows begins)

  -- what each record of a paper keeps holds after all, where the paper must be there
  pub paper-kept : (found : Found) → IfOk (paper_read paper columns_in step start found) P
  paper-kept found = read-then P (table_in paper found) (table_read columns_in step start) table-kept

  -- and where it need not be there
  pub optional-kept : (found : Found) → IfOk (optional_read paper columns_in step start found) P
  optional-kept Missing = begins
  optional-kept TooLong = tt
  optional-kept (File bytes) =
      read-then P (or_refused paper (table_of bytes)) (table_read columns_in step start) table-kept

-- what holds of a file that need not be there
pub optional-is : {A : Type 0} (P : A → Type 0) (paper : Paper) (none : A) (read : List ℕ → Result A FeedFault) → P none
    → ((bytes : List ℕ) → IfOk (read bytes) P)
    → (found : Found) → IfOk (optional_in paper none read found) P
optional-is P paper none read begins is Missing = begins
optional-is P paper none read begins is TooLong = tt
optional-is P paper none read begins is (File bytes) = is bytes

-- a value that is chosen by a test
pub some-by : {A : Type 0} (P : A → Type 0) (test : Bool) (value other : Option A) → (test ≡ true → IfSome value P)
    → (test ≡ false → IfSome other P) → IfSome (cond test value other) P
some-by P true value other is else = is refl
some-by P false value other is else = else refl

-- a value that is made of another
pub some-made : {A B : Type 0} (Q : A → Type 0) (P : B → Type 0) (made : A → B) (value : Option A) → IfSome value Q
    → ((x : A) → Q x → P (made x)) → IfSome (option_map made value) P
some-made Q P made (Some x) is makes = makes x is
some-made Q P made None is makes = tt

-- and one that another leads to
pub some-next : {A B : Type 0} (Q : A → Type 0) (P : B → Type 0) (next : A → Option B) (value : Option A) → IfSome value Q
    → ((x : A) → Q x → IfSome (next x) P) → IfSome (option_and_then next value) P
some-next Q P next (Some x) is more = more x is
some-next Q P next None is more = tt

-- whatever that is
pub some-then : {A B : Type 0} (P : B → Type 0) (next : A → Option B) (value : Option A) → ((x : A) → IfSome (next x) P)
    → IfSome (option_and_then next value) P
some-then P next (Some x) more = more x
some-then P next None more = tt

-- or made of any other
pub some-mapped : {A B : Type 0} (P : B → Type 0) (made : A → B) (value : Option A) → ((x : A) → P (made x))
    → IfSome (option_map made value) P
some-mapped P made (Some x) makes = makes x
some-mapped P made None makes = tt
