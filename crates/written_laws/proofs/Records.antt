-- Records that give the same, and records of which each gives what another gives, changed alike.
use Rattle.std.proofs.Common.{◌≡◌, ℕ, suc, ◌+◌, ◌<◌, true, List, [], ◌∷◌, length, get_or, map, Result, Ok, Err, refl, ap, ◌∙◌, arith}
use Rattle.std.specs.Prelude.{All}
use Rattle.std.specs.Str.{is_utf8}
use Rattle.std.proofs.lemmas.List.Elements.{All-head, All-tail}
use Rattle.desk_io.specs.declared.shelf.Found.TheVariants.{File}
use Rattle.gtfs_tables.specs.declared.fault.FeedFault.{FeedFault}
use Rattle.gtfs_tables.specs.declared.fault.FeedFault.TheVariants as fault
use Rattle.gtfs_tables.specs.declared.paper.Column.{Column}
use Rattle.gtfs_tables.specs.declared.paper.Paper.{Paper}
use Rattle.gtfs_tables.specs.Fold.{ColumnsIn, Step, paper_read, table_read}
use Rattle.gtfs_tables.specs.Reading.{◌>>=◌, each_record, or_refused, provided, text_in}
use Rattle.gtfs_tables.specs.Table.{TableView, table_of}
use Rattle.claim_files.proofs.EachRecord.{provided-parts, read-parts, same_Ok}

-- the type of what a reading gives, and of what a function takes second, where their crate keeps it to itself
abbrev pub GivenBy : {A X : Type 0} → (X → Result A FeedFault) → Type 0
GivenBy {A} {X} read = A

abbrev pub TakenBy : {A B C : Type 0} → (A → B → C) → Type 0
TakenBy {A} {B} {C} f = B

-- what is read of the bytes of a table
pub of-table : {C A : Type 0} (paper : Paper) (columns_in : ColumnsIn C) (step : C → Step A) (start : A) (bytes : List ℕ)
    (table : TableView)
    → table_of bytes ≡ Ok table → paper_read paper columns_in step start (File bytes) ≡ table_read columns_in step start table
of-table paper columns_in step start bytes table e = ap (λ found. or_refused paper found >>= table_read columns_in step start) e

then-same : {A B : Type 0} (here : Result A FeedFault) (f g : A → Result B FeedFault) → ((a : A) → f a ≡ g a) → (here >>= f) ≡ (here >>= g)
then-same (Ok a) f g same = same a
then-same (Err refused) f g same = refl

-- records of which each gives what another one gives
pub each-same : {A : Type 0} (read : Step A) (n : ℕ) (a : A) (rows others : List (List (List ℕ))) → length others ≡ length rows
    → ((i : ℕ) → i < length rows → (m : ℕ) (b : A) → read m b (get_or others i []) ≡ read m b (get_or rows i []))
    → each_record read n a others ≡ each_record read n a rows
each-same read n a [] [] long each = refl
each-same read n a [] (other ∷ others) long each = absurd (omega (arith, long))
each-same read n a (row ∷ rows) [] long each = absurd (omega (arith, long))
each-same read n a (row ∷ rows) (other ∷ others) long each =
    ap (λ here. here >>= λ more. each_record read (n + 1) more others) (each 0 (omega arith) n a)
    ∙ then-same (read n a row) (λ more. each_record read (n + 1) more others) (λ more. each_record read (n + 1) more rows)
    (λ more. each-same read (n + 1) more rows others (omega (arith, long)) (λ i within. each (suc i) (omega arith)))

-- records of which each, changed, makes of what was made before, changed, what it made of that, changed
pub each-changed : {A R : Type 0} (read : ℕ → A → R → Result A FeedFault) (f : A → A) (g : R → R) (P : R → Type 0)
    → ((n : ℕ) (a b : A) (row : R) → P row → read n a row ≡ Ok b → read n (f a) (g row) ≡ Ok (f b))
    → (n : ℕ) (a b : A) (rows : List R) → All P rows → each_record read n a rows ≡ Ok b → each_record read n (f a) (map g rows) ≡ Ok (f b)
each-changed read f g P changes n a b [] all e = ap (λ x. Ok (f x)) (same_Ok a b e)
each-changed read f g P changes n a b (row ∷ rows) all e =
    let parts = read-parts (read n a row) (λ more. each_record read (n + 1) more rows) b e in
    ap (λ here. here >>= λ more. each_record read (n + 1) more (map g rows)) (changes n a parts.0 row (All-head P row rows all) parts.1)
    ∙ each-changed read f g P changes (n + 1) parts.0 b rows (All-tail P row rows all) parts.2

-- a text that was read is text, and is the field
pub text-parts : (paper : Paper) (number : ℕ) (asked : Column) (bytes text : List ℕ) → text_in paper number asked bytes ≡ Ok text
    → (is_utf8 bytes ≡ true) × (bytes ≡ text)
text-parts paper number asked bytes text e =
    let parts = provided-parts (is_utf8 bytes) (fault.NotUtf8 paper number asked) (Ok bytes) text e in
    (parts.0, same_Ok bytes text parts.1)

-- a text is read
pub text-reads : (paper : Paper) (number : ℕ) (asked : Column) (bytes : List ℕ) → is_utf8 bytes ≡ true
    → text_in paper number asked bytes ≡ Ok bytes
text-reads paper number asked bytes text = ap (λ b. provided b (fault.NotUtf8 paper number asked) (Ok bytes)) text
