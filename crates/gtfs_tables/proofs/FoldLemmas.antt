-- The records of a paper taken in one after the other, and what those that are left still give.
use Rattle.std.proofs.Common.{◌≡◌, ◌≢◌, ℕ, ◌+◌, ◌-◌, ◌<◌, ◌≤◌, inl, inr, List, [], ◌∷◌, length, map, Option, Some, None, Result, Ok, Err}
use Rattle.std.proofs.Common.{refl, sym, ap, subst, arith, ◌∙◌}
use Rattle.std.proofs.lemmas.Bool.{le-ltb, lt-ltb}
use Rattle.std.proofs.lemmas.List.{append-nil}
use Rattle.gtfs_tables.proofs.Fields.{padded-length}
use Rattle.gtfs_tables.proofs.ReadingLemmas.{Fails->>=, Fails-due, Fails-equal}
use Rattle.gtfs_tables.specs.Fold.{due, longer_from, paper_read, rest_read, table_read, unless_longer, AreChanged, AreLeft}
use Rattle.gtfs_tables.specs.Fold.{Change, ColumnsIn, IsTableChanged, IsTableLeft, LeftBy, Leaving, Step}
use Rattle.desk_io.specs.declared.shelf.Found.{Found}
use Rattle.gtfs_tables.specs.Reading.{◌>>=◌, each_record, judged, nothing, or_refused, table_in, Fails}
use Rattle.gtfs_tables.specs.Rows.{padded}
use Rattle.gtfs_tables.specs.Table.{TableView, table_from, unless_too_long, with_header}
use Rattle.gtfs_tables.specs.declared.fault.FeedFault.{FeedFault}
use Rattle.gtfs_tables.specs.declared.fault.FeedFault.TheVariants as fault
use Rattle.gtfs_tables.specs.declared.paper.Paper.{Paper}

abbrev pub Fields : Type 0
Fields = List (List ℕ)

-- a padded record is longer than the width exactly where the record is
pub long-record : (width : ℕ) (row fields : Fields) → row ≡ padded width fields → width < length row → width < length fields
long-record width row fields is long = omega (arith, padded-length width fields, ap length is)

pub short-record : (width : ℕ) (row fields : Fields) → row ≡ padded width fields → length row ≤ width → length fields ≤ width
short-record width row fields is fits = omega (arith, padded-length width fields, ap length is)

-- the first longer record, where the next one is
pub longer-here : (width number : ℕ) (left rest : List Fields) (fields : Fields) → left ≡ fields ∷ rest → width < length fields
    → longer_from width number left ≡ Some number
longer-here width number left rest fields is long = rw (is, lt-ltb width (length fields) long) refl

-- the first longer record, where the next one is not
pub longer-after : (width number : ℕ) (left rest : List Fields) (fields : Fields) → left ≡ fields ∷ rest → length fields ≤ width
    → longer_from width number left ≡ longer_from width (number + 1) rest
longer-after width number left rest fields is fits = rw (is, le-ltb width (length fields) fits) refl

-- the refusal that is told fails as the one that it is
Fails-told : {X : Type 0} (told refused : FeedFault) (read : Result X FeedFault) → told ≡ refused → Fails refused read → Fails told read
Fails-told told refused read same fails = subst (λ f. Fails f read) (sym same) fails

-- the refusal that is due, where a part was refused and no later record is longer, or one is
pub due-fails : {X Y : Type 0} (paper : Paper) (longer : Option ℕ) (refused : FeedFault) (read : Result X FeedFault)
    (next : X → Result Y FeedFault) → Fails refused read
    → Fails (due paper longer refused) (unless_longer paper longer (read >>= next))
due-fails paper None refused read next fails = Fails->>= refused read next fails
due-fails paper (Some n) refused read next fails = refl

-- after so many records this much has been taken in, and the records that are left give what all gave
pub record IsFolded {A : Type 0} (paper : Paper) (width : ℕ) (step : Step A) (leaving : Leaving A) (start : A) (all : List Fields)
    (number : ℕ) (now : A) (left : List Fields) : Type 0 where
  pub read : rest_read paper width step (number + 1) now left ≡ rest_read paper width step 1 start all
  pub longer : longer_from width (number + 1) left ≡ longer_from width 1 all
  pub leaves : (after : A) → AreLeft step leaving (number + 1) now (map (padded width) left) after
      → AreLeft step leaving 1 start (map (padded width) all) after

module _ {A : Type 0} (paper : Paper) (width : ℕ) (step : Step A) (leaving : Leaving A) (start : A) (all : List Fields) where
  pub folded-none : IsFolded paper width step leaving start all 0 start all
  folded-none = record { read = refl; longer = refl; leaves = λ after are. are }

  module _ (number : ℕ) (now : A) (left rest : List Fields) (fields row : Fields)
      (folded : IsFolded paper width step leaving start all number now left) (next : left ≡ fields ∷ rest) where
    -- what the records that are left give, by the next one and those after it
    read-next : length fields ≤ width → row ≡ padded width fields
        → rest_read paper width step (number + 1) now left
        ≡ unless_longer paper (longer_from width (number + 1 + 1) rest)
        (step (number + 1) now row >>= λ more. each_record step (number + 1 + 1) more (map (padded width) rest))
    read-next fits is =
        ap (λ longer. unless_longer paper longer (each_record step (number + 1) now (map (padded width) left)))
        (longer-after width (number + 1) left rest fields next fits)
        ∙ ap (λ rows. unless_longer paper (longer_from width (number + 1 + 1) rest)
        (each_record step (number + 1) now (map (padded width) rows))) next
        ∙ ap (λ padded_row. unless_longer paper (longer_from width (number + 1 + 1) rest)
        (step (number + 1) now padded_row >>= λ more. each_record step (number + 1 + 1) more (map (padded width) rest))) (sym is)

    -- what they leave, by the next one and those after it
    leaves-next : (after : A) → row ≡ padded width fields
        → LeftBy (leaving (number + 1) now row after) (λ more. AreLeft step leaving (number + 1 + 1) more (map (padded width) rest) after)
        (step (number + 1) now row)
        → AreLeft step leaving 1 start (map (padded width) all) after
    leaves-next after is by = folded.leaves after
        (subst (λ rows. AreLeft step leaving (number + 1) now (map (padded width) rows) after) (sym next)
        (subst (λ padded_row. LeftBy (leaving (number + 1) now padded_row after)
        (λ more. AreLeft step leaving (number + 1 + 1) more (map (padded width) rest) after) (step (number + 1) now padded_row)) is by))

    -- a record was taken in
    pub folded-more : (more : A) → length fields ≤ width → row ≡ padded width fields → step (number + 1) now row ≡ Ok more
        → IsFolded paper width step leaving start all (number + 1) more rest
    folded-more more fits is gives = record {
      read = sym (read-next fits is ∙ ap (λ read. unless_longer paper (longer_from width (number + 1 + 1) rest)
          (read >>= λ more. each_record step (number + 1 + 1) more (map (padded width) rest))) gives) ∙ folded.read;
      longer = sym (longer-after width (number + 1) left rest fields next fits) ∙ folded.longer;
      leaves = λ after are. leaves-next after is
          (subst (λ read. LeftBy (leaving (number + 1) now row after)
          (λ more. AreLeft step leaving (number + 1 + 1) more (map (padded width) rest) after) read) (sym gives) are);
    }

    -- a record is too long
    pub folded-long : width < length fields → longer_from width 1 all ≡ Some (number + 1)
    folded-long long = sym folded.longer ∙ longer-here width (number + 1) left rest fields next long

    pub folded-long-read : width < length fields → rest_read paper width step 1 start all ≡ Err (fault.RowTooLong paper (number + 1))
    folded-long-read long = ap (λ longer. unless_longer paper longer (each_record step 1 start (map (padded width) all))) (folded-long long)

    -- a record was refused
    pub folded-refused : (refused told : FeedFault) → length fields ≤ width → row ≡ padded width fields
        → Fails refused (step (number + 1) now row)
        → told ≡ due paper (longer_from width (number + 1 + 1) rest) refused → Fails told (rest_read paper width step 1 start all)
    folded-refused refused told fits is fails tells =
        Fails-equal told _ _ (sym (read-next fits is) ∙ folded.read)
        (Fails-told told (due paper (longer_from width (number + 1 + 1) rest) refused) _ tells
        (due-fails paper (longer_from width (number + 1 + 1) rest) refused _ _ fails))

    pub folded-refused-left : (refused told : FeedFault) (after : A) → length fields ≤ width → row ≡ padded width fields
        → Fails refused (step (number + 1) now row)
        → told ≡ due paper (longer_from width (number + 1 + 1) rest) refused → told ≢ fault.Memory → longer_from width 1 all ≡ None
        → (refused ≢ fault.Memory → leaving (number + 1) now row after) → AreLeft step leaving 1 start (map (padded width) all) after
    folded-refused-left refused told after fits is fails tells other none leaves =
        let rest_none : longer_from width (number + 1 + 1) rest ≡ None = sym (longer-after width (number + 1) left rest fields next fits)
        ∙ folded.longer ∙ none in
        let same : told ≡ refused = tells ∙ ap (λ longer. due paper longer refused) rest_none in
        let due_here : refused ≢ fault.Memory = λ is_memory. other (same ∙ is_memory) in
        leaves-next after is (subst (LeftBy (leaving (number + 1) now row after)
        (λ more. AreLeft step leaving (number + 1 + 1) more (map (padded width) rest) after))
        (sym (Fails-due refused _ due_here fails)) (leaves due_here))

  module _ (number : ℕ) (now : A) (left : List Fields) (folded : IsFolded paper width step leaving start all number now left)
      (none_left : left ≡ []) where
    -- no record is left
    pub folded-end : rest_read paper width step 1 start all ≡ Ok now
    folded-end = sym folded.read ∙ ap (λ rows. rest_read paper width step (number + 1) now rows) none_left

    pub folded-end-left : AreLeft step leaving 1 start (map (padded width) all) now
    folded-end-left = folded.leaves now
        (subst (λ rows. AreLeft step leaving (number + 1) now (map (padded width) rows) now) (sym none_left) refl)

-- what the records that are left change comes after what those before them changed
abbrev pub ChangesOn : {A : Type 0} → ℕ → Change A → A → List Fields → A → List Fields → Type 0
ChangesOn {A} width changes start all now left = (after : A) → AreChanged changes now (map (padded width) left) after
    → AreChanged changes start (map (padded width) all) after

module _ {A : Type 0} (changes : Change A) where
  -- nothing was changed yet
  pub unchanged : (now : A) (rows : List Fields) → AreChanged changes now rows now
  unchanged now [] = refl
  unchanged now (fields ∷ rows) = inl refl

  module _ (width : ℕ) (start : A) (all : List Fields) (now : A) (left : List Fields)
      (on : ChangesOn width changes start all now left) where
    -- so far no more was changed than the records taken in change
    pub changed-so_far : AreChanged changes start (map (padded width) all) now
    changed-so_far = on now (unchanged now (map (padded width) left))

    -- the next record was taken in, or refused
    pub changed-more : (rest : List Fields) (fields row : Fields) (more : A) → left ≡ fields ∷ rest → row ≡ padded width fields
        → changes row now more
        → ChangesOn width changes start all more rest
    changed-more rest fields row more next is change after are =
        on after (subst (λ rows. AreChanged changes now (map (padded width) rows) after) (sym next)
        (inr (more, subst (λ padded_row. changes padded_row now more) is change, are)))

    pub changed-record : (rest : List Fields) (fields row : Fields) (more : A) → left ≡ fields ∷ rest → row ≡ padded width fields
        → changes row now more
        → AreChanged changes start (map (padded width) all) more
    changed-record rest fields row more next is change =
        changed-more rest fields row more next is change more (unchanged more (map (padded width) rest))

-- a header that was read is its record, since nothing is put at its end
pub header-split : (all left : List Fields) (fields row : Fields) → all ≡ fields ∷ left → row ≡ padded 0 fields → all ≡ row ∷ left
header-split all left fields row split is =
    let none : 0 - length fields ≡ 0 = omega arith in
    let same : row ≡ fields = is ∙ rw none (append-nil fields) in
    split ∙ ap (λ header. header ∷ left) (sym same)

-- what the records of a paper give, the first of which is the header
abbrev pub records_read : {C A : Type 0} → Paper → ColumnsIn C → (C → Step A) → A → List Fields → Result A FeedFault
records_read paper columns_in step start all = or_refused paper (table_from all) >>= table_read columns_in step start

-- what a table of records is: its header and its records, none of them longer
table-parts : (header : Fields) (left : List Fields) (table : TableView) → table_from (header ∷ left) ≡ Ok table
    → (longer_from (length header) 1 left ≡ None) × (table ≡ record { header = header; rows = map (padded (length header)) left })
table-parts header left table is = by (longer_from (length header) 1 left) is
  where
    by : (longer : Option ℕ) → with_header header (unless_too_long longer (map (padded (length header)) left)) ≡ Ok table
        → (longer ≡ None) × (table ≡ record { header = header; rows = map (padded (length header)) left })
    by None is = (refl, sym (cc is))
    by (Some n) is = cc is

module _ {C A : Type 0} (paper : Paper) (columns_in : ColumnsIn C) (step : C → Step A) (start : A)
    (all : List Fields) (header : Fields) (left : List Fields) (split : all ≡ header ∷ left) where
  -- what the records give is what their columns give and then their records, none of them longer
  records-give : records_read paper columns_in step start all
      ≡ unless_longer paper (longer_from (length header) 1 left)
      (columns_in header >>= λ columns. each_record (step columns) 1 start (map (padded (length header)) left))
  records-give = ap (λ rows. or_refused paper (table_from rows) >>= table_read columns_in step start) split
      ∙ by (longer_from (length header) 1 left)
    where
      by : (longer : Option ℕ) → (or_refused paper (with_header header (unless_too_long longer (map (padded (length header)) left))) >>=
          table_read columns_in step start)
          ≡ unless_longer paper longer (columns_in header >>= λ columns. each_record (step columns) 1 start
          (map (padded (length header)) left))
      by None = refl
      by (Some n) = refl

  module _ (columns : C) (gives : columns_in header ≡ Ok columns) where
    pub columns-give : records_read paper columns_in step start all ≡ rest_read paper (length header) (step columns) 1 start left
    columns-give = records-give ∙ ap (λ read. unless_longer paper (longer_from (length header) 1 left)
        (read >>= λ columns. each_record (step columns) 1 start (map (padded (length header)) left))) gives

    pub columns-leave : (leaving : C → Leaving A) (table : TableView) (after : A) → table_from all ≡ Ok table
        → (longer_from (length header) 1 left ≡ None
        → AreLeft (step columns) (leaving columns) 1 start (map (padded (length header)) left) after)
        → IsTableLeft columns_in step leaving start table after
    columns-leave leaving table after is leaves =
        let parts = table-parts header left table (subst (λ rows. table_from rows ≡ Ok table) split is) in
        subst (λ t. IsTableLeft columns_in step leaving start t after) (sym parts.1)
        (subst (LeftBy (after ≡ start)
        (λ columns. AreLeft (step columns) (leaving columns) 1 start (map (padded (length header)) left) after)) (sym gives)
        (leaves parts.0))

    pub columns-change : (changes : C → Change A) (table : TableView) (after : A) → table_from all ≡ Ok table
        → AreChanged (changes columns) start (map (padded (length header)) left) after → IsTableChanged columns_in changes start table after
    columns-change changes table after is are =
        let parts = table-parts header left table (subst (λ rows. table_from rows ≡ Ok table) split is) in
        subst (λ t. IsTableChanged columns_in changes start t after) (sym parts.1) (inr (columns, gives, are))

  module _ (refused told : FeedFault) (fails : Fails refused (columns_in header))
      (tells : told ≡ due paper (longer_from (length header) 1 left) refused) where
    pub header-refused : Fails told (records_read paper columns_in step start all)
    header-refused = Fails-equal told _ _ (sym records-give)
        (Fails-told told (due paper (longer_from (length header) 1 left) refused) _ tells
        (due-fails paper (longer_from (length header) 1 left) refused _ _ fails))

    pub header-leaves : (leaving : C → Leaving A) (table : TableView) → table_from all ≡ Ok table → told ≢ fault.Memory
        → IsTableLeft columns_in step leaving start table start
    header-leaves leaving table is other =
        let parts = table-parts header left table (subst (λ rows. table_from rows ≡ Ok table) split is) in
        let same : told ≡ refused = tells ∙ ap (λ longer. due paper longer refused) parts.0 in
        let due_here : refused ≢ fault.Memory = λ is_memory. other (same ∙ is_memory) in
        subst (λ t. IsTableLeft columns_in step leaving start t start) (sym parts.1)
        (subst (LeftBy (start ≡ start)
        (λ columns. AreLeft (step columns) (leaving columns) 1 start (map (padded (length header)) left) start))
        (sym (Fails-due refused _ due_here fails)) refl)

-- records of which each gives nothing give nothing
nothing-each : (number : ℕ) (rows : List Fields) → each_record (λ _ _ _. nothing) number tt rows ≡ nothing
nothing-each number [] = refl
nothing-each number (fields ∷ rows) = nothing-each (number + 1) rows

-- a paper of which each record gives nothing is judged as a table alone
pub any_table : (paper : Paper) (found : Found) → paper_read paper (λ _. nothing) (λ _ _ _ _. nothing) tt found ≡ judged paper found
any_table paper found = by (table_in paper found)
  where
    by : (table : Result TableView FeedFault) → (table >>= table_read (λ _. nothing) (λ _ _ _ _. nothing) tt) ≡ (table >>= λ _. nothing)
    by (Ok table) = nothing-each 1 table.rows
    by (Err refused) = refl
