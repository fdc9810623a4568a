-- What the bytes of a field are read as, and the reading of records one after the other, as a loop does it.
use Rattle.std.proofs.Common.{◌≡◌, ◌≢◌, refl, ℕ, ◌+◌, ◌-◌, ◌<◌, cond, List, [], ◌∷◌, length, get_or, drop, Result, Ok, Err, sym, ap, subst}
use Rattle.std.proofs.Common.{◌∙◌, arith, add-one}
use Rattle.std.specs.Str.{IsUtf8, is_utf8}
use Rattle.std.proofs.Math.Seq.{drop-cons}
use Rattle.std.proofs.lemmas.Bool.{false_from_ne_true}
use Rattle.std.proofs.lemmas.Str.{IsUtf8-from_is_utf8, is_utf8-from_IsUtf8}
use Rattle.gtfs_tables.specs.declared.fault.FeedFault.{FeedFault}
use Rattle.gtfs_tables.specs.declared.fault.FeedFault.TheVariants as fault
use Rattle.gtfs_tables.specs.declared.paper.Paper.{Paper}
use Rattle.gtfs_tables.specs.declared.paper.Column.{Column}
use Rattle.gtfs_tables.specs.declared.table.TableFault.{TableFault}
use Rattle.gtfs_tables.specs.Reading.{◌>>=◌, Fails, each_record, header_from, header_in, or_refused, table_in, text_in}
use Rattle.gtfs_tables.specs.Records.{records}
use Rattle.gtfs_tables.specs.Table.{TableView, body_of, table_from, with_header}
use Rattle.desk_io.specs.declared.shelf.Found.{Found}
use Rattle.desk_io.specs.declared.shelf.Found.TheVariants.{File, Missing, TooLong}

pub text_in-utf8 : (paper : Paper) (number : ℕ) (column : Column) (bytes : List ℕ) → IsUtf8 bytes
    → text_in paper number column bytes ≡ Ok bytes
text_in-utf8 paper number column bytes is =
    ap (λ b. cond b (Ok bytes) (Err (fault.NotUtf8 paper number column))) (is_utf8-from_IsUtf8 bytes is)

pub text_in-other : (paper : Paper) (number : ℕ) (column : Column) (bytes : List ℕ) → ¬ IsUtf8 bytes
    → text_in paper number column bytes ≡ Err (fault.NotUtf8 paper number column)
text_in-other paper number column bytes is_not =
    ap (λ b. cond b (Ok bytes) (Err (fault.NotUtf8 paper number column)))
    (false_from_ne_true (is_utf8 bytes) (λ is. is_not (IsUtf8-from_is_utf8 bytes is)))

-- what was refused is refused with all that follows
pub Fails->>= : {A B : Type 0} (refused : FeedFault) (read : Result A FeedFault) (next : A → Result B FeedFault) → Fails refused read
    → Fails refused (read >>= next)
Fails->>= fault.Memory read next due = tt
Fails->>= refused read next due = ap (λ r. r >>= next) due

-- a refusal other than lack of memory was due
pub Fails-due : {A : Type 0} (refused : FeedFault) (read : Result A FeedFault) → refused ≢ fault.Memory → Fails refused read
    → read ≡ Err refused
Fails-due fault.Memory read other due = absurd (other refl)
Fails-due refused read other due = due

-- equal readings refuse alike
pub Fails-equal : {A : Type 0} (refused : FeedFault) (read other : Result A FeedFault) → read ≡ other → Fails refused read
    → Fails refused other
Fails-equal refused read other same due = subst (λ r. Fails refused r) same due

module _ {A X : Type 0} (read : ℕ → A → List X → Result A FeedFault) (rows : List (List X)) where
  -- the next record's part in the reading of all that are left
  records_next : (number : ℕ) (before : A) (fields : List X) (r : ℕ) → r < length rows → fields ≡ get_or rows (r + 1 - 1) []
      → each_record read number before
      (drop r rows) ≡ (read number before fields >>= λ more. each_record read (number + 1) more (drop (r + 1) rows))
  records_next number before fields r lt at =
      let back : r + 1 - 1 ≡ r = omega arith in
      ap (each_record read number before) (drop-cons rows r [] lt)
      ∙ ap (λ n. read number before (get_or rows r []) >>= λ more. each_record read (number + 1) more (drop n rows)) (sym (add-one r))
      ∙ ap (λ fields. read number before fields >>= λ more. each_record read (number + 1) more (drop (r + 1) rows))
      (sym (at ∙ ap (λ n. get_or rows n []) back))

  -- a record was read
  pub records_go_on : (number : ℕ) (before after : A) (fields : List X) (r : ℕ) (all : Result A FeedFault) → r < length rows
      → fields ≡ get_or rows (r + 1 - 1) []
      → read number before fields ≡ Ok after → each_record read number before (drop r rows) ≡ all
      → each_record read (number + 1) after (drop (r + 1) rows) ≡ all
  records_go_on number before after fields r all lt at is so_far =
      sym (ap (λ step. step >>= λ more. each_record read (number + 1) more (drop (r + 1) rows)) is)
      ∙ sym (records_next number before fields r lt at) ∙ so_far

  -- a record was refused
  pub records_end : (number : ℕ) (before : A) (fields : List X) (r : ℕ) (refused : FeedFault) (all : Result A FeedFault) → r < length rows
      → fields ≡ get_or rows (r + 1 - 1) []
      → Fails refused (read number before fields) → each_record read number before (drop r rows) ≡ all → Fails refused all
  records_end number before fields r refused all lt at due so_far =
      Fails-equal refused _ all (sym (records_next number before fields r lt at) ∙ so_far)
      (Fails->>= refused (read number before fields) (λ more. each_record read (number + 1) more (drop (r + 1) rows)) due)

-- a table has the header that is read by itself
pub header-table : (paper : Paper) (found : Found) (header : List (List ℕ)) → header_in paper found ≡ Ok header → (table : TableView)
    → table_in paper found ≡ Ok table → table.header ≡ header
header-table paper Missing header is table reads = absurd (cc)
header-table paper TooLong header is table reads = absurd (cc)
header-table paper (File bytes) header is table reads = by (records bytes) is reads
  where
    over : (first : List (List ℕ)) → first ≡ header → (body : Result (List (List (List ℕ))) TableFault)
        → or_refused paper (with_header first body) ≡ Ok table → table.header ≡ header
    over first same (Ok rows) reads = let whole : record { header = first; rows = rows } ≡ table = cc in
        sym (ap (λ (t : TableView). t.header) whole) ∙ same
    over first same (Err refused) reads = absurd (cc)

    by : (all : List (List (List ℕ))) → header_from paper all ≡ Ok header → or_refused paper (table_from all) ≡ Ok table
        → table.header ≡ header
    by [] is reads = absurd (cc)
    by (first ∷ rows) is reads = over first (cc) (body_of (length first) rows) reads
