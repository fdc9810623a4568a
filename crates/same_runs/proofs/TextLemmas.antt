-- A paper that is refused is refused for one field alone.
use Rattle.std.proofs.Common.{◌≡◌, ℕ, zero, suc, ◌<◌, ◌≤◌, List, [], length, Result, Ok, Err, sym, subst, ◌∙◌, ⊎_elim, arith}
use Rattle.std.specs.Prelude.{All}
use Rattle.std.specs.Str.{IsUtf8}
use Rattle.std.proofs.lemmas.Bool.{cases_lt}
use Rattle.gtfs_tables.specs.Table.{TableView}
use Rattle.gtfs_tables.specs.declared.fault.FeedFault.{FeedFault}
use Rattle.gtfs_tables.specs.declared.fault.FeedFault.TheVariants as fault
use Rattle.gtfs_tables.specs.declared.paper.Column.{Column}
use Rattle.gtfs_tables.specs.declared.paper.Paper.{Paper}
use Rattle.block_writer.specs.Texts.{AreTexts, IsFirstBad, IsFirstBadField, IsRefusedFor, IsRefusedPaper, IsTextPaper, column_at, record_at}

-- of two first ones none is before the other
one-first : (m n : ℕ) → (m < n → ⊥) → (n < m → ⊥) → m ≡ n
one-first m n below above = ⊎_elim (λ less. absurd (below less))
    (λ least. ⊎_elim (λ more. absurd (above more)) (λ most. omega (arith, least, most)) (cases_lt n m)) (cases_lt m n)

-- one field of a record
one-field : (row : List (List ℕ)) (p q : ℕ) → IsFirstBadField row p → IsFirstBadField row q → p ≡ q
one-field row p q is is' = one-first p q (λ less. is.bad (is'.before p less)) (λ more. is'.bad (is.before q more))

-- a record of texts has no first bad field
no-field : (row : List (List ℕ)) (p : ℕ) → IsFirstBadField row p → All IsUtf8 row → ⊥
no-field row p is texts = is.bad (texts p [] is.within)

-- one record of a table
one-record : (table : TableView) (m n p q : ℕ) → IsFirstBad table m p → IsFirstBad table n q → m ≡ n
one-record table m n p q is is' =
    one-first m n (λ less. no-field (record_at table m) p is.field (is'.before m less))
    (λ more. no-field (record_at table n) q is'.field (is.before n more))

one-refusal : (paper : Paper) (columns : List Column) (table : TableView) (one other : FeedFault) → IsRefusedFor paper columns table one
    → IsRefusedFor paper columns table other → one ≡ other
one-refusal paper columns table one other is is' =
    let number = one-record table is.number is'.number is.place is'.place is.first is'.first in
    let place = one-field (record_at table is.number) is.place is'.place is.first.field
    (subst (λ n. IsFirstBadField (record_at table n) is'.place) (sym number) is'.first.field) in
    is.told ∙ (λ i. fault.NotUtf8 paper (number i) (column_at columns table.header (place i))) ∙ sym is'.told

-- a paper is refused in one way
pub one-paper : (paper : Paper) (columns : List Column) (read : Result TableView FeedFault) (one other : FeedFault)
    → IsRefusedPaper paper columns read one → IsRefusedPaper paper columns read other → one ≡ other
one-paper paper columns (Ok table) one other is is' = one-refusal paper columns table one other is is'
one-paper paper columns (Err due) one other is is' = is ∙ sym is'

-- each record of a table of texts is of texts
record-texts : (table : TableView) (n : ℕ) → n ≤ length table.rows → AreTexts table → All IsUtf8 (record_at table n)
record-texts table zero within texts = texts.header
record-texts table (suc n) within texts = texts.rows n [] within

-- so a paper of texts is not refused
pub no-refusal : (paper : Paper) (columns : List Column) (read : Result TableView FeedFault) (refused : FeedFault)
    (Says : TableView → Type 0) → IsRefusedPaper paper columns read refused → IsTextPaper Says read → ⊥
no-refusal paper columns (Ok table) refused Says is texts =
    no-field (record_at table is.number) is.place is.first.field (record-texts table is.number is.first.within texts.0)
no-refusal paper columns (Err due) refused Says is texts = texts
