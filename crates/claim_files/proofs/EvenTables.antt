-- Tables that are written.
use Rattle.std.proofs.Common.{◌≡◌, ℕ, ◌+◌, ◌-◌, ◌<◌, List, [], ◌∷◌, ◌++◌, length, map, replicate, None, All, Ok, refl, ap, ◌∙◌, arith}
use Rattle.std.specs.List.{AllByRecursion, position_from}
use Rattle.std.proofs.lemmas.Bool.{le-ltb}
use Rattle.std.proofs.lemmas.List.{append-nil}
use Rattle.std.proofs.lemmas.List.Elements.{All-cons, All-nil}
use Rattle.csv.specs.Reading.{strip_bom}
use Rattle.desk_io.specs.declared.shelf.Found.TheVariants.{File}
use Rattle.gtfs_tables.specs.declared.paper.Paper.{Paper}
use Rattle.gtfs_tables.specs.Fold.{ColumnsIn, Step, paper_read, table_read}
use Rattle.gtfs_tables.specs.Reading.{◌>>=◌, each_record, or_refused}
use Rattle.gtfs_tables.specs.Rows.{padded}
use Rattle.gtfs_tables.specs.Table.{is_longer, table_from, unless_too_long, with_header}
use Rattle.gtfs_tables.specs.Writing.{records_text, ReadBack}
use Rattle.gtfs_tables.proofs.Written.{records-back}

none-longer : (width n : ℕ) (rows : List (List (List ℕ))) → AllByRecursion (λ fields. length fields ≡ width) rows
    → position_from (is_longer width) n rows ≡ None
none-longer width n [] full = refl
none-longer width n (fields ∷ rows) full =
    let fits = le-ltb width (length fields) (omega (arith, full.0)) in
    rw fits (none-longer width (n + 1) rows full.1)

all-padded : (width : ℕ) (rows : List (List (List ℕ))) → AllByRecursion (λ fields. length fields ≡ width) rows
    → map (padded width) rows ≡ rows
all-padded width [] full = refl
all-padded width (fields ∷ rows) full =
    let none : width - length fields ≡ 0 = omega (arith, full.0) in
    let here : padded width fields ≡ fields = ap (λ n. fields ++ replicate n []) none ∙ append-nil fields in
    λ i. here i ∷ all-padded width rows full.1 i

-- records as long as their header are a table as they stand
pub even-table : (header : List (List ℕ)) (rows : List (List (List ℕ))) → AllByRecursion (λ fields. length fields ≡ length header) rows
    → table_from (header ∷ rows) ≡ Ok (record { header = header; rows = rows })
even-table header rows full =
    ap (λ found. with_header header (unless_too_long found (map (padded (length header)) rows))) (none-longer (length header) 1 rows full)
    ∙ ap (λ rows. Ok (record { header = header; rows = rows })) (all-padded (length header) rows full)

pub all-of : {X : Type 0} (P : X → Type 0) (xs : List X) → AllByRecursion P xs → All P xs
all-of P [] each = All-nil P
all-of P (x ∷ xs) each = All-cons P x xs each.0 (all-of P xs each.1)

filled-rows : (width : ℕ) (rows : List (List (List ℕ))) → 0 < width → AllByRecursion (λ fields. length fields ≡ width) rows
    → AllByRecursion (λ fields. 0 < length fields) rows
filled-rows width [] some full = tt
filled-rows width (fields ∷ rows) some full = (omega (arith, some, full.0), filled-rows width rows some full.1)

-- a file of records that are as long as their header, and that begins with no byte-order mark, reads as these records
pub file-back : {C A : Type 0} (paper : Paper) (columns_in : ColumnsIn C) (step : C → Step A) (start : A) (header : List (List ℕ))
    (rows : List (List (List ℕ))) (columns : C)
    → 0 < length header → AllByRecursion (λ fields. length fields ≡ length header) rows
    → strip_bom (records_text (header ∷ rows)) ≡ records_text (header ∷ rows) → columns_in header ≡ Ok columns
    → paper_read paper columns_in step start (File (records_text (header ∷ rows))) ≡ each_record (step columns) 1 start rows
file-back paper columns_in step start header rows columns some full unmarked are =
    let back : ReadBack (header ∷ rows) =
    record {
      filled = all-of (λ fields. 0 < length fields) (header ∷ rows) (some, filled-rows (length header) rows some full);
      unmarked = unmarked;
    } in
    ap (λ found. or_refused paper found >>= table_read columns_in step start)
    (ap table_from (records-back (header ∷ rows) back) ∙ even-table header rows full)
    ∙ ap (λ found. found >>= λ columns. each_record (step columns) 1 start rows) are
