-- The records of a table, as they are written one after the other.
use Rattle.std.proofs.Common.{◌≡◌, ℕ, inl, inr, ◌+◌, ◌-◌, ◌<◌, ◌≤◌, List, [], ◌++◌, length, get_or, map, Bool, true, false, Option}
use Rattle.std.proofs.Common.{Some, None, ◌≢◌, refl, sym, ap, ◌∙◌, arith, nat_lt, ◌&&◌}
use Rattle.std.specs.Prelude.{ℤ, pos, negsuc, unsigned_abs, ◌==◌, if◌then◌else◌}
use Rattle.std.specs.List.{range_with_len}
use Rattle.std.proofs.lemmas.Bool.{cases_Bool, cases_lt, eqb-true}
use Rattle.std.proofs.lemmas.List.{get_or_past}
use Rattle.block_build.proofs.FilesWritten.{record-more}
use Rattle.gtfs_tables.specs.Table.{TableView}
use Rattle.gtfs_tables.specs.Writing.{record_text, records_text}
use Rattle.gtfs_tables.specs.declared.paper.Column.TheVariants as column
use Rattle.gtfs_tables.specs.Reading.{place_of}
use Rattle.trip_model.specs.Timetable.{TimetableView}
use Rattle.block_writer.specs.StopTimes.{moved_by, moved_row, offset_of, MovesNone}
use Rattle.block_writer.specs.Trips.{block_numbers, header_written, trip_written, with_blocks, trips_written}

-- the fields of a trip that is shifted
pub shifted-row : (offset : ℤ) (arrival departure : ℕ) (row : List (List ℕ)) → offset ≢ pos 0
    → moved_row offset arrival departure row ≡ moved_by offset arrival departure row
shifted-row offset arrival departure row other = elim (cases_Bool (unsigned_abs offset == 0)) [
  | inl none ↦ absurd (other (no-minutes offset (eqb-true (unsigned_abs offset) 0 none)))
  | inr some ↦ rw some refl
]
  where
    no-minutes : (z : ℤ) → unsigned_abs z ≡ 0 → z ≡ pos 0
    no-minutes (pos n) none = ap pos none
    no-minutes (negsuc n) none = absurd (omega arith)

-- no rows are moved, of any slot
pub none-moved : (t : TimetableView) (base n : ℕ) → length t.slots ≤ n → ((k : ℕ) → k < n → offset_of t base (Some k) ≡ pos 0)
    → MovesNone t base
none-moved t base n all before None = refl
none-moved t base n all before (Some k) = elim (cases_lt k n) [
  | inl earlier ↦ before k earlier
  | inr past ↦ rw (get_or_past t.slots k _ (omega arith)) (by (nat_lt k base))
]
  where
    by : (has : Bool) → ◌≡◌ {A = ℤ} (if has && false then pos 0 else pos 0) (pos 0)
    by true = refl
    by false = refl

-- the text after one record more of the trips
pub trip-more : (t : TimetableView) (numbers items : List (Option ℕ)) (names : List (List ℕ)) (trip block : ℕ) (chosen : List Bool)
    (rows : List (List (List ℕ))) (before now next : List ℕ) (n : ℕ) (row : List (List ℕ))
    → numbers ≡ items
    → now ≡ before ++ records_text
    (map (λ r. trip_written t items names trip block (get_or chosen r false) (get_or rows r [])) (range_with_len 0 n))
    → row ≡ get_or rows (n + 1 - 1) []
    → next ≡ now ++ record_text (trip_written t numbers names trip block (get_or chosen n false) row)
    → next ≡ before ++ records_text
    (map (λ r. trip_written t items names trip block (get_or chosen r false) (get_or rows r [])) (range_with_len 0 (n + 1)))
trip-more t numbers items names trip block chosen rows before now next n row seen so_far is written =
    let same : n + 1 - 1 ≡ n = omega arith in
    record-more (λ r. trip_written t items names trip block (get_or chosen r false) (get_or rows r [])) before now next n so_far
    (written
    ∙ ap (λ numbers. now ++ record_text (trip_written t numbers names trip block (get_or chosen n false) row)) seen
    ∙ ap (λ row. now ++ record_text (trip_written t items names trip block (get_or chosen n false) row))
    (is ∙ ap (λ n. get_or rows n []) same))

-- the text of all trips
pub trips-made : (table : TableView) (t : TimetableView) (chosen : List Bool) (blocks names : List (List ℕ))
    (items : List (Option ℕ)) (slots trip block n : ℕ) (now : List ℕ)
    → items ≡ block_numbers slots blocks
    → slots ≡ length t.slots
    → trip ≡ place_of column.TripId table.header
    → block ≡ place_of column.BlockId table.header
    → length table.rows ≡ n
    → now ≡ record_text (header_written block table.header)
    ++ records_text (map (λ r. trip_written t items names trip block (get_or chosen r false) (get_or table.rows r []))
    (range_with_len 0 n))
    → now ≡ trips_written table t chosen blocks names
unfolding with_blocks
trips-made table t chosen blocks names items slots trip block n now made count at_trip at_block all so_far =
    so_far
    ∙ ap (λ n. text items trip block n) (sym all)
    ∙ ap (λ items. text items trip block (length table.rows)) (made ∙ ap (λ slots. block_numbers slots blocks) count)
    ∙ ap (λ trip. text (block_numbers (length t.slots) blocks) trip block (length table.rows)) at_trip
    ∙ ap (λ block. text (block_numbers (length t.slots) blocks) (place_of column.TripId table.header) block (length table.rows)) at_block
  where
    text : List (Option ℕ) → ℕ → ℕ → ℕ → List ℕ
    text items trip block n =
        record_text (header_written block table.header)
        ++ records_text (map (λ r. trip_written t items names trip block (get_or chosen r false) (get_or table.rows r []))
        (range_with_len 0 n))
