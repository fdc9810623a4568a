-- The two files that are written read back as the claim that they make.
use Rattle.std.proofs.Common.{◌≡◌, ℕ, ◌<◌, ◌≤◌, List, [], ◌∷◌, length, map, get_or, All, Ok, refl, sym, ap, ◌∙◌, arith}
use Rattle.std.specs.List.{AllByRecursion, flat_map, range_with_len}
use Rattle.std.proofs.lemmas.List.Elements.{All-head, All-tail}
use Rattle.csv.specs.Reading.{strip_bom}
use Rattle.csv.specs.Writing.{fields_text, is_blank}
use Rattle.desk_io.specs.declared.shelf.Found.TheVariants.{File}
use Rattle.gtfs_tables.specs.declared.paper.Paper.TheVariants as paper
use Rattle.gtfs_tables.specs.Reading.{◌>>=◌, each_record}
use Rattle.gtfs_tables.specs.Writing.{records_text}
use Rattle.block_build.specs.Files.{block_header, block_record, block_records, blocks_text, minutes_before, price_header, prices_text}
use Rattle.block_build.specs.Files.{records_of_block}
use Rattle.block_build.specs.Names.{IsName, block_name}
use Rattle.deadhead_matrix.specs.Matrix.{MatrixView}
use Rattle.price_check.specs.Claim.{Runs}
use Rattle.trip_model.specs.Plain.{live_slots, trip_moves}
use Rattle.trip_model.specs.Timetable.{TimetableView, IsTimetable}
use Rattle.claim_files.specs.declared.blocks.TheConstants.{MOST_SHOWN}
use Rattle.claim_files.specs.Blocks as blocks_file
use Rattle.claim_files.specs.Blocks.{no_blocks, rows_of, with_trip}
use Rattle.claim_files.specs.Claims.{claimed_by, claimed_of}
use Rattle.claim_files.specs.Prices as prices_file
use Rattle.claim_files.specs.Prices.{prices_of, with_prices}
use Rattle.claim_files.specs.Written.{CanBeWritten, written_block, written_blocks, written_claim, written_prices}
use Rattle.claim_files.proofs.BlocksBack as blocks_back
use Rattle.claim_files.proofs.BlocksBack.{CanBlock, CanStand, after_blocks, all-blocks}
use Rattle.claim_files.proofs.EvenTables.{file-back}
use Rattle.claim_files.proofs.Numbered.{flat-numbered, each-flat, each-map, each-range}
use Rattle.claim_files.proofs.PricesBack as prices_back
use Rattle.claim_files.proofs.PricesBack.{all-prices, record_of, records-live}
use Rattle.claim_files.proofs.RowsRead.{slot-within}

-- neither file begins with a byte-order mark
unmarked-blocks : (rows : List (List (List ℕ))) → strip_bom (records_text (block_header ∷ rows)) ≡ records_text (block_header ∷ rows)
unfolding strip_bom fields_text is_blank
unmarked-blocks rows = refl

unmarked-prices : (rows : List (List (List ℕ))) → strip_bom (records_text (price_header ∷ rows)) ≡ records_text (price_header ∷ rows)
unfolding strip_bom fields_text is_blank
unmarked-prices rows = refl

-- the columns stand in their order
columns-blocks : blocks_file.columns_in block_header ≡ Ok blocks_back.written_columns
unfolding blocks_file.columns_in
columns-blocks = refl

columns-prices : prices_file.columns_in price_header ≡ Ok prices_back.written_columns
unfolding prices_file.columns_in
columns-prices = refl

-- each trip of a block can be written
can-block : (t : TimetableView) (m : MatrixView) (block : List ℕ) → All (λ slot. IsName slot.name) t.slots → 0 < length block
    → All (Runs t) block
    → ((n : ℕ) → n < length block → minutes_before t m block n ≤ MOST_SHOWN) → CanBlock t m block
can-block t m block names filled run shown = record {
  filled = filled;
  trips = each-range (CanStand t m block) 0 (length block) (λ k lt.
      let lt : k < length block = omega (arith, lt) in
      let runs = run k 0 lt in
      record { runs = runs; name = names (get_or block k 0) _ runs.within; shown = shown k lt });
}

can-blocks : (t : TimetableView) (m : MatrixView) (blocks : List (List ℕ)) → All (λ slot. IsName slot.name) t.slots
    → All (λ block. 0 < length block) blocks → All (All (Runs t)) blocks
    → All (λ block. (n : ℕ) → n < length block → minutes_before t m block n ≤ MOST_SHOWN) blocks → AllByRecursion (CanBlock t m) blocks
can-blocks t m [] names filled run shown = tt
can-blocks t m (block ∷ blocks) names filled run shown = (
  can-block t m block names (All-head (λ block. 0 < length block) block blocks filled) (All-head (All (Runs t)) block blocks run)
      (All-head (λ block. (n : ℕ) → n < length block → minutes_before t m block n ≤ MOST_SHOWN) block blocks shown),
  can-blocks t m blocks names (All-tail (λ block. 0 < length block) block blocks filled) (All-tail (All (Runs t)) block blocks run)
      (All-tail (λ block. (n : ℕ) → n < length block → minutes_before t m block n ≤ MOST_SHOWN) block blocks shown),
)

module _ (t : TimetableView) (m : MatrixView) (names blocks : List (List ℕ)) (leave enter : List ℕ) (valid : IsTimetable t)
    (can : CanBeWritten t m names blocks leave enter) where
  blocks-back : rows_of t (File (blocks_text t m names blocks)) ≡ Ok (written_blocks t m blocks)
  unfolding blocks_text block_records
  blocks-back =
      let rows = flat_map (λ n. records_of_block t m (block_name names n) (get_or blocks n [])) (range_with_len 0 (length blocks)) in
      ap (λ read. read >>= λ read. Ok read.rows)
      (file-back paper.Blocks blocks_file.columns_in (with_trip t) no_blocks block_header rows blocks_back.written_columns (omega arith)
      (each-flat (λ fields. length fields ≡ 3) (λ n. records_of_block t m (block_name names n) (get_or blocks n [])) (range_with_len 0 (length blocks))
      (λ n. each-map (λ fields. length fields ≡ 3) (block_record t m (block_name names n) (get_or blocks n []))
      (range_with_len 0 (length (get_or blocks n []))) (λ k. refl)))
      (unmarked-blocks rows) columns-blocks
      ∙ ap (each_record (with_trip t blocks_back.written_columns) 1 no_blocks) (flat-numbered (λ n. records_of_block t m (block_name names n)) blocks)
      ∙ all-blocks t m names valid can.named.each can.named.apart 1 0 blocks []
      (can-blocks t m blocks can.names can.filled can.run can.shown) (omega (arith, can.named.counted)) (omega (arith, can.few)))
      ∙ ap Ok (sym (flat-numbered (written_block t m) blocks))

  prices-back : prices_of t (File (prices_text t leave enter)) ≡ Ok (written_prices t leave enter)
  unfolding prices_text
  prices-back =
      let rows = map (record_of t leave enter) (live_slots (trip_moves t.slots)) in
      ap (λ rows. prices_of t (File (records_text (price_header ∷ rows)))) (records-live t leave enter)
      ∙ file-back paper.Prices prices_file.columns_in (with_prices t) [] price_header rows prices_back.written_columns (omega arith)
      (each-map (λ fields. length fields ≡ 3) (record_of t leave enter) (live_slots (trip_moves t.slots)) (λ s. refl))
      (unmarked-prices rows) columns-prices
      ∙ all-prices t leave enter valid can.names can.left can.entered (slot-within t)

  -- the files of blocks and prices that can be written make their claim
  pub written-back : claimed_of t (File (blocks_text t m names blocks))
      (File (prices_text t leave enter)) ≡ Ok (written_claim t m blocks leave enter)
  written-back = λ i. claimed_by (blocks-back i) (prices-back i)
