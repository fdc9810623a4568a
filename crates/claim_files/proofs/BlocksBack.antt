-- Blocks that are written read back.
use Rattle.std.proofs.Common.{◌≡◌, ℕ, zero, suc, ◌+◌, ◌<◌, ◌≤◌, List, [], ◌∷◌, ◌++◌, length, get_or, map, All, Some, Ok, refl, sym, ap, ◌∙◌}
use Rattle.std.proofs.Common.{append_assoc, arith}
use Rattle.std.specs.Fmt.{decimal}
use Rattle.std.specs.List.{AllByRecursion, range_with_len}
use Rattle.gtfs_tables.specs.declared.fault.FeedFault.TheVariants as fault
use Rattle.gtfs_tables.specs.declared.paper.Column.TheVariants as column
use Rattle.gtfs_tables.specs.declared.paper.Paper.TheVariants as paper
use Rattle.gtfs_tables.specs.Reading.{◌>>=◌, each_record, filled_in, number_in, provided, text_in}
use Rattle.gtfs_tables.proofs.ReadingLemmas.{text_in-utf8}
use Rattle.desk_settings.specs.Names.{with_name}
use Rattle.trip_model.specs.declared.limits.TheConstants.{MOST_SLOTS}
use Rattle.trip_model.specs.Blocking.{slots_in}
use Rattle.trip_model.specs.Timetable.{TimetableView, AreDistinct, IsTimetable, slot_at}
use Rattle.block_build.specs.Files.{block_record, minutes_before, records_of_block}
use Rattle.block_build.specs.Names.{IsName, block_name}
use Rattle.deadhead_matrix.specs.Matrix.{MatrixView}
use Rattle.price_check.specs.declared.claim.BlockRow.{BlockRow}
use Rattle.price_check.specs.Claim.{Runs}
use Rattle.std.proofs.lemmas.List.{append-nil, length-append}
use Rattle.std.proofs.lemmas.List.FromFn.{length-range_with_len, length-map-range_with_len}
use Rattle.std.proofs.lemmas.Bool.{lt-ltb}
use Rattle.claim_files.specs.declared.blocks.Columns.{Columns}
use Rattle.claim_files.specs.declared.blocks.TheConstants.{MOST_SHOWN}
use Rattle.claim_files.specs.Blocks.{BlocksRead, block_number, trip_in, with_trip}
use Rattle.claim_files.specs.Running.{running}
use Rattle.claim_files.specs.Written.{written_trip, written_block}
use Rattle.claim_files.proofs.NamesWritten.{written_names, block-begins, names-more, block-goes_on, names-stay}
use Rattle.claim_files.proofs.RunningBack.{running-back}
use Rattle.claim_files.proofs.EachRecord.{each-adds, each-append}
use Rattle.claim_files.proofs.Numbered.{on}
use Rattle.claim_files.proofs.FieldsBack.{then, filled-back, number_in-back, decimal-name}

-- the columns of a header that is written
abbrev pub written_columns : Columns
written_columns = record { block = 0; trip = 1; deadhead = 2 }

fields-back : (n : ℕ) (block trip : List ℕ) (minutes : ℕ) → IsName block → IsName trip → minutes ≤ MOST_SHOWN
    → trip_in written_columns n (block ∷ trip ∷ decimal minutes ∷ []) ≡ Ok (block, trip, minutes)
unfolding trip_in
fields-back n block trip minutes block_is trip_is few =
    let text = decimal-name minutes (omega (arith, few)) in
    then (text_in paper.Blocks n column.BlockId block) block _ _ (text_in-utf8 paper.Blocks n column.BlockId block block_is.text)
    (then (text_in paper.Blocks n column.TripId trip) trip _ _ (text_in-utf8 paper.Blocks n column.TripId trip trip_is.text)
    (then (text_in paper.Blocks n column.Deadhead (decimal minutes)) (decimal minutes) _ _
    (text_in-utf8 paper.Blocks n column.Deadhead (decimal minutes) text.text)
    (then (filled_in paper.Blocks n column.BlockId block) block _ _ (filled-back paper.Blocks n column.BlockId block block_is.filled)
    (then (filled_in paper.Blocks n column.TripId trip) trip _ _ (filled-back paper.Blocks n column.TripId trip trip_is.filled)
    (then (filled_in paper.Blocks n column.Deadhead (decimal minutes)) (decimal minutes) _ _
    (filled-back paper.Blocks n column.Deadhead (decimal minutes) text.filled)
    (then (number_in paper.Blocks n column.Deadhead 6 MOST_SHOWN (decimal minutes)) minutes _ _
    (number_in-back paper.Blocks n column.Deadhead 6 MOST_SHOWN minutes (omega arith) few (omega (arith, few)) (omega (arith, few)))
    refl))))))

-- one record more
pub trip-back : (t : TimetableView) (n : ℕ) (before : BlocksRead) (name trip : List ℕ) (minutes block s : ℕ) → IsName name → IsName trip
    → minutes ≤ MOST_SHOWN
    → length before.rows < MOST_SLOTS → block_number n before.names name ≡ Ok block → running t trip ≡ Some s
    → with_trip t written_columns n before (name ∷ trip ∷ decimal minutes ∷ [])
    ≡ Ok (record {
      names = with_name before.names name;
      rows = before.rows ++ record { block = block; trip = trip; slot = Some s; deadhead = minutes } ∷ [];
    })
unfolding with_trip
trip-back t n before name trip minutes block s name_is trip_is small few numbered runs =
    ap (λ b. provided b (fault.TooManyTrips n) (Ok tt) >>= λ _. trip_in written_columns n (name ∷ trip ∷ decimal minutes ∷ []) >>=
    λ read. block_number n before.names read.0 >>= λ block.
    Ok (record {
      names = with_name before.names read.0;
      rows = before.rows ++ record { block = block; trip = read.1; slot = running t read.1; deadhead = read.2 } ∷ [];
    }))
    (lt-ltb (length before.rows) MOST_SLOTS few)
    ∙ then (trip_in written_columns n (name ∷ trip ∷ decimal minutes ∷ [])) (name, trip, minutes) _ _
    (fields-back n name trip minutes name_is trip_is small)
    (then (block_number n before.names name) block _ _ numbered
    (ap (λ slot. Ok (record {
      names = with_name before.names name;
      rows = before.rows ++ record { block = block; trip = trip; slot = slot; deadhead = minutes } ∷ [];
    })) runs))

-- a trip of a block that can be written
pub record CanStand (t : TimetableView) (m : MatrixView) (block : List ℕ) (n : ℕ) : Type 0 where
  pub runs : Runs t (get_or block n 0)
  pub name : IsName (slot_at t (get_or block n 0)).name
  pub shown : minutes_before t m block n ≤ MOST_SHOWN

-- a block whose trips can be written
pub record CanBlock (t : TimetableView) (m : MatrixView) (block : List ℕ) : Type 0 where
  pub filled : 0 < length block
  pub trips : AllByRecursion (CanStand t m block) (range_with_len 0 (length block))

module _ (t : TimetableView) (m : MatrixView) (names : List (List ℕ)) (valid : IsTimetable t) (each : All IsName names)
    (apart : AreDistinct names) where
  -- what is read after so many blocks
  abbrev pub after_blocks : ℕ → List BlockRow → BlocksRead
  after_blocks k rows = record { names = written_names names k; rows = rows }

  -- the first trip of a block
  begins : (n k : ℕ) (block : List ℕ) (rows : List BlockRow) → k < length names → CanStand t m block 0 → length rows < MOST_SLOTS
      → with_trip t written_columns n (after_blocks k rows)
      (block_record t m (block_name names k) block 0) ≡ Ok (after_blocks (k + 1) (rows ++ written_trip t m k block 0 ∷ []))
  begins n k block rows lt can room =
      trip-back t n (after_blocks k rows) (block_name names k) (slot_at t (get_or block 0 0)).name (minutes_before t m block 0) k
      (get_or block 0 0)
      (each k [] lt) can.name can.shown room (block-begins names n k apart lt)
      (running-back t (get_or block 0 0) valid can.runs)
      ∙ ap (λ names. Ok (record { names = names; rows = rows ++ written_trip t m k block 0 ∷ [] }))
      (names-more names k apart lt)

  -- one that follows
  follows : (n k : ℕ) (block : List ℕ) (rows : List BlockRow) (j : ℕ) → k < length names → CanStand t m block j → length rows < MOST_SLOTS
      → with_trip t written_columns n (after_blocks (k + 1) rows)
      (block_record t m (block_name names k) block j) ≡ Ok (after_blocks (k + 1) (rows ++ written_trip t m k block j ∷ []))
  follows n k block rows j lt can room =
      trip-back t n (after_blocks (k + 1) rows) (block_name names k) (slot_at t (get_or block j 0)).name (minutes_before t m block j) k
      (get_or block j 0)
      (each k [] lt) can.name can.shown room (block-goes_on names n k apart lt)
      (running-back t (get_or block j 0) valid can.runs)
      ∙ ap (λ names. Ok (record { names = names; rows = rows ++ written_trip t m k block j ∷ [] })) (names-stay names k)

  -- the trips of a block after the first
  follow : (n k : ℕ) (block : List ℕ) (rows : List BlockRow) (js : List ℕ) → k < length names → AllByRecursion (CanStand t m block) js
      → length rows + length js ≤ MOST_SLOTS
      → each_record (with_trip t written_columns) n (after_blocks (k + 1) rows)
      (map (block_record t m (block_name names k) block) js) ≡ Ok (after_blocks (k + 1) (rows ++ map (written_trip t m k block) js))
  follow n k block rows js lt can room =
      each-adds (with_trip t written_columns) (after_blocks (k + 1)) (block_record t m (block_name names k) block) (written_trip t m k block)
      MOST_SLOTS (CanStand t m block)
      (λ n rows j good less. follows n k block rows j lt good less) n rows js can room

  -- all of a block of so many
  whole : (n k : ℕ) (block : List ℕ) (rows : List BlockRow) (size : ℕ) → k < length names → 0 < size
      → AllByRecursion (CanStand t m block) (range_with_len 0 size) → length rows + size ≤ MOST_SLOTS
      → each_record (with_trip t written_columns) n (after_blocks k rows)
      (map (block_record t m (block_name names k) block) (range_with_len 0 size)) ≡ Ok (after_blocks (k + 1)
      (rows ++ map (written_trip t m k block) (range_with_len 0 size)))
  whole n k block rows zero lt some can room = absurd (omega arith)
  whole n k block rows (suc size) lt some can room =
      ap (λ here. here >>= λ more. each_record (with_trip t written_columns) (n + 1) more
      (map (block_record t m (block_name names k) block) (range_with_len (0 + 1) size))) (begins n k block rows lt can.0 (omega arith))
      ∙ follow (n + 1) k block (rows ++ written_trip t m k block 0 ∷ []) (range_with_len (0 + 1) size) lt can.1
      (omega (arith, room, length-append rows (written_trip t m k block 0 ∷ []), length-range_with_len (0 + 1) size))
      ∙ ap (λ rows. Ok (after_blocks (k + 1) rows))
      (append_assoc rows (written_trip t m k block 0 ∷ []) (map (written_trip t m k block) (range_with_len (0 + 1) size)))

  -- blocks, the first of this number
  pub all-blocks : (n k : ℕ) (blocks : List (List ℕ)) (rows : List BlockRow) → AllByRecursion (CanBlock t m) blocks
      → k + length blocks ≤ length names → length rows + length (slots_in blocks) ≤ MOST_SLOTS
      → each_record (with_trip t written_columns) n (after_blocks k rows)
      (on (λ k. records_of_block t m (block_name names k)) k blocks) ≡ Ok (after_blocks (k + length blocks) (rows ++ on (written_block t m) k blocks))
  all-blocks n k [] rows can counted room =
      let same : k ≡ k + 0 = omega arith in
      (λ i. Ok (after_blocks (same i) (sym (append-nil rows) i)))
  all-blocks n k (block ∷ blocks) rows can counted room =
      let records = records_of_block t m (block_name names k) block in
      let here = written_block t m k block in
      let size = length-append block (slots_in blocks) in
      let long = length-map-range_with_len (written_trip t m k block) 0 (length block) in
      let next : k + 1 + length blocks ≡ k + suc (length blocks) = omega arith in
      each-append (with_trip t written_columns) n (after_blocks k rows) records (on (λ k. records_of_block t m (block_name names k)) (k + 1) blocks)
      ∙ ap (λ first. first >>= λ b. each_record (with_trip t written_columns) (n + length records) b
      (on (λ k. records_of_block t m (block_name names k)) (k + 1) blocks))
      (whole n k block rows (length block) (omega (arith, counted)) can.0.filled can.0.trips (omega (arith, room, size)))
      ∙ all-blocks (n + length records) (k + 1) blocks (rows ++ here) can.1 (omega (arith, counted))
      (omega (arith, room, size, long, length-append rows here))
      ∙ (λ i. Ok (after_blocks (next i) (append_assoc rows here (on (written_block t m) (k + 1) blocks) i)))
