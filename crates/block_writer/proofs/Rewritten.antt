-- What a paper gives whose records are written again one by one.
use Rattle.std.proofs.Common.{◌≡◌, ◌≢◌, ℕ, zero, suc, ◌+◌, ◌<◌, List, [], ◌∷◌, ◌++◌, length, get_or, map, All, Option, Some, None, Result}
use Rattle.std.proofs.Common.{Ok, Err, refl, sym, ap, subst, ◌∙◌, append_assoc, arith}
use Rattle.std.specs.Str.{IsUtf8}
use Rattle.std.proofs.lemmas.List.{append-nil}
use Rattle.std.proofs.lemmas.List.Elements.{All-cons, All-nil}
use Rattle.gtfs_tables.proofs.ReadingLemmas.{Fails-due}
use Rattle.gtfs_tables.specs.Fold.{table_read}
use Rattle.gtfs_tables.specs.Reading.{◌>>=◌, each_record, Fails, place_of}
use Rattle.gtfs_tables.specs.Table.{TableView}
use Rattle.gtfs_tables.specs.Writing.{record_text, records_text}
use Rattle.gtfs_tables.specs.declared.fault.FeedFault.{FeedFault}
use Rattle.gtfs_tables.specs.declared.fault.FeedFault.TheVariants as fault
use Rattle.gtfs_tables.specs.declared.paper.Column.{Column}
use Rattle.gtfs_tables.specs.declared.paper.Column.TheVariants as column
use Rattle.gtfs_tables.specs.declared.paper.Paper.{Paper}
use Rattle.gtfs_tables.specs.declared.paper.Paper.TheVariants as paper
use Rattle.trip_model.specs.Timetable.{TimetableView}
use Rattle.block_writer.proofs.TextsTold.{Tells, tells}
use Rattle.block_writer.specs.declared.stop_times.Columns.{Columns}
use Rattle.block_writer.specs.StopTimes.{columns_in, stop_time_columns, stop_time_written, stop_times_written, with_stop_time, with_times}
use Rattle.block_writer.specs.Texts.{AreTexts, IsFirstBadField, IsRefusedFor, IsRefusedPaper, IsTextPaper, bad_field, column_at, record_at}
use Rattle.block_writer.specs.Texts.{texts_in, unless_bad, with_written}

abbrev Fields : Type 0
Fields = List (List ℕ)

module _ (paper : Paper) (columns : List Column) (header : Fields) (written : Fields → Fields) where
  -- the refusal of records that count from this number: of the first field of theirs that is not UTF-8
  record IsFirstOf (number : ℕ) (rows : List Fields) (refused : FeedFault) : Type 0 where
    before : ℕ
    place : ℕ
    within : before < length rows
    field : IsFirstBadField (get_or rows before []) place
    texts : (k : ℕ) → k < before → All IsUtf8 (get_or rows k [])
    told : refused ≡ fault.NotUtf8 paper (number + before) (column_at columns header place)

  -- what is told of records that are written behind a text
  abbrev Told : ℕ → List ℕ → List Fields → Result (List ℕ) FeedFault → Type 0
  Told number text rows (Ok made) = All (All IsUtf8) rows × (made ≡ text ++ records_text (map written rows))
  Told number text rows (Err refused) = IsFirstOf number rows refused

  -- of a record of texts and those after it
  after-texts : (number : ℕ) (text : List ℕ) (row : Fields) (rows : List Fields) → All IsUtf8 row → (read : Result (List ℕ) FeedFault)
      → Told (number + 1) (text ++ record_text (written row)) rows read → Told number text (row ∷ rows) read
  after-texts number text row rows are (Ok made) told =
      (All-cons (All IsUtf8) row rows are told.0, told.1 ∙ append_assoc text (record_text (written row)) (records_text (map written rows)))
  after-texts number text row rows are (Err refused) told = record {
    before = suc told.before;
    place = told.place;
    within = omega (arith, told.within);
    field = told.field;
    texts = up_to told.before told.texts;
    told = told.told ∙ ap (λ n. fault.NotUtf8 paper n (column_at columns header told.place)) (omega arith);
  }
    where
      up_to : (n : ℕ) → ((k : ℕ) → k < n → All IsUtf8 (get_or rows k [])) → (k : ℕ) → k < suc n → All IsUtf8 (get_or (row ∷ rows) k [])
      up_to n before zero below = are
      up_to n before (suc k) below = before k (omega arith)

  -- of all records
  each-told : (number : ℕ) (text : List ℕ) (rows : List Fields)
      → Told number text rows (each_record (with_written paper columns header written) number text rows)
  each-told number text [] = (All-nil (All IsUtf8), sym (append-nil text))
  each-told number text (row ∷ rows) = by (bad_field row) (tells row) (each-told (number + 1) (text ++ record_text (written row)) rows)
    where
      rest : Result (List ℕ) FeedFault
      rest = each_record (with_written paper columns header written) (number + 1) (text ++ record_text (written row)) rows

      by : (bad : Option ℕ) → Tells row bad → Told (number + 1) (text ++ record_text (written row)) rows rest
          → Told number text (row ∷ rows)
          ((unless_bad paper columns header number row bad >>= λ fields. Ok (text ++ record_text (written fields))) >>=
          λ more. each_record (with_written paper columns header written) (number + 1) more rows)
      by None are told = after-texts number text row rows are rest told
      by (Some place) first told = record {
        before = 0;
        place = place;
        within = omega arith;
        field = first;
        texts = λ k below. absurd (omega arith);
        told = ap (λ n. fault.NotUtf8 paper n (column_at columns header place)) (omega arith);
      }

-- what is told of a table whose header and records are written again
abbrev TableTold : Paper → List Column → (Fields → Fields) → TableView → Result (List ℕ) FeedFault → Type 0
TableTold paper columns written table (Ok made) = AreTexts table × (made ≡ records_text (table.header ∷ map written table.rows))
TableTold paper columns written table (Err refused) = IsRefusedFor paper columns table refused

module _ (paper : Paper) (columns : List Column) (written : Fields → Fields) (table : TableView) where
  -- of one whose header has texts alone
  rows-told : All IsUtf8 table.header → (read : Result (List ℕ) FeedFault)
      → Told paper columns table.header written 1 (record_text table.header) table.rows read → TableTold paper columns written table read
  rows-told are (Ok made) told = (record { header = are; rows = told.0 }, told.1)
  rows-told are (Err refused) told = record {
    number = suc told.before;
    place = told.place;
    first = record { within = omega (arith, told.within); field = told.field; before = up_to told.before told.texts };
    told = told.told ∙ ap (λ n. fault.NotUtf8 paper n (column_at columns table.header told.place)) (omega arith);
  }
    where
      up_to : (n : ℕ) → ((k : ℕ) → k < n → All IsUtf8 (get_or table.rows k [])) → (k : ℕ) → k < suc n → All IsUtf8 (record_at table k)
      up_to n before zero below = are
      up_to n before (suc k) below = before k (omega arith)

  -- of one whose header is judged as record 0
  table-told : {C : Type 0} (made : C) (step : C → ℕ → List ℕ → Fields → Result (List ℕ) FeedFault)
      → step made ≡ with_written paper columns table.header written
      → TableTold paper columns written table
      ((texts_in paper columns table.header 0 table.header >>= λ _. Ok made) >>= λ made. each_record (step made) 1
      (record_text table.header) table.rows)
  table-told made step is = by (bad_field table.header) (tells table.header)
    where
      by : (bad : Option ℕ) → Tells table.header bad
          → TableTold paper columns written table
          ((unless_bad paper columns table.header 0 table.header bad >>= λ _. Ok made) >>= λ made. each_record (step made) 1
          (record_text table.header) table.rows)
      by None are =
          subst (λ step. TableTold paper columns written table (each_record step 1 (record_text table.header) table.rows)) (sym is)
          (rows-told are _ (each-told paper columns table.header written 1 (record_text table.header) table.rows))
      by (Some place) first = record {
        number = 0;
        place = place;
        first = record { within = omega arith; field = first; before = λ k below. absurd (omega arith) };
        told = refl;
      }

module _ (timetable : TimetableView) (base : ℕ) where
  -- what the records of stop times give behind a header
  abbrev stop_times_read : Fields → List ℕ → TableView → Result (List ℕ) FeedFault
  stop_times_read header start =
      table_read columns_in (with_stop_time (record { timetable = timetable; base = base; header = header })) start

  -- what is told of their table
  abbrev StopTimesTold : TableView → Result (List ℕ) FeedFault → Type 0
  StopTimesTold table (Ok made) = AreTexts table × (made ≡ stop_times_written table timetable base)
  StopTimesTold table (Err refused) = IsRefusedFor paper.StopTimes stop_time_columns table refused

  stop-times-told : (table : TableView) → StopTimesTold table (stop_times_read table.header (record_text table.header) table)
  unfolding columns_in with_times
  stop-times-told table =
      by (stop_times_read table.header (record_text table.header) table)
      (table-told paper.StopTimes stop_time_columns write table columns
      (with_stop_time (record { timetable = timetable; base = base; header = table.header })) refl)
    where
      columns : Columns
      columns = record {
        trip = place_of column.TripId table.header;
        arrival = place_of column.ArrivalTime table.header;
        departure = place_of column.DepartureTime table.header;
      }

      write : Fields → Fields
      write = stop_time_written timetable base columns.trip columns.arrival columns.departure

      by : (read : Result (List ℕ) FeedFault) → TableTold paper.StopTimes stop_time_columns write table read → StopTimesTold table read
      by (Ok made) told = told
      by (Err refused) told = told

  -- a header that was read by itself is that of the table, if there is one
  abbrev IsHeaderOf : Fields → Result TableView FeedFault → Type 0
  IsHeaderOf header paper_table = (table : TableView) → paper_table ≡ Ok table → table.header ≡ header

  header-told : (header : Fields) (start : List ℕ) (table : TableView) (read : Result (List ℕ) FeedFault) → IsHeaderOf header (Ok table)
      → start ≡ record_text header
      → stop_times_read header start table ≡ read → StopTimesTold table read
  header-told header start table read heads begins gives =
      let same = heads table refl in
      subst (StopTimesTold table) (ap (λ header. stop_times_read header (record_text header) table) same
      ∙ ap (λ start. stop_times_read header start table) (sym begins) ∙ gives) (stop-times-told table)

  -- the text of a paper is that of its table of texts
  pub stop-times-made : (header : Fields) (start : List ℕ) (paper_table : Result TableView FeedFault) (made : List ℕ)
      → IsHeaderOf header paper_table → start ≡ record_text header
      → (paper_table >>= stop_times_read header start) ≡ Ok made
      → IsTextPaper (λ table. made ≡ stop_times_written table timetable base) paper_table
  stop-times-made header start (Ok table) made heads begins gives = header-told header start table (Ok made) heads begins gives
  stop-times-made header start (Err refused) made heads begins gives = absurd (cc)

  -- and its refusal is that of the paper or of the first bad field
  pub stop-times-refused : (header : Fields) (start : List ℕ) (paper_table : Result TableView FeedFault) (refused : FeedFault)
      → IsHeaderOf header paper_table → start ≡ record_text header
      → Fails refused (paper_table >>= stop_times_read header start) → refused ≢ fault.Memory
      → IsRefusedPaper paper.StopTimes stop_time_columns paper_table refused
  stop-times-refused header start (Ok table) refused heads begins fails other =
      header-told header start table (Err refused) heads begins (Fails-due refused _ other fails)
  stop-times-refused header start (Err due) refused heads begins fails other = let same = Fails-due refused (Err due) other fails in
      sym (cc same)

-- the text of a header alone
pub started : (before start : List ℕ) (header : Fields) → before ≡ [] → start ≡ before ++ record_text header → start ≡ record_text header
started before start header none written = written ∙ ap (λ before. before ++ record_text header) none
