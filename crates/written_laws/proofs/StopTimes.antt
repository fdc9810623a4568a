-- What is read of the written stop times is what was read of them, each stop time moved with its trip.
use Rattle.std.proofs.Common.{◌≡◌, ◌≢◌, ℕ, ◌<◌, ◌==◌, Bool, true, false, cond, List, [], ◌∷◌, ◌++◌, length, set, map, take, drop, Option}
use Rattle.std.proofs.Common.{Some, None, Ok, ℤ, unwrap_or, refl, sym, ap, subst, ◌∙◌, arith}
use Rattle.std.specs.Prelude.{All, position, unsigned_abs}
use Rattle.std.specs.Option.{option_map}
use Rattle.std.specs.Str.{bytes_eq}
use Rattle.std.proofs.lemmas.Bool.{eqb-true}
use Rattle.std.proofs.lemmas.List.{get_or_default, get_or-set_other, get_or-set_same, length-set, map_push, take-append-drop}
use Rattle.desk_io.specs.declared.shelf.Found.TheVariants.{File}
use Rattle.gtfs_tables.specs.declared.paper.Column.{Column}
use Rattle.gtfs_tables.specs.declared.paper.Column.TheVariants as column
use Rattle.gtfs_tables.specs.declared.paper.Paper.TheVariants as paper
use Rattle.gtfs_tables.specs.Papers.{column_name_of}
use Rattle.gtfs_tables.specs.Reading.{column_in, field_at, filled_in, number_in, text_in, time_in, place_of}
use Rattle.gtfs_tables.specs.Table.{TableView, IsTable, table_of}
use Rattle.gtfs_tables.specs.Entries.{Name}
use Rattle.trip_model.specs.Timetable.{TimetableView, number_of, slot_names}
use Rattle.feed_read.specs.StopTimes.{StopTimeView, columns_in, stop_time_in, stop_times_for, with_stop_time, with_stop_time_of}
use Rattle.block_writer.specs.Fields.{slot_in}
use Rattle.block_writer.specs.StopTimes.{moved, moved_by, moved_field, moved_row, offset_of, stop_time_written, with_times}
use Rattle.claim_files.proofs.FieldsBack.{then}
use Rattle.written_laws.specs.Written.{AreWritable, IsRowWritable}
use Rattle.written_laws.proofs.Columns.{column-found, column_in-found, columns-apart, position-kept}
use Rattle.claim_files.proofs.EachRecord.{read-parts, same_Ok}
use Rattle.written_laws.proofs.Records.{GivenBy, each-changed, of-table, text-parts, text-reads}
use Rattle.written_laws.proofs.Times.{IsMovedField, moved-field, same-field}

-- where the columns stand
abbrev Columns : Type 0
Columns = GivenBy columns_in

-- a stop time with its times moved by so many minutes
abbrev pub moved_stop_time : ℤ → StopTimeView → StopTimeView
moved_stop_time offset stop_time =
    record stop_time { arrival = option_map (moved offset) stop_time.arrival; departure = option_map (moved offset) stop_time.departure }

-- stop times, each moved with its trip
abbrev pub moved_stop_times : (ℕ → ℤ) → List StopTimeView → List StopTimeView
moved_stop_times offsets stop_times = map (λ stop_time. moved_stop_time (offsets stop_time.trip) stop_time) stop_times

-- a record says what another says, with both times moved
record IsMovedRow (offset : ℤ) (trip arrival departure stop sequence : ℕ) (row other : List (List ℕ)) : Type 0 where
  trip_same : field_at other trip ≡ field_at row trip
  arrives : IsMovedField offset (field_at row arrival) (field_at other arrival)
  departs : IsMovedField offset (field_at row departure) (field_at other departure)
  stop_same : field_at other stop ≡ field_at row stop
  sequence_same : field_at other sequence ≡ field_at row sequence

-- other columns than those of the times
record AreApart (trip arrival departure stop sequence : ℕ) : Type 0 where
  times : arrival ≢ departure
  trip_arrival : trip ≢ arrival
  trip_departure : trip ≢ departure
  stop_arrival : stop ≢ arrival
  stop_departure : stop ≢ departure
  sequence_arrival : sequence ≢ arrival
  sequence_departure : sequence ≢ departure

-- the written record does
module _ (offset : ℤ) (trip arrival departure stop sequence : ℕ) (row : List (List ℕ))
    (apart : AreApart trip arrival departure stop sequence)
    (arrival_in : arrival < length row) (departure_in : departure < length row)
    (writable : IsRowWritable offset (field_at row arrival) (field_at row departure)) where
  abbrev early : List (List ℕ)
  early = set row arrival (moved_field offset (field_at row arrival))

  other-stays : (at : ℕ) → at ≢ arrival → at ≢ departure → field_at (moved_row offset arrival departure row) at ≡ field_at row at
  other-stays at one two = get_or-set_other early departure at (moved_field offset (field_at row departure)) [] two
      ∙ get_or-set_other row arrival at (moved_field offset (field_at row arrival)) [] one

  moved-row : IsMovedRow offset trip arrival departure stop sequence row (moved_row offset arrival departure row)
  moved-row =
      let at_arrival : field_at (moved_row offset arrival departure row) arrival ≡ moved_field offset (field_at row arrival) =
      get_or-set_other early departure arrival (moved_field offset (field_at row departure)) [] apart.times
      ∙ get_or-set_same row arrival (moved_field offset (field_at row arrival)) [] arrival_in in
      let at_departure : field_at (moved_row offset arrival departure row) departure ≡ moved_field offset (field_at row departure) =
      get_or-set_same early departure (moved_field offset (field_at row departure)) []
      (omega (arith, departure_in, length-set row arrival (moved_field offset (field_at row arrival)))) in
      record {
        trip_same = other-stays trip apart.trip_arrival apart.trip_departure;
        arrives = subst (IsMovedField offset (field_at row arrival)) (sym at_arrival)
            (moved-field offset (field_at row arrival) writable.arrival);
        departs = subst (IsMovedField offset (field_at row departure)) (sym at_departure)
            (moved-field offset (field_at row departure) writable.departure);
        stop_same = other-stays stop apart.stop_arrival apart.stop_departure;
        sequence_same = other-stays sequence apart.sequence_arrival apart.sequence_departure;
      }

  written-row : IsMovedRow offset trip arrival departure stop sequence row (moved_by offset arrival departure row)
  written-row = by (unsigned_abs offset == 0) refl
    where
      by : (b : Bool) → (unsigned_abs offset == 0) ≡ b
          → IsMovedRow offset trip arrival departure stop sequence row (cond b row (moved_row offset arrival departure row))
      by true is =
          let none = eqb-true (unsigned_abs offset) 0 is in
          record {
            trip_same = refl;
            arrives = same-field offset (field_at row arrival) none;
            departs = same-field offset (field_at row departure) none;
            stop_same = refl;
            sequence_same = refl;
          }
      by false is = moved-row

-- the columns of the stop times, and how far apart they stand
module _ (header : List (List ℕ)) where
  asked-apart : (one other : Column) (j k : ℕ) → bytes_eq (column_name_of one) (column_name_of other) ≡ false
      → column_in paper.StopTimes one header ≡ Ok j → column_in paper.StopTimes other header ≡ Ok k → j ≢ k
  asked-apart one other j k differ at to =
      columns-apart (column_name_of one) (column_name_of other) header j k differ (column_in-found paper.StopTimes one header j at)
      (column_in-found paper.StopTimes other header k to)

  asked-place : (asked : Column) (k : ℕ) → column_in paper.StopTimes asked header ≡ Ok k → place_of asked header ≡ k
  asked-place asked k at = ap (λ found. unwrap_or found (length header)) (column_in-found paper.StopTimes asked header k at)

  asked-within : (asked : Column) (k : ℕ) → column_in paper.StopTimes asked header ≡ Ok k → k < length header
  asked-within asked k at = (column-found (column_name_of asked) header k (column_in-found paper.StopTimes asked header k at)).0

-- the columns are those that a written record is told
record AreColumns (header : List (List ℕ)) (trip arrival departure stop sequence : ℕ) : Type 0 where
  trip_is : place_of column.TripId header ≡ trip
  arrival_is : place_of column.ArrivalTime header ≡ arrival
  departure_is : place_of column.DepartureTime header ≡ departure
  arrival_in : arrival < length header
  departure_in : departure < length header
  apart : AreApart trip arrival departure stop sequence

columns-are : (header : List (List ℕ)) (columns : Columns) → columns_in header ≡ Ok columns
    → AreColumns header columns.trip columns.arrival columns.departure columns.stop columns.sequence
unfolding columns_in
columns-are header columns e =
    let t = read-parts (column_in paper.StopTimes column.TripId header) _ columns e in
    let a = read-parts (column_in paper.StopTimes column.ArrivalTime header) _ columns t.2 in
    let d = read-parts (column_in paper.StopTimes column.DepartureTime header) _ columns a.2 in
    let s = read-parts (column_in paper.StopTimes column.StopId header) _ columns d.2 in
    let q = read-parts (column_in paper.StopTimes column.StopSequence header) _ columns s.2 in
    let same = same_Ok _ columns q.2 in
    let apart : AreApart t.0 a.0 d.0 s.0 q.0 = record {
      times = asked-apart header column.ArrivalTime column.DepartureTime a.0 d.0 refl a.1 d.1;
      trip_arrival = asked-apart header column.TripId column.ArrivalTime t.0 a.0 refl t.1 a.1;
      trip_departure = asked-apart header column.TripId column.DepartureTime t.0 d.0 refl t.1 d.1;
      stop_arrival = asked-apart header column.StopId column.ArrivalTime s.0 a.0 refl s.1 a.1;
      stop_departure = asked-apart header column.StopId column.DepartureTime s.0 d.0 refl s.1 d.1;
      sequence_arrival = asked-apart header column.StopSequence column.ArrivalTime q.0 a.0 refl q.1 a.1;
      sequence_departure = asked-apart header column.StopSequence column.DepartureTime q.0 d.0 refl q.1 d.1;
    } in
    let are : AreColumns header t.0 a.0 d.0 s.0 q.0 = record {
      trip_is = asked-place header column.TripId t.0 t.1;
      arrival_is = asked-place header column.ArrivalTime a.0 a.1;
      departure_is = asked-place header column.DepartureTime d.0 d.1;
      arrival_in = asked-within header column.ArrivalTime a.0 a.1;
      departure_in = asked-within header column.DepartureTime d.0 d.1;
      apart = apart;
    } in
    subst (λ (c : Columns). AreColumns header c.trip c.arrival c.departure c.stop c.sequence) same are

-- a stop time of a record that says the same, with both times moved, is moved, and is of the same trip
stop_time-moved : (columns : Columns) (number trip : ℕ) (row other : List (List ℕ)) (offset : ℤ) (stop_time : StopTimeView)
    → stop_time_in columns number trip row ≡ Ok stop_time
    → IsMovedRow offset columns.trip columns.arrival columns.departure columns.stop columns.sequence row other
    → (stop_time_in columns number trip other ≡ Ok (moved_stop_time offset stop_time)) × (trip ≡ stop_time.trip)
unfolding stop_time_in
stop_time-moved columns number trip row other offset stop_time e is =
    let a = read-parts (text_in paper.StopTimes number column.ArrivalTime (field_at row columns.arrival)) _ stop_time e in
    let d = read-parts (text_in paper.StopTimes number column.DepartureTime (field_at row columns.departure)) _ stop_time a.2 in
    let s = read-parts (text_in paper.StopTimes number column.StopId (field_at row columns.stop)) _ stop_time d.2 in
    let q = read-parts (text_in paper.StopTimes number column.StopSequence (field_at row columns.sequence)) _ stop_time s.2 in
    let f = read-parts (filled_in paper.StopTimes number column.StopId s.0) _ stop_time q.2 in
    let g = read-parts (filled_in paper.StopTimes number column.StopSequence q.0) _ stop_time f.2 in
    let n = read-parts (number_in paper.StopTimes number column.StopSequence 9 999999999 q.0) _ stop_time g.2 in
    let b = read-parts (time_in paper.StopTimes number column.ArrivalTime a.0) _ stop_time n.2 in
    let c = read-parts (time_in paper.StopTimes number column.DepartureTime d.0) _ stop_time b.2 in
    let same = same_Ok _ stop_time c.2 in
    let arrival_text = text-parts paper.StopTimes number column.ArrivalTime (field_at row columns.arrival) a.0 a.1 in
    let departure_text = text-parts paper.StopTimes number column.DepartureTime (field_at row columns.departure) d.0 d.1 in
    let arrival_read = subst (λ text. time_in paper.StopTimes number column.ArrivalTime text ≡ Ok b.0) (sym arrival_text.1) b.1 in
    let departure_read = subst (λ text. time_in paper.StopTimes number column.DepartureTime text ≡ Ok c.0) (sym departure_text.1) c.1 in (
      then (text_in paper.StopTimes number column.ArrivalTime (field_at other columns.arrival)) (field_at other columns.arrival) _ _
          (text-reads paper.StopTimes number column.ArrivalTime (field_at other columns.arrival) (is.arrives.text arrival_text.0))
          (then (text_in paper.StopTimes number column.DepartureTime (field_at other columns.departure)) (field_at other columns.departure)
          _ _ (text-reads paper.StopTimes number column.DepartureTime (field_at other columns.departure)
          (is.departs.text departure_text.0))
          (then (text_in paper.StopTimes number column.StopId (field_at other columns.stop)) s.0 _ _
          (ap (text_in paper.StopTimes number column.StopId) is.stop_same ∙ s.1)
          (then (text_in paper.StopTimes number column.StopSequence (field_at other columns.sequence)) q.0 _ _
          (ap (text_in paper.StopTimes number column.StopSequence) is.sequence_same ∙ q.1)
          (then (filled_in paper.StopTimes number column.StopId s.0) f.0 _ _ f.1
          (then (filled_in paper.StopTimes number column.StopSequence q.0) g.0 _ _ g.1
          (then (number_in paper.StopTimes number column.StopSequence 9 999999999 q.0) n.0 _ _ n.1
          (then (time_in paper.StopTimes number column.ArrivalTime (field_at other columns.arrival)) (option_map (moved offset) b.0) _ _
          (is.arrives.time paper.StopTimes number column.ArrivalTime b.0 arrival_read)
          (then (time_in paper.StopTimes number column.DepartureTime (field_at other columns.departure)) (option_map (moved offset) c.0) _
          _ (is.departs.time paper.StopTimes number column.DepartureTime c.0 departure_read)
          (ap (λ stop_time. Ok (moved_stop_time offset stop_time)) same))))))))),
      ap (λ (stop_time : StopTimeView). stop_time.trip) same,
    )

-- the stop times with that of a record that says the same, moved with the trip that it names
step-moved : (offsets : ℕ → ℤ) (names : List Name) (columns : Columns) (number : ℕ) (before after : List StopTimeView)
    (row other : List (List ℕ)) (offset : ℤ) → with_stop_time names columns number before row ≡ Ok after
    → IsMovedRow offset columns.trip columns.arrival columns.departure columns.stop columns.sequence row other
    → ((s : ℕ) → position (bytes_eq (field_at row columns.trip)) names ≡ Some s → offset ≡ offsets s)
    → with_stop_time names columns number (moved_stop_times offsets before) other ≡ Ok (moved_stop_times offsets after)
unfolding with_stop_time
step-moved offsets names columns number before after row other offset e is with_trip =
    let name = read-parts (text_in paper.StopTimes number column.TripId (field_at row columns.trip)) _ after e in
    let text = text-parts paper.StopTimes number column.TripId (field_at row columns.trip) name.0 name.1 in
    then (text_in paper.StopTimes number column.TripId (field_at other columns.trip)) name.0 _ _
    (ap (text_in paper.StopTimes number column.TripId) is.trip_same ∙ name.1)
    (by (position (bytes_eq name.0) names) (λ s found. with_trip s (ap (λ name. position (bytes_eq name) names) text.1 ∙ found)) name.2)
  where
    by : (found : Option ℕ) → ((s : ℕ) → found ≡ Some s → offset ≡ offsets s) → with_stop_time_of columns number before row found ≡ Ok after
        → with_stop_time_of columns number (moved_stop_times offsets before) other found ≡ Ok (moved_stop_times offsets after)
    by None moves e = ap (λ stop_times. Ok (moved_stop_times offsets stop_times)) (same_Ok before after e)
    by (Some s) moves e =
        let stop_time = read-parts (stop_time_in columns number s row) _ after e in
        let here = stop_time-moved columns number s row other offset stop_time.0 stop_time.1 is in
        then (stop_time_in columns number s other) (moved_stop_time offset stop_time.0) _ _ here.0
        (ap (λ offset. Ok (moved_stop_times offsets before ++ moved_stop_time offset stop_time.0 ∷ [])) (moves s refl ∙ ap offsets here.1)
        ∙ ap Ok (sym (map_push (λ stop_time. moved_stop_time (offsets stop_time.trip) stop_time) before stop_time.0))
        ∙ ap (λ stop_times. Ok (moved_stop_times offsets stop_times)) (same_Ok (before ++ stop_time.0 ∷ []) after stop_time.2))

-- a trip that is read has its number among those that stand, of which it is one of the first
named-kept : (standing : TimetableView) (names : List Name) → take (length names) (slot_names standing) ≡ names → (name : List ℕ) (s : ℕ)
    → position (bytes_eq name) names ≡ Some s → number_of (slot_names standing) name ≡ Some s
named-kept standing names first name s found =
    let rest = drop (length names) (slot_names standing) in
    let all : slot_names standing ≡ names ++ rest = sym (take-append-drop (length names) (slot_names standing))
    ∙ ap (λ front. front ++ rest) first in
    ap (λ all. number_of all name) all ∙ position-kept (bytes_eq name) names rest s found

-- what is read of the stop times as they are written
module _ (standing : TimetableView) (base : ℕ) (names : List Name) (table : TableView)
    (first : take (length names) (slot_names standing) ≡ names) where
  abbrev offsets : ℕ → ℤ
  offsets s = offset_of standing base (Some s)

  abbrev change : List (List ℕ) → List (List ℕ)
  change row = stop_time_written standing base (place_of column.TripId table.header) (place_of column.ArrivalTime table.header)
      (place_of column.DepartureTime table.header) row

  -- a record has the fields of all columns, and times that can be written
  record IsFit (row : List (List ℕ)) : Type 0 where
    wide : length row ≡ length table.header
    writable : IsRowWritable (offset_of standing base (slot_in standing (place_of column.TripId table.header) row))
        (field_at row (place_of column.ArrivalTime table.header)) (field_at row (place_of column.DepartureTime table.header))

  -- the record that is written says the same, moved with the trip that it names
  row-moved : (row : List (List ℕ)) (trip arrival departure stop sequence : ℕ)
      → AreColumns table.header trip arrival departure stop sequence → IsFit row
      → IsMovedRow (offset_of standing base (slot_in standing trip row)) trip arrival departure stop sequence row (change row)
  row-moved row trip arrival departure stop sequence are fit =
      let writable : IsRowWritable (offset_of standing base (slot_in standing trip row)) (field_at row arrival) (field_at row departure) =
      subst (λ at. IsRowWritable (offset_of standing base (slot_in standing at row)) (field_at row arrival) (field_at row departure))
      are.trip_is
      (subst (λ at. IsRowWritable (offset_of standing base (slot_in standing (place_of column.TripId table.header) row)) (field_at row at)
      (field_at row departure)) are.arrival_is
      (subst (λ at. IsRowWritable (offset_of standing base (slot_in standing (place_of column.TripId table.header) row))
      (field_at row (place_of column.ArrivalTime table.header)) (field_at row at)) are.departure_is fit.writable)) in
      subst (λ other. IsMovedRow (offset_of standing base (slot_in standing trip row)) trip arrival departure stop sequence row other)
      (λ i. stop_time_written standing base (sym are.trip_is i) (sym are.arrival_is i) (sym are.departure_is i) row)
      (written-row (offset_of standing base (slot_in standing trip row)) trip arrival departure stop sequence row are.apart
      (omega (arith, are.arrival_in, fit.wide)) (omega (arith, are.departure_in, fit.wide)) writable)

  step-back : (columns : Columns) → columns_in table.header ≡ Ok columns → (n : ℕ) (a b : List StopTimeView) (row : List (List ℕ))
      → IsFit row
      → with_stop_time names columns n a row ≡ Ok b
      → with_stop_time names columns n (moved_stop_times offsets a) (change row) ≡ Ok (moved_stop_times offsets b)
  step-back columns at n a b row fit step =
      step-moved offsets names columns n a b row (change row) (offset_of standing base (slot_in standing columns.trip row)) step
      (row-moved row columns.trip columns.arrival columns.departure columns.stop columns.sequence (columns-are table.header columns at) fit)
      (λ s found. ap (offset_of standing base) (named-kept standing names first (field_at row columns.trip) s found))

  rows-fit : IsTable table → AreWritable table standing base → All IsFit table.rows
  rows-fit is writable = λ i d within. record {
    wide = ap length (get_or_default table.rows i d [] within) ∙ is.width i within;
    writable = writable i d within;
  }

  pub stop_times-back : (bytes written : List ℕ) (stop_times : List StopTimeView) → IsTable table → AreWritable table standing base
      → table_of bytes ≡ Ok table → table_of written ≡ Ok (with_times table standing base)
      → stop_times_for names (File bytes) ≡ Ok stop_times → stop_times_for names (File written) ≡ Ok (moved_stop_times offsets stop_times)
  unfolding with_times
  stop_times-back bytes written stop_times is writable from to e =
      let read = sym (of-table paper.StopTimes columns_in (with_stop_time names) [] bytes table from) ∙ e in
      let columns = read-parts (columns_in table.header) _ stop_times read in
      of-table paper.StopTimes columns_in (with_stop_time names) [] written (with_times table standing base) to
      ∙ then (columns_in table.header) columns.0 _ _ columns.1
      (each-changed (with_stop_time names columns.0) (moved_stop_times offsets) change IsFit (step-back columns.0 columns.1) 1 []
      stop_times table.rows (rows-fit is writable) columns.2)

-- a table of which stop times are read has a column
pub header-filled : (names : List Name) (bytes : List ℕ) (table : TableView) (stop_times : List StopTimeView) → table_of bytes ≡ Ok table
    → stop_times_for names (File bytes) ≡ Ok stop_times → 0 < length table.header
header-filled names bytes table stop_times from e =
    let columns = read-parts (columns_in table.header) _ stop_times
    (sym (of-table paper.StopTimes columns_in (with_stop_time names) [] bytes table from) ∙ e) in
    omega (arith, (columns-are table.header columns.0 columns.1).arrival_in)
