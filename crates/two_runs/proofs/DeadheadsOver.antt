-- What is read of deadheads over a timetable is read of them over the timetable with other trips between its places.
use Rattle.std.proofs.Common.{◌≡◌, ℕ, ◌+◌, ◌++◌, nat_lt, List, [], ◌∷◌, length, Option, None, Some, Result, Ok, sym, ap, ◌∙◌}
use Rattle.desk_io.specs.declared.shelf.Found.{Found}
use Rattle.desk_io.specs.declared.shelf.Found.TheVariants.{File, Missing, TooLong}
use Rattle.gtfs_tables.specs.declared.fault.FeedFault.{FeedFault}
use Rattle.gtfs_tables.specs.declared.fault.FeedFault.TheVariants as fault
use Rattle.gtfs_tables.specs.declared.paper.Paper.TheVariants as paper
use Rattle.gtfs_tables.specs.Fold.{paper_read, table_read}
use Rattle.gtfs_tables.specs.Reading.{each_record, provided, table_in}
use Rattle.trip_model.specs.Place.{Place}
use Rattle.trip_model.specs.Timetable.{TimetableView, Slot, number_of, place_names}
use Rattle.trip_model.specs.declared.limits.TheConstants.{MOST_PLACES}
use Rattle.deadhead_matrix.specs.declared.entry.Entry.{Entry}
use Rattle.deadhead_matrix.specs.Deadheads.{ReadingView, begun, columns_in, deadhead_in, deadheads_of, or_new_place, with_deadhead}
use Rattle.deadhead_matrix.specs.Deadheads.{with_entries, with_place, with_places, with_unplaced}
use Rattle.deadhead_matrix.specs.Posts.{Class, classes_of, place_for}
use Rattle.claim_files.proofs.EachRecord.{provided-parts, read-parts, same_Ok}
use Rattle.claim_files.proofs.FieldsBack.{then}

-- a timetable with other slots
abbrev pub with_slots : List Slot → TimetableView → TimetableView
with_slots slots timetable = record timetable { slots = slots }

-- records that are read alike of what is changed alike
each-alike : {A R : Type 0} (read : ℕ → A → R → Result A FeedFault) (f : A → A)
    → ((n : ℕ) (a b : A) (row : R) → read n a row ≡ Ok b → read n (f a) row ≡ Ok (f b))
    → (n : ℕ) (a b : A) (rows : List R) → each_record read n a rows ≡ Ok b → each_record read n (f a) rows ≡ Ok (f b)
each-alike read f alike n a b [] e = ap (λ x. Ok (f x)) (same_Ok a b e)
each-alike read f alike n a b (row ∷ rows) e =
    let parts = read-parts (read n a row) (λ more. each_record read (n + 1) more rows) b e in
    then (read n (f a) row) (f parts.0) (λ more. each_record read (n + 1) more rows) (Ok (f b)) (alike n a parts.0 row parts.1)
    (each-alike read f alike (n + 1) parts.0 b rows parts.2)

module _ (slots : List Slot) where
  -- what a reading gives beside a timetable
  abbrev over : {X : Type 0} → TimetableView × X → TimetableView × X
  over r = (with_slots slots r.0, r.1)

  place-over : (t : TimetableView) (place : Place) (r : TimetableView × ℕ) → with_place t place ≡ Ok r
      → with_place (with_slots slots t) place ≡ Ok (over r)
  place-over t place r = by (number_of (place_names t) place.name)
    where
      by : (n : Option ℕ) → or_new_place t place n ≡ Ok r → or_new_place (with_slots slots t) place n ≡ Ok (over r)
      by (Some number) e = ap (λ (r : TimetableView × ℕ). Ok (over r)) (same_Ok (t, number) r e)
      by None e =
          let parts = provided-parts (nat_lt (length t.places) MOST_PLACES) (fault.TooManyPlaces paper.Deadheads)
          (Ok (record t { places = t.places ++ place ∷ [] }, length t.places)) r e in
          ap (λ b. provided b (fault.TooManyPlaces paper.Deadheads)
          (Ok (record (with_slots slots t) { places = t.places ++ place ∷ [] }, length t.places))) parts.0
          ∙ ap (λ (r : TimetableView × ℕ). Ok (over r)) (same_Ok (record t { places = t.places ++ place ∷ [] }, length t.places) r parts.1)

  places-over : (terminal : List ℕ) (t : TimetableView) (numbers : List ℕ) (classes : List Class) (r : TimetableView × List ℕ)
      → with_places terminal t numbers classes ≡ Ok r
      → with_places terminal (with_slots slots t) numbers classes ≡ Ok (over r)
  places-over terminal t numbers [] r e = ap (λ (r : TimetableView × List ℕ). Ok (over r)) (same_Ok (t, numbers) r e)
  places-over terminal t numbers (class ∷ classes) r e =
      let next = λ (here : TimetableView × ℕ). with_places terminal here.0 (numbers ++ here.1 ∷ []) classes in
      let here = read-parts (with_place t (place_for t.classed terminal class)) next r e in
      then (with_place (with_slots slots t) (place_for t.classed terminal class)) (over here.0) next (Ok (over r))
      (place-over t (place_for t.classed terminal class) here.0 here.1)
      (places-over terminal here.0.0 (numbers ++ here.0.1 ∷ []) classes r here.2)

  -- what the records so far give
  abbrev read-over : ReadingView → ReadingView
  read-over read = record read { timetable = with_slots slots read.timetable }

  record-over : (classes : List Class) (columns : _) (number : ℕ) (before after : ReadingView) (fields : List (List ℕ))
      → with_deadhead classes columns number before fields ≡ Ok after
      → with_deadhead classes columns number (read-over before) fields ≡ Ok (read-over after)
  unfolding with_deadhead
  record-over classes columns number before after fields e =
      let deadhead = read-parts (deadhead_in columns number fields) _ after e in
      let from = read-parts (with_places deadhead.0.0 before.timetable [] classes) _ after deadhead.2 in
      let to = read-parts (with_places deadhead.0.1 from.0.0 [] classes) _ after from.2 in
      let entries = read-parts (with_entries number deadhead.0.2 before.entries from.0.1 to.0.1) _ after to.2 in
      let unplaced = read-parts (with_unplaced number classes before.unplaced (deadhead.0.0, deadhead.0.1)) _ after entries.2 in
      then (deadhead_in columns number fields) deadhead.0 _ (Ok (read-over after)) deadhead.1
      (then (with_places deadhead.0.0 (with_slots slots before.timetable) [] classes) (over from.0) _ (Ok (read-over after))
      (places-over deadhead.0.0 before.timetable [] classes from.0 from.1)
      (then (with_places deadhead.0.1 (with_slots slots from.0.0) [] classes) (over to.0) _ (Ok (read-over after))
      (places-over deadhead.0.1 from.0.0 [] classes to.0 to.1)
      (then (with_entries number deadhead.0.2 before.entries from.0.1 to.0.1) entries.0 _ (Ok (read-over after)) entries.1
      (then (with_unplaced number classes before.unplaced (deadhead.0.0, deadhead.0.1)) unplaced.0 _ (Ok (read-over after)) unplaced.1
      (ap (λ (read : ReadingView). Ok (read-over read)) (same_Ok _ after unplaced.2))))))

  pub deadheads-over : (found : Found) (t : TimetableView) (r : TimetableView × List Entry) → deadheads_of found t ≡ Ok r
      → deadheads_of found (with_slots slots t) ≡ Ok (over r)
  deadheads-over Missing t r e = ap (λ (r : TimetableView × List Entry). Ok (over r)) (same_Ok (t, []) r e)
  deadheads-over TooLong t r e = absurd (cc e)
  deadheads-over (File bytes) t r e =
      let last = λ (read : ReadingView). Ok (read.timetable, read.entries) in
      let read = read-parts (paper_read paper.Deadheads columns_in (with_deadhead (classes_of t)) (begun t) (File bytes)) last r e in
      let table = read-parts (table_in paper.Deadheads (File bytes)) (table_read columns_in (with_deadhead (classes_of t)) (begun t))
      read.0 read.1 in
      let columns = read-parts (columns_in table.0.header)
      (λ columns. each_record (with_deadhead (classes_of t) columns) 1 (begun t) table.0.rows) read.0 table.2 in
      then (paper_read paper.Deadheads columns_in (with_deadhead (classes_of t)) (begun (with_slots slots t)) (File bytes))
      (read-over read.0) last (Ok (over r))
      (then (table_in paper.Deadheads (File bytes)) table.0
      (table_read columns_in (with_deadhead (classes_of t)) (begun (with_slots slots t))) (Ok (read-over read.0)) table.1
      (then (columns_in table.0.header) columns.0
      (λ columns. each_record (with_deadhead (classes_of t) columns) 1 (begun (with_slots slots t)) table.0.rows)
      (Ok (read-over read.0)) columns.1
      (each-alike (with_deadhead (classes_of t) columns.0) read-over (λ n a b row is. record-over (classes_of t) columns.0 n a b row is) 1
      (begun t) read.0 table.0.rows columns.2)))
      (ap (λ (r : TimetableView × List Entry). Ok (over r)) (same_Ok (read.0.timetable, read.0.entries) r read.2))

-- deadheads add places, and leave the trips as they are
pub slots-kept : (found : Found) (t : TimetableView) (r : TimetableView × List Entry) → deadheads_of found t ≡ Ok r
    → r.0 ≡ with_slots t.slots r.0
slots-kept found t r e = ap (λ (r : TimetableView × List Entry). r.0)
    (same_Ok r (over t.slots r) (sym e ∙ deadheads-over t.slots found t r e))
