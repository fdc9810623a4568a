-- What is kept slot by slot as stop times are met one after the other.
use Rattle.std.proofs.Common.{◌≡◌, ◌≢◌, ℕ, zero, suc, ◌+◌, ◌<◌, true, false, cond, ◌==◌, List, [], ◌∷◌, ◌++◌, length, map, slice_get}
use Rattle.std.proofs.Common.{get_or, set, Some, None, Result, Ok, Err, refl, sym, ap, subst, ◌∙◌, ⊎_elim, ◌⊎◌, inl, inr, arith}
use Rattle.std.proofs.lemmas.Bool.{cases_eq}
use Rattle.std.proofs.lemmas.Bool.Decides.{eqb_tells}
use Rattle.std.proofs.lemmas.List.{append-nil, get_or-map, length-map, length-set, map-set, get_or-set_same, get_or-set_other}
use Rattle.std.proofs.lemmas.List.Elements.{filter-append}
use Rattle.std.proofs.lemmas.Option.{slice_get-get_or, slice_get_within, get_or_from_slice_get}
use Rattle.std.specs.Prelude.{⊤, All, OnOk, Option, position}
use Rattle.std.specs.Str.{bytes_eq}
use Rattle.desk_io.specs.declared.shelf.Found.{Found}
use Rattle.gtfs_tables.specs.declared.fault.FeedFault.{FeedFault}
use Rattle.gtfs_tables.specs.declared.fault.FeedFault.TheVariants as fault
use Rattle.gtfs_tables.specs.declared.paper.Column.TheVariants as column
use Rattle.gtfs_tables.specs.declared.paper.Paper.TheVariants as paper
use Rattle.gtfs_tables.specs.Fold.{paper_read}
use Rattle.gtfs_tables.specs.Reading.{◌>>=◌, each_record, field_at, table_in, text_in, Fails, Gives}
use Rattle.gtfs_tables.specs.Entries.{Name}
use Rattle.feed_read.specs.declared.trip_ends.TripEnds.{TripEnds}
use Rattle.feed_read.specs.declared.stop_times.Columns.{Columns}
use Rattle.feed_read.specs.FeedTrips.{stop_times_of}
use Rattle.feed_read.specs.Kept.{Kept, nothing_kept, trip_ends_seen, with_kept, with_kept_of, with_record_kept, AreKept, AreTripEnds, Keeps}
use Rattle.feed_read.specs.StopTimes.{StopTimeView, columns_in, stop_time_in, stop_times_for, with_stop_time, with_stop_time_of}
use Rattle.feed_read.proofs.TripEndsLemmas.{AreTripEnds-add, AreTripEnds-none}

-- the stop times of a slot with one more of that slot, and of another
stop_times_of-same : (before : List StopTimeView) (stop_time : StopTimeView) (slot : ℕ) → slot ≡ stop_time.trip
    → stop_times_of slot (before ++ stop_time ∷ []) ≡ stop_times_of slot before ++ stop_time ∷ []
stop_times_of-same before stop_time slot same =
    filter-append (λ v. v.trip == slot) before (stop_time ∷ [])
    ∙ ap (λ b. stop_times_of slot before ++ cond b (stop_time ∷ []) [])
    (⊎_elim (λ (is : ((stop_time.trip == slot) ≡ true) × (stop_time.trip ≡ slot)). is.0)
    (λ (is : ((stop_time.trip == slot) ≡ false) × (stop_time.trip ≢ slot)). absurd (is.1 (sym same))) (eqb_tells stop_time.trip slot))

stop_times_of-other : (before : List StopTimeView) (stop_time : StopTimeView) (slot : ℕ) → slot ≢ stop_time.trip
    → stop_times_of slot (before ++ stop_time ∷ []) ≡ stop_times_of slot before
stop_times_of-other before stop_time slot differs =
    filter-append (λ v. v.trip == slot) before (stop_time ∷ [])
    ∙ ap (λ b. stop_times_of slot before ++ cond b (stop_time ∷ []) [])
    (⊎_elim (λ (is : ((stop_time.trip == slot) ≡ true) × (stop_time.trip ≡ slot)). absurd (differs (sym is.1)))
    (λ (is : ((stop_time.trip == slot) ≡ false) × (stop_time.trip ≢ slot)). is.0) (eqb_tells stop_time.trip slot))
    ∙ append-nil (stop_times_of slot before)

-- one more stop time is kept at its slot
kept_more : (before : List StopTimeView) (kept : List Kept) (stop_time : StopTimeView) → AreKept before kept
    → AreKept (before ++ stop_time ∷ []) (set kept stop_time.trip (with_kept (get_or kept stop_time.trip nothing_kept) stop_time))
kept_more before kept stop_time are = λ slot own is. by slot own is (cases_eq slot stop_time.trip)
  where
    new : Kept
    new = with_kept (get_or kept stop_time.trip nothing_kept) stop_time

    by : (slot : ℕ) (own : Kept) → slice_get (set kept stop_time.trip new) slot ≡ Some own
        → (slot ≡ stop_time.trip) ⊎ (slot ≢ stop_time.trip) → AreTripEnds (stop_times_of slot (before ++ stop_time ∷ [])) own
    by slot own is (inl same) =
        let within : slot < length kept =
        omega (arith, slice_get_within (set kept stop_time.trip new) slot own is, length-set kept stop_time.trip new) in
        let trip_within : stop_time.trip < length kept = omega (arith, same, within) in
        let now : new ≡ own =
        sym (get_or-set_same kept stop_time.trip new new trip_within) ∙ ap (λ n. get_or (set kept stop_time.trip new) n new) (sym same) ∙
        get_or_from_slice_get (set kept stop_time.trip new) slot own new is in
        let was : slice_get kept slot ≡ Some (get_or kept stop_time.trip nothing_kept) =
        ap (slice_get kept) same ∙ slice_get-get_or kept stop_time.trip nothing_kept trip_within in
        subst (λ stop_times. AreTripEnds stop_times own) (sym (stop_times_of-same before stop_time slot same))
        (subst (AreTripEnds (stop_times_of slot before ++ stop_time ∷ [])) now
        (AreTripEnds-add (stop_times_of slot before) stop_time (get_or kept stop_time.trip nothing_kept)
        (are slot (get_or kept stop_time.trip nothing_kept) was)))
    by slot own is (inr differs) =
        let within : slot < length kept =
        omega (arith, slice_get_within (set kept stop_time.trip new) slot own is, length-set kept stop_time.trip new) in
        let was : slice_get kept slot ≡ Some own =
        slice_get-get_or kept slot new within ∙ ap Some
        (sym (get_or-set_other kept stop_time.trip slot new new differs) ∙ get_or_from_slice_get (set kept stop_time.trip new) slot own new
        is) in
        subst (λ stop_times. AreTripEnds stop_times own) (sym (stop_times_of-other before stop_time slot differs)) (are slot own was)

-- what is kept follows the stop times: of as many slots, or refused alike
abbrev pub Follows : Result (List StopTimeView) FeedFault → Result (List Kept) FeedFault → Type 0
Follows (Ok stop_times) (Ok kept) = AreKept stop_times kept
Follows (Ok stop_times) (Err refused) = ⊥
Follows (Err refused) (Ok kept) = ⊥
Follows (Err refused) (Err told) = refused ≡ told

-- one part after another
follows-bind : (stop_times : Result (List StopTimeView) FeedFault) (kept : Result (List Kept) FeedFault)
    (next : List StopTimeView → Result (List StopTimeView) FeedFault) (keep : List Kept → Result (List Kept) FeedFault)
    → Follows stop_times kept → ((v : List StopTimeView) (k : List Kept) → AreKept v k → Follows (next v) (keep k))
    → Follows (stop_times >>= next) (kept >>= keep)
follows-bind (Ok stop_times) (Ok kept) next keep are each = each stop_times kept are
follows-bind (Ok stop_times) (Err refused) next keep are each = absurd are
follows-bind (Err refused) (Ok kept) next keep are each = absurd are
follows-bind (Err refused) (Err told) next keep are each = are

-- a part that both read, and then one each
follows-after : {X : Type 0} (read : Result X FeedFault) (next : X → Result (List StopTimeView) FeedFault)
    (keep : X → Result (List Kept) FeedFault)
    → ((x : X) → Follows (next x) (keep x)) → Follows (read >>= next) (read >>= keep)
follows-after (Ok x) next keep each = each x
follows-after (Err refused) next keep each = refl

module _ (names : List Name) (columns : Columns) where
  -- a record of the trip of a slot, or of no selected trip
  follows-of : (number : ℕ) (stop_times : List StopTimeView) (kept : List Kept) (fields : List (List ℕ)) (found : Option ℕ)
      → AreKept stop_times kept
      → Follows (with_stop_time_of columns number stop_times fields found) (with_kept_of columns number kept fields found)
  follows-of number stop_times kept fields None are = are
  follows-of number stop_times kept fields (Some trip) are =
      follows-after (stop_time_in columns number trip fields) _ _ (λ stop_time. kept_more stop_times kept stop_time are)

  follows-record : (number : ℕ) (stop_times : List StopTimeView) (kept : List Kept) (fields : List (List ℕ)) → AreKept stop_times kept
      → Follows (with_stop_time names columns number stop_times fields) (with_record_kept names columns number kept fields)
  unfolding with_stop_time with_record_kept
  follows-record number stop_times kept fields are =
      follows-after (text_in paper.StopTimes number column.TripId (field_at fields columns.trip)) _ _
      (λ name. follows-of number stop_times kept fields (position (bytes_eq name) names) are)

  follows-each : (number : ℕ) (stop_times : List StopTimeView) (kept : List Kept) (rows : List (List (List ℕ))) → AreKept stop_times kept
      → Follows (each_record (with_stop_time names columns) number stop_times rows)
      (each_record (with_record_kept names columns) number kept rows)
  follows-each number stop_times kept [] are = are
  follows-each number stop_times kept (fields ∷ rows) are =
      follows-bind (with_stop_time names columns number stop_times fields) (with_record_kept names columns number kept fields) _ _
      (follows-record number stop_times kept fields are)
      (λ v k now. follows-each (number + 1) v k rows now)

-- what is kept of the file follows its stop times
pub follows-paper : (names : List Name) (kept : List Kept) (found : Found) → AreKept [] kept
    → Follows (stop_times_for names found) (paper_read paper.StopTimes columns_in (with_record_kept names) kept found)
follows-paper names kept found are =
    follows-after (table_in paper.StopTimes found) _ _
    (λ table. follows-after (columns_in table.header) _ _ (λ columns. follows-each names columns 1 [] kept table.rows are))

-- what is kept is of so many trips
abbrev pub IsOf : ℕ → Result (List Kept) FeedFault → Type 0
IsOf count (Ok kept) = length kept ≡ count
IsOf count (Err refused) = ⊤

is_of-bind : (count : ℕ) (kept : Result (List Kept) FeedFault) (keep : List Kept → Result (List Kept) FeedFault) → IsOf count kept
    → ((k : List Kept) → length k ≡ count → IsOf count (keep k)) → IsOf count (kept >>= keep)
is_of-bind count (Ok kept) keep is each = each kept is
is_of-bind count (Err refused) keep is each = tt

is_of-after : {X : Type 0} (count : ℕ) (read : Result X FeedFault) (keep : X → Result (List Kept) FeedFault)
    → ((x : X) → IsOf count (keep x)) → IsOf count (read >>= keep)
is_of-after count (Ok x) keep each = each x
is_of-after count (Err refused) keep each = tt

module _ (names : List Name) (columns : Columns) (count : ℕ) where
  is_of-found : (number : ℕ) (kept : List Kept) (fields : List (List ℕ)) (found : Option ℕ) → length kept ≡ count
      → IsOf count (with_kept_of columns number kept fields found)
  is_of-found number kept fields None is = is
  is_of-found number kept fields (Some trip) is =
      is_of-after count (stop_time_in columns number trip fields) _
      (λ stop_time. length-set kept stop_time.trip (with_kept (get_or kept stop_time.trip nothing_kept) stop_time) ∙ is)

  is_of-record : (number : ℕ) (kept : List Kept) (fields : List (List ℕ)) → length kept ≡ count
      → IsOf count (with_record_kept names columns number kept fields)
  unfolding with_record_kept
  is_of-record number kept fields is =
      is_of-after count (text_in paper.StopTimes number column.TripId (field_at fields columns.trip)) _
      (λ name. is_of-found number kept fields (position (bytes_eq name) names) is)

  is_of-each : (number : ℕ) (kept : List Kept) (rows : List (List (List ℕ))) → length kept ≡ count
      → IsOf count (each_record (with_record_kept names columns) number kept rows)
  is_of-each number kept [] is = is
  is_of-each number kept (fields ∷ rows) is =
      is_of-bind count (with_record_kept names columns number kept fields) _ (is_of-record number kept fields is)
      (λ k same. is_of-each (number + 1) k rows same)

-- what is kept of the file is of as many trips as what was kept before
pub is_of-paper : (names : List Name) (kept : List Kept) (found : Found)
    → IsOf (length kept) (paper_read paper.StopTimes columns_in (with_record_kept names) kept found)
is_of-paper names kept found =
    is_of-after (length kept) (table_in paper.StopTimes found) _
    (λ table. is_of-after (length kept) (columns_in table.header) _
    (λ columns. is_of-each names columns (length kept) 1 kept table.rows refl))

-- at each slot nothing is kept
get-nothing : (trip_ends : List TripEnds) (slot : ℕ) → slot < length trip_ends → All (λ kept. trip_ends_seen kept ≡ nothing_kept) trip_ends
    → get_or (map trip_ends_seen trip_ends) slot nothing_kept ≡ nothing_kept
get-nothing [] slot within none = absurd (omega arith)
get-nothing (s ∷ trip_ends) zero within none = none 0 s (omega arith)
get-nothing (s ∷ trip_ends) (suc slot) within none = get-nothing trip_ends slot (omega arith) (λ k d lt. none (suc k) d (omega arith))

-- what is kept of no stop times
pub AreKept-none : (trip_ends : List TripEnds) → All (λ kept. trip_ends_seen kept ≡ nothing_kept) trip_ends
    → AreKept [] (map trip_ends_seen trip_ends)
AreKept-none trip_ends none = λ slot own is.
    let within : slot < length trip_ends =
    omega (arith, slice_get_within (map trip_ends_seen trip_ends) slot own is, length-map trip_ends trip_ends_seen) in
    let nothing : own ≡ nothing_kept =
    sym (get_or_from_slice_get (map trip_ends_seen trip_ends) slot own nothing_kept is) ∙ get-nothing trip_ends slot within none in
    subst (AreTripEnds []) (sym nothing) AreTripEnds-none

-- a refusal fails whatever was to be read
err-fails : (refused told : FeedFault) → Fails {A = List Kept} refused (Err told) → Fails {A = List StopTimeView} refused (Err told)
err-fails fault.Memory told fails = tt
err-fails refused told fails = cc fails

ok-fails : (refused : FeedFault) (kept : List Kept) (stop_times : List StopTimeView) → Fails refused (Ok kept)
    → Fails refused (Ok stop_times)
ok-fails fault.Memory kept stop_times fails = tt
ok-fails refused kept stop_times fails = cc fails

follows-fails : (refused : FeedFault) (read : Result (List StopTimeView) FeedFault) (keep : Result (List Kept) FeedFault)
    → Follows read keep → Fails refused keep → Fails refused read
follows-fails refused (Ok stop_times) (Ok kept) follows fails = ok-fails refused kept stop_times fails
follows-fails refused (Ok stop_times) (Err told) follows fails = absurd follows
follows-fails refused (Err due) (Ok kept) follows fails = absurd follows
follows-fails refused (Err due) (Err told) follows fails =
    subst (λ f. Fails {A = List StopTimeView} refused (Err f)) (sym follows) (err-fails refused told fails)

-- a call that gives what is kept of the file keeps what there is to keep
pub keeps-file : {X : Type 0} (view : X → List TripEnds) (result : Result X FeedFault) (names : List Name) (kept : List Kept)
    (found : Found) → AreKept [] kept
    → Gives (λ x. map trip_ends_seen (view x)) result (paper_read paper.StopTimes columns_in (with_record_kept names) kept found)
    → Keeps view result (stop_times_for names found)
keeps-file view (Ok x) names kept found are gives =
    by (stop_times_for names found) (subst (Follows (stop_times_for names found)) gives (follows-paper names kept found are))
  where
    by : (read : Result (List StopTimeView) FeedFault) → Follows read (Ok (map trip_ends_seen (view x))) → Keeps view (Ok x) read
    by (Ok stop_times) follows = follows
    by (Err refused) follows = follows
keeps-file view (Err refused) names kept found are fails =
    follows-fails refused (stop_times_for names found) (paper_read paper.StopTimes columns_in (with_record_kept names) kept found)
    (follows-paper names kept found are) fails

-- what follows on the stop times, where it is given of all stop times of which this is kept
pub gives-kept : {X Y : Type 0} (view : X → Y) (result : Result X FeedFault) (trip_ends : List TripEnds)
    (read : Result (List StopTimeView) FeedFault) (next : List StopTimeView → Result Y FeedFault)
    → Keeps (λ (s : List TripEnds). s) (Ok trip_ends) read
    → ((stop_times : List StopTimeView) → AreKept stop_times (map trip_ends_seen trip_ends) → Gives view result (next stop_times))
    → Gives view result (read >>= next)
gives-kept view result trip_ends (Ok stop_times) next keeps gives = gives stop_times keeps
gives-kept view result trip_ends (Err refused) next keeps gives = absurd keeps

-- what holds where a call gave something
pub on-ok : {X E P Q : Type 0} (result : Result X E) → (P → Q) → OnOk result P → OnOk result Q
on-ok (Ok x) gives holds = gives holds
on-ok (Err e) gives holds = tt

-- what a stop time changes at its slot
pub kept-set : (trip_ends : List TripEnds) (stop_time : StopTimeView) (d new : TripEnds) → stop_time.trip < length trip_ends
    → trip_ends_seen new ≡ with_kept (trip_ends_seen (get_or trip_ends stop_time.trip d)) stop_time
    → map trip_ends_seen (set trip_ends stop_time.trip new) ≡ set (map trip_ends_seen trip_ends) stop_time.trip
    (with_kept (get_or (map trip_ends_seen trip_ends) stop_time.trip nothing_kept) stop_time)
kept-set trip_ends stop_time d new within adds =
    map-set trip_ends_seen trip_ends stop_time.trip new
    ∙ ap (set (map trip_ends_seen trip_ends) stop_time.trip)
    (adds ∙ ap (λ kept. with_kept kept stop_time) (sym (get_or-map trip_ends_seen trip_ends stop_time.trip d nothing_kept within)))
