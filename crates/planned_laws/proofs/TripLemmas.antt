-- The selected trips of an accepted feed are valid: no name is there twice, and each trip ends after it departs, on the service day.
use Rattle.std.proofs.Common.{◌≡◌, ◌≢◌, ℕ, ◌+◌, ◌<◌, ◌≤◌, ◌==◌, Bool, true, false, cond, not, List, [], ◌∷◌, ◌++◌, length, map}
use Rattle.std.proofs.Common.{Option, Some, None, option_map, Ok, refl, sym, ap, subst, ◌∙◌, arith, append_assoc}
use Rattle.std.proofs.Common.{◌⊎◌, inl, inr}
use Rattle.std.specs.Option.{ok_or}
use Rattle.std.specs.Prelude.{All, Contains, IfOk, IfSome, fold, nat_le, nat_lt, slice_index_or}
use Rattle.std.proofs.lemmas.Bool.{cases_lt, false≢true, ltb-true, not-true}
use Rattle.std.proofs.lemmas.Cmp.{nat_list_eq_equiv}
use Rattle.std.proofs.lemmas.List.{append-nil, get_or_default, get_or_past, length-append, length-map, map_push}
use Rattle.std.proofs.lemmas.List.Elements.{All-filter, All-head, All-nil, All-push, All-tail}
use Rattle.std.proofs.lemmas.List.Quantifiers.{all_pairs_push}
use Rattle.std.proofs.lemmas.Map.Views.{list_any-from_Contains}
use Rattle.std.proofs.lemmas.Result.{IfOk-weaker}
use Rattle.desk_io.specs.declared.shelf.Found.{Found}
use Rattle.desk_settings.specs.Names.{is_among}
use Rattle.desk_settings.specs.Settings.{SettingsView, class_of, is_classed, terminal_of}
use Rattle.feed_read.specs.FeedTrips.{IsFeedTrip, feed_trip_at, feed_trip_between, feed_trip_from, feed_trip_of, feed_trips_in}
use Rattle.feed_read.specs.FeedTrips.{feed_trips_of, first_stop_time, has_repeat, last_stop_time, later, sequences, sooner, stop_times_of}
use Rattle.feed_read.specs.FeedTrips.{time_or, with_feed_trip}
use Rattle.feed_read.specs.StopTimes.{StopTimeView, stop_time_in, stop_times_for, with_stop_time, with_stop_time_of}
use Rattle.feed_read.specs.StopTimes as stops
use Rattle.feed_read.specs.Trips.{Selected, chosen_in, classed_columns_in, columns_in, nothing_selected, trips_in}
use Rattle.feed_read.specs.Trips.{with_chosen, with_chosen_class, with_classed_trip, with_selected, with_trip}
use Rattle.feed_read.specs.declared.feed_trip.FeedTrip.{FeedTrip}
use Rattle.gtfs_tables.specs.Entries.{Name}
use Rattle.gtfs_tables.specs.Fold.{paper_read}
use Rattle.gtfs_tables.specs.Reading.{◌>>=◌, each_record, field_at, filled_in, number_in, text_in, time_in}
use Rattle.gtfs_tables.specs.Spaces.{without_spaces}
use Rattle.gtfs_tables.specs.Times.{seconds_of}
use Rattle.gtfs_tables.specs.declared.fault.FeedFault.TheVariants as fault
use Rattle.gtfs_tables.specs.declared.paper.Column.{Column}
use Rattle.gtfs_tables.specs.declared.paper.Column.TheVariants as column
use Rattle.gtfs_tables.specs.declared.paper.Paper.TheVariants as paper
use Rattle.trip_model.specs.Timetable.{AreDistinct, number_of}
use Rattle.trip_model.specs.declared.limits.TheConstants.{MOST_SLOTS}
use Rattle.planned_laws.proofs.FormLemmas.{seconds_of-few}
use Rattle.planned_laws.proofs.ReadLemmas.{paper-kept, read-next, read-or, read-provided, read-then, some-made}
use Rattle.planned_laws.proofs.SettingsLemmas.{AreSettings, IsPlain, class_of-plain, layover-few, tolerance-most}

-- a name that is not among the names is none of them
pub among-new : (names : List Name) (name : Name) → is_among name names ≡ false → ¬ Contains names name
among-new names name new there = false≢true (sym new ∙ list_any-from_Contains nat_list_eq_equiv name names there)

-- so it may come behind them
pub distinct-push : (names : List Name) (name : Name) → AreDistinct names → is_among name names ≡ false
    → AreDistinct (names ++ name ∷ [])
distinct-push names name distinct new =
    all_pairs_push (λ x y. x ≢ y) names name distinct
    (λ k d lt e. among-new names name new (k, lt, get_or_default names k name d lt ∙ e))

-- the selected trips
pub record AreSelected (selected : Selected) : Type 0 where
  pub distinct : AreDistinct selected.names
  pub few : length selected.names ≤ MOST_SLOTS
  pub classes : All IsPlain selected.classes

selected-more : (number : ℕ) (before : Selected) (name class : Name) → AreSelected before → IsPlain class
    → IfOk (with_selected number before name class) AreSelected
unfolding with_selected
selected-more number before name class are plain =
    read-then AreSelected (filled_in paper.Trips number column.TripId name) _
    (λ _. read-provided AreSelected (not (is_among name before.names)) (fault.DuplicateRow paper.Trips number) _
    (λ new. read-provided AreSelected (nat_lt (length before.names) MOST_SLOTS) (fault.TooManyTrips number) _
    (λ room. record {
      distinct = distinct-push before.names name are.distinct (not-true (is_among name before.names) new);
      few = omega (arith, ltb-true (length before.names) MOST_SLOTS room, length-append before.names (name ∷ []));
      classes = All-push IsPlain before.classes class are.classes plain;
    })))

module _ (settings : SettingsView) (set : AreSettings settings) where
  trip-selected : (columns : _) (number : ℕ) (before : Selected) (fields : List (List ℕ)) → AreSelected before
      → IfOk (with_trip settings columns number before fields) AreSelected
  unfolding with_trip
  trip-selected columns number before fields are =
      read-then AreSelected (chosen_in settings columns number fields) (with_chosen number before) by
    where
      by : (name : Option Name) → IfOk (with_chosen number before name) AreSelected
      by None = are
      by (Some name) = selected-more number before name [] are refl

  classed-selected : (columns : _) (number : ℕ) (before : Selected) (fields : List (List ℕ)) → AreSelected before
      → IfOk (with_classed_trip settings columns number before fields) AreSelected
  unfolding with_classed_trip
  classed-selected columns number before fields are =
      read-then AreSelected (chosen_in settings columns.columns number fields) (with_chosen_class settings columns number before fields) by
    where
      by : (name : Option Name) → IfOk (with_chosen_class settings columns number before fields name) AreSelected
      by None = are
      by (Some name) =
          read-then AreSelected (text_in paper.Trips number column.RouteId (field_at fields columns.route))
          (λ route. with_selected number before name (class_of settings route))
          (λ route. selected-more number before name (class_of settings route) are (class_of-plain settings route set))

  pub selected-read : (found : Found) → IfOk (trips_in settings found) AreSelected
  selected-read found =
      by (is_classed settings)
    where
      none : AreSelected nothing_selected
      none = record { distinct = λ i j d before lt. absurd (omega (arith, lt)); few = omega arith; classes = All-nil IsPlain }

      by : (classed : Bool) → IfOk (cond classed
          (paper_read paper.Trips classed_columns_in (with_classed_trip settings) nothing_selected found)
          (paper_read paper.Trips columns_in (with_trip settings) nothing_selected found)) AreSelected
      by true =
          paper-kept AreSelected paper.Trips classed_columns_in (with_classed_trip settings) nothing_selected classed-selected none found
      by false = paper-kept AreSelected paper.Trips columns_in (with_trip settings) nothing_selected trip-selected none found

-- the times of a stop time are of the service day
abbrev IsOnDay : Option ℕ → Type 0
IsOnDay time = IfSome time (λ seconds. seconds ≤ 359999)

record IsTimed (stop_time : StopTimeView) : Type 0 where
  pub arrival : IsOnDay stop_time.arrival
  pub departure : IsOnDay stop_time.departure

time-on-day : (number : ℕ) (column : Column) (text : List ℕ) → IfOk (time_in paper.StopTimes number column text) IsOnDay
time-on-day number column text =
    by (length (without_spaces text) == 0)
  where
    by : (none : Bool) → IfOk (cond none (Ok None)
        (ok_or (option_map Some (seconds_of text)) (fault.BadTime paper.StopTimes number column))) IsOnDay
    by true = tt
    by false =
        read-or IsOnDay (option_map Some (seconds_of text)) (fault.BadTime paper.StopTimes number column)
        (some-made (λ seconds. seconds ≤ 359999) IsOnDay Some (seconds_of text) (seconds_of-few text) (λ seconds few. few))

stop_time-timed : (columns : _) (number trip : ℕ) (fields : List (List ℕ))
    → IfOk (stop_time_in columns number trip fields) IsTimed
unfolding stop_time_in
stop_time-timed columns number trip fields =
    read-then IsTimed (text_in paper.StopTimes number column.ArrivalTime (field_at fields columns.arrival)) _
    (λ arrival_text. read-then IsTimed (text_in paper.StopTimes number column.DepartureTime (field_at fields columns.departure)) _
    (λ departure_text. read-then IsTimed (text_in paper.StopTimes number column.StopId (field_at fields columns.stop)) _
    (λ stop. read-then IsTimed (text_in paper.StopTimes number column.StopSequence (field_at fields columns.sequence)) _
    (λ sequence_text. read-then IsTimed (filled_in paper.StopTimes number column.StopId stop) _
    (λ _. read-then IsTimed (filled_in paper.StopTimes number column.StopSequence sequence_text) _
    (λ _. read-then IsTimed (number_in paper.StopTimes number column.StopSequence 9 999999999 sequence_text) _
    (λ sequence. read-next IsOnDay IsTimed (time_in paper.StopTimes number column.ArrivalTime arrival_text) _
    (time-on-day number column.ArrivalTime arrival_text)
    (λ arrival here. read-next IsOnDay IsTimed (time_in paper.StopTimes number column.DepartureTime departure_text) _
    (time-on-day number column.DepartureTime departure_text) (λ departure there. record { arrival = here; departure = there })))))))))

stop_time-kept : (names : List Name) (columns : _) (number : ℕ) (before : List StopTimeView) (fields : List (List ℕ))
    → All IsTimed before → IfOk (with_stop_time names columns number before fields) (All IsTimed)
unfolding with_stop_time
stop_time-kept names columns number before fields are =
    read-then (All IsTimed) (text_in paper.StopTimes number column.TripId (field_at fields columns.trip)) _
    (λ name. by (number_of names name))
  where
    by : (trip : Option ℕ) → IfOk (with_stop_time_of columns number before fields trip) (All IsTimed)
    by None = are
    by (Some trip) =
        read-next IsTimed (All IsTimed) (stop_time_in columns number trip fields) (λ stop_time. Ok (before ++ stop_time ∷ []))
        (stop_time-timed columns number trip fields) (λ stop_time is. All-push IsTimed before stop_time are is)

stop_times-read : (names : List Name) (found : Found) → IfOk (stop_times_for names found) (All IsTimed)
stop_times-read names =
    paper-kept (All IsTimed) paper.StopTimes stops.columns_in (with_stop_time names) [] (stop_time-kept names) (All-nil IsTimed)

-- the first and the last stop time of a trip are of these
first-of : (P : StopTimeView → Type 0) (so_far : Option StopTimeView) (stop_times : List StopTimeView) → IfSome so_far P
    → All P stop_times → IfSome (fold sooner so_far stop_times) P
first-of P so_far [] is are = is
first-of P None (s ∷ stop_times) is are =
    first-of P (Some s) stop_times (All-head P s stop_times are) (All-tail P s stop_times are)
first-of P (Some least) (s ∷ stop_times) is are =
    first-of P (sooner (Some least) s) stop_times (by (nat_lt s.sequence least.sequence)) (All-tail P s stop_times are)
  where
    by : (b : Bool) → IfSome (cond b (Some s) (Some least)) P
    by true = All-head P s stop_times are
    by false = is

last-of : (P : StopTimeView → Type 0) (so_far : Option StopTimeView) (stop_times : List StopTimeView) → IfSome so_far P
    → All P stop_times → IfSome (fold later so_far stop_times) P
last-of P so_far [] is are = is
last-of P None (s ∷ stop_times) is are =
    last-of P (Some s) stop_times (All-head P s stop_times are) (All-tail P s stop_times are)
last-of P (Some greatest) (s ∷ stop_times) is are =
    last-of P (later (Some greatest) s) stop_times (by (nat_lt greatest.sequence s.sequence)) (All-tail P s stop_times are)
  where
    by : (b : Bool) → IfSome (cond b (Some s) (Some greatest)) P
    by true = All-head P s stop_times are
    by false = is

either-on-day : (time other : Option ℕ) → IsOnDay time → IsOnDay other → IsOnDay (time_or time other)
either-on-day (Some seconds) other is else = is
either-on-day None other is else = else

-- a trip by its name is valid
record IsNamed (name : Name) (feed_trip : FeedTrip) : Type 0 where
  pub valid : IsFeedTrip feed_trip
  pub named : feed_trip.name ≡ name

module _ (settings : SettingsView) (set : AreSettings settings) (name class : Name) (plain : IsPlain class) where
  trip-valid : (first last : StopTimeView) (departure arrival : ℕ) → arrival ≤ 359999 → departure < arrival
      → IsFeedTrip (feed_trip_at settings name class first last departure arrival)
  trip-valid first last departure arrival on_day forward =
      let layover = layover-few settings (terminal_of settings last.stop) set in
      let tolerances = tolerance-most settings name set in
      record {
        forward = omega (arith, forward);
        departs = omega (arith, forward, on_day);
        ends = omega (arith, on_day, layover);
        early = tolerances.0;
        late = tolerances.1;
        class = plain;
      }

  trip-between : (first last : StopTimeView) → IsTimed first → IsTimed last
      → IfOk (feed_trip_between settings name class first last) (IsNamed name)
  unfolding feed_trip_between
  trip-between first last starts ends =
      read-then (IsNamed name) (ok_or (time_or first.departure first.arrival) (fault.NoTime name)) _
      (λ departure. read-next (λ seconds. seconds ≤ 359999) (IsNamed name) (ok_or (time_or last.arrival last.departure) (fault.NoTime name))
      _
      (read-or (λ seconds. seconds ≤ 359999) (time_or last.arrival last.departure) (fault.NoTime name)
      (either-on-day last.arrival last.departure ends.arrival ends.departure))
      (λ arrival on_day. read-provided (IsNamed name) (nat_lt departure arrival) (fault.NotForward name)
      (Ok (feed_trip_at settings name class first last departure arrival))
      (λ forward. record {
        valid = trip-valid first last departure arrival on_day (ltb-true departure arrival forward);
        named = refl;
      })))

  trip-from : (first last : Option StopTimeView) → IfSome first IsTimed → IfSome last IsTimed
      → IfOk (feed_trip_from settings name class first last) (IsNamed name)
  trip-from (Some first) (Some last) starts ends = trip-between first last starts ends
  trip-from (Some first) None starts ends = tt
  trip-from None last starts ends = tt

  trip-of : (stop_times : List StopTimeView) → All IsTimed stop_times → IfOk (feed_trip_of settings name class stop_times) (IsNamed name)
  unfolding feed_trip_of
  trip-of stop_times timed =
      read-provided (IsNamed name) (nat_le 2 (length stop_times)) (fault.TooFewStops name) _
      (λ _. read-provided (IsNamed name) (not (has_repeat (sequences stop_times))) (fault.DuplicateSequence name) _
      (λ _. trip-from (first_stop_time stop_times) (last_stop_time stop_times) (first-of IsTimed None stop_times tt timed)
      (last-of IsTimed None stop_times tt timed)))

-- the trips that were read under names
record AreTrips (names : List Name) (feed_trips : List FeedTrip) : Type 0 where
  pub valid : All IsFeedTrip feed_trips
  pub named : map (λ (t : FeedTrip). t.name) feed_trips ≡ names

module _ (settings : SettingsView) (set : AreSettings settings) (classes : List Name) (plain : All IsPlain classes)
    (stop_times : List StopTimeView) (timed : All IsTimed stop_times) where
  class-at : (slot : ℕ) → IsPlain (slice_index_or classes slot [])
  class-at slot = by (cases_lt slot (length classes))
    where
      by : (slot < length classes) ⊎ (length classes ≤ slot) → IsPlain (slice_index_or classes slot [])
      by (inl lt) = plain slot [] lt
      by (inr le) = subst IsPlain (sym (get_or_past classes slot [] le)) refl

  trips-each : (slot : ℕ) (before : List FeedTrip) (done names : List Name) → AreTrips done before
      → IfOk (each_record (with_feed_trip settings classes stop_times) slot before names) (AreTrips (done ++ names))
  trips-each slot before done [] are = subst (λ names. AreTrips names before) (sym (append-nil done)) are
  trips-each slot before done (name ∷ names) are =
      let class = slice_index_or classes slot [] in
      let own = stop_times_of slot stop_times in
      read-next (AreTrips (done ++ name ∷ [])) (AreTrips (done ++ name ∷ names))
      (feed_trip_of settings name class own >>= λ feed_trip. Ok (before ++ feed_trip ∷ []))
      (λ more. each_record (with_feed_trip settings classes stop_times) (slot + 1) more names)
      (read-next (IsNamed name) (AreTrips (done ++ name ∷ [])) (feed_trip_of settings name class own)
      (λ feed_trip. Ok (before ++ feed_trip ∷ []))
      (trip-of settings set name class (class-at slot) own (All-filter (λ s. s.trip == slot) IsTimed stop_times timed))
      (λ feed_trip is. record {
        valid = All-push IsFeedTrip before feed_trip are.valid is.valid;
        named = map_push (λ (t : FeedTrip). t.name) before feed_trip ∙ λ i. are.named i ++ is.named i ∷ [];
      }))
      (λ more now. subst (λ all. IfOk (each_record (with_feed_trip settings classes stop_times) (slot + 1) more names) (AreTrips all))
      (append_assoc done (name ∷ []) names) (trips-each (slot + 1) more (done ++ name ∷ []) names now))

-- the selected trips of a feed are valid, and their names are distinct
pub record AreValidTrips (feed_trips : List FeedTrip) : Type 0 where
  pub valid : All IsFeedTrip feed_trips
  pub distinct : AreDistinct (map (λ (t : FeedTrip). t.name) feed_trips)
  pub few : length feed_trips ≤ MOST_SLOTS

pub trips-read : (settings : SettingsView) → AreSettings settings → (selected : Selected) → AreSelected selected → (found : Found)
    → IfOk (feed_trips_in settings selected found) AreValidTrips
trips-read settings set selected are found =
    read-next (All IsTimed) AreValidTrips (stop_times_for selected.names found) (feed_trips_of settings selected)
    (stop_times-read selected.names found)
    (λ stop_times timed. IfOk-weaker (feed_trips_of settings selected stop_times) (AreTrips selected.names) AreValidTrips
    (λ feed_trips trips. record {
      valid = trips.valid;
      distinct = subst AreDistinct (sym trips.named) are.distinct;
      few = omega (arith, are.few, length-map feed_trips (λ (t : FeedTrip). t.name), ap length trips.named);
    })
    (trips-each settings set selected.classes are.classes stop_times timed 0 [] [] selected.names
    (record { valid = All-nil IsFeedTrip; named = refl })))
