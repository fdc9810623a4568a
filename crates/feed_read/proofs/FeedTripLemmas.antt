-- A trip by what is kept of its stop times, and the trips one after the other.
use Rattle.std.proofs.Common.{◌≡◌, ℕ, ◌+◌, ◌-◌, ◌<◌, ◌≤◌, true, not, cond, List, [], ◌∷◌, ◌++◌, length, map, get_or, drop, Some, Result}
use Rattle.std.proofs.Common.{Ok, Err, sym, ap, subst, ◌∙◌, arith}
use Rattle.std.proofs.lemmas.Bool.{le-leb}
use Rattle.std.proofs.Math.ListN.{get_or-map}
use Rattle.std.proofs.lemmas.List.{length-map}
use Rattle.std.proofs.lemmas.Option.{slice_get-get_or}
use Rattle.gtfs_tables.specs.declared.fault.FeedFault.{FeedFault}
use Rattle.gtfs_tables.specs.declared.fault.FeedFault.TheVariants as fault
use Rattle.gtfs_tables.specs.Reading.{◌>>=◌, Fails, each_record}
use Rattle.gtfs_tables.proofs.ReadingLemmas.{records_go_on, records_end, Fails->>=}
use Rattle.gtfs_tables.specs.Entries.{Name}
use Rattle.desk_settings.specs.Settings.{SettingsView}
use Rattle.feed_read.specs.declared.feed_trip.FeedTrip.{FeedTrip}
use Rattle.feed_read.specs.declared.trip_ends.TripEnds.{TripEnds}
use Rattle.feed_read.specs.FeedTrips.{sequences, stop_times_of, has_repeat, first_stop_time, last_stop_time, feed_trip_from, feed_trip_of}
use Rattle.feed_read.specs.FeedTrips.{with_feed_trip}
use Rattle.feed_read.specs.Kept.{AreTripEnds, AreKept, trip_ends_seen}
use Rattle.feed_read.specs.StopTimes.{StopTimeView}
use Rattle.feed_read.proofs.TripEndsLemmas.{has_repeat-two}

-- a trip of which a number stands twice has two stop times at least
pub feed_trip_of-repeated : (settings : SettingsView) (name class : Name) (stop_times : List StopTimeView)
    → has_repeat (sequences stop_times) ≡ true
    → feed_trip_of settings name class stop_times ≡ Err (fault.DuplicateSequence name)
unfolding feed_trip_of
feed_trip_of-repeated settings name class stop_times repeats =
    let two : 2 ≤ length stop_times =
    omega (arith, has_repeat-two (sequences stop_times) repeats, length-map stop_times (λ (v : StopTimeView). v.sequence)) in
    ap (λ b. cond b (cond (not (has_repeat (sequences stop_times)))
    (feed_trip_from settings name class (first_stop_time stop_times) (last_stop_time stop_times)) (Err (fault.DuplicateSequence name)))
    (Err (fault.TooFewStops name)))
    (le-leb 2 (length stop_times) two)
    ∙ ap (λ b. cond (not b) (feed_trip_from settings name class (first_stop_time stop_times) (last_stop_time stop_times))
    (Err (fault.DuplicateSequence name))) repeats

-- what is kept at a slot is that of its stop times
kept_at : (stop_times : List StopTimeView) (trip_ends : List TripEnds) (slot : ℕ) (kept : TripEnds)
    → AreKept stop_times (map trip_ends_seen trip_ends) → slot < length trip_ends → kept ≡ get_or trip_ends slot kept
    → AreTripEnds (stop_times_of slot stop_times) (trip_ends_seen kept)
kept_at stop_times trip_ends slot kept are lt is =
    are slot (trip_ends_seen kept)
    (slice_get-get_or (map trip_ends_seen trip_ends) slot (trip_ends_seen kept) (rw length-map lt)
    ∙ ap Some (get_or-map trip_ends_seen trip_ends slot kept ∙ ap trip_ends_seen (sym is)))

module _ (settings : SettingsView) (stop_times : List StopTimeView) (trip_ends : List TripEnds) (names classes : List Name)
    (are : AreKept stop_times (map trip_ends_seen trip_ends)) where
  -- the name of a slot
  name_at : (slot : ℕ) (name : Name) → name ≡ get_or names slot [] → name ≡ get_or names (slot + 1 - 1) []
  name_at slot name is =
      let back : slot + 1 - 1 ≡ slot = omega arith in
      is ∙ sym (ap (λ n. get_or names n []) back)

  -- a trip was read
  pub feed_trips_go_on : (before : List FeedTrip) (slot : ℕ) (name class : Name) (kept : TripEnds) (feed_trip : FeedTrip)
      (all : Result (List FeedTrip) FeedFault)
      → slot < length names → slot < length trip_ends → name ≡ get_or names slot [] → class ≡ get_or classes slot []
      → kept ≡ get_or trip_ends slot kept
      → ((own : List StopTimeView) → AreTripEnds own (trip_ends_seen kept) → feed_trip_of settings name class own ≡ Ok feed_trip)
      → each_record (with_feed_trip settings classes stop_times) slot before (drop slot names) ≡ all
      → each_record (with_feed_trip settings classes stop_times) (slot + 1) (before ++ feed_trip ∷ []) (drop (slot + 1) names) ≡ all
  feed_trips_go_on before slot name class kept feed_trip all lt within is of at gives so_far =
      records_go_on (with_feed_trip settings classes stop_times) names slot before (before ++ feed_trip ∷ []) name slot all lt
      (name_at slot name is)
      (ap (λ read. read >>= λ j. Ok (before ++ j ∷ []))
      (ap (λ c. feed_trip_of settings name c (stop_times_of slot stop_times)) (sym of)
      ∙ gives (stop_times_of slot stop_times) (kept_at stop_times trip_ends slot kept are within at))) so_far

  -- a trip was refused
  pub feed_trips_end : (before : List FeedTrip) (slot : ℕ) (name class : Name) (kept : TripEnds) (refused : FeedFault)
      (all : Result (List FeedTrip) FeedFault)
      → slot < length names → slot < length trip_ends → name ≡ get_or names slot [] → class ≡ get_or classes slot []
      → kept ≡ get_or trip_ends slot kept
      → ((own : List StopTimeView) → AreTripEnds own (trip_ends_seen kept) → Fails refused (feed_trip_of settings name class own))
      → each_record (with_feed_trip settings classes stop_times) slot before (drop slot names) ≡ all → Fails refused all
  feed_trips_end before slot name class kept refused all lt within is of at gives so_far =
      records_end (with_feed_trip settings classes stop_times) names slot before name slot refused all lt (name_at slot name is)
      (Fails->>= refused (feed_trip_of settings name (get_or classes slot []) (stop_times_of slot stop_times)) (λ j. Ok (before ++ j ∷ []))
      (subst (λ c. Fails refused (feed_trip_of settings name c (stop_times_of slot stop_times))) of
      (gives (stop_times_of slot stop_times) (kept_at stop_times trip_ends slot kept are within at)))) so_far
