-- The timetable of the selected trips of an accepted feed is valid. The places that the trips meet are distinct.
use Rattle.std.proofs.Common.{◌≡◌, ℕ, ◌<◌, ◌==◌, ◌||◌, Bool, true, false, cond, List, [], ◌∷◌, ◌++◌, length, map, get_or}
use Rattle.std.proofs.Common.{Option, Some, None, Ok, refl, sym, ap, subst, ◌∙◌, arith}
use Rattle.std.specs.Prelude.{All, Contains, IfOk, fold, nat_le, unwrap_or}
use Rattle.std.specs.Str.{bytes_eq}
use Rattle.std.proofs.Math.Bool.{or-true}
use Rattle.std.proofs.lemmas.Bool.{false≢true, leb-true}
use Rattle.std.proofs.lemmas.Int.{ints}
use Rattle.std.proofs.lemmas.List.{get_or-map, length-map, map_push}
use Rattle.std.proofs.lemmas.List.Elements.{All-cons, All-head, All-map, All-nil, All-push, All-tail, Contains-append_left, Contains-push}
use Rattle.std.proofs.lemmas.List.Quantifiers.{position-Some}
use Rattle.std.proofs.lemmas.Map.Views.{Contains-from_any}
use Rattle.std.proofs.lemmas.Slice.Eq.{bytes_eq-Decides}
use Rattle.desk_io.specs.declared.shelf.Found.{Found}
use Rattle.desk_settings.specs.Names.{is_among}
use Rattle.desk_settings.specs.Settings.{SettingsView, is_classed, layover_at}
use Rattle.feed_read.specs.Base.{base_of, end_of, ends_of, names_of, number_in, place_of, places_met, slot_of, start_of, timetable_of}
use Rattle.feed_read.specs.Base.{timetable_over, trip_between, with_place}
use Rattle.feed_read.specs.FeedTrips.{IsFeedTrip, feed_trips_in}
use Rattle.feed_read.specs.Trips.{trips_in}
use Rattle.feed_read.specs.declared.feed_trip.FeedTrip.{FeedTrip}
use Rattle.gtfs_tables.specs.Entries.{Name}
use Rattle.gtfs_tables.specs.Reading.{◌>>=◌}
use Rattle.gtfs_tables.specs.declared.fault.FeedFault.TheVariants as fault
use Rattle.gtfs_tables.specs.declared.paper.Paper.TheVariants as paper
use Rattle.trip_model.specs.Place.{Place, IsPlace, IsPostOrTerminal, class_of, has_slash, place_in, post_place, terminal_place}
use Rattle.trip_model.specs.Timetable.{AreDistinct, IsTimetable, number_of}
use Rattle.trip_model.specs.Trip.{IsValidTrip}
use Rattle.trip_model.specs.declared.limits.TheConstants.{MOST_PLACES}
use Rattle.trip_model.proofs.TimetableLemmas.{number_of-None}
use Rattle.planned_laws.proofs.ReadLemmas.{read-next, read-provided}
use Rattle.planned_laws.proofs.SettingsLemmas.{AreSettings, IsPlain, layover-few}
use Rattle.planned_laws.proofs.TripLemmas.{AreValidTrips, distinct-push, selected-read, trips-read}

-- a text that ends with `/` and a class has a `/`
slash-there : (before class : List ℕ) → has_slash (before ++ 47 ∷ class) ≡ true
slash-there [] class = refl
slash-there (x ∷ before) class = ap (λ b. (x == 47) || b) (slash-there before class) ∙ or-true (x == 47)

-- a post is named for one class
post-class : (a b c d : List ℕ) → IsPlain c → IsPlain d → a ++ 47 ∷ c ≡ b ++ 47 ∷ d → c ≡ d
post-class [] [] c d first second e = cc
post-class [] (x ∷ b) c d first second e =
    let rest : c ≡ b ++ 47 ∷ d = cc in absurd (false≢true (sym first ∙ ap has_slash rest ∙ slash-there b d))
post-class (x ∷ a) [] c d first second e =
    let rest : a ++ 47 ∷ c ≡ d = cc in absurd (false≢true (sym second ∙ ap has_slash (sym rest) ∙ slash-there a c))
post-class (x ∷ a) (y ∷ b) c d first second e = let rest : a ++ 47 ∷ c ≡ b ++ 47 ∷ d = cc in post-class a b c d first second rest

-- places of one name are of one class
name-class : (classed : Bool) (p q : Place) → IsPostOrTerminal classed p → IsPostOrTerminal classed q → p.name ≡ q.name → p.class ≡ q.class
name-class true p q is other e =
    post-class p.terminal q.terminal p.class q.class is.1 other.1
    (sym (ap (λ (r : Place). r.name) is.0) ∙ e ∙ ap (λ (r : Place). r.name) other.0)
name-class false p q is other e = ap (λ (r : Place). r.class) is ∙ sym (ap (λ (r : Place). r.class) other)

module _ (settings : SettingsView) (set : AreSettings settings) where
  abbrev IsHere : Place → Type 0
  IsHere = IsPlace (is_classed settings)

  -- the place of a terminal is valid, of the class that was asked for
  place-valid : (terminal class : Name) → IsPlain class → IsHere (place_of settings terminal class)
  place-valid terminal class plain = by (is_classed settings)
    where
      by : (b : Bool) → IsPlace b
          (cond b (post_place terminal class (layover_at settings terminal)) (terminal_place terminal (layover_at settings terminal)))
      by true = record { is = (refl, plain); layover = layover-few settings terminal set }
      by false = record { is = refl; layover = layover-few settings terminal set }

  one-class : (a b class : Name) → (place_of settings a class).class ≡ (place_of settings b class).class
  one-class a b class = by (is_classed settings)
    where
      by : (t : Bool) → (cond t (post_place a class (layover_at settings a)) (terminal_place a (layover_at settings a))).class
          ≡ (cond t (post_place b class (layover_at settings b)) (terminal_place b (layover_at settings b))).class
      by true = refl
      by false = refl

  -- the places at which valid trips begin and end are valid
  ends-valid : (feed_trips : List FeedTrip) → All IsFeedTrip feed_trips → All IsHere (ends_of settings feed_trips)
  ends-valid [] valid = All-nil IsHere
  ends-valid (t ∷ ts) valid =
      let plain = (All-head IsFeedTrip t ts valid).class in
      All-cons IsHere (start_of settings t) (end_of settings t ∷ ends_of settings ts) (place-valid t.from t.class plain)
      (All-cons IsHere (end_of settings t) (ends_of settings ts) (place-valid t.to t.class plain)
      (ends-valid ts (All-tail IsFeedTrip t ts valid)))

-- one place more
met-by : (P : List Place → Type 0) (places : List Place) (place : Place)
    → (is_among place.name (names_of places) ≡ true → P places)
    → (is_among place.name (names_of places) ≡ false → P (places ++ place ∷ []))
    → P (with_place places place)
met-by P places place known new = by (is_among place.name (names_of places)) refl
  where
    by : (b : Bool) → is_among place.name (names_of places) ≡ b → P (cond b places (places ++ place ∷ []))
    by true is = known is
    by false is = new is

abbrev Named : Name → List Place → Type 0
Named name places = Contains (names_of places) name

-- the names of places with one more
names-push : (places : List Place) (place : Place) → names_of (places ++ place ∷ []) ≡ names_of places ++ place.name ∷ []
names-push places place = map_push (λ (p : Place). p.name) places place

name-stays : (places : List Place) (place : Place) (name : Name) → Named name places → Named name (with_place places place)
name-stays places place name there =
    met-by (Named name) places place (λ _. there)
    (λ _. subst (λ names. Contains names name) (sym (names-push places place))
    (Contains-append_left (names_of places) (place.name ∷ []) name there))

name-met : (places : List Place) (place : Place) → Named place.name (with_place places place)
name-met places place =
    met-by (Named place.name) places place (λ known. Contains-from_any (λ x y. (bytes_eq-Decides x y).0) place.name (names_of places) known)
    (λ _. subst (λ names. Contains names place.name) (sym (names-push places place)) (Contains-push (names_of places) place.name))

names-stay : (places more : List Place) (name : Name) → Named name places → Named name (fold with_place places more)
names-stay places [] name there = there
names-stay places (p ∷ more) name there = names-stay (with_place places p) more name (name-stays places p name there)

-- each place that is met has its name among theirs
names-met : (places more : List Place) → All (λ (p : Place). Named p.name (fold with_place places more)) more
names-met places [] = All-nil (λ (p : Place). Named p.name places)
names-met places (p ∷ more) =
    All-cons (λ (q : Place). Named q.name (fold with_place (with_place places p) more)) p more
    (names-stay (with_place places p) more p.name (name-met places p)) (names-met (with_place places p) more)

-- they are distinct
distinct-met : (places more : List Place) → AreDistinct (names_of places) → AreDistinct (names_of (fold with_place places more))
distinct-met places [] distinct = distinct
distinct-met places (p ∷ more) distinct =
    distinct-met (with_place places p) more
    (met-by (λ now. AreDistinct (names_of now)) places p (λ _. distinct)
    (λ new. subst AreDistinct (sym (names-push places p)) (distinct-push (names_of places) p.name distinct new)))

-- and what holds of each holds of those that are met
all-met : (P : Place → Type 0) (places more : List Place) → All P places → All P more → All P (fold with_place places more)
all-met P places [] are more = are
all-met P places (p ∷ ps) are more =
    all-met P (with_place places p) ps (met-by (All P) places p (λ _. are) (λ _. All-push P places p are (All-head P p ps more)))
    (All-tail P p ps more)

-- The number of a place among places: there is one of its name, which is of its class.
record HasNumber (places : List Place) (place : Place) (number : ℕ) : Type 0 where
  pub within : number < length places
  pub class : class_of places number ≡ place.class

found-by : (classed : Bool) (places : List Place) (place : Place) → All (IsPlace classed) places → IsPlace classed place
    → Named place.name places → HasNumber places place (number_in places place)
unfolding class_of
found-by classed places place are is there = by (number_of (names_of places) place.name) refl
  where
    by : (number : Option ℕ) → number_of (names_of places) place.name ≡ number → HasNumber places place (unwrap_or number 0)
    by None none = absurd (number_of-None (names_of places) place.name none there)
    by (Some n) found =
        let at = position-Some (bytes_eq place.name) (names_of places) n [] found in
        let lt : n < length places = omega (arith, at.0, length-map places (λ (p : Place). p.name)) in
        let name = (bytes_eq-Decides place.name (get_or (names_of places) n [])).0 at.1
        ∙ get_or-map (λ (p : Place). p.name) places n (terminal_place [] 0) [] lt in
        record {
          within = lt;
          class = name-class classed (place_in places n) place (are n (terminal_place [] 0) lt).is is.is (sym name);
        }

-- a trip that was read is valid between two places of one class
between-valid : (places : List Place) (from to : ℕ) (feed_trip : FeedTrip) → from < length places → to < length places
    → class_of places from ≡ class_of places to → IsFeedTrip feed_trip → IsValidTrip places (trip_between from to feed_trip)
between-valid places from to feed_trip from_in to_in one_class is = record {
  from = from_in;
  to = to_in;
  one_class = one_class;
  forward = is.forward;
  early = is.early;
  late = is.late;
  not_too_early = omega (arith, ints);
  not_too_late = omega (arith, ints);
  departs_from_midnight = omega (arith, ints);
  departs_in_day = omega (arith, ints, is.departs);
  ends_in_day = omega (arith, ints, is.ends);
}

module _ (settings : SettingsView) (set : AreSettings settings) where
  slot-valid : (places : List Place) → All (IsPlace (is_classed settings)) places → (feed_trip : FeedTrip) → IsFeedTrip feed_trip
      → Named (start_of settings feed_trip).name places → Named (end_of settings feed_trip).name places
      → IsValidTrip places (slot_of settings places feed_trip).trip
  slot-valid places are t is start end =
      let classed = is_classed settings in
      let from = found-by classed places (start_of settings t) are (place-valid settings set t.from t.class is.class) start in
      let to = found-by classed places (end_of settings t) are (place-valid settings set t.to t.class is.class) end in
      between-valid places (number_in places (start_of settings t)) (number_in places (end_of settings t)) t from.within to.within
      (from.class ∙ one-class settings set t.from t.to t.class ∙ sym to.class) is

  slots-valid : (places : List Place) → All (IsPlace (is_classed settings)) places → (feed_trips : List FeedTrip)
      → All IsFeedTrip feed_trips → All (λ (p : Place). Named p.name places) (ends_of settings feed_trips)
      → All (λ t. IsValidTrip places (slot_of settings places t).trip) feed_trips
  slots-valid places are [] valid named = All-nil (λ t. IsValidTrip places (slot_of settings places t).trip)
  slots-valid places are (t ∷ ts) valid named =
      let P : Place → Type 0 = λ p. Named p.name places in
      let start = All-head P (start_of settings t) (end_of settings t ∷ ends_of settings ts) named in
      let rest = All-tail P (start_of settings t) (end_of settings t ∷ ends_of settings ts) named in
      All-cons (λ t. IsValidTrip places (slot_of settings places t).trip) t ts
      (slot-valid places are t (All-head IsFeedTrip t ts valid) start (All-head P (end_of settings t) (ends_of settings ts) rest))
      (slots-valid places are ts (All-tail IsFeedTrip t ts valid) (All-tail P (end_of settings t) (ends_of settings ts) rest))

  slot-names : (places : List Place) (feed_trips : List FeedTrip)
      → map (λ s. s.name) (map (slot_of settings places) feed_trips) ≡ map (λ (t : FeedTrip). t.name) feed_trips
  slot-names places [] = refl
  slot-names places (t ∷ ts) = ap (λ rest. t.name ∷ rest) (slot-names places ts)

  timetable-read : (feed_trips : List FeedTrip) → AreValidTrips feed_trips → IfOk (timetable_of settings feed_trips) IsTimetable
  unfolding timetable_of
  timetable-read feed_trips trips =
      let ends = ends_of settings feed_trips in
      let places = places_met ends in
      let here = IsPlace (is_classed settings) in
      let each = all-met here [] ends (All-nil here) (ends-valid settings set feed_trips trips.valid) in
      read-provided IsTimetable (nat_le (length places) MOST_PLACES) (fault.TooManyPlaces paper.StopTimes)
      (Ok (timetable_over settings places feed_trips))
      (λ few. record {
        place_names = distinct-met [] ends (λ i j d before lt. absurd (omega (arith, lt)));
        slot_names = subst AreDistinct (sym (slot-names places feed_trips)) trips.distinct;
        each = each;
        trips =
            All-map (λ s. IsValidTrip places s.trip) (slot_of settings places) feed_trips
            (slots-valid places each feed_trips trips.valid (names-met [] ends));
        places = leb-true (length places) MOST_PLACES few;
        slots = omega (arith, trips.few, length-map feed_trips (slot_of settings places));
        early = set.early;
        late = set.late;
      })

  -- the timetable of the trips of an accepted feed is valid
  pub base-read : (trips stop_times : Found) → IfOk (base_of settings trips stop_times) IsTimetable
  unfolding base_of
  base-read trips stop_times =
      read-next _ IsTimetable (trips_in settings trips) (λ selected. feed_trips_in settings selected stop_times >>= timetable_of settings)
      (selected-read settings set trips)
      (λ selected are. read-next AreValidTrips IsTimetable (feed_trips_in settings selected stop_times) (timetable_of settings)
      (trips-read settings set selected are stop_times) timetable-read)
