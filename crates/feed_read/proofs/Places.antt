-- Places in the order in which trips meet them.
use Rattle.std.proofs.Common.{◌≡◌, ℕ, suc, ◌+◌, ◌<◌, ◌≤◌, true, false, cond, List, [], ◌∷◌, ◌++◌, length, get_or, take, drop, refl, sym}
use Rattle.std.proofs.Common.{ap, ◌∙◌, subst, arith, length-append}
use Rattle.std.specs.Prelude.{Contains, fold}
use Rattle.std.proofs.Math.Seq.{drop-cons}
use Rattle.std.proofs.lemmas.Bool.{false_from_ne_true}
use Rattle.std.proofs.lemmas.Grind.{flat_map-append, fold-append}
use Rattle.std.proofs.lemmas.List.{map_push, take_more, take-append-drop}
use Rattle.std.proofs.lemmas.List.Elements.{Contains-append_left, Contains-append_right}
use Rattle.std.proofs.lemmas.Cmp.{nat_list_eq_equiv}
use Rattle.std.proofs.lemmas.Map.Views.{list_any-from_Contains, Contains-from_any}
use Rattle.std.proofs.lemmas.Slice.Eq.{bytes_eq-Decides}
use Rattle.gtfs_tables.specs.declared.fault.FeedFault.{FeedFault}
use Rattle.gtfs_tables.specs.declared.fault.FeedFault.TheVariants as fault
use Rattle.gtfs_tables.specs.declared.paper.Paper.TheVariants as paper
use Rattle.gtfs_tables.specs.Entries.{Name}
use Rattle.desk_settings.specs.Names.{is_among}
use Rattle.desk_settings.specs.Settings.{SettingsView}
use Rattle.trip_model.specs.Place.{Place}
use Rattle.trip_model.specs.Timetable.{TimetableView}
use Rattle.feed_read.specs.declared.feed_trip.FeedTrip.{FeedTrip}
use Rattle.feed_read.specs.Base.{end_of, ends_of, names_of, places_met, start_of, timetable_over, with_place, IsFullOrMemory}

-- a name that the names do not contain is not among them
not_among : (names : List Name) (name : Name) → ¬ Contains names name → is_among name names ≡ false
not_among names name new = false_from_ne_true _ (λ found. new (Contains-from_any (λ x y. (bytes_eq-Decides x y).0) name names found))

-- a place of a new name stands at the end of the places
pub with_place-new : (places : List Place) (place : Place) → ¬ Contains (names_of places) place.name
    → with_place places place ≡ places ++ place ∷ []
with_place-new places place new = ap (λ known. cond known places (places ++ place ∷ [])) (not_among (names_of places) place.name new)

-- no place is added where one has that name
pub with_place-known : (places : List Place) (place : Place) → Contains (names_of places) place.name → with_place places place ≡ places
with_place-known places place there =
    ap (λ known. cond known places (places ++ place ∷ [])) (list_any-from_Contains nat_list_eq_equiv place.name (names_of places) there)

-- one more place takes none away
with_place-longer : (places : List Place) (place : Place) → length places ≤ length (with_place places place)
with_place-longer places place =
    elim (is_among place.name (names_of places)) as (λ b. length places ≤ length (cond b places (places ++ place ∷ []))) [
      | true ↦ omega arith
      | false ↦ omega (arith, length-append places (place ∷ []))
    ]

-- the places do not grow fewer as more are met
met-longer : (places more : List Place) → length places ≤ length (fold with_place places more)
met-longer places [] = omega arith
met-longer places (place ∷ more) = omega (arith, with_place-longer places place, met-longer (with_place places place) more)

-- a name stays among the names as one more place is met
with_place-keeps : (places : List Place) (place : Place) (known : Name) → Contains (names_of places) known
    → Contains (names_of (with_place places place)) known
with_place-keeps places place known there =
    elim (is_among place.name (names_of places)) as (λ b. Contains (names_of (cond b places (places ++ place ∷ []))) known) [
      | true ↦ there
      | false ↦ subst (λ names. Contains names known) (sym (map_push (λ (p : Place). p.name) places place))
          (Contains-append_left (names_of places) (place.name ∷ []) known there)
    ]

-- a name stays among the names as more places are met
met-keeps : (places more : List Place) (known : Name) → Contains (names_of places) known
    → Contains (names_of (fold with_place places more)) known
met-keeps places [] known there = there
met-keeps places (place ∷ more) known there = met-keeps (with_place places place) more known (with_place-keeps places place known there)

-- the name of a place that is met is among the names
with_place-there : (places : List Place) (place : Place) → Contains (names_of (with_place places place)) place.name
with_place-there places place =
    elim (is_among place.name (names_of places)) as (λ b. is_among place.name (names_of places) ≡ b
    → Contains (names_of (cond b places (places ++ place ∷ []))) place.name) [
      | true ↦ λ found. Contains-from_any (λ x y. (bytes_eq-Decides x y).0) place.name (names_of places) found
      | false ↦ λ _. subst (λ names. Contains names place.name) (sym (map_push (λ (p : Place). p.name) places place))
          (Contains-append_right (names_of places) (place.name ∷ []) place.name (0, omega arith, refl))
    ] refl

-- too many places are too many with those after them
full-more : (places more : List Place) (refused : FeedFault) → length places ≤ length more → IsFullOrMemory places refused
    → IsFullOrMemory more refused
full-more places more fault.Memory le full = tt
full-more places more (fault.TooManyPlaces paper.StopTimes) le full = omega arith
full-more places more _ le full = absurd full

-- the timetable over places, with one place more
pushed : (settings : SettingsView) (places : List Place) (place : Place) (before after : TimetableView)
    → before ≡ timetable_over settings places [] → after ≡ record before { places = with_place before.places place }
    → after ≡ timetable_over settings (with_place places place) []
pushed settings places place before after so_far put = put
    ∙ ap (λ (t : TimetableView). record t { places = with_place t.places place }) so_far

module _ (settings : SettingsView) (feed_trips : List FeedTrip) where
  -- the places that the trips before one meet
  abbrev met_before : ℕ → List Place
  met_before i = places_met (ends_of settings (take i feed_trips))

  -- those, and the place from which that trip runs
  abbrev met_from : ℕ → FeedTrip → List Place
  met_from i feed_trip = with_place (met_before i) (start_of settings feed_trip)

  -- those, and the place to which it runs
  abbrev met_to : ℕ → FeedTrip → List Place
  met_to i feed_trip = with_place (met_from i feed_trip) (end_of settings feed_trip)

  -- the places that are met are those up to a trip, and then those of the trips after it
  met-split : (i : ℕ) (d : FeedTrip) → i < length feed_trips
      → places_met (ends_of settings feed_trips) ≡ fold with_place (met_to i (get_or feed_trips i d))
      (ends_of settings (drop (suc i) feed_trips))
  met-split i d lt =
      ap (λ js. places_met (ends_of settings js))
      (sym (take-append-drop i feed_trips) ∙ ap (λ rest. take i feed_trips ++ rest) (drop-cons feed_trips i d lt))
      ∙ ap places_met (flat_map-append (λ (feed_trip : FeedTrip). start_of settings feed_trip ∷ end_of settings feed_trip ∷ [])
      (take i feed_trips) (get_or feed_trips i d ∷ drop (suc i) feed_trips))
      ∙ fold-append with_place [] (ends_of settings (take i feed_trips)) _

  -- the places that are met before the next trip
  met-more : (i : ℕ) (d : FeedTrip) → i < length feed_trips → met_before (i + 1) ≡ met_to i (get_or feed_trips i d)
  met-more i d lt =
      ap (λ js. places_met (ends_of settings js)) (take_more feed_trips i d lt)
      ∙ ap places_met (flat_map-append (λ (feed_trip : FeedTrip). start_of settings feed_trip ∷ end_of settings feed_trip ∷ [])
      (take i feed_trips) (get_or feed_trips i d ∷ []))
      ∙ fold-append with_place [] (ends_of settings (take i feed_trips)) _

  -- the place from which a trip runs is met
  pub start_met : (i : ℕ) (d : FeedTrip) → i < length feed_trips
      → Contains (names_of (places_met (ends_of settings feed_trips))) (start_of settings (get_or feed_trips i d)).name
  start_met i d lt =
      let feed_trip = get_or feed_trips i d in
      subst (λ places. Contains (names_of places) (start_of settings feed_trip).name) (sym (met-split i d lt))
      (met-keeps _ (ends_of settings (drop (suc i) feed_trips)) _
      (with_place-keeps _ (end_of settings feed_trip) _ (with_place-there (met_before i) (start_of settings feed_trip))))

  -- the place to which a trip runs is met
  pub end_met : (i : ℕ) (d : FeedTrip) → i < length feed_trips
      → Contains (names_of (places_met (ends_of settings feed_trips))) (end_of settings (get_or feed_trips i d)).name
  end_met i d lt =
      let feed_trip = get_or feed_trips i d in
      subst (λ places. Contains (names_of places) (end_of settings feed_trip).name) (sym (met-split i d lt))
      (met-keeps _ (ends_of settings (drop (suc i) feed_trips)) _ (with_place-there (met_from i feed_trip) (end_of settings feed_trip)))

  -- the places up to the start of a trip are at most those that are met
  start-few : (i : ℕ) (d : FeedTrip) → i < length feed_trips
      → length (met_from i (get_or feed_trips i d)) ≤ length (places_met (ends_of settings feed_trips))
  start-few i d lt =
      let at = met_from i (get_or feed_trips i d) in
      let to = end_of settings (get_or feed_trips i d) in
      subst (λ places. length at ≤ length places) (sym (met-split i d lt))
      (omega (arith, with_place-longer at to, met-longer (with_place at to) (ends_of settings (drop (suc i) feed_trips))))

  -- the places up to the end of a trip are at most those that are met
  end-few : (i : ℕ) (d : FeedTrip) → i < length feed_trips
      → length (met_to i (get_or feed_trips i d)) ≤ length (places_met (ends_of settings feed_trips))
  end-few i d lt =
      let at = met_to i (get_or feed_trips i d) in
      subst (λ places. length at ≤ length places) (sym (met-split i d lt)) (met-longer at (ends_of settings (drop (suc i) feed_trips)))

  -- the places with both of the next trip
  pub places_go_on : (i : ℕ) (feed_trip : FeedTrip) (before middle after : TimetableView) → i < length feed_trips
      → feed_trip ≡ get_or feed_trips i feed_trip
      → before ≡ timetable_over settings (met_before i) []
      → middle ≡ record before { places = with_place before.places (start_of settings feed_trip) }
      → after ≡ record middle { places = with_place middle.places (end_of settings feed_trip) }
      → after ≡ timetable_over settings (met_before (i + 1)) []
  places_go_on i feed_trip before middle after lt is so_far from to =
      pushed settings (met_from i feed_trip) (end_of settings feed_trip) middle after
      (pushed settings (met_before i) (start_of settings feed_trip) before middle so_far from) to
      ∙ ap (λ (j : FeedTrip). timetable_over settings (met_to i j) []) is
      ∙ ap (λ places. timetable_over settings places []) (sym (met-more i feed_trip lt))

  -- the place from which a trip runs is one too many
  pub places_end_at_start : (i : ℕ) (feed_trip : FeedTrip) (before : TimetableView) (refused : FeedFault) → i < length feed_trips
      → feed_trip ≡ get_or feed_trips i feed_trip
      → before ≡ timetable_over settings (met_before i) [] → IsFullOrMemory (with_place before.places (start_of settings feed_trip)) refused
      → IsFullOrMemory (places_met (ends_of settings feed_trips)) refused
  places_end_at_start i feed_trip before refused lt is so_far full =
      full-more _ _ refused (start-few i feed_trip lt)
      (subst (λ (j : FeedTrip). IsFullOrMemory (met_from i j) refused) is
      (subst (λ (t : TimetableView). IsFullOrMemory (with_place t.places (start_of settings feed_trip)) refused) so_far full))

  -- the place to which a trip runs is one too many
  pub places_end_at_end : (i : ℕ) (feed_trip : FeedTrip) (before middle : TimetableView) (refused : FeedFault) → i < length feed_trips
      → feed_trip ≡ get_or feed_trips i feed_trip
      → before ≡ timetable_over settings (met_before i) []
      → middle ≡ record before { places = with_place before.places (start_of settings feed_trip) }
      → IsFullOrMemory (with_place middle.places (end_of settings feed_trip)) refused
      → IsFullOrMemory (places_met (ends_of settings feed_trips)) refused
  places_end_at_end i feed_trip before middle refused lt is so_far from full =
      full-more _ _ refused (end-few i feed_trip lt)
      (subst (λ (j : FeedTrip). IsFullOrMemory (met_to i j) refused) is
      (subst (λ (t : TimetableView). IsFullOrMemory (with_place t.places (end_of settings feed_trip)) refused)
      (pushed settings (met_before i) (start_of settings feed_trip) before middle so_far from) full))
