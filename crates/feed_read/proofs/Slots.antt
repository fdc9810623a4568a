-- Slots made of trips, one after the other.
use Rattle.std.proofs.Common.{◌≡◌, ℕ, ◌+◌, ◌<◌, List, [], ◌∷◌, ◌++◌, length, map, get_or, take, Some, None, refl, sym, ap, ◌∙◌}
use Rattle.std.specs.Prelude.{Contains, Option, IsSome, unwrap_or}
use Rattle.std.proofs.lemmas.List.{map_push, take_more}
use Rattle.gtfs_tables.specs.Entries.{Name}
use Rattle.desk_settings.specs.Settings.{SettingsView}
use Rattle.trip_model.specs.Place.{Place}
use Rattle.trip_model.specs.Timetable.{TimetableView, Slot, AreDistinct, place_names, slot_names, number_of}
use Rattle.trip_model.proofs.TimetableLemmas.{new_after_front, number_of-None}
use Rattle.feed_read.specs.declared.feed_trip.FeedTrip.{FeedTrip}
use Rattle.feed_read.specs.Base.{end_of, names_of, number_in, slot_of, start_of, timetable_over, trip_between}

-- the name of a trip
abbrev name_of : FeedTrip → Name
name_of feed_trip = feed_trip.name

-- the slots of trips have their names
slot_names-over : (settings : SettingsView) (places : List Place) (feed_trips : List FeedTrip)
    → slot_names (timetable_over settings places feed_trips) ≡ map name_of feed_trips
slot_names-over settings places [] = refl
slot_names-over settings places (feed_trip ∷ feed_trips) = ap (λ rest. feed_trip.name ∷ rest) (slot_names-over settings places feed_trips)

-- a name among the names has a number
numbered : (names : List Name) (name : Name) (number : Option ℕ) → number ≡ number_of names name → Contains names name → IsSome number
numbered names name None is there = absurd (number_of-None names name (sym is) there)
numbered names name (Some number) is there = refl

-- a place that was met has a number
pub place_is_numbered : (settings : SettingsView) (places : List Place) (feed_trips : List FeedTrip) (timetable : TimetableView)
    (place : Place) (number : Option ℕ)
    → timetable ≡ timetable_over settings places feed_trips → number ≡ number_of (place_names timetable) place.name
    → Contains (names_of places) place.name → IsSome number
place_is_numbered settings places feed_trips timetable place number so_far is there =
    numbered (names_of places) place.name number (is ∙ ap (λ (t : TimetableView). number_of (place_names t) place.name) so_far) there

-- the name of the next trip stands in no slot yet
pub name_is_new : (settings : SettingsView) (places : List Place) (feed_trips : List FeedTrip) (i : ℕ) (feed_trip : FeedTrip)
    (timetable : TimetableView) (name : Name) → i < length feed_trips
    → AreDistinct (map (λ (feed_trip : FeedTrip). feed_trip.name) feed_trips)
    → timetable ≡ timetable_over settings places (take i feed_trips) → name ≡ feed_trip.name → feed_trip ≡ get_or feed_trips i feed_trip
    → ¬ Contains (slot_names timetable) name
name_is_new settings places feed_trips i feed_trip timetable name lt distinct so_far is here =
    new_after_front name_of feed_trips i feed_trip (slot_names timetable) name distinct lt
    (ap slot_names so_far ∙ slot_names-over settings places (take i feed_trips)) (is ∙ ap name_of here)

-- a timetable with one more slot
abbrev with_slot : TimetableView → Slot → TimetableView
with_slot timetable slot = record timetable { slots = timetable.slots ++ slot ∷ [] }

-- the number of a place that was found
found_number : (settings : SettingsView) (places : List Place) (feed_trips : List FeedTrip) (timetable : TimetableView) (place : Place)
    (number : Option ℕ) (p : ℕ)
    → timetable ≡ timetable_over settings places feed_trips → number ≡ number_of (place_names timetable) place.name → number ≡ Some p
    → p ≡ number_in places place
found_number settings places feed_trips timetable place number p so_far is found =
    ap (λ o. unwrap_or o 0) (sym found ∙ is ∙ ap (λ (t : TimetableView). number_of (place_names t) place.name) so_far)

-- the slots with that of the next trip
pub slots_go_on : (settings : SettingsView) (places : List Place) (feed_trips : List FeedTrip) (i : ℕ) (feed_trip : FeedTrip)
    (before after : TimetableView) (name : Name)
    (from_found to_found : Option ℕ) (from to : ℕ) → i < length feed_trips → feed_trip ≡ get_or feed_trips i feed_trip
    → before ≡ timetable_over settings places (take i feed_trips) → name ≡ feed_trip.name
    → from_found ≡ number_of (place_names before) (start_of settings feed_trip).name
    → to_found ≡ number_of (place_names before) (end_of settings feed_trip).name
    → from_found ≡ Some from → to_found ≡ Some to
    → after ≡ with_slot before (record { name = name; trip = trip_between from to feed_trip })
    → after ≡ timetable_over settings places (take (i + 1) feed_trips)
slots_go_on settings places feed_trips i feed_trip before after name from_found to_found from to lt here so_far is from_is to_is from_some
    to_some pushed =
    let from_number = found_number settings places (take i feed_trips) before (start_of settings feed_trip) from_found from so_far from_is
    from_some in
    let to_number = found_number settings places (take i feed_trips) before (end_of settings feed_trip) to_found to so_far to_is to_some in
    pushed
    ∙ (λ j. with_slot before (record { name = is j; trip = trip_between (from_number j) (to_number j) feed_trip }))
    ∙ ap (λ (t : TimetableView). with_slot t (slot_of settings places feed_trip)) so_far
    ∙ ap (λ slots. record (timetable_over settings places feed_trips) { slots = slots })
    (sym (map_push (slot_of settings places) (take i feed_trips) feed_trip))
    ∙ ap (λ js. timetable_over settings places js) (ap (λ j. take i feed_trips ++ j ∷ []) here ∙ sym (take_more feed_trips i feed_trip lt))
