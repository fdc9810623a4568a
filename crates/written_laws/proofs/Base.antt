-- The timetable of trips that are moved with their slots has the trips at the minutes at which they stand.
use Rattle.std.proofs.Common.{◌≡◌, ℕ, suc, ◌+◌, ◌<◌, ◌≤◌, ◌&&◌, Bool, true, false, cond, List, [], ◌∷◌, length, get_or, map, Ok, Some, ℤ}
use Rattle.std.proofs.Common.{pos, ◌+ℤ◌, nat_le, refl, sym, ap, subst, ◌∙◌, arith}
use Rattle.std.specs.Prelude.{unsigned_abs, ⊤}
use Rattle.std.proofs.lemmas.Bool.{lt-ltb}
use Rattle.std.proofs.lemmas.Int.{ints}
use Rattle.std.proofs.lemmas.List.{length-map}
use Rattle.gtfs_tables.specs.declared.fault.FeedFault.TheVariants as fault
use Rattle.gtfs_tables.specs.declared.paper.Paper.TheVariants as paper
use Rattle.gtfs_tables.specs.Reading.{provided}
use Rattle.desk_settings.specs.Settings.{SettingsView}
use Rattle.trip_model.specs.declared.limits.TheConstants.{MOST_PLACES}
use Rattle.trip_model.specs.Place.{Place}
use Rattle.trip_model.specs.Timetable.{TimetableView, Slot, slot_at, slot_names}
use Rattle.feed_read.specs.Base.{end_of, ends_of, number_in, places_met, slot_of, start_of, timetable_of, timetable_over, trip_between}
use Rattle.block_writer.specs.StopTimes.{offset_of}
use Rattle.claim_files.proofs.EachRecord.{provided-parts, same_Ok}
use Rattle.written_laws.specs.Follows.{IsSameTrip}
use Rattle.written_laws.specs.Written.{as_written, slots_written, trip_written}
use Rattle.written_laws.proofs.FeedTrips.{FeedTrip, MayEachMove, MayMove, moved_feed_trip, moved_feed_trips}

-- moved trips begin and end where they did
ends_of-moved : (settings : SettingsView) (offsets : ℕ → ℤ) (slot : ℕ) (feed_trips : List FeedTrip)
    → ends_of settings (moved_feed_trips offsets slot feed_trips) ≡ ends_of settings feed_trips
ends_of-moved settings offsets slot [] = refl
ends_of-moved settings offsets slot (j ∷ feed_trips) =
    ap (λ ends. start_of settings j ∷ end_of settings j ∷ ends) (ends_of-moved settings offsets (slot + 1) feed_trips)

slot_names-over : (settings : SettingsView) (places : List Place) (feed_trips : List FeedTrip)
    → slot_names (timetable_over settings places feed_trips) ≡ map (λ (j : FeedTrip). j.name) feed_trips
slot_names-over settings places [] = refl
slot_names-over settings places (j ∷ feed_trips) = ap (λ names. j.name ∷ names) (slot_names-over settings places feed_trips)

-- the minutes by which the trip of a slot is moved, of so many slots
module _ (standing : TimetableView) (base : ℕ) where
  abbrev offsets : ℕ → ℤ
  offsets s = offset_of standing base (Some s)

  -- of slots from this number on, each has the trip that stands in the slot of its number
  abbrev pub EachStands : ℕ → List Slot → Type 0
  EachStands s [] = ⊤
  EachStands s (slot ∷ slots) = IsSameTrip slot.trip (slot_at standing s).trip × EachStands (s + 1) slots

  pub each-stands : (s : ℕ) (d : Slot) (slots : List Slot)
      → ((i : ℕ) → i < length slots → IsSameTrip (get_or slots i d).trip (slot_at standing (s + i)).trip) → EachStands s slots
  each-stands s d [] each = tt
  each-stands s d (slot ∷ slots) each =
      let here : s + 0 ≡ s = omega arith in (
        subst (λ n. IsSameTrip slot.trip (slot_at standing n).trip) here (each 0 (omega arith)),
        each-stands (s + 1) d slots (λ i within. let next : s + suc i ≡ s + 1 + i = omega arith in
            subst (λ n. IsSameTrip (get_or slots i d).trip (slot_at standing n).trip) next (each (suc i) (omega arith))),
      )

  -- of a trip as published and the trip that stands in its slot
  may-move : (feed_trip : FeedTrip) (from to s : ℕ) (live : Bool) → (slot_at standing s).trip.live ≡ live → s < base
      → IsSameTrip (trip_between from to feed_trip) (slot_at standing s).trip → MayMove (offsets s) feed_trip
  may-move feed_trip from to s live is within same =
      subst (λ offset. MayMove offset feed_trip)
      (sym (ap (λ b. cond (b && (slot_at standing s).trip.live) (slot_at standing s).trip.offset (pos 0)) (lt-ltb s base within)
      ∙ ap (λ b. cond b (slot_at standing s).trip.offset (pos 0)) is)) (by live)
    where
      by : (live : Bool) → MayMove (cond live (slot_at standing s).trip.offset (pos 0)) feed_trip
      by true = omega (arith, ints, same.departs)
      by false = omega (arith, ints)

  trip-moved : (feed_trip : FeedTrip) (from to s : ℕ) (live : Bool) → (slot_at standing s).trip.live ≡ live → s < base
      → IsSameTrip (trip_between from to feed_trip) (slot_at standing s).trip
      → trip_between from to (moved_feed_trip (offsets s) feed_trip) ≡ trip_written (trip_between from to feed_trip)
      (slot_at standing s).trip
  trip-moved feed_trip from to s live is within same =
      ap (λ offset. trip_between from to (moved_feed_trip offset feed_trip))
      (ap (λ b. cond (b && (slot_at standing s).trip.live) (slot_at standing s).trip.offset (pos 0)) (lt-ltb s base within)
      ∙ ap (λ b. cond b (slot_at standing s).trip.offset (pos 0)) is)
      ∙ by live
      ∙ ap (λ b. cond b (record (trip_between from to feed_trip)
      { departs = (slot_at standing s).trip.departs; ends = (slot_at standing s).trip.ends }) (trip_between from to feed_trip)) (sym is)
    where
      by : (live : Bool) → trip_between from to (moved_feed_trip (cond live (slot_at standing s).trip.offset (pos 0)) feed_trip)
          ≡ cond live (record (trip_between from to feed_trip)
          { departs = (slot_at standing s).trip.departs; ends = (slot_at standing s).trip.ends }) (trip_between from to feed_trip)
      by true =
          let departs : unsigned_abs (pos feed_trip.departs +ℤ (slot_at standing s).trip.offset) ≡ (slot_at standing s).trip.departs =
          omega (arith, ints, same.departs) in
          let ends : unsigned_abs (pos feed_trip.ends +ℤ (slot_at standing s).trip.offset) ≡ (slot_at standing s).trip.ends =
          omega (arith, ints, same.ends) in
          λ i. record (trip_between from to feed_trip) { departs = departs i; ends = ends i }
      by false =
          let departs : unsigned_abs (pos feed_trip.departs +ℤ pos 0) ≡ feed_trip.departs = omega (arith, ints) in
          let ends : unsigned_abs (pos feed_trip.ends +ℤ pos 0) ≡ feed_trip.ends = omega (arith, ints) in
          λ i. record (trip_between from to feed_trip) { departs = departs i; ends = ends i }

  module _ (settings : SettingsView) (places : List Place) where
    pub may-each-move : (s : ℕ) (feed_trips : List FeedTrip) → s + length feed_trips ≤ base
        → EachStands s (map (slot_of settings places) feed_trips) → MayEachMove offsets s feed_trips
    may-each-move s [] few each = tt
    may-each-move s (j ∷ feed_trips) few each = (
      may-move j (number_in places (start_of settings j)) (number_in places (end_of settings j)) s (slot_at standing s).trip.live refl
          (omega (arith, few)) each.0,
      may-each-move (s + 1) feed_trips (omega (arith, few)) each.1,
    )

    slots-moved : (s : ℕ) (feed_trips : List FeedTrip) → s + length feed_trips ≤ base
        → EachStands s (map (slot_of settings places) feed_trips)
        → map (slot_of settings places) (moved_feed_trips offsets s feed_trips) ≡ slots_written standing s
        (map (slot_of settings places) feed_trips)
    slots-moved s [] few each = refl
    slots-moved s (j ∷ feed_trips) few each =
        let trip = trip-moved j (number_in places (start_of settings j)) (number_in places (end_of settings j)) s
        (slot_at standing s).trip.live refl (omega (arith, few)) each.0 in
        λ i. record { name = j.name; trip = trip i } ∷ slots-moved (s + 1) feed_trips (omega (arith, few)) each.1 i

  -- the timetable of the moved trips
  pub timetable-back : (settings : SettingsView) (feed_trips : List FeedTrip) (made : TimetableView) → length feed_trips ≤ base
      → EachStands 0 made.slots
      → timetable_of settings feed_trips ≡ Ok made
      → timetable_of settings (moved_feed_trips offsets 0 feed_trips) ≡ Ok (as_written made standing)
  unfolding timetable_of
  timetable-back settings feed_trips made few each e =
      let places = places_met (ends_of settings feed_trips) in
      let parts = provided-parts (nat_le (length places) MOST_PLACES) (fault.TooManyPlaces paper.StopTimes)
      (Ok (timetable_over settings places feed_trips)) made e in
      let same : timetable_over settings places feed_trips ≡ made = same_Ok (timetable_over settings places feed_trips) made parts.1 in
      let stands = subst (λ (t : TimetableView). EachStands 0 t.slots) (sym same) each in
      ap (λ ends. provided (nat_le (length (places_met ends)) MOST_PLACES) (fault.TooManyPlaces paper.StopTimes)
      (Ok (timetable_over settings (places_met ends) (moved_feed_trips offsets 0 feed_trips))))
      (ends_of-moved settings offsets 0 feed_trips)
      ∙ ap (λ b. provided b (fault.TooManyPlaces paper.StopTimes)
      (Ok (timetable_over settings places (moved_feed_trips offsets 0 feed_trips)))) parts.0
      ∙ ap (λ slots. Ok (record (timetable_over settings places feed_trips) { slots = slots }))
      (slots-moved settings places 0 feed_trips (omega (arith, few)) stands)
      ∙ ap (λ t. Ok (as_written t standing)) same

-- a timetable has a slot for each trip, under its name
pub slots-of : (settings : SettingsView) (feed_trips : List FeedTrip) (made : TimetableView) → timetable_of settings feed_trips ≡ Ok made
    → (slot_names made ≡ map (λ (j : FeedTrip). j.name) feed_trips) × (length made.slots ≡ length feed_trips)
    × (made.slots ≡ map (slot_of settings (places_met (ends_of settings feed_trips))) feed_trips)
unfolding timetable_of
slots-of settings feed_trips made e =
    let places = places_met (ends_of settings feed_trips) in
    let parts = provided-parts (nat_le (length places) MOST_PLACES) (fault.TooManyPlaces paper.StopTimes)
    (Ok (timetable_over settings places feed_trips)) made e in
    let same : timetable_over settings places feed_trips ≡ made = same_Ok (timetable_over settings places feed_trips) made parts.1 in (
      ap slot_names (sym same) ∙ slot_names-over settings places feed_trips,
      ap (λ (t : TimetableView). length t.slots) (sym same) ∙ length-map feed_trips (slot_of settings places),
      ap (λ (t : TimetableView). t.slots) (sym same),
    )
