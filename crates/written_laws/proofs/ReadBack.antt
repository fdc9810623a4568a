-- What is written of a feed reads back as its timetable.
use Rattle.std.proofs.Common.{◌≡◌, ℕ, ◌+◌, ◌<◌, ◌≤◌, length, take, Ok, Some, sym, ap, subst, ◌∙◌, arith}
use Rattle.std.specs.Prelude.{All}
use Rattle.std.proofs.lemmas.List.{length-map}
use Rattle.std.proofs.lemmas.List.Elements.{All-map}
use Rattle.desk_io.specs.declared.shelf.Found.{Found}
use Rattle.desk_io.specs.declared.shelf.Found.TheVariants.{File}
use Rattle.trip_model.specs.Timetable.{TimetableView, Slot, slot_at, slot_names}
use Rattle.desk_settings.specs.Settings.{SettingsView}
use Rattle.feed_read.specs.Base.{base_of, ends_of, places_met, slot_of}
use Rattle.feed_read.specs.FeedTrips.{feed_trips_in, feed_trips_of}
use Rattle.feed_read.specs.Trips.{trips_in}
use Rattle.feed_read.specs.StopTimes.{stop_times_for}
use Rattle.block_writer.proofs.ReadAgain as written
use Rattle.block_writer.specs.StopTimes.{offset_of, stop_times_written}
use Rattle.block_writer.specs.Trips.{trips_written}
use Rattle.claim_files.proofs.EachRecord.{read-parts}
use Rattle.claim_files.proofs.FieldsBack.{then}
use Rattle.written_laws.specs.Follows.{AreForward, IsSameTrip}
use Rattle.written_laws.specs.Laws as spec
use Rattle.written_laws.proofs.Base.{EachStands, each-stands, may-each-move, slots-of, timetable-back}
use Rattle.written_laws.proofs.FeedTrips.{feed_trips-back, feed_trips-forward, feed_trips-named, moved_feed_trips}
use Rattle.written_laws.proofs.Trips.{trips-back}
use Rattle.written_laws.proofs.StopTimes.{header-filled, moved_stop_times, stop_times-back}

pub written-back : spec.WrittenFeedReadsBack
unfolding base_of
written-back settings trips_bytes stop_times_bytes trips stop_times base standing chosen blocks names trips_are stop_times_are is_trips
    is_stop_times said follows writable trips_unmarked stop_times_unmarked =
    let selected = read-parts (trips_in settings (File trips_bytes)) _ base said in
    let feed_trips = read-parts (feed_trips_in settings selected.0 (File stop_times_bytes)) _ base selected.2 in
    let timed = read-parts (stop_times_for selected.0.names (File stop_times_bytes)) (feed_trips_of settings selected.0) feed_trips.0
    feed_trips.1 in
    let slots = slots-of settings feed_trips.0 base feed_trips.2 in
    let read_names : slot_names base ≡ selected.0.names = slots.0
    ∙ feed_trips-named settings selected.0.classes timed.0 selected.0.names feed_trips.0 timed.2 in
    let count : length selected.0.names ≡ length base.slots = sym (ap length read_names) ∙ length-map base.slots (λ (s : Slot). s.name) in
    let first : take (length selected.0.names) (slot_names standing) ≡ selected.0.names = ap (λ n. take n (slot_names standing)) count
    ∙ follows.names ∙ read_names in
    let few : length feed_trips.0 ≤ length base.slots = omega (arith, slots.1) in
    let stands = each-stands standing (length base.slots) 0 _ base.slots
    (λ i within. subst (λ n. IsSameTrip (slot_at base i).trip (slot_at standing n).trip) (zero-more i) (follows.trips i within)) in
    let may = may-each-move standing (length base.slots) settings _ 0 feed_trips.0 (omega (arith, few))
    (subst (EachStands standing (length base.slots) 0) slots.2 stands) in
    let offsets = λ (s : ℕ). offset_of standing (length base.slots) (Some s) in
    let trips_text = trips_written trips standing chosen blocks names in
    let stop_times_text = stop_times_written stop_times standing (length base.slots) in
    let filled = header-filled selected.0.names stop_times_bytes stop_times timed.0 stop_times_are timed.1 in
    then (trips_in settings (File trips_text)) selected.0 _ _
    (trips-back settings trips standing chosen blocks names is_trips trips_bytes trips_text selected.0 trips_are
    (written.trips-back trips standing chosen blocks names is_trips trips_unmarked) selected.1)
    (then (feed_trips_in settings selected.0 (File stop_times_text)) (moved_feed_trips offsets 0 feed_trips.0) _ _
    (then (stop_times_for selected.0.names (File stop_times_text)) (moved_stop_times offsets timed.0) (feed_trips_of settings selected.0) _
    (stop_times-back standing (length base.slots) selected.0.names stop_times first stop_times_bytes stop_times_text timed.0 is_stop_times
    writable stop_times_are (written.stop-times-back stop_times standing (length base.slots) is_stop_times filled stop_times_unmarked)
    timed.1)
    (feed_trips-back settings selected.0.classes offsets timed.0 selected.0.names feed_trips.0 may timed.2))
    (timetable-back standing (length base.slots) settings feed_trips.0 base few stands feed_trips.2))
  where
    zero-more : (i : ℕ) → i ≡ 0 + i
    zero-more i = omega arith

-- each trip of a feed ends after it departs
pub base-forward : (settings : SettingsView) (trips_found stop_times_found : Found) (base : TimetableView)
    → base_of settings trips_found stop_times_found ≡ Ok base → AreForward base
unfolding base_of
base-forward settings trips_found stop_times_found base said =
    let selected = read-parts (trips_in settings trips_found) _ base said in
    let feed_trips = read-parts (feed_trips_in settings selected.0 stop_times_found) _ base selected.2 in
    let timed = read-parts (stop_times_for selected.0.names stop_times_found) (feed_trips_of settings selected.0) feed_trips.0
    feed_trips.1 in
    let slots = slots-of settings feed_trips.0 base feed_trips.2 in
    subst (All IsForward) (sym slots.2)
    (All-map IsForward (slot_of settings (places_met (ends_of settings feed_trips.0))) feed_trips.0
    (feed_trips-forward settings selected.0.classes timed.0 selected.0.names feed_trips.0 timed.2))
  where
    IsForward : Slot → Type 0
    IsForward slot = slot.trip.departs < slot.trip.ends
