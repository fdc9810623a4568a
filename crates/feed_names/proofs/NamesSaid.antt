-- What an accepted feed says has names that are text. A `_` for a type stands where its crate keeps the type to itself.
use Rattle.std.proofs.Common.{◌≡◌, ℕ, ◌+◌, ◌<◌, ◌==◌, nat_le, nat_lt, not, Bool, true, false, List, [], ◌∷◌, ◌++◌, length, Option, None}
use Rattle.std.proofs.Common.{Some, Result, Ok, if◌then◌else◌, refl, ap, subst, ◌∙◌, arith}
use Rattle.std.specs.Prelude.{All, IsUtf8, slice_index_or}
use Rattle.std.specs.Bool.{⊤}
use Rattle.std.specs.Option.{ok_or}
use Rattle.std.specs.Str.{is_utf8}
use Rattle.std.proofs.lemmas.Bool.{false≢true}
use Rattle.std.proofs.lemmas.List.Elements.{All-head, All-map, All-nil, All-push, All-tail}
use Rattle.std.proofs.lemmas.Str.{IsUtf8-from_is_utf8}
use Rattle.desk_io.specs.declared.shelf.Found.{Found}
use Rattle.desk_io.specs.declared.shelf.Found.TheVariants.{Missing}
use Rattle.gtfs_tables.specs.declared.fault.FeedFault.{FeedFault}
use Rattle.gtfs_tables.specs.declared.fault.FeedFault.TheVariants as fault
use Rattle.gtfs_tables.specs.declared.paper.Column.{Column}
use Rattle.gtfs_tables.specs.declared.paper.Column.TheVariants as column
use Rattle.gtfs_tables.specs.declared.paper.Paper.{Paper}
use Rattle.gtfs_tables.specs.declared.paper.Paper.TheVariants as paper
use Rattle.gtfs_tables.specs.Fold.{ColumnsIn, Step, paper_read, table_read}
use Rattle.gtfs_tables.specs.Reading.{each_record, field_at, filled_in, table_in, text_in}
use Rattle.gtfs_tables.specs.Table.{TableView}
use Rattle.gtfs_tables.specs.Entries.{Name}
use Rattle.desk_settings.specs.Names.{is_among}
use Rattle.desk_settings.specs.Settings.{SettingsView, class_of, is_chosen, is_classed}
use Rattle.trip_model.specs.declared.limits.TheConstants.{MOST_PLACES, MOST_SLOTS}
use Rattle.trip_model.specs.Place.{Place}
use Rattle.trip_model.specs.Timetable.{TimetableView, Slot, number_of, place_names}
use Rattle.feed_read.specs.Base.{base_of, ends_of, places_met, slot_of, timetable_of, timetable_over}
use Rattle.feed_read.specs.FeedTrips.{first_stop_time, has_repeat, feed_trip_between, feed_trip_from, feed_trip_of, feed_trips_in}
use Rattle.feed_read.specs.FeedTrips.{last_stop_time, sequences, time_or, stop_times_of, with_feed_trip}
use Rattle.feed_read.specs.Trips as trips
use Rattle.feed_read.specs.Trips.{Selected, chosen_in, trips_in, with_chosen, with_chosen_class, with_classed_trip, with_selected}
use Rattle.feed_read.specs.Trips.{with_trip}
use Rattle.feed_read.specs.StopTimes.{StopTimeView, stop_times_for}
use Rattle.deadhead_matrix.specs.declared.entry.Entry.{Entry}
use Rattle.deadhead_matrix.specs.Deadheads as deadheads
use Rattle.deadhead_matrix.specs.Deadheads.{ReadingView, begun, deadhead_in, deadheads_of, or_new_place, with_deadhead, with_entries}
use Rattle.deadhead_matrix.specs.Deadheads.{with_place, with_places, with_unplaced}
use Rattle.deadhead_matrix.specs.Posts.{Class, classes_of, place_for}
use Rattle.block_build.specs.Names.{IsName}
use Rattle.claim_files.proofs.EachRecord.{each-keeps, provided-parts, read-parts, same_Ok}
use Rattle.desk_feed.specs.Feed.{FeedView, deadheads_in, lines_in, pulls_in, rules_in, said_by, said_with, settings_in}
use Rattle.desk_feed.specs.Feed.{standing, timetable_in}
use Rattle.feed_names.proofs.NamesStanding.{lines-named, standing-named}

-- a text that was read is text
text-read : (paper : Paper) (number : ℕ) (column : Column) (bytes text : List ℕ) → text_in paper number column bytes ≡ Ok text → IsUtf8 text
text-read paper number column bytes text e =
    let parts = provided-parts (is_utf8 bytes) (fault.NotUtf8 paper number column) (Ok bytes) text e in
    subst IsUtf8 (same_Ok bytes text parts.1) (IsUtf8-from_is_utf8 bytes parts.0)

filled : (text : List ℕ) → not (length text == 0) ≡ true → 0 < length text
filled [] e = absurd (false≢true e)
filled (x ∷ text) e = omega arith

-- the selected trips with one more
one-more : (number : ℕ) (before after : Selected) (name class : Name) → IsUtf8 name → All IsName before.names
    → with_selected number before name class ≡ Ok after → All IsName after.names
unfolding with_selected
one-more number before after name class text are e =
    let full = read-parts (filled_in paper.Trips number column.TripId name) _ after e in
    let has = provided-parts (not (length name == 0)) (fault.EmptyField paper.Trips number column.TripId) (Ok name) full.0 full.1 in
    let fresh = provided-parts (not (is_among name before.names)) (fault.DuplicateRow paper.Trips number) _ after full.2 in
    let few = provided-parts (nat_lt (length before.names) MOST_SLOTS) (fault.TooManyTrips number) _ after fresh.1 in
    subst (λ (selected : Selected). All IsName selected.names) (same_Ok _ after few.1)
    (All-push IsName before.names name are (record { text = text; filled = filled name has.0 }))

-- a name, if there is one, is text
abbrev IsText : Option Name → Type 0
IsText None = ⊤
IsText (Some name) = IsUtf8 name

if-text : (chosen : Bool) (name : Name) → IsUtf8 name → IsText (if chosen then Some name else None)
if-text true name text = text
if-text false name text = tt

chosen-text : (settings : SettingsView) (columns : _) (number : ℕ) (fields : List (List ℕ)) (found : Option Name)
    → chosen_in settings columns number fields ≡ Ok found → IsText found
unfolding chosen_in
chosen-text settings columns number fields found e =
    let service = read-parts (text_in paper.Trips number column.ServiceId (field_at fields columns.service)) _ found e in
    let name = read-parts (text_in paper.Trips number column.TripId (field_at fields columns.trip)) _ found service.2 in
    let text = text-read paper.Trips number column.TripId (field_at fields columns.trip) name.0 name.1 in
    subst IsText (same_Ok _ found name.2) (if-text (is_chosen settings service.0) name.0 text)

chosen-named : (number : ℕ) (before after : Selected) (found : Option Name) → IsText found → All IsName before.names
    → with_chosen number before found ≡ Ok after → All IsName after.names
chosen-named number before after None text are e = subst (λ (selected : Selected). All IsName selected.names) (same_Ok before after e) are
chosen-named number before after (Some name) text are e = one-more number before after name [] text are e

step-named : (settings : SettingsView) (columns : _) (number : ℕ) (before after : Selected) (fields : List (List ℕ))
    → All IsName before.names
    → with_trip settings columns number before fields ≡ Ok after → All IsName after.names
unfolding with_trip
step-named settings columns number before after fields are e =
    let found = read-parts (chosen_in settings columns number fields) (with_chosen number before) after e in
    chosen-named number before after found.0 (chosen-text settings columns number fields found.0 found.1) are found.2

class-named : (settings : SettingsView) (columns : _) (number : ℕ) (before after : Selected) (fields : List (List ℕ)) (found : Option Name)
    → IsText found → All IsName before.names
    → with_chosen_class settings columns number before fields found ≡ Ok after → All IsName after.names
class-named settings columns number before after fields None text are e =
    subst (λ (selected : Selected). All IsName selected.names) (same_Ok before after e) are
class-named settings columns number before after fields (Some name) text are e =
    let route = read-parts (text_in paper.Trips number column.RouteId (field_at fields columns.route))
    (λ route. with_selected number before name (class_of settings route)) after e in
    one-more number before after name (class_of settings route.0) text are route.2

step-classed : (settings : SettingsView) (columns : _) (number : ℕ) (before after : Selected) (fields : List (List ℕ))
    → All IsName before.names
    → with_classed_trip settings columns number before fields ≡ Ok after → All IsName after.names
unfolding with_classed_trip
step-classed settings columns number before after fields are e =
    let found = read-parts (chosen_in settings columns.columns number fields) (with_chosen_class settings columns number before fields)
    after e in
    class-named settings columns number before after fields found.0 (chosen-text settings columns.columns number fields found.0 found.1)
    are found.2

-- the names of the selected trips, by either reading
file-named : {C : Type 0} (columns_in : ColumnsIn C) (step : C → Step Selected) (found : Found) (selected : Selected)
    → ((columns : C) (number : ℕ) (before after : Selected) (fields : List (List ℕ)) → All IsName before.names
    → step columns number before fields ≡ Ok after → All IsName after.names)
    → paper_read paper.Trips columns_in step trips.nothing_selected found ≡ Ok selected → All IsName selected.names
file-named columns_in step found selected each e =
    let table = read-parts (table_in paper.Trips found) _ selected e in
    let columns = read-parts (columns_in table.0.header) _ selected table.2 in
    each-keeps (step columns.0) (λ (selected : Selected). All IsName selected.names)
    (λ n a b fields are is. each columns.0 n a b fields are is) 1 trips.nothing_selected selected table.0.rows (All-nil IsName)
    columns.2

trips-named : (settings : SettingsView) (found : Found) (selected : Selected) → trips_in settings found ≡ Ok selected
    → All IsName selected.names
trips-named settings found selected e = by (is_classed settings) e
  where
    by : (classed : Bool)
        → (if classed then paper_read paper.Trips trips.classed_columns_in (with_classed_trip settings) trips.nothing_selected found
        else paper_read paper.Trips trips.columns_in (with_trip settings) trips.nothing_selected found) ≡ Ok selected
        → All IsName selected.names
    by true e = file-named trips.classed_columns_in (with_classed_trip settings) found selected (step-classed settings) e
    by false e = file-named trips.columns_in (with_trip settings) found selected (step-named settings) e

-- a trip keeps its name
between-name : (settings : SettingsView) (name class : Name) (first last : StopTimeView) (feed_trip : _)
    → feed_trip_between settings name class first last ≡ Ok feed_trip → name ≡ (slot_of settings [] feed_trip).name
unfolding feed_trip_between
between-name settings name class first last feed_trip e =
    let departure = read-parts (ok_or (time_or first.departure first.arrival) (fault.NoTime name)) _ feed_trip e in
    let arrival = read-parts (ok_or (time_or last.arrival last.departure) (fault.NoTime name)) _ feed_trip departure.2 in
    let forward = provided-parts (nat_lt departure.0 arrival.0) (fault.NotForward name) _ feed_trip arrival.2 in
    ap (λ j. (slot_of settings [] j).name) (same_Ok _ feed_trip forward.1)

from-name : (settings : SettingsView) (name class : Name) (first last : Option StopTimeView) (feed_trip : _)
    → feed_trip_from settings name class first last ≡ Ok feed_trip → name ≡ (slot_of settings [] feed_trip).name
from-name settings name class (Some first) (Some last) feed_trip e = between-name settings name class first last feed_trip e
from-name settings name class None last feed_trip e = absurd (cc)
from-name settings name class (Some first) None feed_trip e = absurd (cc)

feed_trip-name : (settings : SettingsView) (name class : Name) (stop_times : List StopTimeView) (feed_trip : _)
    → feed_trip_of settings name class stop_times ≡ Ok feed_trip → name ≡ (slot_of settings [] feed_trip).name
unfolding feed_trip_of
feed_trip-name settings name class stop_times feed_trip e =
    let two = provided-parts (nat_le 2 (length stop_times)) (fault.TooFewStops name) _ feed_trip e in
    let once = provided-parts (not (has_repeat (sequences stop_times))) (fault.DuplicateSequence name) _ feed_trip two.1 in
    from-name settings name class (first_stop_time stop_times) (last_stop_time stop_times) feed_trip once.1

each-named : (settings : SettingsView) (classes : List Name) (stop_times : List StopTimeView) (number : ℕ) (before after : List _)
    (names : List Name) → All IsName names
    → All (λ j. IsName (slot_of settings [] j).name) before
    → each_record (with_feed_trip settings classes stop_times) number before names ≡ Ok after
    → All (λ j. IsName (slot_of settings [] j).name) after
each-named settings classes stop_times number before after [] named are e =
    subst (All (λ j. IsName (slot_of settings [] j).name)) (same_Ok before after e) are
each-named settings classes stop_times number before after (name ∷ names) named are e =
    let parts = read-parts (with_feed_trip settings classes stop_times number before name)
    (λ more. each_record (with_feed_trip settings classes stop_times) (number + 1) more names) after e in
    let class = slice_index_or classes number [] in
    let feed_trip = read-parts (feed_trip_of settings name class (stop_times_of number stop_times)) _ parts.0 parts.1 in
    let here = subst IsName (feed_trip-name settings name class (stop_times_of number stop_times) feed_trip.0 feed_trip.1)
    (All-head IsName name names named) in
    let more = subst (All (λ j. IsName (slot_of settings [] j).name)) (same_Ok (before ++ feed_trip.0 ∷ []) parts.0 feed_trip.2)
    (All-push (λ j. IsName (slot_of settings [] j).name) before feed_trip.0 are here) in
    each-named settings classes stop_times (number + 1) parts.0 after names (All-tail IsName name names named) more parts.2

-- the slots of the base timetable
over-named : (settings : SettingsView) (feed_trips : List _) (t : TimetableView)
    → All (λ j. IsName (slot_of settings [] j).name) feed_trips → timetable_of settings feed_trips ≡ Ok t
    → All (λ (slot : Slot). IsName slot.name) t.slots
unfolding timetable_of
over-named settings feed_trips t are e =
    let places = places_met (ends_of settings feed_trips) in
    let few = provided-parts (nat_le (length places) MOST_PLACES) (fault.TooManyPlaces paper.StopTimes)
    (Ok (timetable_over settings places feed_trips)) t e in
    subst (λ (t : TimetableView). All (λ (slot : Slot). IsName slot.name) t.slots)
    (same_Ok (timetable_over settings places feed_trips) t few.1)
    (All-map (λ (slot : Slot). IsName slot.name) (slot_of settings places) feed_trips are)

base-named : (settings : SettingsView) (trips_found stop_times_found : Found) (t : TimetableView)
    → base_of settings trips_found stop_times_found ≡ Ok t → All (λ (slot : Slot). IsName slot.name) t.slots
unfolding base_of
base-named settings trips_found stop_times_found t e =
    let selected = read-parts (trips_in settings trips_found) _ t e in
    let feed_trips = read-parts (feed_trips_in settings selected.0 stop_times_found) _ t selected.2 in
    let stop_times = read-parts (stop_times_for selected.0.names stop_times_found) _ feed_trips.0 feed_trips.1 in
    let named = each-named settings selected.0.classes stop_times.0 0 [] feed_trips.0 selected.0.names
    (trips-named settings trips_found selected.0 selected.1) (All-nil (λ j. IsName (slot_of settings [] j).name)) stop_times.2 in
    over-named settings feed_trips.0 t named feed_trips.2

-- the places of terminals leave the slots as they are
place-slots : (t : TimetableView) (place : Place) (found : Option ℕ) (after : TimetableView × ℕ) → or_new_place t place found ≡ Ok after
    → t.slots ≡ after.0.slots
place-slots t place (Some number) after e = ap (λ (r : TimetableView × ℕ). r.0.slots) (same_Ok (t, number) after e)
place-slots t place None after e =
    let room = provided-parts (nat_lt (length t.places) MOST_PLACES) (fault.TooManyPlaces paper.Deadheads) _ after e in
    ap (λ (r : TimetableView × ℕ). r.0.slots) (same_Ok _ after room.1)

places-slots : (terminal : List ℕ) (t : TimetableView) (numbers : List ℕ) (classes : List Class) (after : TimetableView × List ℕ)
    → with_places terminal t numbers classes ≡ Ok after → t.slots ≡ after.0.slots
places-slots terminal t numbers [] after e = ap (λ (r : TimetableView × List ℕ). r.0.slots) (same_Ok (t, numbers) after e)
places-slots terminal t numbers (class ∷ classes) after e =
    let place = place_for t.classed terminal class in
    let here = read-parts (with_place t place) (λ here. with_places terminal here.0 (numbers ++ here.1 ∷ []) classes) after e in
    place-slots t place (number_of (place_names t) place.name) here.0 here.1
    ∙ places-slots terminal here.0.0 (numbers ++ here.0.1 ∷ []) classes after here.2

read-slots : (given after : ReadingView) → ◌≡◌ {A = Result ReadingView FeedFault} (Ok given) (Ok after)
    → given.timetable.slots ≡ after.timetable.slots
read-slots given after e = ap (λ (r : ReadingView). r.timetable.slots) (same_Ok given after e)

step-slots : (slots : List Slot) (classes : List Class) (columns : _) (number : ℕ) (before after : ReadingView) (fields : List (List ℕ))
    → slots ≡ before.timetable.slots
    → with_deadhead classes columns number before fields ≡ Ok after → slots ≡ after.timetable.slots
unfolding with_deadhead
step-slots slots classes columns number before after fields are e =
    let deadhead = read-parts (deadhead_in columns number fields) _ after e in
    let from = read-parts (with_places deadhead.0.0 before.timetable [] classes) _ after deadhead.2 in
    let to = read-parts (with_places deadhead.0.1 from.0.0 [] classes) _ after from.2 in
    let entries = read-parts (with_entries number deadhead.0.2 before.entries from.0.1 to.0.1) _ after to.2 in
    let unplaced = read-parts (with_unplaced number classes before.unplaced (deadhead.0.0, deadhead.0.1))
    (λ more. Ok (record { timetable = to.0.0; entries = entries.0; unplaced = more })) after entries.2 in
    let given : ReadingView = record { timetable = to.0.0; entries = entries.0; unplaced = unplaced.0 } in
    are ∙ places-slots deadhead.0.0 before.timetable [] classes from.0 from.1 ∙ places-slots deadhead.0.1 from.0.0 [] classes to.0 to.1
    ∙ read-slots given after unplaced.2

-- and so do the deadheads
table-slots : (t : TimetableView) (after : ReadingView) (table : TableView)
    → table_read deadheads.columns_in (with_deadhead (classes_of t)) (begun t) table ≡ Ok after → t.slots ≡ after.timetable.slots
table-slots t after table e =
    let columns = read-parts (deadheads.columns_in table.header) _ after e in
    each-keeps (with_deadhead (classes_of t) columns.0) (λ (r : ReadingView). t.slots ≡ r.timetable.slots)
    (λ n a b fields are is. step-slots t.slots (classes_of t) columns.0 n a b fields are is)
    1 (begun t) after table.rows refl columns.2

deadheads-slots : (found : Found) (t : TimetableView) (after : TimetableView × List Entry) → deadheads_of found t ≡ Ok after
    → t.slots ≡ after.0.slots
deadheads-slots Missing t after e = ap (λ (r : TimetableView × List Entry). r.0.slots) (same_Ok (t, []) after e)
deadheads-slots found t after e =
    let read = read-parts (paper_read paper.Deadheads deadheads.columns_in (with_deadhead (classes_of t)) (begun t) found)
    (λ read. Ok (read.timetable, read.entries)) after e in
    let table = read-parts (table_in paper.Deadheads found) (table_read deadheads.columns_in (with_deadhead (classes_of t)) (begun t))
    read.0 read.1 in
    table-slots t read.0 table.0 table.2
    ∙ ap (λ (r : TimetableView × List Entry). r.0.slots) (same_Ok (read.0.timetable, read.0.entries) after read.2)

-- the names of an accepted feed are text, after its script too
pub said-names : (found : Paper → Found) (said : FeedView) → said_by found ≡ Ok said → All (λ slot. IsName slot.name) (standing said).slots
unfolding said_by
said-names found said e =
    let settings = read-parts (settings_in found) _ said e in
    let base = read-parts (timetable_in found settings.0) _ said settings.2 in
    let entries = read-parts (deadheads_in found base.0) _ said base.2 in
    let pulls = read-parts (pulls_in found entries.0.0) _ said entries.2 in
    let rules = read-parts (rules_in found) _ said pulls.2 in
    let lines = read-parts (lines_in found) _ said rules.2 in
    let given = said_with settings.0 entries.0.0 entries.0.1 pulls.0 rules.0 lines.0 in
    let slots = deadheads-slots (found paper.Deadheads) base.0 entries.0 entries.1 in
    let before = subst (All (λ (slot : Slot). IsName slot.name)) slots
    (base-named settings.0 (found paper.Trips) (found paper.StopTimes) base.0 base.1) in
    subst (λ (said : FeedView). All (λ (slot : Slot). IsName slot.name) (standing said).slots) (same_Ok given said lines.2)
    (standing-named entries.0.0 lines.0 (length lines.0) before (lines-named (found paper.Edits) lines.0 lines.1))
