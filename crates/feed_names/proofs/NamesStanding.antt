-- The names of the trips that stand after a script are text, as those before it are.
use Rattle.std.proofs.Common.{◌≡◌, ℕ, zero, suc, ◌+◌, ◌-◌, ◌<◌, ◌==◌, ◌&&◌, Bool, true, false, List, [], ◌∷◌, length, map, get_or, fold}
use Rattle.std.proofs.Common.{Option, None, Some, Result, Ok, Err, nat_le, nat_lt, not, if◌then◌else◌, codes, ℤ, pos, refl, sym, subst}
use Rattle.std.proofs.Common.{arith}
use Rattle.std.specs.Prelude.{All, slice_get, int_le, ◌+ℤ◌, ⊤}
use Rattle.std.specs.Option.{option_and_then, option_map}
use Rattle.std.specs.Str.{bytes_eq, is_utf8}
use Rattle.std.proofs.lemmas.Bool.{false≢true}
use Rattle.std.proofs.lemmas.List.Elements.{All-append, All-drop, All-get_or, All-head, All-map, All-nil, All-push, All-set, All-tail}
use Rattle.std.proofs.lemmas.List.Elements.{All-take}
use Rattle.std.proofs.lemmas.List.{length-map}
use Rattle.std.proofs.lemmas.Str.{IsUtf8-from_is_utf8}
use Rattle.desk_io.specs.declared.shelf.Found.{Found}
use Rattle.desk_io.specs.declared.shelf.Found.TheVariants.{File, Missing, TooLong}
use Rattle.gtfs_tables.specs.Records.{records}
use Rattle.gtfs_tables.specs.Spaces.{without_spaces}
use Rattle.gtfs_tables.specs.declared.fault.FeedFault.TheVariants.{TooManyRecords}
use Rattle.gtfs_tables.specs.declared.paper.Paper.TheVariants as paper
use Rattle.gtfs_tables.specs.declared.paper.TheConstants.{MOST_RECORDS}
use Rattle.gtfs_tables.specs.Reading.{field_at}
use Rattle.trip_model.specs.Timetable.{TimetableView, Slot, number_of, place_names, slot_at, slot_names, with_trip}
use Rattle.trip_model.specs.declared.trip.Trip.{Trip}
use Rattle.trip_model.proofs.TimetableLemmas.{number_of-Some}
use Rattle.edit_script.specs.declared.edit.Edit.{Edit}
use Rattle.edit_script.specs.declared.edit.Edit.TheVariants.{Shift, Cancel, Restore, Extra, Undo, Redo, Show}
use Rattle.edit_script.specs.declared.edit.Line.{Line}
use Rattle.edit_script.specs.declared.edit.Line.TheVariants as line
use Rattle.edit_script.specs.declared.edit.TheConstants.{MOST_SHOWS}
use Rattle.edit_script.specs.declared.fault.EditFault.{EditFault}
use Rattle.edit_script.specs.declared.fault.EditFault.TheVariants as fault
use Rattle.edit_script.specs.Changes.{cancelled_at, edited, extra_from, extra_new, extra_to, extra_trip, is_within, provided, restored_at}
use Rattle.edit_script.specs.Changes.{shifted_at, with_extra, with_live}
use Rattle.trip_model.specs.declared.limits.TheConstants.{MOST_SLOTS}
use Rattle.trip_model.specs.Place.{class_of}
use Rattle.trip_model.specs.Trip.{shifted}
use Rattle.trip_model.specs.Fleet.{with_shift}
use Rattle.edit_script.specs.Forms.{bare_edit, edit_of, extra_edit, filled, line_by, line_of, minute_in, name_in, named_edit, shift_edit}
use Rattle.edit_script.specs.Forms.{shift_in, text_in, trip_edit}
use Rattle.edit_script.specs.Machine.{Numbered, State, after_line, after_record, begun, if_accepted, or_same, or_stays, state_by}
use Rattle.edit_script.specs.Machine.{timetable_at, with_record, with_redo, with_undo}
use Rattle.edit_script.specs.Script.{last_alone}
use Rattle.block_build.specs.Names.{IsName}
use Rattle.claim_files.proofs.EachRecord.{provided-parts, same_Ok}
use Rattle.desk_feed.specs.Feed.{lines_by}
use Rattle.desk_feed.specs.Script.{first_records, gathered, line_at, record_at, standing_at, state_at}

-- the name of an extra trip is text
abbrev pub IsNamed : Edit → Type 0
IsNamed (Extra trip from to departs arrives) = IsName trip
IsNamed edit = ⊤

abbrev IsNamedIn : Option Edit → Type 0
IsNamedIn None = ⊤
IsNamedIn (Some edit) = IsNamed edit

abbrev pub IsLineNamed : Line → Type 0
IsLineNamed (line.Edit edit) = IsNamed edit
IsLineNamed line.NotAnEdit = ⊤

if-named : (b : Bool) (x y : Option Edit) → IsNamedIn x → IsNamedIn y → IsNamedIn (if b then x else y)
if-named true x y one other = one
if-named false x y one other = other

map-named : {A : Type 0} (f : A → Edit) → ((a : A) → IsNamed (f a)) → (o : Option A) → IsNamedIn (option_map f o)
map-named f each None = tt
map-named f each (Some a) = each a

then-named : {A : Type 0} (f : A → Option Edit) → ((a : A) → IsNamedIn (f a)) → (o : Option A) → IsNamedIn (option_and_then f o)
then-named f each None = tt
then-named f each (Some a) = each a

filled-by : (field : List ℕ) → (length field == 0) ≡ false → 0 < length field
filled-by [] e = absurd (false≢true (sym e))
filled-by (x ∷ field) e = omega arith

name-named : (f : List ℕ → Option Edit) → ((name : List ℕ) → IsName name → IsNamedIn (f name)) → (field : List ℕ)
    → IsNamedIn (option_and_then f (name_in field))
name-named f each field = by (length field == 0) refl (is_utf8 field) refl
  where
    by : (empty : Bool) → (length field == 0) ≡ empty → (text : Bool) → is_utf8 field ≡ text
        → IsNamedIn (option_and_then f (if empty then None else (if text then Some field else None)))
    by true e text t = tt
    by false e true t = each field (record { text = IsUtf8-from_is_utf8 field t; filled = filled-by field e })
    by false e false t = tt

bare-named : (word : List ℕ) → IsNamedIn (bare_edit word)
bare-named word =
    let show : Option Edit = if bytes_eq word (codes "show") then Some Show else None in
    let redo : Option Edit = if bytes_eq word (codes "redo") then Some Redo else show in
    if-named (bytes_eq word (codes "undo")) (Some Undo) redo tt
    (if-named (bytes_eq word (codes "redo")) (Some Redo) show tt (if-named (bytes_eq word (codes "show")) (Some Show) None tt tt))

trip-named : (word trip : List ℕ) → IsNamedIn (trip_edit word trip)
trip-named word trip = then-named (named_edit word)
    (λ name.
    let restore : Option Edit = if bytes_eq word (codes "restore") then Some (Restore name) else None in
    if-named (bytes_eq word (codes "cancel")) (Some (Cancel name)) restore tt
    (if-named (bytes_eq word (codes "restore")) (Some (Restore name)) None tt tt)) (name_in trip)

shift-named : (trip by : List ℕ) → IsNamedIn (shift_edit trip by)
shift-named trip by = then-named (λ name. option_map (Shift name) (shift_in by)) (λ name. map-named (Shift name) (λ n. tt) (shift_in by))
    (name_in trip)

-- an extra trip of a name, from the fields that are left
module _ (row : List (List ℕ)) where
  abbrev with_departs : List ℕ → List ℕ → List ℕ → ℕ → Option Edit
  with_departs trip from to departs = option_map (Extra trip from to departs) (minute_in (field_at row 5))

  abbrev with_to : List ℕ → List ℕ → List ℕ → Option Edit
  with_to trip from to = option_and_then (with_departs trip from to) (minute_in (field_at row 4))

  abbrev with_from : List ℕ → List ℕ → Option Edit
  with_from trip from = option_and_then (with_to trip from) (text_in (field_at row 3))

  abbrev with_trip_name : List ℕ → Option Edit
  with_trip_name trip = option_and_then (with_from trip) (text_in (field_at row 2))

  extra-named : IsNamedIn (extra_edit row)
  extra-named = name-named with_trip_name
      (λ trip named. then-named (with_from trip) (λ from. then-named (with_to trip from) (λ to. then-named (with_departs trip from to)
      (λ departs. map-named (Extra trip from to departs) (λ arrives. named) (minute_in (field_at row 5)))
      (minute_in (field_at row 4))) (text_in (field_at row 3))) (text_in (field_at row 2))) (field_at row 1)

edit-named : (row : List (List ℕ)) → IsNamedIn (edit_of row)
edit-named row =
    let word = without_spaces (field_at row 0) in
    let fields = filled row in
    let three : Bool = (fields == 3) && bytes_eq word (codes "shift") in
    let six : Bool = (fields == 6) && bytes_eq word (codes "extra") in
    let extra : Option Edit = if six then extra_edit row else None in
    let shift : Option Edit = if three then shift_edit (field_at row 1) (field_at row 2) else extra in
    let trip : Option Edit = if fields == 2 then trip_edit word (field_at row 1) else shift in
    if-named (fields == 1) (bare_edit word) trip (bare-named word) (
    if-named (fields == 2) (trip_edit word (field_at row 1)) shift (trip-named word (field_at row 1)) (
    if-named three (shift_edit (field_at row 1) (field_at row 2)) extra (shift-named (field_at row 1) (field_at row 2)) (
    if-named six (extra_edit row) None (extra-named row) tt)))

line-named : (row : List (List ℕ)) → IsLineNamed (line_of row)
line-named row = by (edit_of row) (edit-named row)
  where
    by : (edit : Option Edit) → IsNamedIn edit → IsLineNamed (line_by edit)
    by None named = tt
    by (Some edit) named = named

each-line : (rows : List (List (List ℕ))) → All IsLineNamed (map line_of rows)
each-line [] = All-nil IsLineNamed
each-line (row ∷ rows) = All-map IsLineNamed line_of (row ∷ rows) (λ i d within. line-named (get_or (row ∷ rows) i d))

-- the lines of a script that was read
pub lines-named : (found : Found) (lines : List Line) → lines_by found ≡ Ok lines → All IsLineNamed lines
lines-named Missing lines e = subst (All IsLineNamed) (same_Ok [] lines e) (All-nil IsLineNamed)
lines-named TooLong lines e = absurd (cc)
lines-named (File bytes) lines e =
    let few = provided-parts (nat_le (length (records bytes)) MOST_RECORDS) (TooManyRecords paper.Edits) (Ok (map line_of (records bytes)))
    lines e in
    subst (All IsLineNamed) (same_Ok (map line_of (records bytes)) lines few.1) (each-line (records bytes))

-- the records of a moment
abbrev IsRecordNamed : Numbered → Type 0
IsRecordNamed r = IsLineNamed r.line

at-named : (lines : List Line) (n : ℕ) → All IsLineNamed lines → IsLineNamed (line_at lines n)
at-named [] n named = tt
at-named (line ∷ lines) zero named = All-head IsLineNamed line lines named
at-named (line ∷ lines) (suc n) named = at-named lines n (All-tail IsLineNamed line lines named)

first-named : (lines : List Line) (n : ℕ) → All IsLineNamed lines → All IsRecordNamed (first_records lines n)
unfolding first_records gathered
first-named lines zero named = All-nil IsRecordNamed
first-named lines (suc n) named =
    All-push IsRecordNamed (first_records lines n) (record_at lines n) (first-named lines n named) (at-named lines n named)

-- those that stand, and those that were undone
record AreNamed (m : State) : Type 0 where
  standing : All IsRecordNamed m.standing
  undone : All IsRecordNamed m.undone

if-stays : (m next : State) (b : Bool) (refused : EditFault) → AreNamed m → AreNamed next
    → AreNamed (or_stays m (if b then Ok next else Err refused))
if-stays m next true refused one other = other
if-stays m next false refused one other = one

unless-stays : (m next : State) (b : Bool) (refused : EditFault) → AreNamed m → AreNamed next
    → AreNamed (or_stays m (if b then Err refused else Ok next))
unless-stays m next true refused one other = one
unless-stays m next false refused one other = other

accepted-named : (m : State) (r : Numbered) (due : Result TimetableView EditFault) → AreNamed m → IsRecordNamed r
    → AreNamed (or_stays m (if_accepted m r due))
accepted-named m r (Ok t) are named =
    record { standing = All-push IsRecordNamed m.standing r are.standing named; undone = All-nil IsRecordNamed }
accepted-named m r (Err refused) are named = are

state-named : (t : TimetableView) (m : State) (r : Numbered) (line : Line) → AreNamed m → IsRecordNamed r
    → AreNamed (or_stays m (state_by t m r line))
state-named t m r line.NotAnEdit are named = are
state-named t m r (line.Edit Undo) are named = unless-stays m (with_undo m) (m.kept == 0) fault.NothingToUndo are (record {
  standing = All-take IsRecordNamed (length m.standing - 1) m.standing are.standing;
  undone = All-append IsRecordNamed m.undone (last_alone m.standing) are.undone
      (All-drop IsRecordNamed (length m.standing - 1) m.standing are.standing);
})
state-named t m r (line.Edit Redo) are named = unless-stays m (with_redo m) (length m.undone == 0) fault.NothingToRedo are (record {
  standing = All-append IsRecordNamed m.standing (last_alone m.undone) are.standing
      (All-drop IsRecordNamed (length m.undone - 1) m.undone are.undone);
  undone = All-take IsRecordNamed (length m.undone - 1) m.undone are.undone;
})
state-named t m r (line.Edit Show) are named =
    if-stays m (record m { shows = m.shows + 1 }) (nat_lt m.shows MOST_SHOWS) fault.TooManyShows are
    (record { standing = are.standing; undone = are.undone })
state-named t m r (line.Edit (Shift trip by)) are named = accepted-named m r (edited t (Shift trip by)) are named
state-named t m r (line.Edit (Cancel trip)) are named = accepted-named m r (edited t (Cancel trip)) are named
state-named t m r (line.Edit (Restore trip)) are named = accepted-named m r (edited t (Restore trip)) are named
state-named t m r (line.Edit (Extra trip from to departs arrives)) are named =
    accepted-named m r (edited t (Extra trip from to departs arrives)) are named

machine-named : (base : TimetableView) (m : State) (records : List Numbered) → AreNamed m → All IsRecordNamed records
    → AreNamed (fold (with_record base) m records)
machine-named base m [] are named = are
machine-named base m (r ∷ records) are named =
    machine-named base (with_record base m r) records
    (state-named (timetable_at base m) m r r.line are (All-head IsRecordNamed r records named)) (All-tail IsRecordNamed r records named)

-- the trips of a timetable
abbrev pub IsSlotNamed : Slot → Type 0
IsSlotNamed slot = IsName slot.name

abbrev Keeps : TimetableView → Result TimetableView EditFault → Type 0
Keeps t due = All IsSlotNamed (or_same t due).slots

keeps-provided : (t : TimetableView) (holds : Bool) (refused : EditFault) (rest : Result TimetableView EditFault) → All IsSlotNamed t.slots
    → Keeps t rest → Keeps t (provided holds refused rest)
keeps-provided t true refused rest are keeps = keeps
keeps-provided t false refused rest are keeps = are

get-within : {X : Type 0} (xs : List X) (i : ℕ) (x : X) → slice_get xs i ≡ Some x → i < length xs
get-within [] i x e = absurd (cc)
get-within (y ∷ xs) zero x e = omega arith
get-within (y ∷ xs) (suc i) x e = let lt = get-within xs i x e in omega (arith, lt)

module _ (t : TimetableView) (are : All IsSlotNamed t.slots) where
  keeps-trip : (name : List ℕ) (s : ℕ) (trip : Trip) → number_of (slot_names t) name ≡ Some s → All IsSlotNamed (with_trip t s trip).slots
  keeps-trip name s trip found =
      let within : s < length t.slots =
      omega (
        arith,
        get-within (slot_names t) s name (number_of-Some (slot_names t) name s found),
        length-map t.slots
            (λ (slot : Slot). slot.name),
      ) in
      All-set IsSlotNamed t.slots s (record (slot_at t s) { trip = trip }) (All-get_or IsSlotNamed t.slots s _ within are) are

  keeps-shifted : (name : List ℕ) (by : ℤ) (slot : Option ℕ) → number_of (slot_names t) name ≡ slot → Keeps t (shifted_at t by slot)
  keeps-shifted name by None found = are
  keeps-shifted name by (Some s) found =
      let trip = (slot_at t s).trip in
      let kept : Result TimetableView EditFault = Ok (with_shift t s by) in
      let late : Result TimetableView EditFault = provided (int_le (pos 0) (pos trip.departs +ℤ by)) fault.BeforeMidnight kept in
      let far : Result TimetableView EditFault =
      provided (is_within trip (trip.offset +ℤ by)) (fault.OutsideTolerance (trip.offset +ℤ by)) late in
      keeps-provided t trip.live fault.NotLive far are
      (keeps-provided t (is_within trip (trip.offset +ℤ by)) (fault.OutsideTolerance (trip.offset +ℤ by)) late are
      (keeps-provided t (int_le (pos 0) (pos trip.departs +ℤ by)) fault.BeforeMidnight kept are
      (keeps-trip name s (shifted trip by) found)))

  keeps-cancelled : (name : List ℕ) (slot : Option ℕ) → number_of (slot_names t) name ≡ slot → Keeps t (cancelled_at t slot)
  keeps-cancelled name None found = are
  keeps-cancelled name (Some s) found =
      keeps-provided t (slot_at t s).trip.live fault.NotLive (Ok (with_live t s false)) are
      (keeps-trip name s (record (slot_at t s).trip { live = false }) found)

  keeps-restored : (name : List ℕ) (slot : Option ℕ) → number_of (slot_names t) name ≡ slot → Keeps t (restored_at t slot)
  keeps-restored name None found = are
  keeps-restored name (Some s) found =
      keeps-provided t (not (slot_at t s).trip.live) fault.NotCancelled (Ok (with_live t s true)) are
      (keeps-trip name s (record (slot_at t s).trip { live = true }) found)

  keeps-to : (name : List ℕ) (departs arrives from : ℕ) (to : Option ℕ) → IsName name → Keeps t (extra_to t name departs arrives from to)
  keeps-to name departs arrives from None named = are
  keeps-to name departs arrives from (Some to) named =
      let trip = extra_trip t from to departs arrives in
      let kept : Result TimetableView EditFault = Ok (with_extra t name trip) in
      let many : Result TimetableView EditFault = provided (nat_lt (length t.slots) MOST_SLOTS) fault.TooManyTrips kept in
      let back : Result TimetableView EditFault = provided (nat_lt departs arrives) fault.NotForward many in
      keeps-provided t (bytes_eq (class_of t.places from) (class_of t.places to)) fault.ClassesDiffer back are
      (keeps-provided t (nat_lt departs arrives) fault.NotForward many are
      (keeps-provided t (nat_lt (length t.slots) MOST_SLOTS) fault.TooManyTrips kept are
      (All-push IsSlotNamed t.slots (record { name = name; trip = trip }) are named)))

  keeps-from : (name to : List ℕ) (departs arrives : ℕ) (from : Option ℕ) → IsName name
      → Keeps t (extra_from t name to departs arrives from)
  keeps-from name to departs arrives None named = are
  keeps-from name to departs arrives (Some from) named = keeps-to name departs arrives from (number_of (place_names t) to) named

  keeps-new : (name from to : List ℕ) (departs arrives : ℕ) (slot : Option ℕ) → IsName name
      → Keeps t (extra_new t name from to departs arrives slot)
  keeps-new name from to departs arrives (Some s) named = are
  keeps-new name from to departs arrives None named = keeps-from name to departs arrives (number_of (place_names t) from) named

  keeps-edited : (edit : Edit) → IsNamed edit → Keeps t (edited t edit)
  keeps-edited (Shift trip by) named = keeps-shifted trip by (number_of (slot_names t) trip) refl
  keeps-edited (Cancel trip) named = keeps-cancelled trip (number_of (slot_names t) trip) refl
  keeps-edited (Restore trip) named = keeps-restored trip (number_of (slot_names t) trip) refl
  keeps-edited (Extra trip from to departs arrives) named = keeps-new trip from to departs arrives (number_of (slot_names t) trip) named
  keeps-edited Undo named = are
  keeps-edited Redo named = are
  keeps-edited Show named = are

  keeps-line : (line : Line) → IsLineNamed line → All IsSlotNamed (after_line t line).slots
  keeps-line (line.Edit edit) named = keeps-edited edit named
  keeps-line line.NotAnEdit named = are

after-named : (base : TimetableView) (records : List Numbered) → All IsSlotNamed base.slots → All IsRecordNamed records
    → All IsSlotNamed (fold after_record base records).slots
after-named base [] are named = are
after-named base (r ∷ records) are named =
    after-named (after_record base r) records (keeps-line base are r.line (All-head IsRecordNamed r records named))
    (All-tail IsRecordNamed r records named)

-- at each moment the names of the trips are text
pub standing-named : (base : TimetableView) (lines : List Line) (m : ℕ) → All IsSlotNamed base.slots → All IsLineNamed lines
    → All IsSlotNamed (standing_at base lines m).slots
standing-named base lines m are named =
    let nothing : AreNamed begun = record { standing = All-nil IsRecordNamed; undone = All-nil IsRecordNamed } in
    let state = machine-named base begun (first_records lines m) nothing (first-named lines m named) in
    after-named base (state_at base lines m).standing are state.standing
