-- The trips of the timetable that is written make the moves of those that stand, under their names.
use Rattle.std.proofs.Common.{◌≡◌, ℕ, zero, suc, ◌+◌, ◌<◌, true, List, [], ◌∷◌, length, map, get_or, cond, None, refl, sym, ap, subst, ◌∙◌}
use Rattle.std.proofs.Common.{arith}
use Rattle.std.proofs.lemmas.List.{ext_get_or, length-map, take_all}
use Rattle.trip_model.specs.Blocking.{IsLeast}
use Rattle.trip_model.specs.Plain.{move_of_slot, trip_moves}
use Rattle.trip_model.specs.Timetable.{TimetableView, Slot, slot_at, slot_names}
use Rattle.trip_model.proofs.OrderLemmas.{slot-move}
use Rattle.deadhead_matrix.specs.Fitting.{ruled_network}
use Rattle.written_laws.specs.Follows.{IsEditedFrom, IsSameTrip}
use Rattle.written_laws.specs.Written.{as_written, slots_written, trip_written}
use Rattle.written_laws.specs.PlanLaws as spec

-- there are as many slots as in the feed
pub count-written : (standing : TimetableView) (s : ℕ) (slots : List Slot) → length (slots_written standing s slots) ≡ length slots
count-written standing s [] = refl
count-written standing s (slot ∷ slots) = ap suc (count-written standing (s + 1) slots)

-- and each has the trip of its number
slot-written : (standing : TimetableView) (d : Slot) (s i : ℕ) (slots : List Slot) → i < length slots
    → get_or (slots_written standing s slots) i d ≡ record (get_or slots i d)
    { trip = trip_written (get_or slots i d).trip (slot_at standing (s + i)).trip }
slot-written standing d s i [] within = absurd (omega (arith, within))
slot-written standing d s zero (slot ∷ slots) within =
    let here : s ≡ s + 0 = omega arith in
    ap (λ n. record slot { trip = trip_written slot.trip (slot_at standing n).trip }) here
slot-written standing d s (suc i) (slot ∷ slots) within =
    let next : s + 1 + i ≡ s + suc i = omega arith in
    slot-written standing d (s + 1) i slots (omega (arith, within))
    ∙ ap (λ n. record (get_or slots i d) { trip = trip_written (get_or slots i d).trip (slot_at standing n).trip }) next

-- a trip that runs, written at the minutes at which it stands, makes the move of the one that stands
move-written : (slot stands : Slot) → slot.trip.live ≡ true → stands.trip.live ≡ true → IsSameTrip slot.trip stands.trip
    → move_of_slot (record slot { trip = trip_written slot.trip stands.trip }) ≡ move_of_slot stands
move-written slot stands live runs same =
    ap (λ trip. move_of_slot (record slot { trip = trip }))
    (ap (λ b. cond b (record slot.trip { departs = stands.trip.departs; ends = stands.trip.ends }) slot.trip) runs)
    ∙ (λ i. move_of_slot (record slot {
      trip = record slot.trip {
        from = sym same.from i;
        to = sym same.to i;
        departs = stands.trip.departs;
        ends = stands.trip.ends;
        live = (live ∙ sym runs) i;
      };
    }))

pub same-moves : spec.SameMoves
same-moves base standing published whole =
    ext_get_or None (trip_moves written.slots) (trip_moves standing.slots) count each
  where
    written : TimetableView
    written = as_written base standing

    count : length (trip_moves (as_written base standing).slots) ≡ length (trip_moves standing.slots)
    count = length-map (slots_written standing 0 base.slots) move_of_slot ∙ count-written standing 0 base.slots ∙ sym whole.no_extras
        ∙ sym (length-map standing.slots move_of_slot)

    each : (s : ℕ) → s < length (trip_moves (as_written base standing).slots)
        → get_or (trip_moves (as_written base standing).slots) s None ≡ get_or (trip_moves standing.slots) s None
    each s within =
        let inside : s < length base.slots = omega (arith, within, count, length-map standing.slots move_of_slot, whole.no_extras) in
        let here : 0 + s ≡ s = omega arith in
        slot-move (as_written base standing) s
        ∙ ap move_of_slot (slot-written standing _ 0 s base.slots inside)
        ∙ ap (λ n. move_of_slot (record (slot_at base s) { trip = trip_written (slot_at base s).trip (slot_at standing n).trip })) here
        ∙ move-written (slot_at base s) (slot_at standing s) (published s _ inside)
        (whole.runs s _ (omega (arith, inside, whole.no_extras))) (whole.follows.trips s inside)
        ∙ sym (slot-move standing s)

-- a timetable without extras has the names of the one that it follows
pub names-kept : (base standing : TimetableView) → IsEditedFrom base standing → length standing.slots ≡ length base.slots
    → slot_names base ≡ slot_names standing
names-kept base standing follows count =
    sym follows.names ∙ take_all (length base.slots) (slot_names standing)
    (omega (arith, count, length-map standing.slots (λ (s : Slot). s.name)))

-- and so has the one that is written
names-written : (standing : TimetableView) (s : ℕ) (slots : List Slot)
    → map (λ (slot : Slot). slot.name) (slots_written standing s slots) ≡ map (λ (slot : Slot). slot.name) slots
names-written standing s [] = refl
names-written standing s (slot ∷ slots) = ap (λ names. slot.name ∷ names) (names-written standing (s + 1) slots)

pub least-again : spec.LeastAgain
least-again base standing matrix blocks published whole least =
    let moves = same-moves base standing published whole in
    let names = names-written standing 0 base.slots ∙ names-kept base standing whole.follows whole.no_extras in
    subst (λ network. IsLeast network blocks) (λ k. ruled_network (sym names k) (sym moves k) matrix) least
