-- A desk after an edit.
use Rattle.std.proofs.Common.{◌≡◌, ℕ, zero, suc, ◌+◌, ◌-◌, ◌*◌, ◌<◌, ◌≤◌, Bool, true, false, cond, List, [], ◌∷◌, ◌++◌, length, drop, set}
use Rattle.std.proofs.Common.{Option, None, Some, ℤ, pos, refl, sym, ap, subst, ◌∙◌, arith, eq-eqb}
use Rattle.std.specs.Prelude.{Result, Ok, Err, int_le, nat_lt, not, ◌+ℤ◌, IfErr, IfSome, OnOk}
use Rattle.std.specs.Str.{bytes_eq}
use Rattle.std.proofs.Math.ListN.{length-set}
use Rattle.std.proofs.lemmas.Bool.{ne_eqb}
use Rattle.std.proofs.lemmas.List.{length-append, length-map, map-set, set-set}
use Rattle.deadhead_matrix.specs.Matrix.{MatrixView}
use Rattle.assignment_model.specs.Paths.{IsAdded, IsTaken, with_slot}
use Rattle.assignment_model.specs.Prices.{Plan, IsCertified}
use Rattle.deadhead_matrix.specs.Plans.{IsPlanFor}
use Rattle.edit_script.specs.Changes.{IsSlotNamed, IsSlotOf, edited, provided, is_within, with_live, with_extra, extra_trip, shifted_at}
use Rattle.edit_script.specs.Changes.{cancelled_at, restored_at, extra_to, extra_from, extra_new}
use Rattle.edit_script.specs.Edits.{EditsTrip}
use Rattle.edit_script.specs.Script.{ScriptView, all_but_last, last_alone, if_edited, if_redone, if_undone, stepped, with_edit}
use Rattle.edit_script.specs.declared.edit.Edit.{Edit}
use Rattle.edit_script.specs.declared.edit.Edit.TheVariants.{Shift, Cancel, Restore, Extra, Undo, Redo, Show}
use Rattle.edit_script.specs.declared.fault.EditFault.{EditFault}
use Rattle.edit_script.specs.declared.fault.EditFault.TheVariants as fault
use Rattle.pair_graph.specs.Pairs.{PairsView, pairs_of, pairs_network}
use Rattle.pair_graph.proofs.PairsLemmas.{pairs-with_trip}
use Rattle.plan_history.specs.History.{HistoryView, IsReplaced}
use Rattle.price_repair.specs.Without.{IsCertifiedWith, IsCertifiedWithout}
use Rattle.price_repair.proofs.EditLemmas.{IsCertifiedWith-left_out, IsCertifiedWith-cancelled, IsCertifiedWithout-replaced}
use Rattle.price_repair.proofs.EditLemmas.{IsCertifiedWithout-restored, IsCertifiedWithout-appended}
use Rattle.trip_model.specs.Place.{class_of}
use Rattle.trip_model.specs.Plain.{move_of_slot, trip_moves}
use Rattle.trip_model.specs.Timetable.{Slot, TimetableView, IsTimetable, number_of, place_names, slot_at, slot_names, with_trip}
use Rattle.trip_model.specs.Trip.{shifted}
use Rattle.trip_model.specs.declared.trip.Trip.{Trip}
use Rattle.trip_model.specs.Fleet.{with_shift}
use Rattle.undo_log.specs.Log.{latest_items, last_item}
use Rattle.undo_log.proofs.LastItem.{take_last_item}
use Rattle.desk_core.specs.Desk.{DeskView, desk_seen, ArePlansFor, AreRepaired, IsDesk, IsDone, IsRefused, most_steps, plans_of}
use Rattle.desk_core.specs.Computed.{plan_repaired}
use Rattle.desk_core.specs.Repair.{IsRepairedIn, MayRepair}
use Rattle.desk_core.proofs.PlansLemmas.{plans-edited}

-- plans beside timetables: as one more stands at the end, as the oldest go, and the last of each
pub plans-length : (m : MatrixView) (ts : List TimetableView) (ps : List Plan) → ArePlansFor m ts ps → length ts ≡ length ps
plans-length m [] [] are = refl
plans-length m [] (p ∷ ps) are = absurd are
plans-length m (t ∷ ts) [] are = absurd are
plans-length m (t ∷ ts) (p ∷ ps) are = ap suc (plans-length m ts ps are.1)

pub plans-push : (m : MatrixView) (ts : List TimetableView) (ps : List Plan) (t : TimetableView) (p : Plan) → ArePlansFor m ts ps
    → IsPlanFor t m p → ArePlansFor m (ts ++ t ∷ []) (ps ++ p ∷ [])
plans-push m [] [] t p are is = (is, tt)
plans-push m [] (q ∷ ps) t p are is = absurd are
plans-push m (u ∷ ts) [] t p are is = absurd are
plans-push m (u ∷ ts) (q ∷ ps) t p are is = (are.0, plans-push m ts ps t p are.1 is)

plans-drop : (m : MatrixView) (n : ℕ) (ts : List TimetableView) (ps : List Plan) → ArePlansFor m ts ps
    → ArePlansFor m (drop n ts) (drop n ps)
plans-drop m zero ts ps are = are
plans-drop m (suc n) [] [] are = tt
plans-drop m (suc n) [] (p ∷ ps) are = absurd are
plans-drop m (suc n) (t ∷ ts) [] are = absurd are
plans-drop m (suc n) (t ∷ ts) (p ∷ ps) are = plans-drop m n ts ps are.1

pub plans-latest : (m : MatrixView) (ts : List TimetableView) (ps : List Plan) (t : TimetableView) (p : Plan) → ArePlansFor m ts ps
    → IsPlanFor t m p
    → ArePlansFor m (latest_items (ts ++ t ∷ [])) (latest_items (ps ++ p ∷ []))
plans-latest m ts ps t p are is =
    let longer : ArePlansFor m (ts ++ t ∷ []) (ps ++ p ∷ []) = plans-push m ts ps t p are is in
    subst (λ n. ArePlansFor m (drop (length (ts ++ t ∷ []) - 256) (ts ++ t ∷ [])) (drop (n - 256) (ps ++ p ∷ [])))
    (plans-length m (ts ++ t ∷ []) (ps ++ p ∷ []) longer)
    (plans-drop m (length (ts ++ t ∷ []) - 256) (ts ++ t ∷ []) (ps ++ p ∷ []) longer)

-- the last of each are one beside the other
plans-split : (m : MatrixView) (ts : List TimetableView) (ps : List Plan) (t : TimetableView) (p : Plan)
    → ArePlansFor m (ts ++ t ∷ []) (ps ++ p ∷ []) → IsPlanFor t m p × ArePlansFor m ts ps
plans-split m [] [] t p are = (are.0, tt)
plans-split m [] (q ∷ ps) t p are = absurd (none ps p are.1)
  where
    none : (ps : List Plan) (p : Plan) → ArePlansFor m [] (ps ++ p ∷ []) → ⊥
    none [] p are = are
    none (q ∷ ps) p are = are
plans-split m (u ∷ ts) [] t p are = absurd (none ts t are.1)
  where
    none : (ts : List TimetableView) (t : TimetableView) → ArePlansFor m (ts ++ t ∷ []) [] → ⊥
    none [] t are = are
    none (u ∷ ts) t are = are
plans-split m (u ∷ ts) (q ∷ ps) t p are =
    let rest = plans-split m ts ps t p are.1 in (rest.0, (are.0, rest.1))

pub plans-last : (m : MatrixView) (ts : List TimetableView) (ps qs : List Plan) (t : TimetableView) (p : Plan) → ArePlansFor m ts ps
    → last_item ts ≡ Some t → ps ≡ qs ++ p ∷ []
    → IsPlanFor t m p × ArePlansFor m (all_but_last ts) qs
plans-last m ts ps qs t p are last split =
    plans-split m (all_but_last ts) qs t p
    (subst (λ us. ArePlansFor m us (qs ++ p ∷ [])) (sym (take_last_item ts t last)) (subst (λ rs. ArePlansFor m ts rs) split are))

-- where there is a last timetable, there are plans
pub plans-some : (m : MatrixView) (ts : List TimetableView) (ps : List Plan) (t : TimetableView) → ArePlansFor m ts ps
    → last_item ts ≡ Some t → ps ≡ [] → ⊥
plans-some m [] ps t are last none = cc
plans-some m (u ∷ ts) [] t are last none = are
plans-some m (u ∷ ts) (p ∷ ps) t are last none = cc

-- no plans are beside no timetables
pub plans-none : (m : MatrixView) (ts : List TimetableView) (ps : List Plan) → ts ≡ [] → ps ≡ [] → ArePlansFor m ts ps
plans-none m ts ps none free =
    subst (λ us. ArePlansFor m us ps) (sym none) (subst (λ rs. ArePlansFor m [] rs) (sym free) tt)

-- the pairs of a timetable have a move for each slot
pub moves-slots : (t : TimetableView) (m : MatrixView) (pairs : PairsView) → pairs ≡ pairs_of t m None
    → length pairs.moves ≡ length t.slots
moves-slots t m pairs is = ap (λ (p : PairsView). length p.moves) is ∙ length-map t.slots move_of_slot

-- a plan that is certified for the pairs of a timetable is one for it
pub IsPlanFor-pairs : (t : TimetableView) (m : MatrixView) (pairs : PairsView) (plan : Plan) → pairs ≡ pairs_of t m None
    → length plan.next ≡ length pairs.moves → IsCertified (pairs_network pairs) plan → IsPlanFor t m plan
IsPlanFor-pairs t m pairs plan is slots certified = record {
  slots = slots ∙ moves-slots t m pairs is;
  certified = subst (λ (p : PairsView). IsCertified (pairs_network p) plan) is certified;
}

-- an edit of a trip that is accepted
edited-ok : (s next : ScriptView) (number : ℕ) (t : TimetableView) → if_edited s number (Ok t) ≡ Ok next → next ≡ with_edit s number t
edited-ok s next number t e = cc

edited-provided : (s next : ScriptView) (number : ℕ) (holds : Bool) (refused : EditFault) (rest : Result TimetableView EditFault)
    → if_edited s number (provided holds refused rest) ≡ Ok next
    → (holds ≡ true) × (if_edited s number rest ≡ Ok next)
edited-provided s next number true refused rest e = (refl, e)
edited-provided s next number false refused rest e = absurd (cc)

pub stepped-cancel : (s next : ScriptView) (number : ℕ) (trip : List ℕ) (slot : ℕ) → number_of (slot_names s.timetable) trip ≡ Some slot
    → stepped s number (Cancel trip) ≡ Ok next
    → next ≡ with_edit s number (with_live s.timetable slot false)
stepped-cancel s next number trip slot found e =
    let one = edited-provided s next number (slot_at s.timetable slot).trip.live fault.NotLive (Ok (with_live s.timetable slot false))
    (sym (ap (λ o. if_edited s number (cancelled_at s.timetable o)) found) ∙ e) in
    edited-ok s next number (with_live s.timetable slot false) one.1

pub stepped-restore : (s next : ScriptView) (number : ℕ) (trip : List ℕ) (slot : ℕ) → number_of (slot_names s.timetable) trip ≡ Some slot
    → stepped s number (Restore trip) ≡ Ok next
    → ((slot_at s.timetable slot).trip.live ≡ false) × (next ≡ with_edit s number (with_live s.timetable slot true))
stepped-restore s next number trip slot found e =
    by (slot_at s.timetable slot).trip.live (sym (ap (λ o. if_edited s number (restored_at s.timetable o)) found) ∙ e)
  where
    by : (live : Bool) → if_edited s number (provided (not live) fault.NotCancelled (Ok (with_live s.timetable slot true))) ≡ Ok next
        → (live ≡ false) × (next ≡ with_edit s number (with_live s.timetable slot true))
    by true e = absurd (cc)
    by false e = (refl, edited-ok s next number (with_live s.timetable slot true) e)

pub stepped-shift : (s next : ScriptView) (number : ℕ) (trip : List ℕ) (by : ℤ) (slot : ℕ)
    → number_of (slot_names s.timetable) trip ≡ Some slot → stepped s number (Shift trip by) ≡ Ok next
    → ((slot_at s.timetable slot).trip.live ≡ true) × (next ≡ with_edit s number (with_shift s.timetable slot by))
stepped-shift s next number trip by slot found e =
    let was : Trip = (slot_at s.timetable slot).trip in
    let late : Result TimetableView EditFault =
    provided (int_le (pos 0) (pos was.departs +ℤ by)) fault.BeforeMidnight (Ok (with_shift s.timetable slot by)) in
    let within : Result TimetableView EditFault =
    provided (is_within was (was.offset +ℤ by)) (fault.OutsideTolerance (was.offset +ℤ by)) late in
    let one = edited-provided s next number (slot_at s.timetable slot).trip.live fault.NotLive within
    (sym (ap (λ o. if_edited s number (shifted_at s.timetable by o)) found) ∙ e) in
    let two = edited-provided s next number (is_within was (was.offset +ℤ by)) (fault.OutsideTolerance (was.offset +ℤ by)) late one.1 in
    let three = edited-provided s next number (int_le (pos 0) (pos was.departs +ℤ by)) fault.BeforeMidnight
    (Ok (with_shift s.timetable slot by)) two.1 in
    (one.0, edited-ok s next number (with_shift s.timetable slot by) three.1)

-- an extra trip that is accepted is live in a new last slot
pub record IsAddedTo (s next : ScriptView) (number : ℕ) (trip : List ℕ) : Type 0 where
  pub added : Trip
  pub live : added.live ≡ true
  pub is : next ≡ with_edit s number (with_extra s.timetable trip added)

extra-to : (s next : ScriptView) (number : ℕ) (trip : List ℕ) (departs arrives a : ℕ) (o : Option ℕ)
    → if_edited s number (extra_to s.timetable trip departs arrives a o) ≡ Ok next → IsAddedTo s next number trip
extra-to s next number trip departs arrives a None e = absurd (cc)
extra-to s next number trip departs arrives a (Some b) e =
    let added : Trip = extra_trip s.timetable a b departs arrives in
    let last : Result TimetableView EditFault = Ok (with_extra s.timetable trip added) in
    let room : Result TimetableView EditFault = provided (nat_lt (length s.timetable.slots) 4096) fault.TooManyTrips last in
    let forward : Result TimetableView EditFault = provided (nat_lt departs arrives) fault.NotForward room in
    let one = edited-provided s next number (bytes_eq (class_of s.timetable.places a) (class_of s.timetable.places b)) fault.ClassesDiffer
    forward e in
    let two = edited-provided s next number (nat_lt departs arrives) fault.NotForward room one.1 in
    let three = edited-provided s next number (nat_lt (length s.timetable.slots) 4096) fault.TooManyTrips last two.1 in
    record { added = added; live = refl; is = edited-ok s next number (with_extra s.timetable trip added) three.1 }

extra-from : (s next : ScriptView) (number : ℕ) (trip to : List ℕ) (departs arrives : ℕ) (o : Option ℕ)
    → if_edited s number (extra_from s.timetable trip to departs arrives o) ≡ Ok next → IsAddedTo s next number trip
extra-from s next number trip to departs arrives None e = absurd (cc)
extra-from s next number trip to departs arrives (Some a) e =
    extra-to s next number trip departs arrives a (number_of (place_names s.timetable) to) e

extra-new : (s next : ScriptView) (number : ℕ) (trip from to : List ℕ) (departs arrives : ℕ) (o : Option ℕ)
    → if_edited s number (extra_new s.timetable trip from to departs arrives o) ≡ Ok next → IsAddedTo s next number trip
extra-new s next number trip from to departs arrives (Some a) e = absurd (cc)
extra-new s next number trip from to departs arrives None e =
    extra-from s next number trip to departs arrives (number_of (place_names s.timetable) from) e

-- an edit of a trip goes to one timetable
pub record IsEdited (s next : ScriptView) (number : ℕ) : Type 0 where
  pub timetable : TimetableView
  pub is : next ≡ with_edit s number timetable

-- an edit of a trip that is accepted, whichever it is
pub edited-any : (s next : ScriptView) (number : ℕ) (r : Result TimetableView EditFault) → if_edited s number r ≡ Ok next
    → IsEdited s next number
edited-any s next number (Ok t) e = record { timetable = t; is = cc }
edited-any s next number (Err why) e = absurd (cc)

pub edited-trip : (s next : ScriptView) (number : ℕ) (edit : Edit) → EditsTrip edit → stepped s number edit ≡ Ok next
    → IsEdited s next number
edited-trip s next number Undo trips e = absurd trips
edited-trip s next number Redo trips e = absurd trips
edited-trip s next number Show trips e = absurd trips
edited-trip s next number edit trips e = edited-any s next number (edited s.timetable edit) e

-- one slot more makes as many links, and a slot that is there no more
with_slot-there : (links : List (Option ℕ)) (s : ℕ) → s < length links → length (with_slot links s) ≡ length links
with_slot-there links s within =
    ap (λ more. length (cond more (links ++ None ∷ []) links)) (ne_eqb (length links) s (λ e. absurd (omega (arith, within, e))))

with_slot-new : (links : List (Option ℕ)) (s : ℕ) → length links ≡ s → length (with_slot links s) ≡ s + 1
with_slot-new links s e = ap (λ more. length (cond more (links ++ None ∷ []) links)) (eq-eqb (length links) s e)
    ∙ length-append links (None ∷ []) ∙ ap (λ n. n + 1) e

some-inj : (n m : ℕ) → Some n ≡ Some m → n ≡ m
some-inj n m e = cc

-- what the repair after an edit asks of a plan that was one for the timetable before it
module _ (s next : ScriptView) (m : MatrixView) (plan : Plan) (number slot : ℕ) (is_plan : IsPlanFor s.timetable m plan)
    (places : length s.timetable.places ≡ length m.walks) (valid : IsTimetable s.timetable) where
  length-put : (trip : Trip) → length (with_trip s.timetable slot trip).slots ≡ length s.timetable.slots
  length-put trip = length-set s.timetable.slots slot (record (slot_at s.timetable slot) { trip = trip })

  may-shift : (trip : List ℕ) (by : ℤ) → IsSlotNamed trip s.timetable (Some slot) → stepped s number (Shift trip by) ≡ Ok next
      → MayRepair (Shift trip by) slot next.timetable m plan
  may-shift trip by told e =
      let to = stepped-shift s next number trip by slot (sym told.1) e in
      let moved = shifted (slot_at s.timetable slot).trip by in
      let rest = pairs-with_trip s.timetable m slot moved in
      subst (λ (n : ScriptView). MayRepair (Shift trip by) slot n.timetable m plan) (sym to.1) (
        record {
          slot = omega (arith, told.0, length-put moved);
          slots = is_plan.slots ∙ sym (length-put moved);
          certified = subst (λ p. IsCertifiedWith p slot plan) (sym rest)
              (IsCertifiedWith-left_out s.timetable m plan slot valid places is_plan.certified);
        },
        λ mid certified. IsCertifiedWithout-replaced s.timetable m mid slot moved told.0 to.0
            (subst (λ p. IsCertified (pairs_network p) mid) rest certified),
      )

  may-cancel : (trip : List ℕ) → IsSlotNamed trip s.timetable (Some slot) → stepped s number (Cancel trip) ≡ Ok next
      → MayRepair (Cancel trip) slot next.timetable m plan
  may-cancel trip told e =
      let idle = record (slot_at s.timetable slot).trip { live = false } in
      subst (λ (n : ScriptView). MayRepair (Cancel trip) slot n.timetable m plan)
      (sym (stepped-cancel s next number trip slot (sym told.1) e)) (record {
        slot = omega (arith, told.0, length-put idle);
        slots = is_plan.slots ∙ sym (length-put idle);
        certified = IsCertifiedWith-cancelled s.timetable m plan slot idle valid places refl is_plan.certified;
      })

  may-restore : (trip : List ℕ) → IsSlotNamed trip s.timetable (Some slot) → stepped s number (Restore trip) ≡ Ok next
      → MayRepair (Restore trip) slot next.timetable m plan
  may-restore trip told e =
      let to = stepped-restore s next number trip slot (sym told.1) e in
      let live = record (slot_at s.timetable slot).trip { live = true } in
      subst (λ (n : ScriptView). MayRepair (Restore trip) slot n.timetable m plan) (sym to.1) (record {
        slots = with_slot-there plan.next slot (omega (arith, told.0, is_plan.slots)) ∙ is_plan.slots ∙ sym (length-put live);
        certified = IsCertifiedWithout-restored s.timetable m plan slot live told.0 to.0 refl is_plan.certified;
      })

  may-extra : (trip from to : List ℕ) (departs arrives : ℕ) → Some slot ≡ Some (length s.timetable.slots)
      → stepped s number (Extra trip from to departs arrives) ≡ Ok next
      → MayRepair (Extra trip from to departs arrives) slot next.timetable m plan
  may-extra trip from to departs arrives told e =
      let new = extra-new s next number trip from to departs arrives (number_of (slot_names s.timetable) trip) e in
      let last : length s.timetable.slots ≡ slot = sym (some-inj slot (length s.timetable.slots) told) in
      let own : Slot = record { name = trip; trip = new.added } in
      subst (λ (n : ScriptView). MayRepair (Extra trip from to departs arrives) slot n.timetable m plan) (sym new.is) (record {
        slots = with_slot-new plan.next slot (is_plan.slots ∙ last) ∙ ap (λ n. n + 1) (sym last)
            ∙ sym (length-append s.timetable.slots (own ∷ []));
        certified = subst (λ n. IsCertifiedWithout (pairs_of (with_extra s.timetable trip new.added) m None) n plan) last
            (IsCertifiedWithout-appended s.timetable m plan own new.live is_plan.certified);
      })

  pub may-repair : (edit : Edit) → EditsTrip edit → IsSlotOf edit s.timetable (Some slot) → stepped s number edit ≡ Ok next
      → MayRepair edit slot next.timetable m plan
  may-repair (Shift trip by) trips told e = may-shift trip by told e
  may-repair (Cancel trip) trips told e = may-cancel trip told e
  may-repair (Restore trip) trips told e = may-restore trip told e
  may-repair (Extra trip from to departs arrives) trips told e = may-extra trip from to departs arrives told e
  may-repair edit trips told e = absurd trips

-- the links are repaired in the slot of the trip
repaired-in : (edit : Edit) (t : TimetableView) (s : ℕ) (old new : List (Option ℕ)) → IsSlotOf edit t (Some s)
    → IsRepairedIn edit s old new → EditsTrip edit → AreRepaired edit t old new
repaired-in (Shift trip by) t s old new told is trips = subst (λ o. IfSome o (λ s. IsReplaced old new s)) told.1 is
repaired-in (Cancel trip) t s old new told is trips = subst (λ o. IfSome o (λ s. IsTaken old new s)) told.1 is
repaired-in (Restore trip) t s old new told is trips = subst (λ o. IfSome o (λ s. IsAdded old new s)) told.1 is
repaired-in (Extra trip from to departs arrives) t s old new told is trips =
    subst (λ s. IsAdded old new s) (some-inj s (length t.slots) told) is
repaired-in edit t s old new told is trips = absurd trips

pub counted-trip : (edit : Edit) (n slots old between new : ℕ) → EditsTrip edit → slots ≡ n → between ≤ old + 56
    → new ≤ between + (4 * slots * slots + 4 * slots) → new ≤ old + most_steps edit n
counted-trip Undo n slots old between new trips same one two = absurd trips
counted-trip Redo n slots old between new trips same one two = absurd trips
counted-trip Show n slots old between new trips same one two = absurd trips
counted-trip edit n slots old between new trips same one two = omega (arith, one, two, ap (λ k. 4 * k * k + 4 * k) same)

-- a desk whose plan was repaired after an edit of a trip, when memory was reserved
module _ (s next : ScriptView) (m : MatrixView) (h reserved new : HistoryView) (number : ℕ) (edit : Edit)
    (same : reserved ≡ record h { room = reserved.room }) (trips : EditsTrip edit) (accepted : stepped s number edit ≡ Ok next)
    (earlier : new.earlier ≡ latest_items (reserved.earlier ++ reserved.plan ∷ [])) (later : new.later ≡ []) where
  keeps : new.earlier ≡ latest_items (h.earlier ++ h.plan ∷ [])
  keeps = earlier ∙ ap (λ (k : HistoryView). latest_items (k.earlier ++ k.plan ∷ [])) same

  pub IsDesk-edited : IsDesk (desk_seen s m h) → IsPlanFor next.timetable m new.plan
      → length next.timetable.places ≡ length s.timetable.places → IsDesk (desk_seen next m new)
  IsDesk-edited desk plan places =
      let to = edited-trip s next number edit trips accepted in
      record {
        places = places ∙ desk.places;
        plan = plan;
        earlier = subst (λ ts. ArePlansFor m ts new.earlier) (sym (ap (λ (n : ScriptView). n.earlier) to.is))
            (subst (λ ps. ArePlansFor m (latest_items (s.earlier ++ s.timetable ∷ [])) ps) (sym keeps)
            (plans-latest m s.earlier h.earlier s.timetable h.plan desk.earlier desk.plan));
        later = subst (λ ts. ArePlansFor m ts new.later) (sym (ap (λ (n : ScriptView). n.later) to.is))
            (subst (λ ps. ArePlansFor m [] ps) (sym later) tt);
      }

  pub IsDone-edited : (slot : ℕ) → IsSlotOf edit s.timetable (Some slot) → IsRepairedIn edit slot reserved.plan.next new.plan.next
      → new.plan ≡ plan_repaired edit slot next.timetable m reserved.plan → IsDone number edit (desk_seen s m h) (desk_seen next m new)
  IsDone-edited slot told links found = record {
    script = accepted;
    matrix = refl;
    links = repaired-in edit s.timetable slot h.plan.next new.plan.next told
        (subst (λ (k : HistoryView). IsRepairedIn edit slot k.plan.next new.plan.next) same links) trips;
    plans = plans-edited edit s.timetable next.timetable m (plans_of (desk_seen s m h)) (plans_of (desk_seen next m new)) slot trips told
        (found ∙ ap (λ (k : HistoryView). plan_repaired edit slot next.timetable m k.plan) same)
        (record { earlier = keeps; later = later });
  }

-- an undo and a redo that are accepted
pub record IsStepBack (s next : ScriptView) : Type 0 where
  pub timetable : TimetableView
  pub last : last_item s.earlier ≡ Some timetable
  pub stands : next.timetable ≡ timetable
  pub earlier : next.earlier ≡ all_but_last s.earlier
  pub later : next.later ≡ s.later ++ s.timetable ∷ []
  pub standing : next.standing ≡ all_but_last s.standing
  pub undone : next.undone ≡ s.undone ++ last_alone s.standing
  pub greatest : next.last ≡ s.last

stepped-back : (s next : ScriptView) (o : Option TimetableView) → last_item s.earlier ≡ o → if_undone s o ≡ Ok next → IsStepBack s next
stepped-back s next None last e = absurd (cc)
stepped-back s next (Some t) last e =
    record { timetable = t; last = last; stands = cc; earlier = cc; later = cc; standing = cc; undone = cc; greatest = cc }

pub stepped-undo : (s next : ScriptView) (number : ℕ) → stepped s number Undo ≡ Ok next → IsStepBack s next
stepped-undo s next number e = stepped-back s next (last_item s.earlier) refl e

pub record IsStepForth (s next : ScriptView) : Type 0 where
  pub timetable : TimetableView
  pub last : last_item s.later ≡ Some timetable
  pub stands : next.timetable ≡ timetable
  pub earlier : next.earlier ≡ s.earlier ++ s.timetable ∷ []
  pub later : next.later ≡ all_but_last s.later
  pub standing : next.standing ≡ s.standing ++ last_alone s.undone
  pub undone : next.undone ≡ all_but_last s.undone
  pub greatest : next.last ≡ s.last

stepped-forth : (s next : ScriptView) (o : Option TimetableView) → last_item s.later ≡ o → if_redone s o ≡ Ok next → IsStepForth s next
stepped-forth s next None last e = absurd (cc)
stepped-forth s next (Some t) last e =
    record { timetable = t; last = last; stands = cc; earlier = cc; later = cc; standing = cc; undone = cc; greatest = cc }

pub stepped-redo : (s next : ScriptView) (number : ℕ) (edit : Edit) → edit ≡ Redo → stepped s number edit ≡ Ok next → IsStepForth s next
stepped-redo s next number edit is e = stepped-forth s next (last_item s.later) refl (ap (stepped s number) (sym is) ∙ e)

pub undo-there : (s next : ScriptView) (m : MatrixView) (h : HistoryView) (number : ℕ)
    → IsDesk (desk_seen s m h) → stepped s number Undo ≡ Ok next → h.earlier ≡ [] → ⊥
undo-there s next m h number desk e none = let back = stepped-undo s next number e in
    plans-some m s.earlier h.earlier back.timetable desk.earlier back.last none

pub redo-there : (s next : ScriptView) (m : MatrixView) (h : HistoryView) (number : ℕ) (edit : Edit)
    → IsDesk (desk_seen s m h) → edit ≡ Redo → stepped s number edit ≡ Ok next → h.later ≡ [] → ⊥
redo-there s next m h number edit desk is e none = let forth = stepped-redo s next number edit is e in
    plans-some m s.later h.later forth.timetable desk.later forth.last none

pub IsDesk-undone : (s next : ScriptView) (m : MatrixView) (h new : HistoryView) (number : ℕ)
    → IsDesk (desk_seen s m h) → stepped s number Undo ≡ Ok next
    → length next.timetable.places ≡ length s.timetable.places
    → h.earlier ≡ new.earlier ++ new.plan ∷ [] → new.later ≡ h.later ++ h.plan ∷ [] → IsDesk (desk_seen next m new)
IsDesk-undone s next m h new number desk e places earlier later =
    let back = stepped-undo s next number e in
    let last = plans-last m s.earlier h.earlier new.earlier back.timetable new.plan desk.earlier back.last earlier in
    record {
      places = places ∙ desk.places;
      plan = subst (λ t. IsPlanFor t m new.plan) (sym back.stands) last.0;
      earlier = subst (λ ts. ArePlansFor m ts new.earlier) (sym back.earlier) last.1;
      later = subst (λ ts. ArePlansFor m ts new.later) (sym back.later)
          (subst (λ ps. ArePlansFor m (s.later ++ s.timetable ∷ []) ps) (sym later)
          (plans-push m s.later h.later s.timetable h.plan desk.later desk.plan));
    }

pub IsDesk-redone : (s next : ScriptView) (m : MatrixView) (h new : HistoryView) (number : ℕ) (edit : Edit)
    → IsDesk (desk_seen s m h) → edit ≡ Redo → stepped s number edit ≡ Ok next
    → length next.timetable.places ≡ length s.timetable.places
    → h.later ≡ new.later ++ new.plan ∷ [] → new.earlier ≡ h.earlier ++ h.plan ∷ [] → IsDesk (desk_seen next m new)
IsDesk-redone s next m h new number edit desk is e places later earlier =
    let forth = stepped-redo s next number edit is e in
    let last = plans-last m s.later h.later new.later forth.timetable new.plan desk.later forth.last later in
    record {
      places = places ∙ desk.places;
      plan = subst (λ t. IsPlanFor t m new.plan) (sym forth.stands) last.0;
      earlier = subst (λ ts. ArePlansFor m ts new.earlier) (sym forth.earlier)
          (subst (λ ps. ArePlansFor m (s.earlier ++ s.timetable ∷ []) ps) (sym earlier)
          (plans-push m s.earlier h.earlier s.timetable h.plan desk.earlier desk.plan));
      later = subst (λ ts. ArePlansFor m ts new.later) (sym forth.later) last.1;
    }

-- an undo, by its edit
pub done-undo : {T : Type 0} (r : Result T EditFault) (number : ℕ) (edit : Edit) (old new : DeskView) → edit ≡ Undo
    → OnOk r ((number : ℕ) → IsDone number Undo old new) → OnOk r (IsDone number edit old new)
done-undo (Ok x) number edit old new is done = subst (λ e. IsDone number e old new) (sym is) (done number)
done-undo (Err refused) number edit old new is done = tt

pub refused-undo : {T : Type 0} (r : Result T EditFault) (number : ℕ) (edit : Edit) (s : ScriptView) → edit ≡ Undo
    → IfErr r (λ refused. (number : ℕ) → stepped s number Undo ≡ Err refused)
    → IfErr r (λ refused. IsRefused refused edit (stepped s number edit))
refused-undo (Ok x) number edit s is refused = tt
refused-undo (Err why) number edit s is refused = subst (λ e. IsRefused why e (stepped s number e)) (sym is) (by why (refused number))
  where
    by : (f : EditFault) → stepped s number Undo ≡ Err f → IsRefused f Undo (stepped s number Undo)
    by fault.Memory e = absurd (none (last_item s.earlier) e)
      where
        none : (o : Option TimetableView) → if_undone s o ≡ Err fault.Memory → ⊥
        none None e = cc
        none (Some t) e = cc
    by f e = e
