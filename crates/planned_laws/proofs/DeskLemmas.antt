-- The desks of a script as they are computed, record by record: each is sound, and each record does to it what it is to do.
use Rattle.std.proofs.Common.{◌≡◌, ℕ, zero, suc, ◌+◌, ◌-◌, ◌<◌, ◌≤◌, nat_lt, Bool, true, false, List, [], ◌∷◌, ◌++◌, length, drop, take}
use Rattle.std.proofs.Common.{Some, Result, Ok, Err, if◌then◌else◌, refl, sym, ap, subst, ◌∙◌, arith, slice_get}
use Rattle.std.specs.List.{AllByRecursion}
use Rattle.std.specs.Prelude.{All}
use Rattle.deadhead_matrix.specs.Matrix.{MatrixView}
use Rattle.deadhead_matrix.specs.Plans.{IsPlanFor}
use Rattle.deadhead_matrix.specs.Pulls.{IsPull}
use Rattle.desk_core.specs.Computed.{PlansView, plan_repaired, plans_back, plans_forth}
use Rattle.desk_core.specs.Desk.{IsDesk, IsDone, desk_seen, plans_of}
use Rattle.desk_core.proofs.DeskLemmas.{IsDesk-edited, IsDesk-redone, IsDesk-undone, IsDone-edited, edited-trip, may-repair, redo-there}
use Rattle.desk_core.proofs.DeskLemmas.{stepped-redo}
use Rattle.desk_core.proofs.DeskLemmas.{stepped-undo, undo-there}
use Rattle.desk_core.proofs.PlansLemmas.{redone-of, undone-of}
use Rattle.edit_script.specs.Changes.{edited}
use Rattle.edit_script.specs.Edits.{EditsTrip, InForm}
use Rattle.edit_script.specs.Script.{ScriptView, if_edited, stepped, with_edit}
use Rattle.edit_script.specs.declared.edit.TheConstants.{MOST_SHOWS}
use Rattle.edit_script.specs.declared.edit.Edit.{Edit}
use Rattle.edit_script.specs.declared.edit.Edit.TheVariants.{Shift, Cancel, Restore, Extra, Undo, Redo, Show}
use Rattle.edit_script.specs.declared.fault.EditFault.{EditFault}
use Rattle.edit_script.specs.declared.fault.EditFault.TheVariants as fault
use Rattle.plan_history.specs.History.{HistoryView}
use Rattle.trip_model.specs.Timetable.{TimetableView, IsTimetable}
use Rattle.undo_log.specs.Log.{last_item, latest_items}
use Rattle.planned_laws.proofs.EditLemmas.{valid-edit}
use Rattle.planned_laws.proofs.RepairLemmas.{repaired-is}

-- what holds of all of a list holds of what is pushed to it, of its end, of its front and of what was read of it
all-push : {X : Type 0} (P : X → Type 0) (xs : List X) (x : X) → AllByRecursion P xs → P x → AllByRecursion P (xs ++ x ∷ [])
all-push P [] x all here = (here, tt)
all-push P (y ∷ xs) x all here = (all.0, all-push P xs x all.1 here)

all-drop : {X : Type 0} (P : X → Type 0) (n : ℕ) (xs : List X) → AllByRecursion P xs → AllByRecursion P (drop n xs)
all-drop P zero xs all = all
all-drop P (suc n) [] all = tt
all-drop P (suc n) (x ∷ xs) all = all-drop P n xs all.1

all-take : {X : Type 0} (P : X → Type 0) (n : ℕ) (xs : List X) → AllByRecursion P xs → AllByRecursion P (take n xs)
all-take P zero xs all = tt
all-take P (suc n) [] all = tt
all-take P (suc n) (x ∷ xs) all = (all.0, all-take P n xs all.1)

all-get : {X : Type 0} (P : X → Type 0) (xs : List X) (k : ℕ) (x : X) → AllByRecursion P xs → slice_get xs k ≡ Some x → P x
all-get P [] zero x all e = absurd (cc)
all-get P [] (suc k) x all e = absurd (cc)
all-get P (y ∷ xs) zero x all e = let same : y ≡ x = cc in subst P same all.0
all-get P (y ∷ xs) (suc k) x all e = all-get P xs k x all.1 e

-- a valid timetable over the places of the matrix
abbrev IsOver : MatrixView → TimetableView → Type 0
IsOver m t = IsTimetable t × (length t.places ≡ length m.walks)

-- A desk whose timetables are all valid, over the places of the matrix.
pub record IsSound (s : ScriptView) (m : MatrixView) (h : HistoryView) : Type 0 where
  pub desk : IsDesk (desk_seen s m h)
  pub over : IsOver m s.timetable
  pub earlier : AllByRecursion (IsOver m) s.earlier
  pub later : AllByRecursion (IsOver m) s.later

-- an edit that is accepted leads to a sound desk, and is done
pub record IsStepped (number : ℕ) (edit : Edit) (s next : ScriptView) (m : MatrixView) (h : HistoryView) : Type 0 where
  pub history : HistoryView
  pub sound : IsSound next m history
  pub done : IsDone number edit (desk_seen s m h) (desk_seen next m history)
  pub last : s.last ≤ number → next.last ≤ number

-- the history of plans that are computed
abbrev history_of : PlansView → HistoryView
history_of plans = record { plan = plans.plan; earlier = plans.earlier; later = plans.later; room = 0 }

some-there : {X : Type 0} (xs : List X) → (xs ≡ [] → ⊥) → 0 < length xs
some-there [] none = absurd (none refl)
some-there (x ∷ xs) none = omega arith

-- the timetable of an edit of a trip that is accepted
edited-timetable : (s next : ScriptView) (number : ℕ) (r : Result TimetableView EditFault) → if_edited s number r ≡ Ok next
    → r ≡ Ok next.timetable
edited-timetable s next number (Ok t) e =
    let is : with_edit s number t ≡ next = cc in ap {B = Result TimetableView EditFault} (λ (n : ScriptView). Ok n.timetable) is
edited-timetable s next number (Err refused) e = absurd (cc)

edited-due : (s next : ScriptView) (number : ℕ) (edit : Edit) → EditsTrip edit → stepped s number edit ≡ Ok next
    → edited s.timetable edit ≡ Ok next.timetable
edited-due s next number Undo trips e = absurd trips
edited-due s next number Redo trips e = absurd trips
edited-due s next number Show trips e = absurd trips
edited-due s next number edit trips e = edited-timetable s next number (edited s.timetable edit) e

shown-is : (s next : ScriptView) (room : Bool)
    → ◌≡◌ {A = Result ScriptView EditFault} (if room then Ok (record s { shows = s.shows + 1 }) else Err fault.TooManyShows) (Ok next)
    → record s { shows = s.shows + 1 } ≡ next
shown-is s next true e = cc
shown-is s next false e = absurd (cc)

module _ (s next : ScriptView) (m : MatrixView) (h : HistoryView) (pulls : All IsPull m.pulls) (sound : IsSound s m h) (number : ℕ) where
  -- an edit of a trip
  step-trip : (edit : Edit) → EditsTrip edit → InForm edit → stepped s number edit ≡ Ok next → IsStepped number edit s next m h
  step-trip edit trips form accepted =
      let v = valid-edit s.timetable next.timetable sound.over.0 edit trips form (edited-due s next number edit trips accepted) in
      let same : length next.timetable.places ≡ length s.timetable.places = ap length v.places in
      let plan : IsPlanFor s.timetable m h.plan = sound.desk.plan in
      let may = may-repair s next m h.plan number v.slot plan sound.over.1 sound.over.0 edit trips v.told accepted in
      let now = repaired-is next.timetable m v.valid (same ∙ sound.over.1) pulls h.plan plan.certified.leaves plan.certified.enters edit
      v.slot may in
      let new : HistoryView = record {
        plan = plan_repaired edit v.slot next.timetable m h.plan;
        earlier = latest_items (h.earlier ++ h.plan ∷ []);
        later = [];
        room = 0;
      } in
      let to = edited-trip s next number edit trips accepted in
      record {
        history = new;
        sound =
            record {
              desk = IsDesk-edited s next m h h new number edit refl trips accepted refl refl sound.desk now.plan same;
              over = (v.valid, same ∙ sound.over.1);
              earlier =
                  subst (AllByRecursion (IsOver m)) (sym (ap (λ (n : ScriptView). n.earlier) to.is))
                  (all-drop (IsOver m) (length (s.earlier ++ s.timetable ∷ []) - 256) (s.earlier ++ s.timetable ∷ [])
                  (all-push (IsOver m) s.earlier s.timetable sound.earlier sound.over));
              later = subst (AllByRecursion (IsOver m)) (sym (ap (λ (n : ScriptView). n.later) to.is)) tt;
            };
        done = IsDone-edited s next m h h new number edit refl trips accepted refl refl v.slot v.told now.links refl;
        last = λ le. omega (arith, ap (λ (n : ScriptView). n.last) to.is);
      }

  step-undo : stepped s number Undo ≡ Ok next → IsStepped number Undo s next m h
  step-undo accepted =
      let back = stepped-undo s next number accepted in
      let old : PlansView = plans_of (desk_seen s m h) in
      let plans : PlansView = plans_back old (last_item h.earlier) in
      let is = undone-of old plans refl (some-there h.earlier (undo-there s next m h number sound.desk accepted)) in
      let over : IsOver m next.timetable =
      subst (IsOver m) (sym back.stands) (all-get (IsOver m) s.earlier (length s.earlier - 1) back.timetable sound.earlier back.last) in
      record {
        history = history_of plans;
        sound =
            record {
              desk = IsDesk-undone s next m h (history_of plans) number sound.desk accepted (over.1 ∙ sym sound.over.1) is.earlier is.later;
              over = over;
              earlier =
                  subst (AllByRecursion (IsOver m)) (sym back.earlier) (all-take (IsOver m) (length s.earlier - 1) s.earlier sound.earlier);
              later =
                  subst (AllByRecursion (IsOver m)) (sym back.later) (all-push (IsOver m) s.later s.timetable sound.later sound.over);
            };
        done = record { script = accepted; matrix = refl; links = tt; plans = refl };
        last = λ le. omega (arith, le, back.greatest);
      }

  step-redo : stepped s number Redo ≡ Ok next → IsStepped number Redo s next m h
  step-redo accepted =
      let forth = stepped-redo s next number Redo refl accepted in
      let old : PlansView = plans_of (desk_seen s m h) in
      let plans : PlansView = plans_forth old (last_item h.later) in
      let is = redone-of old plans refl (some-there h.later (redo-there s next m h number Redo sound.desk refl accepted)) in
      let over : IsOver m next.timetable =
      subst (IsOver m) (sym forth.stands) (all-get (IsOver m) s.later (length s.later - 1) forth.timetable sound.later forth.last) in
      record {
        history = history_of plans;
        sound =
            record {
              desk =
                  IsDesk-redone s next m h (history_of plans) number Redo sound.desk refl accepted (over.1 ∙ sym sound.over.1) is.later
                  is.earlier;
              over = over;
              earlier =
                  subst (AllByRecursion (IsOver m)) (sym forth.earlier) (all-push (IsOver m) s.earlier s.timetable sound.earlier
                  sound.over);
              later = subst (AllByRecursion (IsOver m)) (sym forth.later) (all-take (IsOver m) (length s.later - 1) s.later sound.later);
            };
        done = record { script = accepted; matrix = refl; links = tt; plans = refl };
        last = λ le. omega (arith, le, forth.greatest);
      }

  step-show : stepped s number Show ≡ Ok next → IsStepped number Show s next m h
  step-show accepted =
      let is = shown-is s next (nat_lt s.shows MOST_SHOWS) accepted in
      let shown : ScriptView = record s { shows = s.shows + 1 } in
      record {
        history = h;
        sound =
            subst (λ (n : ScriptView). IsSound n m h) is
            (record {
              desk = record { places = sound.desk.places; plan = sound.desk.plan; earlier = sound.desk.earlier; later = sound.desk.later };
              over = sound.over;
              earlier = sound.earlier;
              later = sound.later;
            });
        done = record { script = accepted; matrix = refl; links = refl; plans = refl };
        last = λ le. omega (arith, le, ap (λ (n : ScriptView). n.last) is);
      }

  pub step-edit : (edit : Edit) → InForm edit → stepped s number edit ≡ Ok next → IsStepped number edit s next m h
  step-edit (Shift trip by) form accepted = step-trip (Shift trip by) tt form accepted
  step-edit (Cancel trip) form accepted = step-trip (Cancel trip) tt form accepted
  step-edit (Restore trip) form accepted = step-trip (Restore trip) tt form accepted
  step-edit (Extra trip from to departs arrives) form accepted = step-trip (Extra trip from to departs arrives) tt form accepted
  step-edit Undo form accepted = step-undo accepted
  step-edit Redo form accepted = step-redo accepted
  step-edit Show form accepted = step-show accepted
