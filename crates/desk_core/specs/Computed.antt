-- The plans of a desk, computed: the first one from its timetable, and each other one from those before it.
use Rattle.std.specs.Prelude.{ℕ, List, [], ◌∷◌, ◌++◌, length, Option, None, Some, unwrap_or}
use Rattle.assignment_model.specs.Prices.{Plan}
use Rattle.deadhead_matrix.specs.Matrix.{MatrixView}
use Rattle.edit_script.specs.Script.{all_but_last}
use Rattle.edit_script.specs.declared.edit.Edit.{Edit}
use Rattle.edit_script.specs.declared.edit.Edit.TheVariants.{Shift, Cancel, Restore, Extra, Undo, Redo, Show}
use Rattle.pair_graph.specs.Pairs.{pairs_of}
use Rattle.plan_choice.specs.Chosen.{chosen_plan, pair_liking}
use Rattle.plan_choice.specs.Likings.{LikingsView}
use Rattle.price_assign.specs.Found.{solved}
use Rattle.price_repair.specs.Repaired.{plan_taken, plan_added, plan_replaced}
use Rattle.trip_model.specs.Timetable.{TimetableView, number_of, slot_names}
use Rattle.undo_log.specs.Log.{last_item, latest_items}

-- how it is liked that one trip of a timetable is next after another
abbrev pub likes : TimetableView → MatrixView → LikingsView → ℕ → ℕ → ℕ
likes timetable matrix likings = pair_liking (pairs_of timetable matrix None) likings

-- the plan of a timetable, made from nothing: of its least plans the one that is liked best
abbrev pub first_plan : TimetableView → MatrixView → LikingsView → Plan
first_plan timetable matrix likings = chosen_plan (pairs_of timetable matrix None) likings (solved (pairs_of timetable matrix None))

-- rule: which plan stands after a record
-- the plan for a timetable after the edit of the trip in a slot: that trip is taken out, added, or taken out and then added
abbrev pub plan_repaired : Edit → ℕ → TimetableView → MatrixView → Plan → Plan
plan_repaired (Shift trip by) s timetable matrix plan =
    plan_replaced (pairs_of timetable matrix (Some s)) (pairs_of timetable matrix None) s plan
plan_repaired (Cancel trip) s timetable matrix plan = plan_taken (pairs_of timetable matrix None) s plan
plan_repaired (Restore trip) s timetable matrix plan = plan_added (pairs_of timetable matrix None) s plan
plan_repaired (Extra trip from to departs arrives) s timetable matrix plan = plan_added (pairs_of timetable matrix None) s plan
plan_repaired Undo s timetable matrix plan = plan
plan_repaired Redo s timetable matrix plan = plan
plan_repaired Show s timetable matrix plan = plan

-- the slot of the trip that an edit names, which is there; a new last one where it is an extra trip
abbrev pub slot_named : List ℕ → TimetableView → ℕ
slot_named trip timetable = unwrap_or (number_of (slot_names timetable) trip) (length timetable.slots)

abbrev pub edited_slot : Edit → TimetableView → ℕ
edited_slot (Shift trip by) timetable = slot_named trip timetable
edited_slot (Cancel trip) timetable = slot_named trip timetable
edited_slot (Restore trip) timetable = slot_named trip timetable
edited_slot edit timetable = length timetable.slots

-- a plan, the plan before each edit that can be undone, and the plan after each that can be redone, the newest last
pub record PlansView : Type 0 where
  pub plan : Plan
  pub earlier : List Plan
  pub later : List Plan

-- the last plan of those that can be undone stands again, and the one before it can be redone
abbrev pub plans_back : PlansView → Option Plan → PlansView
plans_back plans None = plans
plans_back plans (Some plan) = record { plan = plan; earlier = all_but_last plans.earlier; later = plans.later ++ plans.plan ∷ [] }

-- the last plan of those that can be redone stands again, and the one before it can be undone
abbrev pub plans_forth : PlansView → Option Plan → PlansView
plans_forth plans None = plans
plans_forth plans (Some plan) = record { plan = plan; earlier = plans.earlier ++ plans.plan ∷ []; later = all_but_last plans.later }

-- rule: which plan stands after a record
-- the plans after an edit that is done, by the timetables before and after it
abbrev pub plans_after : Edit → TimetableView → TimetableView → MatrixView → PlansView → PlansView
plans_after Undo before after matrix plans = plans_back plans (last_item plans.earlier)
plans_after Redo before after matrix plans = plans_forth plans (last_item plans.later)
plans_after Show before after matrix plans = plans
plans_after edit before after matrix plans = record {
  plan = plan_repaired edit (edited_slot edit before) after matrix plans.plan;
  earlier = latest_items (plans.earlier ++ plans.plan ∷ []);
  later = [];
}
