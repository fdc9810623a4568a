-- The repair of a plan in a slot, by the kind of the edit that changed the trip there.
use Rattle.std.specs.Prelude.{◌≡◌, ℕ, ◌<◌, List, length, Option, None, Some, ⊤}
use Rattle.deadhead_matrix.specs.Matrix.{MatrixView}
use Rattle.assignment_model.specs.Paths.{IsAdded, IsTaken, with_slot}
use Rattle.assignment_model.specs.Prices.{IsCertified, Plan}
use Rattle.edit_script.specs.declared.edit.Edit.{Edit}
use Rattle.edit_script.specs.declared.edit.Edit.TheVariants.{Shift, Cancel, Restore, Extra, Undo, Redo, Show}
use Rattle.pair_graph.specs.Pairs.{pairs_network, pairs_of}
use Rattle.plan_history.specs.History.{IsReplaced}
use Rattle.price_repair.specs.Without.{IsCertifiedWith, IsCertifiedWithout}
use Rattle.trip_model.specs.Timetable.{TimetableView}

-- the trip of a slot can be taken out of a plan for pairs that leave it out
pub record MayTake (t : TimetableView) (m : MatrixView) (without : Option ℕ) (s : ℕ) (plan : Plan) : Type 0 where
  pub slot : s < length t.slots
  pub slots : length plan.next ≡ length t.slots
  pub certified : IsCertifiedWith (pairs_of t m without) s plan

-- and added to it
pub record MayAdd (t : TimetableView) (m : MatrixView) (s : ℕ) (plan : Plan) : Type 0 where
  pub slots : length (with_slot plan.next s) ≡ length t.slots
  pub certified : IsCertifiedWithout (pairs_of t m None) s plan

-- a plan can be repaired
abbrev pub MayRepair : Edit → ℕ → TimetableView → MatrixView → Plan → Type 0
MayRepair (Shift trip by) s t m plan =
    MayTake t m (Some s) s plan × ((mid : Plan) → IsCertified (pairs_network (pairs_of t m (Some s))) mid
    → IsCertifiedWithout (pairs_of t m None) s mid)
MayRepair (Cancel trip) s t m plan = MayTake t m None s plan
MayRepair (Restore trip) s t m plan = MayAdd t m s plan
MayRepair (Extra trip from to departs arrives) s t m plan = MayAdd t m s plan
MayRepair Undo s t m plan = ⊥
MayRepair Redo s t m plan = ⊥
MayRepair Show s t m plan = ⊥

-- along which paths its links change
abbrev pub IsRepairedIn : Edit → ℕ → List (Option ℕ) → List (Option ℕ) → Type 0
IsRepairedIn (Shift trip by) s old new = IsReplaced old new s
IsRepairedIn (Cancel trip) s old new = IsTaken old new s
IsRepairedIn (Restore trip) s old new = IsAdded old new s
IsRepairedIn (Extra trip from to departs arrives) s old new = IsAdded old new s
IsRepairedIn Undo s old new = ⊤
IsRepairedIn Redo s old new = ⊤
IsRepairedIn Show s old new = ⊤
