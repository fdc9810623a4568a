-- A repair finds a certified plan, along the paths of its searches.
use Rattle.std.proofs.Common.{◌≡◌, ℕ, ◌<◌, cond, List, [], ◌∷◌, ◌++◌, length, Option, None, Some, refl, sym, ap, subst, ◌∙◌, arith}
use Rattle.std.specs.Prelude.{All}
use Rattle.std.proofs.lemmas.Bool.{ne_eqb}
use Rattle.std.proofs.lemmas.List.{length-set}
use Rattle.assignment_model.specs.Paths.{IsAdded, IsLeftFrom, IsRightFrom, IsTaken, with_slot}
use Rattle.assignment_model.specs.Prices.{Plan, IsCertified, IsLoose}
use Rattle.deadhead_matrix.specs.Matrix.{MatrixView}
use Rattle.deadhead_matrix.specs.Plans.{IsPlanFor}
use Rattle.deadhead_matrix.specs.Pulls.{IsPull}
use Rattle.desk_core.specs.Computed.{plan_repaired}
use Rattle.desk_core.specs.Repair.{MayAdd, MayRepair, MayTake}
use Rattle.edit_script.specs.declared.edit.Edit.{Edit}
use Rattle.edit_script.specs.declared.edit.Edit.TheVariants.{Shift, Cancel, Restore, Extra, Undo, Redo, Show}
use Rattle.pair_graph.specs.Pairs.{PairsView, pairs_network, pairs_of}
use Rattle.pair_graph.proofs.PairsLemmas.{length-pairs}
use Rattle.plan_history.specs.History.{IsReplaced}
use Rattle.price_assign.specs.Plans.{with_slots}
use Rattle.price_repair.specs.Cut.{plan_without}
use Rattle.price_repair.specs.Repaired.{left_added, right_added, plan_added, plan_replaced, plan_taken}
use Rattle.price_repair.specs.Without.{IsCertifiedWith, IsCertifiedWithout}
use Rattle.price_repair.proofs.AddLemmas.{IsAdded-searched, IsLoose-added, next-added}
use Rattle.price_repair.proofs.CutLemmas.{AreAlike-taken, IsLoose-taken, IsTaken-searched, length-cut_at}
use Rattle.price_repair.proofs.RepairedLemmas.{plan_added-is, plan_replaced-is, plan_taken-is}
use Rattle.price_repair.proofs.WithoutLemmas.{IsCertified-pairs}
use Rattle.trip_model.specs.Links.{next_of, before_of}
use Rattle.trip_model.specs.Order.{minute_left}
use Rattle.trip_model.specs.Plain.{move_at}
use Rattle.trip_model.specs.Timetable.{TimetableView, IsTimetable}
use Rattle.planned_laws.specs.Laws.{ArePairs, HasSlots, IsRepaired}
use Rattle.planned_laws.proofs.PairLemmas.{ArePairs-of, clock-pairs, left-added as left-side, right-added as right-side}

-- a plan with as many slots as pairs have, which is certified for them
pub record IsSolved (pairs : PairsView) (plan : Plan) : Type 0 where
  pub slots : HasSlots (length pairs.moves) plan
  pub certified : IsCertified (pairs_network pairs) plan

-- a leaving side is added, where there is one
record IsLed (pairs : PairsView) (a b : Option ℕ) (old new : Plan) : Type 0 where
  slots : HasSlots (length pairs.moves) new
  loose : IsLoose (pairs_network pairs) new None b
  path : IsLeftFrom old.next new.next a

-- and an entering side, of a plan in which nothing else is left out
record IsEntered (pairs : PairsView) (b : Option ℕ) (old new : Plan) : Type 0 where
  solved : IsSolved pairs new
  path : IsRightFrom old.next new.next b

module _ (pairs : PairsView) (are : ArePairs pairs) where
  lead : (plan : Plan) (a b : Option ℕ) → HasSlots (length pairs.moves) plan → IsLoose (pairs_network pairs) plan a b
      → IsLed pairs a b plan (left_added pairs a b plan)
  lead plan None b slots loose = record { slots = slots; loose = loose; path = refl }
  lead plan (Some a) b slots loose =
      let now = left-side pairs are plan a b slots loose in record { slots = now.slots; loose = now.loose; path = now.path }

  enter : (plan : Plan) (b : Option ℕ) → HasSlots (length pairs.moves) plan → IsLoose (pairs_network pairs) plan None b
      → IsEntered pairs b plan (right_added pairs b plan)
  enter plan None slots loose = record {
    solved = record {
      slots = slots;
      certified = IsCertified-pairs pairs (λ s. minute_left (move_at pairs.moves s)) plan (clock-pairs pairs are) slots.next loose;
    };
    path = refl;
  }
  enter plan (Some b) slots loose =
      let now = right-side pairs are plan b None slots loose in
      record {
        solved = record {
          slots = now.slots;
          certified = IsCertified-pairs pairs (λ s. minute_left (move_at pairs.moves s)) (right_added pairs (Some b) plan)
              (clock-pairs pairs are) now.slots.next now.loose;
        };
        path = now.path;
      }

  -- a trip is taken
  pub taken-is : (s : ℕ) (plan : Plan) → HasSlots (length pairs.moves) plan → IsCertifiedWith pairs s plan
      → IsSolved pairs (plan_taken pairs s plan) × IsTaken plan.next (plan_taken pairs s plan).next s
  taken-is s plan slots certified =
      let clock = clock-pairs pairs are in
      let a : Option ℕ = before_of plan.next s in
      let b : Option ℕ = next_of plan.next s in
      let cut : Plan = plan_without plan s in
      let loose = IsLoose-taken pairs (λ t. minute_left (move_at pairs.moves t)) s plan cut a b clock slots.next certified refl refl refl in
      let left = lead cut a b
      (record {
        next = length-cut_at plan.next s ∙ slots.next;
        leave = length-set plan.leave s 0 ∙ slots.leave;
        enter = length-set plan.enter s 0 ∙ slots.enter;
      }) loose in
      let mid : Plan = left_added pairs a b cut in
      let right = enter mid b left.slots left.loose in
      let new : Plan = right_added pairs b mid in
      subst (λ (p : Plan). IsSolved pairs p × IsTaken plan.next p.next s)
      (plan_taken-is pairs s plan cut mid new a b refl refl refl refl refl) (
        right.solved,
        IsTaken-searched plan cut mid new s a b
            (AreAlike-taken pairs (λ t. minute_left (move_at pairs.moves t)) s plan new clock slots.next certified right.solved.slots.next
            right.solved.certified) refl refl refl left.path right.path,
      )

  -- a trip is added
  pub added-is : (s : ℕ) (plan : Plan) → length (with_slot plan.next s) ≡ length pairs.moves → IsCertifiedWithout pairs s plan
      → IsSolved pairs (plan_added pairs s plan) × IsAdded plan.next (plan_added pairs s plan).next s
  added-is s plan slots certified =
      let clock = clock-pairs pairs are in
      let first : Plan = with_slots plan (length pairs.moves) in
      let loose = IsLoose-added pairs (λ t. minute_left (move_at pairs.moves t)) s plan first clock are.moves slots certified refl in
      let links = next-added pairs s plan first slots refl in
      let long : length first.next ≡ length pairs.moves = ap length links ∙ slots in
      let left = lead first (Some s) (Some s)
      (record { next = long; leave = loose.leaves ∙ long; enter = loose.enters ∙ long }) loose in
      let mid : Plan = left_added pairs (Some s) (Some s) first in
      let right = enter mid (Some s) left.slots left.loose in
      let new : Plan = right_added pairs (Some s) mid in
      subst (λ (p : Plan). IsSolved pairs p × IsAdded plan.next p.next s) (plan_added-is pairs s plan first mid new refl refl refl)
      (right.solved, IsAdded-searched (pairs_network pairs) plan first mid new s loose links left.path right.path)

-- a slot that is there is not added
with_slot-same : (links : List (Option ℕ)) (s : ℕ) → s < length links → length (with_slot links s) ≡ length links
with_slot-same links s lt =
    ap (λ more. length (cond more (links ++ None ∷ []) links)) (ne_eqb (length links) s (λ e. absurd (omega (arith, lt, e))))

module _ (t : TimetableView) (m : MatrixView) (valid : IsTimetable t) (places : length t.places ≡ length m.walks)
    (pulls : All IsPull m.pulls) where
  IsPlanFor-solved : (plan : Plan) → IsSolved (pairs_of t m None) plan → IsPlanFor t m plan
  IsPlanFor-solved plan is = record { slots = is.slots.next ∙ length-pairs t m None; certified = is.certified }

  module _ (plan : Plan) (leaves : length plan.leave ≡ length plan.next) (enters : length plan.enter ≡ length plan.next) where
    -- what a plan has for the pairs with or without a slot
    slots-pairs : (without : Option ℕ) → length plan.next ≡ length t.slots → HasSlots (length (pairs_of t m without).moves) plan
    slots-pairs without slots =
        let count = slots ∙ sym (length-pairs t m without) in record { next = count; leave = leaves ∙ count; enter = enters ∙ count }

    taken : (s : ℕ) → MayTake t m None s plan
        → IsPlanFor t m (plan_taken (pairs_of t m None) s plan) × IsTaken plan.next (plan_taken (pairs_of t m None) s plan).next s
    taken s may =
        let now = taken-is (pairs_of t m None) (ArePairs-of t m None valid places pulls tt) s plan (slots-pairs None may.slots)
        may.certified in
        (IsPlanFor-solved (plan_taken (pairs_of t m None) s plan) now.0, now.1)

    added : (s : ℕ) → MayAdd t m s plan
        → IsPlanFor t m (plan_added (pairs_of t m None) s plan) × IsAdded plan.next (plan_added (pairs_of t m None) s plan).next s
    added s may =
        let now = added-is (pairs_of t m None) (ArePairs-of t m None valid places pulls tt) s plan
        (may.slots ∙ sym (length-pairs t m None)) may.certified in
        (IsPlanFor-solved (plan_added (pairs_of t m None) s plan) now.0, now.1)

    replaced : (s : ℕ) → MayTake t m (Some s) s plan
        → ((mid : Plan) → IsCertified (pairs_network (pairs_of t m (Some s))) mid → IsCertifiedWithout (pairs_of t m None) s mid)
        → IsPlanFor t m (plan_replaced (pairs_of t m (Some s)) (pairs_of t m None) s plan)
        × IsReplaced plan.next (plan_replaced (pairs_of t m (Some s)) (pairs_of t m None) s plan).next s
    replaced s may again =
        let without : PairsView = pairs_of t m (Some s) in
        let pairs : PairsView = pairs_of t m None in
        let mid : Plan = plan_taken without s plan in
        let out = taken-is without (ArePairs-of t m (Some s) valid places pulls may.slot) s plan (slots-pairs (Some s) may.slots)
        may.certified in
        let long : length mid.next ≡ length t.slots = out.0.slots.next ∙ length-pairs t m (Some s) in
        let new : Plan = plan_added pairs s mid in
        let back = added-is pairs (ArePairs-of t m None valid places pulls tt) s mid
        (with_slot-same mid.next s (omega (arith, may.slot, long)) ∙ long ∙ sym (length-pairs t m None)) (again mid out.0.certified) in
        subst (λ (p : Plan). IsPlanFor t m p × IsReplaced plan.next p.next s) (plan_replaced-is without pairs s plan mid new refl refl)
        (IsPlanFor-solved new back.0, record { mid = mid.next; taken = out.1; added = back.1 })

    -- the repair after an edit of a trip
    pub repaired-is : (edit : Edit) (slot : ℕ) → MayRepair edit slot t m plan
        → IsRepaired edit slot t m plan (plan_repaired edit slot t m plan)
    repaired-is (Shift trip by) slot may = let now = replaced slot may.0 may.1 in record { plan = now.0; links = now.1 }
    repaired-is (Cancel trip) slot may = let now = taken slot may in record { plan = now.0; links = now.1 }
    repaired-is (Restore trip) slot may = let now = added slot may in record { plan = now.0; links = now.1 }
    repaired-is (Extra trip from to departs arrives) slot may = let now = added slot may in record { plan = now.0; links = now.1 }
    repaired-is Undo slot may = absurd may
    repaired-is Redo slot may = absurd may
    repaired-is Show slot may = absurd may
