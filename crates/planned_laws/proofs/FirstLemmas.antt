-- The first plan of a timetable is scheduled, and of all least plans it is the one that is liked best.
use Rattle.std.proofs.Common.{◌≡◌, length, None, refl, ◌∙◌}
use Rattle.std.specs.Prelude.{All}
use Rattle.deadhead_matrix.specs.Matrix.{MatrixView}
use Rattle.deadhead_matrix.specs.Plans.{IsPlanFor}
use Rattle.deadhead_matrix.specs.Pulls.{IsPull}
use Rattle.deadhead_matrix.proofs.PlanLemmas.{IsLeast-plan}
use Rattle.desk_core.specs.Computed.{first_plan}
use Rattle.pair_graph.specs.Pairs.{PairsView, pairs_of}
use Rattle.pair_graph.proofs.PairsLemmas.{length-pairs}
use Rattle.plan_choice.specs.Likings.{LikingsView}
use Rattle.price_assign.specs.Found.{solved}
use Rattle.trip_model.specs.Order.{by_departure}
use Rattle.trip_model.specs.Plain.{trip_moves}
use Rattle.trip_model.specs.Timetable.{TimetableView, IsTimetable}
use Rattle.trip_model.proofs.OrderLemmas.{StandsOnce-by_departure}
use Rattle.planned_laws.specs.Laws.{AreLikings, IsFirst}
use Rattle.planned_laws.proofs.ChoiceLemmas.{chosen-certified-plan}
use Rattle.planned_laws.proofs.PairLemmas.{ArePairs-of, certified-solved}

pub first-is : (t : TimetableView) (m : MatrixView) → IsTimetable t → length t.places ≡ length m.walks → All IsPull m.pulls
    → (likings : LikingsView) → AreLikings likings → IsFirst t m likings (first_plan t m likings)
first-is t m valid places pulls likings liked =
    let pairs : PairsView = pairs_of t m None in
    let are = ArePairs-of t m None valid places pulls tt in
    let solved-pairs = certified-solved pairs are in
    let first = chosen-certified-plan pairs are likings liked (solved pairs) solved-pairs.0 solved-pairs.1 in
    let count = length-pairs t m None in
    let plan : IsPlanFor t m (first_plan t m likings) = record { slots = first.slots.next ∙ count; certified = first.certified } in
    record {
      slots = record { next = first.slots.next ∙ count; leave = first.slots.leave ∙ count; enter = first.slots.enter ∙ count };
      scheduled = record { certified = plan; along = refl; least = IsLeast-plan t m (first_plan t m likings) valid pulls plan };
      chosen = first.chosen (by_departure (trip_moves t.slots)) (StandsOnce-by_departure (trip_moves t.slots));
    }
