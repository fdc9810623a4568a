-- Searches over the pairs of trips keep a plan loose, and from nothing they find one that is certified.
use Rattle.std.proofs.Common.{◌≡◌, ℕ, ◌<◌, true, false, List, [], length, Option, None, Some, refl, sym, subst, ◌∙◌, arith}
use Rattle.std.specs.Prelude.{All, IfSome}
use Rattle.std.proofs.lemmas.List.FromFn.{length-map-range_with_len}
use Rattle.assignment_model.specs.Paths.{IsLeftPath, IsRightPath}
use Rattle.assignment_model.specs.Prices.{Plan, IsCertified, IsDay, IsLoose, weight}
use Rattle.deadhead_matrix.specs.Matrix.{MatrixView}
use Rattle.deadhead_matrix.specs.Pulls.{IsPull}
use Rattle.deadhead_matrix.proofs.Days.{AreDepartures-ruled, IsDay-ruled}
use Rattle.pair_graph.specs.Pairs.{PairsView, pairs_network, pairs_of}
use Rattle.pair_graph.proofs.PairsLemmas.{AreMoves-pairs, length-pairs}
use Rattle.pair_search.specs.Arranged.{all_found, arranged, departing, found_by, turned_plan}
use Rattle.pair_search.specs.Assignment.{AreWeights}
use Rattle.pair_search.specs.Side.{SideView, side_weight}
use Rattle.pair_search.specs.Turned.{IsFoundTurned}
use Rattle.pair_search.proofs.LooseLemmas.{AreNextTrips-loose, AreWeights-network, IsLeftPath-loose}
use Rattle.pair_search.proofs.ShiftLemmas.{AreNextTrips-matched}
use Rattle.pair_search.proofs.SideLemmas.{AreWeights-side}
use Rattle.price_assign.specs.Found.{found_left, found_right, solved}
use Rattle.price_assign.proofs.PlanLemmas.{leaving, entering, MayBegin-leaving, IsLoose-leaving, IsCertified-leaving, MayBegin-entering}
use Rattle.price_assign.proofs.PlanLemmas.{IsLoose-entering, found-left, found-right, solved-is}
use Rattle.price_assign.proofs.RightLemmas.{IsRightPath-loose}
use Rattle.trip_model.specs.Links.{before_of}
use Rattle.trip_model.specs.Network.{AreDepartures}
use Rattle.trip_model.specs.Order.{minute_left}
use Rattle.trip_model.specs.Plain.{move_at}
use Rattle.trip_model.specs.Timetable.{TimetableView, IsTimetable}
use Rattle.planned_laws.specs.Laws.{HasSlots, ArePairs}
use Rattle.planned_laws.proofs.OrderLemmas.{AreAll-arranged, AreAll-departing}
use Rattle.planned_laws.proofs.PlaceLemmas.{all-found, found-by}
use Rattle.planned_laws.proofs.SearchLemmas.{IsInverse-befores}

-- a search kept a plan loose, and changed links along a path
pub record IsLeftAdded (pairs : PairsView) (a : ℕ) (b : Option ℕ) (old new : Plan) : Type 0 where
  pub slots : HasSlots (length pairs.moves) new
  pub loose : IsLoose (pairs_network pairs) new None b
  pub path : IsLeftPath old.next new.next a

pub record IsRightAdded (pairs : PairsView) (b : ℕ) (a : Option ℕ) (old new : Plan) : Type 0 where
  pub slots : HasSlots (length pairs.moves) new
  pub loose : IsLoose (pairs_network pairs) new a None
  pub path : IsRightPath old.next new.next b

-- the pairs of a timetable are such, also without a slot
pub ArePairs-of : (t : TimetableView) (m : MatrixView) (without : Option ℕ) → IsTimetable t → length t.places ≡ length m.walks
    → All IsPull m.pulls → IfSome without (λ s. s < length t.slots) → ArePairs (pairs_of t m without)
ArePairs-of t m without valid places pulls within = record {
  few = omega (arith, length-pairs t m without, valid.slots);
  moves = AreMoves-pairs t m without valid places within;
  pulls = pulls;
}

module _ (pairs : PairsView) (are : ArePairs pairs) where
  pub day-pairs : IsDay (pairs_network pairs) (length pairs.moves)
  day-pairs = IsDay-ruled (length pairs.matrix.walks) pairs.names pairs.moves pairs.matrix are.moves are.pulls are.few

  pub clock-pairs : AreDepartures (pairs_network pairs) (λ s. minute_left (move_at pairs.moves s))
  clock-pairs = AreDepartures-ruled (length pairs.matrix.walks) pairs.names pairs.moves pairs.matrix are.moves

  pub weights-pairs : AreWeights (weight (pairs_network pairs)) (length pairs.moves)
  weights-pairs = AreWeights-network (pairs_network pairs) (length pairs.moves) (λ s. minute_left (move_at pairs.moves s)) day-pairs
      clock-pairs

  -- the leaving side of a row is added
  pub left-added : (plan : Plan) (a : ℕ) (b : Option ℕ) → HasSlots (length pairs.moves) plan → IsLoose (pairs_network pairs) plan (Some a) b
      → IsLeftAdded pairs a b plan (found_left pairs a b plan)
  left-added plan a b slots loose =
      let n : ℕ = length pairs.moves in
      let side : SideView = leaving pairs b [] [] [] 0 in
      let order : List ℕ = arranged pairs false b in
      let now = found-by order (side_weight side) n are.few (AreWeights-side side n weights-pairs) (AreAll-arranged pairs false b)
      (λ _. false) a b plan slots (MayBegin-leaving pairs [] [] [] 0 side plan a b refl day-pairs loose) in
      let new : Plan = found_by order (side_weight side) a plan in
      let is = IsLoose-leaving pairs [] [] [] 0 (λ s. minute_left (move_at pairs.moves s)) side plan new a b refl clock-pairs loose
      (now.slots.leave ∙ sym now.slots.next) (now.slots.enter ∙ sym now.slots.next) now.matched now.covers in
      subst (IsLeftAdded pairs a b plan) (found-left pairs side order plan new a b refl refl refl)
      (record {
        slots = now.slots;
        loose = is;
        path = IsLeftPath-loose (pairs_network pairs) n (λ s. minute_left (move_at pairs.moves s)) plan new a b b day-pairs clock-pairs
            slots.next (now.slots.next ∙ sym slots.next) loose is now.path;
      })

  -- and so is the entering side of a column
  pub right-added : (plan : Plan) (b : ℕ) (a : Option ℕ) → HasSlots (length pairs.moves) plan
      → IsLoose (pairs_network pairs) plan a (Some b)
      → IsRightAdded pairs b a plan (found_right pairs b a plan)
  right-added plan b a slots loose =
      let n : ℕ = length pairs.moves in
      let side : SideView = entering pairs a [] [] [] 0 in
      let order : List ℕ = arranged pairs true a in
      let turned : Plan = turned_plan plan in
      let rows : length turned.next ≡ n = length-map-range_with_len (before_of plan.next) 0 (length plan.next) ∙ slots.next in
      let inverse = IsInverse-befores (length plan.next) plan.next
      (AreNextTrips-loose (pairs_network pairs) n (λ s. minute_left (move_at pairs.moves s)) plan a (Some b) day-pairs clock-pairs
      slots.next
      loose) refl in
      let weights = AreWeights-side side n weights-pairs in
      let may = MayBegin-entering pairs [] [] [] 0 side plan a b refl day-pairs loose turned.next inverse in
      let now = found-by order (side_weight side) n are.few weights (AreAll-arranged pairs true a) (λ _. false) b a turned
      (record { next = rows; leave = slots.enter; enter = slots.leave }) may in
      let mirrored : Plan = found_by order (side_weight side) b turned in
      let new : Plan = turned_plan mirrored in
      let nexts : length new.next ≡ n =
      length-map-range_with_len (before_of mirrored.next) 0 (length mirrored.next) ∙ now.slots.next in
      let found : IsFoundTurned (side_weight side) b a plan.next new.next new.leave new.enter = record {
        was = turned.next;
        now = mirrored.next;
        inverse_was = inverse;
        inverse_now =
            IsInverse-befores (length mirrored.next) mirrored.next
            (AreNextTrips-matched (side_weight side) n (λ _. false) None a mirrored.next mirrored.leave mirrored.enter weights
            now.slots.next
            now.matched) refl;
        path = now.path;
        matched = now.matched;
        covers = now.covers;
      } in
      let is = IsLoose-entering pairs [] [] [] 0 (λ s. minute_left (move_at pairs.moves s)) side plan new a b refl clock-pairs loose
      (now.slots.enter ∙ sym nexts) (now.slots.leave ∙ sym nexts) found in
      subst (IsRightAdded pairs b a plan) (found-right pairs side order plan new b a refl refl refl)
      (record {
        slots = record { next = nexts; leave = now.slots.enter; enter = now.slots.leave };
        loose = is;
        path = IsRightPath-loose (pairs_network pairs) n (λ s. minute_left (move_at pairs.moves s)) plan new a b (side_weight side)
            day-pairs
            clock-pairs slots.next (nexts ∙ sym slots.next) loose is found;
      })

  -- the plan that is found from nothing
  pub certified-solved : HasSlots (length pairs.moves) (solved pairs) × IsCertified (pairs_network pairs) (solved pairs)
  certified-solved =
      let n : ℕ = length pairs.moves in
      let side : SideView = leaving pairs None [] [] [] 0 in
      let order : List ℕ = arranged pairs false None in
      let new : Plan = all_found order (side_weight side) (departing pairs) in
      let whole = all-found order (side_weight side) n are.few (AreWeights-side side n weights-pairs) (AreAll-arranged pairs false None)
      (departing pairs) (AreAll-departing pairs) in
      subst (λ (p : Plan). HasSlots n p × IsCertified (pairs_network pairs) p)
      (solved-is pairs side order (departing pairs) new refl refl refl refl) (
        whole.slots,
        IsCertified-leaving pairs [] [] [] 0 (λ s. minute_left (move_at pairs.moves s)) side new refl day-pairs clock-pairs whole.slots.next
            (whole.slots.leave ∙ sym whole.slots.next) (whole.slots.enter ∙ sym whole.slots.next) whole.matched whole.covers,
      )
