use Rattle.std.proofs.Common.{◌≡◌, ℕ, length, subst}
use Rattle.trip_model.specs.Order.{minute_left}
use Rattle.trip_model.specs.Plain.{move_at}
use Rattle.pair_graph.specs.Pairs.{pairs_network}
use Rattle.pair_search.specs.Assignment.{AreWeights}
use Rattle.pair_search.specs.Order.{IsRenaming}
use Rattle.pair_search.specs.Side.{SideView, side_slots, side_slot, side_place, side_weight}
use Rattle.pair_search.proofs.LooseLemmas.{AreWeights-network}
use Rattle.pair_search.proofs.SideLemmas.{AreWeights-side}
use Rattle.pair_search.proofs.side.Side.slots.Goals as goal

pub returns-clause-sound : goal.returns-clause-sound
returns-clause-sound c =
    let side : SideView = record {
      pairs = c.self.inside.pairs.now;
      turned = c.self.inside.turned;
      without = c.self.inside.without;
      columns = c.self.inside.columns.now;
      places = c.self.inside.places.now;
      groups = c.self.inside.groups.now;
      count =
          c.self.inside.count;
    } in
    let departs : ℕ → ℕ = λ s. minute_left (move_at side.pairs.moves s) in
    subst (λ (s : SideView). AreWeights (side_weight s) c.slots.result) c.self.view_is
    (AreWeights-side side c.slots.result
    (AreWeights-network (pairs_network side.pairs) c.slots.result departs c.slots.ensures.day c.slots.ensures.departures))

pub returns-clause-renaming : goal.returns-clause-renaming
returns-clause-renaming c =
    subst (λ (s : SideView). IsRenaming (side_slots s) (side_slot s) (side_place s)) c.self.view_is c.self.invariant.0.renaming

pub returns-clause-lengths : goal.returns-clause-lengths
returns-clause-lengths c =
    subst (λ (s : SideView). (length s.columns ≡ side_slots s) × (length s.places ≡ side_slots s)) c.self.view_is
    (c.self.invariant.0.count, c.self.invariant.0.slots)
