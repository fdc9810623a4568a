-- What searches find over the places of columns is found over their slots.
use Rattle.std.proofs.Common.{ℕ, ◌+◌, ◌≤◌, Bool, false, List, length, Option, None, sym, subst, ◌∙◌, arith}
use Rattle.std.specs.Option.{option_map}
use Rattle.std.proofs.Math.ListN.{get_or-map}
use Rattle.std.proofs.lemmas.List as lists
use Rattle.std.proofs.lemmas.List.{length-map}
use Rattle.std.proofs.lemmas.List.FromFn.{get_or-map-range_with_len, length-map-range_with_len}
use Rattle.std.proofs.lemmas.Option.{none-some}
use Rattle.assignment_model.specs.Prices.{Plan, price}
use Rattle.trip_model.specs.declared.limits.TheConstants.{MOST_SLOTS}
use Rattle.pair_search.specs.Arranged.{all_found, bare, by_places, by_slots, found_by, place_in, slot_in}
use Rattle.pair_search.specs.Assignment.{AreWeights, IsMatched, MayBegin}
use Rattle.pair_search.specs.Determined.{found, found_each}
use Rattle.pair_search.specs.Renamed.{AreRenamed}
use Rattle.pair_search.proofs.RenameLemmas.{AreRenamed-matched, AreRenamed-placed, AreWeights-placed, MayBegin-placed, IsMatched-slotted}
use Rattle.pair_search.proofs.RenameLemmas.{Covers-slotted, IsPath-slotted}
use Rattle.planned_laws.specs.Laws.{HasSlots, IsFound}
use Rattle.planned_laws.proofs.EachLemmas.{IsWhole, each-found}
use Rattle.planned_laws.proofs.OrderLemmas.{AreAll, IsRenaming-order}
use Rattle.planned_laws.proofs.SearchLemmas.{found-is}

module _ (order : List ℕ) (w : ℕ → ℕ → Option ℕ) (n : ℕ) (few : n ≤ MOST_SLOTS) (weights : AreWeights w n) (all : AreAll n order) where
  -- a plan by slots is that by places, named anew
  AreRenamed-by_slots : (out : ℕ → Bool) (a b : Option ℕ) (placed : Plan) → HasSlots n placed
      → IsMatched (λ i k. w i (slot_in order k)) out a b placed.next placed.leave placed.enter
      → AreRenamed n (slot_in order) (place_in order) (by_slots order placed).next placed.next (by_slots order placed).enter placed.enter
  AreRenamed-by_slots out a b placed slots matched =
      AreRenamed-matched w n (slot_in order) (place_in order) out a b (by_slots order placed).next placed.next placed.leave
      (by_slots order placed).enter placed.enter weights (IsRenaming-order n order all) matched
      (λ i. get_or-map (option_map (slot_in order)) placed.next i None)
      (λ j lt. get_or-map-range_with_len (λ j. price placed.enter (place_in order j)) 0 (length order) j j 0 (omega (arith, lt, all.long))
      (omega arith))
      (length-map-range_with_len (λ j. price placed.enter (place_in order j)) 0 (length order) ∙ all.long) slots.enter

  HasSlots-by_slots : (placed : Plan) → HasSlots n placed → HasSlots n (by_slots order placed)
  HasSlots-by_slots placed slots = record {
    next = length-map placed.next (option_map (slot_in order)) ∙ slots.next;
    leave = slots.leave;
    enter = length-map-range_with_len (λ j. price placed.enter (place_in order j)) 0 (length order) ∙ all.long;
  }

  -- what searches from all rows find
  pub all-found : (rows : List ℕ) → AreAll n rows → IsWhole w n (λ _. false) (all_found order w rows)
  unfolding all_found
  all-found rows turns =
      let ρ = IsRenaming-order n order all in
      let placed : Plan = found_each (λ i k. w i (slot_in order k)) rows (bare n) in
      let new : Plan = by_slots order placed in
      let whole = each-found (λ i k. w i (slot_in order k)) n rows few (AreWeights-placed w n (slot_in order) (place_in order) weights ρ)
      turns in
      let is = AreRenamed-by_slots (λ _. false) None None placed whole.slots whole.matched in
      subst (λ m. IsWhole w n (λ _. false) (by_slots order (found_each (λ i k. w i (slot_in order k)) rows (bare m)))) (sym all.long)
      (record {
        slots = HasSlots-by_slots placed whole.slots;
        matched =
            IsMatched-slotted w n (slot_in order) (place_in order) (λ _. false) None new.next placed.next placed.leave new.enter
            placed.enter ρ
            is (λ i j e. absurd (none-some j e)) whole.matched;
        covers =
            Covers-slotted w n (slot_in order) (place_in order) (λ _. false) new.next placed.next placed.leave new.enter placed.enter
            weights ρ
            is whole.covers;
      })

  -- what a search from one row finds
  pub found-by : (out : ℕ → Bool) (a : ℕ) (b : Option ℕ) (plan : Plan) → HasSlots n plan
      → MayBegin w n out a b plan.next plan.leave plan.enter → IsFound w n out a b plan (found_by order w a plan)
  unfolding found_by
  found-by out a b plan slots begins =
      let ρ = IsRenaming-order n order all in
      let placed : Plan = by_places order plan in
      let was : AreRenamed n (slot_in order) (place_in order) plan.next placed.next plan.enter placed.enter =
      AreRenamed-placed n (slot_in order) (place_in order) plan.next placed.next plan.enter placed.enter ρ
      (λ i j e. (weights.within i j (price plan.leave i + price plan.enter j) (begins.matched.tight i j e)).1)
      (λ i. get_or-map (option_map (place_in order)) plan.next i None)
      (λ k lt. lists.get_or-map (price plan.enter) order k (length order) 0 (omega (arith, lt, all.long)))
      slots.enter (length-map order (price plan.enter) ∙ all.long) in
      let may = MayBegin-placed w n (slot_in order) (place_in order) out a b plan.next placed.next plan.leave plan.enter placed.enter
      weights ρ
      was begins in
      let now = found-is (λ i k. w i (slot_in order k)) n out a (option_map (place_in order) b) placed few
      (AreWeights-placed w n (slot_in order) (place_in order) weights ρ)
      (record {
        next = length-map plan.next (option_map (place_in order)) ∙ slots.next;
        leave = slots.leave;
        enter = length-map order (price plan.enter) ∙ all.long;
      }) may in
      let found : Plan = found (λ i k. w i (slot_in order k)) a placed in
      let new : Plan = by_slots order found in
      let is = AreRenamed-by_slots out None (option_map (place_in order) b) found now.slots now.matched in
      record {
        slots = HasSlots-by_slots found now.slots;
        matched =
            IsMatched-slotted w n (slot_in order) (place_in order) out b new.next found.next found.leave new.enter found.enter ρ is
            begins.matched.last now.matched;
        covers =
            Covers-slotted w n (slot_in order) (place_in order) out new.next found.next found.leave new.enter found.enter weights ρ is
            now.covers;
        path =
            IsPath-slotted n (slot_in order) (place_in order) plan.next placed.next new.next found.next plan.enter placed.enter new.enter
            found.enter a was is may.matched.once now.path;
      }
