use Rattle.std.proofs.Common.{◌≡◌, ℕ, ◌∙◌, false, List, length, map, Option, None, sym, ap, subst, arith}
use Rattle.std.specs.Option.{option_map}
use Rattle.std.proofs.Math.Path.{fun_ext}
use Rattle.std.proofs.lemmas.List.{length-replicate}
use Rattle.std.proofs.lemmas.Option.{none-some}
use Rattle.pair_search.specs.Arranged.{slots_of, bare}
use Rattle.pair_search.specs.Assignment.{AreWeights}
use Rattle.pair_search.specs.Determined.{found_each}
use Rattle.pair_search.specs.Search.{at}
use Rattle.pair_search.specs.Side.{side_slots, side_slot, side_place, side_weight, place_weight}
use Rattle.pair_search.proofs.ArrangedLemmas.{slots-length}
use Rattle.pair_search.proofs.PlacedLemmas.{slot_in-is, place_in-is, links-renamed, prices-by_slots, all_found-is}
use Rattle.pair_search.proofs.RenameLemmas.{AreRenamed-matched, AreWeights-placed, IsMatched-slotted, Covers-slotted, within-placed}
use Rattle.pair_search.proofs.lists.Placed.link_all.Goals as goal

pub link_rows-requires-clause-sound : goal.link_rows-requires-clause-sound
link_rows-requires-clause-sound g c =
    let side = c.args.side.now in
    let at = c.slots.ensures in
    AreWeights-placed (side_weight side) (side_slots side) (side_slot side) (side_place side)
    (subst (AreWeights (side_weight side)) at.count at.sound) at.renaming

pub link_columns-requires-clause-within : goal.link_columns-requires-clause-within
link_columns-requires-clause-within g c =
    let side = c.args.side.now in
    let at = c.slots.ensures in
    within-placed (side_weight side) (side_slots side) (side_slot side) (side_place side) (λ _. false) None None c.link_rows.new.next
    c.link_rows.new.leave c.link_rows.new.enter
    (subst (AreWeights (side_weight side)) at.count at.sound) at.renaming c.link_rows.ensures.matched

pub returns-clause-matched : goal.returns-clause-matched
returns-clause-matched g c =
    let side = c.args.side.now in
    let at = c.slots.ensures in
    let n = side_slots side in
    let entering : length c.link_rows.new.enter ≡ n =
    omega (
      arith,
      c.link_rows.auto.enter,
      ap length c.as_mut_slice-entering.ensures.value,
      ap length c.set_slots.ensures.enter,
      length-replicate {A = ℕ} c.slots.result 0,
      at.count,
    ) in
    IsMatched-slotted (side_weight side) n (side_slot side) (side_place side) (λ _. false) None c.link_columns.new.next
    c.link_rows.new.next c.link_rows.new.leave c.price_columns.new.enter c.link_rows.new.enter at.renaming
    (AreRenamed-matched (side_weight side) n (side_slot side) (side_place side) (λ _. false) None None c.link_columns.new.next
    c.link_rows.new.next c.link_rows.new.leave c.price_columns.new.enter c.link_rows.new.enter
    (subst (AreWeights (side_weight side)) at.count at.sound) at.renaming c.link_rows.ensures.matched c.link_columns.ensures
    c.price_columns.ensures.prices c.price_columns.ensures.length entering)
    (λ i j e. absurd (none-some j e)) c.link_rows.ensures.matched

pub returns-clause-covers : goal.returns-clause-covers
returns-clause-covers g c =
    let side = c.args.side.now in
    let at = c.slots.ensures in
    let n = side_slots side in
    let entering : length c.link_rows.new.enter ≡ n =
    omega (
      arith,
      c.link_rows.auto.enter,
      ap length c.as_mut_slice-entering.ensures.value,
      ap length c.set_slots.ensures.enter,
      length-replicate {A = ℕ} c.slots.result 0,
      at.count,
    ) in
    Covers-slotted (side_weight side) n (side_slot side) (side_place side) (λ _. false) c.link_columns.new.next c.link_rows.new.next
    c.link_rows.new.leave c.price_columns.new.enter c.link_rows.new.enter
    (subst (AreWeights (side_weight side)) at.count at.sound) at.renaming
    (AreRenamed-matched (side_weight side) n (side_slot side) (side_place side) (λ _. false) None None c.link_columns.new.next
    c.link_rows.new.next c.link_rows.new.leave c.price_columns.new.enter c.link_rows.new.enter
    (subst (AreWeights (side_weight side)) at.count at.sound) at.renaming c.link_rows.ensures.matched c.link_columns.ensures
    c.price_columns.ensures.prices c.price_columns.ensures.length entering)
    c.link_rows.ensures.covers

pub returns-clause-plan : goal.returns-clause-plan
returns-clause-plan g c =
    let side = c.args.side.now in
    let n = side_slots side in
    let order : List ℕ = slots_of side.columns in
    let rows : List ℕ = slots_of c.args.departures.now in
    let lengths = c.slots.ensures.lengths in
    let slot = slot_in-is n side.columns side.places lengths.0 lengths.1 c.slots.ensures.renaming in
    let place = place_in-is n side.columns side.places lengths.0 lengths.1 c.slots.ensures.renaming in
    let room : length c.link_rows.new.next ≡ n =
    omega (
      arith,
      c.link_rows.auto.next,
      ap length c.as_mut_slice-placed.ensures.value,
      ap length c.set_slots.ensures.links,
      length-replicate {A = Option ℕ} c.slots.result None,
      c.slots.ensures.count,
    ) in
    let long : length order ≡ n = slots-length side.columns ∙ lengths.0 in
    all_found-is order (side_weight side) (place_weight side) rows c.link_rows.new.next c.link_rows.new.leave c.link_rows.new.enter
    c.link_columns.new.next c.price_columns.new.enter
    (λ i k. ap (side_weight side i) (sym (slot k)))
    (c.link_rows.ensures.plan ∙ ap (λ m. found_each (place_weight side) rows (bare m)) (sym long))
    (links-renamed (side_slot side) c.link_rows.new.next c.link_columns.new.next
    (omega (arith, room, c.link_columns.auto.next, c.requires.next)) c.link_columns.ensures
    ∙ ap (λ (f : ℕ → ℕ). map (option_map f) c.link_rows.new.next) (fun_ext (λ k. sym (slot k))))
    (prices-by_slots order c.link_rows.new.enter c.price_columns.new.enter (c.price_columns.ensures.length ∙ sym long)
    (λ j lt. c.price_columns.ensures.prices j (omega (arith, lt, long)) ∙ ap (at c.link_rows.new.enter) (sym (place j))))
