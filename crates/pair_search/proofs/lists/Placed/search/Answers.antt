use Rattle.std.proofs.Common.{◌≡◌, ℕ, ◌+◌, ◌∙◌, List, length, map, Option, None, Some, sym, ap, arith}
use Rattle.std.proofs.Math.Path.{fun_ext}
use Rattle.std.proofs.lemmas.List.{length-replicate}
use Rattle.std.specs.Option.{option_map}
use Rattle.assignment_model.specs.Prices.{price}
use Rattle.pair_search.specs.Arranged.{slots_of}
use Rattle.pair_search.specs.Search.{at}
use Rattle.pair_search.specs.Side.{side_slots, side_slot, side_place, side_weight, place_weight}
use Rattle.pair_search.proofs.ArrangedLemmas.{slots-length}
use Rattle.pair_search.proofs.PlacedLemmas.{slot_in-is, place_in-is, links-renamed, prices-placed, prices-by_slots, found_by-is}
use Rattle.pair_search.proofs.RenameLemmas.{AreRenamed-placed, AreRenamed-slotted, AreWeights-placed, MayBegin-placed, IsMatched-slotted}
use Rattle.pair_search.proofs.RenameLemmas.{Covers-slotted, IsPath-slotted}
use Rattle.pair_search.proofs.ShiftLemmas.{AreNextTrips-matched}
use Rattle.pair_search.proofs.lists.Placed.search.Goals as goal

pub link_places-requires-clause-within : goal.link_places-requires-clause-within
link_places-requires-clause-within g c = λ i j e.
    (c.requires.sound.within i j (price c.args.leave.now i + price c.args.enter.now j) (c.requires.begins.2.matched.tight i j e)).1

pub invert-requires-clause-links : goal.invert-requires-clause-links
invert-requires-clause-links g c =
    let side = c.args.side.now in
    let was =
    AreRenamed-placed (side_slots side) (side_slot side) (side_place side) c.args.next.now c.link_places.new.placed c.args.enter.now
    c.price_places.new.entering c.slots.ensures.renaming
    (λ i j e. (c.requires.sound.within i j (price c.args.leave.now i + price c.args.enter.now j)
    (c.requires.begins.2.matched.tight i j e)).1) c.link_places.ensures c.price_places.ensures.prices c.requires.enter
    c.price_places.ensures.length in
    let begins =
    MayBegin-placed (side_weight side) (side_slots side) (side_slot side) (side_place side) c.requires.begins.0 c.args.a
    c.requires.begins.1 c.args.next.now c.link_places.new.placed c.args.leave.now c.args.enter.now
    c.price_places.new.entering c.requires.sound c.slots.ensures.renaming was c.requires.begins.2 in
    AreNextTrips-matched (place_weight side) (side_slots side) c.requires.begins.0 (Some c.args.a)
    (option_map (side_place side) c.requires.begins.1) c.link_places.new.placed c.args.leave.now c.price_places.new.entering
    (AreWeights-placed (side_weight side) (side_slots side) (side_slot side) (side_place side) c.requires.sound c.slots.ensures.renaming)
    (omega (
      arith,
      c.link_places.auto.placed,
      ap length c.as_mut_slice-placed.ensures.value,
      ap length c.set_slots.ensures.links,
      length-replicate {A = Option ℕ} c.slots.result None,
      c.slots.ensures.count,
    )) begins.matched

pub search-requires-clause-sound : goal.search-requires-clause-sound
search-requires-clause-sound g c =
    let side = c.args.side.now in
    AreWeights-placed (side_weight side) (side_slots side) (side_slot side) (side_place side) c.requires.sound c.slots.ensures.renaming

pub search-requires-clause-begins : goal.search-requires-clause-begins
search-requires-clause-begins g c =
    let side = c.args.side.now in
    let was =
    AreRenamed-placed (side_slots side) (side_slot side) (side_place side) c.args.next.now c.link_places.new.placed c.args.enter.now
    c.price_places.new.entering c.slots.ensures.renaming
    (λ i j e. (c.requires.sound.within i j (price c.args.leave.now i + price c.args.enter.now j)
    (c.requires.begins.2.matched.tight i j e)).1) c.link_places.ensures c.price_places.ensures.prices c.requires.enter
    c.price_places.ensures.length in (
      c.requires.begins.0,
      option_map (side_place side) c.requires.begins.1,
      MayBegin-placed (side_weight side) (side_slots side) (side_slot side) (side_place side) c.requires.begins.0 c.args.a
          c.requires.begins.1 c.args.next.now c.link_places.new.placed c.args.leave.now c.args.enter.now
          c.price_places.new.entering c.requires.sound c.slots.ensures.renaming was c.requires.begins.2,
    )

pub link_columns-requires-clause-within : goal.link_columns-requires-clause-within
link_columns-requires-clause-within g c = λ i k e.
    let side = c.args.side.now in
    let was =
    AreRenamed-placed (side_slots side) (side_slot side) (side_place side) c.args.next.now c.link_places.new.placed c.args.enter.now
    c.price_places.new.entering c.slots.ensures.renaming
    (λ i j e. (c.requires.sound.within i j (price c.args.leave.now i + price c.args.enter.now j)
    (c.requires.begins.2.matched.tight i j e)).1) c.link_places.ensures c.price_places.ensures.prices c.requires.enter
    c.price_places.ensures.length in
    let begins =
    MayBegin-placed (side_weight side) (side_slots side) (side_slot side) (side_place side) c.requires.begins.0 c.args.a
    c.requires.begins.1 c.args.next.now c.link_places.new.placed c.args.leave.now c.args.enter.now
    c.price_places.new.entering c.requires.sound c.slots.ensures.renaming was c.requires.begins.2 in
    let matched = c.search.ensures.matched c.requires.begins.0 (option_map (side_place side) c.requires.begins.1) begins in
    ((AreWeights-placed (side_weight side) (side_slots side) (side_slot side) (side_place side) c.requires.sound
    c.slots.ensures.renaming).within i k (price c.search.new.leave i + price c.search.new.enter k)
    (matched.tight i k e)).1

pub returns-clause-path : goal.returns-clause-path
returns-clause-path g c =
    let side = c.args.side.now in
    let was =
    AreRenamed-placed (side_slots side) (side_slot side) (side_place side) c.args.next.now c.link_places.new.placed c.args.enter.now
    c.price_places.new.entering c.slots.ensures.renaming
    (λ i j e. (c.requires.sound.within i j (price c.args.leave.now i + price c.args.enter.now j)
    (c.requires.begins.2.matched.tight i j e)).1) c.link_places.ensures c.price_places.ensures.prices c.requires.enter
    c.price_places.ensures.length in
    let begins =
    MayBegin-placed (side_weight side) (side_slots side) (side_slot side) (side_place side) c.requires.begins.0 c.args.a
    c.requires.begins.1 c.args.next.now c.link_places.new.placed c.args.leave.now c.args.enter.now
    c.price_places.new.entering c.requires.sound c.slots.ensures.renaming was c.requires.begins.2 in
    let matched = c.search.ensures.matched c.requires.begins.0 (option_map (side_place side) c.requires.begins.1) begins in
    let is =
    AreRenamed-slotted (side_slots side) (side_slot side) (side_place side) c.link_columns.new.next c.search.new.next
    c.price_columns.new.enter c.search.new.enter c.slots.ensures.renaming
    (λ i k e. ((AreWeights-placed (side_weight side) (side_slots side) (side_slot side) (side_place side) c.requires.sound
    c.slots.ensures.renaming).within i k
    (price c.search.new.leave i + price c.search.new.enter k) (matched.tight i k e)).1) c.link_columns.ensures
    c.price_columns.ensures.prices c.price_columns.ensures.length
    (omega (arith, c.search.auto.enter, c.price_places.ensures.length)) in
    IsPath-slotted (side_slots side) (side_slot side) (side_place side) c.args.next.now c.link_places.new.placed c.link_columns.new.next
    c.search.new.next c.args.enter.now c.price_places.new.entering
    c.price_columns.new.enter c.search.new.enter c.args.a was is begins.matched.once c.search.ensures.path

pub returns-clause-matched : goal.returns-clause-matched
returns-clause-matched g c = λ out b may.
    let side = c.args.side.now in
    let was =
    AreRenamed-placed (side_slots side) (side_slot side) (side_place side) c.args.next.now c.link_places.new.placed c.args.enter.now
    c.price_places.new.entering c.slots.ensures.renaming
    (λ i j e. (c.requires.sound.within i j (price c.args.leave.now i + price c.args.enter.now j)
    (c.requires.begins.2.matched.tight i j e)).1) c.link_places.ensures c.price_places.ensures.prices c.requires.enter
    c.price_places.ensures.length in
    let begins =
    MayBegin-placed (side_weight side) (side_slots side) (side_slot side) (side_place side) out c.args.a b c.args.next.now
    c.link_places.new.placed c.args.leave.now c.args.enter.now
    c.price_places.new.entering c.requires.sound c.slots.ensures.renaming was may in
    let matched = c.search.ensures.matched out (option_map (side_place side) b) begins in
    let is =
    AreRenamed-slotted (side_slots side) (side_slot side) (side_place side) c.link_columns.new.next c.search.new.next
    c.price_columns.new.enter c.search.new.enter c.slots.ensures.renaming
    (λ i k e. ((AreWeights-placed (side_weight side) (side_slots side) (side_slot side) (side_place side) c.requires.sound
    c.slots.ensures.renaming).within i k
    (price c.search.new.leave i + price c.search.new.enter k) (matched.tight i k e)).1) c.link_columns.ensures
    c.price_columns.ensures.prices c.price_columns.ensures.length
    (omega (arith, c.search.auto.enter, c.price_places.ensures.length)) in
    IsMatched-slotted (side_weight side) (side_slots side) (side_slot side) (side_place side) out b c.link_columns.new.next
    c.search.new.next c.search.new.leave c.price_columns.new.enter c.search.new.enter
    c.slots.ensures.renaming is may.matched.last matched

pub returns-clause-covers : goal.returns-clause-covers
returns-clause-covers g c = λ out b may.
    let side = c.args.side.now in
    let was =
    AreRenamed-placed (side_slots side) (side_slot side) (side_place side) c.args.next.now c.link_places.new.placed c.args.enter.now
    c.price_places.new.entering c.slots.ensures.renaming
    (λ i j e. (c.requires.sound.within i j (price c.args.leave.now i + price c.args.enter.now j)
    (c.requires.begins.2.matched.tight i j e)).1) c.link_places.ensures c.price_places.ensures.prices c.requires.enter
    c.price_places.ensures.length in
    let begins =
    MayBegin-placed (side_weight side) (side_slots side) (side_slot side) (side_place side) out c.args.a b c.args.next.now
    c.link_places.new.placed c.args.leave.now c.args.enter.now
    c.price_places.new.entering c.requires.sound c.slots.ensures.renaming was may in
    let matched = c.search.ensures.matched out (option_map (side_place side) b) begins in
    let is =
    AreRenamed-slotted (side_slots side) (side_slot side) (side_place side) c.link_columns.new.next c.search.new.next
    c.price_columns.new.enter c.search.new.enter c.slots.ensures.renaming
    (λ i k e. ((AreWeights-placed (side_weight side) (side_slots side) (side_slot side) (side_place side) c.requires.sound
    c.slots.ensures.renaming).within i k
    (price c.search.new.leave i + price c.search.new.enter k) (matched.tight i k e)).1) c.link_columns.ensures
    c.price_columns.ensures.prices c.price_columns.ensures.length
    (omega (arith, c.search.auto.enter, c.price_places.ensures.length)) in
    Covers-slotted (side_weight side) (side_slots side) (side_slot side) (side_place side) out c.link_columns.new.next c.search.new.next
    c.search.new.leave c.price_columns.new.enter c.search.new.enter
    c.requires.sound c.slots.ensures.renaming is (c.search.ensures.covers out (option_map (side_place side) b) begins)

pub returns-clause-plan : goal.returns-clause-plan
returns-clause-plan g c =
    let side = c.args.side.now in
    let n = side_slots side in
    let order : List ℕ = slots_of side.columns in
    let lengths = c.slots.ensures.lengths in
    let slot = slot_in-is n side.columns side.places lengths.0 lengths.1 c.slots.ensures.renaming in
    let place = place_in-is n side.columns side.places lengths.0 lengths.1 c.slots.ensures.renaming in
    let room : length c.link_places.new.placed ≡ n =
    omega (
      arith,
      c.link_places.auto.placed,
      ap length c.as_mut_slice-placed.ensures.value,
      ap length c.set_slots.ensures.links,
      length-replicate {A = Option ℕ} c.slots.result None,
      c.slots.ensures.count,
    ) in
    let long : length order ≡ n = slots-length side.columns ∙ lengths.0 in
    found_by-is order (side_weight side) (place_weight side) c.args.a
    (record { next = c.args.next.now; leave = c.args.leave.now; enter = c.args.enter.now })
    c.link_places.new.placed c.price_places.new.entering c.search.new.next c.search.new.leave c.search.new.enter c.link_columns.new.next
    c.price_columns.new.enter
    (λ i k. ap (side_weight side i) (sym (slot k)))
    (links-renamed (side_place side) c.args.next.now c.link_places.new.placed (omega (arith, room, c.requires.next)) c.link_places.ensures
    ∙ ap (λ (f : ℕ → ℕ). map (option_map f) c.args.next.now) (fun_ext (λ j. sym (place j))))
    (prices-placed order c.args.enter.now c.price_places.new.entering (c.price_places.ensures.length ∙ sym long)
    (λ k lt. c.price_places.ensures.prices k (omega (arith, lt, long)) ∙ ap (at c.args.enter.now) (sym (slot k))))
    c.search.ensures.plan
    (links-renamed (side_slot side) c.search.new.next c.link_columns.new.next
    (omega (arith, room, c.link_columns.auto.next, c.search.auto.next, c.requires.next)) c.link_columns.ensures
    ∙ ap (λ (f : ℕ → ℕ). map (option_map f) c.search.new.next) (fun_ext (λ k. sym (slot k))))
    (prices-by_slots order c.search.new.enter c.price_columns.new.enter (c.price_columns.ensures.length ∙ sym long)
    (λ j lt. c.price_columns.ensures.prices j (omega (arith, lt, long)) ∙ ap (at c.search.new.enter) (sym (place j))))
