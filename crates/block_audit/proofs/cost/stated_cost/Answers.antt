use Rattle.std.proofs.Common.{◌<◌, ℕ, List, [], get_or, length, sym, ap, subst, ◌∙◌, arith}
use Rattle.std.proofs.lemmas.List.{length-map}
use Rattle.trip_model.specs.Blocking.{IsBlock, block_minutes}
use Rattle.trip_model.specs.Plain.{trip_moves, move_of_slot}
use Rattle.trip_model.specs.Timetable.{slot_at, slot_names}
use Rattle.trip_model.proofs.OrderLemmas.{slot-live}
use Rattle.deadhead_matrix.specs.Fitting.{network_of}
use Rattle.block_build.proofs.CostLemmas.{block-live, block-made, minutes-few, minutes-from}
use Rattle.block_audit.specs.Stated.{NamedBlock, slots_by}
use Rattle.block_audit.proofs.StepsLemmas.{slots-at}
use Rattle.block_audit.proofs.cost.stated_cost.Goals as goal

pub block_minutes-minutes-requires-clause-block : goal.block_minutes-minutes-requires-clause-block
block_minutes-minutes-requires-clause-block c =
    let network = network_of c.args.timetable.now c.args.matrix.now in
    let stated = c.args.stated.now in
    let count = length-map stated (λ (b : NamedBlock). b.slots) in
    subst (IsBlock network) (sym (c.block.ensures ∙ slots-at stated c.loop-b.b))
    (block-made network (slots_by stated) c.requires.blocking.each c.loop-b.b
    (omega (arith, count, c.loop-b-test.true, c.len-b-end.ensures.count)))

pub block_minutes-minutes-requires-clause-live : goal.block_minutes-minutes-requires-clause-live
block_minutes-minutes-requires-clause-live c = λ k d h.
    let t = c.args.timetable.now in
    let network = network_of t c.args.matrix.now in
    let blocks = slots_by c.args.stated.now in
    let here = c.block.ensures ∙ slots-at c.args.stated.now c.loop-b.b in
    let block = ap (λ (xs : List ℕ). get_or xs k d) here in
    let within : k < length (get_or blocks c.loop-b.b []) = omega (arith, h, ap (λ (xs : List ℕ). length xs) here) in
    ap (λ s. (slot_at t s).trip.live) block
    ∙ sym (slot-live t (get_or (get_or blocks c.loop-b.b []) k d))
    ∙ block-live network blocks c.requires.blocking c.loop-b.b k d within

pub block_minutes-minutes-requires-clause-few : goal.block_minutes-minutes-requires-clause-few
block_minutes-minutes-requires-clause-few c =
    let t = c.args.timetable.now in
    let moves = trip_moves t.slots in
    let network = network_of t c.args.matrix.now in
    let blocks = slots_by c.args.stated.now in
    let count = length-map c.args.stated.now (λ (b : NamedBlock). b.slots) in
    let day = c.deadhead_law.ensures.day (length t.places) (slot_names t) moves c.args.matrix.now
    (c.plain_law.ensures.moves t c.slots-slots.ensures.valid) c.places-places.ensures.valid
    (omega (arith, length-map t.slots move_of_slot, c.slots-slots.ensures.valid.slots)) in
    omega (
      arith,
      minutes-few network (length moves) day blocks c.requires.blocking,
      minutes-from network blocks c.loop-b.b (omega (arith, count, c.loop-b-test.true, c.len-b-end.ensures.count)),
      c.loop-b.invariant,
      ap (block_minutes network) (c.block.ensures ∙ slots-at c.args.stated.now c.loop-b.b),
    )

pub overflow_add-minutes : goal.overflow_add-minutes
overflow_add-minutes c =
    let t = c.args.timetable.now in
    let moves = trip_moves t.slots in
    let network = network_of t c.args.matrix.now in
    let blocks = slots_by c.args.stated.now in
    let count = length-map c.args.stated.now (λ (b : NamedBlock). b.slots) in
    let day = c.deadhead_law.ensures.day (length t.places) (slot_names t) moves c.args.matrix.now
    (c.plain_law.ensures.moves t c.slots-slots.ensures.valid) c.places-places.ensures.valid
    (omega (arith, length-map t.slots move_of_slot, c.slots-slots.ensures.valid.slots)) in
    omega (
      arith,
      minutes-few network (length moves) day blocks c.requires.blocking,
      minutes-from network blocks c.loop-b.b (omega (arith, count, c.loop-b-test.true, c.len-b-end.ensures.count)),
      c.loop-b.invariant,
      c.block_minutes-minutes.ensures,
      ap (block_minutes network) (c.block.ensures ∙ slots-at c.args.stated.now c.loop-b.b),
    )

pub loop-b-preserved : goal.loop-b-preserved
loop-b-preserved c =
    let network = network_of c.args.timetable.now c.args.matrix.now in
    let blocks = slots_by c.args.stated.now in
    let count = length-map c.args.stated.now (λ (b : NamedBlock). b.slots) in
    omega (
      arith,
      minutes-from network blocks c.loop-b.b (omega (arith, count, c.loop-b-test.true, c.len-b-end.ensures.count)),
      c.loop-b.invariant,
      c.block_minutes-minutes.ensures,
      ap (block_minutes network) (c.block.ensures ∙ slots-at c.args.stated.now c.loop-b.b),
    )
