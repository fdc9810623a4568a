use Rattle.std.proofs.Common.{◌<◌, ℕ, List, [], get_or, length, sym, ap, ◌∙◌, arith}
use Rattle.std.proofs.lemmas.List.{length-map}
use Rattle.deadhead_matrix.specs.Fitting.{network_of}
use Rattle.trip_model.specs.Blocking.{block_minutes}
use Rattle.trip_model.specs.Plain.{trip_moves, move_of_slot}
use Rattle.trip_model.specs.Timetable.{slot_at, slot_names}
use Rattle.trip_model.proofs.OrderLemmas.{slot-live}
use Rattle.block_build.proofs.CostLemmas.{block-live, minutes-few, minutes-from}
use Rattle.block_build.proofs.cost.empty_minutes.Goals as goal

pub block_minutes-minutes-requires-clause-live : goal.block_minutes-minutes-requires-clause-live
block_minutes-minutes-requires-clause-live c = λ k d h.
    let t = c.args.timetable.now in
    let network = network_of t c.args.matrix.now in
    let block = ap (λ (xs : List ℕ). get_or xs k d) c.block.ensures in
    let within : k < length (get_or c.args.blocks.now c.loop-number.number []) = omega (arith, h, ap length c.block.ensures) in
    ap (λ s. (slot_at t s).trip.live) block
    ∙ sym (slot-live t (get_or (get_or c.args.blocks.now c.loop-number.number []) k d))
    ∙ block-live network c.args.blocks.now c.requires.blocking c.loop-number.number k d within

pub block_minutes-minutes-requires-clause-few : goal.block_minutes-minutes-requires-clause-few
block_minutes-minutes-requires-clause-few c =
    let t = c.args.timetable.now in
    let moves = trip_moves t.slots in
    let network = network_of t c.args.matrix.now in
    let n = c.loop-number.number in
    let day = c.deadhead_law.ensures.day (length t.places) (slot_names t) moves c.args.matrix.now
    (c.plain_law.ensures.moves t c.slots-slots.ensures.valid) c.places-places.ensures.valid
    (omega (arith, length-map t.slots move_of_slot, c.slots-slots.ensures.valid.slots)) in
    omega (
      arith,
      minutes-few network (length moves) day c.args.blocks.now c.requires.blocking,
      minutes-from network c.args.blocks.now n
          (omega (arith, c.len-number-end.ensures.count)),
      c.loop-number.invariant,
      ap (block_minutes network) c.block.ensures,
    )

pub overflow_add-minutes : goal.overflow_add-minutes
overflow_add-minutes c =
    let t = c.args.timetable.now in
    let moves = trip_moves t.slots in
    let network = network_of t c.args.matrix.now in
    let n = c.loop-number.number in
    let day = c.deadhead_law.ensures.day (length t.places) (slot_names t) moves c.args.matrix.now
    (c.plain_law.ensures.moves t c.slots-slots.ensures.valid) c.places-places.ensures.valid
    (omega (arith, length-map t.slots move_of_slot, c.slots-slots.ensures.valid.slots)) in
    omega (
      arith,
      minutes-few network (length moves) day c.args.blocks.now c.requires.blocking,
      minutes-from network c.args.blocks.now n (omega (arith, c.len-number-end.ensures.count)),
      c.loop-number.invariant,
      c.block_minutes-minutes.ensures,
      ap (block_minutes network) c.block.ensures,
    )
