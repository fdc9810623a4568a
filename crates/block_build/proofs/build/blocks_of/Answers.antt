use Rattle.std.proofs.Common.{◌<◌, length, take, false, refl, sym, ap, subst, ◌∙◌, get_or, arith}
use Rattle.std.specs.Prelude.{All}
use Rattle.std.proofs.lemmas.List.{length-map, take_all, get_or_default}
use Rattle.std.proofs.lemmas.List.Elements.{All-push}
use Rattle.trip_model.specs.Blocking.{IsBlocking}
use Rattle.trip_model.specs.Links.{blocks_along}
use Rattle.trip_model.specs.Order.{by_departure, minute_left}
use Rattle.trip_model.specs.Plain.{timely_network, trip_moves, move_of_slot, move_at}
use Rattle.block_build.proofs.BlocksMade.{blocks-more, blocks-same, blocks_along-filled}
use Rattle.block_build.proofs.build.blocks_of.Goals as goal
use Rattle.block_build.proofs.build.blocks_of.Goals.{then-not-index+in_ok-block_from+in_ok-push, else-not-index}

pub followers-requires : goal.followers-requires
followers-requires c = λ i j e.
    let moves = trip_moves c.args.timetable.now.slots in
    let clock = c.plain_law.ensures.timely (length c.args.timetable.now.places) moves
    (c.plain_law.ensures.moves c.args.timetable.now c.slots.ensures.valid) in
    let within = c.plain_law.ensures.within moves j (clock.runs i j (c.requires.links.fits i j e)).1 in
    omega (arith, within, length-map c.args.timetable.now.slots move_of_slot, c.requires.slots)

pub block_from-requires-clause-within : goal.block_from-requires-clause-within
block_from-requires-clause-within c = λ i j e.
    let moves = trip_moves c.args.timetable.now.slots in
    let clock = c.plain_law.ensures.timely (length c.args.timetable.now.places) moves
    (c.plain_law.ensures.moves c.args.timetable.now c.slots.ensures.valid) in
    let within = c.plain_law.ensures.within moves j (clock.runs i j (c.requires.links.fits i j e)).1 in
    omega (arith, within, length-map c.args.timetable.now.slots move_of_slot, c.requires.slots)

pub loop-slot-preserved : goal.loop-slot-preserved
loop-slot-preserved c =
    let order = c.deref-slot-items.result.now in
    let n = c.loop-slot.slot-index in
    let slot = get_or order n 0 in
    let all = subst (All (λ s. s < length c.args.timetable.now.slots)) (sym c.deref-slot-items.ensures.value)
    c.in_ok-order.ensures.within in
    let within : slot < length c.args.links.now = omega (arith, all n 0 (omega arith), c.requires.slots) in
    let marked : slot < length c.in_ok-follows.follows.items = omega (arith, within, c.in_ok-follows.ensures.count) in
    let mark = c.index.ensures ∙ ap (λ s. get_or c.in_ok-follows.follows.items s c.index.result.now) c.from-in-loop-slot.ensures
    ∙ get_or_default c.in_ok-follows.follows.items slot c.index.result.now false marked ∙ c.in_ok-follows.ensures.marks slot within in
    elim c.if-not-index.branch [
      | then-not-index+in_ok-block_from+in_ok-push w ↦
          let put = ap (λ v. v.items) w.blocks-is ∙ w.in_ok-push.ensures.items in
          record {
            made = blocks-more c.args.links.now order n slot c.index.result.now c.loop-slot.blocks.items _ w.in_ok-block_from.field-0
                (omega arith) refl c.loop-slot.invariant.made mark w.if-not-index.true w.in_ok-block_from.ensures.slots put;
            within = subst (All (All (λ s. s < length c.args.timetable.now.slots))) (sym put)
                (All-push (All (λ s. s < length c.args.timetable.now.slots)) c.loop-slot.blocks.items w.in_ok-block_from.field-0
                c.loop-slot.invariant.within
                (subst (λ m. All (λ s. s < m) w.in_ok-block_from.field-0) c.requires.slots w.in_ok-block_from.ensures.within));
          }
      | else-not-index w ↦
          let same = ap (λ v. v.items) w.blocks-is in
          record {
            made = same ∙ blocks-same c.args.links.now order n slot c.index.result.now c.loop-slot.blocks.items (omega arith) refl
                c.loop-slot.invariant.made mark w.if-not-index.false;
            within = subst (All (All (λ s. s < length c.args.timetable.now.slots))) (sym same) c.loop-slot.invariant.within;
          }
    ]

pub invariant_of-result : goal.invariant_of-result
invariant_of-result c =
    subst (All (λ block. 0 < length block)) (sym c.loop-slot.invariant.made)
    (blocks_along-filled c.args.links.now (take c.loop-slot.slot-index c.deref-slot-items.result.now))

pub returns-clause-blocking : goal.returns-clause-blocking
returns-clause-blocking c =
    let moves = trip_moves c.args.timetable.now.slots in
    let clock = c.plain_law.ensures.timely (length c.args.timetable.now.places) moves
    (c.plain_law.ensures.moves c.args.timetable.now c.slots.ensures.valid) in
    subst (IsBlocking (timely_network moves)) (sym (c.loop-slot.invariant.made
    ∙ ap (λ order. blocks_along c.args.links.now order)
    (take_all c.loop-slot.slot-index c.deref-slot-items.result.now (omega arith) ∙ c.deref-slot-items.ensures.value
    ∙ c.in_ok-order.ensures.order)))
    (c.links_law.ensures.blocking (timely_network moves) (λ s. minute_left (move_at moves s)) c.args.links.now (by_departure moves) clock
    c.requires.links (c.departure_order_law.ensures.stands moves))
