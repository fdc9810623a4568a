use Rattle.std.proofs.Common.{◌<◌, ◌-◌, get_or, length, sym, subst}
use Rattle.std.specs.List.{All}
use Rattle.std.specs.Prelude.{IfSome}
use Rattle.trip_model.specs.Plain.{IsMove}
use Rattle.joined_deficits.specs.declared.legs.Leg.{Leg}
use Rattle.joined_deficits.proofs.LegLemmas.{block-all, legs-end, legs-move, legs-within, slot-moves}
use Rattle.joined_deficits.proofs.legs.legs_of.Goals as goal

pub returns-clause-slots : goal.returns-clause-slots
returns-clause-slots c =
    let t = c.args.timetable.now in
    let P = λ (leg : Leg). IfSome leg.slot (λ s. s < length t.slots) in
    let legs = legs-end t c.args.matrix.now (get_or c.args.block.now (c.loop-n.n - 1) 0) c.loop-n.n c.args.block.now c.loop-n.legs.items
    c.loop-n-test.false c.loop-n.invariant.legs in
    subst (All P) (sym legs) (block-all t c.args.matrix.now P (legs-within t c.args.matrix.now) c.args.block.now c.requires.slots
    c.requires.block)

pub returns-clause-moves : goal.returns-clause-moves
returns-clause-moves c =
    let t = c.args.timetable.now in
    let P = λ (leg : Leg). IsMove (length t.places) leg.way in
    let legs = legs-end t c.args.matrix.now (get_or c.args.block.now (c.loop-n.n - 1) 0) c.loop-n.n c.args.block.now c.loop-n.legs.items
    c.loop-n-test.false c.loop-n.invariant.legs in
    let valid = c.slots-slots.ensures.valid in
    subst (All P) (sym legs)
    (block-all t c.args.matrix.now P (legs-move t c.args.matrix.now valid) c.args.block.now
    (λ k d h. slot-moves t (get_or c.args.block.now k d) valid (c.requires.slots k d h)) c.requires.block)
