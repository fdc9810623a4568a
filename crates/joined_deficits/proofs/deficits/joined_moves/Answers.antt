use Rattle.std.proofs.Common.{length, sym, ap, subst, arith}
use Rattle.std.specs.List.{All}
use Rattle.trip_model.specs.Plain.{IsMove}
use Rattle.joined_deficits.proofs.LegLemmas.{joined-all}
use Rattle.joined_deficits.proofs.deficits.joined_moves.Goals as goal

pub returns-clause-moves : goal.returns-clause-moves
returns-clause-moves c =
    let named = c.args.named.now in
    joined-all named.timetable.now named.matrix.now named.blocks.now c.loop-number.number c.loop-number.moves.items
    (omega (arith, c.len-number-end.ensures.count)) c.loop-number.invariant

pub returns-clause-valid : goal.returns-clause-valid
returns-clause-valid c =
    let named = c.args.named.now in
    subst (All (IsMove (length named.timetable.now.places))) (sym (returns-clause-moves c))
    (c.moves_law.ensures.valid named.timetable.now named.matrix.now named.blocks.now c.slots-slots.ensures.valid c.requires)

pub returns-clause-few : goal.returns-clause-few
returns-clause-few c =
    let named = c.args.named.now in
    omega (
      arith,
      ap length (returns-clause-moves c),
      c.moves_law.ensures.few named.timetable.now named.matrix.now named.blocks.now c.slots-slots.ensures.valid c.requires,
    )
