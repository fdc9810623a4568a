use Rattle.std.proofs.Common.{◌≤◌, length, subst, sym, arith}
use Rattle.std.specs.Prelude.{pos, negsuc, ◌<ℤ◌}
use Rattle.trip_model.specs.declared.trip.Move.{Move}
use Rattle.deficit_steps.specs.Changes.{change_at}
use Rattle.dh_chains.proofs.Adding.{above-least, below-most}
use Rattle.dh_chains.proofs.add.add_deadhead.Goals as goal

pub add-requires-clause-raised : goal.add-requires-clause-raised
add-requires-clause-raised g c =
    let d = c.args.deficits.now in
    let m = c.args.deadhead in
    let few = c.requires.few in
    let minute : m.leaves ≤ 8191 = omega (arith, c.requires.valid.forward, c.requires.valid.in_day) in
    subst (λ (n : Move). change_at d n.from n.leaves <ℤ pos 65536) (sym c.as_move.ensures)
    (below-most (change_at d m.from m.leaves) (length few.0) few.2
    (c.held_law.ensures.change d few.0 m.from m.leaves few.1 c.requires.valid.from minute))

pub add-requires-clause-lowered : goal.add-requires-clause-lowered
add-requires-clause-lowered g c =
    let d = c.args.deficits.now in
    let m = c.args.deadhead in
    let few = c.requires.few in
    subst (λ (n : Move). negsuc 65535 <ℤ change_at d n.to n.arrives) (sym c.as_move.ensures)
    (above-least (change_at d m.to m.arrives) (length few.0) few.2
    (c.held_law.ensures.change d few.0 m.to m.arrives few.1 c.requires.valid.to c.requires.valid.in_day))
