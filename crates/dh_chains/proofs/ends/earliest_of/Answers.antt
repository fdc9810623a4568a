use Rattle.std.proofs.Common.{arith}
use Rattle.deficit_steps.specs.Changes.{value}
use Rattle.dh_chains.proofs.ends.earliest_of.Goals as goal

pub returns-clause-second : goal.returns-clause-second
returns-clause-second c =
    let matrix = c.args.matrix.now in
    let third = c.set_leaving.ensures matrix 0 c.requires (λ m is. absurd (omega (arith, is.few))) in
    c.set_leaving-2.ensures matrix 1 c.requires (c.arrivals-second.ensures (value c.args.deficits.now) 0 third)

pub returns-clause-first : goal.returns-clause-first
returns-clause-first c =
    let matrix = c.args.matrix.now in
    c.set_leaving-3.ensures matrix 2 c.requires (c.arrivals-first.ensures (value c.args.deficits.now) 1 (returns-clause-second c))
