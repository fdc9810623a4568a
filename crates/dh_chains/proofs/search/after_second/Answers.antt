use Rattle.std.proofs.Common.{[], ◌∷◌}
use Rattle.dh_chains.specs.Chains.{places_of}
use Rattle.dh_chains.proofs.Branches.{first-onward, if-none, none-onward}
use Rattle.dh_chains.proofs.search.after_second.Goals as goal

pub returns-in_err-third-clause-none : goal.returns-in_err-third-clause-none
returns-in_err-third-clause-none c =
    if-none _ c.from_residual.result
    (none-onward (places_of c.args.deficits.now c.args.matrix.now) 0 (c.args.second.from ∷ c.args.first.from ∷ c.args.first.to ∷ [])
    c.args.second c.in-Some.minute c.in-Some.ensures.found c.in_err-third.ensures.none)

pub returns-clause-first : goal.returns-clause-first
returns-clause-first c =
    first-onward (places_of c.args.deficits.now c.args.matrix.now) 0 (c.args.second.from ∷ c.args.first.from ∷ c.args.first.to ∷ [])
    c.args.second c.in-Some.minute c.in_ok-third.third []
    c.in-Some.ensures.found c.in_ok-third.ensures.first
