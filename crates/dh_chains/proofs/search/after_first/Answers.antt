use Rattle.std.proofs.Common.{[], ◌∷◌, subst, sym}
use Rattle.dh_chains.specs.Chains.{places_of}
use Rattle.dh_chains.specs.Search.{IsFirstTail, listed}
use Rattle.dh_chains.proofs.Branches.{first-onward, following-some, if-none, none-onward}
use Rattle.dh_chains.proofs.search.after_first.Goals as goal

pub returns-in_err-second-clause-none : goal.returns-in_err-second-clause-none
returns-in_err-second-clause-none c =
    if-none _ c.from_residual.result
    (none-onward (places_of c.args.deficits.now c.args.matrix.now) 1 (c.args.first.from ∷ c.args.first.to ∷ []) c.args.first
    c.in-Some.minute c.in-Some.ensures.found c.in_err-second.ensures.none)

pub returns-clause-first : goal.returns-clause-first
returns-clause-first c =
    let places = places_of c.args.deficits.now c.args.matrix.now in
    let had = c.args.first.from ∷ c.args.first.to ∷ [] in
    subst (IsFirstTail places 2 had c.args.first) (sym (following-some c.in_ok-second.second c.in_ok-second.third))
    (first-onward places 1 had c.args.first c.in-Some.minute c.in_ok-second.second (listed c.in_ok-second.third) c.in-Some.ensures.found
    c.in_ok-second.ensures.first)
