use Rattle.std.proofs.Common.{[], ◌∷◌}
use Rattle.dh_chains.specs.Chains.{places_of}
use Rattle.dh_chains.specs.Search.{NoBranchBelow}
use Rattle.dh_chains.proofs.search.chain_to.Given as goal

abbrev pub invariant-loop-from : goal.invariant-loop-from
invariant-loop-from l = NoBranchBelow (places_of l.deficits l.matrix) 2 (l.target ∷ []) l.target l.minute l.from
