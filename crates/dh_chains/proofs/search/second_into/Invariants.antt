use Rattle.std.proofs.Common.{[], ◌∷◌}
use Rattle.dh_chains.specs.Chains.{places_of}
use Rattle.dh_chains.specs.Search.{NoBranchBelow}
use Rattle.dh_chains.proofs.search.second_into.Given as goal

abbrev pub invariant-loop-from : goal.invariant-loop-from
invariant-loop-from l = NoBranchBelow (places_of l.deficits l.matrix) 1 (l.first.from ∷ l.first.to ∷ []) l.first.from l.arrives l.from
