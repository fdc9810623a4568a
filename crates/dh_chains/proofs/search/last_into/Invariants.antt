use Rattle.dh_chains.specs.Chains.{places_of}
use Rattle.dh_chains.specs.Search.{NoBranchBelow}
use Rattle.dh_chains.proofs.search.last_into.Given as goal

abbrev pub invariant-loop-from : goal.invariant-loop-from
invariant-loop-from l = NoBranchBelow (places_of l.deficits l.matrix) 0 l.had l.to l.arrives l.from
