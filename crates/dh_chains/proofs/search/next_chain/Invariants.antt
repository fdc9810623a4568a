use Rattle.std.proofs.Common.{◌<◌, List}
use Rattle.dh_chains.specs.declared.chain.Deadhead.{Deadhead}
use Rattle.dh_chains.specs.Chains.{IsUnitChain, places_of}
use Rattle.dh_chains.proofs.search.next_chain.Given as goal

abbrev pub invariant-loop-target : goal.invariant-loop-target
invariant-loop-target l = (first : Deadhead) (rest : List Deadhead) → first.to < l.target
    → IsUnitChain (places_of l.deficits l.matrix) first rest → ⊥
