use Rattle.std.proofs.Common.{[], ◌∷◌, arith, subst, sym}
use Rattle.deficit_steps.specs.Changes.{value}
use Rattle.dh_chains.specs.Chains.{following, places_of}
use Rattle.dh_chains.specs.declared.chain.Deadhead.{Deadhead}
use Rattle.dh_chains.specs.Search.{IsFirstChainTo, IsFirstTail, NoTail}
use Rattle.dh_chains.proofs.Branches.{below-absent, below-dead, first-branch, none-below-all}
use Rattle.dh_chains.proofs.Routes.{first-to, none-to}
use Rattle.dh_chains.proofs.search.chain_to.Goals as goal
use Rattle.dh_chains.proofs.search.chain_to.Goals.{in-Some+in_default-after_first, in_default}

pub after_first-requires-clause-in_day : goal.after_first-requires-clause-in_day
after_first-requires-clause-in_day c =
    let next = c.in-Some.ensures.next (value c.args.deficits.now) in
    omega (arith, next.deadhead.leaves, next.on_time, c.max-high.ensures.maximum.within)

pub returns-in-Some-after_first-clause-first : goal.returns-in-Some-after_first-clause-first
returns-in-Some-after_first-clause-first c =
    let places = places_of c.args.deficits.now c.args.matrix.now in
    let chain = c.in-Some-after_first.chain in
    let rest = following chain.second chain.third in
    let next = c.in-Some.ensures.next (value c.args.deficits.now) in
    subst (λ (first : Deadhead). IsFirstChainTo places c.args.target first rest) (sym c.in-Some-after_first.ensures.begins)
    (first-to places c.args.target c.max-high.result.0 c.max-high.result.1 c.in-Some.first rest c.requires.target
    c.max-high.ensures.computed (omega arith)
    (first-branch places 2 (c.args.target ∷ []) c.args.target c.max-high.result.1 c.loop-from.from c.in-Some.first rest
    c.loop-from.invariant c.in-Some.ensures.from
    next (subst (λ k. IsFirstTail places 2 (c.in-Some.first.from ∷ k ∷ []) c.in-Some.first rest) next.into
    c.in-Some-after_first.ensures.first)))

pub loop-from-preserved : goal.loop-from-preserved
loop-from-preserved c =
    let places = places_of c.args.deficits.now c.args.matrix.now in
    elim c.match-next_from.branch [
      | in-Some+in_default-after_first w ↦
          let next = w.in-Some.ensures.next (value c.args.deficits.now) in
          below-dead places 2 (c.args.target ∷ []) c.args.target c.max-high.result.1 c.loop-from.from w.in-Some.first c.loop-from.invariant
          w.in-Some.ensures.from next
          (subst (λ k. NoTail places 2 (w.in-Some.first.from ∷ k ∷ []) w.in-Some.first) next.into w.in_default-after_first.ensures.none)
      | in_default w ↦
          below-absent places 2 (c.args.target ∷ []) c.args.target c.max-high.result.1 c.loop-from.from c.loop-from.invariant
          (w.in_default.ensures.none (value c.args.deficits.now))
    ]

pub returns-clause-none : goal.returns-clause-none
returns-clause-none c =
    let places = places_of c.args.deficits.now c.args.matrix.now in
    none-to places c.args.target c.max-high.result.0 c.max-high.result.1 c.max-high.ensures.computed
    (none-below-all places 2 (c.args.target ∷ []) c.args.target c.max-high.result.1 c.loop-from.from
    (omega (arith, c.requires.places, c.places-from-end.ensures.count)) c.loop-from.invariant)
