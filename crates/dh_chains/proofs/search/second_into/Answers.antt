use Rattle.std.proofs.Common.{[], ◌∷◌, arith}
use Rattle.deficit_steps.specs.Changes.{value}
use Rattle.dh_chains.specs.Chains.{places_of}
use Rattle.dh_chains.specs.Search.{listed}
use Rattle.dh_chains.proofs.Branches.{below-absent, below-dead, first-branch}
use Rattle.dh_chains.proofs.search.second_into.Goals as goal
use Rattle.dh_chains.proofs.search.second_into.Goals.{in-Some+in_default-after_second, in_default}

pub after_second-requires-clause-in_day : goal.after_second-requires-clause-in_day
after_second-requires-clause-in_day c =
    let next = c.in-Some.ensures.next (value c.args.deficits.now) in
    omega (arith, next.deadhead.leaves, next.on_time)

pub returns-in-Some-after_second-clause-first : goal.returns-in-Some-after_second-clause-first
returns-in-Some-after_second-clause-first c =
    first-branch (places_of c.args.deficits.now c.args.matrix.now) 1 (c.args.first.from ∷ c.args.first.to ∷ []) c.args.first.from
    c.args.arrives c.loop-from.from c.in-Some.second
    (listed c.in-Some-after_second.third) c.loop-from.invariant c.in-Some.ensures.from (c.in-Some.ensures.next (value c.args.deficits.now))
    c.in-Some-after_second.ensures.first

pub loop-from-preserved : goal.loop-from-preserved
loop-from-preserved c =
    let places = places_of c.args.deficits.now c.args.matrix.now in
    let had = c.args.first.from ∷ c.args.first.to ∷ [] in
    elim c.match-next_from.branch [
      | in-Some+in_default-after_second w ↦
          below-dead places 1 had c.args.first.from c.args.arrives c.loop-from.from w.in-Some.second c.loop-from.invariant
          w.in-Some.ensures.from
          (w.in-Some.ensures.next (value c.args.deficits.now)) w.in_default-after_second.ensures.none
      | in_default w ↦
          below-absent places 1 had c.args.first.from c.args.arrives c.loop-from.from c.loop-from.invariant
          (w.in_default.ensures.none (value c.args.deficits.now))
    ]
