use Rattle.std.proofs.Common.{[], ◌∷◌, arith}
use Rattle.deficit_steps.specs.Changes.{value}
use Rattle.dh_chains.specs.Chains.{places_of}
use Rattle.dh_chains.proofs.Branches.{at-none, at-some, below-absent, below-dead, first-branch, first-end, no-end}
use Rattle.dh_chains.proofs.search.last_into.Goals as goal
use Rattle.dh_chains.proofs.search.last_into.Goals.{in-Some+else-is_none, in_default}

pub first_max_from-requires-clause-minute : goal.first_max_from-requires-clause-minute
first_max_from-requires-clause-minute c =
    let next = c.in-Some.ensures.next (value c.args.deficits.now) in
    omega (arith, next.deadhead.leaves, next.on_time)

pub returns-then-is_none-clause-first : goal.returns-then-is_none-clause-first
returns-then-is_none-clause-first c =
    let places = places_of c.args.deficits.now c.args.matrix.now in
    let last = c.in-Some.last in
    first-branch places 0 c.args.had.now c.args.to c.args.arrives c.loop-from.from last [] c.loop-from.invariant c.in-Some.ensures.from
    (c.in-Some.ensures.next (value c.args.deficits.now))
    (first-end places 0 (last.from ∷ c.args.had.now) last
    (at-none _ c.first_max_from.result c.if-is_none.ensures c.first_max_from.ensures.none))

pub loop-from-preserved : goal.loop-from-preserved
loop-from-preserved c =
    let places = places_of c.args.deficits.now c.args.matrix.now in
    elim c.match-next_from.branch [
      | in-Some+else-is_none w ↦
          let last = w.in-Some.last in
          let minute = at-some _ w.first_max_from.result w.if-is_none.ensures w.first_max_from.ensures.found in
          below-dead places 0 c.args.had.now c.args.to c.args.arrives c.loop-from.from last c.loop-from.invariant w.in-Some.ensures.from
          (w.in-Some.ensures.next (value c.args.deficits.now)) (no-end places (last.from ∷ c.args.had.now) last minute.0 minute.1)
      | in_default w ↦
          below-absent places 0 c.args.had.now c.args.to c.args.arrives c.loop-from.from c.loop-from.invariant
          (w.in_default.ensures.none (value c.args.deficits.now))
    ]
