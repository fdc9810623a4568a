use Rattle.std.proofs.Common.{◌+◌, ◌<◌, ℕ, set, get_or, sym, subst, ◌∙◌, arith}
use Rattle.deficit_steps.specs.Changes.{value}
use Rattle.dh_chains.specs.Chains.{places_of}
use Rattle.dh_chains.specs.Ends.{AreEarliestBelow, IsMaximumBetween}
use Rattle.dh_chains.proofs.EndsLemmas.{earliest-all, earliest-more, earliest-past}
use Rattle.dh_chains.proofs.ends.set_leaving.Goals as goal
use Rattle.dh_chains.proofs.ends.set_leaving.Goals.{then-at-minutes, else-at-minutes}

pub loop-place-preserved : goal.loop-place-preserved
loop-place-preserved c = λ matrix most same arrive.
    let places = places_of c.args.deficits.now matrix in
    let place = c.loop-place.place in
    elim c.if-at-minutes.branch [
      | then-at-minutes w ↦
          subst (λ minutes. AreEarliestBelow places most minutes (place + 1))
          (sym (w.minutes-is ∙ (λ i. set c.loop-place.minutes (c.from-at.ensures i) w.past_maximum.result)))
          (earliest-more places most c.loop-place.minutes place w.past_maximum.result
          (omega (arith, w.if-at-minutes.true, c.from-at.ensures))
          (omega (arith, same, c.places-place-end.ensures.count, c.loop-place-test.true))
          (c.loop-place.invariant matrix most same arrive)
          (subst (λ k. (t : ℕ) → t < w.past_maximum.result
          → IsMaximumBetween (value c.args.deficits.now place) t (get_or c.loop-place.minutes k 0)) c.from-at.ensures
          w.past_maximum.ensures.reached))
      | else-at-minutes w ↦
          subst (λ minutes. AreEarliestBelow places most minutes (place + 1)) (sym w.minutes-is)
          (earliest-past places most c.loop-place.minutes place (omega (arith, w.if-at-minutes.false, c.from-at.ensures))
          (c.loop-place.invariant matrix most same arrive))
    ]

pub returns : goal.returns
returns c = λ matrix most same arrive.
    earliest-all (places_of c.args.deficits.now matrix) most c.loop-place.minutes c.loop-place.place
    (omega (arith, same, c.places-place-end.ensures.count)) (c.loop-place.invariant matrix most same arrive)
