use Rattle.std.proofs.Common.{◌+◌, suc, min, set, get_or, sym, ap, subst, ◌∙◌, arith}
use Rattle.dh_chains.specs.Chains.{places_with}
use Rattle.dh_chains.specs.Ends.{EndsFrom, PassedArriveFrom}
use Rattle.dh_chains.proofs.EndsLemmas.{leaves-from, passed-from, passed-more, passed-past}
use Rattle.dh_chains.proofs.ends.lower_from.Goals as goal
use Rattle.dh_chains.proofs.ends.lower_from.Goals.{then-place-minutes, else-place-minutes}

pub loop-to-preserved : goal.loop-to-preserved
loop-to-preserved c = λ d most ends before.
    let places = places_with d c.args.matrix.now in
    elim c.if-place-minutes.branch [
      | then-place-minutes w ↦
          let same = w.minutes-is ∙ (λ i. set c.loop-to.minutes (c.from-place.ensures i) (w.min.ensures i))
          ∙ ap (λ k. set c.loop-to.minutes c.loop-to.to (min (get_or c.loop-to.minutes k 0) w.arrives_from.result)) c.from-place.ensures in
          subst (λ minutes. PassedArriveFrom places (suc most) minutes c.args.from (c.loop-to.to + 1)) (sym same)
          (passed-more places (suc most) c.loop-to.minutes c.args.from c.loop-to.to w.arrives_from.result
          (omega (arith, w.if-place-minutes.true, c.from-place.ensures)) (c.loop-to.invariant d most ends before)
          (λ m from to is. w.arrives_from.ensures d m is.deadhead is.apart from to
          (leaves-from places most c.args.leaves m (subst (λ k. EndsFrom places most k c.args.leaves) (sym from) ends) is)))
      | else-place-minutes w ↦
          subst (λ minutes. PassedArriveFrom places (suc most) minutes c.args.from (c.loop-to.to + 1)) (sym w.minutes-is)
          (passed-past places (suc most) c.loop-to.minutes c.args.from c.loop-to.to
          (omega (arith, w.if-place-minutes.false, c.from-place.ensures)) (c.loop-to.invariant d most ends before))
    ]

pub returns : goal.returns
returns c = λ d most ends before.
    passed-from (places_with d c.args.matrix.now) (suc most) c.loop-to.minutes c.args.from c.loop-to.to
    (omega (arith, c.places-to-end.ensures.count)) (c.loop-to.invariant d most ends before)
