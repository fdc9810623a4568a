use Rattle.std.proofs.Common.{◌+◌, sym, ap, ◌∙◌}
use Rattle.std.specs.Bool.{then_some}
use Rattle.price_check.specs.declared.verdict.Reason.TheVariants.{TripTwice}
use Rattle.price_check.proofs.First.{none_first, found_first}
use Rattle.price_check.proofs.trips.all_once.Goals as goal

pub returns-then-repeats : goal.returns-then-repeats
returns-then-repeats g c =
    found_first _ _ c.loop-at.at _ c.loop-at.invariant c.loop-at-test.true
    (sym (ap (λ b. then_some b (TripTwice c.args.paper (c.loop-at.at + 1))) (sym c.repeats.ensures ∙ c.if-repeats.true)))

pub returns : goal.returns
returns g c = none_first _ _ c.loop-at.at c.loop-at.invariant c.loop-at-test.false
