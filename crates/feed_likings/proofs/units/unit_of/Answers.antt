use Rattle.std.proofs.Common.{◌+◌, drop, sym, subst, arith}
use Rattle.std.proofs.lemmas.List.{drop_more}
use Rattle.desk_settings.specs.declared.prefer.Preference.TheVariants.{Stated}
use Rattle.feed_likings.proofs.UnitLemmas.{IsCounted, counted-first, counted-fits, counted-more}
use Rattle.feed_likings.proofs.units.unit_of.Goals as goal

pub loop-other-init : goal.loop-other-init
loop-other-init c = counted-first c.args.preference c.args.order.now c.requires

pub with_one_more-unit-requires : goal.with_one_more-unit-requires
with_one_more-unit-requires c =
    let p = c.args.preference in
    let order = c.args.order.now in
    let here = drop_more order c.loop-other.other-index Stated (omega (arith, c.loop-other-test.true)) in
    let fits = counted-fits p _ order c.loop-other.unit _
    (subst (IsCounted p order c.loop-other.unit) here c.loop-other.invariant) in
    omega (arith, fits)

pub loop-other-preserved : goal.loop-other-preserved
loop-other-preserved c =
    let p = c.args.preference in
    let order = c.args.order.now in
    let here = drop_more order c.loop-other.other-index Stated (omega (arith, c.loop-other-test.true)) in
    let so_far = subst (IsCounted p order c.loop-other.unit) here c.loop-other.invariant in
    subst (λ unit. IsCounted p order unit (drop (c.loop-other.other-index + 1) order)) (sym c.with_one_more-unit.ensures)
    (counted-more p _ order c.loop-other.unit _ so_far)
