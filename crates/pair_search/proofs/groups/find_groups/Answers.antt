use Rattle.std.proofs.Common.{◌-◌, ◌∙◌, refl, ap, arith}
use Rattle.std.proofs.lemmas.List.{get_or_default}
use Rattle.pair_search.specs.declared.order.Column.{Column}
use Rattle.pair_search.proofs.GroupLemmas.{AreGroups-none, AreGroups-more}
use Rattle.pair_search.proofs.groups.find_groups.Goals as goal

pub loop-from-init : goal.loop-from-init
loop-from-init c = record { within = omega arith; groups = AreGroups-none c.args.columns.now c.args.groups.now }

pub loop-from-preserved : goal.loop-from-preserved
loop-from-preserved c =
    let found = c.group_end-to.ensures in
    record {
      within = found.within;
      groups = AreGroups-more c.loop-from.from c.group_end-to.result c.args.columns.now c.loop-from.count c.loop-from.groups _
          c.loop-from.invariant.groups refl refl found.after
          (omega (arith, found.within, c.requires.few))
          (omega (arith, c.loop-from.invariant.groups.few, c.loop-from-test.true, c.loop-from.auto.groups, c.requires.room))
          (λ k d after before. found.posts k d after before
          ∙ ap (λ (x : Column). x.post) (get_or_default c.args.columns.now c.loop-from.from d _ c.loop-from-test.true)) found.rise
          (λ d. ap (λ (x : Column). x.minute)
          (get_or_default c.args.columns.now (c.group_end-to.result - 1) d _ (omega (arith, found.after, found.within))));
    }
