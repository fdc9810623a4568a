use Rattle.std.proofs.Common.{ap, arith, refl, ◌∙◌}
use Rattle.list_search.specs.Lists.{ListsView}
use Rattle.plan_choice.specs.Listing.{pair_worths}
use Rattle.plan_choice.proofs.ListingLemmas.{IsListed-none, IsListed-more}
use Rattle.plan_choice.proofs.listing.list_columns.Goals as goal

pub loop-j-init : goal.loop-j-init
loop-j-init g c = record {
  listed =
      IsListed-none (pair_worths c.args.pairs.now c.args.likings.now c.args.plan.now c.args.i) c.args.lists.now.begun c.requires.begun;
  columns = refl;
  rows = refl;
  counted = omega arith;
}

pub loop-j-preserved : goal.loop-j-preserved
loop-j-preserved g c =
    let loop = c.loop-j in
    let more = c.in_ok-list_value.ensures in
    record {
      listed = IsListed-more (pair_worths c.args.pairs.now c.args.likings.now c.args.plan.now c.args.i) loop.j
          c.worth-value.result loop.lists.begun c.list_value.new.lists.begun loop.invariant.listed
          c.worth-value.ensures.worth
          (ap (λ (v : ListsView). v.begun) more);
      columns = ap (λ (v : ListsView). v.slots) more ∙ loop.invariant.columns;
      rows = ap (λ (v : ListsView). v.rows) more ∙ loop.invariant.rows;
      counted = omega (arith, loop.invariant.counted, c.worth-value.ensures.counted);
    }
