use Rattle.std.proofs.Common.{◌≡◌, ◌+◌, ◌<◌, ap, subst, sym, ◌∙◌, arith}
use Rattle.pair_search.specs.Groups.{begins, group_at, AreGroups}
use Rattle.pair_search.specs.Search.{columns_of, AreLooked}
use Rattle.pair_search.specs.Side.{LineView, line_weight, side_slots}
use Rattle.pair_search.specs.Visits.{RowLooks, Takes}
use Rattle.pair_search.proofs.GroupLemmas.{begins-there}
use Rattle.pair_search.proofs.VisitLemmas.{Takes-append, row-append}
use Rattle.pair_search.proofs.tree.Tree.try_each.Goals as goal

pub loop-group-preserved : goal.loop-group-preserved
loop-group-preserved g c =
    let line : LineView = c.args.line.now in
    let side = line.side in
    let loop = c.loop-group in
    let are = subst (λ (l : LineView). AreGroups (side_slots l.side) l.side.columns l.side.count l.side.groups) c.line.view_is
    c.groups-group-end.ensures.groups in
    let inside : loop.group < side.count =
    omega (arith, c.loop-group-test.true, c.groups-group-end.ensures.count, ap (λ (l : LineView). l.side.count) c.line.view_is) in
    let begin = begins (side_slots side) side.count side.groups in
    let there = begins-there (side_slots side) side.count side.groups loop.group inside in
    let next = are.next loop.group inside in
    let group = group_at side.groups loop.group in
    record {
      slots = c.try_group.ensures.slots ∙ loop.invariant.slots;
      rows = (c.try_group.ensures.rows.0 ∙ loop.invariant.rows.0, c.try_group.ensures.rows.1 ∙ loop.invariant.rows.1);
      leads = c.try_group.ensures.leads ∙ loop.invariant.leads;
      looked =
          subst (λ n. AreLooked (line_weight line) n c.args.from c.args.start c.args.enter.now (columns_of c.args.self.now)
          (columns_of c.try_group.new.self)) next
          (c.try_group.ensures.looked (columns_of c.args.self.now)
          (subst (λ n. AreLooked (line_weight line) n c.args.from c.args.start c.args.enter.now (columns_of c.args.self.now)
          (columns_of loop.self)) there loop.invariant.looked));
      seen = c.try_group.ensures.seen;
      visited =
          subst (λ n. Takes (RowLooks side line.row 0 n) c.args.looks.now.list c.try_group.new.looks.list c.args.steps.now
          c.try_group.new.steps) next
          (Takes-append (RowLooks side line.row 0 group.from) (RowLooks side line.row group.from group.to)
          (RowLooks side line.row 0 group.to) (row-append side line.row 0 group.from group.to)
          c.args.looks.now.list loop.looks.list c.try_group.new.looks.list c.args.steps.now loop.steps c.try_group.new.steps
          (subst (λ n. Takes (RowLooks side line.row 0 n) c.args.looks.now.list loop.looks.list c.args.steps.now loop.steps) there
          loop.invariant.visited) c.try_group.ensures.visited);
    }
