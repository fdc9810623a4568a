use Rattle.std.proofs.Common.{◌≡◌, ◌≤◌}
use Rattle.std.specs.Prelude.{vec_len}
use Rattle.pair_search.specs.Groups.{begins, IsSeen}
use Rattle.pair_search.specs.Search.{columns_of, AreLooked}
use Rattle.pair_search.specs.Side.{side_slots, line_weight}
use Rattle.pair_search.specs.Visits.{RowLooks, Takes}
use Rattle.pair_search.proofs.tree.Tree.try_each.Given as goal

abbrev pub invariant-loop-group : goal.invariant-loop-group
invariant-loop-group g l = record {
  slots : vec_len l.self.dist ≡ vec_len l.initial.self.dist;
  rows : (l.self.rows.items ≡ l.initial.self.rows.items) × (l.self.far.items ≡ l.initial.self.far.items);
  leads : l.self.leads.items ≡ l.initial.self.leads.items;
  looked : AreLooked (line_weight l.line) (begins (side_slots l.line.side) l.line.side.count l.line.side.groups l.group) l.from l.start
      l.enter (columns_of l.initial.self) (columns_of l.self);
  seen : IsSeen l.line.side l.enter l.self;
  visited : Takes (RowLooks l.line.side l.line.row 0 (begins (side_slots l.line.side) l.line.side.count l.line.side.groups l.group))
      l.initial.looks.list l.looks.list l.initial.steps l.steps;
}
