use Rattle.std.proofs.Common.{◌≡◌, ◌≤◌}
use Rattle.std.specs.Prelude.{vec_len}
use Rattle.pair_search.specs.Groups.{group_at, IsSeen}
use Rattle.pair_search.specs.Search.{columns_of, AreLooked, Columns}
use Rattle.pair_search.specs.Side.{line_weight}
use Rattle.pair_search.specs.Visits.{RowLooks, Takes}
use Rattle.pair_search.proofs.tree.Tree.try_group.Given as goal

abbrev pub invariant-loop-column : goal.invariant-loop-column
invariant-loop-column g l = record {
  after : (group_at l.line.side.groups l.group).from ≤ l.column;
  slots : vec_len l.self.dist ≡ vec_len l.initial.self.dist;
  rows : (l.self.rows.items ≡ l.initial.self.rows.items) × (l.self.far.items ≡ l.initial.self.far.items);
  leads : l.self.leads.items ≡ l.initial.self.leads.items;
  looked : (was : Columns)
      → AreLooked (line_weight l.line) (group_at l.line.side.groups l.group).from l.from l.start l.enter was (columns_of l.initial.self)
      → AreLooked (line_weight l.line) l.column l.from l.start l.enter was (columns_of l.self);
  seen : IsSeen l.line.side l.enter l.self;
  visited : Takes (RowLooks l.line.side l.line.row (group_at l.line.side.groups l.group).from l.column) l.initial.looks.list
      l.looks.list l.initial.steps l.steps;
}
