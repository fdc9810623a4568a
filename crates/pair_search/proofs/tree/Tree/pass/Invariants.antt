use Rattle.std.proofs.Common.{◌≡◌, ℕ, ◌+◌, ◌-◌, ◌<◌, ◌≤◌, List, ◌++◌}
use Rattle.std.specs.Prelude.{map}
use Rattle.std.specs.List.{range_with_len}
use Rattle.pair_search.specs.declared.look.Look.TheVariants.{Passed}
use Rattle.pair_search.specs.Groups.{group_at, IsSeen, IsSpent}
use Rattle.pair_search.specs.Search.{columns_of}
use Rattle.pair_search.proofs.tree.Tree.pass.Given as goal

abbrev pub invariant-loop-next : goal.invariant-loop-next
invariant-loop-next g l = record {
  spent : (r : ℕ) (enter : List ℕ) → l.group ≤ r → r < l.next → IsSeen l.line.side enter l.self
      → IsSpent l.line (group_at l.line.side.groups r) l.start enter (columns_of l.self);
  passed : l.looks.list ≡ l.initial.looks.list ++ map (Passed l.line.row) (range_with_len l.group (l.next - l.group));
  counted : l.steps ≡ l.initial.steps + (l.next - l.group);
}
