use Rattle.std.proofs.Common.{◌≡◌, ℕ, ◌+◌, ◌-◌, ◌<◌, ◌≤◌, ◌++◌, true, false}
use Rattle.std.specs.Prelude.{map}
use Rattle.std.specs.List.{range_with_len}
use Rattle.pair_search.specs.Groups.{AreApproached}
use Rattle.pair_search.specs.declared.look.Look.TheVariants.{Visited}
use Rattle.pair_search.specs.Search.{as_columns, is_done}
use Rattle.pair_search.proofs.scan.approach.Given as goal

abbrev pub invariant-loop-column : goal.invariant-loop-column
invariant-loop-column g l = record {
  after : l.first ≤ l.column;
  approached : AreApproached l.first l.column l.from l.cost l.enter (as_columns l.initial.dist l.initial.parent l.done)
      (as_columns l.dist l.parent l.done) l.near;
  undone : l.undone ≡ false → (j : ℕ) → l.first ≤ j → j < l.column → is_done l.done j ≡ true;
  visited : l.looks.list ≡ l.initial.looks.list ++ map (Visited l.row) (range_with_len l.first (l.column - l.first));
  counted : l.steps + l.first ≡ l.initial.steps + l.column;
}
