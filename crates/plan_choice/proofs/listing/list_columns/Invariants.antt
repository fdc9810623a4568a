use Rattle.std.proofs.Common.{◌≡◌, ◌+◌, ◌≤◌}
use Rattle.plan_choice.specs.Listing.{pair_worths, IsListed}
use Rattle.plan_choice.proofs.listing.list_columns.Given as goal

abbrev pub invariant-loop-j : goal.invariant-loop-j
invariant-loop-j g l = record {
  listed : IsListed (pair_worths l.pairs l.likings l.plan l.i) l.j l.lists.begun;
  columns : l.lists.slots ≡ l.fn.lists.slots;
  rows : l.lists.rows ≡ l.fn.lists.rows;
  counted : l.steps ≤ l.fn.steps + l.j;
}
