use Rattle.std.proofs.Common.{◌≡◌, ◌++◌, take}
use Rattle.desk_run.specs.Becomes.{with_writings}
use Rattle.desk_run.specs.Order.{writes_of}
use Rattle.desk_run.proofs.carrying.write_all.Given as goal

abbrev pub invariant-loop-writing : goal.invariant-loop-writing
invariant-loop-writing g l = record {
  written : g.S.Shelf.state l.shelf ≡ with_writings (take l.writing-index l.writes) (g.S.Shelf.state l.fn.shelf);
  noted : g.S.Shelf.history l.shelf ≡ g.S.Shelf.history l.fn.shelf ++ writes_of (take l.writing-index l.writes);
}
