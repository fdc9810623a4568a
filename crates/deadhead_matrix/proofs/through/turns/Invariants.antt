use Rattle.std.proofs.Common.{List, length}
use Rattle.deadhead_matrix.specs.declared.entry.Entry.{Entry}
use Rattle.deadhead_matrix.specs.Rows.{AreDistances, AreThrough}
use Rattle.deadhead_matrix.proofs.through.turns.Given as goal

abbrev pub invariant-loop-via : goal.invariant-loop-via
invariant-loop-via l = record {
  distances : AreDistances (length l.initial.rows) l.rows;
  through : (entries : List Entry) → AreThrough entries 0 l.initial.rows → AreThrough entries l.via l.rows;
}
