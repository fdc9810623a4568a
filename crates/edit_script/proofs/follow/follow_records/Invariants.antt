use Rattle.std.proofs.Common.{◌+◌}
use Rattle.edit_script.proofs.follow.follow_records.Given as goal

abbrev pub invariant-loop-n : goal.invariant-loop-n
invariant-loop-n g l = record {
  ready : g.F.Follower.IsReady l.follower (l.n + 1);
  stands : g.F.Follower.Stands l.fn.follower l.fn.lent l.lines l.n l.follower l.lent;
}
