use Rattle.std.proofs.Common.{◌≡◌, ◌-◌, ◌≤◌, length, take}
use Rattle.desk_io.specs.Sink.{put_bytes}
use Rattle.desk_io.proofs.EachPut.{PutSoFar}
use Rattle.desk_io.proofs.sink.put_all.Given as goal

abbrev pub invariant-loop-done : goal.invariant-loop-done
invariant-loop-done g l = record {
  within : l.done ≤ length l.bytes;
  taken : g.O.Sink.state l.out ≡ put_bytes (take l.done l.bytes) (g.O.Sink.state l.initial.out);
  put : PutSoFar l.bytes l.done (g.O.Sink.history l.initial.out) (g.O.Sink.history l.out);
}

abbrev pub decreases-loop-done : goal.decreases-loop-done
decreases-loop-done g l = length l.bytes - l.done
