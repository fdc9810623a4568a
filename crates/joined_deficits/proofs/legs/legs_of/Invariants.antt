use Rattle.std.proofs.Common.{◌≡◌, ◌-◌, ◌≤◌, ◌++◌, drop, get_or}
use Rattle.deadhead_matrix.specs.Fitting.{network_of}
use Rattle.trip_model.specs.Blocking.{Follow}
use Rattle.joined_deficits.specs.Joined.{legs_after, legs_of}
use Rattle.joined_deficits.proofs.legs.legs_of.Given as goal

abbrev pub invariant-loop-n : goal.invariant-loop-n
invariant-loop-n l = record {
  begun : 1 ≤ l.n;
  follow : Follow (network_of l.timetable l.matrix) (get_or l.block (l.n - 1) 0) (drop l.n l.block);
  legs : l.legs.items ++ legs_after l.timetable l.matrix (get_or l.block (l.n - 1) 0) (drop l.n l.block) ≡ legs_of l.timetable l.matrix
      l.block;
}
