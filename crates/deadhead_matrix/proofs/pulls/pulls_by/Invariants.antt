use Rattle.std.proofs.Common.{◌≡◌, take}
use Rattle.std.specs.Prelude.{All}
use Rattle.deadhead_matrix.specs.Depot.{pulls_by}
use Rattle.deadhead_matrix.specs.Pulls.{IsPull}
use Rattle.deadhead_matrix.proofs.pulls.pulls_by.Given as goal

abbrev pub invariant-loop-place : goal.invariant-loop-place
invariant-loop-place l = record {
  given : l.pulls.items ≡ pulls_by l.rows (take l.place l.timetable.places);
  valid : All IsPull l.pulls.items;
}
