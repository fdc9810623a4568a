use Rattle.std.proofs.Common.{◌≡◌, ◌≢◌, ℕ, ◌<◌, ◌≤◌, length}
use Rattle.deadhead_matrix.specs.Rows.{far, dist_at, way_to}
use Rattle.deadhead_matrix.proofs.through.first_row.Given as goal

abbrev pub invariant-loop-to : goal.invariant-loop-to
invariant-loop-to l = record {
  len : length l.minutes.items ≡ length l.ways;
  none : (j : ℕ) → way_to l.ways j ≡ 0 → dist_at l.minutes.items j ≡ far;
  some : (j : ℕ) → j < l.to → way_to l.ways j ≢ 0 → dist_at l.minutes.items j ≡ way_to l.ways j;
  later : (j : ℕ) → l.to ≤ j → dist_at l.minutes.items j ≡ far;
}
