use Rattle.std.proofs.Common.{ℕ, ◌<◌, ◌≤◌, get_or}
use Rattle.deadhead_matrix.specs.declared.entry.Entry.{Entry}
use Rattle.deadhead_matrix.proofs.through.places_among.Given as goal

abbrev pub invariant-loop-n : goal.invariant-loop-n
invariant-loop-n l = record {
  least : l.places ≤ l.count;
  few : l.count ≤ 512;
  from : (e : Entry) (i : ℕ) → i < l.n → (get_or l.entries i e).from < l.count;
  to : (e : Entry) (i : ℕ) → i < l.n → (get_or l.entries i e).to < l.count;
}
