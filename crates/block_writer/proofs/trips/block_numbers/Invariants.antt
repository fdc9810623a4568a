use Rattle.std.proofs.Common.{◌≡◌, ℕ, ◌<◌, take, get_or, length, None}
use Rattle.block_writer.specs.Trips.{number_in}
use Rattle.block_writer.proofs.trips.block_numbers.Given as goal

abbrev pub invariant-loop-before : goal.invariant-loop-before
invariant-loop-before l = record {
  count : length l.numbers.items ≡ l.slots;
  numbers : (s : ℕ) → s < l.slots → get_or l.numbers.items s None ≡ number_in (take l.before l.blocks) s;
}
