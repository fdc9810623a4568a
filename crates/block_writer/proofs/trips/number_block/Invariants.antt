use Rattle.std.proofs.Common.{◌≡◌, ℕ, ◌<◌, take, get_or, length, None}
use Rattle.block_writer.specs.Trips.{is_in, numbered}
use Rattle.block_writer.proofs.trips.number_block.Given as goal

abbrev pub invariant-loop-slot : goal.invariant-loop-slot
invariant-loop-slot l = record {
  count : length l.numbers.items ≡ length l.initial.numbers.items;
  numbers : (s : ℕ) → s < length l.initial.numbers.items
      → get_or l.numbers.items s None ≡ numbered (get_or l.initial.numbers.items s None) (is_in s (take l.slot-index l.block)) l.number;
}
