use Rattle.std.proofs.Common.{ℕ, ◌≤◌, All}
use Rattle.std.specs.Str.{IsUtf8}
use Rattle.block_writer.specs.Texts.{record_at}
use Rattle.block_writer.proofs.texts.first_not_utf8.Given as goal

abbrev pub invariant-loop-before : goal.invariant-loop-before
invariant-loop-before l = (k : ℕ) → k ≤ l.before → All IsUtf8 (record_at l.table k)
