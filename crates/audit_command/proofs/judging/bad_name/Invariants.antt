use Rattle.std.proofs.Common.{◌≡◌, ℕ, ◌<◌, true, false, get_or}
use Rattle.std.specs.Str.{IsUtf8}
use Rattle.block_audit.specs.Stated.{block_field}
use Rattle.audit_command.proofs.judging.bad_name.Given as goal

abbrev pub invariant-loop-before : goal.invariant-loop-before
invariant-loop-before l = (k : ℕ) → k < l.before → get_or l.chosen k false ≡ true → IsUtf8 (block_field l.trips k)
