use Rattle.std.proofs.Common.{◌≡◌, ◌+◌, ◌≤◌, drop, Some}
use Rattle.block_writer.specs.Plain.{are_lines}
use Rattle.block_writer.proofs.plain.is_plain.Given as goal

abbrev pub invariant-loop-byte : goal.invariant-loop-byte
invariant-loop-byte l = record {
  few : l.fields ≤ l.byte-index + 1;
  so_far : are_lines l.columns (Some 1) 0 l.text ≡ are_lines l.columns (Some l.fields) l.last (drop l.byte-index l.text);
}
