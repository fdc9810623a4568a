use Rattle.std.proofs.Common.{◌≡◌, ◌++◌, take, string_bytes}
use Rattle.journal_commands.specs.Journal.{journal_text}
use Rattle.journal_commands.proofs.journal.push_lines.Given as goal

abbrev pub invariant-loop-line : goal.invariant-loop-line
invariant-loop-line l = string_bytes l.text ≡ string_bytes l.fn.text ++ journal_text (take l.line-index l.lines)
