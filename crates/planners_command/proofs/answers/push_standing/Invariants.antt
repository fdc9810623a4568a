use Rattle.std.proofs.Common.{◌≡◌, ◌++◌, take, string_bytes}
use Rattle.planners_command.specs.Answers.{standing_text}
use Rattle.planners_command.proofs.answers.push_standing.Given as goal

abbrev pub invariant-loop-at : goal.invariant-loop-at
invariant-loop-at l = string_bytes l.text ≡ string_bytes l.fn.text ++ standing_text (take l.at l.planners.standing)
