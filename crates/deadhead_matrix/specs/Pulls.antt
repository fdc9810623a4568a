-- Pulls: the minutes out of the depot to a place before the first trip of a block, and from a place home after its last.
use Rattle.std.specs.Prelude.{ℕ, ◌≤◌, List, slice_index_or}
use Rattle.assignment_model.specs.declared.limits.TheConstants.{MOST_DEADHEAD}
use Rattle.deadhead_matrix.specs.declared.pulls.Pull.{Pull}
use Rattle.deadhead_matrix.specs.declared.pulls.TheConstants.{NO_PULL}

-- neither way takes more than 1,440 minutes
pub record IsPull (pull : Pull) : Type 0 where
  pub pull_out : pull.pull_out ≤ MOST_DEADHEAD
  pub pull_in : pull.pull_in ≤ MOST_DEADHEAD

-- the pulls of the place of that number; none past the last one
abbrev pub pull_at : List Pull → ℕ → Pull
pull_at pulls place = slice_index_or pulls place NO_PULL
