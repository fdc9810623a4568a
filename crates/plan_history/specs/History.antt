-- What a history of plans is seen as.
use Rattle.std.specs.Prelude.{ℕ, List, Option}
use Rattle.assignment_model.specs.Paths.{IsTaken, IsAdded}
use Rattle.assignment_model.specs.Prices.{Plan}

-- The plan, the plan before each kept edit, and the plan after each undone one. The last of each list is next to the plan.
-- `room` says for how many changes of the next edit there is memory.
pub record HistoryView : Type 0 where
  pub plan : Plan
  pub earlier : List Plan
  pub later : List Plan
  pub room : ℕ

-- the trip of s is taken, and then added
pub record IsReplaced (old new : List (Option ℕ)) (s : ℕ) : Type 0 where
  pub mid : List (Option ℕ)
  pub taken : IsTaken old mid s
  pub added : IsAdded mid new s
