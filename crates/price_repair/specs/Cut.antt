-- A plan with a trip cut out.
use Rattle.std.specs.Prelude.{ℕ, slice_set}
use Rattle.assignment_model.specs.Paths.{cut_at}
use Rattle.assignment_model.specs.Prices.{Plan}

-- the plan without the links out of a slot and into it, and without its prices; every other price stays
abbrev pub plan_without : Plan → ℕ → Plan
plan_without plan s = record { next = cut_at plan.next s; leave = slice_set plan.leave s 0; enter = slice_set plan.enter s 0 }
