-- Plans with other slots, and with another entry.
use Rattle.std.specs.Prelude.{ℕ, ◌-◌, List, ◌++◌, length, take, replicate, slice_set, Option, None}
use Rattle.assignment_model.specs.Prices.{Plan}

-- a list cut to so many slots, or with this in those that it lacks
abbrev pub resized : {T : Type 0} → List T → ℕ → T → List T
resized xs slots x = take slots xs ++ replicate (slots - length xs) x

-- a plan cut to so many slots, or with slots at its end that have no next trip and no price
abbrev pub with_slots : Plan → ℕ → Plan
with_slots plan slots = record {
  next = resized plan.next slots None;
  leave = resized plan.leave slots 0;
  enter = resized plan.enter slots 0;
}

-- a plan in which a slot has this next trip and these prices
abbrev pub with_entry : Plan → ℕ → Option ℕ → ℕ → ℕ → Plan
with_entry plan slot next leave enter = record {
  next = slice_set plan.next slot next;
  leave = slice_set plan.leave slot leave;
  enter = slice_set plan.enter slot enter;
}
