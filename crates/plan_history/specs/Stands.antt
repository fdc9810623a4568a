-- What a plan has for its slots, and the slots for which two plans differ.
use Rattle.std.specs.Prelude.{ℕ, ◌==◌, nat_eq, ◌&&◌, Bool, false, List, [], ◌∷◌, length, map, flat_map, slice_get, Option, None, Some}
use Rattle.std.specs.Prelude.{if◌then◌else◌}
use Rattle.std.specs.List.{range_with_len}
use Rattle.std.specs.Option.{option_eq}
use Rattle.assignment_model.specs.Prices.{Plan, price}
use Rattle.trip_model.specs.Links.{next_of}
use Rattle.plan_history.specs.declared.stand.Stand.{Stand}
use Rattle.plan_history.specs.declared.stand.Changed.{Changed}

-- what a plan has for a slot
abbrev pub stand_at : Plan → ℕ → Stand
stand_at plan s = record { next = next_of plan.next s; leave = price plan.leave s; enter = price plan.enter s }

-- what it has for each of its slots
abbrev pub stands : Plan → List Stand
stands plan = map (stand_at plan) (range_with_len 0 (length plan.next))

-- a slot had before what it has after; a slot that is new had nothing
abbrev pub same_stand : Option Stand → Stand → Bool
same_stand None after = false
same_stand (Some before) after = option_eq nat_eq before.next after.next && before.leave == after.leave && before.enter == after.enter

-- the slot as a change, where it has not what it had
abbrev pub change_of : ℕ → Option Stand → Stand → List Changed
change_of slot before after = if same_stand before after then [] else record { slot = slot; before = before; after = after } ∷ []

-- the same, by the stands before and a plan
abbrev pub changed_at : List Stand → Plan → ℕ → List Changed
changed_at was plan s = change_of s (slice_get was s) (stand_at plan s)

-- the changes of the slots below a number, ascending
abbrev pub changes_upto : List Stand → Plan → ℕ → List Changed
changes_upto was plan slots = flat_map (changed_at was plan) (range_with_len 0 slots)

-- The slots of the newer plan that the older one lacks, or for which it has another next trip or price. Each has what the plans
-- say of it, before and after. Slots ascend.
abbrev pub differences : Plan → Plan → List Changed
differences old new = changes_upto (stands old) new (length new.next)
