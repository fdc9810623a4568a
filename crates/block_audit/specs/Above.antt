-- How the cost of blocks compares with that of least ones.
use Rattle.std.specs.Prelude.{ℕ, ◌-◌, nat_lt, if◌then◌else◌}
use Rattle.block_audit.specs.declared.cost.Above.{Above}
use Rattle.block_audit.specs.declared.cost.Above.TheVariants.{Nothing, Vehicles, Minutes}

-- rule: how stated blocks compare with least ones
-- by how many vehicles blocks are above the least, or, where they have as few, by how many empty minutes
abbrev pub above_by : ℕ → ℕ → ℕ → ℕ → Above
above_by vehicles minutes least_vehicles least_minutes =
    if nat_lt least_vehicles vehicles then Vehicles (vehicles - least_vehicles)
    else if nat_lt least_minutes minutes then Minutes (minutes - least_minutes) else Nothing
