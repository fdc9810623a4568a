-- What is printed of an audit.
use Rattle.std.specs.Prelude.{ℕ, List, [], ◌∷◌, ◌++◌, length, codes}
use Rattle.std.specs.Fmt.{decimal}
use Rattle.std.specs.List.{flat_map}
use Rattle.trip_model.specs.Timetable.{TimetableView, slot_at}
use Rattle.block_audit.specs.declared.cost.Above.{Above}
use Rattle.block_audit.specs.declared.cost.Above.TheVariants.{Nothing, Vehicles, Minutes}
use Rattle.block_audit.specs.declared.misfit.Misfit.{Misfit}
use Rattle.block_audit.specs.declared.misfit.Why.{Why}
use Rattle.block_audit.specs.declared.misfit.Why.TheVariants.{NoWay, Late, Forbidden}
use Rattle.block_audit.specs.Above.{above_by}
use Rattle.block_audit.specs.Stated.{NamedBlock, block_at}

-- that there is no way, by how many minutes a vehicle comes too late, or that a rule of pairs forbids it
abbrev pub why_text : Why → List ℕ
why_text NoWay = codes " no way"
why_text (Late minutes) = codes " short by " ++ decimal minutes
why_text Forbidden = codes " forbidden"

-- the line of a misfit: its block, its two trips, and what is wrong
unfoldable pub misfit_line : TimetableView → List NamedBlock → Misfit → List ℕ
misfit_line timetable stated misfit =
    codes "block " ++ (block_at stated misfit.block).name ++ codes ": " ++ (slot_at timetable misfit.before).name ++ codes " to "
    ++ (slot_at timetable misfit.after).name
    ++ why_text misfit.why ++ 10 ∷ []

-- the lines of misfits, and how many they are
unfoldable pub misfits_text : TimetableView → List NamedBlock → List Misfit → List ℕ
misfits_text timetable stated misfits =
    flat_map (misfit_line timetable stated) misfits ++ (codes "no: " ++ decimal (length misfits) ++ codes " pairs do not fit" ++ 10 ∷ [])

-- the line that compares stated blocks with least ones
abbrev pub above_line : Above → List ℕ
above_line Nothing = codes "least" ++ 10 ∷ []
above_line (Vehicles more) = codes "above by " ++ (decimal more ++ (codes " vehicles" ++ 10 ∷ []))
above_line (Minutes more) = codes "above by " ++ (decimal more ++ (codes " minutes" ++ 10 ∷ []))

-- the line of a cost: vehicles and empty minutes
abbrev pub cost_line : ℕ → ℕ → List ℕ
cost_line vehicles minutes = codes "vehicles " ++ (decimal vehicles ++ (codes ", minutes " ++ (decimal minutes ++ 10 ∷ [])))

-- the cost of stated blocks, that of least ones, and how the first compare with the second
unfoldable pub costs_text : ℕ → ℕ → ℕ → ℕ → List ℕ
costs_text vehicles minutes least_vehicles least_minutes =
    cost_line vehicles minutes ++ (codes "least "
    ++ (cost_line least_vehicles least_minutes ++ above_line (above_by vehicles minutes least_vehicles least_minutes)))
