-- Stated names by numbers: slots have one number where they have one name.
use Rattle.std.specs.Prelude.{ℕ, ◌==◌, List, [], length, map, filter, not, slice_index_or, Option, None, Some, if◌then◌else◌}
use Rattle.std.specs.List.{range_with_len}
use Rattle.desk_settings.specs.Names.{is_among}
use Rattle.trip_model.specs.Links.{leads_to}
use Rattle.trip_model.specs.Timetable.{number_of}
use Rattle.block_names.specs.Names.{first_most, name_numbered}

-- the number of a name among names; none where it is empty
abbrev pub number_of_name : List (List ℕ) → List ℕ → Option ℕ
number_of_name names name = if length name == 0 then None else number_of names name

-- the number at a place; none past the last one
abbrev pub number_at : List (Option ℕ) → ℕ → Option ℕ
number_at numbers s = slice_index_or numbers s None

-- how many trips of a block have that number
abbrev pub trips_numbered : List (Option ℕ) → ℕ → List ℕ → ℕ
trips_numbered numbers k block = length (filter (λ s. leads_to k (number_at numbers s)) block)

-- which block the name of a number asks for
abbrev pub block_asked : List (Option ℕ) → List (List ℕ) → ℕ → Option ℕ
block_asked numbers blocks k =
    first_most (λ b. trips_numbered numbers k (slice_index_or blocks b [])) (range_with_len 0 (length blocks))

-- how many trips of a block have a number whose name asks for that block; 0 for another
abbrev pub trips_asking_by : List (Option ℕ) → List (Option ℕ) → ℕ → List ℕ → Option ℕ → ℕ
trips_asking_by numbers asked b block None = 0
trips_asking_by numbers asked b block (Some k) =
    if leads_to b (number_at asked k) then trips_numbered numbers k block else 0

-- of the names that ask for a block that of which it has most trips, by a slot that has it
abbrev pub slot_taken : List (Option ℕ) → List (Option ℕ) → ℕ → List ℕ → Option ℕ
slot_taken numbers asked b block = first_most (λ s. trips_asking_by numbers asked b block (number_at numbers s)) block

-- of the names with so many numbers from one on those that are not stated
abbrev pub free_from : List ℕ → List (List ℕ) → ℕ → ℕ → List (List ℕ)
free_from prefix stated number left =
    filter (λ name. not (is_among name stated)) (map (name_numbered prefix) (range_with_len number left))
