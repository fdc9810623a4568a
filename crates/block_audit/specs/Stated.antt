-- The blocks that a feed states by the `block_id` of its trips.
use Rattle.std.specs.Prelude.{ℕ, ◌<◌, ◌≤◌, ◌==◌, ◌||◌, ◌≡◌, Bool, true, false, List, [], ◌∷◌, length, map, filter, slice_index_or, All}
use Rattle.std.specs.Prelude.{if◌then◌else◌}
use Rattle.std.specs.Str.{IsUtf8, bytes_eq}
use Rattle.gtfs_tables.specs.Table.{TableView}
use Rattle.gtfs_tables.specs.declared.paper.Column.TheVariants as column
use Rattle.desk_settings.specs.Selected.{field_of, selected_fields, slot_field}
use Rattle.trip_model.specs.declared.limits.TheConstants.{MOST_SLOTS}
use Rattle.trip_model.specs.Order.{by_departure}
use Rattle.trip_model.specs.Plain.{trip_moves}
use Rattle.trip_model.specs.Timetable.{TimetableView}

-- a stated block: its name, which is empty for a trip without one, and the slots of its trips
pub record NamedBlock : Type 0 where
  pub name : List ℕ
  pub slots : List ℕ

-- the `block_id` of a record, in the first column of that name; empty where there is no such column
abbrev pub block_field : TableView → ℕ → List ℕ
block_field trips r = field_of column.BlockId trips r

-- the `block_id` of each selected record is text
abbrev pub AreNames : TableView → List Bool → Type 0
AreNames trips chosen = (r : ℕ) → r < length trips.rows → slice_index_or chosen r false ≡ true → IsUtf8 (block_field trips r)

-- the `block_id` of the selected records, in their order: that of the n-th, counted from 0, is of the trip in slot n
abbrev pub stated_names : TableView → List Bool → List (List ℕ)
stated_names trips chosen = selected_fields column.BlockId trips chosen

-- the name that a slot has; empty for one without a record
abbrev pub name_at : List (List ℕ) → ℕ → List ℕ
name_at names s = slot_field names s

-- the trip of a slot has no name, and so a block of its own
abbrev pub is_alone : List (List ℕ) → ℕ → Bool
is_alone names s = length (name_at names s) == 0

-- a slot has that name
abbrev pub is_of : List (List ℕ) → List ℕ → ℕ → Bool
is_of names name s = bytes_eq (name_at names s) name

-- the first of the slots that has that name is s
abbrev pub is_first : List (List ℕ) → List ℕ → List ℕ → ℕ → Bool
is_first names name [] s = false
is_first names name (x ∷ slots) s = if is_of names name x then x == s else is_first names name slots s

-- a trip begins a block: it has no name, or is the first of its name
abbrev pub begins : List (List ℕ) → List ℕ → ℕ → Bool
begins names order s = is_alone names s || is_first names (name_at names s) order s

-- the block that begins with a trip: all trips of its name in their order, or that trip alone
abbrev pub block_from : List (List ℕ) → List ℕ → ℕ → NamedBlock
block_from names order s = record {
  name = name_at names s;
  slots = if is_alone names s then s ∷ [] else filter (is_of names (name_at names s)) order;
}

-- the blocks of slots by their names, in the order of their first trips
abbrev pub blocks_by : List (List ℕ) → List ℕ → List NamedBlock
blocks_by names order = map (block_from names order) (filter (begins names order) order)

-- rule: which blocks a feed states
-- The stated blocks. The trips that run and have one name are one block, in order of departure and then of slot. Every other
-- trip that runs is a block of its own with the empty name. They are in the order of their first trips.
abbrev pub stated_in : TableView → TimetableView → List Bool → List NamedBlock
stated_in trips timetable chosen = blocks_by (stated_names trips chosen) (by_departure (trip_moves timetable.slots))

-- the stated block of that number, and past the last one a block without trips
abbrev pub block_at : List NamedBlock → ℕ → NamedBlock
block_at stated b = slice_index_or stated b (record { name = []; slots = [] })

-- the slots of the blocks, without their names
abbrev pub slots_by : List NamedBlock → List (List ℕ)
slots_by stated = map (λ b. b.slots) stated

-- what stated blocks always are: at most as many as slots, each with a trip
pub record AreStated (stated : List NamedBlock) : Type 0 where
  pub few : length stated ≤ MOST_SLOTS
  pub filled : All (λ b. 0 < length b.slots) stated
