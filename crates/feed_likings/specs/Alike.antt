-- Which slots have a field alike, by their bytes: trips of one line, and trips of one stated block.
use Rattle.std.specs.Prelude.{ℕ, ◌==◌, ◌||◌, List, [], ◌∷◌, ◌++◌, length, Option, None, Some, if◌then◌else◌}
use Rattle.std.specs.Str.{bytes_eq}
use Rattle.gtfs_tables.specs.Entries.{Entries, has_name, value_of}
use Rattle.desk_settings.specs.Selected.{slot_field}
use Rattle.trip_model.specs.Timetable.{number_of}

-- the first slot that has the same field as a slot; None where that is empty
abbrev pub first_alike : List (List ℕ) → ℕ → Option ℕ
first_alike fields s = if length (slot_field fields s) == 0 then None else number_of fields (slot_field fields s)

-- fields with the first slot of each, where one more slot is noted: if its field is new, and not empty
abbrev pub with_slot : Entries ℕ → List ℕ → ℕ → Entries ℕ
with_slot firsts field s = if (length field == 0) || has_name field firsts then firsts else firsts ++ (field, s) ∷ []

-- the first slot of a field by what is noted; None where the field is empty
abbrev pub noted_number : Entries ℕ → List ℕ → Option ℕ
noted_number firsts field = if length field == 0 then None else value_of field firsts

-- the first of slots that has this field
abbrev pub first_with : List (List ℕ) → List ℕ → List ℕ → Option ℕ
first_with fields field [] = None
first_with fields field (t ∷ slots) = if bytes_eq field (slot_field fields t) then Some t else first_with fields field slots

-- the first of slots that is of the same stated block as a slot, by the `block_id` of the slots; none where its own is empty
abbrev pub first_of_block : List (List ℕ) → ℕ → List ℕ → Option ℕ
first_of_block names s slots = if length (slot_field names s) == 0 then None else first_with names (slot_field names s) slots

-- rule: the next trip of a stated block
-- the next trip of a slot in its stated block: of the slots behind it in an order the first of that block, if there is one
abbrev pub stated_next : List (List ℕ) → List ℕ → ℕ → Option ℕ
stated_next names [] s = None
stated_next names (t ∷ order) s = if t == s then first_of_block names s order else stated_next names order s
