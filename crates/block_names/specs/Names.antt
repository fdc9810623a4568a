-- How blocks are named: by the names that a feed states for their trips, and by numbers.
use Rattle.std.specs.Prelude.{ℕ, ◌+◌, ◌==◌, List, [], ◌∷◌, ◌++◌, length, map, filter, fold, nat_lt, not, slice_index_or, Option, None}
use Rattle.std.specs.Prelude.{Some, option_map, if◌then◌else◌}
use Rattle.std.specs.Fmt.{decimal}
use Rattle.std.specs.List.{list_any, range_with_len}
use Rattle.std.specs.Str.{bytes_eq}
use Rattle.desk_settings.specs.Selected.{slot_field}
use Rattle.trip_model.specs.Links.{leads_to}

-- what numbered names begin with, and by slot the name of the block that the feed states; it is empty where it states none
pub record NamingView : Type 0 where
  pub prefix : List ℕ
  pub stated : List (List ℕ)

-- of two numbers the one that counts more, and the first where both count as much; none counts nothing
abbrev pub with_more : (ℕ → ℕ) → Option ℕ → ℕ → Option ℕ
with_more count None x = if count x == 0 then None else Some x
with_more count (Some most) x = if nat_lt (count most) (count x) then Some x else Some most

-- the first of a list that counts most
abbrev pub first_most : (ℕ → ℕ) → List ℕ → Option ℕ
first_most count xs = fold (with_more count) None xs

-- how many trips of a block have that stated name
abbrev pub trips_named : List (List ℕ) → List ℕ → List ℕ → ℕ
trips_named stated name block = length (filter (λ s. bytes_eq (slot_field stated s) name) block)

-- rule: which block a stated name asks for
-- a stated name asks for the block that has most of its trips, the first of several
abbrev pub asks_for : List (List ℕ) → List (List ℕ) → List ℕ → Option ℕ
asks_for stated blocks name =
    first_most (λ b. trips_named stated name (slice_index_or blocks b [])) (range_with_len 0 (length blocks))

-- how many trips a block has of the name of a slot, where the slot has one and that asks for this block; else 0
abbrev pub trips_asking : List (List ℕ) → List (List ℕ) → ℕ → ℕ → ℕ
trips_asking stated blocks b s =
    if length (slot_field stated s) == 0 then 0
    else if leads_to b (asks_for stated blocks (slot_field stated s))
    then trips_named stated (slot_field stated s) (slice_index_or blocks b []) else 0

-- rule: which stated name a block takes
-- of the names that ask for a block it takes the one of which it has most trips, the first by its trips where several have as many
abbrev pub taken_by : List (List ℕ) → List (List ℕ) → ℕ → Option (List ℕ)
taken_by stated blocks b = option_map (slot_field stated) (first_most (trips_asking stated blocks b) (slice_index_or blocks b []))

-- the prefix and a number
abbrev pub name_numbered : List ℕ → ℕ → List ℕ
name_numbered prefix number = prefix ++ decimal number

-- the names with the numbers from 1 on that are not stated: at least as many as are asked for
abbrev pub free_names : NamingView → ℕ → List (List ℕ)
free_names naming count =
    filter (λ name. not (list_any (bytes_eq name) naming.stated))
    (map (name_numbered naming.prefix) (range_with_len 1 (count + length naming.stated)))

-- the names that blocks take, and for each block that takes none the next of the free ones
abbrev pub filled_up : List (List ℕ) → List (Option (List ℕ)) → List (List ℕ)
filled_up free [] = []
filled_up free (Some name ∷ taken) = name ∷ filled_up free taken
filled_up [] (None ∷ taken) = [] ∷ filled_up [] taken
filled_up (name ∷ free) (None ∷ taken) = name ∷ filled_up free taken

-- rule: the name of a block
-- The names of blocks. A block has the stated name that it takes. Each other has the prefix and the least number from 1 on whose
-- name is neither stated nor another's.
unfoldable pub names_of : NamingView → List (List ℕ) → List (List ℕ)
names_of naming blocks =
    filled_up (free_names naming (length blocks)) (map (taken_by naming.stated blocks) (range_with_len 0 (length blocks)))
