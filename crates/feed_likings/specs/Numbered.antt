-- Stated blocks by numbers: slots have one number where they are of one block.
use Rattle.std.specs.Prelude.{ℕ, ◌==◌, List, [], ◌∷◌, slice_index_or, Option, None, Some, option_and_then, if◌then◌else◌}
use Rattle.trip_model.specs.Links.{leads_to}

-- the number of a slot; none past the last one
abbrev pub number_at : List (Option ℕ) → ℕ → Option ℕ
number_at numbers s = slice_index_or numbers s None

-- the first of slots that has this number
abbrev pub first_numbered : List (Option ℕ) → ℕ → List ℕ → Option ℕ
first_numbered numbers b [] = None
first_numbered numbers b (t ∷ slots) = if leads_to b (number_at numbers t) then Some t else first_numbered numbers b slots

-- of the slots behind a slot in an order the first that has its number
abbrev pub next_numbered : List (Option ℕ) → List ℕ → ℕ → Option ℕ
next_numbered numbers [] s = None
next_numbered numbers (t ∷ order) s =
    if t == s then option_and_then (λ b. first_numbered numbers b order) (number_at numbers s) else next_numbered numbers order s
