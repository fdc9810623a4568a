-- Bytes without a double quote: line ends part them into records, and commas part a record into its fields.
use Rattle.std.specs.Prelude.{◌≡◌, ℕ, ◌==◌, ◌||◌, ◌++◌, Bool, false, List, [], ◌∷◌, Option, Some, None, if◌then◌else◌}
use Rattle.std.specs.Borrow.{Bor}
use Rattle.std.specs.List.{list_any}
use Rattle.csv.specs.Machine.{carriage_return, line_feed}
use Rattle.csv.specs.Records.{Row, fields_of}
use Rattle.csv.specs.Writing.{comma, quote_mark}

-- whether a byte ends a line
abbrev pub ends_line : ℕ → Bool
ends_line b = (b == carriage_return) || (b == line_feed)

-- the bytes from the next line on that has a byte
abbrev pub from_line : List ℕ → List ℕ
from_line [] = []
from_line (b ∷ rest) = if ends_line b then from_line rest else b ∷ rest

-- bytes without a double quote
abbrev pub IsUnquoted : List ℕ → Type 0
IsUnquoted bytes = list_any (λ b. b == quote_mark) bytes ≡ false

-- the parts of a line between its commas, where these bytes stand before it
unfoldable pub parts_after : List ℕ → List ℕ → List (List ℕ)
parts_after part [] = part ∷ []
parts_after part (b ∷ rest) = if b == comma then part ∷ parts_after [] rest else parts_after (part ++ b ∷ []) rest

-- the parts of a line between its commas
abbrev pub parts : List ℕ → List (List ℕ)
parts line = parts_after [] line

-- the parts of what is behind a comma, where there is one
abbrev pub later_parts : Option (Bor (List ℕ)) → List (List ℕ)
later_parts None = []
later_parts (Some behind) = parts behind.now

-- the fields of a record: the parts of a line, or those that `csv` holds
abbrev pub fields_in : Bool → List ℕ → Row → List (List ℕ)
fields_in is_line line held = if is_line then parts line else fields_of held
