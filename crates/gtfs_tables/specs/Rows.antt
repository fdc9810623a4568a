-- One record of a file.
use Rattle.std.specs.Prelude.{ℕ, ◌-◌, List, [], ◌++◌, length, replicate}

-- a record with empty fields at its end, up to this many fields
abbrev pub padded : ℕ → List (List ℕ) → List (List ℕ)
padded width fields = fields ++ replicate (width - length fields) []
