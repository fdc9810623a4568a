-- The names of blocks, each at the number of its block, and when blocks can be told apart by them.
use Rattle.std.specs.Prelude.{◌≡◌, ℕ, ◌<◌, List, [], length, slice_index_or, All, IsUtf8}
use Rattle.trip_model.specs.Timetable.{AreDistinct}

-- the name of the block of that number, counted from 0
abbrev pub block_name : List (List ℕ) → ℕ → List ℕ
block_name names number = slice_index_or names number []

-- a text that has a byte
pub record IsName (name : List ℕ) : Type 0 where
  pub text : IsUtf8 name
  pub filled : 0 < length name

-- names of so many blocks, of which no two have the same
pub record AreBlockNames (count : ℕ) (names : List (List ℕ)) : Type 0 where
  pub each : All IsName names
  pub apart : AreDistinct names
  pub counted : length names ≡ count
