-- The records of a script, one after the other.
use Rattle.std.specs.Prelude.{◌≡◌, ℕ, ◌<◌, List, length, slice_index_or}

-- rule: the loop over the records of a script
-- a line is the one of the n-th record, counted from 0
pub record IsLineAt {Line : Type 0} (lines : List Line) (n : ℕ) (line : Line) : Type 0 where
  pub within : n < length lines
  pub is : (other : Line) → line ≡ slice_index_or lines n other
