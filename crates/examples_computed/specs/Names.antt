-- How the blocks of small plans are named.
use Rattle.std.specs.Prelude.{ℕ, List, [], ◌∷◌, codes}
use Rattle.block_names.specs.Names.{NamingView}

-- by numbers behind a B
abbrev pub numbered_by_b : NamingView
numbered_by_b = record { prefix = codes "B"; stated = [] }

-- The feed states the block of seven trips: the first two are of E, the next two of B2, the fifth of F, the sixth of none, and the
-- last of B2 too.
abbrev pub stated_by_seven : NamingView
stated_by_seven = record {
  prefix = codes "B";
  stated = codes "E" ∷ codes "E" ∷ codes "B2" ∷ codes "B2" ∷ codes "F" ∷ [] ∷ codes "B2" ∷ [];
}

-- four blocks of these trips
abbrev pub four_blocks : List (List ℕ)
four_blocks = (0 ∷ 2 ∷ []) ∷ (1 ∷ 3 ∷ 4 ∷ []) ∷ (5 ∷ []) ∷ (6 ∷ []) ∷ []
