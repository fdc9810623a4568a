-- The line of the numbers of a timetable, for every command that puts it.
use Rattle.std.specs.Prelude.{ℕ, List, [], ◌∷◌, ◌++◌, codes}
use Rattle.std.specs.Fmt.{decimal}

-- rule: the line of the three numbers
-- three numbers: the fewest vehicles without deadheads and without rules of pairs, the vehicles of blocks, and their empty minutes
unfoldable pub numbers_line : ℕ → ℕ → ℕ → List ℕ
numbers_line fixed vehicles minutes =
    codes "fixed " ++ (decimal fixed ++ (codes ", vehicles " ++ (decimal vehicles ++ (codes ", minutes " ++ (decimal minutes ++ 10 ∷ [])))))
