-- The changes of a place as the leaves of a tree. Each leaf sums one change.
use Rattle.std.specs.Prelude.{List, map, ℤ}
use Rattle.terminal_maxima.specs.declared.max_prefix.MaxPrefix.{MaxPrefix}

-- the sums of the leaves
abbrev pub sums : List MaxPrefix → List ℤ
sums leaves = map (λ (leaf : MaxPrefix). leaf.sum) leaves
