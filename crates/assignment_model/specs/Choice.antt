-- Of all least plans the one that is liked best.
use Rattle.std.specs.Prelude.{◌≡◌, ◌≢◌, ℕ, ◌+◌, ◌≤◌, ◌==◌, cond, List, [], ◌∷◌, sum_by, Option, None, Some, if◌then◌else◌}
use Rattle.trip_model.specs.Blocking.{IsLeast}
use Rattle.trip_model.specs.Links.{next_of, AreApart}
use Rattle.trip_model.specs.Network.{Network}
use Rattle.assignment_model.specs.declared.limits.TheConstants.{PRICED}
use Rattle.assignment_model.specs.Prices.{Plan, price, weight}

-- how the links of a block are liked that come after a trip; `like i j` tells how it is liked that j is next after i
abbrev pub liked_after : (ℕ → ℕ → ℕ) → ℕ → List ℕ → ℕ
liked_after like i [] = 0
liked_after like i (j ∷ js) = like i j + liked_after like j js

-- how the links of a block are liked
abbrev pub block_liking : (ℕ → ℕ → ℕ) → List ℕ → ℕ
block_liking like [] = 0
block_liking like (i ∷ js) = liked_after like i js

-- how the links of all blocks are liked together
abbrev pub liking : (ℕ → ℕ → ℕ) → List (List ℕ) → ℕ
liking like blocks = sum_by (block_liking like) blocks

-- rule: which least plan is chosen
-- the blocks are least, and no least blocking is liked more
pub record IsChosen (network : Network) (like : ℕ → ℕ → ℕ) (blocks : List (List ℕ)) : Type 0 where
  pub least : IsLeast network blocks
  pub liked : (others : List (List ℕ)) → IsLeast network others → liking like others ≤ liking like blocks

-- what a side counts for that has to be linked, which it has where its price is not 0
abbrev pub priced : ℕ → ℕ
priced price = cond (price == 0) 0 PRICED

-- what a pair of this weight is worth to the choice: how it is liked, and what the sides count for that it links. None where it
-- is not tight
abbrev pub worth_of : Plan → ℕ → ℕ → ℕ → Option ℕ → Option ℕ
worth_of plan liked i j None = None
worth_of plan liked i j (Some weight) =
    if weight == price plan.leave i + price plan.enter j then Some (liked + priced (price plan.leave i) + priced (price plan.enter j)) else None

-- the worths of pairs, from the prices of a plan and from likings
abbrev pub worths : Network → Plan → (ℕ → ℕ → ℕ) → ℕ → ℕ → Option ℕ
worths network plan like i j = worth_of plan (like i j) i j (weight network i j)

-- links that are worth most: prices of rows and columns prove it, as they do in the assignment problem
pub record AreWorthMost (w : ℕ → ℕ → Option ℕ) (next : List (Option ℕ)) (leave enter : List ℕ) : Type 0 where
  pub once : AreApart next
  pub tight : (i j : ℕ) → next_of next i ≡ Some j → w i j ≡ Some (price leave i + price enter j)
  pub leave_zero : (i : ℕ) → next_of next i ≡ None → price leave i ≡ 0
  pub enter_zero : (j : ℕ) → ((i : ℕ) → next_of next i ≢ Some j) → price enter j ≡ 0
  pub covers : (i j k : ℕ) → w i j ≡ Some k → k ≤ price leave i + price enter j
