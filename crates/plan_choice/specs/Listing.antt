-- The tight pairs as they are listed, row by row.
use Rattle.std.specs.Prelude.{◌≡◌, ℕ, ◌<◌, ◌≤◌, List, [], ◌∷◌, ◌++◌, length, slice_index_or, Option, None, Some}
use Rattle.assignment_model.specs.Choice.{worths}
use Rattle.assignment_model.specs.Prices.{Plan}
use Rattle.deadhead_matrix.specs.declared.pulls.Pull.{Pull}
use Rattle.deadhead_matrix.specs.Pulls.{pull_at}
use Rattle.list_search.specs.Lists.{ListsView, behind, listed, value_of}
use Rattle.list_search.specs.declared.lists.Pair.{Pair}
use Rattle.pair_graph.specs.Pairs.{PairsView, pairs_network}
use Rattle.plan_choice.specs.Chosen.{pair_liking}
use Rattle.plan_choice.specs.Likings.{LikingsView}
use Rattle.plan_choice.specs.declared.start.Start.{Start}
use Rattle.trip_model.specs.Plain.{move_at}
use Rattle.trip_model.specs.declared.trip.Move.{Move}

-- what pairs are worth to the choice, of a plan by likings
abbrev pub pair_worths : PairsView → LikingsView → Plan → ℕ → ℕ → Option ℕ
pair_worths pairs likings plan = worths (pairs_network pairs) plan (pair_liking pairs likings)

-- where and when a move begins, and the minutes out of the depot to there; all 0 where there is none
abbrev pub start_by : List Pull → Option Move → Start
start_by pulls None = record { place = 0; leaves = 0; out = 0 }
start_by pulls (Some m) = record { place = m.from; leaves = m.leaves; out = (pull_at pulls m.from).pull_out }

-- the start of the trip of a slot
abbrev pub start_at : PairsView → ℕ → Start
start_at pairs s = start_by pairs.matrix.pulls (move_at pairs.moves s)

-- the starts of the trips of all slots
pub record AreStarts (pairs : PairsView) (starts : List Start) : Type 0 where
  pub count : length starts ≡ length pairs.moves
  pub each : (s : ℕ) (d : Start) → s < length pairs.moves → slice_index_or starts s d ≡ start_at pairs s

-- what a row lists with one column more, where that has a value
abbrev pub with_value : List Pair → ℕ → Option ℕ → List Pair
with_value row j None = row
with_value row j (Some value) = row ++ record { column = j; value = value } ∷ []

-- of the columns below one a row lists those that have a value, and it lists no other
pub record IsListed (w : ℕ → Option ℕ) (upto : ℕ) (row : List Pair) : Type 0 where
  pub below : (j : ℕ) → j < upto → value_of row j ≡ w j
  pub past : (j : ℕ) → upto ≤ j → value_of row j ≡ None
  pub behind : behind 0 row ≤ upto

-- the first rows, so many, list what pairs are worth; the row that is open is empty
pub record AreListed (w : ℕ → ℕ → Option ℕ) (n upto : ℕ) (lists : ListsView) : Type 0 where
  pub slots : lists.slots ≡ n
  pub count : length lists.rows ≡ upto
  pub begun : lists.begun ≡ []
  pub each : (i j : ℕ) → i < upto → listed lists i j ≡ w i j
