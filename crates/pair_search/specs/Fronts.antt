-- What the lists of a search show of how far it has come.
use Rattle.std.specs.Prelude.{◌≡◌, ℕ, ◌+◌, ◌<◌, Bool, List, length, Option}
use Rattle.assignment_model.specs.Prices.{Plan}
use Rattle.pair_search.specs.Determined.{Front, grown, linked_back}
use Rattle.pair_search.specs.Search.{at}
use Rattle.pair_search.specs.declared.limits.TheConstants.{FAR}
use Rattle.pair_search.specs.declared.tree.Tree.{Tree}

-- Lists of columns and of the tree's rows show a front, and the row at a place its best end. A column that was reached was so
-- from the row at the place which is its parent
pub record IsShown (dist parent : List ℕ) (done : List Bool) (rows : List ℕ) (place : ℕ) (to : Option ℕ) (fall : ℕ)
    (front : Front) : Type 0 where
  pub far : dist ≡ front.dist
  pub closed : done ≡ front.done
  pub from : (j : ℕ) → j < length dist → at dist j < FAR → at rows (at parent j) ≡ at front.from j
  pub row : at rows place ≡ front.row
  pub column : to ≡ front.to
  pub best : fall ≡ front.fall

-- the same of a tree
abbrev pub Shows : Tree → ℕ → Option ℕ → ℕ → Front → Type 0
Shows tree place to fall front = IsShown tree.dist.items tree.parent.items tree.done.items tree.rows.items place to fall front

-- a search with so many rows in its tree shows a front, from which it ends as the whole does
pub record IsOnWay (w : ℕ → ℕ → Option ℕ) (plan : Plan) (whole : Front) (size : ℕ) (dist parent : List ℕ) (done : List Bool)
    (rows : List ℕ) (place : ℕ) (to : Option ℕ) (fall : ℕ) : Type 0 where
  pub front : Front
  pub shown : IsShown dist parent done rows place to fall front
  pub picks : ℕ
  pub left : picks + size ≡ length dist + 1
  pub rest : grown w plan picks front ≡ whole

-- links so far, on the way back to the row at a place, which are linked anew from there as the whole is
pub record IsOnWayBack (from : List ℕ) (whole now : List (Option ℕ)) (row : ℕ) (to : Option ℕ) (place : ℕ) : Type 0 where
  pub rows : ℕ
  pub enough : place < rows
  pub rest : linked_back from rows now row to ≡ whole
