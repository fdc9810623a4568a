-- The pairs of trips, seen from the side that they leave or from the side that they enter.
use Rattle.std.specs.Prelude.{◌≡◌, ℕ, ◌+◌, ◌-◌, ◌<◌, ◌≤◌, nat_le, Bool, true, false, List, length, slice_index_or, Option, None, Some}
use Rattle.std.specs.Prelude.{IfNone, IfSome, if◌then◌else◌}
use Rattle.assignment_model.specs.declared.limits.TheConstants.{MOST_DEADHEAD, VEHICLE_WEIGHT}
use Rattle.deadhead_matrix.specs.declared.limits.TheConstants.{LONGEST_WALK}
use Rattle.assignment_model.specs.Prices.{weight}
use Rattle.trip_model.specs.Links.{leads_to}
use Rattle.trip_model.specs.Plain.{move_at}
use Rattle.deadhead_matrix.specs.Fitting.{name_at}
use Rattle.pair_rules.specs.Rules.{allows}
use Rattle.pair_graph.specs.Pairs.{PairsView, RowView, is_kept, is_ruled, pairs_network, pairs_pull, walks_network}
use Rattle.pair_search.specs.declared.order.Column.{Column}
use Rattle.pair_search.specs.declared.groups.Group.{Group}
use Rattle.pair_graph.specs.declared.share.Share.{Share}
use Rattle.pair_search.specs.declared.line.Reach.{Reach}
use Rattle.pair_search.specs.Order.{column_minute, column_post, no_column, slot_at, place_of}

-- word: row, column = leaving side and entering side of a trip; of a file, record and field; of a chart, line and ten minutes
-- pairs; whether entering sides are the rows; the column that is left out, if one is. Then the columns in an order, with the
-- place of each, and their groups, with how many there are
pub record SideView : Type 0 where
  pub pairs : PairsView
  pub turned : Bool
  pub without : Option ℕ
  pub columns : List Column
  pub places : List ℕ
  pub groups : List Group
  pub count : ℕ

-- the pairs from one side, with a column left out
abbrev pub IsSideOf : PairsView → Bool → Option ℕ → SideView → Type 0
IsSideOf pairs turned without side = side ≡ record {
  pairs = pairs;
  turned = turned;
  without = without;
  columns = side.columns;
  places = side.places;
  groups = side.groups;
  count = side.count;
}

-- how many rows there are, and as many columns
abbrev pub side_slots : SideView → ℕ
side_slots side = length side.pairs.moves

-- what a row and a column weigh, where they fit
unfoldable pub side_weight : SideView → ℕ → ℕ → Option ℕ
side_weight side i j =
    if leads_to j side.without then None
    else (if side.turned then weight (pairs_network side.pairs) j i else weight (pairs_network side.pairs) i j)

-- the same where no rules forbid a pair
abbrev pub side_walk_weight : SideView → ℕ → ℕ → Option ℕ
side_walk_weight side i j =
    if leads_to j side.without then None
    else (if side.turned then weight (walks_network side.pairs) j i else weight (walks_network side.pairs) i j)

-- whether the rules allow the pair of a row and a column
abbrev pub side_allows : SideView → ℕ → ℕ → Bool
side_allows side i j =
    if side.turned then allows side.pairs.matrix.rules (name_at side.pairs.names j) (name_at side.pairs.names i)
    else allows side.pairs.matrix.rules (name_at side.pairs.names i) (name_at side.pairs.names j)

-- the slot of the column at a place
abbrev pub side_slot : SideView → ℕ → ℕ
side_slot side = slot_at (side_slots side) side.columns

-- the place of a column
abbrev pub side_place : SideView → ℕ → ℕ
side_place side = place_of (side_slots side) side.places

-- the minutes of columns
abbrev pub pairs_minute : PairsView → Bool → ℕ → ℕ
pairs_minute pairs turned j = column_minute turned (move_at pairs.moves j)

-- where columns are
abbrev pub pairs_post : PairsView → Bool → Option ℕ → ℕ → Option ℕ
pairs_post pairs turned without j = column_post turned without (is_kept pairs turned j) j (move_at pairs.moves j)

-- what a row and the column at a place weigh, where they fit
abbrev pub place_weight : SideView → ℕ → ℕ → Option ℕ
place_weight side i k = side_weight side i (side_slot side k)

-- the pull at the post of a column; none where it has no post
abbrev pub post_pull : SideView → Option ℕ → ℕ
post_pull side None = 0
post_pull side (Some post) = pairs_pull side.pairs side.turned post

-- one row of a side, and what its pairs share
pub record LineView : Type 0 where
  pub side : SideView
  pub row : ℕ
  pub share : Share

-- no rule has the row's trip as its first or, seen backward, as its second
abbrev pub IsFree : LineView → Type 0
IsFree line = is_ruled line.side.pairs line.side.turned line.row ≡ false

-- what it weighs with the column at a place
abbrev pub line_weight : LineView → ℕ → Option ℕ
line_weight line = place_weight line.side line.row

-- what a row weighs with those columns of a post that it is in time for
abbrev pub reach_weight : LineView → Option ℕ → Reach → ℕ
reach_weight line post reach = line.share.saved + post_pull line.side post - reach.walk

-- what a row weighs with a column of a post that needs it at a minute
abbrev pub weight_from : LineView → Option ℕ → Option Reach → ℕ → Option ℕ
weight_from line post None minute = None
weight_from line post (Some reach) minute = if nat_le reach.minute minute then Some (reach_weight line post reach) else None

-- how a row comes to the columns of a group: it weighs the same with each that it is in time for
pub record IsReachOf (line : LineView) (group : Group) (reach : Option Reach) : Type 0 where
  pub weights : (k : ℕ) → group.from ≤ k → k < group.to
      → line_weight line k
      ≡ weight_from line group.post reach (slice_index_or line.side.columns k (no_column (side_slots line.side))).minute
  pub walk : IfSome reach (λ r. r.walk ≤ LONGEST_WALK)

-- Of the columns of a group before a place those from one on weigh the same with a row. Those before it need it sooner than it
-- is ready.
pub record IsFirstFit (line : LineView) (group : Group) (reach : Reach) (upto first : ℕ) : Type 0 where
  pub within : first ≤ upto
  pub after : first < upto → group.from ≤ first
  pub sooner : (k : ℕ) (d : Column) → group.from ≤ k → k < first → (slice_index_or line.side.columns k d).minute < reach.minute
  pub fits : (k : ℕ) → group.from ≤ k → first ≤ k → k < upto → line_weight line k ≡ Some (reach_weight line group.post reach)

-- what the pairs of a row share is held from the side that is its own, and where nothing is, its trip does not run
pub record IsHeld (side : SideView) (row : ℕ) (share : Share) (leaving entering : Option RowView) : Type 0 where
  pub leaves : IfSome leaving (λ held. (held ≡ record { pairs = side.pairs; slot = row; share = share }) × (side.turned ≡ false))
  pub enters : IfSome entering (λ held. (held ≡ record { pairs = side.pairs; slot = row; share = share }) × (side.turned ≡ true))
  pub idle : IfNone leaving (IfNone entering ((pairs_network side.pairs).live row ≡ false))
  pub least : VEHICLE_WEIGHT ≤ share.saved
  pub most : share.saved ≤ VEHICLE_WEIGHT + MOST_DEADHEAD
