-- Groups of columns, and what a search has seen of them.
use Rattle.std.specs.Prelude.{◌≡◌, ℕ, ◌+◌, ◌-◌, ◌<◌, ◌≤◌, nat_lt, Bool, false, List, length, slice_index_or, Option, None, Some}
use Rattle.std.specs.Prelude.{if◌then◌else◌}
use Rattle.trip_model.specs.declared.limits.TheConstants.{MOST_SLOTS}
use Rattle.pair_search.specs.declared.groups.Group.{Group}
use Rattle.pair_search.specs.declared.limits.TheConstants.{GREATEST_PRICE, UNREACHED}
use Rattle.pair_search.specs.declared.order.Column.{Column}
use Rattle.pair_search.specs.declared.scan.Nearby.{Nearby}
use Rattle.pair_search.specs.declared.tree.Seen.{Seen}
use Rattle.pair_search.specs.declared.tree.Tree.{Tree}
use Rattle.pair_search.specs.Search.{at, is_done, Columns}
use Rattle.pair_search.specs.declared.orders.Order.{Order}
use Rattle.pair_search.specs.Arranged.{arranged, slots_of}
use Rattle.pair_search.specs.Order.{IsOrder}
use Rattle.pair_search.specs.Leads.{AreLed}
use Rattle.pair_search.specs.Side.{LineView, SideView, line_weight, pairs_minute, pairs_post, post_pull}
use Rattle.pair_graph.specs.Pairs.{PairsView}

-- a group of a list; past its end one without columns
abbrev pub group_at : List Group → ℕ → Group
group_at groups r = slice_index_or groups r (record { post = None; from = 0; to = 0; latest = 0 })

-- the place at which a group of so many begins; that past the last column where there is no such group
abbrev pub begins : ℕ → ℕ → List Group → ℕ → ℕ
begins n count groups r = if nat_lt r count then (group_at groups r).from else n

-- The columns in so many groups, one after the other. Those of one are at its post, and their minutes rise
-- to its latest one.
pub record AreGroups (n : ℕ) (columns : List Column) (count : ℕ) (groups : List Group) : Type 0 where
  pub few : count ≤ n
  pub most : count ≤ MOST_SLOTS
  pub room : count ≤ length groups
  pub first : begins n count groups 0 ≡ 0
  pub next : (r : ℕ) → r < count → (group_at groups r).to ≡ begins n count groups (r + 1)
  pub after : (r : ℕ) → r < count → (group_at groups r).from < (group_at groups r).to
  pub within : (r : ℕ) → r < count → (group_at groups r).to ≤ n
  pub posts : (r k : ℕ) (d : Column) → r < count → (group_at groups r).from ≤ k → k < (group_at groups r).to
      → (slice_index_or columns k d).post ≡ (group_at groups r).post
  pub rise : (r h k : ℕ) (d : Column) → r < count → (group_at groups r).from ≤ h → h ≤ k → k < (group_at groups r).to
      → (slice_index_or columns h d).minute ≤ (slice_index_or columns k d).minute
  pub last : (r : ℕ) (d : Column) → r < count → (slice_index_or columns ((group_at groups r).to - 1) d).minute ≡ (group_at groups r).latest

-- The columns of one side of pairs are in order and in groups. Their order is the one that is computed: by post, then by minute,
-- then by slot.
pub record IsOrderOf (pairs : PairsView) (turned : Bool) (without : Option ℕ) (order : Order) : Type 0 where
  pub columns : IsOrder (length pairs.moves) (pairs_minute pairs turned) (pairs_post pairs turned without) order.columns.items
      order.places.items
  pub slots : slots_of order.columns.items ≡ arranged pairs turned without
  pub groups : AreGroups (length pairs.moves) order.columns.items order.count order.groups.items

-- what was seen at a place of a list
abbrev pub seen_at : List Seen → ℕ → Seen
seen_at seen r = slice_index_or seen r (record { near = 0; cost = 0; from = 0; minute = 0 })

-- of the columns of each group that are not done none is nearer than what was seen of it
abbrev pub AreNear : ℕ → List Group → List Bool → List ℕ → List Seen → Type 0
AreNear count groups done dist seen = (r j : ℕ) → r < count → (group_at groups r).from ≤ j → j < (group_at groups r).to
    → is_done done j ≡ false → (seen_at seen r).near ≤ at dist j

-- the pull at the post of a group
abbrev pub group_pull : SideView → ℕ → ℕ
group_pull side r = post_pull side (group_at side.groups r).post

-- The columns of each group from a place on are no farther than as they are reached at a cost, which leaves out the pull of their
-- post. Those before it need a row sooner than at a minute.
pub record AreReached (side : SideView) (enter : List ℕ) (done : List Bool) (dist : List ℕ) (seen : List Seen) : Type 0 where
  pub covered : (r j : ℕ) → r < side.count → (seen_at seen r).from ≤ j → (group_at side.groups r).from ≤ j → j < (group_at side.groups r).to
      → is_done done j ≡ false → at dist j + GREATEST_PRICE + group_pull side r ≤ (seen_at seen r).cost + at enter j
  pub sooner : (r j : ℕ) (d : Column) → r < side.count → (group_at side.groups r).from ≤ j → j < (group_at side.groups r).to
      → j < (seen_at seen r).from → (seen_at seen r).cost < UNREACHED → (slice_index_or side.columns j d).minute < (seen_at seen r).minute

-- what a tree has seen of the groups of a side is so, and so are the leads of its posts
pub record IsSeen (side : SideView) (enter : List ℕ) (tree : Tree) : Type 0 where
  pub room : side.count ≤ length tree.seen.items
  pub near : AreNear side.count side.groups tree.done.items tree.dist.items tree.seen.items
  pub reached : AreReached side enter tree.done.items tree.dist.items tree.seen.items
  pub posts : length side.pairs.matrix.walks ≤ length tree.leads.items
  pub led : AreLed side enter tree.done.items tree.dist.items tree.leads.items

-- no column of a group that is not done comes nearer by a row
abbrev pub IsSpent : LineView → Group → ℕ → List ℕ → Columns → Type 0
IsSpent line group start enter now = (j k : ℕ) → group.from ≤ j → j < group.to → is_done now.done j ≡ false → line_weight line j ≡ Some k
    → at now.dist j + k ≤ start + at enter j

-- a row brings a column nearer that is not done: so far it is by what they weigh
pub record IsNearerBy (line : LineView) (column start : ℕ) (enter : List ℕ) (now : Columns) (along : ℕ) : Type 0 where
  pub undone : is_done now.done column ≡ false
  pub weight : ℕ
  pub fits : line_weight line column ≡ Some weight
  pub exact : along + weight ≡ start + at enter column
  pub nearer : along < at now.dist column

-- a column that is not done comes no nearer by a row
abbrev pub IsNoNearerBy : LineView → ℕ → ℕ → List ℕ → Columns → Type 0
IsNoNearerBy line column start enter now = (k : ℕ) → is_done now.done column ≡ false → line_weight line column ≡ Some k
    → at now.dist column + k ≤ start + at enter column

-- Columns between two places were approached at a cost from a place of the tree. Each that is not done is no farther than
-- before and than the cost with its price. If it is nearer than before, it was reached so. None of these is nearer than `near`.
pub record AreApproached (first upto from cost : ℕ) (enter : List ℕ) (was now : Columns) (near : ℕ) : Type 0 where
  pub covered : (j : ℕ) → first ≤ j → j < upto → is_done was.done j ≡ false → at now.dist j + GREATEST_PRICE ≤ cost + at enter j
  pub nearer : (j : ℕ) → at now.dist j ≤ at was.dist j
  pub same : (j : ℕ) → at was.dist j ≤ at now.dist j → at now.parent j ≡ at was.parent j
  pub between : (j : ℕ) → at now.dist j < at was.dist j → (first ≤ j) × (j < upto)
  pub undone : (j : ℕ) → at now.dist j < at was.dist j → is_done was.done j ≡ false
  pub by : (j : ℕ) → at now.dist j < at was.dist j → at now.parent j ≡ from
  pub exact : (j : ℕ) → at now.dist j < at was.dist j → at now.dist j + GREATEST_PRICE ≡ cost + at enter j
  pub least : (j : ℕ) → at now.dist j < at was.dist j → near ≤ at now.dist j

-- a column from a place on that is not done is nearer than those before
pub record IsNearer (from : ℕ) (done : List Bool) (dist : List ℕ) (best now : Nearby) : Type 0 where
  pub column : ℕ
  pub is : now.column ≡ Some column
  pub within : column < length dist
  pub undone : is_done done column ≡ false
  pub far : at dist column ≡ now.distance
  pub nearer : now.distance < best.distance
  pub first : (h : ℕ) → from ≤ h → h < column → is_done done h ≡ false → now.distance < at dist h
