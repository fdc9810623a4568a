-- The looks of a search: each is at what it may be at, none is taken twice, and each is a step.
use Rattle.std.specs.Prelude.{◌≡◌, ◌≢◌, ℕ, zero, suc, ◌+◌, ◌<◌, ◌≤◌, Bool, true, List, [], ◌∷◌, ◌++◌, length, Option, None}
use Rattle.std.specs.List.{All}
use Rattle.pair_search.specs.declared.groups.Group.{Group}
use Rattle.pair_search.specs.declared.look.Look.{Look}
use Rattle.pair_search.specs.declared.look.Look.TheVariants.{Visited, Tried, Passed, Led}
use Rattle.pair_graph.specs.Pairs.{PairsView, is_ruled}
use Rattle.pair_search.specs.Arranged.{arranged, slots_of}
use Rattle.pair_search.specs.Groups.{group_at, AreGroups}
use Rattle.pair_search.specs.Order.{IsOrder}
use Rattle.pair_search.specs.Side.{SideView, pairs_minute, pairs_post, side_slots, place_weight, IsSideOf}

-- the row of a look
abbrev pub row_of : Look → ℕ
row_of (Visited row place) = row
row_of (Tried row place) = row
row_of (Passed row group) = row
row_of (Led row) = row

-- the place at which a look begins
abbrev pub place_of : List Group → Look → ℕ
place_of groups (Visited row place) = place
place_of groups (Tried row place) = place
place_of groups (Passed row group) = (group_at groups group).from
place_of groups (Led row) = 0

-- A look is at a row and a column that fit, at a row that a rule names and a column, at a row and a group of the side, or at a row
-- alone.
abbrev pub IsLook : SideView → Look → Type 0
IsLook side (Visited row place) = (row < side_slots side) × (place < side_slots side) × (place_weight side row place ≢ None)
IsLook side (Tried row place) = (row < side_slots side) × (place < side_slots side) × (is_ruled side.pairs side.turned row ≡ true)
IsLook side (Passed row group) = (row < side_slots side) × (group < side.count)
IsLook side (Led row) = row < side_slots side

-- no two looks of a list are alike
abbrev pub AreUnlike : List Look → Type 0
AreUnlike [] = Unit {0}
AreUnlike (look ∷ looks) = All (λ other. look ≢ other) looks × AreUnlike looks

-- rule: the steps of a search
-- the looks of a search over a side: none is taken twice
pub record SearchesOnce (side : SideView) (looks : List Look) : Type 0 where
  pub each : All (IsLook side) looks
  pub unlike : AreUnlike looks

-- a look of a row is at a column from one place on and before another
abbrev pub IsBetween : SideView → ℕ → ℕ → ℕ → Look → Type 0
IsBetween side row from to look = (row_of look ≡ row) × (from ≤ place_of side.groups look) × (place_of side.groups look < to)

-- A row looks at the columns from one place on and before another. It takes at most one look for each.
pub record RowLooks (side : SideView) (row from to : ℕ) (looks : List Look) : Type 0 where
  pub few : from + length looks ≤ to
  pub once : SearchesOnce side looks
  pub between : All (IsBetween side row from to) looks

-- looks over a side, none of which is taken twice, and none of which is of a row
pub record IsOfOthers (side : SideView) (row : ℕ) (looks : List Look) : Type 0 where
  pub once : SearchesOnce side looks
  pub others : All (λ look. row_of look ≢ row) looks

-- the looks of so many searches over a side, one after the other
abbrev pub AreSearches : ℕ → SideView → List Look → Type 0
AreSearches zero side looks = looks ≡ []
AreSearches (suc searches) side looks =
    (first : List Look) × (last : List Look) × (looks ≡ first ++ last) × AreSearches searches side first × SearchesOnce side last

-- Looks are such over a side of pairs, with a column left out. Its columns stand in the order that is computed, and in groups.
pub record AreOfSide (P : SideView → List Look → Type 0) (pairs : PairsView) (turned : Bool) (without : Option ℕ) (looks : List Look)
    : Type 0 where
  pub side : SideView
  pub is : IsSideOf pairs turned without side
  pub columns : IsOrder (length pairs.moves) (pairs_minute pairs turned) (pairs_post pairs turned without) side.columns side.places
  pub slots : slots_of side.columns ≡ arranged pairs turned without
  pub groups : AreGroups (side_slots side) side.columns side.count side.groups
  pub are : P side looks

-- a call takes such looks after those that were taken before, and each is a step
pub record Takes (P : List Look → Type 0) (was now : List Look) (paid total : ℕ) : Type 0 where
  pub looks : List Look
  pub after : now ≡ was ++ looks
  pub steps : total ≡ paid + length looks
  pub are : P looks
