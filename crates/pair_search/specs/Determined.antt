-- What a search finds, computed from its start: the weights, the links with their prices, and the row from which it goes out.
use Rattle.std.specs.Prelude.{ℕ, zero, suc, ◌+◌, ◌-◌, ◌==◌, ◌&&◌, min, nat_lt, not, Bool, true, false, List, [], ◌∷◌, map, replicate}
use Rattle.std.specs.Prelude.{length, slice_set, Option, None, Some, if◌then◌else◌}
use Rattle.std.specs.List.{range_with_len}
use Rattle.assignment_model.specs.Prices.{Plan, price}
use Rattle.trip_model.specs.Links.{next_of, before_of}
use Rattle.pair_search.specs.declared.limits.TheConstants.{GREATEST_PRICE, FAR}
use Rattle.pair_search.specs.Relinking.{lost}
use Rattle.pair_search.specs.Search.{at, is_done}

-- How far a search has come. For each column how far it is, the row from which it was reached, and whether it is done. Then the
-- best end so far: when prices have fallen so far, a row is linked to a column, or to none
pub record Front : Type 0 where
  pub dist : List ℕ
  pub from : List ℕ
  pub done : List Bool
  pub row : ℕ
  pub to : Option ℕ
  pub fall : ℕ

-- how far a column is, or else the bound
abbrev pub nearness : List ℕ → ℕ → Option ℕ → ℕ
nearness dist bound None = bound
nearness dist bound (Some j) = at dist j

-- rule: ties between least plans
-- of so many columns the nearest that is not done and nearer than a bound; of several the first
abbrev pub first_nearest : ℕ → List Bool → List ℕ → ℕ → Option ℕ
first_nearest zero done dist bound = None
first_nearest (suc j) done dist bound =
    if not (is_done done j) && nat_lt (at dist j) (nearness dist bound (first_nearest j done dist bound)) then Some j
    else first_nearest j done dist bound

-- how far a column is once a row has looked at it, at a cost less the weight of the pair; before it was so far
abbrev pub approached : Bool → Option ℕ → ℕ → ℕ → ℕ
approached true fits cost far = far
approached false None cost far = far
approached false (Some weight) cost far = min far (cost - weight)

-- how far columns are once a row has looked at them, which is so far with its price
abbrev pub dist_from : (ℕ → Option ℕ) → ℕ → List ℕ → List Bool → List ℕ → List ℕ
dist_from w start enter done dist =
    map (λ j. approached (is_done done j) (w j) (start + at enter j) (at dist j)) (range_with_len 0 (length dist))

-- the rows from which columns were reached, where those that came nearer were reached from this one
abbrev pub rows_from : ℕ → List ℕ → List ℕ → List ℕ → List ℕ
rows_from row dist dist' from = map (λ j. if nat_lt (at dist' j) (at dist j) then row else at from j) (range_with_len 0 (length dist))

-- a row looks at all columns, which is so far with its price. When prices have fallen so far, it could stay alone: that is the
-- best end where it is strictly sooner
abbrev pub looked : (ℕ → Option ℕ) → ℕ → ℕ → List ℕ → Front → Front
looked w row start enter front = record {
  dist = dist_from w start enter front.done front.dist;
  from = rows_from row front.dist (dist_from w start enter front.done front.dist) front.from;
  done = front.done;
  row = if nat_lt start front.fall then row else front.row;
  to = front.to;
  fall = min front.fall start;
}

-- the row comes in that is linked to a column, and looks at all columns
unfoldable pub visited : (ℕ → ℕ → Option ℕ) → Plan → ℕ → ℕ → Front → Front
visited w plan column row front =
    looked (w row) row (at front.dist column + price plan.leave row) plan.enter (record front { done = slice_set front.done column true })

-- Pick after pick, so many at most: the nearest column that is nearer than the best end. One that is linked to none ends the
-- search. Else the row comes in that is linked to it
unfoldable pub grown : (ℕ → ℕ → Option ℕ) → Plan → ℕ → Front → Front
grown w plan zero front = front
grown w plan (suc picks) front = elim (first_nearest (length front.dist) front.done front.dist front.fall) [
  | None ↦ front
  | Some column ↦ elim (before_of plan.next column) [
    | None ↦ record front { row = at front.from column; to = Some column; fall = at front.dist column }
    | Some row ↦ grown w plan picks (visited w plan column row front)
  ]
]

-- the row from which a search goes out has the greatest price
abbrev pub opened : ℕ → Plan → Plan
opened a plan = record plan { leave = slice_set plan.leave a GREATEST_PRICE }

-- a search begins: its first row looks at all columns, which are far
abbrev pub first_front : (ℕ → ℕ → Option ℕ) → ℕ → List ℕ → ℕ → Front
first_front w a enter n = looked (w a) a GREATEST_PRICE enter (record {
  dist = replicate n FAR;
  from = replicate n a;
  done = replicate n false;
  row = a;
  to = None;
  fall = GREATEST_PRICE;
})

-- columns that are nearer than prices fall gain the difference. Rows that are linked to them lose it, and the first row loses all
abbrev pub leave_after : ℕ → Plan → List ℕ → ℕ → List ℕ
leave_after a plan dist fall =
    map (λ i. price plan.leave i - (if i == a then fall else lost dist fall (next_of plan.next i))) (range_with_len 0 (length plan.leave))

abbrev pub enter_after : Plan → List ℕ → ℕ → List ℕ
enter_after plan dist fall = map (λ j. price plan.enter j + (fall - at dist j)) (range_with_len 0 (length plan.enter))

-- Links anew, from a row that is linked to a column, or to none. The column that it had goes to the row from which it was
-- reached, and so on back, so many rows at most
unfoldable pub linked_back : List ℕ → ℕ → List (Option ℕ) → ℕ → Option ℕ → List (Option ℕ)
linked_back from zero next row to = next
linked_back from (suc rows) next row to = elim (next_of next row) [
  | None ↦ slice_set next row to
  | Some column ↦ linked_back from rows (slice_set next row to) (at from column) (Some column)
]

-- the plan where a search has ended
abbrev pub ended : ℕ → Plan → Front → Plan
ended a plan front = record {
  next = linked_back front.from (length plan.next + 1) plan.next front.row front.to;
  leave = leave_after a plan front.dist front.fall;
  enter = enter_after plan front.dist front.fall;
}

-- the plan that a search finds which goes out from a row, over links of rows to columns
unfoldable pub found : (ℕ → ℕ → Option ℕ) → ℕ → Plan → Plan
found w a plan = ended a (opened a plan) (grown w (opened a plan) (length plan.next) (first_front w a plan.enter (length plan.next)))

-- the plan that searches find from one row after the other, the last first
abbrev pub found_each : (ℕ → ℕ → Option ℕ) → List ℕ → Plan → Plan
found_each w [] plan = plan
found_each w (a ∷ rows) plan = found w a (found_each w rows plan)
