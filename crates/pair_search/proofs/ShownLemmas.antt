-- What a row sees that comes in shows how far the search has come.
use Rattle.std.proofs.Common.{◌≡◌, ℕ, ◌+◌, ◌<◌, ◌≤◌, min, nat_lt, Bool, true, false, List, length, set, replicate, Option, None, Some, if◌then◌else◌}
use Rattle.std.proofs.Common.{sym, subst, ◌∙◌}
use Rattle.std.proofs.lemmas.List.{length-replicate}
use Rattle.assignment_model.specs.Prices.{Plan, price}
use Rattle.trip_model.specs.Links.{before_of}
use Rattle.pair_search.specs.Determined.{Front, first_nearest, visited, first_front}
use Rattle.pair_search.specs.Fronts.{IsShown, IsOnWay}
use Rattle.pair_search.specs.Search.{at, as_columns, AreLooked}
use Rattle.pair_search.specs.declared.limits.TheConstants.{GREATEST_PRICE, FAR}
use Rattle.pair_search.specs.declared.grow.End.{End}
use Rattle.pair_search.proofs.FrontLemmas.{IsShown-first, IsShown-visited, IsOnWay-row}
use Rattle.pair_search.proofs.LawLemmas.{looked-is}

-- the first row has looked at all columns, which were far
pub IsShown-begun : (w : ℕ → ℕ → Option ℕ) (a n : ℕ) (enter dist parent0 parent rows : List ℕ) → length dist ≡ n → at rows 0 ≡ a
    → AreLooked (w a) n 0 GREATEST_PRICE enter (as_columns (replicate n FAR) parent0 (replicate n false))
    (as_columns dist parent (replicate n false))
    → IsShown dist parent (replicate n false) rows 0 None GREATEST_PRICE (first_front w a enter n)
IsShown-begun w a n enter dist parent0 parent rows len root are =
    IsShown-first w a n enter dist parent rows
    (looked-is (w a) 0 GREATEST_PRICE enter (replicate n false) (replicate n FAR) parent0 dist parent (len ∙ sym (length-replicate n FAR))
    (subst (λ (m : ℕ). AreLooked (w a) m 0 GREATEST_PRICE enter (as_columns (replicate n FAR) parent0 (replicate n false))
    (as_columns dist parent (replicate n false))) (sym (length-replicate n FAR)) are))
    root
    (λ j lt. (are.reached j lt).by)

-- and a row that came in by a column has looked at all columns
pub IsShown-come : (w : ℕ → ℕ → Option ℕ) (plan : Plan) (column row size : ℕ) (front : Front) (dist parent : List ℕ) (done : List Bool)
    (rows : List ℕ) (place : ℕ) (to : Option ℕ) (fall : ℕ)
    (dist' parent' : List ℕ) → IsShown dist parent done rows place to fall front → length dist' ≡ length dist
    → AreLooked (w row) (length dist) size (at dist column + price plan.leave row) plan.enter
    (as_columns dist parent (set done column true)) (as_columns dist' parent' (set done column true))
    → size < length rows → place < size → ((j : ℕ) → j < length dist → at dist j < FAR → at parent j < size)
    → IsShown dist' parent' (set done column true) (set rows size row)
    (if nat_lt (at dist column + price plan.leave row) fall then size else place) to
    (min fall (at dist column + price plan.leave row)) (visited w plan column row front)
IsShown-come w plan column row size front dist parent done rows place to fall dist' parent' shown len are room before parents =
    IsShown-visited w plan column row size front dist parent done rows place to fall dist' parent' shown
    (looked-is (w row) size (at dist column + price plan.leave row) plan.enter (set done column true) dist parent dist' parent' len are)
    room before parents (λ j lt. (are.reached j lt).by) are.same

-- the same lists show the same front
pub IsShown-same : (dist parent : List ℕ) (done done' : List Bool) (rows rows' : List ℕ) (place place' : ℕ) (to to' : Option ℕ)
    (fall fall' : ℕ) (front : Front)
    → done ≡ done' → rows ≡ rows' → place ≡ place' → to ≡ to' → fall ≡ fall' → IsShown dist parent done rows place to fall front
    → IsShown dist parent done' rows' place' to' fall' front
IsShown-same dist parent done done' rows rows' place place' to to' fall fall' front e f g h k shown =
    subst (λ (d : List Bool). IsShown dist parent d rows' place' to' fall' front) e
    (subst (λ (r : List ℕ). IsShown dist parent done r place' to' fall' front) f
    (subst (λ (p : ℕ). IsShown dist parent done rows p to' fall' front) g
    (subst (λ (t : Option ℕ). IsShown dist parent done rows place t fall' front) h
    (subst (λ (n : ℕ). IsShown dist parent done rows place to n front) k shown))))

-- a search grows by the row that comes in by its nearest column
pub IsOnWay-come : (w : ℕ → ℕ → Option ℕ) (plan : Plan) (whole : Front) (size column row : ℕ) (dist parent : List ℕ) (done : List Bool)
    (rows : List ℕ) (place : ℕ) (to : Option ℕ) (fall : ℕ)
    (dist' parent' : List ℕ) (done' : List Bool) (rows' : List ℕ) (end : End)
    → IsOnWay w plan whole size dist parent done rows place to fall
    → first_nearest (length dist) done dist fall ≡ Some column → before_of plan.next column ≡ Some row → size ≤ length dist
    → length dist' ≡ length dist
    → AreLooked (w row) (length dist) size (at dist column + price plan.leave row) plan.enter
    (as_columns dist parent (set done column true)) (as_columns dist' parent' (set done column true))
    → size < length rows → place < size → ((j : ℕ) → j < length dist → at dist j < FAR → at parent j < size)
    → done' ≡ set done column true → rows' ≡ set rows size row
    → end.from ≡ (if nat_lt (at dist column + price plan.leave row) fall then size else place) → end.to ≡ to
    → end.fall ≡ min fall (at dist column + price plan.leave row)
    → IsOnWay w plan whole (size + 1) dist' parent' done' rows' end.from end.to end.fall
IsOnWay-come w plan whole size column row dist parent done rows place to fall dist' parent' done' rows' end way near linked room len are
    room' before parents closed listed from same best =
    IsOnWay-row w plan whole size column row dist parent done rows place to fall dist' parent' done' rows' end.from end.to end.fall way near
    linked room len
    (λ front shown.
    IsShown-same dist' parent' (set done column true) done' (set rows size row) rows'
    (if nat_lt (at dist column + price plan.leave row) fall then size else place) end.from to end.to
    (min fall (at dist column + price plan.leave row)) end.fall (visited w plan column row front)
    (sym closed) (sym listed) (sym from) (sym same) (sym best)
    (IsShown-come w plan column row size front dist parent done rows place to fall dist' parent' shown len are room' before parents))
