-- A search whose lists show a front does so after each pick, and where it ends.
use Rattle.std.proofs.Common.{◌≡◌, ◌≢◌, ℕ, zero, suc, ◌+◌, ◌-◌, ◌<◌, ◌≤◌, ◌==◌, min, nat_lt, Bool, true, false, List, length, set}
use Rattle.std.proofs.Common.{replicate, Option, None, Some, if◌then◌else◌, refl, sym, ap, subst, ◌∙◌, ⊎_elim, ◌⊎◌, inl, inr, arith}
use Rattle.std.proofs.lemmas.Bool.{cases_eq, cases_lt, lt-ltb, le-ltb, eq-eqb, ne_eqb}
use Rattle.std.proofs.lemmas.List.{get_or-set_same, get_or-set_other, get_or-replicate, length-replicate}
use Rattle.std.proofs.lemmas.List.FromFn.{get_or-map-range_with_len, length-map-range_with_len}
use Rattle.assignment_model.specs.Prices.{Plan, price}
use Rattle.trip_model.specs.Links.{next_of, before_of}
use Rattle.pair_search.specs.Determined.{Front, approached, first_nearest, dist_from, looked, visited, grown, opened, first_front}
use Rattle.pair_search.specs.Determined.{leave_after, enter_after, linked_back, ended, found}
use Rattle.pair_search.specs.Fronts.{IsShown, IsOnWay, IsOnWayBack}
use Rattle.pair_search.specs.Relinking.{lost}
use Rattle.pair_search.specs.Search.{at, is_done}
use Rattle.pair_search.specs.declared.limits.TheConstants.{GREATEST_PRICE, FAR}
use Rattle.pair_search.proofs.DeterminedLemmas.{map-is}

-- a search without a column that is nearer than its best end has ended
pub grown-none : (w : ℕ → ℕ → Option ℕ) (plan : Plan) (picks : ℕ) (front : Front)
    → first_nearest (length front.dist) front.done front.dist front.fall ≡ None → grown w plan picks front ≡ front
unfolding grown
grown-none w plan zero front none = refl
grown-none w plan (suc picks) front none = rw (none, grown)

-- the nearest column of lists that show a front is that of the front
nearest-shown : (dist parent : List ℕ) (done : List Bool) (rows : List ℕ) (place : ℕ) (to : Option ℕ) (fall : ℕ) (front : Front)
    → IsShown dist parent done rows place to fall front
    → first_nearest (length dist) done dist fall ≡ first_nearest (length front.dist) front.done front.dist front.fall
nearest-shown dist parent done rows place to fall front shown =
    ap (λ d. first_nearest (length d) done d fall) shown.far
    ∙ ap (λ d. first_nearest (length front.dist) d front.dist fall) shown.closed
    ∙ ap (first_nearest (length front.dist) front.done front.dist) shown.best

-- and so has one whose nearest column is linked to none
pub grown-column : (w : ℕ → ℕ → Option ℕ) (plan : Plan) (picks column : ℕ) (front : Front)
    → first_nearest (length front.dist) front.done front.dist front.fall ≡ Some column
    → before_of plan.next column ≡ None
    → grown w plan (suc picks) front ≡ record front { row = at front.from column; to = Some column; fall = at front.dist column }
unfolding grown
grown-column w plan picks column front near none = rw (near, none, grown)

-- else the row comes in that is linked to it
pub grown-row : (w : ℕ → ℕ → Option ℕ) (plan : Plan) (picks column row : ℕ) (front : Front)
    → first_nearest (length front.dist) front.done front.dist front.fall ≡ Some column
    → before_of plan.next column ≡ Some row → grown w plan (suc picks) front ≡ grown w plan picks (visited w plan column row front)
unfolding grown
grown-row w plan picks column row front near linked = rw (near, linked, grown)

-- the row from which a column was reached, where one looked at it
abbrev chosen : ℕ → List ℕ → List ℕ → List ℕ → ℕ → ℕ
chosen row from dist dist' i = if nat_lt (at dist' i) (at dist i) then row else at from i

-- a row looks at all columns
pub IsShown-looked : (w : ℕ → Option ℕ) (row start : ℕ) (enter : List ℕ) (front : Front) (dist' parent' rows' : List ℕ) (place : ℕ)
    → dist' ≡ dist_from w start enter front.done front.dist
    → ((j : ℕ) → j < length front.dist → at dist' j < at front.dist j → at rows' (at parent' j) ≡ row)
    → ((j : ℕ) → j < length front.dist → at dist' j < FAR → at front.dist j ≤ at dist' j → at rows' (at parent' j) ≡ at front.from j)
    → at rows' place ≡ (if nat_lt start front.fall then row else front.row)
    → IsShown dist' parent' front.done rows' place front.to (min front.fall start) (looked w row start enter front)
IsShown-looked w row start enter front dist' parent' rows' place is sooner later end = record {
  far = is;
  closed = refl;
  from = λ j lt near.
      let within : j < length front.dist =
      omega (
        arith,
        lt,
        ap length is,
        length-map-range_with_len
            (λ i. approached (is_done front.done i) (w i) (start + at enter i) (at front.dist i)) 0 (length front.dist),
      ) in
      by j within near (cases_lt (at dist' j) (at front.dist j))
      ∙ sym (get_or-map-range_with_len (chosen row front.from front.dist (dist_from w start enter front.done front.dist)) 0
      (length front.dist) j j 0 within (omega arith));
  row = end;
  column = refl;
  best = refl;
}
  where
    by : (j : ℕ) → j < length front.dist → at dist' j < FAR → (at dist' j < at front.dist j) ⊎ (at front.dist j ≤ at dist' j)
        → at rows' (at parent' j) ≡ chosen row front.from front.dist (dist_from w start enter front.done front.dist) j
    by j within near (inl less) = sooner j within less
        ∙ sym (ap (λ b. if b then row else at front.from j)
        (ap (λ d. nat_lt (at d j) (at front.dist j)) (sym is) ∙ lt-ltb (at dist' j) (at front.dist j) less))
    by j within near (inr more) = later j within near more
        ∙ sym (ap (λ b. if b then row else at front.from j)
        (ap (λ d. nat_lt (at d j) (at front.dist j)) (sym is) ∙ le-ltb (at dist' j) (at front.dist j) more))

-- the first row looks at all columns, which are far
pub IsShown-first : (w : ℕ → ℕ → Option ℕ) (a n : ℕ) (enter dist parent rows : List ℕ)
    → dist ≡ dist_from (w a) GREATEST_PRICE enter (replicate n false) (replicate n FAR) → at rows 0 ≡ a
    → ((j : ℕ) → at dist j < at (replicate n FAR) j → at parent j ≡ 0)
    → IsShown dist parent (replicate n false) rows 0 None GREATEST_PRICE (first_front w a enter n)
IsShown-first w a n enter dist parent rows is root by =
    IsShown-looked (w a) a GREATEST_PRICE enter
    (record { dist = replicate n FAR; from = replicate n a; done = replicate n false; row = a; to = None; fall = GREATEST_PRICE }) dist
    parent rows 0 is
    (λ j lt less. ap (at rows) (by j less) ∙ root)
    (λ j lt near more.
    let within : j < n = omega (arith, lt, length-replicate n FAR) in
    absurd (omega (arith, near, more, get_or-replicate n j FAR 0 within)))
    root

-- the row that is linked to a column comes in, and looks at all columns
pub IsShown-visited : (w : ℕ → ℕ → Option ℕ) (plan : Plan) (column row size : ℕ) (front : Front) (dist parent : List ℕ) (done : List Bool)
    (rows : List ℕ) (place : ℕ) (to : Option ℕ) (fall : ℕ)
    (dist' parent' : List ℕ) → IsShown dist parent done rows place to fall front
    → dist' ≡ dist_from (w row) (at dist column + price plan.leave row) plan.enter (set done column true) dist
    → size < length rows → place < size → ((j : ℕ) → j < length dist → at dist j < FAR → at parent j < size)
    → ((j : ℕ) → at dist' j < at dist j → at parent' j ≡ size) → ((j : ℕ) → at dist j ≤ at dist' j → at parent' j ≡ at parent j)
    → IsShown dist' parent' (set done column true) (set rows size row)
    (if nat_lt (at dist column + price plan.leave row) fall then size else place) to
    (min fall (at dist column + price plan.leave row)) (visited w plan column row front)
unfolding visited
IsShown-visited w plan column row size front dist parent done rows place to fall dist' parent' shown is room before parents sooner later =
    at-front front shown.far shown.closed shown.column shown.best
    (λ j lt near more. ap (at (set rows size row)) (later j more)
    ∙ get_or-set_other rows size (at parent j) row 0 (λ e. absurd (omega (arith, e, parents j lt (omega (arith, near, more)))))
    ∙ shown.from j lt (omega (arith, near, more)))
    shown.row
  where
    ends : (other : ℕ) → at rows place ≡ other → (b : Bool)
        → at (set rows size row) (if b then size else place) ≡ (if b then row else other)
    ends other is true = get_or-set_same rows size row 0 room
    ends other is false = get_or-set_other rows size place row 0 (λ e. absurd (omega (arith, e, before))) ∙ is

    whole : (front : Front) → ((j : ℕ) → j < length dist → at dist' j < FAR → at dist j ≤ at dist' j
        → at (set rows size row) (at parent' j) ≡ at front.from j) → at rows place ≡ front.row
        → IsShown dist' parent' (set done column true) (set rows size row)
        (if nat_lt (at dist column + price plan.leave row) front.fall then size else place) front.to
        (min front.fall (at dist column + price plan.leave row))
        (looked (w row) row (at dist column + price plan.leave row) plan.enter (record front { dist = dist; done = set done column true }))
    whole front from end =
        IsShown-looked (w row) row (at dist column + price plan.leave row) plan.enter
        (record front { dist = dist; done = set done column true }) dist' parent' (set rows size row)
        (if nat_lt (at dist column + price plan.leave row) front.fall then size else place) is
        (λ j lt less. ap (at (set rows size row)) (sooner j less) ∙ get_or-set_same rows size row 0 room)
        from
        (ends front.row end (nat_lt (at dist column + price plan.leave row) front.fall))

    at-front : (front : Front) → dist ≡ front.dist → done ≡ front.done → to ≡ front.to → fall ≡ front.fall
        → ((j : ℕ) → j < length dist → at dist' j < FAR → at dist j ≤ at dist' j → at (set rows size row) (at parent' j) ≡ at front.from j)
        → at rows place ≡ front.row
        → IsShown dist' parent' (set done column true) (set rows size row)
        (if nat_lt (at dist column + price plan.leave row) fall then size else place) to
        (min fall (at dist column + price plan.leave row))
        (looked (w row) row (at front.dist column + price plan.leave row) plan.enter (record front { done = set front.done column true }))
    at-front front far closed same best from end =
        subst (λ (d : List ℕ). IsShown dist' parent' (set done column true) (set rows size row)
        (if nat_lt (at dist column + price plan.leave row) fall then size else place) to
        (min fall (at dist column + price plan.leave row))
        (looked (w row) row (at d column + price plan.leave row) plan.enter
        (record front { dist = d; done = set front.done column true }))) far
        (subst (λ (d : List Bool). IsShown dist' parent' (set done column true) (set rows size row)
        (if nat_lt (at dist column + price plan.leave row) fall then size else place) to
        (min fall (at dist column + price plan.leave row))
        (looked (w row) row (at dist column + price plan.leave row) plan.enter
        (record front { dist = dist; done = set d column true }))) closed
        (subst (λ (t : Option ℕ). IsShown dist' parent' (set done column true) (set rows size row)
        (if nat_lt (at dist column + price plan.leave row) fall then size else place) t
        (min fall (at dist column + price plan.leave row))
        (looked (w row) row (at dist column + price plan.leave row) plan.enter
        (record front { dist = dist; done = set done column true }))) (sym same)
        (subst (λ (f : ℕ). IsShown dist' parent' (set done column true) (set rows size row)
        (if nat_lt (at dist column + price plan.leave row) f then size else place) front.to
        (min f (at dist column + price plan.leave row))
        (looked (w row) row (at dist column + price plan.leave row) plan.enter
        (record front { dist = dist; done = set done column true }))) (sym best)
        (whole front from end))))

-- the tree of a search begins
pub IsOnWay-first : (w : ℕ → ℕ → Option ℕ) (plan : Plan) (front : Front) (dist parent : List ℕ) (done : List Bool) (rows : List ℕ)
    (place : ℕ) (to : Option ℕ) (fall : ℕ)
    → IsShown dist parent done rows place to fall front
    → IsOnWay w plan (grown w plan (length dist) front) 1 dist parent done rows place to fall
IsOnWay-first w plan front dist parent done rows place to fall shown =
    record { front = front; shown = shown; picks = length dist; left = refl; rest = refl }

-- and grows by a row
pub IsOnWay-row : (w : ℕ → ℕ → Option ℕ) (plan : Plan) (whole : Front) (size column row : ℕ) (dist parent : List ℕ) (done : List Bool)
    (rows : List ℕ) (place : ℕ) (to : Option ℕ) (fall : ℕ)
    (dist' parent' : List ℕ) (done' : List Bool) (rows' : List ℕ) (place' : ℕ) (to' : Option ℕ) (fall' : ℕ)
    → (way : IsOnWay w plan whole size dist parent done rows place to fall) → first_nearest (length dist) done dist fall ≡ Some column
    → before_of plan.next column ≡ Some row → size ≤ length dist
    → length dist' ≡ length dist → ((front : Front) → IsShown dist parent done rows place to fall front
    → IsShown dist' parent' done' rows' place' to' fall' (visited w plan column row front))
    → IsOnWay w plan whole (size + 1) dist' parent' done' rows' place' to' fall'
IsOnWay-row w plan whole size column row dist parent done rows place to fall dist' parent' done' rows' place' to' fall' way near linked
    room len more = by way.picks way.left way.rest
  where
    by : (picks : ℕ) → picks + size ≡ length dist + 1 → grown w plan picks way.front ≡ whole
        → IsOnWay w plan whole (size + 1) dist' parent' done' rows' place' to' fall'
    by zero left rest = absurd (omega (arith, left, room))
    by (suc picks) left rest = record {
      front = visited w plan column row way.front;
      shown = more way.front way.shown;
      picks = picks;
      left = omega (arith, left, len);
      rest = sym (grown-row w plan picks column row way.front
          (sym (nearest-shown dist parent done rows place to fall way.front way.shown) ∙ near) linked) ∙ rest;
    }

-- a search without a near column has ended where its best end is
pub IsShown-none : (w : ℕ → ℕ → Option ℕ) (plan : Plan) (whole : Front) (size : ℕ) (dist parent : List ℕ) (done : List Bool)
    (rows : List ℕ) (place : ℕ) (to : Option ℕ) (fall : ℕ)
    → IsOnWay w plan whole size dist parent done rows place to fall → first_nearest (length dist) done dist fall ≡ None
    → IsShown dist parent done rows place to fall whole
IsShown-none w plan whole size dist parent done rows place to fall way none =
    subst (IsShown dist parent done rows place to fall)
    (sym (grown-none w plan way.picks way.front (sym (nearest-shown dist parent done rows place to fall way.front way.shown) ∙ none))
    ∙ way.rest)
    way.shown

-- and one whose nearest column is linked to none has ended there
pub IsShown-column : (w : ℕ → ℕ → Option ℕ) (plan : Plan) (whole : Front) (size column : ℕ) (dist parent : List ℕ) (done : List Bool)
    (rows : List ℕ) (place : ℕ) (to : Option ℕ) (fall : ℕ)
    → IsOnWay w plan whole size dist parent done rows place to fall → first_nearest (length dist) done dist fall ≡ Some column
    → before_of plan.next column ≡ None → size ≤ length dist
    → column < length dist → at dist column < FAR → IsShown dist parent done rows (at parent column) (Some column) (at dist column) whole
IsShown-column w plan whole size column dist parent done rows place to fall way near none room within reached =
    by way.picks way.left way.rest
  where
    by : (picks : ℕ) → picks + size ≡ length dist + 1 → grown w plan picks way.front ≡ whole
        → IsShown dist parent done rows (at parent column) (Some column) (at dist column) whole
    by zero left rest = absurd (omega (arith, left, room))
    by (suc picks) left rest =
        subst (IsShown dist parent done rows (at parent column) (Some column) (at dist column))
        (sym (grown-column w plan picks column way.front
        (sym (nearest-shown dist parent done rows place to fall way.front way.shown) ∙ near) none) ∙ rest)
        (record {
          far = way.shown.far;
          closed = way.shown.closed;
          from = way.shown.from;
          row = way.shown.from column within reached;
          column = refl;
          best = ap (λ d. at d column) way.shown.far;
        })

-- the column that it had goes to the row from which it was reached
pub IsOnWayBack-more : (from : List ℕ) (whole now : List (Option ℕ)) (row column row' : ℕ) (to : Option ℕ) (place place' : ℕ)
    → IsOnWayBack from whole now row to place
    → next_of now row ≡ Some column → row' ≡ at from column → place' < place
    → IsOnWayBack from whole (set now row to) row' (Some column) place'
unfolding linked_back
IsOnWayBack-more from whole now row column row' to place place' way had is less = by way.rows way.enough way.rest
  where
    step : (rows : ℕ) → linked_back from (suc rows) now row to ≡ linked_back from rows (set now row to) (at from column) (Some column)
    step rows = rw (had, linked_back)

    by : (rows : ℕ) → place < rows → linked_back from rows now row to ≡ whole
        → IsOnWayBack from whole (set now row to) row' (Some column) place'
    by zero enough rest = absurd (omega (arith, enough))
    by (suc rows) enough rest = record {
      rows = rows;
      enough = omega (arith, enough, less);
      rest = ap (λ r. linked_back from rows (set now row to) r (Some column)) is ∙ sym (step rows) ∙ rest;
    }

-- and where it had none, the links are the whole
pub linked_back-last : (from : List ℕ) (whole now : List (Option ℕ)) (row : ℕ) (to : Option ℕ) (place : ℕ)
    → IsOnWayBack from whole now row to place → next_of now row ≡ None
    → set now row to ≡ whole
unfolding linked_back
linked_back-last from whole now row to place way none = by way.rows way.enough way.rest
  where
    step : (rows : ℕ) → linked_back from (suc rows) now row to ≡ set now row to
    step rows = rw (none, linked_back)

    by : (rows : ℕ) → place < rows → linked_back from rows now row to ≡ whole → set now row to ≡ whole
    by zero enough rest = absurd (omega (arith, enough))
    by (suc rows) enough rest = sym (step rows) ∙ rest

-- prices of leaving after a shift
pub leave_after-is : (a : ℕ) (plan : Plan) (dist : List ℕ) (fall : ℕ) (leave' : List ℕ) → length leave' ≡ length plan.leave
    → price leave' a ≡ price plan.leave a - fall
    → ((i : ℕ) → i ≢ a → price leave' i ≡ price plan.leave i - lost dist fall (next_of plan.next i)) → leave' ≡ leave_after a plan dist fall
leave_after-is a plan dist fall leave' len root rows =
    map-is (λ i. price plan.leave i - (if i == a then fall else lost dist fall (next_of plan.next i))) (length plan.leave) 0 leave' len
    (λ i lt. ⊎_elim
    (λ (e : i ≡ a).
    ap (price leave') e ∙ root ∙ ap (λ s. price plan.leave s - fall) (sym e)
    ∙ ap (λ b. price plan.leave i - (if b then fall else lost dist fall (next_of plan.next i))) (sym (eq-eqb i a e)))
    (λ (ne : i ≡ a → ⊥). rows i ne
    ∙ ap (λ b. price plan.leave i - (if b then fall else lost dist fall (next_of plan.next i))) (sym (ne_eqb i a ne)))
    (cases_eq i a))

-- and of entering
pub enter_after-is : (plan : Plan) (dist : List ℕ) (fall : ℕ) (enter' : List ℕ) → length enter' ≡ length plan.enter
    → ((j : ℕ) → j < length plan.enter → price enter' j ≡ price plan.enter j + (fall - at dist j)) → enter' ≡ enter_after plan dist fall
enter_after-is plan dist fall enter' len columns =
    map-is (λ j. price plan.enter j + (fall - at dist j)) (length plan.enter) 0 enter' len columns

abbrev plan_of : List (Option ℕ) → List ℕ → List ℕ → Plan
plan_of next leave enter = record { next = next; leave = leave; enter = enter }

-- links and prices that a search leaves are the plan that it finds
pub found-is : (w : ℕ → ℕ → Option ℕ) (a : ℕ) (plan : Plan) (front : Front) (next' : List (Option ℕ)) (leave' enter' : List ℕ)
    → front ≡ grown w (opened a plan) (length plan.next) (first_front w a plan.enter (length plan.next))
    → next' ≡ linked_back front.from (length plan.next + 1) plan.next front.row front.to
    → leave' ≡ leave_after a (opened a plan) front.dist front.fall → enter' ≡ enter_after (opened a plan) front.dist front.fall
    → ◌≡◌ {A = Plan} (record { next = next'; leave = leave'; enter = enter' }) (found w a plan)
unfolding found
found-is w a plan front next' leave' enter' grows links leaving entering =
    ap (λ (l : List (Option ℕ)). plan_of l leave' enter') links
    ∙ ap (λ (l : List ℕ). plan_of (linked_back front.from (length plan.next + 1) plan.next front.row front.to) l enter') leaving
    ∙ ap (λ (l : List ℕ). plan_of (linked_back front.from (length plan.next + 1) plan.next front.row front.to)
    (leave_after a (opened a plan) front.dist front.fall) l) entering
    ∙ ap (ended a (opened a plan)) grows
