-- A search that may begin finds a plan that is matched and covered, whatever looks for it.
use Rattle.std.proofs.Common.{◌≡◌, ℕ, zero, suc, ◌+◌, ◌-◌, ◌<◌, ◌≤◌, ◌==◌, Bool, List, [], length, set, map, Option, None, Some}
use Rattle.std.proofs.Common.{if◌then◌else◌}
use Rattle.std.proofs.Common.{refl, sym, ap, subst, ◌∙◌, ⊎_elim, arith}
use Rattle.std.specs.List.{range_with_len}
use Rattle.std.specs.Prelude.{IfSome}
use Rattle.std.proofs.lemmas.Bool.{cases_lt, eq-eqb, ne_eqb}
use Rattle.std.proofs.lemmas.List.{get_or_past, length-set}
use Rattle.std.proofs.lemmas.List.FromFn.{get_or-map-range_with_len, length-map-range_with_len}
use Rattle.std.proofs.lemmas.Option.{none-some}
use Rattle.assignment_model.specs.Paths.{AreNextTrips, IsPath}
use Rattle.assignment_model.specs.Prices.{Plan, price}
use Rattle.trip_model.specs.Links.{next_of, before_of}
use Rattle.trip_model.proofs.BeforeLemmas.{next-before, before-next, next-within}
use Rattle.trip_model.specs.declared.limits.TheConstants.{MOST_SLOTS}
use Rattle.pair_search.specs.Assignment.{AreWeights, IsMatched, MayBegin}
use Rattle.pair_search.specs.Determined.{leave_after, enter_after, opened, linked_back, found}
use Rattle.pair_search.specs.Fronts.{IsOnWayBack, IsShown}
use Rattle.pair_search.specs.Inverse.{IsInverse}
use Rattle.pair_search.specs.Relinking.{lost, IsShifted, LeadsBack, IsTightBack, IsPassing, IsRelinked}
use Rattle.pair_search.specs.Search.{at, Problem, problem, TreeView}
use Rattle.pair_search.specs.declared.grow.End.{End}
use Rattle.pair_search.specs.declared.limits.TheConstants.{GREATEST_PRICE}
use Rattle.pair_search.proofs.EndLemmas.{matched-end, found-end}
use Rattle.pair_search.proofs.FoundLemmas.{last_front}
use Rattle.pair_search.proofs.FrontLemmas.{IsOnWayBack-more, linked_back-last}
use Rattle.pair_search.proofs.InverseLemmas.{inverse-before}
use Rattle.pair_search.proofs.RelinkLemmas.{row-kept, place-before, IsRelinked-more, IsPath-relinked, IsPassing-more, IsMatched-passed}
use Rattle.pair_search.proofs.ShiftLemmas.{AreNextTrips-matched, given-at, IsOver, IsOver-grown, covers-over, LeadsBack-over, free-over}
use Rattle.planned_laws.specs.Laws.{HasSlots, IsFound}
use Rattle.planned_laws.proofs.GrownLemmas.{HasGrown-found}

-- the way back along rows is that along the columns from which they were reached
abbrev IsAlike : List (Option ℕ) → List ℕ → List ℕ → ℕ → List ℕ → Type 0
IsAlike next parent rows top from = (t j : ℕ) → t ≤ top → next_of next (at rows t) ≡ Some j → at rows (at parent j) ≡ at from j

-- links so far, on the way back to the row at a place, which is to be linked to a column or to none
record IsBack (next : List (Option ℕ)) (parent rows : List ℕ) (top : ℕ) (first : Option ℕ) (cur : List (Option ℕ)) (place : ℕ)
    (to : Option ℕ) : Type 0 where
  upto : place ≤ top
  slots : length cur ≡ length next
  relinked : IsRelinked next cur rows top place to
  linked : (from : List ℕ) (most : ℕ) → top < most → IsAlike next parent rows top from
      → IsOnWayBack from (linked_back from most next (at rows top) first) cur (at rows place) to place
  matched : (w : ℕ → ℕ → Option ℕ) (out : ℕ → Bool) (b : Option ℕ) (leave enter : List ℕ)
      → IsTightBack w out next leave enter parent rows top → IsPassing w out (at rows 0) b next leave enter (at rows top) first
      → IsPassing w out (at rows 0) b cur leave enter (at rows place) to

-- the links where the first row has been linked anew
record IsRelinkedWhole (next : List (Option ℕ)) (parent rows : List ℕ) (top : ℕ) (first : Option ℕ) : Type 0 where
  next' : List (Option ℕ)
  slots : length next' ≡ length next
  path : IsPath (next_of next) (before_of next) (next_of next') (at rows 0)
  linked : (from : List ℕ) (most : ℕ) → top < most → IsAlike next parent rows top from
      → next' ≡ linked_back from most next (at rows top) first
  matched : (w : ℕ → ℕ → Option ℕ) (out : ℕ → Bool) (b : Option ℕ) (leave enter : List ℕ)
      → IsTightBack w out next leave enter parent rows top → IsPassing w out (at rows 0) b next leave enter (at rows top) first
      → IsMatched w out None b next' leave enter

module _ (next : List (Option ℕ)) (parent rows : List ℕ) (top : ℕ) (first : Option ℕ) (leads : LeadsBack next parent rows top) where
  -- the row at the place is the first
  at-first : (cur : List (Option ℕ)) (place : ℕ) (to : Option ℕ) → IsBack next parent rows top first cur place to
      → next_of cur (at rows place) ≡ None → IsRelinkedWhole next parent rows top first
  at-first cur place to back none = record {
    next' = set cur (at rows place) to;
    slots = length-set cur (at rows place) to ∙ back.slots;
    path = IsPath-relinked next cur parent rows top place to leads back.upto back.slots back.relinked none;
    linked = λ from most lt alike.
        linked_back-last from (linked_back from most next (at rows top) first) cur (at rows place) to place
        (back.linked from most lt alike) none;
    matched = λ w out b leave enter tight passing.
        IsMatched-passed w out b next cur leave enter parent rows top place to leads back.upto back.slots back.relinked none tight
        (back.matched w out b leave enter tight passing);
  }

  -- the column that the row had goes to a row at a place before
  IsBack-more : (cur : List (Option ℕ)) (place column : ℕ) (to : Option ℕ) → IsBack next parent rows top first cur place to
      → next_of cur (at rows place) ≡ Some column
      → IsBack next parent rows top first (set cur (at rows place) to) (at parent column) (Some column)
  IsBack-more cur place column to back had =
      let less = (place-before next cur parent rows top place column to leads back.upto back.relinked had).1 in
      record {
        upto = omega (arith, less, back.upto);
        slots = length-set cur (at rows place) to ∙ back.slots;
        relinked = IsRelinked-more next cur parent rows top place column to leads back.upto back.slots back.relinked had;
        linked = λ from most lt alike.
            IsOnWayBack-more from (linked_back from most next (at rows top) first) cur (at rows place) column
            (at rows (at parent column)) to place (at parent column) (back.linked from most lt alike) had
            (alike place column back.upto (sym (row-kept next cur parent rows top place to leads back.relinked) ∙ had)) less;
        matched = λ w out b leave enter tight passing.
            IsPassing-more w out (at rows 0) b next cur leave enter parent rows top place column to leads back.upto back.slots
            back.relinked had tight (back.matched w out b leave enter tight passing);
      }

  -- the way back leads to the first row
  go-back : (most : ℕ) (cur : List (Option ℕ)) (place : ℕ) (to : Option ℕ) → place < most → IsBack next parent rows top first cur place to
      → (had : Option ℕ) → next_of cur (at rows place) ≡ had → IsRelinkedWhole next parent rows top first
  go-back zero cur place to lt back had is = absurd (omega (arith, lt))
  go-back (suc most) cur place to lt back None is = at-first cur place to back is
  go-back (suc most) cur place to lt back (Some column) is =
      go-back most (set cur (at rows place) to) (at parent column) (Some column)
      (omega (arith, lt, (place-before next cur parent rows top place column to leads back.upto back.relinked is).1))
      (IsBack-more cur place column to back is)
      (next_of (set cur (at rows place) to) (at rows (at parent column))) refl

  relinked-whole : IfSome first (λ j. before_of next j ≡ None) → IsRelinkedWhole next parent rows top first
  relinked-whole free =
      go-back (top + 1) next top first (omega arith)
      (record {
        upto = omega arith;
        slots = refl;
        relinked = record { path = []; distinct = tt; after = tt; passed = free; others = λ s none. refl };
        linked = λ from most lt alike. record { rows = most; enough = lt; rest = refl };
        matched = λ w out b leave enter tight passing. passing;
      })
      (next_of next (at rows top)) refl

-- prices are shifted as is computed
module _ (a : ℕ) (plan : Plan) (dist : List ℕ) (fall : ℕ) where
  leave-long : length (leave_after a plan dist fall) ≡ length plan.leave
  leave-long = length-map-range_with_len
      (λ i. price plan.leave i - (if i == a then fall else lost dist fall (next_of plan.next i))) 0 (length plan.leave)

  enter-long : length (enter_after plan dist fall) ≡ length plan.enter
  enter-long = length-map-range_with_len (λ j. price plan.enter j + (fall - at dist j)) 0 (length plan.enter)

  leave-at : (i : ℕ) → price (leave_after a plan dist fall) i
      ≡ price plan.leave i - (if i == a then fall else lost dist fall (next_of plan.next i))
  leave-at i = ⊎_elim
      (λ (lt : i < length plan.leave). get_or-map-range_with_len
      (λ i. price plan.leave i - (if i == a then fall else lost dist fall (next_of plan.next i))) 0 (length plan.leave) i i 0 lt
      (omega arith))
      (λ (le : length plan.leave ≤ i).
      none-less (price plan.leave i) (if i == a then fall else lost dist fall (next_of plan.next i))
      (price (leave_after a plan dist fall) i) (get_or_past plan.leave i 0 le)
      (get_or_past (leave_after a plan dist fall) i 0 (omega (arith, le, leave-long))))
      (cases_lt i (length plan.leave))
    where
      none-less : (was loss now : ℕ) → was ≡ 0 → now ≡ 0 → now ≡ was - loss
      none-less was loss now nothing none = omega (arith, nothing, none)

  IsShifted-computed : IsShifted (length plan.enter) a plan.next dist fall plan.leave plan.enter (leave_after a plan dist fall)
      (enter_after plan dist fall)
  IsShifted-computed = record {
    root = leave-at a ∙ ap (λ b. price plan.leave a - (if b then fall else lost dist fall (next_of plan.next a))) (eq-eqb a a refl);
    rows = λ i ne. leave-at i
        ∙ ap (λ b. price plan.leave i - (if b then fall else lost dist fall (next_of plan.next i))) (ne_eqb i a ne);
    columns = λ j lt. get_or-map-range_with_len (λ j. price plan.enter j + (fall - at dist j)) 0 (length plan.enter) j j 0 lt (omega arith);
  }

-- for each column the row that is linked to it
abbrev pub befores : ℕ → List (Option ℕ) → List (Option ℕ)
befores n next = map (before_of next) (range_with_len 0 n)

pub IsInverse-befores : (n : ℕ) (next : List (Option ℕ)) → AreNextTrips next → length next ≡ n
    → IsInverse (length next) next (befores n next)
IsInverse-befores n next are slots = record {
  told = λ i j _ linked. there j (omega (arith, are.within i j linked, slots)) ∙ before-next next i j are.once linked;
  linked = λ i j e. ⊎_elim
      (λ (lt : j < n). let linked = next-before next i j (sym (there j lt) ∙ e) in (next-within next i j linked, linked))
      (λ (le : n ≤ j). absurd (none-some i
      (sym (get_or_past (befores n next) j None (omega (arith, le, length-map-range_with_len (before_of next) 0 n))) ∙ e)))
      (cases_lt j n);
}
  where
    there : (j : ℕ) → j < n → next_of (befores n next) j ≡ before_of next j
    there j lt = get_or-map-range_with_len (before_of next) 0 n j j None lt (omega arith)

-- where the tree of a search has ended, shows where that is, and leads back
IsFound-over : (w : ℕ → ℕ → Option ℕ) (n : ℕ) (out : ℕ → Bool) (a : ℕ) (b : Option ℕ) (plan : Plan) (before : List (Option ℕ))
    (s : TreeView)
    (end : End) → HasSlots n plan → IsOver (problem w n a before (set plan.leave a GREATEST_PRICE) plan.enter) s end out b plan.next
    → IsShown s.dist s.parent s.done s.rows end.from end.to end.fall (last_front w a plan) → length s.dist ≡ n
    → IsRelinkedWhole plan.next s.parent s.rows end.from end.to → IsFound w n out a b plan (found w a plan)
IsFound-over w n out a b plan before s end slots over shown dists back =
    let p : Problem = problem w n a before (set plan.leave a GREATEST_PRICE) plan.enter in
    let leave' : List ℕ = leave_after a (opened a plan) s.dist end.fall in
    let enter' : List ℕ = enter_after (opened a plan) s.dist end.fall in
    let shifted : IsShifted n a plan.next s.dist end.fall (set plan.leave a GREATEST_PRICE) plan.enter leave' enter' =
    subst (λ m. IsShifted m a plan.next s.dist end.fall (set plan.leave a GREATEST_PRICE) plan.enter leave' enter') slots.enter
    (IsShifted-computed a (opened a plan) s.dist end.fall) in
    let leaves : length leave' ≡ length plan.leave =
    leave-long a (opened a plan) s.dist end.fall ∙ length-set plan.leave a GREATEST_PRICE in
    let enters : length enter' ≡ length plan.enter = enter-long a (opened a plan) s.dist end.fall in
    subst (IsFound w n out a b plan)
    (found-end p s end out b plan.next over plan.leave plan.enter back.next' leave' enter' dists slots.enter refl refl shown back.linked
    leaves enters shifted)
    (record {
      slots = record { next = back.slots ∙ slots.next; leave = leaves ∙ slots.leave; enter = enters ∙ slots.enter };
      matched = matched-end p s end out b plan.next over back.next' leave' enter' (enters ∙ slots.enter) shifted back.matched;
      covers = covers-over p s end out b plan.next leave' enter' over shifted;
      path = subst (IsPath (next_of plan.next) (before_of plan.next) (next_of back.next')) over.tree.root.1 back.path;
    })

pub found-is : (w : ℕ → ℕ → Option ℕ) (n : ℕ) (out : ℕ → Bool) (a : ℕ) (b : Option ℕ) (plan : Plan) → n ≤ MOST_SLOTS → AreWeights w n
    → HasSlots n plan → MayBegin w n out a b plan.next plan.leave plan.enter → IsFound w n out a b plan (found w a plan)
found-is w n out a b plan few weights slots begins =
    let next : List (Option ℕ) = plan.next in
    let before : List (Option ℕ) = befores n next in
    let raised : List ℕ = set plan.leave a GREATEST_PRICE in
    let inverse = IsInverse-befores n next
    (AreNextTrips-matched w n out (Some a) b next plan.leave plan.enter weights slots.next begins.matched) slots.next in
    let given = given-at w n out a b next before plan.leave plan.enter a raised few weights slots.next slots.leave inverse begins refl
    refl in
    let grown = HasGrown-found w n a before plan slots.next slots.leave given
    (λ j. sym (inverse-before next before begins.matched.once inverse j)) in
    let over = IsOver-grown w n out a b next before plan.leave plan.enter a raised grown.s grown.end few weights slots.next slots.leave
    inverse begins refl refl grown.tree grown.ended in
    IsFound-over w n out a b plan before grown.s grown.end slots over grown.shown grown.dists
    (relinked-whole next grown.s.parent grown.s.rows grown.end.from grown.end.to
    (LeadsBack-over (problem w n a before raised plan.enter) grown.s grown.end out b next over grown.parents grown.rows)
    (free-over (problem w n a before raised plan.enter) grown.s grown.end out b next over))
