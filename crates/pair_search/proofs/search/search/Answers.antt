use Rattle.std.proofs.Common.{◌≡◌, ℕ, ◌+◌, ◌<◌, ◌≤◌, ◌∙◌, List, set, length, ap, Option, None, Some, Bool, refl, sym, subst}
use Rattle.std.proofs.Common.{arith}
use Rattle.std.proofs.lemmas.List.{get_or-set_same, length-set}
use Rattle.assignment_model.specs.Prices.{Plan, price}
use Rattle.trip_model.specs.Links.{next_of}
use Rattle.pair_search.specs.Assignment.{IsMatched, MayBegin}
use Rattle.pair_search.specs.Determined.{Front, found, grown, opened, first_front, linked_back}
use Rattle.pair_search.specs.Fronts.{Shows}
use Rattle.pair_search.specs.Relinking.{LeadsBack, IsShifted, IsTightBack, IsPassing}
use Rattle.pair_search.specs.Search.{at, Problem, problem, problem_of, IsTree, TreeView, tree_of}
use Rattle.pair_search.specs.Side.{side_slots, place_weight}
use Rattle.pair_search.specs.Visits.{IsOfOthers, RowLooks, SearchesOnce}
use Rattle.pair_search.proofs.EndLemmas.{matched-end, found-end}
use Rattle.pair_search.proofs.FoundLemmas.{last_front}
use Rattle.pair_search.proofs.InverseLemmas.{inverse-before, inverse-none}
use Rattle.pair_search.proofs.ShiftLemmas.{AreNextTrips-matched, enter-low, given-at, IsOver, IsOver-grown, IsAlong-over, covers-over}
use Rattle.pair_search.proofs.ShiftLemmas.{LeadsBack-over, free-over, to-over}
use Rattle.std.specs.Prelude.{IfSome}
use Rattle.pair_search.proofs.VisitLemmas.{search-once, Takes-append}
use Rattle.pair_search.proofs.search.search.Given.{Over}
use Rattle.pair_search.proofs.search.search.Goals as goal

pub begin-requires-clause-enter_low : goal.begin-requires-clause-enter_low
begin-requires-clause-enter_low g c =
    let side = c.args.side.now in
    enter-low (place_weight side) (side_slots side) c.requires.begins.0 (Some c.args.a) c.requires.begins.1 c.args.next.now
    c.args.leave.now c.args.enter.now c.requires.sound c.requires.begins.2.matched c.args.a

pub grow-grown-requires-clause-given : goal.grow-grown-requires-clause-given
grow-grown-requires-clause-given g c =
    let side = c.args.side.now in
    given-at (place_weight side) (side_slots side) c.requires.begins.0 c.args.a c.requires.begins.1 c.args.next.now c.args.before.now
    c.args.leave.now c.args.enter.now (at c.begin.new.self.rows.items 0) c.begin.new.leave
    (omega (arith, c.requires.few)) c.requires.sound c.requires.next c.requires.leave c.requires.inverse c.requires.begins.2
    c.begin.ensures.first c.begin.ensures.leave

pub grow-grown-requires-clause-begun : goal.grow-grown-requires-clause-begun
grow-grown-requires-clause-begun g c =
    let side = c.args.side.now in
    subst (λ first. IsTree (problem_of side first c.args.before.now c.begin.new.leave c.args.enter.now)
    (tree_of c.begin.new.self 1 0)) (sym c.begin.ensures.first)
    (c.begin.ensures.tree c.args.before.now
    (given-at (place_weight side) (side_slots side) c.requires.begins.0 c.args.a c.requires.begins.1 c.args.next.now c.args.before.now
    c.args.leave.now c.args.enter.now c.args.a c.begin.new.leave
    (omega (arith, c.requires.few)) c.requires.sound c.requires.next c.requires.leave c.requires.inverse c.requires.begins.2 refl
    c.begin.ensures.leave))

-- the search has ended
over-shift : (g : Over) (c : goal.After-shift-arg-2-1 g) (out : ℕ → Bool) (b : Option ℕ)
    → MayBegin (place_weight c.args.side.now) (side_slots c.args.side.now) out c.args.a b c.args.next.now c.args.leave.now c.args.enter.now
    → IsOver (problem_of c.args.side.now (at c.begin.new.self.rows.items 0) c.args.before.now c.begin.new.leave c.args.enter.now)
    (tree_of c.grow-grown.new.self c.grow-grown.result.size c.grow-grown.ensures.grown.reach)
    c.grow-grown.result.end out b c.args.next.now
over-shift g c out b begins =
    let side = c.args.side.now in
    IsOver-grown (place_weight side) (side_slots side) out c.args.a b c.args.next.now c.args.before.now c.args.leave.now c.args.enter.now
    (at c.begin.new.self.rows.items 0) c.begin.new.leave
    (tree_of c.grow-grown.new.self c.grow-grown.result.size c.grow-grown.ensures.grown.reach)
    c.grow-grown.result.end (omega (arith, c.requires.few)) c.requires.sound c.requires.next c.requires.leave c.requires.inverse begins
    c.begin.ensures.first c.begin.ensures.leave
    c.grow-grown.ensures.grown.tree c.grow-grown.ensures.grown.ended

pub shift-requires-clause-within : goal.shift-requires-clause-within
shift-requires-clause-within g c = λ i j linked.
    let side = c.args.side.now in
    omega (
      arith,
      (AreNextTrips-matched (place_weight side) (side_slots side) c.requires.begins.0 (Some c.args.a) c.requires.begins.1 c.args.next.now
          c.args.leave.now c.args.enter.now c.requires.sound c.requires.next c.requires.begins.2.matched).within i j linked,
      c.requires.next,
      c.requires.enter,
    )

pub shift-requires-clause-low : goal.shift-requires-clause-low
shift-requires-clause-low g c = λ i j linked.
    let side = c.args.side.now in
    let matched = c.requires.begins.2.matched in
    enter-low (place_weight side) (side_slots side) c.requires.begins.0 (Some c.args.a) c.requires.begins.1 c.args.next.now
    c.args.leave.now c.args.enter.now c.requires.sound matched i j (price c.args.leave.now i + price c.args.enter.now j)
    (matched.tight i j linked)

pub shift-requires-clause-along : goal.shift-requires-clause-along
shift-requires-clause-along g c =
    let p : Problem = (problem_of c.args.side.now (at c.begin.new.self.rows.items 0) c.args.before.now c.begin.new.leave
    c.args.enter.now) in
    let s : TreeView = (tree_of c.grow-grown.new.self c.grow-grown.result.size c.grow-grown.ensures.grown.reach) in
    IsAlong-over p s c.grow-grown.result.end c.requires.begins.0 c.requires.begins.1 c.args.next.now
    (over-shift g c c.requires.begins.0 c.requires.begins.1 c.requires.begins.2)
    (omega (arith, c.grow-grown.new.self.dist.ok.0, c.begin.ensures.slots, c.grow-grown.ensures.slots))

-- the search has ended
over-relink : (g : Over) (c : goal.After-relink-arg-3-1 g) (out : ℕ → Bool) (b : Option ℕ)
    → MayBegin (place_weight c.args.side.now) (side_slots c.args.side.now) out c.args.a b c.args.next.now c.args.leave.now c.args.enter.now
    → IsOver (problem_of c.args.side.now (at c.begin.new.self.rows.items 0) c.args.before.now c.begin.new.leave c.args.enter.now)
    (tree_of c.grow-grown.new.self c.grow-grown.result.size c.grow-grown.ensures.grown.reach)
    c.grow-grown.result.end out b c.args.next.now
over-relink g c out b begins =
    let side = c.args.side.now in
    IsOver-grown (place_weight side) (side_slots side) out c.args.a b c.args.next.now c.args.before.now c.args.leave.now c.args.enter.now
    (at c.begin.new.self.rows.items 0) c.begin.new.leave
    (tree_of c.grow-grown.new.self c.grow-grown.result.size c.grow-grown.ensures.grown.reach)
    c.grow-grown.result.end (omega (arith, c.requires.few)) c.requires.sound c.requires.next c.requires.leave c.requires.inverse begins
    c.begin.ensures.first c.begin.ensures.leave
    c.grow-grown.ensures.grown.tree c.grow-grown.ensures.grown.ended

pub relink-requires-clause-back : goal.relink-requires-clause-back
relink-requires-clause-back g c =
    let p : Problem = (problem_of c.args.side.now (at c.begin.new.self.rows.items 0) c.args.before.now c.begin.new.leave
    c.args.enter.now) in
    let s : TreeView = (tree_of c.grow-grown.new.self c.grow-grown.result.size c.grow-grown.ensures.grown.reach) in
    let now = c.grow-grown.new.self in
    subst (λ parent. LeadsBack c.args.next.now parent c.deref-2.result.now c.grow-grown.result.end.from) (sym c.deref.ensures.value)
    (subst (λ rows. LeadsBack c.args.next.now now.parent.items rows c.grow-grown.result.end.from) (sym c.deref-2.ensures.value)
    (LeadsBack-over p s c.grow-grown.result.end c.requires.begins.0 c.requires.begins.1 c.args.next.now
    (over-relink g c c.requires.begins.0 c.requires.begins.1 c.requires.begins.2)
    (omega (arith, now.parent.ok.0, now.parents, c.begin.ensures.slots, c.grow-grown.ensures.slots))
    (omega (arith, now.rows.ok.0, now.row_places, c.begin.ensures.slots, c.grow-grown.ensures.slots))))

pub relink-requires-clause-to : goal.relink-requires-clause-to
relink-requires-clause-to g c =
    let p : Problem = (problem_of c.args.side.now (at c.begin.new.self.rows.items 0) c.args.before.now c.begin.new.leave
    c.args.enter.now) in
    let now = c.grow-grown.new.self in
    let s : TreeView = (tree_of now c.grow-grown.result.size c.grow-grown.ensures.grown.reach) in
    subst (λ m. IfSome c.grow-grown.result.end.to (λ j. j < m))
    (omega (arith, ap length c.deref.ensures.value, now.parent.ok.0, now.parents, c.begin.ensures.slots, c.grow-grown.ensures.slots))
    (to-over p s c.grow-grown.result.end c.grow-grown.ensures.grown.ended)

pub relink-requires-clause-free : goal.relink-requires-clause-free
relink-requires-clause-free g c =
    let p : Problem = (problem_of c.args.side.now (at c.begin.new.self.rows.items 0) c.args.before.now c.begin.new.leave
    c.args.enter.now) in
    let s : TreeView = (tree_of c.grow-grown.new.self c.grow-grown.result.size c.grow-grown.ensures.grown.reach) in
    free-over p s c.grow-grown.result.end c.requires.begins.0 c.requires.begins.1 c.args.next.now
    (over-relink g c c.requires.begins.0 c.requires.begins.1 c.requires.begins.2)

-- the search has ended
over-end : (g : Over) (c : goal.After-before-1 g) (out : ℕ → Bool) (b : Option ℕ)
    → MayBegin (place_weight c.args.side.now) (side_slots c.args.side.now) out c.args.a b c.args.next.now c.args.leave.now c.args.enter.now
    → IsOver (problem_of c.args.side.now (at c.begin.new.self.rows.items 0) c.args.before.now c.begin.new.leave c.args.enter.now)
    (tree_of c.grow-grown.new.self c.grow-grown.result.size c.grow-grown.ensures.grown.reach)
    c.grow-grown.result.end out b c.args.next.now
over-end g c out b begins =
    let side = c.args.side.now in
    IsOver-grown (place_weight side) (side_slots side) out c.args.a b c.args.next.now c.args.before.now c.args.leave.now c.args.enter.now
    (at c.begin.new.self.rows.items 0) c.begin.new.leave
    (tree_of c.grow-grown.new.self c.grow-grown.result.size c.grow-grown.ensures.grown.reach)
    c.grow-grown.result.end (omega (arith, c.requires.few)) c.requires.sound c.requires.next c.requires.leave c.requires.inverse begins
    c.begin.ensures.first c.begin.ensures.leave
    c.grow-grown.ensures.grown.tree c.grow-grown.ensures.grown.ended

-- the prices are shifted
shifted : (g : Over) (c : goal.After-before-1 g)
    → IsShifted (side_slots c.args.side.now) (at c.begin.new.self.rows.items 0) c.args.next.now c.grow-grown.new.self.dist.items
    c.grow-grown.result.end.fall c.begin.new.leave c.args.enter.now c.shift.new.leave c.shift.new.enter
shifted g c =
    let grown = c.grow-grown.result in
    let now = c.grow-grown.new.self in
    subst (λ first. IsShifted (side_slots c.args.side.now) first c.args.next.now now.dist.items grown.end.fall
    c.begin.new.leave c.args.enter.now c.shift.new.leave c.shift.new.enter) c.grow-grown.ensures.grown.tree.root.1
    (subst (λ n. IsShifted n (at now.rows.items 0) c.args.next.now now.dist.items grown.end.fall c.begin.new.leave c.args.enter.now
    c.shift.new.leave c.shift.new.enter) c.requires.enter c.shift.ensures)

pub returns-clause-matched : goal.returns-clause-matched
returns-clause-matched g c = λ out b begins.
    let p : Problem = (problem_of c.args.side.now (at c.begin.new.self.rows.items 0) c.args.before.now c.begin.new.leave
    c.args.enter.now) in
    let now = c.grow-grown.new.self in
    let s : TreeView = (tree_of now c.grow-grown.result.size c.grow-grown.ensures.grown.reach) in
    matched-end p s c.grow-grown.result.end out b c.args.next.now (over-end g c out b begins) c.relink.new.next c.shift.new.leave
    c.shift.new.enter (omega (arith, c.requires.enter, c.shift.auto.enter)) (shifted g c)
    (subst (λ parent. (w : ℕ → ℕ → Option ℕ) (out : ℕ → Bool) (b : Option ℕ) (leave enter : List ℕ)
    → IsTightBack w out c.args.next.now leave enter parent now.rows.items c.grow-grown.result.end.from
    → IsPassing w out (at now.rows.items 0) b c.args.next.now leave enter (at now.rows.items c.grow-grown.result.end.from) c.grow-grown.result.end.to
    → IsMatched w out None b c.relink.new.next leave enter) c.deref.ensures.value
    (subst (λ rows. (w : ℕ → ℕ → Option ℕ) (out : ℕ → Bool) (b : Option ℕ) (leave enter : List ℕ)
    → IsTightBack w out c.args.next.now leave enter c.deref.result.now rows c.grow-grown.result.end.from
    → IsPassing w out (at rows 0) b c.args.next.now leave enter (at rows c.grow-grown.result.end.from) c.grow-grown.result.end.to
    → IsMatched w out None b c.relink.new.next leave enter) c.deref-2.ensures.value c.relink.ensures.matched))

pub returns-clause-covers : goal.returns-clause-covers
returns-clause-covers g c = λ out b begins.
    let p : Problem = (problem_of c.args.side.now (at c.begin.new.self.rows.items 0) c.args.before.now c.begin.new.leave
    c.args.enter.now) in
    let s : TreeView = (tree_of c.grow-grown.new.self c.grow-grown.result.size c.grow-grown.ensures.grown.reach) in
    covers-over p s c.grow-grown.result.end out b c.args.next.now c.shift.new.leave c.shift.new.enter (over-end g c out b begins) (shifted g c)

pub returns-clause-visited : goal.returns-clause-visited
returns-clause-visited g c =
    let side = c.args.side.now in
    let first = at c.begin.new.self.rows.items 0 in
    Takes-append (RowLooks side c.args.a 0 (side_slots side)) (IsOfOthers side first) (SearchesOnce side)
    (λ xs ys one rest. search-once side first xs ys
    (subst (λ row. RowLooks side row 0 (side_slots side) xs) (sym c.begin.ensures.first) one) rest)
    c.args.looks.now.list c.begin.new.looks.list c.grow-grown.new.looks.list c.args.steps.now c.begin.new.steps c.grow-grown.new.steps
    c.begin.ensures.visited c.grow-grown.ensures.visited

pub returns-clause-plan : goal.returns-clause-plan
returns-clause-plan g c =
    let side = c.args.side.now in
    let w = place_weight side in
    let n = side_slots side in
    let a = c.args.a in
    let next = c.args.next.now in
    let enter = c.args.enter.now in
    let plan : Plan = record { next = next; leave = c.args.leave.now; enter = enter } in
    let matched = c.requires.begins.2.matched in
    let end = c.grow-grown.result.end in
    let start = c.begin.new.self in
    let now = c.grow-grown.new.self in
    let first : Front = first_front w a enter n in
    let over : Front = last_front w a plan in
    let opened_price : at c.begin.new.leave (at start.rows.items 0) ≡ 4503599627370496 =
    ap (at c.begin.new.leave) c.begin.ensures.first ∙ ap (λ l. at l a) c.begin.ensures.leave
    ∙ get_or-set_same c.args.leave.now a 4503599627370496 0 (omega (arith, c.requires.begins.2.start, c.requires.leave)) in
    let begun : Shows start 0 None (at c.begin.new.leave (at start.rows.items 0)) first =
    subst (λ (f : ℕ). Shows start 0 None f first) (sym opened_price) c.begin.ensures.shown in
    let at_end = c.grow-grown.ensures.shown next first (λ j. sym (inverse-before next c.args.before.now matched.once c.requires.inverse j))
    begun in
    let shown : Shows now end.from end.to end.fall over =
    subst (λ (m : ℕ). Shows now end.from end.to end.fall (grown w (opened a plan) m (first_front w a enter m))) (sym c.requires.next)
    (subst (λ (l : List ℕ). Shows now end.from end.to end.fall (grown w (record { next = next; leave = l; enter = enter }) n first))
    c.begin.ensures.leave at_end) in
    let first_is = c.begin.ensures.first in
    let s : TreeView = (tree_of now c.grow-grown.result.size c.grow-grown.ensures.grown.reach) in
    found-end (problem w n (at start.rows.items 0) c.args.before.now c.begin.new.leave enter) s end c.requires.begins.0 c.requires.begins.1
    next (over-end g c c.requires.begins.0 c.requires.begins.1 c.requires.begins.2) c.args.leave.now enter c.relink.new.next
    c.shift.new.leave c.shift.new.enter
    (omega (arith, now.dist.ok.0, c.begin.ensures.slots, c.grow-grown.ensures.slots)) c.requires.enter
    (c.begin.ensures.leave ∙ ap (λ x. set c.args.leave.now x 4503599627370496) (sym first_is)) refl
    (subst (λ x. Shows now end.from end.to end.fall (last_front w x plan)) (sym first_is) shown)
    (subst (λ parent. (from : List ℕ) (most : ℕ) → end.from < most
    → ((t j : ℕ) → t ≤ end.from → next_of next (at now.rows.items t) ≡ Some j → at now.rows.items (at parent j) ≡ at from j)
    → c.relink.new.next ≡ linked_back from most next (at now.rows.items end.from) end.to) c.deref.ensures.value
    (subst (λ rows. (from : List ℕ) (most : ℕ) → end.from < most
    → ((t j : ℕ) → t ≤ end.from → next_of next (at rows t) ≡ Some j → at rows (at c.deref.result.now j) ≡ at from j)
    → c.relink.new.next ≡ linked_back from most next (at rows end.from) end.to) c.deref-2.ensures.value c.relink.ensures.linked))
    (omega (arith, c.shift.auto.leave, ap length c.begin.ensures.leave, length-set c.args.leave.now a 4503599627370496))
    (omega (arith, c.shift.auto.enter)) (shifted g c)
    ∙ ap (λ x. found w x plan) first_is

pub returns-clause-inverse : goal.returns-clause-inverse
returns-clause-inverse g c = c.relink.ensures.inverse c.requires.begins.2.matched.once c.requires.inverse

pub returns-clause-alone : goal.returns-clause-alone
returns-clause-alone g c = λ none.
    let n = side_slots c.args.side.now in
    omega (arith, c.begin.ensures.counted, c.grow-grown.ensures.alone (inverse-none n c.args.next.now c.args.before.now c.requires.inverse none))
