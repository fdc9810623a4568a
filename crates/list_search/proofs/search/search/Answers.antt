use Rattle.std.proofs.Common.{◌≡◌, ◌∙◌, ◌<◌, ◌≤◌, ℕ, length, Bool, false, List, replicate, set, Option, None, Some, refl, sym, ap, subst}
use Rattle.std.proofs.Common.{⊎_elim, arith}
use Rattle.std.proofs.lemmas.Bool.{cases_lt}
use Rattle.std.proofs.lemmas.List.{get_or_past, get_or-replicate, get_or-set_same, length-replicate, length-set}
use Rattle.std.proofs.lemmas.Option.{none-some}
use Rattle.assignment_model.specs.Prices.{Plan}
use Rattle.trip_model.specs.Links.{next_of}
use Rattle.pair_search.specs.Assignment.{IsMatched, MayBegin}
use Rattle.pair_search.specs.Determined.{Front, grown, opened, first_front, linked_back}
use Rattle.pair_search.specs.Fronts.{IsShown}
use Rattle.pair_search.specs.Relinking.{LeadsBack, IsShifted, IsTightBack, IsPassing}
use Rattle.pair_search.specs.Search.{at, as_columns, problem, Problem, TreeView, AreLooked, IsTree}
use Rattle.pair_search.proofs.EndLemmas.{matched-end, found-end}
use Rattle.pair_search.proofs.InverseLemmas.{inverse-before}
use Rattle.pair_search.proofs.ShiftLemmas.{enter-low, given-at, IsOver, IsOver-grown, gain-low, covers-over, LeadsBack-over}
use Rattle.pair_search.proofs.ShiftLemmas.{free-over, to-over}
use Rattle.std.specs.Prelude.{IfSome}
use Rattle.pair_search.proofs.ShownLemmas.{IsShown-begun}
use Rattle.pair_search.proofs.TreeLemmas.{IsTree-begun}
use Rattle.list_search.specs.Lists.{listed}
use Rattle.list_search.specs.Trees.{columns_of, tree_of}
use Rattle.list_search.proofs.EndLemmas.{rows-within, IsShifted-tree}
use Rattle.list_search.proofs.search.search.Goals as goal

pub begin-requires-clause-enter_low : goal.begin-requires-clause-enter_low
begin-requires-clause-enter_low c =
    enter-low (listed c.args.lists.now) c.args.lists.now.slots c.requires.begins.0 (Some c.args.a) None c.args.next.now
    c.args.leave.now c.args.enter.now c.requires.sound c.requires.begins.1.matched c.args.a

pub begin-requires-clause-most : goal.begin-requires-clause-most
begin-requires-clause-most c = c.requires.sound.most c.args.a

pub grow-grown-requires-clause-given : goal.grow-grown-requires-clause-given
grow-grown-requires-clause-given c =
    given-at (listed c.args.lists.now) c.args.lists.now.slots c.requires.begins.0 c.args.a None c.args.next.now c.args.before.now
    c.args.leave.now c.args.enter.now c.args.a (set c.args.leave.now c.args.a 4503599627370496)
    (omega (arith, c.args.tree.now.few, c.requires.slots)) c.requires.sound c.requires.next c.requires.leave c.requires.inverse
    c.requires.begins.1 refl refl

pub grow-grown-requires-clause-begun : goal.grow-grown-requires-clause-begun
grow-grown-requires-clause-begun c =
    let w = listed c.args.lists.now in
    let n = c.args.lists.now.slots in
    let a = c.args.a in
    let raised = set c.args.leave.now a 4503599627370496 in
    let p : Problem = problem w n a c.args.before.now raised c.args.enter.now in
    let was = c.args.tree.now in
    let now = c.begin.new.self in
    let looked = c.begin.ensures.looked in
    subst (λ (d : List Bool). IsTree p (record {
      dist = now.dist.items;
      parent = now.parent.items;
      done = d;
      rows = now.rows.items;
      far = now.far.items;
      size = 1;
      reach = 0;
    })) (sym looked.done)
    (IsTree-begun p was.dist.items was.parent.items now.dist.items now.parent.items was.done.items now.rows.items now.far.items
    (given-at w n c.requires.begins.0 a None c.args.next.now c.args.before.now c.args.leave.now c.args.enter.now a raised
    (omega (arith, was.few, c.requires.slots)) c.requires.sound c.requires.next c.requires.leave c.requires.inverse c.requires.begins.1 refl
    refl)
    (get_or-set_same c.args.leave.now a 4503599627370496 0 (omega (arith, c.requires.begins.1.start, c.requires.leave)))
    c.requires.dist c.requires.done c.begin.ensures.first.0 c.begin.ensures.first.1
    (subst (λ (d : List Bool). AreLooked (w a) n 0 4503599627370496 c.args.enter.now (columns_of was)
    (as_columns now.dist.items now.parent.items d)) looked.done looked))

pub grow-grown-requires-clause-most : goal.grow-grown-requires-clause-most
grow-grown-requires-clause-most c = λ j.
    let n = c.args.lists.now.slots in
    let start : at c.args.tree.now.dist.items j ≤ 4503599627370497 = ⊎_elim
    (λ (lt : j < n). omega (arith, ap (λ d. at d j) c.requires.dist, get_or-replicate {A = ℕ} n j 4503599627370497 0 lt))
    (λ (past : n ≤ j).
    let none : at (replicate n 4503599627370497) j ≡ 0 =
    get_or_past (replicate n 4503599627370497) j 0 (omega (arith, past, length-replicate {A = ℕ} n 4503599627370497)) in
    omega (arith, ap (λ d. at d j) c.requires.dist, none))
    (cases_lt j n) in
    omega (arith, start, c.begin.ensures.looked.nearer j)

pub relink-requires-clause-back : goal.relink-requires-clause-back
relink-requires-clause-back c =
    let next = c.args.next.now in
    let leave = c.args.leave.now in
    let enter = c.args.enter.now in
    let w = listed c.args.lists.now in
    let n = c.args.lists.now.slots in
    let a = c.args.a in
    let raised = set leave a 4503599627370496 in
    let now = c.grow-grown.new.self in
    let end = c.grow-grown.result.end in
    let grows = c.grow-grown.ensures.grown in
    let p : Problem = problem w n a c.args.before.now raised enter in
    let s : TreeView = tree_of now c.grow-grown.result.size grows.reach in
    let over : (out : ℕ → Bool) → MayBegin w n out a None next leave enter → IsOver p s end out None next = λ out begins.
    IsOver-grown w n out a None next c.args.before.now leave enter a raised s end
    (omega (arith, c.args.tree.now.few, c.requires.slots)) c.requires.sound c.requires.next c.requires.leave c.requires.inverse begins
    refl refl grows.tree grows.ended in
    subst (λ parent. LeadsBack next parent c.deref-2.result.now end.from) (sym c.deref.ensures.value)
    (subst (λ rows. LeadsBack next now.parent.items rows end.from) (sym c.deref-2.ensures.value)
    (LeadsBack-over p s end c.requires.begins.0 None next (over c.requires.begins.0 c.requires.begins.1)
    (omega (arith, now.parent.ok.0, now.parents, c.requires.slots, c.begin.ensures.slots, c.grow-grown.ensures.slots))
    (omega (arith, now.rows.ok.0, now.row_places, c.requires.slots, c.begin.ensures.slots, c.grow-grown.ensures.slots))))

pub relink-requires-clause-free : goal.relink-requires-clause-free
relink-requires-clause-free c =
    let next = c.args.next.now in
    let leave = c.args.leave.now in
    let enter = c.args.enter.now in
    let w = listed c.args.lists.now in
    let n = c.args.lists.now.slots in
    let a = c.args.a in
    let raised = set leave a 4503599627370496 in
    let now = c.grow-grown.new.self in
    let end = c.grow-grown.result.end in
    let grows = c.grow-grown.ensures.grown in
    let p : Problem = problem w n a c.args.before.now raised enter in
    let s : TreeView = tree_of now c.grow-grown.result.size grows.reach in
    let over : (out : ℕ → Bool) → MayBegin w n out a None next leave enter → IsOver p s end out None next = λ out begins.
    IsOver-grown w n out a None next c.args.before.now leave enter a raised s end
    (omega (arith, c.args.tree.now.few, c.requires.slots)) c.requires.sound c.requires.next c.requires.leave c.requires.inverse begins
    refl refl grows.tree grows.ended in
    free-over p s end c.requires.begins.0 None next (over c.requires.begins.0 c.requires.begins.1)

pub relink-requires-clause-to : goal.relink-requires-clause-to
relink-requires-clause-to c =
    let now = c.grow-grown.new.self in
    let grows = c.grow-grown.ensures.grown in
    let p : Problem = problem (listed c.args.lists.now) c.args.lists.now.slots c.args.a c.args.before.now
    (set c.args.leave.now c.args.a 4503599627370496) c.args.enter.now in
    subst (λ m. IfSome c.grow-grown.result.end.to (λ j. j < m))
    (omega (
      arith,
      ap length c.deref.ensures.value,
      now.parent.ok.0,
      now.parents,
      c.requires.slots,
      c.begin.ensures.slots,
      c.grow-grown.ensures.slots,
    ))
    (to-over p (tree_of now c.grow-grown.result.size grows.reach) c.grow-grown.result.end grows.ended)

pub lower-requires-clause-size : goal.lower-requires-clause-size
lower-requires-clause-size c =
    let next = c.args.next.now in
    let leave = c.args.leave.now in
    let enter = c.args.enter.now in
    let w = listed c.args.lists.now in
    let n = c.args.lists.now.slots in
    let a = c.args.a in
    let raised = set leave a 4503599627370496 in
    let now = c.grow-grown.new.self in
    let end = c.grow-grown.result.end in
    let grows = c.grow-grown.ensures.grown in
    let p : Problem = problem w n a c.args.before.now raised enter in
    let s : TreeView = tree_of now c.grow-grown.result.size grows.reach in
    let over : (out : ℕ → Bool) → MayBegin w n out a None next leave enter → IsOver p s end out None next = λ out begins.
    IsOver-grown w n out a None next c.args.before.now leave enter a raised s end
    (omega (arith, c.args.tree.now.few, c.requires.slots)) c.requires.sound c.requires.next c.requires.leave c.requires.inverse begins
    refl refl grows.tree grows.ended in
    omega (arith, grows.tree.count, now.row_places, c.requires.slots, c.begin.ensures.slots, c.grow-grown.ensures.slots)

pub lower-requires-clause-within : goal.lower-requires-clause-within
lower-requires-clause-within c =
    let next = c.args.next.now in
    let leave = c.args.leave.now in
    let enter = c.args.enter.now in
    let w = listed c.args.lists.now in
    let n = c.args.lists.now.slots in
    let a = c.args.a in
    let raised = set leave a 4503599627370496 in
    let now = c.grow-grown.new.self in
    let end = c.grow-grown.result.end in
    let grows = c.grow-grown.ensures.grown in
    let p : Problem = problem w n a c.args.before.now raised enter in
    let s : TreeView = tree_of now c.grow-grown.result.size grows.reach in
    let over : (out : ℕ → Bool) → MayBegin w n out a None next leave enter → IsOver p s end out None next = λ out begins.
    IsOver-grown w n out a None next c.args.before.now leave enter a raised s end
    (omega (arith, c.args.tree.now.few, c.requires.slots)) c.requires.sound c.requires.next c.requires.leave c.requires.inverse begins
    refl refl grows.tree grows.ended in
    λ t lt. omega (arith, rows-within p s end c.requires.begins.0 None next (over c.requires.begins.0 c.requires.begins.1) t lt, c.requires.leave, length-set leave a 4503599627370496)

pub lower-requires-clause-apart : goal.lower-requires-clause-apart
lower-requires-clause-apart c =
    let next = c.args.next.now in
    let leave = c.args.leave.now in
    let enter = c.args.enter.now in
    let w = listed c.args.lists.now in
    let n = c.args.lists.now.slots in
    let a = c.args.a in
    let raised = set leave a 4503599627370496 in
    let now = c.grow-grown.new.self in
    let end = c.grow-grown.result.end in
    let grows = c.grow-grown.ensures.grown in
    let p : Problem = problem w n a c.args.before.now raised enter in
    let s : TreeView = tree_of now c.grow-grown.result.size grows.reach in
    let over : (out : ℕ → Bool) → MayBegin w n out a None next leave enter → IsOver p s end out None next = λ out begins.
    IsOver-grown w n out a None next c.args.before.now leave enter a raised s end
    (omega (arith, c.args.tree.now.few, c.requires.slots)) c.requires.sound c.requires.next c.requires.leave c.requires.inverse begins
    refl refl grows.tree grows.ended in
    grows.tree.apart

pub lower-requires-clause-later : goal.lower-requires-clause-later
lower-requires-clause-later c =
    let next = c.args.next.now in
    let leave = c.args.leave.now in
    let enter = c.args.enter.now in
    let w = listed c.args.lists.now in
    let n = c.args.lists.now.slots in
    let a = c.args.a in
    let raised = set leave a 4503599627370496 in
    let now = c.grow-grown.new.self in
    let end = c.grow-grown.result.end in
    let grows = c.grow-grown.ensures.grown in
    let p : Problem = problem w n a c.args.before.now raised enter in
    let s : TreeView = tree_of now c.grow-grown.result.size grows.reach in
    let over : (out : ℕ → Bool) → MayBegin w n out a None next leave enter → IsOver p s end out None next = λ out begins.
    IsOver-grown w n out a None next c.args.before.now leave enter a raised s end
    (omega (arith, c.args.tree.now.few, c.requires.slots)) c.requires.sound c.requires.next c.requires.leave c.requires.inverse begins
    refl refl grows.tree grows.ended in
    λ t lt. omega (arith, grows.tree.within t lt, grows.ended.later)

pub lower-requires-clause-enough : goal.lower-requires-clause-enough
lower-requires-clause-enough c =
    let next = c.args.next.now in
    let leave = c.args.leave.now in
    let enter = c.args.enter.now in
    let w = listed c.args.lists.now in
    let n = c.args.lists.now.slots in
    let a = c.args.a in
    let raised = set leave a 4503599627370496 in
    let now = c.grow-grown.new.self in
    let end = c.grow-grown.result.end in
    let grows = c.grow-grown.ensures.grown in
    let p : Problem = problem w n a c.args.before.now raised enter in
    let s : TreeView = tree_of now c.grow-grown.result.size grows.reach in
    let over : (out : ℕ → Bool) → MayBegin w n out a None next leave enter → IsOver p s end out None next = λ out begins.
    IsOver-grown w n out a None next c.args.before.now leave enter a raised s end
    (omega (arith, c.args.tree.now.few, c.requires.slots)) c.requires.sound c.requires.next c.requires.leave c.requires.inverse begins
    refl refl grows.tree grows.ended in
    grows.ended.rows

pub settle-requires-clause-size : goal.settle-requires-clause-size
settle-requires-clause-size c =
    let next = c.args.next.now in
    let leave = c.args.leave.now in
    let enter = c.args.enter.now in
    let w = listed c.args.lists.now in
    let n = c.args.lists.now.slots in
    let a = c.args.a in
    let raised = set leave a 4503599627370496 in
    let now = c.grow-grown.new.self in
    let end = c.grow-grown.result.end in
    let grows = c.grow-grown.ensures.grown in
    let p : Problem = problem w n a c.args.before.now raised enter in
    let s : TreeView = tree_of now c.grow-grown.result.size grows.reach in
    let over : (out : ℕ → Bool) → MayBegin w n out a None next leave enter → IsOver p s end out None next = λ out begins.
    IsOver-grown w n out a None next c.args.before.now leave enter a raised s end
    (omega (arith, c.args.tree.now.few, c.requires.slots)) c.requires.sound c.requires.next c.requires.leave c.requires.inverse begins
    refl refl grows.tree grows.ended in
    omega (arith, grows.tree.count, now.row_places, c.requires.slots, c.begin.ensures.slots, c.grow-grown.ensures.slots)

pub settle-requires-clause-rows : goal.settle-requires-clause-rows
settle-requires-clause-rows c =
    let next = c.args.next.now in
    let leave = c.args.leave.now in
    let enter = c.args.enter.now in
    let w = listed c.args.lists.now in
    let n = c.args.lists.now.slots in
    let a = c.args.a in
    let raised = set leave a 4503599627370496 in
    let now = c.grow-grown.new.self in
    let end = c.grow-grown.result.end in
    let grows = c.grow-grown.ensures.grown in
    let p : Problem = problem w n a c.args.before.now raised enter in
    let s : TreeView = tree_of now c.grow-grown.result.size grows.reach in
    let over : (out : ℕ → Bool) → MayBegin w n out a None next leave enter → IsOver p s end out None next = λ out begins.
    IsOver-grown w n out a None next c.args.before.now leave enter a raised s end
    (omega (arith, c.args.tree.now.few, c.requires.slots)) c.requires.sound c.requires.next c.requires.leave c.requires.inverse begins
    refl refl grows.tree grows.ended in
    λ t lt. omega (arith, rows-within p s end c.requires.begins.0 None next (over c.requires.begins.0 c.requires.begins.1) t lt, c.requires.rows)

pub settle-requires-clause-low : goal.settle-requires-clause-low
settle-requires-clause-low c =
    let next = c.args.next.now in
    let leave = c.args.leave.now in
    let enter = c.args.enter.now in
    let w = listed c.args.lists.now in
    let n = c.args.lists.now.slots in
    let a = c.args.a in
    let raised = set leave a 4503599627370496 in
    let now = c.grow-grown.new.self in
    let end = c.grow-grown.result.end in
    let grows = c.grow-grown.ensures.grown in
    let p : Problem = problem w n a c.args.before.now raised enter in
    let s : TreeView = tree_of now c.grow-grown.result.size grows.reach in
    let over : (out : ℕ → Bool) → MayBegin w n out a None next leave enter → IsOver p s end out None next = λ out begins.
    IsOver-grown w n out a None next c.args.before.now leave enter a raised s end
    (omega (arith, c.args.tree.now.few, c.requires.slots)) c.requires.sound c.requires.next c.requires.leave c.requires.inverse begins
    refl refl grows.tree grows.ended in
    λ j near. ⊎_elim
    (λ (inside : j < n). gain-low p s end c.requires.begins.0 None next (over c.requires.begins.0 c.requires.begins.1) j inside near)
    (λ (past : n ≤ j).
    let none : at enter j ≡ 0 = get_or_past enter j 0 (omega (arith, past, c.requires.enter)) in
    omega (arith, none))
    (cases_lt j n)

pub settle-requires-clause-reached : goal.settle-requires-clause-reached
settle-requires-clause-reached c =
    let next = c.args.next.now in
    let leave = c.args.leave.now in
    let enter = c.args.enter.now in
    let w = listed c.args.lists.now in
    let n = c.args.lists.now.slots in
    let a = c.args.a in
    let raised = set leave a 4503599627370496 in
    let now = c.grow-grown.new.self in
    let end = c.grow-grown.result.end in
    let grows = c.grow-grown.ensures.grown in
    let p : Problem = problem w n a c.args.before.now raised enter in
    let s : TreeView = tree_of now c.grow-grown.result.size grows.reach in
    let over : (out : ℕ → Bool) → MayBegin w n out a None next leave enter → IsOver p s end out None next = λ out begins.
    IsOver-grown w n out a None next c.args.before.now leave enter a raised s end
    (omega (arith, c.args.tree.now.few, c.requires.slots)) c.requires.sound c.requires.next c.requires.leave c.requires.inverse begins
    refl refl grows.tree grows.ended in
    λ j lt near.
    let from = grows.tree.reached j lt near in
    (at now.parent.items j, from.within, λ none. none-some from.weight (sym none ∙ from.fits))

pub settle-requires-clause-done : goal.settle-requires-clause-done
settle-requires-clause-done c =
    let next = c.args.next.now in
    let leave = c.args.leave.now in
    let enter = c.args.enter.now in
    let w = listed c.args.lists.now in
    let n = c.args.lists.now.slots in
    let a = c.args.a in
    let raised = set leave a 4503599627370496 in
    let now = c.grow-grown.new.self in
    let end = c.grow-grown.result.end in
    let grows = c.grow-grown.ensures.grown in
    let p : Problem = problem w n a c.args.before.now raised enter in
    let s : TreeView = tree_of now c.grow-grown.result.size grows.reach in
    let over : (out : ℕ → Bool) → MayBegin w n out a None next leave enter → IsOver p s end out None next = λ out begins.
    IsOver-grown w n out a None next c.args.before.now leave enter a raised s end
    (omega (arith, c.args.tree.now.few, c.requires.slots)) c.requires.sound c.requires.next c.requires.leave c.requires.inverse begins
    refl refl grows.tree grows.ended in
    λ j lt done.
    let placed = grows.tree.done j lt done in
    omega (arith, placed.far, grows.tree.within placed.place placed.within.1, grows.ended.later, grows.ended.low)

pub returns-clause-matched : goal.returns-clause-matched
returns-clause-matched c =
    let next = c.args.next.now in
    let leave = c.args.leave.now in
    let enter = c.args.enter.now in
    let w = listed c.args.lists.now in
    let n = c.args.lists.now.slots in
    let a = c.args.a in
    let raised = set leave a 4503599627370496 in
    let now = c.grow-grown.new.self in
    let end = c.grow-grown.result.end in
    let grows = c.grow-grown.ensures.grown in
    let p : Problem = problem w n a c.args.before.now raised enter in
    let s : TreeView = tree_of now c.grow-grown.result.size grows.reach in
    let over : (out : ℕ → Bool) → MayBegin w n out a None next leave enter → IsOver p s end out None next = λ out begins.
    IsOver-grown w n out a None next c.args.before.now leave enter a raised s end
    (omega (arith, c.args.tree.now.few, c.requires.slots)) c.requires.sound c.requires.next c.requires.leave c.requires.inverse begins
    refl refl grows.tree grows.ended in
    let shifted : (out : ℕ → Bool) → MayBegin w n out a None next leave enter
    → IsShifted n a next now.dist.items end.fall raised enter c.lower.new.leave c.settle.new.enter = λ out begins.
    IsShifted-tree p s end out None next (over out begins) c.lower.new.leave c.settle.new.enter c.lower.ensures.rows
    c.lower.ensures.others (λ j lt. c.settle.ensures.columns j (omega (arith, lt, c.requires.enter))) in
    λ out begins.
    matched-end p s end out None next (over out begins) c.relink.new.next c.lower.new.leave c.settle.new.enter
    (omega (arith, c.requires.enter, c.settle.auto.enter)) (shifted out begins)
    (subst (λ parent. (w : ℕ → ℕ → Option ℕ) (out : ℕ → Bool) (b : Option ℕ) (leave enter : List ℕ)
    → IsTightBack w out next leave enter parent now.rows.items end.from
    → IsPassing w out (at now.rows.items 0) b next leave enter (at now.rows.items end.from) end.to
    → IsMatched w out None b c.relink.new.next leave enter) c.deref.ensures.value
    (subst (λ rows. (w : ℕ → ℕ → Option ℕ) (out : ℕ → Bool) (b : Option ℕ) (leave enter : List ℕ)
    → IsTightBack w out next leave enter c.deref.result.now rows end.from
    → IsPassing w out (at rows 0) b next leave enter (at rows end.from) end.to
    → IsMatched w out None b c.relink.new.next leave enter) c.deref-2.ensures.value c.relink.ensures.matched))

pub returns-clause-covers : goal.returns-clause-covers
returns-clause-covers c =
    let next = c.args.next.now in
    let leave = c.args.leave.now in
    let enter = c.args.enter.now in
    let w = listed c.args.lists.now in
    let n = c.args.lists.now.slots in
    let a = c.args.a in
    let raised = set leave a 4503599627370496 in
    let now = c.grow-grown.new.self in
    let end = c.grow-grown.result.end in
    let grows = c.grow-grown.ensures.grown in
    let p : Problem = problem w n a c.args.before.now raised enter in
    let s : TreeView = tree_of now c.grow-grown.result.size grows.reach in
    let over : (out : ℕ → Bool) → MayBegin w n out a None next leave enter → IsOver p s end out None next = λ out begins.
    IsOver-grown w n out a None next c.args.before.now leave enter a raised s end
    (omega (arith, c.args.tree.now.few, c.requires.slots)) c.requires.sound c.requires.next c.requires.leave c.requires.inverse begins
    refl refl grows.tree grows.ended in
    let shifted : (out : ℕ → Bool) → MayBegin w n out a None next leave enter
    → IsShifted n a next now.dist.items end.fall raised enter c.lower.new.leave c.settle.new.enter = λ out begins.
    IsShifted-tree p s end out None next (over out begins) c.lower.new.leave c.settle.new.enter c.lower.ensures.rows
    c.lower.ensures.others (λ j lt. c.settle.ensures.columns j (omega (arith, lt, c.requires.enter))) in
    λ out begins. covers-over p s end out None next c.lower.new.leave c.settle.new.enter (over out begins) (shifted out begins)

pub returns-clause-plan : goal.returns-clause-plan
returns-clause-plan c =
    let next = c.args.next.now in
    let leave = c.args.leave.now in
    let enter = c.args.enter.now in
    let w = listed c.args.lists.now in
    let n = c.args.lists.now.slots in
    let a = c.args.a in
    let raised = set leave a 4503599627370496 in
    let now = c.grow-grown.new.self in
    let end = c.grow-grown.result.end in
    let grows = c.grow-grown.ensures.grown in
    let p : Problem = problem w n a c.args.before.now raised enter in
    let s : TreeView = tree_of now c.grow-grown.result.size grows.reach in
    let over : (out : ℕ → Bool) → MayBegin w n out a None next leave enter → IsOver p s end out None next = λ out begins.
    IsOver-grown w n out a None next c.args.before.now leave enter a raised s end
    (omega (arith, c.args.tree.now.few, c.requires.slots)) c.requires.sound c.requires.next c.requires.leave c.requires.inverse begins
    refl refl grows.tree grows.ended in
    let shifted : (out : ℕ → Bool) → MayBegin w n out a None next leave enter
    → IsShifted n a next now.dist.items end.fall raised enter c.lower.new.leave c.settle.new.enter = λ out begins.
    IsShifted-tree p s end out None next (over out begins) c.lower.new.leave c.settle.new.enter c.lower.ensures.rows
    c.lower.ensures.others (λ j lt. c.settle.ensures.columns j (omega (arith, lt, c.requires.enter))) in
    let begun = c.begin.new.self in
    let looked = c.begin.ensures.looked in
    let first : Front = first_front w a enter n in
    let plan : Plan = record { next = next; leave = leave; enter = enter } in
    let was = c.args.tree.now in
    let done : begun.done.items ≡ replicate n false = looked.done ∙ c.requires.done in
    let price : at raised a ≡ 4503599627370496 =
    get_or-set_same leave a 4503599627370496 0 (omega (arith, c.requires.begins.1.start, c.requires.leave)) in
    let seen : AreLooked (w a) n 0 4503599627370496 enter (as_columns (replicate n 4503599627370497) was.parent.items (replicate n false))
    (as_columns begun.dist.items begun.parent.items (replicate n false)) =
    subst (λ (d : List ℕ). AreLooked (w a) n 0 4503599627370496 enter (as_columns d was.parent.items (replicate n false))
    (as_columns begun.dist.items begun.parent.items (replicate n false))) c.requires.dist
    (subst (λ (d : List Bool). AreLooked (w a) n 0 4503599627370496 enter (as_columns was.dist.items was.parent.items d)
    (as_columns begun.dist.items begun.parent.items (replicate n false))) c.requires.done
    (subst (λ (d : List Bool). AreLooked (w a) n 0 4503599627370496 enter (columns_of was)
    (as_columns begun.dist.items begun.parent.items d)) done looked)) in
    let shows : IsShown begun.dist.items begun.parent.items begun.done.items begun.rows.items 0 None (at raised a) first =
    subst (λ (f : ℕ). IsShown begun.dist.items begun.parent.items begun.done.items begun.rows.items 0 None f first) (sym price)
    (subst (λ (d : List Bool). IsShown begun.dist.items begun.parent.items d begun.rows.items 0 None 4503599627370496 first) (sym done)
    (IsShown-begun w a n enter begun.dist.items was.parent.items begun.parent.items begun.rows.items
    (omega (arith, begun.dist.ok.0, c.begin.ensures.slots, c.requires.slots)) c.begin.ensures.first.0 seen)) in
    let shown = c.grow-grown.ensures.shown next first
    (λ j. sym (inverse-before next c.args.before.now c.requires.begins.1.matched.once c.requires.inverse j)) shows in
    found-end p s end c.requires.begins.0 None next (over c.requires.begins.0 c.requires.begins.1) leave enter c.relink.new.next c.lower.new.leave c.settle.new.enter
    (omega (arith, now.dist.ok.0, c.requires.slots, c.begin.ensures.slots, c.grow-grown.ensures.slots)) c.requires.enter refl refl
    (subst (λ (m : ℕ). IsShown now.dist.items now.parent.items now.done.items now.rows.items end.from end.to end.fall
    (grown w (opened a plan) m (first_front w a enter m))) (sym c.requires.next) shown)
    (subst (λ parent. (from : List ℕ) (most : ℕ) → end.from < most
    → ((t j : ℕ) → t ≤ end.from → next_of next (at now.rows.items t) ≡ Some j → at now.rows.items (at parent j) ≡ at from j)
    → c.relink.new.next ≡ linked_back from most next (at now.rows.items end.from) end.to) c.deref.ensures.value
    (subst (λ rows. (from : List ℕ) (most : ℕ) → end.from < most
    → ((t j : ℕ) → t ≤ end.from → next_of next (at rows t) ≡ Some j → at rows (at c.deref.result.now j) ≡ at from j)
    → c.relink.new.next ≡ linked_back from most next (at rows end.from) end.to) c.deref-2.ensures.value c.relink.ensures.linked))
    (omega (arith, c.lower.auto.leave, length-set leave a 4503599627370496)) (omega (arith, c.settle.auto.enter))
    (shifted c.requires.begins.0 c.requires.begins.1)

pub returns-clause-inverse : goal.returns-clause-inverse
returns-clause-inverse c = c.relink.ensures.inverse c.requires.begins.1.matched.once c.requires.inverse
