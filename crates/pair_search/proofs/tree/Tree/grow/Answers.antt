use Rattle.std.proofs.Common.{◌≡◌, ◌∙◌, ◌<◌, ◌≤◌, ◌+◌, ◌⊎◌, ℕ, min, nat_lt, true, false, length, set, None, Some, if◌then◌else◌, inr}
use Rattle.std.proofs.Common.{refl, sym, ap, subst, arith}
use Rattle.std.proofs.Math.Nat.{mul-le-mul_left}
use Rattle.std.proofs.lemmas.List.{get_or_read}
use Rattle.std.proofs.lemmas.List.Elements.{All-nil}
use Rattle.std.proofs.lemmas.Option.{none-some}
use Rattle.assignment_model.specs.Prices.{Plan}
use Rattle.pair_search.specs.Determined.{first_nearest, grown}
use Rattle.pair_search.specs.Fronts.{IsShown, IsOnWay}
use Rattle.pair_search.specs.Search.{at, is_done, as_columns, problem_of, Problem, TreeView, tree_of, AreLooked, HasEnded}
use Rattle.pair_search.specs.Search.{IsNearest, IsNext}
use Rattle.pair_search.specs.Side.{side_slots, place_weight}
use Rattle.pair_search.specs.Visits.{IsOfOthers, RowLooks}
use Rattle.pair_search.proofs.FrontLemmas.{IsOnWay-first, IsShown-none, IsShown-column}
use Rattle.pair_search.proofs.GroupLemmas.{AreNear-same, AreReached-same}
use Rattle.pair_search.proofs.LentLemmas.{written}
use Rattle.pair_search.proofs.ShownLemmas.{IsOnWay-come}
use Rattle.pair_search.proofs.VisitLemmas.{once-none, IsOfTree, TreeLooks, TreeLooks-more, TreeLooks-others, Takes-append, Takes-none, Takes-weaker}
use Rattle.pair_search.proofs.TreeLemmas.{tree-room, IsBest-first, IsBest-more, HasEnded-row, HasEnded-column}
use Rattle.pair_search.proofs.tree.Tree.grow.Goals as goal

pub loop-column-init : goal.loop-column-init
loop-column-init g c =
    let side = c.args.side.now in
    let was = c.args.self.now in
    let leave = c.args.leave.now in
    let p : Problem = problem_of side (at was.rows.items 0) c.args.before.now leave c.args.enter.now in
    let w = place_weight side in
    let fall = at leave c.index.result.now in
    let root : c.index.result.now ≡ at was.rows.items 0 =
    get_or_read was.rows.items 0 c.index.result.now (omega (arith, was.rows.ok.0, was.row_places)) c.index.ensures 0 in
    let slots : length was.dist.items ≡ side_slots side = omega (arith, was.dist.ok.0, c.requires.slots) in
    record {
      slots = refl;
      reach = 0;
      tree = c.requires.begun;
      best = IsBest-first p (tree_of was 1 0) fall c.requires.given c.requires.begun refl refl (ap (at leave) root);
      shown = λ start front befores begun.
          let plan : Plan = record { next = start; leave = leave; enter = c.args.enter.now } in
          subst (λ (n : ℕ). IsOnWay w plan (grown w plan n front) 1 was.dist.items was.parent.items was.done.items was.rows.items 0 None
          fall) slots
          (IsOnWay-first w plan front was.dist.items was.parent.items was.done.items was.rows.items 0 None fall
          (subst (λ (d : ℕ). IsShown was.dist.items was.parent.items was.done.items was.rows.items 0 None d front)
          (sym (ap (at leave) root)) begun));
      seen = record {
        room = c.requires.seen.room;
        near = c.requires.seen.near;
        reached = c.requires.seen.reached;
        posts = c.requires.seen.posts;
        led = c.requires.seen.led;
      };
      visited =
          Takes-none (TreeLooks side was.rows.items 1) (record { once = once-none side; each = All-nil (IsOfTree was.rows.items 1) })
          c.args.looks.now.list c.args.steps.now;
      counted = omega arith;
      alone = λ _. refl;
    }

pub nearest-requires-clause-room : goal.nearest-requires-clause-room
nearest-requires-clause-room g c = omega (arith, c.loop-column.invariant.seen.room, ap length c.deref_mut.ensures.value)

pub nearest-requires-clause-near : goal.nearest-requires-clause-near
nearest-requires-clause-near g c =
    let side = c.args.side.now in
    let was = c.loop-column.self in
    AreNear-same side.count side.groups was.done.items _ was.dist.items _ was.seen.items _ (sym c.deref.ensures.value)
    (sym c.deref-in-loop-column.ensures.value) (sym c.deref_mut.ensures.value) c.loop-column.invariant.seen.near

pub returns-in_default-before-clause-grown : goal.returns-in_default-before-clause-grown
returns-in_default-before-clause-grown g c =
    let side = c.args.side.now in
    let loop = c.loop-column in
    let was = loop.self in
    let p : Problem = problem_of side (at c.args.self.now.rows.items 0) c.args.before.now c.args.leave.now c.args.enter.now in
    let s : TreeView = tree_of was loop.size loop.invariant.reach in
    let column = c.in-Some.column in
    let nearest : IsNearest was.done.items was.dist.items loop.best.fall column =
    subst (λ xs. IsNearest xs was.dist.items loop.best.fall column) c.deref.ensures.value
    (subst (λ xs. IsNearest c.deref.result.now xs loop.best.fall column) c.deref-in-loop-column.ensures.value c.in-Some.ensures.some) in
    let slots : length was.dist.items ≡ side_slots side = omega (arith, was.dist.ok.0, loop.invariant.slots, c.requires.slots) in
    let read : c.index-distance.result.now ≡ at was.dist.items column =
    get_or_read was.dist.items column c.index-distance.result.now nearest.within c.index-distance.ensures 0 in
    let reader : c.index-in_default-before.result.now ≡ at was.parent.items column =
    get_or_read was.parent.items column c.index-in_default-before.result.now
    (omega (arith, nearest.within, was.dist.ok.0, was.parent.ok.0, was.parents)) c.index-in_default-before.ensures 0 in
    record {
      reach = loop.invariant.reach;
      tree = loop.invariant.tree;
      ended =
          subst (λ (d : ℕ). HasEnded p s (record { from = c.index-in_default-before.result.now; to = Some column; fall = d })) (sym read)
          (subst (λ (i : ℕ). HasEnded p s (record { from = i; to = Some column; fall = at was.dist.items column })) (sym reader)
          (HasEnded-column p s loop.best column loop.invariant.tree loop.invariant.best (omega (arith, nearest.within, slots))
          nearest.undone nearest.below (λ j lt undone. nearest.least j (omega (arith, lt, slots)) undone) c.in_default-before.is));
    }

pub returns-in_default-before-clause-shown : goal.returns-in_default-before-clause-shown
returns-in_default-before-clause-shown g c = λ start front befores begun.
    let side = c.args.side.now in
    let loop = c.loop-column in
    let was = loop.self in
    let w = place_weight side in
    let plan : Plan = record { next = start; leave = c.args.leave.now; enter = c.args.enter.now } in
    let p : Problem = problem_of side (at c.args.self.now.rows.items 0) c.args.before.now c.args.leave.now c.args.enter.now in
    let s : TreeView = tree_of was loop.size loop.invariant.reach in
    let column = c.in-Some.column in
    let nearest : IsNearest was.done.items was.dist.items loop.best.fall column =
    subst (λ xs. IsNearest xs was.dist.items loop.best.fall column) c.deref.ensures.value
    (subst (λ xs. IsNearest c.deref.result.now xs loop.best.fall column) c.deref-in-loop-column.ensures.value c.in-Some.ensures.some) in
    let picked : first_nearest (length was.dist.items) was.done.items was.dist.items loop.best.fall ≡ Some column =
    sym (subst (λ xs. Some column ≡ first_nearest (length was.dist.items) xs was.dist.items loop.best.fall) c.deref.ensures.value
    (subst (λ xs. Some column ≡ first_nearest (length xs) c.deref.result.now xs loop.best.fall) c.deref-in-loop-column.ensures.value
    c.in-Some.ensures.picked)) in
    let slots : length was.dist.items ≡ side_slots side = omega (arith, was.dist.ok.0, loop.invariant.slots, c.requires.slots) in
    let room = tree-room p s column loop.invariant.tree (omega (arith, nearest.within, was.dist.ok.0, was.done.ok.0, was.marks))
    nearest.undone in
    let read : c.index-distance.result.now ≡ at was.dist.items column =
    get_or_read was.dist.items column c.index-distance.result.now nearest.within c.index-distance.ensures 0 in
    let reader : c.index-in_default-before.result.now ≡ at was.parent.items column =
    get_or_read was.parent.items column c.index-in_default-before.result.now
    (omega (arith, nearest.within, was.dist.ok.0, was.parent.ok.0, was.parents)) c.index-in_default-before.ensures 0 in
    let over = grown w plan (side_slots side) front in
    subst (λ (d : ℕ). IsShown was.dist.items was.parent.items was.done.items was.rows.items c.index-in_default-before.result.now
    (Some column) d over) (sym read)
    (subst (λ (d : ℕ). IsShown was.dist.items was.parent.items was.done.items was.rows.items d (Some column) (at was.dist.items column)
    over) (sym reader)
    (IsShown-column w plan over loop.size column was.dist.items was.parent.items was.done.items was.rows.items loop.best.from loop.best.to
    loop.best.fall
    (loop.invariant.shown start front befores begun) picked (befores column ∙ c.in_default-before.is) (omega (arith, room, slots))
    nearest.within
    (omega (arith, nearest.below, loop.invariant.best.low))))

pub returns-in_default-before-clause-visited : goal.returns-in_default-before-clause-visited
returns-in_default-before-clause-visited g c =
    let side = c.args.side.now in
    let loop = c.loop-column in
    let tree = loop.invariant.tree in
    let first = at c.args.self.now.rows.items 0 in
    Takes-weaker (TreeLooks side loop.self.rows.items loop.size) (IsOfOthers side first)
    (TreeLooks-others side loop.self.rows.items loop.size first (λ t some lt e. tree.apart 0 t some lt (tree.root.1 ∙ e)))
    c.args.looks.now.list loop.looks.list c.args.steps.now loop.steps loop.invariant.visited

pub returns-in_default-before-clause-counted : goal.returns-in_default-before-clause-counted
returns-in_default-before-clause-counted g c =
    let n = side_slots c.args.side.now in
    let most : c.loop-column.size ≤ n + 1 = omega (arith, c.loop-column.invariant.tree.count) in
    omega (arith, c.loop-column.invariant.counted, mul-le-mul_left n most)

pub visit-requires-clause-row : goal.visit-requires-clause-row
visit-requires-clause-row g c = (c.requires.given.rows c.in-Some-before.row c.in-Some.column c.in-Some-before.is).0

pub visit-requires-clause-column : goal.visit-requires-clause-column
visit-requires-clause-column g c = (c.requires.given.rows c.in-Some-before.row c.in-Some.column c.in-Some-before.is).1

pub visit-requires-clause-place : goal.visit-requires-clause-place
visit-requires-clause-place g c =
    let loop = c.loop-column in
    let was = loop.self in
    let column = c.in-Some.column in
    let p : Problem = problem_of c.args.side.now (at c.args.self.now.rows.items 0) c.args.before.now c.args.leave.now c.args.enter.now in
    let undone = subst (λ xs. is_done xs column ≡ false) c.deref.ensures.value c.in-Some.ensures.some.undone in
    let within = (c.requires.given.rows c.in-Some-before.row column c.in-Some-before.is).1 in
    tree-room p (tree_of was loop.size loop.invariant.reach) column loop.invariant.tree
    (omega (arith, within, was.dist.ok.0, was.done.ok.0, was.marks, loop.invariant.slots, c.requires.slots)) undone

pub visit-requires-clause-seen : goal.visit-requires-clause-seen
visit-requires-clause-seen g c =
    let side = c.args.side.now in
    let was = c.loop-column.self in
    let seens = written c.nearest.new.seen was.seen.items was.seen.len (c.nearest.auto.seen ∙ c.deref_mut.ensures.len) in
    let seen = c.loop-column.invariant.seen in
    record {
      room = omega (arith, seen.room, ap length seens, c.nearest.auto.seen, ap length c.deref_mut.ensures.value);
      near = AreNear-same side.count side.groups _ was.done.items _ was.dist.items c.nearest.new.seen _ c.deref.ensures.value
          c.deref-in-loop-column.ensures.value (sym seens) c.nearest.ensures.near;
      reached =
          AreReached-same side c.args.enter.now _ was.done.items _ was.dist.items c.nearest.new.seen _
          c.deref.ensures.value c.deref-in-loop-column.ensures.value (sym seens)
          (c.nearest.ensures.reached c.args.enter.now
          (AreReached-same side c.args.enter.now was.done.items _ was.dist.items _ was.seen.items _
          (sym c.deref.ensures.value) (sym c.deref-in-loop-column.ensures.value) (sym c.deref_mut.ensures.value) seen.reached));
      posts = seen.posts;
      led = seen.led;
    }

pub visit-requires-clause-close : goal.visit-requires-clause-close
visit-requires-clause-close g c =
    let same = ap (λ xs. at xs c.in-Some.column) c.deref-in-loop-column.ensures.value in
    omega (arith, same, c.in-Some.ensures.some.below, c.loop-column.invariant.best.low)

pub visit-requires-clause-leave_low : goal.visit-requires-clause-leave_low
visit-requires-clause-leave_low g c = c.requires.given.leave_low c.in-Some-before.row

pub visit-requires-clause-enter_low : goal.visit-requires-clause-enter_low
visit-requires-clause-enter_low g c = λ j k fits. c.requires.given.enter_low c.in-Some-before.row j k fits

pub visit-requires-clause-covers : goal.visit-requires-clause-covers
visit-requires-clause-covers g c =
    λ j k fits. c.requires.given.covers c.in-Some-before.row j k (inr (c.in-Some.column, c.in-Some-before.is)) fits

pub bounds-leave-row : goal.bounds-leave-row
bounds-leave-row g c =
    omega (arith, (c.requires.given.rows c.in-Some-before.row c.in-Some.column c.in-Some-before.is).0, c.requires.leave)

pub overflow_add-distance : goal.overflow_add-distance
overflow_add-distance g c =
    let was = c.loop-column.self in
    let column = c.in-Some.column in
    let same = ap (λ xs. at xs column) c.deref-in-loop-column.ensures.value in
    let within = (c.requires.given.rows c.in-Some-before.row column c.in-Some-before.is).1 in
    let read : c.index-distance.result.now ≡ at was.dist.items column =
    get_or_read was.dist.items column c.index-distance.result.now
    (omega (arith, within, was.dist.ok.0, c.loop-column.invariant.slots, c.requires.slots)) c.index-distance.ensures 0 in
    let price = c.requires.given.leave_low c.in-Some-before.row in
    omega (arith, read, same, c.in-Some.ensures.some.below, c.loop-column.invariant.best.low, price)

pub overflow_add-size : goal.overflow_add-size
overflow_add-size g c = omega (arith, c.loop-column.invariant.tree.count, c.requires.given.few)

pub loop-column-smaller : goal.loop-column-smaller
loop-column-smaller g c =
    let loop = c.loop-column in
    let was = loop.self in
    let column = c.in-Some.column in
    let p : Problem = problem_of c.args.side.now (at c.args.self.now.rows.items 0) c.args.before.now c.args.leave.now c.args.enter.now in
    let undone = subst (λ xs. is_done xs column ≡ false) c.deref.ensures.value c.in-Some.ensures.some.undone in
    let within = (c.requires.given.rows c.in-Some-before.row column c.in-Some-before.is).1 in
    omega (
      arith,
      tree-room p (tree_of was loop.size loop.invariant.reach) column loop.invariant.tree
          (omega (arith, within, was.dist.ok.0, was.done.ok.0, was.marks, loop.invariant.slots, c.requires.slots)) undone,
    )

pub loop-column-preserved : goal.loop-column-preserved
loop-column-preserved g c =
    let side = c.args.side.now in
    let loop = c.loop-column in
    let was = loop.self in
    let p : Problem = problem_of side (at c.args.self.now.rows.items 0) c.args.before.now c.args.leave.now c.args.enter.now in
    let s : TreeView = tree_of was loop.size loop.invariant.reach in
    let row = c.in-Some-before.row in
    let column = c.in-Some.column in
    let far = at was.dist.items column in
    let nearest : IsNearest was.done.items was.dist.items loop.best.fall column =
    subst (λ xs. IsNearest xs was.dist.items loop.best.fall column) c.deref.ensures.value
    (subst (λ xs. IsNearest c.deref.result.now xs loop.best.fall column) c.deref-in-loop-column.ensures.value c.in-Some.ensures.some) in
    let read : c.index-distance.result.now ≡ far =
    get_or_read was.dist.items column c.index-distance.result.now nearest.within c.index-distance.ensures 0 in
    let slots : length was.dist.items ≡ side_slots side = omega (arith, was.dist.ok.0, loop.invariant.slots, c.requires.slots) in
    let room = tree-room p s column loop.invariant.tree (omega (arith, nearest.within, was.dist.ok.0, was.done.ok.0, was.marks))
    nearest.undone in
    let in-rows : loop.size < length was.rows.items = omega (arith, room, was.rows.ok.0, was.row_places, was.dist.ok.0, slots) in
    let now = c.visit.new.self in
    let w = place_weight side in
    let price = at c.args.leave.now row in
    let ends = c.sooner-best.ensures in
    let best = c.sooner-best.result in
    let done = set was.done.items column true in
    let picked : first_nearest (length was.dist.items) was.done.items was.dist.items loop.best.fall ≡ Some column =
    sym (subst (λ xs. Some column ≡ first_nearest (length was.dist.items) xs was.dist.items loop.best.fall) c.deref.ensures.value
    (subst (λ xs. Some column ≡ first_nearest (length xs) c.deref.result.now xs loop.best.fall) c.deref-in-loop-column.ensures.value
    c.in-Some.ensures.picked)) in
    let len : length now.dist.items ≡ length was.dist.items = omega (arith, c.visit.ensures.slots, now.dist.ok.0, was.dist.ok.0) in
    let next : IsNext p s row column = record {
      within = omega (arith, nearest.within, slots);
      undone = nearest.undone;
      near = omega (arith, nearest.below, loop.invariant.best.low);
      least = λ j lt undone. nearest.least j (omega (arith, lt, slots)) undone;
      linked = c.in-Some-before.is;
    } in
    record {
      slots = c.visit.ensures.slots ∙ loop.invariant.slots;
      reach = far;
      tree = c.visit.ensures.tree (at c.args.self.now.rows.items 0) loop.invariant.reach c.args.before.now c.requires.given
          loop.invariant.tree next;
      best = IsBest-more p s (tree_of c.visit.new.self (loop.size + 1) far) row far loop.best c.sooner-best.result loop.invariant.best
          in-rows
          (omega (arith, room, was.far.ok.0, was.far_places, was.dist.ok.0, slots)) c.visit.ensures.rows c.visit.ensures.far refl refl
          nearest.below
          (subst (λ d. (c.sooner-best.result ≡ loop.best)
          ⊎ (c.sooner-best.result ≡ record { from = loop.size; to = None; fall = d + at c.args.leave.now row })) read
          c.sooner-best.ensures.one)
          c.sooner-best.ensures.best (omega (arith, read, c.sooner-best.ensures.other));
      shown = λ start front befores begun.
          let plan : Plan = record { next = start; leave = c.args.leave.now; enter = c.args.enter.now } in
          IsOnWay-come w plan (grown w plan (side_slots side) front) loop.size column row
          was.dist.items was.parent.items was.done.items was.rows.items loop.best.from loop.best.to loop.best.fall
          now.dist.items now.parent.items now.done.items now.rows.items best
          (loop.invariant.shown start front befores begun) picked (befores column ∙ c.in-Some-before.is) (omega (arith, room, slots)) len
          (subst (λ m. AreLooked (w row) m loop.size (far + price) c.args.enter.now (as_columns was.dist.items was.parent.items done)
          (as_columns now.dist.items now.parent.items done)) (sym slots)
          c.visit.ensures.looked)
          in-rows loop.invariant.best.within (λ j lt close. (loop.invariant.tree.reached j (omega (arith, lt, slots)) close).within)
          c.visit.ensures.done c.visit.ensures.rows
          (subst (λ d. best.from ≡ (if nat_lt (d + price) loop.best.fall then loop.size else loop.best.from)) read ends.from)
          (ends.to loop.invariant.best.alone ∙ sym loop.invariant.best.alone)
          (subst (λ d. best.fall ≡ min loop.best.fall (d + price)) read ends.fall);
      seen = c.visit.ensures.seen;
      visited =
          Takes-append (TreeLooks side was.rows.items loop.size) (RowLooks side row 0 (side_slots side))
          (TreeLooks side c.visit.new.self.rows.items (loop.size + 1))
          (TreeLooks-more side was.rows.items c.visit.new.self.rows.items loop.size row loop.invariant.tree.root.0 in-rows
          c.visit.ensures.rows
          (λ t lt. (c.visit.ensures.tree (at c.args.self.now.rows.items 0) loop.invariant.reach c.args.before.now c.requires.given
          loop.invariant.tree next).apart t loop.size lt (omega arith)))
          c.args.looks.now.list loop.looks.list c.visit.new.looks.list c.args.steps.now loop.steps c.visit.new.steps
          loop.invariant.visited c.visit.ensures.visited;
      counted = omega (arith, loop.invariant.counted, c.visit.ensures.counted);
      alone = λ none. absurd (none-some row (sym (none column) ∙ c.in-Some-before.is));
    }

pub returns-clause-grown : goal.returns-clause-grown
returns-clause-grown g c =
    let side = c.args.side.now in
    let loop = c.loop-column in
    let was = loop.self in
    let p : Problem = problem_of side (at c.args.self.now.rows.items 0) c.args.before.now c.args.leave.now c.args.enter.now in
    let slots : length was.dist.items ≡ side_slots side = omega (arith, was.dist.ok.0, loop.invariant.slots, c.requires.slots) in
    let none : (j : ℕ) → j < length was.dist.items → is_done was.done.items j ≡ false → loop.best.fall ≤ at was.dist.items j =
    subst (λ xs. (j : ℕ) → j < length was.dist.items → is_done xs j ≡ false → loop.best.fall ≤ at was.dist.items j)
    c.deref.ensures.value
    (subst (λ xs. (j : ℕ) → j < length xs → is_done c.deref.result.now j ≡ false → loop.best.fall ≤ at xs j)
    c.deref-in-loop-column.ensures.value c.in_default.ensures.none) in
    record {
      reach = loop.invariant.reach;
      tree = loop.invariant.tree;
      ended =
          HasEnded-row p (tree_of was loop.size loop.invariant.reach) loop.best loop.invariant.best
          (λ j lt undone. none j (omega (arith, lt, slots)) undone);
    }

pub returns-clause-shown : goal.returns-clause-shown
returns-clause-shown g c = λ start front befores begun.
    let side = c.args.side.now in
    let loop = c.loop-column in
    let was = loop.self in
    let w = place_weight side in
    let plan : Plan = record { next = start; leave = c.args.leave.now; enter = c.args.enter.now } in
    IsShown-none w plan (grown w plan (side_slots side) front) loop.size
    was.dist.items was.parent.items was.done.items was.rows.items loop.best.from loop.best.to loop.best.fall
    (loop.invariant.shown start front befores begun)
    (sym (subst (λ xs. None ≡ first_nearest (length was.dist.items) xs was.dist.items loop.best.fall) c.deref.ensures.value
    (subst (λ xs. None ≡ first_nearest (length xs) c.deref.result.now xs loop.best.fall) c.deref-in-loop-column.ensures.value
    c.in_default.ensures.picked)))

pub returns-clause-visited : goal.returns-clause-visited
returns-clause-visited g c =
    let side = c.args.side.now in
    let loop = c.loop-column in
    let tree = loop.invariant.tree in
    let first = at c.args.self.now.rows.items 0 in
    Takes-weaker (TreeLooks side loop.self.rows.items loop.size) (IsOfOthers side first)
    (TreeLooks-others side loop.self.rows.items loop.size first (λ t some lt e. tree.apart 0 t some lt (tree.root.1 ∙ e)))
    c.args.looks.now.list loop.looks.list c.args.steps.now loop.steps loop.invariant.visited

pub returns-clause-counted : goal.returns-clause-counted
returns-clause-counted g c =
    let n = side_slots c.args.side.now in
    let most : c.loop-column.size ≤ n + 1 = omega (arith, c.loop-column.invariant.tree.count) in
    omega (arith, c.loop-column.invariant.counted, mul-le-mul_left n most)
