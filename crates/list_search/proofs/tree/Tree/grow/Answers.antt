use Rattle.std.proofs.Common.{◌≡◌, ◌∙◌, ◌<◌, ◌+◌, ◌⊎◌, ℕ, min, nat_lt, true, length, set, None, Some, if◌then◌else◌}
use Rattle.std.proofs.Common.{refl, sym, ap, subst, arith}
use Rattle.std.proofs.lemmas.List.{get_or_read}
use Rattle.assignment_model.specs.Prices.{Plan}
use Rattle.pair_search.specs.Determined.{first_nearest, grown}
use Rattle.pair_search.specs.Fronts.{IsShown, IsOnWay}
use Rattle.pair_search.specs.Search.{at, as_columns, problem, Problem, TreeView, AreLooked, IsTree, IsBest, HasEnded}
use Rattle.pair_search.specs.Search.{IsNearest, IsNext}
use Rattle.pair_search.proofs.FrontLemmas.{IsOnWay-first, IsShown-none, IsShown-column}
use Rattle.pair_search.proofs.ShownLemmas.{IsOnWay-come}
use Rattle.pair_search.proofs.TreeLemmas.{tree_with, tree-room, IsTree-visit, IsBest-first, IsBest-more, HasEnded-row, HasEnded-column}
use Rattle.list_search.specs.Lists.{listed}
use Rattle.list_search.specs.Trees.{tree_of}
use Rattle.list_search.proofs.TreesLemmas.{tree-same, nearest-same, picked-same, way-same}
use Rattle.std.specs.Prelude.{vec_len}
use Rattle.list_search.proofs.tree.Tree.grow.Goals as goal

pub loop-column-init : goal.loop-column-init
loop-column-init c =
    let was = c.args.self.now in
    let leave = c.args.leave.now in
    let p : Problem = problem (listed c.args.lists.now) c.args.lists.now.slots c.args.a c.args.before.now leave c.args.enter.now in
    let w = listed c.args.lists.now in
    let fall = at leave c.args.a in
    let slots : length was.dist.items ≡ c.args.lists.now.slots = omega (arith, was.dist.ok.0, c.requires.slots) in
    record {
      slots = refl;
      reach = 0;
      tree = c.requires.begun;
      best = IsBest-first p (tree_of was 1 0) fall c.requires.given c.requires.begun refl refl (ap (at leave) (sym c.requires.begun.root.1));
      most = c.requires.most;
      near = c.requires.near;
      shown = λ start front befores begun.
          let plan : Plan = record { next = start; leave = leave; enter = c.args.enter.now } in
          subst (λ (n : ℕ). IsOnWay w plan (grown w plan n front) 1 was.dist.items was.parent.items was.done.items was.rows.items 0 None
          fall) slots
          (IsOnWay-first w plan front was.dist.items was.parent.items was.done.items was.rows.items 0 None fall begun);
    }

pub returns-in_default-before-clause-grown : goal.returns-in_default-before-clause-grown
returns-in_default-before-clause-grown c =
    let loop = c.loop-column in
    let now = c.nearest.new.self in
    let same = c.nearest.ensures in
    let p : Problem = problem (listed c.args.lists.now) c.args.lists.now.slots c.args.a c.args.before.now c.args.leave.now c.args.enter.now in
    let s : TreeView = tree_of now loop.size loop.invariant.reach in
    let seen = tree-same loop.self now loop.size loop.invariant.reach same.dist same.parent same.done same.rows in
    let column = c.in-Some.column in
    let nearest : IsNearest now.done.items now.dist.items loop.best.fall column =
    nearest-same loop.self now loop.best.fall column same.dist same.done c.in-Some.ensures.some in
    let slots : length now.dist.items ≡ c.args.lists.now.slots =
    omega (arith, now.dist.ok.0, ap vec_len same.dist, loop.invariant.slots, c.requires.slots) in
    let read : c.index-distance.result.now ≡ at now.dist.items column =
    get_or_read now.dist.items column c.index-distance.result.now nearest.within c.index-distance.ensures 0 in
    let reader : c.index.result.now ≡ at now.parent.items column =
    get_or_read now.parent.items column c.index.result.now
    (omega (arith, nearest.within, now.dist.ok.0, now.parent.ok.0, now.parents)) c.index.ensures 0 in
    record {
      reach = loop.invariant.reach;
      tree = subst (IsTree p) seen loop.invariant.tree;
      ended =
          subst (λ (d : ℕ). HasEnded p s (record { from = c.index.result.now; to = Some column; fall = d })) (sym read)
          (subst (λ (i : ℕ). HasEnded p s (record { from = i; to = Some column; fall = at now.dist.items column })) (sym reader)
          (HasEnded-column p s loop.best column (subst (IsTree p) seen loop.invariant.tree)
          (subst (λ (v : TreeView). IsBest p v loop.best) seen loop.invariant.best) (omega (arith, nearest.within, slots))
          nearest.undone nearest.below (λ j lt undone. nearest.least j (omega (arith, lt, slots)) undone) c.in_default-before.is));
    }

pub returns-in_default-before-clause-shown : goal.returns-in_default-before-clause-shown
returns-in_default-before-clause-shown c = λ start front befores begun.
    let loop = c.loop-column in
    let now = c.nearest.new.self in
    let same = c.nearest.ensures in
    let w = listed c.args.lists.now in
    let n = c.args.lists.now.slots in
    let plan : Plan = record { next = start; leave = c.args.leave.now; enter = c.args.enter.now } in
    let p : Problem = problem w n c.args.a c.args.before.now c.args.leave.now c.args.enter.now in
    let s : TreeView = tree_of now loop.size loop.invariant.reach in
    let seen = tree-same loop.self now loop.size loop.invariant.reach same.dist same.parent same.done same.rows in
    let column = c.in-Some.column in
    let nearest : IsNearest now.done.items now.dist.items loop.best.fall column =
    nearest-same loop.self now loop.best.fall column same.dist same.done c.in-Some.ensures.some in
    let picked : first_nearest (length now.dist.items) now.done.items now.dist.items loop.best.fall ≡ Some column =
    picked-same loop.self now loop.best.fall same.dist same.done ∙ sym c.in-Some.ensures.picked in
    let slots : length now.dist.items ≡ n = omega (arith, now.dist.ok.0, ap vec_len same.dist, loop.invariant.slots, c.requires.slots) in
    let tree = subst (IsTree p) seen loop.invariant.tree in
    let room = tree-room p s column tree (omega (arith, nearest.within, now.dist.ok.0, now.done.ok.0, now.marks)) nearest.undone in
    let read : c.index-distance.result.now ≡ at now.dist.items column =
    get_or_read now.dist.items column c.index-distance.result.now nearest.within c.index-distance.ensures 0 in
    let reader : c.index.result.now ≡ at now.parent.items column =
    get_or_read now.parent.items column c.index.result.now
    (omega (arith, nearest.within, now.dist.ok.0, now.parent.ok.0, now.parents)) c.index.ensures 0 in
    let over = grown w plan n front in
    let way = way-same w plan over loop.self now loop.size loop.invariant.reach loop.best seen (loop.invariant.shown start front befores begun)
    in
    subst (λ (d : ℕ). IsShown now.dist.items now.parent.items now.done.items now.rows.items c.index.result.now
    (Some column) d over) (sym read)
    (subst (λ (d : ℕ). IsShown now.dist.items now.parent.items now.done.items now.rows.items d (Some column) (at now.dist.items column)
    over) (sym reader)
    (IsShown-column w plan over loop.size column now.dist.items now.parent.items now.done.items now.rows.items loop.best.from loop.best.to
    loop.best.fall way picked (befores column ∙ c.in_default-before.is) (omega (arith, room, slots)) nearest.within
    (omega (arith, nearest.below, loop.invariant.best.low))))

pub loop-column-preserved : goal.loop-column-preserved
loop-column-preserved c =
    let loop = c.loop-column in
    let was = c.nearest.new.self in
    let same = c.nearest.ensures in
    let w = listed c.args.lists.now in
    let n = c.args.lists.now.slots in
    let leave = c.args.leave.now in
    let enter = c.args.enter.now in
    let p : Problem = problem w n c.args.a c.args.before.now leave enter in
    let s : TreeView = tree_of was loop.size loop.invariant.reach in
    let seen = tree-same loop.self was loop.size loop.invariant.reach same.dist same.parent same.done same.rows in
    let tree = subst (IsTree p) seen loop.invariant.tree in
    let best = subst (λ (v : TreeView). IsBest p v loop.best) seen loop.invariant.best in
    let row = c.in-Some-before.row in
    let column = c.in-Some.column in
    let far = at was.dist.items column in
    let price = at leave row in
    let nearest : IsNearest was.done.items was.dist.items loop.best.fall column =
    nearest-same loop.self was loop.best.fall column same.dist same.done c.in-Some.ensures.some in
    let picked : first_nearest (length was.dist.items) was.done.items was.dist.items loop.best.fall ≡ Some column =
    picked-same loop.self was loop.best.fall same.dist same.done ∙ sym c.in-Some.ensures.picked in
    let read : c.index-distance.result.now ≡ far =
    get_or_read was.dist.items column c.index-distance.result.now nearest.within c.index-distance.ensures 0 in
    let slots : length was.dist.items ≡ n = omega (arith, was.dist.ok.0, ap vec_len same.dist, loop.invariant.slots, c.requires.slots) in
    let room = tree-room p s column tree (omega (arith, nearest.within, was.dist.ok.0, was.done.ok.0, was.marks)) nearest.undone in
    let in-rows : loop.size < length was.rows.items = omega (arith, room, was.rows.ok.0, was.row_places, was.dist.ok.0, slots) in
    let in-far : loop.size < length was.far.items = omega (arith, room, was.far.ok.0, was.far_places, was.dist.ok.0, slots) in
    let now = c.visit.new.self in
    let visit = c.visit.ensures in
    let ends = c.sooner-best.ensures in
    let end = c.sooner-best.result in
    let done = set was.done.items column true in
    let len : length now.dist.items ≡ length was.dist.items = omega (arith, visit.slots, now.dist.ok.0, was.dist.ok.0) in
    let looked : AreLooked (w row) n loop.size (far + price) enter (as_columns was.dist.items was.parent.items done)
    (as_columns now.dist.items now.parent.items done) = visit.looked in
    let next : IsNext p s row column = record {
      within = omega (arith, nearest.within, slots);
      undone = nearest.undone;
      near = omega (arith, nearest.below, loop.invariant.best.low);
      least = λ j lt undone. nearest.least j (omega (arith, lt, slots)) undone;
      linked = c.in-Some-before.is;
    } in
    let grows = IsTree-visit p s row column now.dist.items now.parent.items c.requires.given tree
    (record {
      next = next;
      done = omega (arith, was.done.ok.0, was.marks, was.dist.ok.0, slots);
      rows = omega (arith, was.rows.ok.0, was.row_places, was.dist.ok.0, slots);
      far = omega (arith, was.far.ok.0, was.far_places, was.dist.ok.0, slots);
      looked = looked;
    }) in
    record {
      slots = visit.slots ∙ ap vec_len same.dist ∙ loop.invariant.slots;
      reach = far;
      tree =
          subst (λ d. IsTree p (tree_with now.dist.items now.parent.items d now.rows.items now.far.items (loop.size + 1) far))
          (sym visit.done)
          (subst (λ r. IsTree p (tree_with now.dist.items now.parent.items done r now.far.items (loop.size + 1) far))
          (sym visit.rows)
          (subst (λ f. IsTree p (tree_with now.dist.items now.parent.items done (set was.rows.items loop.size row) f (loop.size + 1) far))
          (sym visit.far) grows));
      best = IsBest-more p s (tree_of now (loop.size + 1) far) row far loop.best end best in-rows in-far visit.rows visit.far refl refl
          nearest.below
          (subst (λ d. (end ≡ loop.best) ⊎ (end ≡ record { from = loop.size; to = None; fall = d + price })) read ends.one)
          ends.best (omega (arith, read, ends.other));
      most = λ j. omega (arith, looked.nearer j, loop.invariant.most j, ap (λ v. at v.items j) same.dist);
      near = visit.near;
      shown = λ start front befores begun.
          let plan : Plan = record { next = start; leave = leave; enter = enter } in
          IsOnWay-come w plan (grown w plan n front) loop.size column row
          was.dist.items was.parent.items was.done.items was.rows.items loop.best.from loop.best.to loop.best.fall
          now.dist.items now.parent.items now.done.items now.rows.items end
          (way-same w plan (grown w plan n front) loop.self was loop.size loop.invariant.reach loop.best seen
          (loop.invariant.shown start front befores begun))
          picked (befores column ∙ c.in-Some-before.is) (omega (arith, room, slots)) len
          (subst (λ m. AreLooked (w row) m loop.size (far + price) enter (as_columns was.dist.items was.parent.items done)
          (as_columns now.dist.items now.parent.items done)) (sym slots) looked)
          in-rows loop.invariant.best.within (λ j lt close. (tree.reached j (omega (arith, lt, slots)) close).within)
          visit.done visit.rows
          (subst (λ d. end.from ≡ (if nat_lt (d + price) loop.best.fall then loop.size else loop.best.from)) read ends.from)
          (ends.to loop.invariant.best.alone ∙ sym loop.invariant.best.alone)
          (subst (λ d. end.fall ≡ min loop.best.fall (d + price)) read ends.fall);
    }

pub returns-clause-grown : goal.returns-clause-grown
returns-clause-grown c =
    let loop = c.loop-column in
    let now = c.nearest.new.self in
    let same = c.nearest.ensures in
    let p : Problem = problem (listed c.args.lists.now) c.args.lists.now.slots c.args.a c.args.before.now c.args.leave.now c.args.enter.now in
    let seen = tree-same loop.self now loop.size loop.invariant.reach same.dist same.parent same.done same.rows in
    let slots : length loop.self.dist.items ≡ c.args.lists.now.slots =
    omega (arith, loop.self.dist.ok.0, loop.invariant.slots, c.requires.slots) in
    record {
      reach = loop.invariant.reach;
      tree = subst (IsTree p) seen loop.invariant.tree;
      ended =
          subst (λ (v : TreeView). HasEnded p v loop.best) seen
          (HasEnded-row p (tree_of loop.self loop.size loop.invariant.reach) loop.best loop.invariant.best
          (λ j lt undone. c.in_default.ensures.none j (omega (arith, lt, slots)) undone));
    }

pub returns-clause-shown : goal.returns-clause-shown
returns-clause-shown c = λ start front befores begun.
    let loop = c.loop-column in
    let now = c.nearest.new.self in
    let same = c.nearest.ensures in
    let w = listed c.args.lists.now in
    let n = c.args.lists.now.slots in
    let plan : Plan = record { next = start; leave = c.args.leave.now; enter = c.args.enter.now } in
    let seen = tree-same loop.self now loop.size loop.invariant.reach same.dist same.parent same.done same.rows in
    IsShown-none w plan (grown w plan n front) loop.size
    now.dist.items now.parent.items now.done.items now.rows.items loop.best.from loop.best.to loop.best.fall
    (way-same w plan (grown w plan n front) loop.self now loop.size loop.invariant.reach loop.best seen
    (loop.invariant.shown start front befores begun))
    (picked-same loop.self now loop.best.fall same.dist same.done ∙ sym c.in_default.ensures.picked)
