use Rattle.std.proofs.Common.{◌≡◌, ◌∙◌, ◌+◌, true, set, sym, ap, subst, arith}
use Rattle.std.proofs.lemmas.List.{get_or_read}
use Rattle.pair_search.specs.Search.{at, as_columns, columns_of, problem_of, tree_of, AreLooked, IsTree}
use Rattle.pair_search.specs.Side.{side_slots, place_weight}
use Rattle.pair_search.proofs.TreeLemmas.{tree_with, IsTree-visit}
use Rattle.pair_search.proofs.tree.Tree.visit.Goals as goal

pub returns-clause-tree : goal.returns-clause-tree
returns-clause-tree g c = λ a reach before given tree next.
    let side = c.args.side.now in
    let p = problem_of side a before c.args.leave.now c.args.enter.now in
    let was = c.args.self.now in
    let now = c.look_from.new.self in
    let done = set was.done.items c.args.column true in
    let far = at was.dist.items c.args.column in
    let rows = set was.rows.items c.args.place c.args.row in
    let read : c.index-distance.result.now ≡ far =
    get_or_read was.dist.items c.args.column c.index-distance.result.now
    (omega (arith, was.dist.ok.0, c.requires.column, c.requires.slots)) c.index-distance.ensures 0 in
    let looked : AreLooked (place_weight side c.args.row) (side_slots side) c.args.place (far + at c.args.leave.now c.args.row)
    c.args.enter.now (as_columns was.dist.items was.parent.items done) (columns_of now) =
    subst (λ d. AreLooked (place_weight side c.args.row) (side_slots side) c.args.place (d + at c.args.leave.now c.args.row)
    c.args.enter.now (as_columns was.dist.items was.parent.items done) (columns_of now)) read
    c.look_from.ensures.looked in
    let visited =
    IsTree-visit p (tree_of was c.args.place reach) c.args.row c.args.column now.dist.items now.parent.items given tree
    (record {
      next = next;
      done = omega (arith, was.done.ok.0, was.marks, c.requires.slots);
      rows = omega (arith, was.rows.ok.0, was.row_places, c.requires.slots);
      far = omega (arith, was.far.ok.0, was.far_places, c.requires.slots);
      looked =
          subst (λ d. AreLooked (place_weight side c.args.row) (side_slots side) c.args.place (far + at c.args.leave.now c.args.row)
          c.args.enter.now (as_columns was.dist.items was.parent.items done) (as_columns now.dist.items now.parent.items d))
          looked.done looked;
    }) in
    subst (λ d. IsTree p (tree_with now.dist.items now.parent.items d now.rows.items now.far.items (c.args.place + 1) far))
    (sym looked.done)
    (subst (λ r. IsTree p (tree_with now.dist.items now.parent.items done r now.far.items (c.args.place + 1) far))
    (sym c.look_from.ensures.rows.0)
    (subst (λ f. IsTree p (tree_with now.dist.items now.parent.items done rows f (c.args.place + 1) far))
    (sym (c.look_from.ensures.rows.1 ∙ ap (set was.far.items c.args.place) read)) visited))

pub returns-clause-done : goal.returns-clause-done
returns-clause-done g c = c.look_from.ensures.looked.done

pub returns-clause-looked : goal.returns-clause-looked
returns-clause-looked g c =
    let side = c.args.side.now in
    let was = c.args.self.now in
    let now = c.look_from.new.self in
    let done = set was.done.items c.args.column true in
    let far = at was.dist.items c.args.column in
    let read : c.index-distance.result.now ≡ far =
    get_or_read was.dist.items c.args.column c.index-distance.result.now
    (omega (arith, was.dist.ok.0, c.requires.column, c.requires.slots)) c.index-distance.ensures 0 in
    let looked : AreLooked (place_weight side c.args.row) (side_slots side) c.args.place (far + at c.args.leave.now c.args.row)
    c.args.enter.now (as_columns was.dist.items was.parent.items done) (columns_of now) =
    subst (λ d. AreLooked (place_weight side c.args.row) (side_slots side) c.args.place (d + at c.args.leave.now c.args.row)
    c.args.enter.now (as_columns was.dist.items was.parent.items done) (columns_of now)) read
    c.look_from.ensures.looked in
    subst (λ d. AreLooked (place_weight side c.args.row) (side_slots side) c.args.place (far + at c.args.leave.now c.args.row)
    c.args.enter.now (as_columns was.dist.items was.parent.items done) (as_columns now.dist.items now.parent.items d)) looked.done
    looked
