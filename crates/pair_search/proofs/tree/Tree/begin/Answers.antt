use Rattle.std.proofs.Common.{◌≡◌, ◌∙◌, ◌<◌, ◌≤◌, ℕ, Bool, List, length, set, replicate, false, None, sym, ap, subst, arith}
use Rattle.std.proofs.lemmas.List.{get_or-set_same, length-replicate}
use Rattle.std.specs.Prelude.{vec_len}
use Rattle.pair_search.specs.declared.leads.Lead.{Lead}
use Rattle.pair_search.specs.declared.tree.Seen.{Seen}
use Rattle.pair_search.specs.Determined.{Front, first_front}
use Rattle.pair_search.specs.Fronts.{IsShown}
use Rattle.pair_search.specs.Groups.{seen_at, AreNear, AreReached}
use Rattle.pair_search.specs.Search.{at, as_columns, columns_of, problem_of, AreLooked, IsTree}
use Rattle.pair_search.specs.Side.{SideView, side_slots, place_weight}
use Rattle.pair_search.proofs.GroupLemmas.{AreNear-none, AreReached-none, seen-none}
use Rattle.pair_search.proofs.LeadLemmas.{AreLed-none}
use Rattle.pair_search.proofs.ShownLemmas.{IsShown-begun}
use Rattle.pair_search.proofs.TreeLemmas.{tree_with, IsTree-begun}
use Rattle.pair_search.proofs.tree.Tree.begin.Goals as goal

pub returns-clause-tree : goal.returns-clause-tree
returns-clause-tree g c = λ before given.
    let side = c.args.side.now in
    let n = side_slots side in
    let leave = set c.args.leave.now c.args.a 4503599627370496 in
    let p = problem_of side c.args.a before leave c.args.enter.now in
    let was = c.clear.new.self in
    let now = c.look_from.new.self in
    let looked : AreLooked (place_weight side c.args.a) n 0 4503599627370496 c.args.enter.now (columns_of was) (columns_of now) =
    c.look_from.ensures.looked in
    let slots : vec_len was.dist ≡ n = c.clear.ensures.slots ∙ c.slots.ensures.count in
    subst (λ d. IsTree p (tree_with now.dist.items now.parent.items d now.rows.items now.far.items 1 0)) (sym looked.done)
    (IsTree-begun p was.dist.items was.parent.items now.dist.items now.parent.items was.done.items now.rows.items now.far.items given
    (get_or-set_same c.args.leave.now c.args.a 4503599627370496 0 (omega (arith, c.requires.start, c.requires.leave)))
    (c.clear.ensures.dist ∙ ap (λ m. replicate m 4503599627370497) c.slots.ensures.count)
    (c.clear.ensures.done ∙ ap (λ m. replicate m false) c.slots.ensures.count)
    (ap (λ xs. at xs 0) c.look_from.ensures.rows.0
    ∙ get_or-set_same was.rows.items 0 c.args.a 0 (omega (arith, was.rows.ok.0, was.row_places, slots)))
    (ap (λ xs. at xs 0) c.look_from.ensures.rows.1
    ∙ get_or-set_same was.far.items 0 0 0 (omega (arith, was.far.ok.0, was.far_places, slots)))
    (subst (λ d. AreLooked (place_weight side c.args.a) n 0 4503599627370496 c.args.enter.now (columns_of was)
    (as_columns now.dist.items now.parent.items d)) looked.done looked))

pub look_from-requires-clause-seen : goal.look_from-requires-clause-seen
look_from-requires-clause-seen g c =
    let side : SideView = c.args.side.now in
    let n = side_slots side in
    let are = c.groups.ensures.groups in
    let was = c.clear.new.self in
    let none : Seen = record { near = 4503599627370497; cost = 18446744073709551615; from = 65535; minute = 4294967295 } in
    let dists : was.dist.items ≡ replicate n 4503599627370497 = c.clear.ensures.dist ∙ ap (λ m. replicate m 4503599627370497) c.slots.ensures.count in
    let at-none : (r : ℕ) → r < side.count
    → seen_at was.seen.items r ≡ none =
    λ r lt. seen-none c.groups.result was.seen.items none c.clear.ensures.seen r (omega (arith, lt, c.groups.ensures.count)) in
    let room : side.count ≤ length was.seen.items =
    omega (arith, ap length c.clear.ensures.seen, length-replicate {A = Seen} c.groups.result none, c.groups.ensures.count) in
    let near : AreNear side.count side.groups was.done.items was.dist.items was.seen.items =
    AreNear-none n side.count side.groups was.done.items was.dist.items was.seen.items are.few dists are.within
    (λ r lt. omega (arith, ap (λ (s : Seen). s.near) (at-none r lt))) in
    let reached : AreReached side c.args.enter.now was.done.items was.dist.items was.seen.items =
    AreReached-none side c.args.enter.now was.done.items was.dist.items was.seen.items c.requires.few are.within
    (λ r lt. let e = at-none r lt in (omega (arith, ap (λ (s : Seen). s.from) e), omega (arith, ap (λ (s : Seen). s.cost) e))) in
    record {
      room = room;
      near = near;
      reached = reached;
      posts = omega (
        arith,
        ap length c.clear.ensures.leads,
        length-replicate {A = Lead} c.posts.result (record { ready = 65535; start = 0 }),
        c.posts.ensures.count,
      );
      led =
          AreLed-none side c.args.enter.now was.done.items was.dist.items was.leads.items c.posts.result c.slots.ensures.moves
          c.clear.ensures.leads;
    }

pub returns-clause-shown : goal.returns-clause-shown
returns-clause-shown g c =
    let side = c.args.side.now in
    let n = side_slots side in
    let w = place_weight side in
    let was = c.clear.new.self in
    let now = c.look_from.new.self in
    let none : List Bool = replicate n false in
    let first : Front = first_front w c.args.a c.args.enter.now n in
    let looked : AreLooked (w c.args.a) n 0 4503599627370496 c.args.enter.now (columns_of was) (columns_of now) =
    c.look_from.ensures.looked in
    let slots : vec_len was.dist ≡ n = c.clear.ensures.slots ∙ c.slots.ensures.count in
    let far : was.dist.items ≡ replicate n 4503599627370497 = c.clear.ensures.dist ∙ ap (λ m. replicate m 4503599627370497) c.slots.ensures.count in
    let undone : was.done.items ≡ none = c.clear.ensures.done ∙ ap (λ m. replicate m false) c.slots.ensures.count in
    let done : now.done.items ≡ none = looked.done ∙ undone in
    let begun : AreLooked (w c.args.a) n 0 4503599627370496 c.args.enter.now (as_columns (replicate n 4503599627370497) was.parent.items none)
    (as_columns now.dist.items now.parent.items none) =
    subst (λ (d : List ℕ). AreLooked (w c.args.a) n 0 4503599627370496 c.args.enter.now (as_columns d was.parent.items none)
    (as_columns now.dist.items now.parent.items none)) far
    (subst (λ (d : List Bool). AreLooked (w c.args.a) n 0 4503599627370496 c.args.enter.now (as_columns was.dist.items was.parent.items d)
    (as_columns now.dist.items now.parent.items none)) undone
    (subst (λ (d : List Bool). AreLooked (w c.args.a) n 0 4503599627370496 c.args.enter.now (columns_of was)
    (as_columns now.dist.items now.parent.items d)) done looked)) in
    subst (λ (d : List Bool). IsShown now.dist.items now.parent.items d now.rows.items 0 None 4503599627370496 first) (sym done)
    (IsShown-begun w c.args.a n c.args.enter.now now.dist.items was.parent.items now.parent.items now.rows.items
    (omega (arith, now.dist.ok.0, c.look_from.ensures.slots, slots))
    (ap (λ xs. at xs 0) c.look_from.ensures.rows.0
    ∙ get_or-set_same was.rows.items 0 c.args.a 0 (omega (arith, was.rows.ok.0, was.row_places, slots)))
    begun)
