use Rattle.std.proofs.Common.{◌∙◌, ◌+◌, ◌<◌, ◌≤◌, refl, sym, ap, subst, arith}
use Rattle.pair_search.specs.Groups.{begins, group_at, AreGroups}
use Rattle.pair_search.specs.Search.{columns_of, AreLooked}
use Rattle.pair_search.specs.Side.{LineView, side_slots, line_weight}
use Rattle.pair_search.specs.Visits.{RowLooks, Takes}
use Rattle.pair_search.proofs.GroupLemmas.{begins-past, begins-there}
use Rattle.pair_search.proofs.LookLemmas.{AreLooked-same}
use Rattle.pair_search.proofs.PassLemmas.{AreLooked-passed}
use Rattle.pair_search.proofs.VisitLemmas.{Takes-append, Takes-passed, row-append, row-wider}
use Rattle.pair_search.proofs.tree.Tree.look_along.Goals as goal

pub loop-group-init : goal.loop-group-init
loop-group-init g c =
    let line : LineView = c.args.line.now in
    let side = line.side in
    let was = c.args.self.now in
    let enter = c.args.enter.now in
    let are = subst (λ (l : LineView). AreGroups (side_slots l.side) l.side.columns l.side.count l.side.groups) c.line.view_is
    c.groups-count.ensures.groups in
    let pass = c.pass-group.ensures in
    let none : AreLooked (line_weight line) (begins (side_slots side) side.count side.groups 0) c.args.from c.args.start enter
    (columns_of was) (columns_of was) =
    subst (λ upto. AreLooked (line_weight line) upto c.args.from c.args.start enter (columns_of was) (columns_of was)) (sym are.first)
    (AreLooked-same (line_weight line) 0 c.args.from c.args.start enter (columns_of was) (λ j k lt. absurd (omega (arith, lt)))) in
    record {
      within = pass.within;
      slots = refl;
      rows = (refl, refl);
      leads = refl;
      looked =
          AreLooked-passed line are c.args.from c.args.start enter (columns_of was) (columns_of was) 0 c.pass-group.result pass.after
          pass.within (λ r after before. pass.spent r enter after before c.requires.seen) none;
      seen = c.requires.seen;
      visited =
          subst (λ n. Takes (RowLooks side line.row n (begins (side_slots side) side.count side.groups c.pass-group.result))
          c.args.looks.now.list c.pass-group.new.looks.list c.args.steps.now c.pass-group.new.steps) are.first
          (Takes-passed side line.row 0 c.pass-group.result are
          (omega (
            arith,
            c.line.invariant.0,
            ap (λ (l : LineView). l.row) c.line.view_is,
            ap (λ (l : LineView). side_slots l.side) c.line.view_is,
          ))
          (omega arith) pass.within c.args.looks.now.list c.pass-group.new.looks.list c.args.steps.now c.pass-group.new.steps pass.passed
          pass.counted);
    }

pub loop-group-preserved : goal.loop-group-preserved
loop-group-preserved g c =
    let line : LineView = c.args.line.now in
    let side = line.side in
    let loop = c.loop-group in
    let was = columns_of c.args.self.now in
    let now = c.look.new.self in
    let enter = c.args.enter.now in
    let are = subst (λ (l : LineView). AreGroups (side_slots l.side) l.side.columns l.side.count l.side.groups) c.line.view_is
    c.groups-count.ensures.groups in
    let inside : loop.group < side.count =
    omega (arith, c.loop-group-test.true, c.groups-count.ensures.count, ap (λ (l : LineView). l.side.count) c.line.view_is) in
    let pass = c.pass-group-in-loop-group.ensures in
    let next = c.pass-group-in-loop-group.result in
    record {
      within = pass.within;
      slots = c.look.ensures.slots ∙ loop.invariant.slots;
      rows = (c.look.ensures.rows.0 ∙ loop.invariant.rows.0, c.look.ensures.rows.1 ∙ loop.invariant.rows.1);
      leads = c.look.ensures.leads ∙ loop.invariant.leads;
      looked =
          AreLooked-passed line are c.args.from c.args.start enter was (columns_of now) (loop.group + 1) next pass.after pass.within
          (λ r after before. pass.spent r enter after before c.look.ensures.seen)
          (subst (λ upto. AreLooked (line_weight line) upto c.args.from c.args.start enter was (columns_of now))
          (are.next loop.group inside)
          (c.look.ensures.looked was
          (subst (λ upto. AreLooked (line_weight line) upto c.args.from c.args.start enter was (columns_of loop.self))
          (begins-there (side_slots side) side.count side.groups loop.group inside) loop.invariant.looked)));
      seen = c.look.ensures.seen;
      visited =
          let begin = begins (side_slots side) side.count side.groups in
          let group = group_at side.groups loop.group in
          Takes-append (RowLooks side line.row 0 (begin (loop.group + 1))) (RowLooks side line.row (begin (loop.group + 1)) (begin next))
          (RowLooks side line.row 0 (begin next)) (row-append side line.row 0 (begin (loop.group + 1)) (begin next))
          c.args.looks.now.list c.look.new.looks.list c.pass-group-in-loop-group.new.looks.list
          c.args.steps.now c.look.new.steps c.pass-group-in-loop-group.new.steps
          (Takes-append (RowLooks side line.row 0 (begin loop.group)) (RowLooks side line.row group.from group.to)
          (RowLooks side line.row 0 (begin (loop.group + 1)))
          (λ xs ys a b. row-append side line.row 0 (begin loop.group) (begin (loop.group + 1)) xs ys a
          (row-wider side line.row group.from group.to (begin loop.group) (begin (loop.group + 1)) ys
          (omega (arith, begins-there (side_slots side) side.count side.groups loop.group inside))
          (omega (arith, are.next loop.group inside)) b))
          c.args.looks.now.list loop.looks.list c.look.new.looks.list c.args.steps.now loop.steps c.look.new.steps
          loop.invariant.visited c.look.ensures.visited)
          (Takes-passed side line.row (loop.group + 1) next are
          (omega (
            arith,
            c.line.invariant.0,
            ap (λ (l : LineView). l.row) c.line.view_is,
            ap (λ (l : LineView). side_slots l.side) c.line.view_is,
          ))
          pass.after pass.within c.look.new.looks.list c.pass-group-in-loop-group.new.looks.list c.look.new.steps
          c.pass-group-in-loop-group.new.steps pass.passed pass.counted);
    }

pub returns-clause-visited : goal.returns-clause-visited
returns-clause-visited g c =
    let line : LineView = c.args.line.now in
    let side = line.side in
    let loop = c.loop-group in
    let all : side.count ≤ loop.group =
    omega (arith, c.loop-group-test.false, c.groups-count.ensures.count, ap (λ (l : LineView). l.side.count) c.line.view_is) in
    subst (λ n. Takes (RowLooks side line.row 0 n) c.args.looks.now.list loop.looks.list c.args.steps.now loop.steps)
    (begins-past (side_slots side) side.count side.groups loop.group all) loop.invariant.visited

pub returns-clause-counted : goal.returns-clause-counted
returns-clause-counted g c = let visited = returns-clause-visited g c in omega (arith, visited.steps, visited.are.few)

pub look-requires-clause-columns : goal.look-requires-clause-columns
look-requires-clause-columns g c =
    let line : LineView = c.args.line.now in
    let are = subst (λ (l : LineView). AreGroups (side_slots l.side) l.side.columns l.side.count l.side.groups) c.line.view_is
    c.groups-count.ensures.groups in
    are.after c.loop-group.group
    (omega (arith, c.loop-group-test.true, c.groups-count.ensures.count, ap (λ (l : LineView). l.side.count) c.line.view_is))

pub look-requires-clause-within : goal.look-requires-clause-within
look-requires-clause-within g c =
    let line : LineView = c.args.line.now in
    let are = subst (λ (l : LineView). AreGroups (side_slots l.side) l.side.columns l.side.count l.side.groups) c.line.view_is
    c.groups-count.ensures.groups in
    are.within c.loop-group.group
    (omega (arith, c.loop-group-test.true, c.groups-count.ensures.count, ap (λ (l : LineView). l.side.count) c.line.view_is))
