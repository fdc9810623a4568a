use Rattle.std.specs.Prelude.{map}
use Rattle.std.specs.List.{range_with_len}
use Rattle.std.proofs.Common.{◌≡◌, ◌++◌, ◌+◌, ◌-◌, ◌<◌, ◌≤◌, ℕ, get_or, length, true, refl, sym, ap, subst, ◌∙◌, ⊎_elim, arith}
use Rattle.std.proofs.lemmas.Bool.{both_ways, cases_lt}
use Rattle.std.proofs.lemmas.List.{get_or_read}
use Rattle.std.proofs.lemmas.Option.{none-some}
use Rattle.pair_search.specs.declared.groups.Group.{Group}
use Rattle.pair_search.specs.declared.order.Column.{Column}
use Rattle.pair_search.specs.declared.tree.Seen.{Seen}
use Rattle.pair_search.specs.Groups.{group_at, group_pull, seen_at, AreGroups}
use Rattle.pair_search.specs.Search.{is_done}
use Rattle.pair_search.specs.Side.{LineView, side_slots, line_weight, reach_weight}
use Rattle.pair_search.specs.declared.look.Look.TheVariants.{Visited, Passed}
use Rattle.pair_search.proofs.FitLemmas.{too-soon, weighs-same}
use Rattle.pair_search.proofs.LeadLemmas.{AreLed-nearer}
use Rattle.pair_search.proofs.LentLemmas.{written}
use Rattle.pair_search.proofs.LookLemmas.{AreApproached-same, AreLooked-group, AreLooked-spent}
use Rattle.pair_search.proofs.GroupLemmas.{AreNear-look, AreReached-look, length-seen}
use Rattle.pair_search.proofs.VisitLemmas.{Takes-one, Takes-visits}
use Rattle.pair_search.proofs.tree.Tree.look.Goals as goal

pub returns-in_default-clause-visited : goal.returns-in_default-clause-visited
returns-in_default-clause-visited g c =
    let line : LineView = c.args.line.now in
    let group : Group = group_at line.side.groups c.args.group in
    let row : c.line.inside.row ≡ line.row = ap (λ (l : LineView). l.row) c.line.view_is in
    let inside : c.line.inside.row < side_slots line.side =
    omega (arith, c.line.invariant.0, ap (λ (l : LineView). side_slots l.side) c.line.view_is) in
    Takes-one line.side line.row group.from group.to (Passed c.line.inside.row c.args.group) c.requires.columns (inside, c.requires.group)
    (row, omega arith, c.requires.columns) c.args.looks.now.list c.take.new.self.list c.args.steps.now c.take.new.steps
    c.take.ensures.list c.take.ensures.counted

pub returns-then-first-upto-clause-visited : goal.returns-then-first-upto-clause-visited
returns-then-first-upto-clause-visited g c =
    let line : LineView = c.args.line.now in
    let group : Group = group_at line.side.groups c.args.group in
    let row : c.line.inside.row ≡ line.row = ap (λ (l : LineView). l.row) c.line.view_is in
    let inside : c.line.inside.row < side_slots line.side =
    omega (arith, c.line.invariant.0, ap (λ (l : LineView). side_slots l.side) c.line.view_is) in
    Takes-one line.side line.row group.from group.to (Passed c.line.inside.row c.args.group) c.requires.columns (inside, c.requires.group)
    (row, omega arith, c.requires.columns) c.args.looks.now.list c.take-then-first-upto.new.self.list c.args.steps.now
    c.take-then-first-upto.new.steps c.take-then-first-upto.ensures.list c.take-then-first-upto.ensures.counted

pub returns-then-first-upto-clause-looked : goal.returns-then-first-upto-clause-looked
returns-then-first-upto-clause-looked g c = λ before l.
    let line : LineView = c.args.line.now in
    let group : Group = group_at line.side.groups c.args.group in
    let end : c.group.result.to ≡ group.to = ap (λ (x : Group). x.to) c.group.ensures.group
    ∙ ap (λ (l : LineView). (group_at l.side.groups c.args.group).to) c.line.view_is in
    let was = c.args.self.now in
    let read : c.index-was.result.now ≡ seen_at was.seen.items c.args.group =
    get_or_read was.seen.items c.args.group c.index-was.result.now (omega (arith, c.requires.seen.room, c.requires.group))
    c.index-was.ensures (record { near = 0; cost = 0; from = 0; minute = 0 }) in
    let dear = ap (λ (s : Seen). s.cost) read in
    let start = ap (λ (s : Seen). s.from) read in
    let saved = ap (λ (l : LineView). l.share.saved) c.line.view_is in
    AreLooked-spent (line_weight line) group.from group.to c.args.from c.args.start c.cut-upto.result c.args.enter.now before _
    (λ j from lt early. too-soon line group c.in-Some.reach c.in-Some.ensures j from lt
    (λ d. c.first_fit-first.ensures.sooner j d from (omega (arith, early, c.if-first-upto.true))))
    (λ j k from lt late undone is.
    let rest = c.cut-upto.ensures.rest j late (omega (arith, lt, end)) in
    omega (
      arith,
      weighs-same line group c.in-Some.reach c.in-Some.ensures j k from lt is,
      c.requires.seen.reached.covered c.args.group j c.requires.group (omega (arith, rest.1, start)) from lt undone,
      rest.0,
      dear,
      saved,
      c.from.ensures,
      c.in-Some.ensures.walk,
      c.line.invariant.1.least,
      c.line.invariant.1.most,
    )) l

pub approach-found-requires-clause-cost : goal.approach-found-requires-clause-cost
approach-found-requires-clause-cost g c =
    omega (arith, c.requires.start, c.from.ensures, c.in-Some.ensures.walk, c.line.invariant.1.least)

pub approach-found-requires-clause-low : goal.approach-found-requires-clause-low
approach-found-requires-clause-low g c = λ j past lt.
    let line : LineView = c.args.line.now in
    let group : Group = group_at line.side.groups c.args.group in
    let fit = c.first_fit-first.ensures in
    c.requires.low j (reach_weight line group.post c.in-Some.reach)
    (fit.fits j (omega (arith, past, fit.after c.if-first-upto.false)) past lt)

pub approach-found-requires-clause-enough : goal.approach-found-requires-clause-enough
approach-found-requires-clause-enough g c = λ j past lt.
    let line : LineView = c.args.line.now in
    let group : Group = group_at line.side.groups c.args.group in
    let saved = ap (λ (l : LineView). l.share.saved) c.line.view_is in
    let fit = c.first_fit-first.ensures in
    let pulled = c.pull.ensures.pull ∙ ap (λ (l : LineView). group_pull l.side c.args.group) c.line.view_is in
    omega (
      arith,
      saved,
      pulled,
      c.pull.ensures.bound,
      c.from.ensures,
      c.from-2.ensures,
      c.in-Some.ensures.walk,
      c.line.invariant.1.least,
      c.line.invariant.1.most,
      c.requires.covers j (reach_weight line group.post c.in-Some.reach)
          (fit.fits j (omega (arith, past, fit.after c.if-first-upto.false)) past lt),
    )

pub returns-clause-looked : goal.returns-clause-looked
returns-clause-looked g c = λ before l.
    let line : LineView = c.args.line.now in
    let group : Group = group_at line.side.groups c.args.group in
    let end : c.group.result.to ≡ group.to = ap (λ (x : Group). x.to) c.group.ensures.group
    ∙ ap (λ (l : LineView). (group_at l.side.groups c.args.group).to) c.line.view_is in
    let was = c.args.self.now in
    let read : c.index-was.result.now ≡ seen_at was.seen.items c.args.group =
    get_or_read was.seen.items c.args.group c.index-was.result.now (omega (arith, c.requires.seen.room, c.requires.group))
    c.index-was.ensures (record { near = 0; cost = 0; from = 0; minute = 0 }) in
    let dear = ap (λ (s : Seen). s.cost) read in
    let start = ap (λ (s : Seen). s.from) read in
    let saved = ap (λ (l : LineView). l.share.saved) c.line.view_is in
    let fit = c.first_fit-first.ensures in
    let first = c.first_fit-first.result in
    let upto = c.cut-upto.result in
    let pulled = c.pull.ensures.pull ∙ ap (λ (l : LineView). group_pull l.side c.args.group) c.line.view_is in
    let cost = c.args.start + 4503599627370496 - c.line.inside.share.saved + c.from.result - c.from-2.result in
    let a =
    AreApproached-same first upto c.args.from cost c.approach-found.result.near c.args.enter.now was.done.items _ was.dist.items _
    was.parent.items _ _ c.approach-found.new.dist _ c.approach-found.new.parent
    c.deref.ensures.value c.deref_mut.ensures.value c.deref_mut-2.ensures.value
    (written c.approach-found.new.dist was.dist.items was.dist.len (c.approach-found.auto.dist ∙ c.deref_mut.ensures.len))
    (written c.approach-found.new.parent was.parent.items was.parent.len (c.approach-found.auto.parent ∙ c.deref_mut-2.ensures.len))
    c.approach-found.ensures.approached in
    AreLooked-group (line_weight line) group.from first upto group.to c.args.from c.args.start
    (reach_weight line group.post c.in-Some.reach) cost c.approach-found.result.near
    c.args.enter.now before was.done.items was.dist.items was.parent.items _ _ fit.after (omega (arith, c.cut-upto.ensures.within, end))
    (λ j k from lt is.
    let same = weighs-same line group c.in-Some.reach c.in-Some.ensures j k from lt is in (
      same,
      omega (
        arith,
        saved,
        pulled,
        c.pull.ensures.bound,
        c.from.ensures,
        c.from-2.ensures,
        c.in-Some.ensures.walk,
        c.line.invariant.1.least,
        c.line.invariant.1.most,
      ),
    ))
    (λ j from early. too-soon line group c.in-Some.reach c.in-Some.ensures j from
    (omega (arith, early, fit.within, c.cut-upto.ensures.within, end)) (λ d. fit.sooner j d from early))
    fit.fits
    (λ j from past before undone.
    let rest = c.cut-upto.ensures.rest j past (omega (arith, before, end)) in
    omega (
      arith,
      rest.0,
      dear,
      pulled,
      c.from-2.ensures,
      c.requires.seen.reached.covered c.args.group j c.requires.group (omega (arith, rest.1, start)) from before undone,
      saved,
      c.pull.ensures.bound,
      c.line.invariant.1.most,
    ))
    a l

pub returns-clause-seen : goal.returns-clause-seen
returns-clause-seen g c =
    let line : LineView = c.args.line.now in
    let group : Group = group_at line.side.groups c.args.group in
    let end : c.group.result.to ≡ group.to = ap (λ (x : Group). x.to) c.group.ensures.group
    ∙ ap (λ (l : LineView). (group_at l.side.groups c.args.group).to) c.line.view_is in
    let was = c.args.self.now in
    let read : c.index-was.result.now ≡ seen_at was.seen.items c.args.group =
    get_or_read was.seen.items c.args.group c.index-was.result.now (omega (arith, c.requires.seen.room, c.requires.group))
    c.index-was.ensures (record { near = 0; cost = 0; from = 0; minute = 0 }) in
    let dear = ap (λ (s : Seen). s.cost) read in
    let start = ap (λ (s : Seen). s.from) read in
    let saved = ap (λ (l : LineView). l.share.saved) c.line.view_is in
    let near = ap (λ (s : Seen). s.near) read in
    let fit = c.first_fit-first.ensures in
    let first = c.first_fit-first.result in
    let upto = c.cut-upto.result in
    let pulled = c.pull.ensures.pull ∙ ap (λ (l : LineView). group_pull l.side c.args.group) c.line.view_is in
    let cost = c.args.start + 4503599627370496 - c.line.inside.share.saved + c.from.result - c.from-2.result in
    let a =
    AreApproached-same first upto c.args.from cost c.approach-found.result.near c.args.enter.now was.done.items _ was.dist.items _
    was.parent.items _ _ c.approach-found.new.dist _ c.approach-found.new.parent
    c.deref.ensures.value c.deref_mut.ensures.value c.deref_mut-2.ensures.value
    (written c.approach-found.new.dist was.dist.items was.dist.len (c.approach-found.auto.dist ∙ c.deref_mut.ensures.len))
    (written c.approach-found.new.parent was.parent.items was.parent.len (c.approach-found.auto.parent ∙ c.deref_mut-2.ensures.len))
    c.approach-found.ensures.approached in
    let missed = subst (λ (l : LineView). (k : ℕ) (d : Column) → (group_at l.side.groups c.args.group).from ≤ k → k < first
    → (get_or l.side.columns k d).minute < c.missed-missed.result) c.line.view_is c.missed-missed.ensures in
    let are = subst (λ (l : LineView). AreGroups (side_slots l.side) l.side.columns l.side.count l.side.groups) c.line.view_is
    c.group.ensures.groups in
    let after = fit.after c.if-first-upto.false in
    let within : upto ≤ group.to = omega (arith, c.cut-upto.ensures.within, end) in
    let room : c.args.group < length was.seen.items = omega (arith, c.requires.seen.room, c.requires.group) in
    record {
      room = omega (arith, c.requires.seen.room, length-seen was.seen.items c.args.group c.renewed.result);
      near =
          AreNear-look line.side are c.args.group first upto c.args.from cost c.approach-found.result.near
          c.args.enter.now was.done.items was.dist.items was.parent.items _ _ a was.seen.items c.renewed.result c.requires.group room after
          within (omega (arith, c.renewed.ensures.near.0, near)) c.renewed.ensures.near.1 c.requires.seen.near;
      reached =
          AreReached-look line.side are c.args.group first upto c.args.from cost c.approach-found.result.near
          c.args.enter.now was.done.items was.dist.items was.parent.items _ _ a was.seen.items c.renewed.result c.requires.group room after
          within
          (λ j past from before undone. ⊎_elim
          (λ (here : j < upto). ⊎_elim
          (λ is. omega (
            arith,
            is,
            pulled,
            saved,
            c.from-2.ensures,
            c.pull.ensures.bound,
            c.line.invariant.1.most,
            a.covered j (omega (arith, past, c.renewed.ensures.place.0)) here undone,
          ))
          (λ kept. absurd (both_ways true
          (sym (c.approach-found.ensures.undone kept.0 j (omega (arith, past, c.renewed.ensures.place.0)) here)
          ∙ ap (λ xs. is_done xs j) c.deref.ensures.value ∙ undone) refl))
          c.renewed.ensures.reached)
          (λ (rest : upto ≤ j).
          let left = c.cut-upto.ensures.rest j rest (omega (arith, before, end)) in
          let old = c.requires.seen.reached.covered c.args.group j c.requires.group (omega (arith, left.1, start)) from before undone in
          ⊎_elim
          (λ is. omega (arith, is, left.0, dear, a.nearer j, old))
          (λ kept. omega (arith, kept.1, kept.2, dear, a.nearer j, old))
          c.renewed.ensures.reached)
          (cases_lt j upto))
          (λ j d from before early reached. omega (
            arith,
            c.renewed.ensures.place.1,
            missed j d from (omega (arith, early, c.renewed.ensures.place.0)),
          ))
          c.requires.seen.reached;
      posts = c.requires.seen.posts;
      led =
          AreLed-nearer line.side c.args.enter.now was.done.items was.done.items was.dist.items _ was.leads.items a.nearer (λ j e. e)
          c.requires.seen.led;
    }

pub returns-clause-visited : goal.returns-clause-visited
returns-clause-visited g c =
    let line : LineView = c.args.line.now in
    let group : Group = group_at line.side.groups c.args.group in
    let end : c.group.result.to ≡ group.to = ap (λ (x : Group). x.to) c.group.ensures.group
    ∙ ap (λ (l : LineView). (group_at l.side.groups c.args.group).to) c.line.view_is in
    let fit = c.first_fit-first.ensures in
    let first = c.first_fit-first.result in
    let upto = c.cut-upto.result in
    let after = fit.after c.if-first-upto.false in
    let row : c.line.inside.row ≡ line.row = ap (λ (l : LineView). l.row) c.line.view_is in
    let inside : line.row < side_slots line.side =
    omega (arith, row, c.line.invariant.0, ap (λ (l : LineView). side_slots l.side) c.line.view_is) in
    Takes-visits line.side line.row group.from group.to first upto inside after (omega (arith, c.if-first-upto.false))
    (omega (arith, c.cut-upto.ensures.within, end)) c.requires.within
    (λ j past lt none. none-some (reach_weight line group.post c.in-Some.reach)
    (sym none ∙ fit.fits j (omega (arith, past, after)) past lt))
    c.args.looks.now.list c.approach-found.new.looks.list c.args.steps.now c.approach-found.new.steps
    (subst (λ r. c.approach-found.new.looks.list ≡ c.args.looks.now.list ++ map (Visited r) (range_with_len first (upto - first))) row
    c.approach-found.ensures.visited) c.approach-found.ensures.counted
