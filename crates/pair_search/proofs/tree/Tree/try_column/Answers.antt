use Rattle.std.proofs.Common.{◌≡◌, ℕ, ◌+◌, ◌-◌, ◌<◌, ◌≤◌, length, set, Some, sym, ap, subst, ◌∙◌, arith}
use Rattle.std.proofs.lemmas.List.{get_or_read}
use Rattle.std.proofs.lemmas.Option.{same_Some}
use Rattle.pair_search.specs.declared.tree.Seen.{Seen}
use Rattle.pair_search.specs.Groups.{seen_at, AreApproached, AreGroups, IsNearerBy}
use Rattle.pair_search.specs.Search.{as_columns, columns_of}
use Rattle.pair_search.specs.Side.{LineView, line_weight, side_slots}
use Rattle.pair_search.proofs.GroupLemmas.{AreNear-look, AreReached-look, length-seen}
use Rattle.pair_search.proofs.LeadLemmas.{AreLed-nearer}
use Rattle.pair_search.proofs.LookLemmas.{AreApproached-one, AreLooked-group}
use Rattle.pair_search.proofs.tree.Tree.try_column.Goals as goal

pub returns-clause-seen : goal.returns-clause-seen
returns-clause-seen g c =
    let line : LineView = c.args.line.now in
    let side = line.side in
    let was = c.args.self.now in
    let enter = c.args.enter.now in
    let along = c.in-Some.along in
    let near : IsNearerBy line c.args.column c.args.start enter (columns_of was) along = c.in-Some.ensures.some in
    let low = c.requires.low c.args.column near.weight near.fits in
    let cost = c.args.start + 4503599627370496 - near.weight in
    let inside : c.args.column < length was.dist.items = omega (arith, c.requires.within, c.requires.slots, was.dist.len) in
    let inside' : c.args.column < length was.parent.items =
    omega (arith, c.requires.within, c.requires.slots, was.parents, was.parent.len) in
    let dist = set was.dist.items c.args.column along in
    let parent = set was.parent.items c.args.column c.args.from in
    let a : AreApproached c.args.column (c.args.column + 1) c.args.from cost enter
    (as_columns was.dist.items was.parent.items was.done.items) (as_columns dist parent was.done.items) along =
    AreApproached-one c.args.column c.args.from cost along enter was.done.items was.dist.items was.parent.items near.undone
    (omega (arith, near.exact, low)) near.nearer inside inside' in
    let room : c.args.group < length was.seen.items = omega (arith, c.requires.seen.room, c.requires.group) in
    let read : c.index-was.result.now ≡ seen_at was.seen.items c.args.group =
    get_or_read was.seen.items c.args.group c.index-was.result.now room
    c.index-was.ensures (record { near = 0; cost = 0; from = 0; minute = 0 }) in
    let now : Seen = record {
      near = c.min.result;
      cost = c.index-was.result.now.cost;
      from = c.index-was.result.now.from;
      minute = c.index-was.result.now.minute;
    } in
    let are = subst (λ (l : LineView). AreGroups (side_slots l.side) l.side.columns l.side.count l.side.groups) c.line.view_is
    c.groups-groups.ensures.groups in
    record {
      room = omega (arith, c.requires.seen.room, length-seen was.seen.items c.args.group now);
      near =
          AreNear-look side are c.args.group c.args.column (c.args.column + 1) c.args.from cost along enter was.done.items was.dist.items
          was.parent.items dist parent a was.seen.items now c.requires.group room c.requires.after (omega (arith, c.requires.before))
          (omega (arith, c.min.ensures, ap (λ (s : Seen). s.near) read)) (omega (arith, c.min.ensures)) c.requires.seen.near;
      reached =
          AreReached-look side are c.args.group c.args.column (c.args.column + 1) c.args.from cost along enter was.done.items
          was.dist.items was.parent.items dist parent a was.seen.items now c.requires.group room c.requires.after
          (omega (arith, c.requires.before))
          (λ j past from before undone.
          let old = c.requires.seen.reached.covered c.args.group j c.requires.group
          (omega (arith, past, ap (λ (s : Seen). s.from) read)) from before undone in
          omega (arith, old, a.nearer j, ap (λ (s : Seen). s.cost) read))
          (λ j d from before early reached.
          let old = c.requires.seen.reached.sooner c.args.group j d c.requires.group from before
          (omega (arith, early, ap (λ (s : Seen). s.from) read)) (omega (arith, reached, ap (λ (s : Seen). s.cost) read)) in
          omega (arith, old, ap (λ (s : Seen). s.minute) read))
          c.requires.seen.reached;
      posts = c.requires.seen.posts;
      led =
          AreLed-nearer side enter was.done.items was.done.items was.dist.items dist was.leads.items a.nearer (λ j e. e)
          c.requires.seen.led;
    }

pub returns-clause-looked : goal.returns-clause-looked
returns-clause-looked g c = λ before l.
    let line : LineView = c.args.line.now in
    let was = c.args.self.now in
    let enter = c.args.enter.now in
    let along = c.in-Some.along in
    let near : IsNearerBy line c.args.column c.args.start enter (columns_of was) along = c.in-Some.ensures.some in
    let low = c.requires.low c.args.column near.weight near.fits in
    let cost = c.args.start + 4503599627370496 - near.weight in
    let inside : c.args.column < length was.dist.items = omega (arith, c.requires.within, c.requires.slots, was.dist.len) in
    let inside' : c.args.column < length was.parent.items =
    omega (arith, c.requires.within, c.requires.slots, was.parents, was.parent.len) in
    let dist = set was.dist.items c.args.column along in
    let parent = set was.parent.items c.args.column c.args.from in
    let a : AreApproached c.args.column (c.args.column + 1) c.args.from cost enter
    (as_columns was.dist.items was.parent.items was.done.items) (as_columns dist parent was.done.items) along =
    AreApproached-one c.args.column c.args.from cost along enter was.done.items was.dist.items was.parent.items near.undone
    (omega (arith, near.exact, low)) near.nearer inside inside' in
    let fits : (j : ℕ) → c.args.column ≤ j → j < c.args.column + 1 → line_weight line j ≡ Some near.weight = λ j le lt.
    ap (line_weight line) (omega (arith, le, lt)) ∙ near.fits in
    AreLooked-group (line_weight line) c.args.column c.args.column (c.args.column + 1) (c.args.column + 1) c.args.from c.args.start
    near.weight cost along enter before was.done.items was.dist.items was.parent.items dist parent (λ lt. omega arith) (omega arith)
    (λ j k le lt fit. (same_Some k near.weight (sym fit ∙ fits j le lt), omega (arith, near.exact, low)))
    (λ j le lt. absurd (omega (arith, le, lt))) (λ j le past lt. fits j le lt) (λ j le past lt undone. absurd (omega (arith, past, lt))) a l
