use Rattle.std.proofs.Common.{◌≡◌, ℕ, ◌+◌, ◌<◌, ◌≤◌, true, length, Option, None, Some, refl, ap, subst, sym, ◌∙◌, arith}
use Rattle.std.specs.Option.{is_some}
use Rattle.std.proofs.lemmas.Bool.{false≢true}
use Rattle.trip_model.specs.Plain.{AreMoves}
use Rattle.pair_search.specs.declared.groups.Group.{Group}
use Rattle.pair_search.specs.Groups.{group_at}
use Rattle.pair_search.specs.Search.{columns_of, AreLooked}
use Rattle.pair_search.specs.Side.{LineView, SideView, line_weight, side_slots}
use Rattle.pair_search.specs.declared.look.Look.TheVariants.{Passed}
use Rattle.pair_search.specs.Visits.{RowLooks}
use Rattle.pair_search.proofs.FitLemmas.{IsArranged, keeping-apart}
use Rattle.pair_search.proofs.LookLemmas.{AreLooked-spent}
use Rattle.pair_search.proofs.VisitLemmas.{Takes-append, Takes-one, row-append}
use Rattle.pair_search.proofs.tree.Tree.try_group.Goals as goal

pub loop-column-preserved : goal.loop-column-preserved
loop-column-preserved g c =
    let line : LineView = c.args.line.now in
    let loop = c.loop-column in
    let from = (group_at line.side.groups c.args.group).from in
    record {
      after = omega (arith, loop.invariant.after);
      slots = c.try_column.ensures.slots ∙ loop.invariant.slots;
      rows = (c.try_column.ensures.rows.0 ∙ loop.invariant.rows.0, c.try_column.ensures.rows.1 ∙ loop.invariant.rows.1);
      leads = c.try_column.ensures.leads ∙ loop.invariant.leads;
      looked = λ was before. c.try_column.ensures.looked was (loop.invariant.looked was before);
      seen = c.try_column.ensures.seen;
      visited =
          Takes-append (RowLooks line.side line.row from loop.column) (RowLooks line.side line.row loop.column (loop.column + 1))
          (RowLooks line.side line.row from (loop.column + 1)) (row-append line.side line.row from loop.column (loop.column + 1))
          c.args.looks.now.list loop.looks.list c.try_column.new.looks.list c.args.steps.now loop.steps c.try_column.new.steps
          loop.invariant.visited c.try_column.ensures.visited;
    }

pub returns-clause-looked : goal.returns-clause-looked
returns-clause-looked g c = λ was before.
    let line : LineView = c.args.line.now in
    let end : c.group-columns.result.to ≡ (group_at line.side.groups c.args.group).to =
    ap (λ (x : Group). x.to) c.group-columns.ensures.group
    ∙ ap (λ (l : LineView). (group_at l.side.groups c.args.group).to) c.line.view_is in
    subst (λ n. AreLooked (line_weight line) n c.args.from c.args.start c.args.enter.now was (columns_of c.loop-column.self))
    (omega (arith, c.loop-column.auto.column-end, c.loop-column-test.false, end)) (c.loop-column.invariant.looked was before)

-- the post of a group that stands at one
at-one : (post : Option ℕ) → is_some post ≡ true → (p : ℕ) × (post ≡ Some p)
at-one None e = absurd (false≢true e)
at-one (Some p) e = (p, refl)

pub returns-then-is_some-clause-looked : goal.returns-then-is_some-clause-looked
returns-then-is_some-clause-looked g c = λ was before.
    let line : LineView = c.args.line.now in
    let group : Group = group_at line.side.groups c.args.group in
    let arranged = subst IsArranged (c.side.view_is ∙ ap (λ (l : LineView). l.side) c.line.view_is)
    (record {
      order = c.side.invariant.0;
      groups = c.side.invariant.1;
      moves =
          subst (λ (s : SideView). AreMoves (length s.pairs.matrix.walks) s.pairs.moves) (sym c.side.view_is)
          c.slots-slots.ensures.moves;
    }) in
    let same : group ≡ c.group-columns.result = ap (λ (l : LineView). group_at l.side.groups c.args.group) (sym c.line.view_is)
    ∙ sym c.group-columns.ensures.group in
    let post = at-one c.group-columns.result.post (sym c.is_some.ensures ∙ c.if-is_some.true) in
    let apart = keeping-apart line arranged c.args.group c.requires.group post.0 (ap (λ (x : Group). x.post) same ∙ post.1)
    (sym c.requires.keeping ∙ c.if-keeping.true) in
    AreLooked-spent (line_weight line) group.from group.to c.args.from c.args.start group.to c.args.enter.now was
    (columns_of c.args.self.now) (λ j from lt _. apart j from lt) (λ j k from lt past. absurd (omega (arith, lt, past))) before

pub returns-then-is_some-clause-visited : goal.returns-then-is_some-clause-visited
returns-then-is_some-clause-visited g c =
    let line : LineView = c.args.line.now in
    let group : Group = group_at line.side.groups c.args.group in
    let row : c.line.inside.row ≡ line.row = ap (λ (l : LineView). l.row) c.line.view_is in
    let inside : c.line.inside.row < side_slots line.side =
    omega (arith, c.line.invariant.0, ap (λ (l : LineView). side_slots l.side) c.line.view_is) in
    Takes-one line.side line.row group.from group.to (Passed c.line.inside.row c.args.group) c.requires.columns (inside, c.requires.group)
    (row, omega arith, c.requires.columns) c.args.looks.now.list c.take.new.self.list c.args.steps.now c.take.new.steps
    c.take.ensures.list c.take.ensures.counted
