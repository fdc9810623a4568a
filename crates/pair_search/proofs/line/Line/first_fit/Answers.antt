use Rattle.std.proofs.Common.{get_or, sym, ap, ◌∙◌, arith}
use Rattle.pair_search.specs.declared.groups.Group.{Group}
use Rattle.pair_search.specs.Groups.{group_at}
use Rattle.pair_search.specs.Side.{SideView, LineView}
use Rattle.pair_search.proofs.FitLemmas.{IsFirstFit-found}
use Rattle.pair_search.proofs.line.Line.first_fit.Goals as goal

pub first_from-requires-clause-within : goal.first_from-requires-clause-within
first_from-requires-clause-within c =
    let side = c.side.view_is ∙ ap (λ (l : LineView). l.side) c.self.view_is in
    let count = ap (λ (s : SideView). s.count) side in
    let group = ap (λ (s : SideView). (group_at s.groups c.args.group).to) side in
    omega (
      arith,
      c.requires.upto,
      group,
      c.side.invariant.1.within c.args.group (omega (arith, c.requires.group, count)),
      c.side.invariant.0.count,
    )

pub first_from-requires-clause-rise : goal.first_from-requires-clause-rise
first_from-requires-clause-rise c = λ h k d from le lt.
    let side = c.side.view_is ∙ ap (λ (l : LineView). l.side) c.self.view_is in
    let count = ap (λ (s : SideView). s.count) side in
    let group = ap (λ (s : SideView). (group_at s.groups c.args.group).to) side in
    let begin = ap (λ (x : Group). x.from) c.group-group.ensures.group
    ∙ ap (λ (s : SideView). (group_at s.groups c.args.group).from) (sym c.side.view_is) in
    c.side.invariant.1.rise c.args.group h k d (omega (arith, c.requires.group, count)) (omega (arith, from, begin)) le
    (omega (arith, lt, c.requires.upto, group))

pub returns : goal.returns
returns c =
    let line : LineView = c.args.self.now in
    let side = c.side.view_is ∙ ap (λ (l : LineView). l.side) c.self.view_is in
    let columns = ap (λ (s : SideView). s.columns) side in
    let begin = ap (λ (x : Group). x.from) c.group-group.ensures.group
    ∙ ap (λ (l : LineView). (group_at l.side.groups c.args.group).from) c.self.view_is in
    let first = c.first_from.result in
    IsFirstFit-found line (group_at line.side.groups c.args.group) c.args.reach c.args.upto first c.requires.reach c.requires.upto
    c.first_from.ensures.within
    (λ lt. omega (arith, c.first_from.ensures.after lt, begin))
    (λ k d from lt. omega (
      arith,
      c.first_from.ensures.before k d (omega (arith, from, begin)) lt,
      ap (λ xs. (get_or xs k d).minute)
          columns,
    ))
    (λ k d from past lt. omega (
      arith,
      c.first_from.ensures.later k d (omega (arith, from, begin)) past lt,
      ap (λ xs. (get_or xs k d).minute) columns,
    ))
