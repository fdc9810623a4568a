use Rattle.std.proofs.Common.{◌≡◌, Option, sym, ap, subst, ◌∙◌, arith}
use Rattle.pair_search.specs.declared.groups.Group.{Group}
use Rattle.pair_search.specs.declared.line.Reach.{Reach}
use Rattle.pair_search.specs.Groups.{group_at}
use Rattle.pair_search.specs.Side.{LineView, IsReachOf}
use Rattle.pair_search.proofs.FitLemmas.{AreSaved, IsArranged, post-there}
use Rattle.pair_search.proofs.FitLemmas.{IsReachOf-nowhere, IsReachOf-apart, IsReachOf-late, IsReachOf-found}
use Rattle.pair_search.proofs.line.Line.reach_of.Goals as goal

pub returns-in_err-group : goal.returns-in_err-group
returns-in_err-group c =
    let line : LineView = c.args.self.now in
    let same = c.side.view_is ∙ ap (λ (l : LineView). l.side) c.self.view_is in
    let arranged = subst IsArranged same
    (record { order = c.side.invariant.0; groups = c.side.invariant.1; moves = c.slots-slots.ensures.valid }) in
    let group : group_at line.side.groups c.args.group ≡ c.group-group.result =
    ap (λ (l : LineView). group_at l.side.groups c.args.group) (sym c.self.view_is) ∙ sym c.group-group.ensures.group in
    subst (λ (o : Option Reach). IsReachOf line (group_at line.side.groups c.args.group) o) (sym c.from_residual.ensures)
    (IsReachOf-nowhere line arranged c.args.group c.requires.group c.requires.free (ap (λ (x : Group). x.post) group ∙ c.in_err-group.was))

pub walk-requires : goal.walk-requires
walk-requires c =
    let line : LineView = c.args.self.now in
    let same = c.side.view_is ∙ ap (λ (l : LineView). l.side) c.self.view_is in
    let arranged = subst IsArranged same
    (record { order = c.side.invariant.0; groups = c.side.invariant.1; moves = c.slots-slots.ensures.valid }) in
    let group : group_at line.side.groups c.args.group ≡ c.group-group.result =
    ap (λ (l : LineView). group_at l.side.groups c.args.group) (sym c.self.view_is) ∙ sym c.group-group.ensures.group in
    post-there line arranged c.args.group c.requires.group c.in_ok-group.field-0 (ap (λ (x : Group). x.post) group ∙ c.in_ok-group.was)

pub returns-in_err-walk : goal.returns-in_err-walk
returns-in_err-walk c =
    let line : LineView = c.args.self.now in
    let same = c.side.view_is ∙ ap (λ (l : LineView). l.side) c.self.view_is in
    let arranged = subst IsArranged same
    (record { order = c.side.invariant.0; groups = c.side.invariant.1; moves = c.slots-slots.ensures.valid }) in
    let group : group_at line.side.groups c.args.group ≡ c.group-group.result =
    ap (λ (l : LineView). group_at l.side.groups c.args.group) (sym c.self.view_is) ∙ sym c.group-group.ensures.group in
    let post = c.in_ok-group.field-0 in
    subst (λ (o : Option Reach). IsReachOf line (group_at line.side.groups c.args.group) o) (sym c.from_residual-in_err-walk.ensures)
    (IsReachOf-apart line arranged c.args.group c.requires.group c.requires.free post (ap (λ (x : Group). x.post) group ∙ c.in_ok-group.was)
    (subst (λ o. AreSaved line arranged post o) c.in_err-walk.was c.walk.ensures.weights))

pub returns-then-minute-from : goal.returns-then-minute-from
returns-then-minute-from c =
    let line : LineView = c.args.self.now in
    let same = c.side.view_is ∙ ap (λ (l : LineView). l.side) c.self.view_is in
    let arranged = subst IsArranged same
    (record { order = c.side.invariant.0; groups = c.side.invariant.1; moves = c.slots-slots.ensures.valid }) in
    let group : group_at line.side.groups c.args.group ≡ c.group-group.result =
    ap (λ (l : LineView). group_at l.side.groups c.args.group) (sym c.self.view_is) ∙ sym c.group-group.ensures.group in
    let post = c.in_ok-group.field-0 in
    IsReachOf-late line arranged c.args.group c.requires.group c.requires.free post
    (ap (λ (x : Group). x.post) group ∙ c.in_ok-group.was) c.in_ok-walk.walk c.in_ok-walk.ensures.weights
    (omega (
      arith,
      c.if-minute-from.true,
      c.from.ensures,
      c.from-2.ensures,
      ap (λ (x : Group). x.latest) group,
      ap (λ (l : LineView). l.share.ready) c.self.view_is,
    ))

pub returns : goal.returns
returns c =
    let line : LineView = c.args.self.now in
    let same = c.side.view_is ∙ ap (λ (l : LineView). l.side) c.self.view_is in
    let arranged = subst IsArranged same
    (record { order = c.side.invariant.0; groups = c.side.invariant.1; moves = c.slots-slots.ensures.valid }) in
    let group : group_at line.side.groups c.args.group ≡ c.group-group.result =
    ap (λ (l : LineView). group_at l.side.groups c.args.group) (sym c.self.view_is) ∙ sym c.group-group.ensures.group in
    let post = c.in_ok-group.field-0 in
    IsReachOf-found line arranged c.args.group c.requires.group c.requires.free post
    (ap (λ (x : Group). x.post) group ∙ c.in_ok-group.was) _ c.in_ok-walk.ensures.weights
    (omega (arith, c.from.ensures, ap (λ (l : LineView). l.share.ready) c.self.view_is))
    c.in_ok-walk.ensures.bound
