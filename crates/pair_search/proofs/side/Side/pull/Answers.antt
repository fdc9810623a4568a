use Rattle.std.proofs.Common.{◌<◌, length, ap, sym, subst, ◌∙◌}
use Rattle.pair_search.specs.declared.groups.Group.{Group}
use Rattle.pair_search.specs.Side.{SideView, LineView}
use Rattle.pair_search.proofs.FitLemmas.{IsArranged, post-there}
use Rattle.pair_search.proofs.side.Side.pull.Goals as goal

pub pull-requires : goal.pull-requires
pull-requires c =
    let line : LineView = record { side = c.args.self.now; row = 0; share = record { ready = 0; saved = 0 } } in
    let arranged = subst IsArranged c.self.view_is
    (record { order = c.self.invariant.0; groups = c.self.invariant.1; moves = c.slots-slots.ensures.valid }) in
    let within = post-there line arranged c.args.group c.requires c.in-Some.post
    (ap (λ (x : Group). x.post) (sym c.group.ensures.group) ∙ c.in-Some.is) in
    subst (λ (s : SideView). c.in-Some.post < length s.pairs.matrix.walks) (sym c.self.view_is) within
