use Rattle.std.proofs.Common.{◌-◌, ◌<◌, get_or, length, None, ap, arith}
use Rattle.std.proofs.lemmas.List.{get_or_default}
use Rattle.pair_search.specs.declared.groups.Group.{Group}
use Rattle.pair_search.specs.declared.order.Column.{Column}
use Rattle.pair_search.specs.Groups.{group_at}
use Rattle.pair_search.specs.Side.{SideView}
use Rattle.pair_search.proofs.side.Side.missed.Goals as goal

pub returns : goal.returns
returns c = λ k d after before.
    let groups = ap (λ (s : SideView). group_at s.groups c.args.group) c.self.view_is in
    let columns = ap (λ (s : SideView). get_or s.columns k d) c.self.view_is in
    let some : c.args.group < c.self.inside.count = omega (arith, c.requires.group, ap (λ (s : SideView). s.count) c.self.view_is) in
    let begin = ap (λ (x : Group). x.from) groups in
    let end = ap (λ (x : Group). x.to) groups in
    let last : c.args.place - 1 < length c.self.inside.columns.now =
    omega (
      arith,
      before,
      c.requires.place,
      end,
      c.self.invariant.1.within c.args.group some,
      c.self.invariant.0.count,
    ) in
    let none : Column = record { post = None; minute = 0; slot = 0 } in
    omega (
      arith,
      c.from.ensures,
      ap (λ (x : Column). x.minute) (get_or_default c.self.inside.columns.now (c.args.place - 1) none d last),
      ap (λ (x : Column). x.minute) columns,
      c.self.invariant.1.rise c.args.group k (c.args.place - 1) d some (omega (arith, after, begin)) (omega (arith, before))
          (omega (arith, before, c.requires.place, end)),
    )
