use Rattle.std.proofs.Common.{◌<◌, List, length, get_or, Option, None, ℕ, sym, ap, ◌∙◌, arith}
use Rattle.std.proofs.lemmas.List.FromFn.{get_or-map-range_with_len, length-map-range_with_len}
use Rattle.deadhead_matrix.specs.Rows.{found_at}
use Rattle.deadhead_matrix.proofs.walks.Walks.to.Goals as goal

-- the place is one of those to which there are walks
within : (c : goal.After-from) → c.args.place < c.self.inside.places
within c =
    let len = sym (ap length c.self.view_is) ∙ length-map-range_with_len (found_at c.self.inside.row.now) 0 c.self.inside.places in
    omega (arith, c.requires, len)

pub to-requires : goal.to-requires
to-requires c = omega (arith, within c, c.from.ensures, c.self.invariant.1)

pub returns-clause-walk : goal.returns-clause-walk
returns-clause-walk c =
    let far = found_at c.self.inside.row.now in
    c.to.ensures
    ∙ ap far c.from.ensures
    ∙ sym (get_or-map-range_with_len far 0 c.self.inside.places c.args.place c.args.place None (within c.before) (omega arith))
    ∙ ap (λ (walks : List (Option ℕ)). get_or walks c.args.place None) c.self.view_is
