use Rattle.std.proofs.Common.{◌≡◌, ℕ, ◌+◌, ◌-◌, ◌≤◌, Option, Some, sym, ap, subst, ◌∙◌}
use Rattle.std.specs.Option.{option_map}
use Rattle.deadhead_matrix.specs.Fitting.{empty_between, home_after, out_before}
use Rattle.deadhead_matrix.specs.Matrix.{walk}
use Rattle.deadhead_matrix.specs.Pulls.{pull_at}
use Rattle.assignment_model.specs.Prices.{weight}
use Rattle.pair_graph.specs.Pairs.{PairsView, RowView, walks_network}
use Rattle.pair_graph.specs.Shares.{saved_along}
use Rattle.trip_model.specs.Plain.{move_at}
use Rattle.trip_model.specs.declared.trip.Move.{Move}
use Rattle.pair_graph.proofs.ShareLemmas.{saved-entering}
use Rattle.pair_graph.proofs.column.Column.walk.Goals as goal

-- what is said of a column as it is seen
abbrev Weighs : ℕ → Option ℕ → RowView → Type 0
Weighs place result column = (i : ℕ) (m : Move) → move_at column.pairs.moves i ≡ Some m → m.to ≡ place → m.arrives ≤ 8191
    → weight (walks_network column.pairs) i column.slot
    ≡ saved_along column.share (pull_at column.pairs.matrix.pulls place).pull_in result (8191 - m.arrives)

pub returns-clause-weights : goal.returns-clause-weights
returns-clause-weights c =
    let pairs : PairsView = c.self.inside.pairs.now in
    let column = c.self.inside in
    let held = c.self.invariant in
    let saves : Option Move → Option Move → Option ℕ = λ a b.
    option_map (λ minutes. 67108864 + home_after pairs.matrix.pulls a + out_before pairs.matrix.pulls b - minutes)
    (empty_between (walk pairs.matrix) a b) in
    let led : walk pairs.matrix c.args.place column.after.from ≡ c.minutes.result =
    ap (λ (p : PairsView). walk p.matrix c.args.place column.after.from) (sym c.pairs.view_is) ∙ sym c.minutes.ensures.walk in
    subst (Weighs c.args.place c.minutes.result) c.self.view_is
    (λ i m made here ends.
    ap (λ o. saves o (move_at pairs.moves column.slot)) made ∙ ap (saves (Some m)) held.made
    ∙ saved-entering m column.after column.share (pull_at pairs.matrix.pulls m.to).pull_in
    (pull_at pairs.matrix.pulls column.after.from).pull_out
    (walk pairs.matrix m.to column.after.from) ends held.leaves held.ready held.weighed
    ∙ ap (λ p. saved_along column.share (pull_at pairs.matrix.pulls p).pull_in (walk pairs.matrix p column.after.from)
    (8191 - m.arrives)) here
    ∙ ap (λ o. saved_along column.share (pull_at pairs.matrix.pulls c.args.place).pull_in o (8191 - m.arrives)) led)
