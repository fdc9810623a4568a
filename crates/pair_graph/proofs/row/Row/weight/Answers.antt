use Rattle.std.proofs.Common.{sym, ◌∙◌}
use Rattle.deadhead_matrix.proofs.Ruled.{allowed-weight, forbidden-weight, unfit-weight}
use Rattle.pair_graph.specs.Pairs.{RowView, walks_network}
use Rattle.pair_graph.proofs.row.Row.weight.Goals as goal

pub returns-in_err-weight-clause-weight : goal.returns-in_err-weight-clause-weight
returns-in_err-weight-clause-weight g c =
    let row : RowView = c.args.self.now in
    let pairs = row.pairs in
    c.from_residual.ensures ∙ sym (unfit-weight pairs.matrix.rules pairs.names (walks_network pairs) row.slot c.args.j
    (sym c.walk_weight.ensures ∙ c.in_err-weight.was))

pub returns-then-not-allows-clause-weight : goal.returns-then-not-allows-clause-weight
returns-then-not-allows-clause-weight g c =
    let row : RowView = c.args.self.now in
    let pairs = row.pairs in
    sym (forbidden-weight pairs.matrix.rules pairs.names (walks_network pairs) row.slot c.args.j
    (sym c.allows.ensures ∙ c.if-not-allows.true))

pub returns-clause-weight : goal.returns-clause-weight
returns-clause-weight g c =
    let row : RowView = c.args.self.now in
    let pairs = row.pairs in
    sym c.in_ok-weight.was ∙ c.walk_weight.ensures
    ∙ sym (allowed-weight pairs.matrix.rules pairs.names (walks_network pairs) row.slot c.args.j
    (sym c.allows.ensures ∙ c.if-not-allows.false))
