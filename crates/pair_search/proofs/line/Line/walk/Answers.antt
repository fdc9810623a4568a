use Rattle.std.proofs.Common.{◌≡◌, ℕ, ◌-◌, ◌<◌, ◌≤◌, get_or, true, false, Option, Some, None, subst, ◌∙◌}
use Rattle.std.specs.Prelude.{IfNone, IfSome}
use Rattle.assignment_model.specs.Prices.{weight}
use Rattle.deadhead_matrix.specs.Pulls.{pull_at}
use Rattle.pair_graph.specs.Pairs.{RowView, pairs_network, pairs_pull, walks_network}
use Rattle.pair_graph.proofs.RuleLemmas.{free-column, free-row}
use Rattle.pair_graph.specs.Shares.{saved_along}
use Rattle.trip_model.specs.Plain.{move_at}
use Rattle.trip_model.specs.declared.trip.Move.{Move}
use Rattle.pair_search.specs.Order.{no_column}
use Rattle.pair_search.specs.Side.{LineView, side_slots, line_weight, IsFree}
use Rattle.pair_search.proofs.FitLemmas.{IsArranged, saved-leaving, saved-entering, saved-idle}
use Rattle.pair_search.proofs.line.Line.walk.Goals as goal

-- what the row weighs with the columns at a post
abbrev Weighs : ℕ → Option ℕ → LineView → Type 0
Weighs post result line = (k : ℕ) → IsFree line → k < side_slots line.side
    → (get_or line.side.columns k (no_column (side_slots line.side))).post ≡ Some post
    → line_weight line k ≡ saved_along line.share (pairs_pull line.side.pairs line.side.turned post) result
    (get_or line.side.columns k (no_column (side_slots line.side))).minute

pub returns-in-Some-clause-weights : goal.returns-in-Some-clause-weights
returns-in-Some-clause-weights c =
    let line : LineView = record { side = c.self.inside.side.now; row = c.self.inside.row; share = c.self.inside.share } in
    let arranged = subst IsArranged c.side.view_is
    (record { order = c.side.invariant.0; groups = c.side.invariant.1; moves = c.slots-slots.ensures.valid }) in
    let held = subst (λ (o : Option RowView). IfSome o
    (λ held. (held ≡ record { pairs = line.side.pairs; slot = line.row; share = line.share }) × (line.side.turned ≡ false))) c.in-Some.is
    c.self.invariant.1.leaves in
    subst (Weighs c.args.post c.walk.result) c.self.view_is
    (saved-leaving line arranged c.args.post c.walk.result held.1
    (λ j m free loose made here. free-row line.side.pairs line.row j free loose
    ∙ subst (λ (row : RowView). (j : ℕ) (m : Move) → move_at row.pairs.moves j ≡ Some m → m.from ≡ c.args.post
    → weight (walks_network row.pairs) row.slot j
    ≡ saved_along row.share (pull_at row.pairs.matrix.pulls c.args.post).pull_out c.walk.result m.leaves) held.0 c.walk.ensures.weights
    j m made here))

pub returns-in_default-entering-clause-weights : goal.returns-in_default-entering-clause-weights
returns-in_default-entering-clause-weights c =
    let line : LineView = record { side = c.self.inside.side.now; row = c.self.inside.row; share = c.self.inside.share } in
    let arranged = subst IsArranged c.side.view_is
    (record { order = c.side.invariant.0; groups = c.side.invariant.1; moves = c.slots-slots.ensures.valid }) in
    let idle = subst (λ (o : Option RowView). IfNone o ((pairs_network line.side.pairs).live line.row ≡ false)) c.in_default-entering.is
    (subst (λ (o : Option RowView). IfNone o (IfNone c.self.inside.entering ((pairs_network line.side.pairs).live line.row ≡ false)))
    c.in_default.is c.self.invariant.1.idle) in
    subst (Weighs c.args.post None) c.self.view_is (saved-idle line arranged c.args.post idle)

pub returns-clause-weights : goal.returns-clause-weights
returns-clause-weights c =
    let line : LineView = record { side = c.self.inside.side.now; row = c.self.inside.row; share = c.self.inside.share } in
    let arranged = subst IsArranged c.side.view_is
    (record { order = c.side.invariant.0; groups = c.side.invariant.1; moves = c.slots-slots.ensures.valid }) in
    let held = subst (λ (o : Option RowView). IfSome o
    (λ held. (held ≡ record { pairs = line.side.pairs; slot = line.row; share = line.share }) × (line.side.turned ≡ true)))
    c.in-Some-entering.is
    c.self.invariant.1.enters in
    subst (Weighs c.args.post c.walk-2.result) c.self.view_is
    (saved-entering line arranged c.args.post c.walk-2.result held.1
    (λ i m free loose made here ends. free-column line.side.pairs i line.row free loose
    ∙ subst (λ (row : RowView). (i : ℕ) (m : Move) → move_at row.pairs.moves i ≡ Some m → m.to ≡ c.args.post → m.arrives ≤ 8191
    → weight (walks_network row.pairs) i row.slot
    ≡ saved_along row.share (pull_at row.pairs.matrix.pulls c.args.post).pull_in c.walk-2.result (8191 - m.arrives)) held.0
    c.walk-2.ensures.weights i m made here ends))
