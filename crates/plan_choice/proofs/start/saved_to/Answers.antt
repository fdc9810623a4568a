use Rattle.std.proofs.Common.{ℕ, None, Some, sym, ap, ◌∙◌, arith}
use Rattle.deadhead_matrix.specs.Pulls.{pull_at}
use Rattle.deadhead_matrix.proofs.Ruled.{allowed-weight, forbidden-weight, unfit-weight}
use Rattle.pair_graph.specs.Pairs.{RowView, walks_network}
use Rattle.pair_graph.specs.declared.share.Share.{Share}
use Rattle.plan_choice.proofs.StartLemmas.{begun, saved-late, saved-timely}
use Rattle.plan_choice.proofs.start.saved_to.Goals as goal

pub returns-then-from-walk-clause-saved : goal.returns-then-from-walk-clause-saved
returns-then-from-walk-clause-saved g c =
    let row : RowView = c.args.row.now in
    let moved = c.requires.moves.each row.slot c.args.before c.requires.before in
    let to = begun row.pairs c.args.j c.args.start c.requires.start (omega (arith, moved.forward, c.if-start-before.false)) in
    let ready = ap (λ (s : Share). s.ready) c.share-share.ensures.share in
    sym (unfit-weight row.pairs.matrix.rules row.pairs.names (walks_network row.pairs) row.slot c.args.j
    (c.in_ok-walk.ensures.weights c.args.j to.move to.made to.from
    ∙ saved-late row.share (pull_at row.pairs.matrix.pulls c.args.start.place).pull_out c.in_ok-walk.walk to.move.leaves
    (omega (arith, c.if-from-walk.true, c.from.ensures, c.from-2.ensures, to.leaves, ready))))

pub returns-then-not-allows-clause-saved : goal.returns-then-not-allows-clause-saved
returns-then-not-allows-clause-saved g c =
    let row : RowView = c.args.row.now in
    sym (forbidden-weight row.pairs.matrix.rules row.pairs.names (walks_network row.pairs) row.slot c.args.j
    (sym c.allows.ensures ∙ c.if-not-allows.true))

pub returns-clause-saved : goal.returns-clause-saved
returns-clause-saved g c =
    let row : RowView = c.args.row.now in
    let moved = c.requires.moves.each row.slot c.args.before c.requires.before in
    let to = begun row.pairs c.args.j c.args.start c.requires.start (omega (arith, moved.forward, c.if-start-before.false)) in
    let ready = ap (λ (s : Share). s.ready) c.share-share.ensures.share in
    let saved = ap (λ (s : Share). s.saved) c.share-share.ensures.share in
    sym (allowed-weight row.pairs.matrix.rules row.pairs.names (walks_network row.pairs) row.slot c.args.j
    (sym c.allows.ensures ∙ c.if-not-allows.false)
    ∙ c.in_ok-walk.ensures.weights c.args.j to.move to.made to.from
    ∙ saved-timely row.share (pull_at row.pairs.matrix.pulls c.args.start.place).pull_out c.in_ok-walk.walk to.move.leaves
    (omega (arith, c.if-from-walk.false, c.from.ensures, c.from-2.ensures, to.leaves, ready))
    ∙ ap (λ (n : ℕ). Some n) (omega (arith, saved, c.from-3.ensures, c.from-4.ensures, to.out)))
