use Rattle.std.proofs.Common.{◌≡◌, length, sym, ap, subst, ◌∙◌, arith}
use Rattle.std.specs.Prelude.{All}
use Rattle.assignment_model.specs.Prices.{IsDay}
use Rattle.deadhead_matrix.specs.Pulls.{IsPull}
use Rattle.deadhead_matrix.proofs.Days.{AreDepartures-ruled, IsDay-ruled}
use Rattle.trip_model.specs.Plain.{AreMoves}
use Rattle.pair_graph.specs.Pairs.{PairsView, pairs_network}
use Rattle.pair_graph.proofs.PairsLemmas.{length-pairs, AreMoves-pairs}
use Rattle.pair_graph.proofs.pairs.Pairs.slots.Goals as goal

-- as many moves as slots
count : (c : goal.After-slots) → c.slots.result ≡ length c.args.self.now.moves
count c =
    c.slots.ensures.count
    ∙ sym (length-pairs c.self.inside.timetable.now c.self.inside.matrix.now c.self.inside.without)
    ∙ ap (λ (p : PairsView). length p.moves) c.self.view_is

pub returns-clause-valid : goal.returns-clause-valid
returns-clause-valid c =
    subst (λ (p : PairsView). AreMoves (length p.matrix.walks) p.moves) c.self.view_is
    (AreMoves-pairs c.self.inside.timetable.now c.self.inside.matrix.now c.self.inside.without c.slots.ensures.valid c.self.invariant.0
    c.self.invariant.1)

pub returns-clause-day : goal.returns-clause-day
returns-clause-day c =
    let pairs = c.args.self.now in
    subst (λ n. IsDay (pairs_network pairs) n) (sym (count c))
    (IsDay-ruled (length pairs.matrix.walks) pairs.names pairs.moves pairs.matrix (returns-clause-valid c)
    (subst (λ (p : PairsView). All IsPull p.matrix.pulls) c.self.view_is c.places-places.ensures.valid)
    (omega (arith, count c, c.slots.ensures.count, c.slots.ensures.valid.slots)))

pub returns-clause-departures : goal.returns-clause-departures
returns-clause-departures c =
    let pairs = c.args.self.now in
    AreDepartures-ruled (length pairs.matrix.walks) pairs.names pairs.moves pairs.matrix (returns-clause-valid c)
