use Rattle.std.proofs.Common.{◌+◌, ◌*◌, length, sym, ap, subst, ◌∙◌, arith}
use Rattle.assignment_model.specs.Choice.{IsChosen}
use Rattle.deadhead_matrix.specs.Fitting.{network_of}
use Rattle.deadhead_matrix.specs.Plans.{IsPlanFor}
use Rattle.pair_graph.specs.Pairs.{PairsView, pairs_network}
use Rattle.plan_choice.specs.Chosen.{chosen_plan, pair_liking}
use Rattle.price_assign.specs.Found.{solved}
use Rattle.trip_model.specs.Blocking.{StandsOnce}
use Rattle.trip_model.specs.Links.{blocks_along}
use Rattle.trip_model.specs.Order.{by_departure}
use Rattle.trip_model.specs.Plain.{trip_moves}
use Rattle.trip_model.specs.Timetable.{TimetableView}
use Rattle.trip_model.proofs.OrderLemmas.{StandsOnce-by_departure}
use Rattle.desk_core.specs.Computed.{first_plan, likes}
use Rattle.desk_core.specs.Counts.{blocks_in}
use Rattle.desk_core.proofs.DeskLemmas.{moves-slots, IsPlanFor-pairs, plans-none}
use Rattle.desk_core.proofs.desk.Desk.open.Goals as goal

pub returns-in_err-kept-clause-counted : goal.returns-in_err-kept-clause-counted
returns-in_err-kept-clause-counted g c =
    omega (arith, c.begin.ensures.counted, ap (λ (t : TimetableView). length t.slots) c.timetable.ensures)

pub returns-in_err-history-clause-counted : goal.returns-in_err-history-clause-counted
returns-in_err-history-clause-counted g c =
    omega (arith, c.begin.ensures.counted, ap (λ (t : TimetableView). length t.slots) c.timetable.ensures)

pub returns-in_err-choose-clause-counted : goal.returns-in_err-choose-clause-counted
returns-in_err-choose-clause-counted g c =
    let slots = ap (λ (t : TimetableView). length t.slots) c.timetable.ensures in
    let same = moves-slots c.timetable-2.result.now c.args.matrix c.of-pairs.result c.of-pairs.ensures
    ∙ ap (λ (t : TimetableView). length t.slots) c.timetable-2.ensures in
    omega (arith, c.begin.ensures.counted, slots, c.solve.ensures.counted, c.choose.ensures.counted, ap (λ k. k * k * k + k * k) same)

pub invariant_of-result : goal.invariant_of-result
invariant_of-result g c =
    let m = c.args.matrix in
    let now = c.choose.new.self in (
      record {
        places = c.requires.places;
        plan =
            subst (λ (t : TimetableView). IsPlanFor t m now.plan) c.timetable-2.ensures
            (IsPlanFor-pairs c.timetable-2.result.now m c.of-pairs.result now.plan c.of-pairs.ensures c.choose.ensures.slots
            c.choose.ensures.certified);
        earlier = plans-none m c.args.script.earlier now.earlier c.requires.earlier c.choose.ensures.earlier;
        later = plans-none m c.args.script.later now.later c.requires.later c.choose.ensures.later;
      },
      subst (λ (t : TimetableView). g.D.InStep.IsWith c.in_ok-kept.kept t) c.timetable.ensures c.in_ok-kept.ensures.with,
    )

pub returns-clause-plan : goal.returns-clause-plan
returns-clause-plan g c =
    let likings = c.args.likings.now in
    c.in_ok-choose.ensures.plan
    ∙ ap (chosen_plan c.of-pairs.result likings) c.solve.ensures.plan
    ∙ ap (λ (p : PairsView). chosen_plan p likings (solved p)) c.of-pairs.ensures
    ∙ ap (λ (t : TimetableView). first_plan t c.args.matrix likings) c.timetable-2.ensures

pub returns-clause-certified : goal.returns-clause-certified
returns-clause-certified g c =
    subst (λ (t : TimetableView). IsPlanFor t c.args.matrix c.choose.new.self.plan) c.timetable-2.ensures
    (IsPlanFor-pairs c.timetable-2.result.now c.args.matrix c.of-pairs.result c.choose.new.self.plan c.of-pairs.ensures
    c.choose.ensures.slots c.choose.ensures.certified)

pub returns-clause-chosen : goal.returns-clause-chosen
returns-clause-chosen g c =
    let m = c.args.matrix in
    let likings = c.args.likings.now in
    let plan = c.choose.new.self.plan in
    let order = by_departure (trip_moves c.timetable-2.result.now.slots) in
    let stands = StandsOnce-by_departure (trip_moves c.timetable-2.result.now.slots) in
    subst (λ (t : TimetableView). IsChosen (network_of t m) (likes t m likings) (blocks_in t plan)) c.timetable-2.ensures
    (subst (λ (p : PairsView). IsChosen (pairs_network p) (pair_liking p likings) (blocks_along plan.next order)) c.of-pairs.ensures
    (c.in_ok-choose.ensures.chosen order
    (subst (λ (p : PairsView). StandsOnce (pairs_network p).live order) (sym c.of-pairs.ensures) stands)))

pub returns-clause-counted : goal.returns-clause-counted
returns-clause-counted g c =
    let slots = ap (λ (t : TimetableView). length t.slots) c.timetable.ensures in
    let same = moves-slots c.timetable-2.result.now c.args.matrix c.of-pairs.result c.of-pairs.ensures
    ∙ ap (λ (t : TimetableView). length t.slots) c.timetable-2.ensures in
    omega (arith, c.begin.ensures.counted, slots, c.solve.ensures.counted, c.choose.ensures.counted, ap (λ k. k * k * k + k * k) same)
