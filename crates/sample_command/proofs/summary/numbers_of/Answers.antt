use Rattle.std.proofs.Common.{◌≡◌, Ok, length, sym, ap, subst, ◌∙◌}
use Rattle.assignment_model.specs.Prices.{Plan}
use Rattle.claim_files.specs.Written.{IsAccepted, written}
use Rattle.sample_command.proofs.AcceptedLemmas.{not-no, verdict-yes, same-vehicles, same-minutes}
use Rattle.sample_command.proofs.summary.numbers_of.Goals as goal

pub claim_of-requires-clause-prices : goal.claim_of-requires-clause-prices
claim_of-requires-clause-prices g c = ap (λ (plan : Plan). length plan.next) c.plan-plan.ensures
    ∙ c.in_ok-schedule.ensures.scheduled.certified.slots

pub claim_of-requires-clause-accepted : goal.claim_of-requires-clause-accepted
claim_of-requires-clause-accepted g c =
    let scheduled = c.in_ok-schedule.ensures.scheduled in
    subst (λ (plan : Plan). IsAccepted c.args.timetable.now c.args.matrix.now c.in_ok-names.names c.in_ok-schedule.schedule.blocks plan.leave
    plan.enter) (sym c.plan-plan.ensures)
    (c.accepted_law.ensures.accepted c.args.timetable.now c.args.matrix.now c.in_ok-names.names c.in_ok-schedule.schedule.solver
    c.in_ok-schedule.schedule.blocks (record {
      valid = c.slots-slots.ensures.valid;
      pulls = c.places-places.ensures.valid;
      certified = scheduled.certified;
      along = scheduled.along;
      named = c.in_ok-names.ensures.valid;
      names = c.requires.names;
    }))

pub unreachable-requires : goal.unreachable-requires
unreachable-requires g c =
    let timetable = c.args.timetable.now in
    let matrix = c.args.matrix.now in
    let blocks = c.in_ok-schedule.schedule.blocks in
    let plan = c.in_ok-schedule.schedule.solver in
    let accepted = c.accepted_law.ensures.accepted timetable matrix c.in_ok-names.names plan blocks (record {
      valid = c.slots-slots.ensures.valid;
      pulls = c.places-places.ensures.valid;
      certified = c.in_ok-schedule.ensures.scheduled.certified;
      along = c.in_ok-schedule.ensures.scheduled.along;
      named = c.in_ok-names.ensures.valid;
      names = c.requires.names;
    }) in
    let read = subst (λ (p : Plan). written timetable matrix c.in_ok-names.names blocks p.leave p.enter ≡ Ok c.in_ok-claimed.claimed)
    c.plan-plan.ensures c.in_ok-claimed.ensures.claim in
    not-no c.in-No.field-0 _ _ (sym c.in-No.is ∙ c.check.ensures.verdict
    ∙ verdict-yes timetable matrix c.in_ok-names.names blocks plan.leave plan.enter c.in_ok-claimed.claimed accepted read)

pub returns-clause-summary : goal.returns-clause-summary
returns-clause-summary g c =
    let timetable = c.args.timetable.now in
    let matrix = c.args.matrix.now in
    let blocks = c.in_ok-schedule.schedule.blocks in
    let plan = c.in_ok-schedule.schedule.solver in
    let accepted = c.accepted_law.ensures.accepted timetable matrix c.in_ok-names.names plan blocks (record {
      valid = c.slots-slots.ensures.valid;
      pulls = c.places-places.ensures.valid;
      certified = c.in_ok-schedule.ensures.scheduled.certified;
      along = c.in_ok-schedule.ensures.scheduled.along;
      named = c.in_ok-names.ensures.valid;
      names = c.requires.names;
    }) in
    let read = subst (λ (p : Plan). written timetable matrix c.in_ok-names.names blocks p.leave p.enter ≡ Ok c.in_ok-claimed.claimed)
    c.plan-plan.ensures c.in_ok-claimed.ensures.claim in
    let yes = sym c.in-Yes.is ∙ c.check.ensures.verdict
    ∙ verdict-yes timetable matrix c.in_ok-names.names blocks plan.leave plan.enter c.in_ok-claimed.claimed accepted read in
    record {
      plan = plan;
      blocks = blocks;
      scheduled = c.in_ok-schedule.ensures.scheduled;
      accepted = subst (λ names. IsAccepted timetable matrix names blocks plan.leave plan.enter) c.in_ok-names.ensures.names accepted;
      fixed_is = c.in_ok-fixed.ensures.sum;
      vehicles_is = same-vehicles _ _ _ _ yes;
      minutes_is = same-minutes _ _ _ _ yes;
    }
