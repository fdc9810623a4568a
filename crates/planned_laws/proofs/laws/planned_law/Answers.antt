use Rattle.planned_laws.proofs.PlannedLemmas.{planned-is}
use Rattle.planned_laws.specs.Laws.{AreEachPlanned}
use Rattle.planned_laws.proofs.laws.planned_law.Goals as goal

pub returns-clause-each : goal.returns-clause-each
returns-clause-each c = λ base lines m likings is script.
    planned-is c.machine_law.ensures.start c.machine_law.ensures.accepted c.machine_law.ensures.refused c.machine_law.ensures.no_edit base
    lines
    m likings script.forms is c.same_edits_law.ensures c.plan_law.ensures c.plain_law.ensures.moves c.plain_law.ensures.made
    c.plain_blocks_law.ensures.reached

pub returns-clause-feed : goal.returns-clause-feed
returns-clause-feed c = λ found said is matrix of.
    let each : AreEachPlanned = returns-clause-each c in
    each said.base said.lines matrix _ (c.accepted_law.ensures.may found said is matrix of)
    (c.accepted_law.ensures.said found said is).script
