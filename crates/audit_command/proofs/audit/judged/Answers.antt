use Rattle.std.proofs.Common.{◌≡◌, length, sym, ◌∙◌, arith}
use Rattle.std.proofs.lemmas.Bool.Decides.{nat_tests}
use Rattle.std.proofs.lemmas.List.{length-map, nil_from_length}
use Rattle.block_audit.specs.Misfits.{misfits_in}
use Rattle.block_audit.specs.Stated.{NamedBlock}
use Rattle.audit_command.specs.Lines.{costs_text}
use Rattle.audit_command.proofs.JudgedLemmas.{costed-given, few-least, judged-none}
use Rattle.audit_command.proofs.audit.judged.Goals as goal

pub overflow_cast-count : goal.overflow_cast-count
overflow_cast-count g c =
    let empty : length c.in_ok-misfits.misfits.items ≡ 0 = grind (arith, nat_tests) in
    let none = sym c.in_ok-misfits.ensures.misfits ∙ nil_from_length c.in_ok-misfits.misfits.items empty in
    let few =
    few-least c.args.refused.now c.args.ending c.args.timetable.now c.args.matrix.now c.args.stated.now c.in_ok-schedule.schedule.solver
    c.in_ok-schedule.schedule.blocks c.in_ok-schedule.ensures.scheduled (c.requires.blocking none) c.len-stated.ensures.valid in
    grind (arith, few)

pub stated_cost-cost-requires-clause-blocking : goal.stated_cost-cost-requires-clause-blocking
stated_cost-cost-requires-clause-blocking g c =
    let empty : length c.in_ok-misfits.misfits.items ≡ 0 = grind (arith, nat_tests) in
    c.requires.blocking (sym c.in_ok-misfits.ensures.misfits ∙ nil_from_length c.in_ok-misfits.misfits.items empty)

pub returns-clause-judged : goal.returns-clause-judged
returns-clause-judged g c =
    let stated = c.args.stated.now in
    let empty : length c.in_ok-misfits.misfits.items ≡ 0 = grind (arith, nat_tests) in
    let none = sym c.in_ok-misfits.ensures.misfits ∙ nil_from_length c.in_ok-misfits.misfits.items empty in
    let vehicles = c.stated_cost-cost.ensures.vehicles ∙ sym (length-map stated (λ (b : NamedBlock). b.slots)) in
    let text =
    c.in_ok-text-2.ensures
    ∙ (λ i. costs_text (vehicles i) (c.stated_cost-cost.ensures.minutes i) (c.len-count.ensures.count i)
    (c.empty_minutes-minutes.ensures i)) in
    judged-none c.args.refused.now c.args.ending c.args.timetable.now c.args.matrix.now stated
    (misfits_in c.args.timetable.now c.args.matrix.now stated) none c.putting_after-2.result
    (costed-given c.args.refused.now c.args.ending c.args.timetable.now c.args.matrix.now stated c.in_ok-schedule.schedule.solver
    c.in_ok-schedule.schedule.blocks c.in_ok-schedule.ensures.scheduled (c.requires.blocking none) c.in_ok-text-2.text text
    c.putting_after-2.result c.putting_after-2.ensures)
