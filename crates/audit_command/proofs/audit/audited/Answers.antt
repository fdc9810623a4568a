use Rattle.std.proofs.Common.{◌≡◌, List, [], sym, subst}
use Rattle.std.specs.Prelude.{IfOk}
use Rattle.trip_model.specs.Blocking.{IsBlocking}
use Rattle.trip_model.specs.Timetable.{TimetableView}
use Rattle.deadhead_matrix.specs.Fitting.{network_of}
use Rattle.block_audit.specs.Misfits.{misfits_in}
use Rattle.block_audit.specs.Stated.{NamedBlock, slots_by, stated_in}
use Rattle.audit_command.specs.Audit.{JudgesStated}
use Rattle.audit_command.proofs.audit.audited.Goals as goal

pub judged-requires-clause-blocking : goal.judged-requires-clause-blocking
judged-requires-clause-blocking g c = λ none.
    let t = c.timetable-timetable.result.now in
    let m = c.args.matrix.now in
    let same = c.in_ok-stated.ensures.stated in
    subst (λ (s : List NamedBlock). IsBlocking (network_of t m) (slots_by s)) (sym same)
    (c.blocking_law.ensures.blocking c.args.trips.now t c.args.chosen.now m
    (subst (λ (s : List NamedBlock). misfits_in t m s ≡ []) same none))

pub returns-clause-judged : goal.returns-clause-judged
returns-clause-judged g c =
    let edited = c.args.edited.now in
    let m = c.args.matrix.now in
    let does : TimetableView → List NamedBlock
    → Type 0 = λ t s. IfOk c.judged.result (JudgesStated edited.refused edited.ending t m s (misfits_in t m s)) in
    let stated = subst (λ (s : List NamedBlock). does c.timetable-timetable.result.now s) c.in_ok-stated.ensures.stated
    c.judged.ensures.judged in
    subst (λ (t : TimetableView). does t (stated_in c.args.trips.now t c.args.chosen.now)) c.timetable-timetable.ensures stated
