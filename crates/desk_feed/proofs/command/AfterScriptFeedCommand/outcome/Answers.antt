use Rattle.std.proofs.Common.{◌+◌, ◌≤◌, length, sym, ap, subst, ◌∙◌}
use Rattle.std.specs.Prelude.{IfOk}
use Rattle.trip_model.specs.Timetable.{TimetableView}
use Rattle.desk_feed.specs.Showing.{PutsBehind, stands_with}
use Rattle.desk_feed.proofs.GivenLemmas.{text-given}
use Rattle.desk_feed.proofs.command.AfterScriptFeedCommand.outcome.Goals as goal

pub put_edited-requires : goal.put_edited-requires
put_edited-requires g c =
    c.requires.pulls ∙ ap length (sym c.in_ok-edited.ensures.places)
    ∙ ap (λ (t : TimetableView). length t.places) (sym c.timetable-timetable.ensures)

pub returns-clause-given : goal.returns-clause-given
returns-clause-given g c =
    let asks = g.C.TextCommand.asks c.args.self.now.0 in
    let said = c.args.said in
    let edited = c.in_ok-edited.edited in
    text-given asks said edited c.in_ok-edited.ensures.edited c.put_edited.result
    (subst (λ (t : TimetableView). IfOk c.put_edited.result
    (PutsBehind asks edited.refused edited.ending (stands_with t said.deadheads.now said.pulls said.rules)))
    c.timetable-timetable.ensures c.put_edited.ensures.put)

pub returns-clause-counted : goal.returns-clause-counted
returns-clause-counted g c =
    subst (λ (t : TimetableView). c.put_edited.new.steps ≤ c.args.steps.now + (g.C.TextCommand.asks c.args.self.now.0).most t)
    (c.timetable-timetable.ensures ∙ c.in_ok-edited.ensures.edited.timetable)
    c.put_edited.ensures.counted
