use Rattle.std.proofs.Common.{rules, subst, sym}
use Rattle.std.specs.Prelude.{IsOk}
use Rattle.edit_script.specs.Kept.{IsKept}
use Rattle.edit_script.specs.Script.{if_redone}
use Rattle.edit_script.proofs.KeptLemmas.{IsKept-taken_forth, MayMake-newest, if_redone-taken_forth, later-there}
use Rattle.edit_script.proofs.script.Script.redo.Goals as goal

pub make-requires : goal.make-requires
make-requires c =
    let log = c.take_forth.new.self in
    record {
      can = MayMake-newest c.self.inside.timetable log.kept log.undone c.self.inside.standing.items c.self.inside.last
          c.in-Some.change (subst (λ log. IsKept c.self.inside.timetable log c.self.inside.standing.items c.self.inside.last)
          c.in-Some.ensures.last c.self.invariant);
    }

pub invariant_of-self-in-Ok : goal.invariant_of-self-in-Ok
invariant_of-self-in-Ok c =
    IsKept-taken_forth c.self.inside.timetable _ c.self.inside.log c.take_forth.new.self _ c.self.inside.standing.items _
    c.self.inside.last c.in-Some.change
    c.self.invariant c.in-Some.ensures.last c.in-Ok.ensures.made c.in-Ok.ensures.back c.in-Ok.ensures.was c.put_kept.ensures
    c.in-Ok.ensures.standing

pub returns-in-Ok-clause-accepted : goal.returns-in-Ok-clause-accepted
returns-in-Ok-clause-accepted c =
    if_redone-taken_forth c.args.self.now c.self.inside.timetable _ c.self.inside.log c.take_forth.new.self _ c.self.inside.standing.items
    _ c.self.inside.last c.self.inside.shows c.in-Some.change
    c.self.view_is c.in-Some.ensures.last c.in-Ok.ensures.made c.in-Ok.ensures.back c.put_kept.ensures c.in-Ok.ensures.standing

pub returns-in-Err-clause-refused : goal.returns-in-Err-clause-refused
returns-in-Err-clause-refused c =
    let there = later-there c.args.self.now c.self.inside.timetable c.self.inside.log c.take_forth.new.self c.self.inside.standing.items
    c.self.inside.last c.self.inside.shows c.in-Some.change c.self.view_is c.in-Some.ensures.last in
    (tt, subst (λ later. IsOk (if_redone c.args.self.now later)) (sym there) (search rules))
