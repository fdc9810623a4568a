use Rattle.std.proofs.Common.{subst}
use Rattle.edit_script.specs.Kept.{IsKept}
use Rattle.edit_script.proofs.KeptLemmas.{IsKept-taken_back, WasMade-newest, if_undone-taken_back}
use Rattle.edit_script.proofs.script.Script.undo.Goals as goal

pub unmake-touched-requires : goal.unmake-touched-requires
unmake-touched-requires c =
    let log = c.take_back.new.self in
    record {
      was = WasMade-newest c.self.inside.timetable log.kept log.undone c.self.inside.standing.items c.self.inside.last
          c.in-Some.change (subst (λ log. IsKept c.self.inside.timetable log c.self.inside.standing.items c.self.inside.last)
          c.in-Some.ensures.last c.self.invariant);
    }

pub invariant_of-self-2 : goal.invariant_of-self-2
invariant_of-self-2 c =
    IsKept-taken_back c.self.inside.timetable _ c.self.inside.log c.take_back.new.self _ c.self.inside.standing.items _ c.self.inside.last
    c.in-Some.change
    c.self.invariant c.in-Some.ensures.last c.unmake-touched.ensures.made c.put_undone.ensures c.unmake-touched.ensures.standing

pub returns-clause-accepted : goal.returns-clause-accepted
returns-clause-accepted c =
    if_undone-taken_back c.args.self.now c.self.inside.timetable _ c.self.inside.log c.take_back.new.self _ c.self.inside.standing.items _
    c.self.inside.last c.self.inside.shows c.in-Some.change
    c.self.view_is c.self.invariant c.in-Some.ensures.last c.unmake-touched.ensures.made c.put_undone.ensures
    c.unmake-touched.ensures.standing
