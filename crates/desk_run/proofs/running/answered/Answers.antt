use Rattle.std.proofs.Common.{inl, inr, Err, refl, subst, arith}
use Rattle.desk_run.specs.Order.{IsInOrder, status_by}
use Rattle.desk_run.specs.Outside.{outside}
use Rattle.desk_run.specs.Runs.{Attempts, Follows}
use Rattle.desk_run.proofs.running.answered.Goals as goal

pub returns-in-Err-Write : goal.returns-in-Err-Write
returns-in-Err-Write g c =
    let at = outside g.S.Shelf.state g.S.Shelf.history g.O.Sink.state g.O.Sink.history g.K.Keeper.state g.K.Keeper.history in
    let asked = g.C.Command.asked c.args.command.now in
    let before = at c.args.shelf.now c.args.out.now c.args.keeper.now in
    let after = at c.attempt.new.shelf c.attempt.new.out c.attempt.new.keeper in
    let follows =
    subst
    (λ fault. Follows asked before.world
    (λ found. Attempts asked found (Err fault) before.world after.world × IsInOrder asked found before after (status_by (Err fault)))
    c.args.steps.now c.attempt.new.steps)
    c.in-Err-Write.field-0-is c.in-Err-Write.ensures in
    record {
      found = follows.found;
      told = follows.told;
      does = (
        record {
          ended = λ low. absurd (omega (arith, low));
          read_fault = λ is. absurd (omega (arith, is));
          write_fault = λ is. follows.does.0;
          keeper_fault = λ is. absurd (omega (arith, is));
          no_memory = λ is. absurd (omega (arith, is));
          no_other = inr (inr (inl refl));
        },
        follows.does.1,
      );
      counted = follows.counted;
    }
