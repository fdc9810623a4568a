use Rattle.std.proofs.Common.{ap, length, arith, ◌∙◌, ◌≡◌, take, ◌+◌}
use Rattle.assignment_model.specs.Prices.{Plan}
use Rattle.plan_history.specs.Items.{written, stood_after}
use Rattle.plan_history.proofs.WriteLemmas.{written_next, length-written}
use Rattle.plan_history.proofs.item.write_after.Goals as goal

pub loop-changed-preserved : goal.loop-changed-preserved
loop-changed-preserved c =
    let over : c.write.new.solver ≡ written stood_after c.args.solver.now (take (c.loop-changed.changed-index + 1) c.args.changes.now) =
    written_next stood_after c.args.solver.now c.loop-changed.solver c.write.new.solver c.args.changes.now c.loop-changed.changed-index _
    (omega arith) c.loop-changed.invariant.over c.write.ensures in
    record {
      over = over;
      slots = ap (λ (p : Plan). length p.next) over
          ∙ length-written stood_after c.args.solver.now (take (c.loop-changed.changed-index + 1) c.args.changes.now);
    }
