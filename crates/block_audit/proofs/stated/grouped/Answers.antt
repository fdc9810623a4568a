use Rattle.std.proofs.Common.{take, sym, subst, arith}
use Rattle.block_audit.specs.Stated.{AreStated}
use Rattle.std.proofs.lemmas.List.{length-take}
use Rattle.block_audit.proofs.StatedLemmas.{all-filled, few-blocks}
use Rattle.block_audit.proofs.stated.grouped.Goals as goal

pub invariant_of-result : goal.invariant_of-result
invariant_of-result c =
    let front = take c.loop-slot.slot-index c.args.order.now in
    subst AreStated (sym c.loop-slot.invariant) (record {
      few = omega (
        arith,
        few-blocks c.args.names.now c.args.order.now front,
        length-take c.loop-slot.slot-index c.args.order.now,
        c.requires,
      );
      filled = all-filled c.args.names.now c.args.order.now front;
    })
