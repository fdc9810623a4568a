use Rattle.std.proofs.Common.{sym, subst, List, length}
use Rattle.std.specs.List.{All}
use Rattle.plan_history.specs.Items.{undone_by, HasRoomFor, stood_before}
use Rattle.plan_history.specs.declared.stand.Changed.{Changed}
use Rattle.plan_history.proofs.ItemLemmas.{RoomFor-before}
use Rattle.plan_history.proofs.item.lead_back.Goals as goal

pub write_before-requires : goal.write_before-requires
write_before-requires c =
    let P : List Changed → Type 0 = λ xs. All (λ (x : Changed). HasRoomFor (length c.args.solver.now.next) x.slot (stood_before x)) xs in
    subst P (sym c.as_slice.ensures.value)
    (RoomFor-before (undone_by c.args.solver.now c.args.item.now) c.args.solver.now c.args.item.now c.requires)
