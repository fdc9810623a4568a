use Rattle.std.proofs.Common.{◌≡◌, ℕ, sym, ap, subst, List, length, ◌∙◌}
use Rattle.std.specs.List.{All}
use Rattle.assignment_model.specs.Prices.{Plan}
use Rattle.plan_history.specs.Items.{redone_by, HasRoomFor, stood_after}
use Rattle.plan_history.specs.declared.stand.Changed.{Changed}
use Rattle.plan_history.proofs.ItemLemmas.{RoomFor-after}
use Rattle.plan_history.proofs.WriteLemmas.{IsOf-with_slots}
use Rattle.plan_history.proofs.item.lead_forth.Goals as goal

pub write_after-requires : goal.write_after-requires
write_after-requires c =
    let P : List Changed → Type 0 = λ xs. All (λ (x : Changed). HasRoomFor (length c.set_slots.new.self.next) x.slot (stood_after x)) xs in
    let Q : ℕ → Type 0 = λ n. All (λ (x : Changed). HasRoomFor n x.slot (stood_after x)) c.args.item.now.changes.items in
    let slots : length c.set_slots.new.self.next ≡ length (redone_by c.args.solver.now c.args.item.now).next =
    ap (λ (p : Plan). length p.next) c.set_slots.ensures
    ∙ ((IsOf-with_slots c.args.solver.now c.args.item.now.after).nexts ∙ c.requires.after) in
    subst P (sym c.as_slice.ensures.value)
    (subst Q (sym slots) (RoomFor-after c.args.solver.now (redone_by c.args.solver.now c.args.item.now) c.args.item.now c.requires))
