use Rattle.std.proofs.Common.{ℕ, List, length, sym, ap, subst, ◌∙◌, arith}
use Rattle.std.specs.Prelude.{All}
use Rattle.std.proofs.lemmas.List.{length-map}
use Rattle.trip_model.specs.Plain.{move_of_slot, trip_moves}
use Rattle.price_check.specs.Claim.{Runs}
use Rattle.block_audit.proofs.StatedLemmas.{few-slots}
use Rattle.block_audit.proofs.StepsLemmas.{made-all}
use Rattle.block_audit.proofs.stated.stated_blocks.Goals as goal

pub grouped-requires : goal.grouped-requires
grouped-requires c =
    let slots = c.args.timetable.now.slots in
    let order = ap (λ (xs : List ℕ). length xs) (c.deref.ensures.value ∙ c.in_ok-order.ensures.order) in
    omega (arith, order, few-slots (trip_moves slots), length-map slots move_of_slot, c.slots-slots.ensures.valid.slots)

pub returns-clause-runs : goal.returns-clause-runs
returns-clause-runs c =
    let t = c.args.timetable.now in
    let all : All (Runs t) c.in_ok-order.order.items =
    λ k d h. record { within = c.in_ok-order.ensures.within k d h; live = c.in_ok-order.ensures.live k d h } in
    made-all (Runs t) c.in_ok-names.names c.deref.result.now c.grouped.result (subst (All (Runs t)) (sym c.deref.ensures.value) all)
    c.grouped.ensures
