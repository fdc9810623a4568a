use Rattle.std.proofs.Common.{ℕ, fold, take, None, sym, ap, subst, ◌∙◌}
use Rattle.block_names.specs.Names.{with_more}
use Rattle.block_names.specs.Numbered.{number_at, trips_asking_by}
use Rattle.block_names.proofs.MostLemmas.{IsMost, most-front, most-more}
use Rattle.block_names.proofs.numbers.slot_taken.Goals as goal

pub loop-slot-preserved : goal.loop-slot-preserved
loop-slot-preserved c =
    let numbers = c.args.numbers.now in
    let asked = c.args.asked.now in
    let slots = c.args.slots.now in
    let count = λ (s : ℕ). trips_asking_by numbers asked c.args.block slots (number_at numbers s) in
    let i = c.loop-slot.slot-index in
    let before = fold (with_more count) None (take i slots) in
    subst (λ o. IsMost count o c.see.new.self)
    (ap (with_more count before) c.from-place.ensures ∙ sym (most-front count slots i c.loop-slot-test.true))
    (most-more count before c.loop-slot.most c.see.new.self c.from-place.result c.trips_asking.result
    (c.trips_asking.ensures ∙ ap (trips_asking_by numbers asked c.args.block slots) c.number_at.ensures)
    c.loop-slot.invariant c.see.ensures.found c.see.ensures.count c.see.ensures.same)
