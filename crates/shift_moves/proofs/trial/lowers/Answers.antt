use Rattle.std.proofs.Common.{refl, subst, ◌∙◌, arith}
use Rattle.std.proofs.lemmas.Bool.{ltb-true, lt-ltb}
use Rattle.std.proofs.lemmas.Int.{to_z-of_z}
use Rattle.trip_model.specs.Deficit.{live_moves}
use Rattle.trip_model.specs.Fleet.{with_shift}
use Rattle.shift_moves.specs.Trial.{AreSwapped}
use Rattle.shift_moves.proofs.Counting.{lower-read}
use Rattle.shift_moves.proofs.Holding.{AreSwapped-back, HoldsAmong-replaced, HoldsAmong-swapped, Holds-swapped, same-held}
use Rattle.shift_moves.proofs.trial.lowers.Goals as goal
use mir.Syntax.{w16}

pub replace-requires-clause-held : goal.replace-requires-clause-held
replace-requires-clause-held g c =
    HoldsAmong-swapped _ _ _ c.args.timetable.now _ c.slots-slots.ensures.valid c.moves_of.ensures.swapped c.requires.trip.held

pub replace-requires-2-clause-held : goal.replace-requires-2-clause-held
replace-requires-2-clause-held g c =
    HoldsAmong-replaced _ _ c.moves_of.result.0 c.moves_of.result.1 c.moves_of.ensures.after.forward
    (HoldsAmong-swapped c.args.deficits.now _ _ c.args.timetable.now _ c.slots-slots.ensures.valid c.moves_of.ensures.swapped
    c.requires.trip.held) c.replace.ensures.held

pub returns-clause-lower : goal.returns-clause-lower
returns-clause-lower g c =
    let t = c.args.timetable.now in
    let u = with_shift t c.args.slot c.args.by in
    let swapped = subst (λ by. AreSwapped c.moves_of.result.0 c.moves_of.result.1 t.slots (with_shift t c.args.slot by).slots)
    (to_z-of_z w16 c.args.by c.ranges.by) c.moves_of.ensures.swapped in
    let held = Holds-swapped c.args.deficits.now c.replace.new.deficits _ _ t.slots u.slots swapped c.requires.trip.held
    c.replace.ensures.held in
    let lower = lower-read t u c.args.deficits.now c.replace.new.deficits c.moves_of.result.0.from c.moves_of.result.0.to
    c.maxima-before.result c.maxima-after.result
    c.replace.ensures.rows c.requires.trip.rows refl (let from = c.moves_of.ensures.before.from in omega arith)
    (let to = c.moves_of.ensures.before.to in omega arith) c.maxima-before.ensures c.maxima-after.ensures
    (c.held_law.ensures.total c.args.deficits.now (live_moves t.slots) c.replace.ensures.before c.requires.trip.held)
    (c.held_law.ensures.total c.replace.new.deficits (live_moves u.slots) c.replace.ensures.after held) c.replace.ensures.others in (
      (λ less. lower.0 (ltb-true c.maxima-after.result c.maxima-before.result less)),
      (λ less. lt-ltb c.maxima-after.result c.maxima-before.result (lower.1 less)),
    )

pub returns-clause-unchanged : goal.returns-clause-unchanged
returns-clause-unchanged g c =
    let old = c.args.timetable.now.slots in
    let new = (with_shift c.args.timetable.now c.args.slot c.args.by).slots in
    let swapped = subst (λ by. AreSwapped c.moves_of.result.0 c.moves_of.result.1 old
    (with_shift c.args.timetable.now c.args.slot by).slots) (to_z-of_z w16 c.args.by c.ranges.by) c.moves_of.ensures.swapped in
    let there = Holds-swapped c.args.deficits.now c.replace.new.deficits c.moves_of.result.0 c.moves_of.result.1 old new swapped
    c.requires.trip.held c.replace.ensures.held in
    let back = Holds-swapped c.replace.new.deficits c.replace-2.new.deficits c.moves_of.result.1 c.moves_of.result.0 new old
    (AreSwapped-back _ _ old new swapped) there c.replace-2.ensures.held in
    same-held _ _ (live_moves old) c.replace-2.ensures.after c.replace.ensures.before (c.replace-2.ensures.rows ∙ c.replace.ensures.rows)
    back c.requires.trip.held
