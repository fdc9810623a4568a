use Rattle.std.proofs.Common.{◌≡◌, ◌+◌, ◌≤◌, ◌++◌, length, sym, ap, subst, ◌∙◌, arith}
use Rattle.std.specs.Prelude.{codes, string_bytes, unsigned_abs}
use Rattle.std.proofs.lemmas.List.{append_assoc}
use Rattle.trip_model.specs.Deficit.{live_moves}
use Rattle.trip_model.specs.Fleet.{deficit_sum}
use Rattle.trip_model.specs.Timetable.{TimetableView}
use Rattle.lowering_commands.specs.Fleet.{total_line}
use Rattle.lowering_commands.specs.Shifts.{IsShiftsText, shift_line, steps_of_search}
use Rattle.lowering_commands.specs.Step.{sum_kept}
use Rattle.lowering_commands.proofs.FleetLemmas.{fleet-few, live-few}
use Rattle.lowering_commands.proofs.ShiftsLemmas.{length-after_shift, no-shift, shift-before, sum-falls, sum-kept, sum-number, times-le}
use Rattle.lowering_commands.proofs.ShiftsLemmas.{times-more}
use Rattle.lowering_commands.proofs.shifts.shifts_text.Goals as goal

pub loop-shift-init : goal.loop-shift-init
loop-shift-init g c =
    let t = c.args.timetable.now in
    let n = length t.slots in
    let same = c.in_ok-moved.ensures in
    let moved = c.in_ok-moved.moved in
    let deficits = c.in_ok-deficits in
    let slots = ap (λ (t : TimetableView). length t.slots) same in
    let sum = sum-number c.held_law.ensures.total c.held_law.ensures.maximum moved deficits.deficits c.places-places.ensures.valid
    deficits.ensures.held deficits.ensures.places in
    let few : unsigned_abs (deficit_sum moved) ≤ n =
    omega (arith, fleet-few (live_moves moved.slots) (length moved.places) _ sum, live-few moved.slots, slots) in
    record {
      slots = slots;
      held = deficits.ensures.held;
      rows = deficits.ensures.places;
      valid = c.places-places.ensures.valid;
      sum = sum;
      number = omega (arith, few);
      counted = omega (arith, deficits.ensures.counted, slots, times-le (steps_of_search n + 56) _ n few);
      text = λ rest is. subst (λ text. IsShiftsText t 0 (text ++ rest)) (sym c.new-text.ensures.bytes)
          (subst (λ (t : TimetableView). IsShiftsText t 0 rest) same is);
    }

pub returns-in_err-push_shift-clause-counted : goal.returns-in_err-push_shift-clause-counted
returns-in_err-push_shift-clause-counted g c =
    omega (arith, c.loop-shift.invariant.counted, c.in-Some.ensures.counted, c.loop-shift.invariant.slots)

pub loop-shift-preserved : goal.loop-shift-preserved
loop-shift-preserved g c =
    let t = c.args.timetable.now in
    let n = length t.slots in
    let inv = c.loop-shift.invariant in
    let old = c.loop-shift.moved in
    let new = c.make_shift.new.timetable in
    let shift = c.in-Some.shift in
    let first = c.in-Some.ensures.first in
    let made = c.make_shift.ensures.shifted in
    let sum = sum-number c.held_law.ensures.total c.held_law.ensures.maximum new c.make_shift.new.deficits c.make_shift.ensures.valid
    c.make_shift.ensures.held c.make_shift.ensures.rows in
    let falls = sum-falls old new shift _ _ first made inv.sum sum in
    let more = times-more (steps_of_search n + 56) _ _ falls in
    let slots : length new.slots ≡ n = length-after_shift old new shift made ∙ inv.slots in
    record {
      slots = slots;
      held = c.make_shift.ensures.held;
      rows = c.make_shift.ensures.rows;
      valid = c.make_shift.ensures.valid;
      sum = sum;
      number = omega (arith, inv.number, falls);
      counted = omega (arith, inv.counted, c.in-Some.ensures.counted, c.make_shift.ensures.counted, inv.slots, more);
      text = λ rest is.
          let line = shift_line old shift in
          subst (IsShiftsText t 0) (sym (append_assoc (string_bytes c.loop-shift.text) line rest)
          ∙ ap (λ text. text ++ rest) (sym c.in_ok-push_shift.ensures))
          (inv.text (line ++ rest) (shift-before old new shift c.loop-shift.number rest first made is));
    }

pub loop-shift-smaller : goal.loop-shift-smaller
loop-shift-smaller g c =
    let sum = sum-number c.held_law.ensures.total c.held_law.ensures.maximum c.make_shift.new.timetable c.make_shift.new.deficits
    c.make_shift.ensures.valid c.make_shift.ensures.held c.make_shift.ensures.rows in
    let falls = sum-falls c.loop-shift.moved c.make_shift.new.timetable c.in-Some.shift _ _ c.in-Some.ensures.first
    c.make_shift.ensures.shifted c.loop-shift.invariant.sum sum in
    omega (arith, falls)

pub returns-in_err-writeln-clause-counted : goal.returns-in_err-writeln-clause-counted
returns-in_err-writeln-clause-counted g c =
    omega (arith, c.loop-shift.invariant.counted, c.in_default.ensures.counted, c.loop-shift.invariant.slots)

pub returns-clause-text : goal.returns-clause-text
returns-clause-text g c =
    let t = c.args.timetable.now in
    let inv = c.loop-shift.invariant in
    let last = total_line (codes "shifts ") c.loop-shift.number c.total.result in
    let kept = sum-kept c.held_law.ensures.total c.loop-shift.moved c.loop-shift.deficits inv.valid inv.held inv.rows in
    subst (IsShiftsText t 0) (sym (◌∙◌ {c = string_bytes c.loop-shift.text ++ last} c.wrap.ensures c.in_ok-writeln.ensures.bytes))
    (inv.text last (no-shift c.loop-shift.moved c.loop-shift.number c.total.result c.in_default.ensures.none
    (c.total.ensures ∙ ap sum_kept c.in_default.ensures.unchanged ∙ kept)))

pub returns-clause-counted : goal.returns-clause-counted
returns-clause-counted g c = omega (arith, c.loop-shift.invariant.counted, c.in_default.ensures.counted, c.loop-shift.invariant.slots)
