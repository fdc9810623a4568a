use Rattle.std.proofs.Common.{ℤ, rules, arith, sym, ap, subst, w16, ◌∙◌}
use Rattle.std.proofs.lemmas.Int.{ints, to_z-of_z}
use Rattle.trip_model.specs.declared.trip.Trip.{Trip}
use Rattle.trip_model.specs.Trip.{MayShift}
use Rattle.trip_model.specs.Timetable.{number_of, slot_names}
use Rattle.edit_script.specs.declared.changes.Judged.{Judged}
use Rattle.edit_script.specs.declared.changes.Made.TheVariants.{Moved}
use Rattle.edit_script.specs.declared.edit.Edit.TheVariants.{Shift}
use Rattle.edit_script.specs.Made.{IsDue}
use Rattle.edit_script.proofs.ShiftLemmas.{MayShift-is, shift-accepted, shift-early, shift-outside}
use Rattle.edit_script.proofs.changes.judge_shift.Goals as goal

pub returns-then-not-may_be_off : goal.returns-then-not-may_be_off
returns-then-not-may_be_off c =
    shift-outside c.args.timetable.now c.args.by _ _ c.in-Some.slot c.trip-found.result
    (c.in-Some.ensures.slot ∙ ap (number_of (slot_names c.args.timetable.now)) c.as_str.ensures) c.trip-found.ensures.value
    c.if-not-found.false
    (grind (arith, ints, to_z-of_z)) (sym c.may_be_off.ensures ∙ c.if-not-may_be_off.true)

pub returns-then-not-departs_in_day : goal.returns-then-not-departs_in_day
returns-then-not-departs_in_day c =
    shift-early c.args.timetable.now c.args.by _ _ c.in-Some.slot c.trip-found.result
    (c.in-Some.ensures.slot ∙ ap (number_of (slot_names c.args.timetable.now)) c.as_str.ensures) c.trip-found.ensures.value
    c.if-not-found.false
    (grind (arith, ints, to_z-of_z)) _ (search rules) (sym c.may_be_off.ensures ∙ c.if-not-may_be_off.false)
    (sym c.departs_in_day.ensures ∙ c.if-not-departs_in_day.true)

pub returns : goal.returns
returns c =
    let t = c.args.timetable.now in
    let within = sym c.may_be_off.ensures ∙ c.if-not-may_be_off.false in
    let departs = sym c.departs_in_day.ensures ∙ c.if-not-departs_in_day.false in
    let found = c.in-Some.ensures.slot ∙ ap (number_of (slot_names t)) c.as_str.ensures in
    let judged : ℤ → Judged = λ by. record { slot = c.in-Some.slot; made = Moved by } in
    subst (λ by. IsDue t (Shift c.args.trip.now c.args.by) (judged by)) (sym (to_z-of_z w16 c.args.by c.ranges.by)) (record {
      can = record {
        slot = c.in-Some.ensures.within;
        live = ap (λ (trip : Trip). trip.live) (sym c.trip-found.ensures.value) ∙ c.if-not-found.false;
        moves = c.requires.moves;
        most = c.requires.most;
        within = subst (λ (trip : Trip). MayShift trip c.args.by) c.trip-found.ensures.value
            (MayShift-is c.trip-found.result c.args.by _ _ (grind (arith, ints, to_z-of_z)) (search rules) within departs);
      };
      slot = (c.in-Some.ensures.within, found);
      does = shift-accepted t c.args.by _ _ c.in-Some.slot c.trip-found.result found c.trip-found.ensures.value c.if-not-found.false
          (grind (arith, ints, to_z-of_z)) _ (search rules) within departs;
    })
