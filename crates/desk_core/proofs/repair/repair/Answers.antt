use Rattle.std.proofs.Common.{◌+◌, ◌*◌, length, None, sym, ap, subst, ◌∙◌, arith}
use Rattle.std.proofs.Math.ListN.{length-set}
use Rattle.assignment_model.specs.Prices.{Plan, IsCertified}
use Rattle.edit_script.specs.declared.edit.Edit.{Edit}
use Rattle.pair_graph.specs.Pairs.{PairsView, pairs_of, pairs_network}
use Rattle.price_repair.specs.Without.{IsCertifiedWith, IsCertifiedWithout}
use Rattle.trip_model.specs.Plain.{trip_moves}
use Rattle.desk_core.specs.Repair.{MayRepair}
use Rattle.desk_core.proofs.DeskLemmas.{moves-slots, IsPlanFor-pairs}
use Rattle.desk_core.proofs.repair.repair.Goals as goal

pub replace-requires : goal.replace-requires
replace-requires g c =
    let plan = c.args.history.now.plan in
    let may = subst (λ (e : Edit). MayRepair e c.args.slot c.args.timetable.now c.args.matrix.now plan) c.in-Shift.is
    c.requires.may in
    let same = moves-slots c.args.timetable.now c.args.matrix.now c.of-pairs.result c.of-pairs.ensures in
    record {
      room = c.requires.room;
      slot = omega (arith, may.0.slot, same);
      slots = may.0.slots ∙ sym same;
      alike =
          ap (λ (p : PairsView). length p.moves) c.without-without.ensures
          ∙ length-set (trip_moves c.args.timetable.now.slots) c.args.slot None
          ∙ sym (ap (λ (p : PairsView). length p.moves) c.of-pairs.ensures);
      taken = subst (λ (p : PairsView). IsCertifiedWith p c.args.slot plan) (sym c.without-without.ensures) may.0.certified;
      added =
          subst (λ (p : PairsView). (other : Plan) → IsCertified (pairs_network c.without-without.result) other
          → IsCertifiedWithout p c.args.slot other) (sym c.of-pairs.ensures)
          (subst (λ (p : PairsView). (other : Plan) → IsCertified (pairs_network p) other
          → IsCertifiedWithout (pairs_of c.args.timetable.now c.args.matrix.now None) c.args.slot other)
          (sym c.without-without.ensures) may.1);
    }

pub take-requires : goal.take-requires
take-requires g c =
    let plan = c.args.history.now.plan in
    let may = subst (λ (e : Edit). MayRepair e c.args.slot c.args.timetable.now c.args.matrix.now plan) c.in-Cancel.is
    c.requires.may in
    let same = moves-slots c.args.timetable.now c.args.matrix.now c.of-pairs.result c.of-pairs.ensures in
    record {
      room = c.requires.room;
      slot = omega (arith, may.slot, same);
      slots = may.slots ∙ sym same;
      certified = subst (λ (p : PairsView). IsCertifiedWith p c.args.slot plan) (sym c.of-pairs.ensures) may.certified;
    }

pub add-requires : goal.add-requires
add-requires g c =
    let plan = c.args.history.now.plan in
    let may = subst (λ (e : Edit). MayRepair e c.args.slot c.args.timetable.now c.args.matrix.now plan) c.in-Restore.is
    c.requires.may in
    let same = moves-slots c.args.timetable.now c.args.matrix.now c.of-pairs.result c.of-pairs.ensures in
    record {
      room = c.requires.room;
      slots = may.slots ∙ sym same;
      certified = subst (λ (p : PairsView). IsCertifiedWithout p c.args.slot plan) (sym c.of-pairs.ensures) may.certified;
    }

pub add-requires-in-Extra : goal.add-requires-in-Extra
add-requires-in-Extra g c =
    let plan = c.args.history.now.plan in
    let may = subst (λ (e : Edit). MayRepair e c.args.slot c.args.timetable.now c.args.matrix.now plan) c.in-Extra.is
    c.requires.may in
    let same = moves-slots c.args.timetable.now c.args.matrix.now c.of-pairs.result c.of-pairs.ensures in
    record {
      room = c.requires.room;
      slots = may.slots ∙ sym same;
      certified = subst (λ (p : PairsView). IsCertifiedWithout p c.args.slot plan) (sym c.of-pairs.ensures) may.certified;
    }

pub without-without-requires-clause-slot : goal.without-without-requires-clause-slot
without-without-requires-clause-slot g c =
    let may = subst (λ (e : Edit). MayRepair e c.args.slot c.args.timetable.now c.args.matrix.now c.args.history.now.plan) c.in-Shift.is
    c.requires.may in
    may.0.slot

pub returns-in-Shift-clause-plan : goal.returns-in-Shift-clause-plan
returns-in-Shift-clause-plan g c =
    IsPlanFor-pairs c.args.timetable.now c.args.matrix.now c.of-pairs.result c.replace.new.self.plan c.of-pairs.ensures
    c.replace.ensures.slots c.replace.ensures.certified

pub returns-in-Shift-clause-counted : goal.returns-in-Shift-clause-counted
returns-in-Shift-clause-counted g c =
    let same = moves-slots c.args.timetable.now c.args.matrix.now c.of-pairs.result c.of-pairs.ensures in
    omega (arith, c.replace.ensures.counted, ap (λ k. 4 * k * k + 4 * k) same)

pub returns-in-Cancel-clause-plan : goal.returns-in-Cancel-clause-plan
returns-in-Cancel-clause-plan g c =
    IsPlanFor-pairs c.args.timetable.now c.args.matrix.now c.of-pairs.result c.take.new.self.plan c.of-pairs.ensures
    c.take.ensures.slots c.take.ensures.certified

pub returns-in-Cancel-clause-counted : goal.returns-in-Cancel-clause-counted
returns-in-Cancel-clause-counted g c =
    let same = moves-slots c.args.timetable.now c.args.matrix.now c.of-pairs.result c.of-pairs.ensures in
    omega (arith, c.take.ensures.counted, ap (λ k. 2 * k * k + 2 * k) same)

pub returns-in-Restore-clause-plan : goal.returns-in-Restore-clause-plan
returns-in-Restore-clause-plan g c =
    IsPlanFor-pairs c.args.timetable.now c.args.matrix.now c.of-pairs.result c.add.new.self.plan c.of-pairs.ensures
    c.add.ensures.slots c.add.ensures.certified

pub returns-in-Restore-clause-counted : goal.returns-in-Restore-clause-counted
returns-in-Restore-clause-counted g c =
    let same = moves-slots c.args.timetable.now c.args.matrix.now c.of-pairs.result c.of-pairs.ensures in
    omega (arith, c.add.ensures.counted, ap (λ k. 2 * k * k + 2 * k) same)

pub returns-in-Extra-clause-plan : goal.returns-in-Extra-clause-plan
returns-in-Extra-clause-plan g c =
    IsPlanFor-pairs c.args.timetable.now c.args.matrix.now c.of-pairs.result c.add-in-Extra.new.self.plan c.of-pairs.ensures
    c.add-in-Extra.ensures.slots c.add-in-Extra.ensures.certified

pub returns-in-Extra-clause-counted : goal.returns-in-Extra-clause-counted
returns-in-Extra-clause-counted g c =
    let same = moves-slots c.args.timetable.now c.args.matrix.now c.of-pairs.result c.of-pairs.ensures in
    omega (arith, c.add-in-Extra.ensures.counted, ap (λ k. 2 * k * k + 2 * k) same)
