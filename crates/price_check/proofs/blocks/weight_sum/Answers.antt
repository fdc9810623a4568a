use Rattle.std.proofs.Common.{◌≡◌, ◌+◌, length, ap, ◌∙◌, sym, arith}
use Rattle.std.proofs.lemmas.List.{get_or_read}
use Rattle.trip_model.proofs.Counting.{sum_below}
use Rattle.assignment_model.proofs.Duality.{sum_by-range}
use Rattle.deadhead_matrix.specs.Fitting.{network_of}
use Rattle.price_check.specs.Reasons.{link_weight, weight_before}
use Rattle.price_check.proofs.CostLemmas.{sum_below-more}
use Rattle.price_check.proofs.blocks.weight_sum.Goals as goal

pub loop-at-preserved : goal.loop-at-preserved
loop-at-preserved c =
    let network = network_of c.args.timetable.now c.args.matrix.now in
    let row = get_or_read c.args.rows.now c.loop-at.at c.index-rows-at.result c.loop-at-test.true c.index-rows-at.is _ in
    let here = c.link_weight-sum.ensures.weight ∙ (λ i. link_weight network (c.slot_before.ensures i) (row i).slot) in
    record {
      summed = (λ i. c.loop-at.invariant.summed i + here i) ∙ sym (sum_below-more (weight_before network c.args.rows.now) c.loop-at.at);
      bound = omega (arith, c.loop-at.invariant.bound, c.link_weight-sum.ensures.bound);
    }

pub returns : goal.returns
returns c =
    let f = weight_before (network_of c.args.timetable.now c.args.matrix.now) c.args.rows.now in
    let all : c.loop-at.at ≡ length c.args.rows.now = omega arith in
    c.loop-at.invariant.summed ∙ ap (sum_below f) all ∙ sym (sum_by-range f (length c.args.rows.now))
