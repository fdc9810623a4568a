use Rattle.std.proofs.Common.{◌≡◌, ◌+◌, not, Bool, true, false, length, drop, None, Some, sym, ap, subst, ◌∙◌, arith}
use Rattle.std.specs.Prelude.{IsSome}
use Rattle.std.proofs.lemmas.List.{length-map, get_or_read, drop_all}
use Rattle.price_check.specs.declared.claim.BlockRow.{BlockRow}
use Rattle.price_check.specs.declared.verdict.Verdict.TheVariants.{Yes}
use Rattle.deadhead_matrix.specs.Fitting.{network_of}
use Rattle.price_check.specs.Claim.{block_row, begin_with, slot_before, blocks_in}
use Rattle.price_check.specs.Reasons.{minutes_before}
use Rattle.price_check.proofs.CostLemmas.{minutes_of, names-known, minutes-next, blocks-next, minutes_of-blocks}
use Rattle.price_check.proofs.RowLemmas.{named-map}
use Rattle.price_check.proofs.blocks.accepted.Goals as goal
use Rattle.price_check.proofs.blocks.accepted.Goals.{then-ends_block, else-ends_block}

pub unwrap-slot-requires : goal.unwrap-slot-requires
unwrap-slot-requires c =
    let rows = c.args.rows.now in
    subst IsSome (named-map (λ (r : BlockRow). r.slot) rows c.loop-at.at c.index-rows-at.result c.loop-at-test.true c.index-rows-at.is)
    (c.requires.known c.loop-at.at (omega (arith, length-map rows (λ (r : BlockRow). r.slot), c.loop-at-test.true)))

other : (b : Bool) (known : Bool) → not b ≡ known → b ≡ not known
other true known e = ap not e
other false known e = ap not e

pub loop-at-preserved : goal.loop-at-preserved
loop-at-preserved c =
    let rows = c.args.rows.now in
    let at = c.loop-at.at in
    let network = network_of c.args.timetable.now c.args.matrix.now in
    let s = c.unwrap-slot.result in
    let row = get_or_read rows at c.index-rows-at.result c.loop-at-test.true c.index-rows-at.is _ in
    let slot : (block_row rows at).slot ≡ Some s = ap (λ (r : BlockRow). r.slot) (sym row) ∙ c.unwrap-slot.ensures in
    let before : c.minutes_before-minutes.result ≡ minutes_before network (slot_before rows at) s =
    c.minutes_before-minutes.ensures.minutes ∙ ap (λ b. minutes_before network b s) c.slot_before.ensures in
    let known = names-known rows c.requires.known in
    let spent = minutes-next network (slot_before rows at) rows at s c.loop-at-test.true slot in
    let made = blocks-next rows at s c.loop-at-test.true slot known in
    let joins = begin_with (drop (at + 1) rows) (block_row rows at).block in
    elim c.if-ends_block.branch [
      | then-ends_block w ↦
          let e = other joins true (sym c.ends_block.ensures ∙ w.if-ends_block.true) in
          record {
            blocks = omega (arith, c.loop-at.invariant.blocks, made false e, w.vehicles-is);
            spent = omega (arith, c.loop-at.invariant.spent, before, spent false e, w.minutes-is, w.minutes_home-minutes.ensures.minutes);
            few = omega (arith, c.loop-at.invariant.few, w.vehicles-is);
            bound = omega (
              arith,
              c.loop-at.invariant.bound,
              c.minutes_before-minutes.ensures.bound,
              w.minutes_home-minutes.ensures.bound,
              w.minutes-is,
            );
          }
      | else-ends_block w ↦
          let e = other joins false (sym c.ends_block.ensures ∙ w.if-ends_block.false) in
          record {
            blocks = omega (arith, c.loop-at.invariant.blocks, made true e, w.vehicles-is);
            spent = omega (arith, c.loop-at.invariant.spent, before, spent true e, w.minutes-is);
            few = omega (arith, c.loop-at.invariant.few, w.vehicles-is);
            bound = omega (arith, c.loop-at.invariant.bound, c.minutes_before-minutes.ensures.bound, w.minutes-is);
          }
    ]

pub returns : goal.returns
returns c =
    let rows = c.args.rows.now in
    let at = c.loop-at.at in
    let network = network_of c.args.timetable.now c.args.matrix.now in
    let end = drop_all at rows c.loop-at-test.false in
    let none : length (blocks_in (drop at rows)) ≡ 0 = ap (λ rs. length (blocks_in rs)) end in
    let spent : minutes_of network (slot_before rows at) (drop at rows) ≡ 0 = ap (minutes_of network (slot_before rows at)) end in
    let vehicles : c.loop-at.vehicles ≡ length (blocks_in rows) = omega (arith, c.loop-at.invariant.blocks, none) in
    let minutes : c.loop-at.minutes ≡ minutes_of network None rows = omega (arith, c.loop-at.invariant.spent, spent) in
    let all = minutes ∙ minutes_of-blocks network rows (names-known rows c.requires.known) in
    λ i. Yes (vehicles i) (all i)
