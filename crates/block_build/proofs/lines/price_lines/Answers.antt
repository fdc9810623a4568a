use Rattle.std.proofs.Common.{◌++◌, ap, sym, ◌∙◌, arith}
use Rattle.std.specs.Prelude.{string_bytes}
use Rattle.block_build.specs.Lines.{price_line}
use Rattle.block_build.proofs.LinesWritten.{flat_map-range_more, prices-written}
use Rattle.block_build.proofs.lines.price_lines.Goals as goal

pub loop-slot-preserved : goal.loop-slot-preserved
loop-slot-preserved c =
    let line = price_line c.args.prices.now.timetable.now c.args.prices.now.leave.now c.args.prices.now.enter.now in
    c.in_ok-push_price.ensures ∙ ap (λ xs. xs ++ line c.loop-slot.slot) c.loop-slot.invariant
    ∙ sym (flat_map-range_more line c.loop-slot.slot)

pub returns : goal.returns
returns c =
    c.wrap.ensures
    ∙ prices-written c.args.prices.now.timetable.now c.args.prices.now.leave.now c.args.prices.now.enter.now
    (string_bytes c.loop-slot.text) c.loop-slot.slot (omega (arith, c.slots-slot-end.ensures.count)) c.loop-slot.invariant
