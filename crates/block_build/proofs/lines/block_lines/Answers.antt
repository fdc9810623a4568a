use Rattle.std.proofs.Common.{◌∙◌, arith}
use Rattle.std.specs.Prelude.{string_bytes}
use Rattle.block_build.proofs.LinesWritten.{line_numbered, lines-more, lines-written}
use Rattle.block_build.proofs.lines.block_lines.Goals as goal

pub loop-number-preserved : goal.loop-number-preserved
loop-number-preserved c =
    let named = c.args.named.now in
    lines-more (line_numbered named.timetable.now named.matrix.now c.args.margin.now named.names.now named.blocks.now)
    (string_bytes c.loop-number.text) (string_bytes c.push_block.new.text)
    c.loop-number.number c.loop-number.invariant c.in_ok-push_block.ensures

pub returns : goal.returns
returns c =
    let named = c.args.named.now in
    c.wrap.ensures
    ∙ lines-written named.timetable.now named.matrix.now c.args.margin.now named.names.now named.blocks.now
    (string_bytes c.loop-number.text)
    c.loop-number.number (omega (arith, c.len-number-end.ensures.count)) c.loop-number.invariant
