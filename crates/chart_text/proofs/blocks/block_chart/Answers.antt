use Rattle.std.proofs.Common.{◌<◌, ◌≤◌, [], get_or, length, ◌∙◌, refl, arith}
use Rattle.std.specs.Prelude.{string_bytes}
use Rattle.deadhead_matrix.specs.Matrix.{walk}
use Rattle.chart_text.proofs.BlocksLemmas.{block-more, blocks-written}
use Rattle.chart_text.proofs.blocks.block_chart.Goals as goal

pub loop-number-preserved : goal.loop-number-preserved
loop-number-preserved c =
    let named = c.args.named.now in
    let there : c.loop-number.number < length named.blocks.now = omega (arith, c.len-number-end.ensures.count) in
    block-more named.timetable.now (walk named.matrix.now) c.in_ok-columns.columns.items c.deref.result.now named.names.now
    named.blocks.now c.loop-number.number (get_or named.blocks.now c.loop-number.number [])
    (string_bytes c.new-text.result) (string_bytes c.loop-number.text) (string_bytes c.push_block.new.text) there c.deref.ensures.value
    refl c.loop-number.invariant c.in_ok-push_block.ensures

pub returns : goal.returns
returns c =
    let named = c.args.named.now in
    let all : length named.blocks.now ≤ c.loop-number.number = omega (arith, c.len-number-end.ensures.count) in
    c.wrap.ensures
    ∙ blocks-written named.timetable.now (walk named.matrix.now) c.in_ok-columns.columns.items named.names.now named.blocks.now
    c.loop-number.number (string_bytes c.new-text.result) (string_bytes c.loop-number.text)
    c.in_ok-columns.ensures.columns all c.new-text.ensures.bytes c.loop-number.invariant
