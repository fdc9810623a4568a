use Rattle.std.proofs.Common.{◌∷◌, [], ◌++◌, ap, ◌∙◌}
use Rattle.std.specs.Prelude.{string_bytes}
use Rattle.deadhead_matrix.specs.Matrix.{walk}
use Rattle.block_build.specs.Names.{block_name}
use Rattle.chart_text.specs.Blocks.{block_line}
use Rattle.chart_text.proofs.BlocksLemmas.{block-written}
use Rattle.chart_text.proofs.blocks.push_block.Goals as goal

pub returns : goal.returns
returns c =
    let named = c.args.named.now in
    let walks = walk named.matrix.now in
    let name = block_name named.names.now c.args.number in
    block-written named.timetable.now walks c.args.columns.now name c.block-block.result.now
    (string_bytes c.args.text.now) (string_bytes c.push_marks.new.text) (string_bytes c.writeln.new.self) c.in_ok-push_marks.ensures
    (c.in_ok-writeln.ensures.bytes ∙ ap (λ name. string_bytes c.push_marks.new.text ++ 32 ∷ (name ++ 10 ∷ [])) c.name.ensures)
    ∙ ap (λ block. string_bytes c.args.text.now
    ++ block_line named.timetable.now walks c.args.columns.now name block) c.block-block.ensures.block
