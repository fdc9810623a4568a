use Rattle.std.proofs.Common.{◌∷◌, [], ◌++◌, ap, codes, ◌∙◌}
use Rattle.std.specs.Fmt.{decimal}
use Rattle.block_build.specs.Lines.{block_text}
use Rattle.deadhead_matrix.specs.Matrix.{empty_matrix, MatrixView}
use Rattle.feed_commands.proofs.fixed.fixed_text.Goals as goal

pub returns : goal.returns
returns c =
    let timetable = c.args.timetable.now in
    let matrix = c.set_pulls.ensures
    ∙ ap (λ (m : MatrixView). record m { pulls = c.args.pulls })
    (c.in_ok-matrix.ensures.standing c.in_ok-none.ensures ∙ ap empty_matrix c.places.ensures.count) in
    let lines = c.as_str-lines.ensures ∙ c.in_ok-lines.ensures
    ∙ (λ i. block_text timetable (matrix i) [] (c.in_ok-names.ensures.names i) c.in_ok-blocks.blocks) in
    let number = c.len.ensures.count in
    record {
      blocks = c.in_ok-blocks.blocks;
      by_rule = c.in_ok-blocks.ensures.rule;
      fewest = c.in_ok-blocks.ensures.fewest;
      number = c.in_ok-blocks.ensures.number;
      printed = c.wrap.ensures ∙ c.in_ok-format.ensures.ok ∙ (λ i. lines i ++ (codes "fixed " ++ (decimal (number i) ++ 10 ∷ [])));
    }
