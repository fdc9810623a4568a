use Rattle.std.proofs.Common.{List, replicate, ap, subst, sym, ◌∙◌}
use Rattle.deadhead_matrix.specs.declared.entry.Entry.{Entry}
use Rattle.deadhead_matrix.specs.declared.pulls.TheConstants.{NO_PULL}
use Rattle.deadhead_matrix.specs.Matrix.{empty_matrix}
use Rattle.deadhead_matrix.specs.Rows.{AreLeastRows}
use Rattle.deadhead_matrix.proofs.MatrixLemmas.{AreLeastWalks-from, IsSquare-from, matrix-standing}
use Rattle.deadhead_matrix.proofs.matrix.Matrix.of.Goals as goal

pub returns-clause-least : goal.returns-clause-least
returns-clause-least c =
    AreLeastWalks-from c.in_ok-entries.field-0.items c.in_ok-distances.field-0.items c.in_ok-none.field-0 c.none-2.result
    (subst (λ (es : List Entry). AreLeastRows es c.in_ok-distances.field-0.items) (sym c.in_ok-entries.ensures)
    c.in_ok-distances.ensures.least)

pub returns-clause-standing : goal.returns-clause-standing
returns-clause-standing c = λ none.
    matrix-standing c.in_ok-entries.field-0.items c.in_ok-distances.field-0.items c.in_ok-none.field-0 c.none-2.result
    (subst (λ (es : List Entry). AreLeastRows es c.in_ok-distances.field-0.items) (sym c.in_ok-entries.ensures)
    c.in_ok-distances.ensures.least) (c.in_ok-entries.ensures ∙ none)
    (c.in_ok-none.ensures ∙ ap (λ n. replicate n NO_PULL) (sym c.in_ok-distances.ensures.count)) c.none-2.ensures
    ∙ ap empty_matrix c.in_ok-distances.ensures.count

pub returns-clause-square : goal.returns-clause-square
returns-clause-square c =
    IsSquare-from c.in_ok-entries.field-0.items c.in_ok-distances.field-0.items c.in_ok-none.field-0 c.none-2.result
