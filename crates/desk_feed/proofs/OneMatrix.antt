-- The matrix of a feed is one.
use Rattle.std.proofs.Common.{◌≡◌, ℕ, List, sym, ◌∙◌}
use Rattle.pair_rules.specs.Rules.{PairRule}
use Rattle.deadhead_matrix.specs.declared.entry.Entry.{Entry}
use Rattle.deadhead_matrix.specs.declared.pulls.Pull.{Pull}
use Rattle.deadhead_matrix.specs.Matrix.{MatrixView}
use Rattle.deadhead_matrix.proofs.MatrixLemmas.{one-matrix}
use Rattle.desk_feed.specs.Schedule.{IsMatrixOf}

pub matrix-same : (entries : List Entry) (pulls : List Pull) (rules : List PairRule) (places : ℕ) (one other : MatrixView)
    → IsMatrixOf entries pulls rules places one → IsMatrixOf entries pulls rules places other → one ≡ other
matrix-same entries pulls rules places one other first second =
    one-matrix one other (first.entries_are ∙ sym second.entries_are) (first.pulls_are ∙ sym second.pulls_are)
    (first.rules_are ∙ sym second.rules_are) (first.count ∙ sym second.count)
    first.square second.square first.walks second.walks
