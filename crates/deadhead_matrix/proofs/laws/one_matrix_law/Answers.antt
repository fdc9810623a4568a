use Rattle.deadhead_matrix.proofs.MatrixLemmas.{one-matrix}
use Rattle.deadhead_matrix.proofs.laws.one_matrix_law.Goals as goal

pub returns : goal.returns
returns c = one-matrix
