use Rattle.deadhead_matrix.proofs.OneClass.{entries-one_class, walk-one_class}
use Rattle.deadhead_matrix.proofs.laws.class_law.Goals as goal

pub returns-clause-entries : goal.returns-clause-entries
returns-clause-entries c = entries-one_class

pub returns-clause-walks : goal.returns-clause-walks
returns-clause-walks c = walk-one_class
