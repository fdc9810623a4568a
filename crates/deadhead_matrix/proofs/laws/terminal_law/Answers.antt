use Rattle.deadhead_matrix.proofs.TerminalWalks.{one_class-terminals, two_classes-none}
use Rattle.deadhead_matrix.proofs.laws.terminal_law.Goals as goal

pub returns-clause-terminals : goal.returns-clause-terminals
returns-clause-terminals c = one_class-terminals

pub returns-clause-none : goal.returns-clause-none
returns-clause-none c = two_classes-none
