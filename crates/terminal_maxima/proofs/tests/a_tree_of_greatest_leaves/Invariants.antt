use Rattle.terminal_maxima.proofs.tests.a_tree_of_greatest_leaves.Given as goal

abbrev pub ghosts-greatest : goal.ghosts-greatest
ghosts-greatest g a = record { name = a.blank.name; parts = a.blank.parts }
