use Rattle.terminal_maxima.proofs.tests.a_tree_of_sums_finds_places.Given as goal

abbrev pub ghosts-found : goal.ghosts-found
ghosts-found g a = record { name = a.blank.name; parts = a.blank.parts }
