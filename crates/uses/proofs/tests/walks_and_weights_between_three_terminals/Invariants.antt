use Rattle.uses.proofs.tests.walks_and_weights_between_three_terminals.Given as goal

abbrev pub ghosts-answers : goal.ghosts-answers
ghosts-answers g a = record { name = a.blank.name; parts = a.blank.parts }
