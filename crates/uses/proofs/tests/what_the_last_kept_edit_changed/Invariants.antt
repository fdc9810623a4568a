use Rattle.uses.proofs.tests.what_the_last_kept_edit_changed.Given as goal

abbrev pub ghosts-changed : goal.ghosts-changed
ghosts-changed g a = record { name = a.blank.name; parts = a.blank.parts }
