use Rattle.test_syntax.proofs.trees.changed.Given as goal

abbrev pub ghosts-enter_and_leave : goal.ghosts-enter_and_leave
ghosts-enter_and_leave a = record { name = a.blank.name; parts = a.blank.parts }
