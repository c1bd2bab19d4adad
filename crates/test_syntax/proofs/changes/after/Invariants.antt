use Rattle.test_syntax.proofs.changes.after.Given as goal

abbrev pub ghosts-stepped : goal.ghosts-stepped
ghosts-stepped a = record { name = a.blank.name; parts = a.blank.parts }
