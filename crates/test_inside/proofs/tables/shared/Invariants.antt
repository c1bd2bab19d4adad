use Rattle.test_inside.proofs.tables.shared.Given as goal

abbrev pub ghosts-shared_by : goal.ghosts-shared_by
ghosts-shared_by a = record { name = a.blank.name; parts = a.blank.parts }
