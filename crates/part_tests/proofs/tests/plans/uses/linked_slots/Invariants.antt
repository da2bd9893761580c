use Rattle.part_tests.proofs.tests.plans.uses.linked_slots.Given as goal

abbrev pub ghosts-first_found : goal.ghosts-first_found
ghosts-first_found g a = record { name = a.blank.name; parts = a.blank.parts }
