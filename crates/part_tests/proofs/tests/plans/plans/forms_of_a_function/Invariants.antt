use Rattle.part_tests.proofs.tests.plans.plans.forms_of_a_function.Given as goal

abbrev pub ghosts-first_planned : goal.ghosts-first_planned
ghosts-first_planned g a = record { name = a.blank.name; parts = a.blank.parts }
