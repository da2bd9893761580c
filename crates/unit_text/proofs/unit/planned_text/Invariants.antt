use Rattle.unit_text.proofs.unit.planned_text.Given as goal

abbrev pub ghosts-plans_of : goal.ghosts-plans_of
ghosts-plans_of a = record { name = a.blank.name; parts = a.blank.parts }
