use Rattle.function_text.proofs.scope.PlannedFunction.saved.Goals as goal

pub returns : goal.returns
returns c = rw (c.type_of-ty.ensures, c.spare.ensures, c.in_ok-value.ensures) at c.declared.ensures
