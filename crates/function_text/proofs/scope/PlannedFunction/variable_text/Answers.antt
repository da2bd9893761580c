use Rattle.function_text.proofs.scope.PlannedFunction.variable_text.Goals as goal

pub returns : goal.returns
returns c = rw (c.pointee-ty.ensures, c.in_ok-value.ensures) at c.declared.ensures
