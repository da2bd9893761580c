use Rattle.function_text.proofs.scope.PlannedFunction.index_text.Goals as goal

pub returns : goal.returns
returns c = rw c.type_of-ty.ensures at c.declared.ensures
