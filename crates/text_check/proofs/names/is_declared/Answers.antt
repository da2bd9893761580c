use Rattle.glsl_ast.specs.View.{name_text}
use Rattle.text_check.proofs.Declared.{none_declared}
use Rattle.text_check.proofs.names.is_declared.Goals as goal

pub returns-else-not-is_empty : goal.returns-else-not-is_empty
returns-else-not-is_empty c = none_declared c.args.structs.now (name_text c.args.name.now) c.is_empty.result (c.is_empty.ensures.0 c.if-not-is_empty.false) c.if-not-is_empty.false
