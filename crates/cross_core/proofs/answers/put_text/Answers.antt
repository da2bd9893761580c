use Rattle.std.proofs.Common.{refl, inr}
use Rattle.glsl_ast.specs.View.{unit_of}
use Rattle.glsl_grammar.specs.Layout.{unit_text}
use Rattle.cross_core.proofs.answers.put_text.Goals as goal

pub returns-in-Err-Fault-clause-output : goal.returns-in-Err-Fault-clause-output
returns-in-Err-Fault-clause-output g c = (c.in-Err-Fault.ensures.fault.failed (rw c.in-Err-Fault.field-0-is refl), (unit_text (unit_of c.args.unit.now), refl, c.in-Err-Fault.ensures.front))

pub returns-in-Err-Memory-clause-output : goal.returns-in-Err-Memory-clause-output
returns-in-Err-Memory-clause-output g c = inr (unit_text (unit_of c.args.unit.now), refl, c.in-Err-Memory.ensures.front)
