-- What is written of a group: its target and its arm.
use Rattle.std.specs.Prelude.{ℕ}
use Rattle.glsl_ast.specs.Tree as text
use Rattle.glsl_ast.specs.View.{arm_of}
use Rattle.glsl_ast.specs.declared.statements.Arm.{Arm}

abbrev pub group_written : ℕ × Arm → ℕ × text.Arm
group_written g = (g.0, arm_of g.1)
