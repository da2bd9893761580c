use Rattle.std.proofs.Common.{◌≡◌, drop}
use Rattle.glsl_ast.specs.View.{stmts_of, arms_of}
use Rattle.text_check.specs.Statements.{are_stmts, are_arms}
use Rattle.text_check.specs.Words.{declares}
use Rattle.text_check.proofs.statements.+statement.Given as goal

abbrev pub invariant-are_stmts-loop-stmt : goal.invariant-are_stmts-loop-stmt
invariant-are_stmts-loop-stmt l = are_stmts (declares l.structs) (stmts_of (drop l.stmt-index l.body)) ≡ are_stmts (declares l.structs) (stmts_of l.body)

abbrev pub invariant-are_arms-loop-arm : goal.invariant-are_arms-loop-arm
invariant-are_arms-loop-arm l = are_arms (declares l.structs) (arms_of (drop l.arm-index l.arms)) ≡ are_arms (declares l.structs) (arms_of l.arms)
