-- A part is smaller than its whole.
use Rattle.std.proofs.Common.{ℕ, zero, suc, ◌<◌, List, [], ◌∷◌, length, get_or, arith}
use Rattle.glsl_ast.specs.Size.{stmt_size, stmts_size, arms_size}
use Rattle.glsl_ast.specs.View.{stmt_of, stmts_of, arms_of}
use Rattle.glsl_ast.specs.declared.statements.Stmt.{Stmt}
use Rattle.glsl_ast.specs.declared.statements.Arm.{Arm}
use Rattle.glsl_ast.proofs.Views.{arm-is}

pub stmt_in : (l : List Stmt) (k : ℕ) (d : Stmt) → k < length l → stmt_size (stmt_of (get_or l k d)) < stmts_size (stmts_of l)
stmt_in [] k d h = absurd (omega arith)
stmt_in (x ∷ l) zero d h = omega arith
stmt_in (x ∷ l) (suc k) d h = omega (arith, stmt_in l k d (omega arith))

pub body_in : (l : List Arm) (k : ℕ) (d : Arm) → k < length l → stmts_size (stmts_of (get_or l k d).body.items) < arms_size (arms_of l)
body_in [] k d h = absurd (omega arith)
body_in (x ∷ l) zero d h = rw (arm-is x) (omega arith)
body_in (x ∷ l) (suc k) d h = rw (arm-is x) (omega (arith, body_in l k d (omega arith)))
