-- What stands in lists of statements.
use Rattle.std.proofs.Common.{List, [], ◌∷◌, inl, inr, refl}
use Rattle.glsl_ast.specs.Tree.{Stmt}
pub use Rattle.grammar_law.proofs.Meets.LiveOrGone.{of_mapped}
use Rattle.claim_law.specs.Uses.{Words}
use Rattle.claim_law.specs.Statements.{UsesStmt, EachStmt}
use Rattle.claim_law.specs.Claimed.{IsIn}

pub each_stmt : (W : Words) (xs : List Stmt) → ((x : Stmt) → IsIn x xs → UsesStmt W x) → EachStmt W xs
each_stmt W [] each = tt
each_stmt W (x ∷ xs) each = (each x (inl refl), each_stmt W xs (λ y y_in. each y (inr y_in)))
