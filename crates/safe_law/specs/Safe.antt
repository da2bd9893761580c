-- Expressions and statements that write only names of some kind: also where an expression is an argument, and so what it begins with may be written.
use Rattle.std.specs.Prelude.{◌≡◌, ℕ, List, [], ◌∷◌, Some}
use Rattle.spv_module.specs.Lists.{id}
use Rattle.spv_module.specs.declared.inst.Id.{Id as IdOf}
use Rattle.name_alloc.specs.declared.claims.Key.TheVariants.{Id, Captured}
use Rattle.glsl_ast.specs.Tree.{Text, Expr, Stmt}
use Rattle.write_law.specs.Writes.{root, IsWritten, ExprWrites, StmtWrites}
use Rattle.expr_forward.specs.Scope.{Setting}
use Rattle.expr_forward.specs.Paths.{base_text}

module _ (W : Text → Type 0) where
  abbrev pub IsSafe : Expr → Type 0
  IsSafe e = IsWritten W (root e) × ExprWrites W e

  abbrev pub AreSafe : List Expr → Type 0
  AreSafe [] = Unit {0}
  AreSafe (e ∷ es) = IsSafe e × AreSafe es

  abbrev pub AllWrite : List Stmt → Type 0
  AllWrite [] = Unit {0}
  AllWrite (x ∷ xs) = StmtWrites W x × AllWrite xs

  -- such are the names of ids and of kept indexes, what pointers lead from, and what is read of globals
  pub record HasSafeNames (w : Setting) : Type 0 where
    pub value : (n : ℕ) → W (w.key (Id (id n)))
    pub kept : (chain : IdOf) (k : ℕ) → W (w.key (Captured chain k))
    pub base : (n : ℕ) → W (base_text w n)
    pub read : (n : ℕ) (e : Expr) → w.global n ≡ Some e → IsSafe e
