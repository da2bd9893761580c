-- Steps, one behind the others.
use Rattle.std.proofs.Common.{◌≡◌, List, [], ◌∷◌, ◌++◌, refl, map, ap, ◌∙◌}
use Rattle.std.proofs.lemmas.List.{map-append}
use Rattle.glsl_ast.specs.Tree as text
use Rattle.glsl_ast.specs.Tree.{Expr, LStep}
use Rattle.glsl_ast.specs.View.{step_of}
use Rattle.glsl_ast.specs.declared.statements.LStep.{LStep as Code}
use Rattle.expr_forward.specs.Paths.{further}

pub further_on : (e : Expr) (ss : List LStep) (s : LStep) → further e (ss ++ s ∷ []) ≡ further (further e ss) (s ∷ [])
further_on e [] s = refl
further_on e (text.LStep.member m ∷ ss) s = further_on (Expr.member e m) ss s
further_on e (text.LStep.index i ∷ ss) s = further_on (Expr.index e i) ss s

-- the same of steps as the code has them
pub further_push : (e : Expr) (ss : List Code) (s : Code) → further e (map step_of (ss ++ s ∷ [])) ≡ further (further e (map step_of ss)) (step_of s ∷ [])
further_push e ss s = ap (further e) (map-append step_of ss (s ∷ [])) ∙ further_on e (map step_of ss) (step_of s)

pub ruleset further_rules = (further_push)
