-- Groups that stand in the order in which they are written.
use Rattle.std.specs.Prelude.{ℕ, ◌==◌, ◌&&◌, nat_lt, Bool, true, false, List, [], ◌∷◌, Option, Some, None}
use Rattle.glsl_ast.specs.declared.statements.Arm.{Arm}

abbrev pub target_of : ℕ × Arm → ℕ
target_of g = g.0

abbrev pub is_behind : Option ℕ → ℕ → Bool
is_behind None t = true
is_behind (Some p) t = nat_lt p t

-- the targets of an order rise behind the one before them, and are those of the groups
abbrev pub stand_so : Option ℕ → List ℕ → List ℕ → Bool
stand_so before [] [] = true
stand_so before [] (k ∷ ks) = false
stand_so before (t ∷ ts) [] = false
stand_so before (t ∷ ts) (k ∷ ks) = (k == t) && (is_behind before t && stand_so (Some t) ts ks)
