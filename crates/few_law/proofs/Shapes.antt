-- The members of a struct with few members.
use Rattle.std.proofs.Common.{◌≡◌, ◌<◌, ◌^◌, ℕ, zero, suc, List, [], ◌∷◌, length, get_or, refl, subst, arith}
use Rattle.spv_module.specs.declared.tree.Shape.{Shape}
use Rattle.spv_types.specs.Tree.{struct}
use Rattle.spv_types.specs.View.{tree_of, trees_of}
use Rattle.few_law.specs.Few.{how_many, HasFewMembers, HaveFewMembers}

many_shapes : (l : List Shape) → how_many (trees_of l) ≡ length l
many_shapes [] = refl
many_shapes (s ∷ l) = omega (arith, many_shapes l)

-- they are few, and so are the members of each
pub members_few : (l : List Shape) (id : ℕ) → HasFewMembers (struct id (trees_of l)) → length l < 2 ^ 32
members_few l id few = subst (λ (n : ℕ). n < 2 ^ 32) (many_shapes l) few.0

pub member_few : (l : List Shape) (k : ℕ) (d : Shape) → HaveFewMembers (trees_of l) → k < length l → HasFewMembers (tree_of (get_or l k d))
member_few [] k d few inside = absurd (omega arith)
member_few (s ∷ l) zero d few inside = few.0
member_few (s ∷ l) (suc k) d few inside = member_few l k d few.1 (omega arith)
