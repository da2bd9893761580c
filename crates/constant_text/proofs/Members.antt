-- The zeros of arrays, and of members one by one.
use Rattle.std.proofs.Common.{◌≡◌, ◌≤◌, ◌<◌, ℕ, suc, ◌+◌, List, [], ◌∷◌, ◌++◌, refl, ap, sym, ◌∙◌, arith, drop, length, get_or, Vec, Global}
use Rattle.std.proofs.Math.ListN.{drop_of_length-le}
use Rattle.std.proofs.Math.Seq.{drop-cons}
use Rattle.spv_module.specs.declared.inst.Id.{Id}
use Rattle.spv_module.specs.declared.tree.Shape.{Shape}
use Rattle.spv_module.specs.declared.tree.Shape as shapes
use Rattle.spv_module.specs.declared.tree.Length.{Length}
use Rattle.spv_module.specs.declared.tree.Length.TheVariants.{Fixed, Spec}
use Rattle.spv_types.specs.Tree.{Tree, array, struct}
use Rattle.spv_types.specs.View.{tree_of, trees_of}
use Rattle.spv_types.proofs.Views.{shape-Struct}
use Rattle.glsl_ast.specs.Tree as tree
use Rattle.glsl_ast.specs.Tree.{TypeName, build, Exprs, no_exprs, expr}
use Rattle.glsl_ast.specs.View.{expr_of, exprs_of}
use Rattle.glsl_ast.specs.declared.expressions.Expr.{Expr}
use Rattle.text_rules.specs.Types.{Spelling, type_text, zero_text, zero_texts}
use Rattle.constant_text.specs.Zeros.{array_zeros}

-- the zero of an array has that of each part
pub array_zero : (s : Spelling) (t : Tree) (l : Length) → zero_text s (array t l) ≡ build (type_text s (array t l)) (array_zeros s t l)
array_zero s t (Fixed n) = refl
array_zero s t (Spec id) = refl

-- the zero of a struct has those of its members
pub struct_zero : (s : Spelling) (shape : Shape) (id : Id) (members : Vec Shape Global) (ty : TypeName) (parts : Exprs) (e : tree.Expr) → shape ≡ shapes.Struct id members → e ≡ build ty parts → ty ≡ type_text s (tree_of shape) → parts ≡ zero_texts s (trees_of members.items) → e ≡ zero_text s (tree_of shape)
struct_zero s shape id members ty parts e is made types zeros =
    let t : tree_of shape ≡ struct id.0 (trees_of members.items) = ap tree_of is ∙ shape-Struct id members in
    made ∙ (ap (λ x. build x parts) types ∙ (ap (build (type_text s (tree_of shape))) zeros ∙ (ap (λ u. build (type_text s u) (zero_texts s (trees_of members.items))) t ∙ sym (ap (zero_text s) t))))

-- these expressions before others
abbrev pub front : List Expr → Exprs → Exprs
front [] more = more
front (e ∷ es) more = expr (expr_of e) (front es more)

pub front_push : (es : List Expr) (e : Expr) (more : Exprs) → front (es ++ e ∷ []) more ≡ front es (expr (expr_of e) more)
front_push [] e more = refl
front_push (x ∷ es) e more = ap (expr (expr_of x)) (front_push es e more)

front_all : (es : List Expr) → front es no_exprs ≡ exprs_of es
front_all [] = refl
front_all (e ∷ es) = ap (expr (expr_of e)) (front_all es)

pub zeros_next : (s : Spelling) (l : List Shape) (i : ℕ) (d : Shape) → i < length l → zero_texts s (trees_of (drop i l)) ≡ expr (zero_text s (tree_of (get_or l i d))) (zero_texts s (trees_of (drop (i + 1) l)))
zeros_next s l i d inside = ap (λ m. zero_texts s (trees_of m)) (drop-cons l i d inside) ∙ ap (λ n. expr (zero_text s (tree_of (get_or l i d))) (zero_texts s (trees_of (drop n l)))) (let more : suc i ≡ i + 1 = omega arith in more)

pub zeros_end : (s : Spelling) (l : List Shape) (i : ℕ) (es : List Expr) → length l ≤ i → front es (zero_texts s (trees_of (drop i l))) ≡ exprs_of es
zeros_end s l i es past = ap (λ m. front es (zero_texts s (trees_of m))) (drop_of_length-le l past) ∙ front_all es

pub ruleset member_rules = (front_push, zeros_next, zeros_end)
