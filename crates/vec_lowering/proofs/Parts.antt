-- The parts of composites, one by one.
use Rattle.std.proofs.Common.{◌≡◌, ◌≤◌, ◌<◌, ℕ, zero, suc, ◌+◌, List, [], ◌∷◌, ◌++◌, refl, ap, ◌∙◌, arith, drop, length, get_or, map}
use Rattle.std.proofs.Math.ListN.{drop_of_length-le}
use Rattle.std.proofs.Math.Seq.{drop-cons}
use Rattle.spv_module.specs.declared.tree.Shape.{Shape}
use Rattle.spv_types.specs.Tree.{Tree, Trees, boolean}
use Rattle.spv_types.specs.View.{tree_of, trees_of}
use Rattle.glsl_ast.specs.Tree.{Expr, Exprs, no_exprs, expr}
use Rattle.glsl_ast.specs.View.{expr_of, exprs_of}
use Rattle.glsl_ast.specs.declared.expressions.Expr.{Expr as Code}
use Rattle.vec_lowering.specs.Named.{Naming}
use Rattle.int_lowering.specs.declared.operands.Arg.{Arg}
use Rattle.int_lowering.specs.Operand.{operand_of}
use Rattle.vec_lowering.specs.Component.{each_below}
use Rattle.vec_lowering.specs.Composite.{argument_of, operand, nth_or, member_of, copied, copied_parts}

pub nth_in : (l : List Shape) (k : ℕ) (d : Shape) (other : Tree) → k < length l → nth_or (trees_of l) k other ≡ tree_of (get_or l k d)
nth_in [] k d other inside = absurd (omega arith)
nth_in (s ∷ l) zero d other inside = refl
nth_in (s ∷ l) (suc k) d other inside = nth_in l k d other (omega arith)

pub nth_past : (l : List Shape) (k : ℕ) (other : Tree) → length l ≤ k → nth_or (trees_of l) k other ≡ other
nth_past [] k other past = refl
nth_past (s ∷ l) zero other past = absurd (omega arith)
nth_past (s ∷ l) (suc k) other past = nth_past l k other (omega arith)

pub ruleset nth_rules = (nth_in, nth_past)

-- these expressions before others
abbrev pub front : List Code → Exprs → Exprs
front [] more = more
front (e ∷ es) more = expr (expr_of e) (front es more)

pub front_push : (es : List Code) (e : Code) (more : Exprs) → front (es ++ e ∷ []) more ≡ front es (expr (expr_of e) more)
front_push [] e more = refl
front_push (x ∷ es) e more = ap (expr (expr_of x)) (front_push es e more)

front_all : (es : List Code) → front es no_exprs ≡ exprs_of es
front_all [] = refl
front_all (e ∷ es) = ap (expr (expr_of e)) (front_all es)

pub copies_next : (names : Naming) (l : List Shape) (id : ℕ) (from : Trees) (k : ℕ) (e : Expr) (d : Shape) → k < length l →
    copied_parts names (trees_of (drop k l)) id from k e ≡ expr (copied names (tree_of (get_or l k d)) (nth_or from k boolean) (member_of names e id k)) (copied_parts names (trees_of (drop (k + 1) l)) id from (k + 1) e)
copies_next names l id from k e d inside =
    ap (λ m. copied_parts names (trees_of m) id from k e) (drop-cons l k d inside)
    ∙ ap (λ n. expr (copied names (tree_of (get_or l k d)) (nth_or from k boolean) (member_of names e id k)) (copied_parts names (trees_of (drop n l)) id from (k + 1) e)) (let more : suc k ≡ k + 1 = omega arith in more)

pub copies_end : (names : Naming) (l : List Shape) (id : ℕ) (from : Trees) (k : ℕ) (e : Expr) (es : List Code) → length l ≤ k → front es (copied_parts names (trees_of (drop k l)) id from k e) ≡ exprs_of es
copies_end names l id from k e es past = ap (λ m. front es (copied_parts names (trees_of m) id from k e)) (drop_of_length-le l past) ∙ front_all es

pub ruleset copy_rules = (front_push, copies_next, copies_end)

-- one more of the numbers below n
map_push : (es : List Code) (e : Code) → map expr_of (es ++ e ∷ []) ≡ map expr_of es ++ expr_of e ∷ []
map_push [] e = refl
map_push (x ∷ es) e = ap (λ l. expr_of x ∷ l) (map_push es e)

pub pushed_below : (es : List Code) (e : Code) (n : ℕ) (f : ℕ → Expr) → map expr_of es ≡ each_below n f → expr_of e ≡ f n → map expr_of (es ++ e ∷ []) ≡ each_below (n + 1) f
pushed_below es e n f below is =
    map_push es e
    ∙ ap (λ l. l ++ expr_of e ∷ []) below
    ∙ ap (λ x. each_below n f ++ x ∷ []) is
    ∙ ap (λ m. each_below m f) (let more : suc n ≡ n + 1 = omega arith in more)

-- operands of basic types, from arguments
pub operands_of : (l : List Arg) → map operand (map argument_of l) ≡ map operand_of l
operands_of [] = refl
operands_of (a ∷ l) = ap (λ xs. operand_of a ∷ xs) (operands_of l)
