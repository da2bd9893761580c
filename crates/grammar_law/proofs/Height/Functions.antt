-- A function's text is at most 1,003 high, where at most 129 constructs stand in one another.
use Rattle.std.proofs.Common.{◌≡◌, ◌≤◌, ℕ, Bool, true, false, List, ◌++◌, Option, Some, None, filter, map, refl, subst, arith, if◌then◌else◌, unwrap_or}
use Rattle.std.specs.Prelude.{option_map, slice_get}
use Rattle.std.specs.Option.{option_map_or}
use Rattle.spv_module.specs.Lists.{id}
use Rattle.spv_module.specs.Held.{global}
use Rattle.spv_module.specs.declared.inst.Inst.{Inst}
use Rattle.spv_module.specs.declared.inst.Block.{Block}
use Rattle.spv_module.specs.declared.inst.Id.{Id as IdOf}
use Rattle.name_alloc.specs.declared.claims.Key.TheVariants.{Id}
use Rattle.phi_copies.specs.declared.moves.Src.{Src}
use Rattle.phi_copies.specs.declared.moves.Src.TheVariants.{Var as Variable, Constant}
use Rattle.phi_copies.specs.declared.moves.Move.{Move}
use Rattle.phi_copies.specs.declared.moves.Move.TheVariants.{Set, Save, Restore}
use Rattle.vec_lowering.specs.Depth.{depth}
use Rattle.glsl_ast.specs.declared.expressions.Literal.TheVariants.{Uint}
use Rattle.glsl_ast.specs.Tree.{Text, Expr, literal, name, TypeName, Stmt}
use Rattle.glsl_ast.specs.Height.{highest, highest_in, height, type_height, param_height, stmt_height, decl_height}
use Rattle.text_rules.specs.declared.readings.Reading.{Reading}
use Rattle.text_rules.specs.declared.readings.Reading.TheVariants.{Plain, Named, GroupSize, GroupSizePart}
use Rattle.text_rules.specs.Constants.{Source, reading, expr_by, constant_expr}
use Rattle.text_rules.specs.Declarations.{Names, spelling, shape_at, type_at, pointee_at, zero_at, expr_at, initial}
use Rattle.expr_forward.specs.Scope.{type_of}
use Rattle.expr_forward.specs.Values.{value}
use Rattle.expr_forward.specs.Statements.{is_void, captured_of}
use Rattle.control_text.specs.Statements.{function_text}
use Rattle.function_text.specs.Functions.{FunctionPlan, written, source_expr, move_text, first_operand, returned, result_text, blocks_of, variable_text, hoisted_text, is_hoisted_in, captured_text, variables_text, hoisted_texts, captured_texts_of, captured_texts, in_blocks, top_text, param_text, body_text, function_decl}
use Rattle.list_law.proofs.Numbers.{le_on}
use Rattle.profile_rules.specs.Places.{is_variable}
use Rattle.grammar_law.specs.Shallow.{IsShallow}
use Rattle.grammar_law.specs.Nest.{nest}
use Rattle.grammar_law.specs.Written.{AreLow}
use Rattle.grammar_law.proofs.Height.Lists.{append-le, map-le, flat-le, stmts-le, type-le, zero-le}
use Rattle.grammar_law.proofs.Height.Values.{value-le}
use Rattle.grammar_law.proofs.Height.Statements.{block-le}
use Rattle.grammar_law.proofs.Height.Regions.{region-le}

-- constants
read-le : (s : Source) (ids : ℕ → Text) (g : Inst) (r : Reading) → height (expr_by s ids g r) ≤ 3
read-le s ids g Plain = omega arith
read-le s ids g Named = omega arith
read-le s ids g GroupSize = omega arith
read-le s ids g (GroupSizePart axis) = omega arith

pub constant-le : (s : Source) (ids : ℕ → Text) (g : Inst) → height (constant_expr s ids g) ≤ 3
constant-le s ids g = read-le s ids g (reading s g)

pub constant-at-le : (s : Source) (names : Names) (n : ℕ) → height (expr_at s names n) ≤ 3
constant-at-le s names n = by_global (global s.of.globals n)
  where
    by_global : (o : Option Inst) → height (option_map_or (constant_expr s names.id) o (literal (Uint 0))) ≤ 3
    by_global None = omega arith
    by_global (Some g) = constant-le s names.id g

-- the first value of a variable
pub initial-le : (s : Source) (names : Names) (g : Inst) → ((ty : ℕ) → depth (shape_at s ty) ≤ 15) → height (initial s names g) ≤ 17
initial-le s names g shapes = by_operand (slice_get g.args 1)
  where
    by_operand : (o : Option ℕ) → height (option_map_or (expr_at s names) o (zero_at s names (pointee_at s g.ty))) ≤ 17
    by_operand None = let zero = zero-le (spelling s names.id) (shape_at s (pointee_at s g.ty)) in let deep = shapes (pointee_at s g.ty) in omega (arith, zero, deep)
    by_operand (Some n) = le_on _ _ _ (constant-at-le s names n) (omega arith)

filter-le : (f : Inst → Stmt) (test : Inst → Bool) (is : List Inst) (n : ℕ) → ((i : Inst) → stmt_height (f i) ≤ n) → highest stmt_height (map f (filter test is)) ≤ n
filter-le f test is n each = map-le stmt_height f (filter test is) n each

module _ (p : FunctionPlan) (low : IsShallow p.scope) where
  -- the copies of an edge
  read-constant-le : (o : Option Expr) (t : Text) → ((e : Expr) → o ≡ Some e → height e ≤ 3) → height (unwrap_or o (name t)) ≤ 3
  read-constant-le None t each = omega arith
  read-constant-le (Some e) t each = each e refl

  source-le : (source : Src) → height (source_expr p.scope source) ≤ 3
  source-le (Variable v) = omega arith
  source-le (Constant c) = read-constant-le (p.scope.setting.global c.0) (p.scope.setting.key (Id (id c.0))) (low.constants c.0)

  move-le : (b t : ℕ) (m : Move) → stmt_height (move_text p b t m) ≤ 743
  move-le b t (Set v source) = let one = source-le source in omega (arith, one)
  move-le b t (Save k v) = let one = type-le (type_at p.scope.setting.source p.scope.names (type_of p.scope v.0)) in omega (arith, one)
  move-le b t (Restore v k) = omega arith

  result-le : (b : ℕ) (e : Expr) → result_text p b ≡ Some e → height e ≤ 743
  result-le b e is = by_value (returned (written p) b) is
    where
      by_value : (o : Option ℕ) → option_map (value p.scope b) o ≡ Some e → height e ≤ 743
      by_value None is = cc
      by_value (Some n) is = let same : value p.scope b n ≡ e = cc in le_on _ _ _ (subst (λ x. height x ≤ 702) same (value-le p.scope low b n)) (omega arith)

  blocks-low : AreLow (blocks_of p) 743
  blocks-low = record {
    some = omega arith;
    statements = block-le p.scope low;
    condition = λ b. le_on _ _ _ (value-le p.scope low b (first_operand (written p) b)) (omega arith);
    value = result-le;
    copies = λ b t. map-le stmt_height (move_text p b t) (p.moves b t) 743 (move-le b t);
  }

  -- what stands at the top
  variable-le : (i : Inst) → stmt_height (variable_text p.scope i) ≤ 18
  variable-le i =
      let first = initial-le p.scope.setting.source p.scope.names i low.shapes in
      let ty = type-le (type_at p.scope.setting.source p.scope.names (pointee_at p.scope.setting.source i.ty)) in
      omega (arith, first, ty)

  hoisted-le : (i : Inst) → stmt_height (hoisted_text p.scope i) ≤ 18
  hoisted-le i = let ty = type-le (type_at p.scope.setting.source p.scope.names i.ty) in omega (arith, ty)

  captured-le : (i : Inst) (n : ℕ × ℕ) → stmt_height (captured_text p.scope i n) ≤ 18
  captured-le i n = let ty = type-le (type_at p.scope.setting.source p.scope.names (type_of p.scope n.1)) in omega (arith, ty)

  variables-le : (is : List Inst) → highest stmt_height (variables_text p.scope is) ≤ 18
  variables-le is = filter-le (variable_text p.scope) is_variable is 18 variable-le

  all-hoisted-le : (is : List Inst) → highest stmt_height (hoisted_texts p.scope is) ≤ 18
  all-hoisted-le is = filter-le (hoisted_text p.scope) (is_hoisted_in p.scope) is 18 hoisted-le

  all-captured-le : (is : List Inst) → highest stmt_height (captured_texts p.scope is) ≤ 18
  all-captured-le is = flat-le stmt_height (captured_texts_of p.scope) is 18 (λ i. map-le stmt_height (captured_text p.scope i) (captured_of p.scope i) 18 (captured-le i))

  blocks-le : (f : List Inst → List Stmt) (bs : List Block) → ((is : List Inst) → highest stmt_height (f is) ≤ 18) → highest stmt_height (in_blocks f bs) ≤ 18
  blocks-le f bs each = flat-le stmt_height (λ (b : Block). f b.insts) bs 18 (λ b. each b.insts)

  top-le : (bs : List Block) → highest stmt_height (top_text p.scope bs) ≤ 18
  top-le bs =
      append-le stmt_height (in_blocks (variables_text p.scope) bs) (in_blocks (hoisted_texts p.scope) bs ++ in_blocks (captured_texts p.scope) bs) 18 (blocks-le (variables_text p.scope) bs variables-le)
      (append-le stmt_height (in_blocks (hoisted_texts p.scope) bs) (in_blocks (captured_texts p.scope) bs) 18 (blocks-le (hoisted_texts p.scope) bs all-hoisted-le) (blocks-le (captured_texts p.scope) bs all-captured-le))

  param-le : (q : IdOf × IdOf) → param_height (param_text p.scope q) ≤ 3
  param-le q = let ty = type-le (type_at p.scope.setting.source p.scope.names (pointee_at p.scope.setting.source q.1.0)) in omega (arith, ty)

  given-le : (b : Bool) (t : TypeName) → highest_in type_height (if b then None else Some t) ≤ 2
  given-le true t = omega arith
  given-le false t = type-le t

  body-le : nest p.region ≤ 129 → highest stmt_height (body_text p) ≤ 1002
  body-le few =
      append-le stmt_height (top_text p.scope (written p).blocks) (function_text (blocks_of p) p.region) 1002 (le_on _ _ _ (top-le (written p).blocks) (omega arith))
      (le_on _ _ _ (region-le (blocks_of p) 743 blocks-low (record { in_loop = None; continues = false; in_switch = false }) p.region) (omega (arith, few)))

  pub function-le : nest p.region ≤ 129 → decl_height (function_decl p) ≤ 1003
  function-le few =
      let body = stmts-le (body_text p) 1002 (body-le few) in
      let params = map-le param_height (param_text p.scope) (written p).params 3 param-le in
      let result = given-le (is_void p.scope p.scope.setting.function.result.0) (type_at p.scope.setting.source p.scope.names p.scope.setting.function.result.0) in
      omega (arith, body, params, result)
