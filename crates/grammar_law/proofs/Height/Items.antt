-- The items before the functions are at most 44 high.
use Rattle.std.proofs.Common.{◌≤◌, ℕ, Bool, true, false, List, [], ◌∷◌, Option, Some, None, drop, map, arith, if◌then◌else◌}
use Rattle.std.specs.Option.{option_map_or}
use Rattle.spv_ops.specs.declared.Op.{Op}
use Rattle.spv_module.specs.declared.inst.Inst.{Inst}
use Rattle.spv_module.specs.Held.{global}
use Rattle.profile_rules.specs.declared.constant.ConstantKind.{ConstantKind}
use Rattle.profile_rules.specs.declared.constant.ConstantKind.TheVariants as constant
use Rattle.profile_rules.specs.Constants.{constant_kind, inner_operands, inner_literals}
use Rattle.layout_rules.specs.Blocks.{block_of}
use Rattle.vec_lowering.specs.Named.{Naming}
use Rattle.vec_lowering.specs.Depth.{depth, deepest_argument, highest_argument}
use Rattle.vec_lowering.proofs.Heights.{height-lowered_vector}
use Rattle.int_lowering.specs.Operand.{basic_type}
use Rattle.int_lowering.specs.Lowered.{zero}
use Rattle.glsl_ast.specs.Tree.{Text, exprs_in, Decl, field}
use Rattle.glsl_ast.specs.Height.{highest, height, field_height, member_height, decl_height}
use Rattle.text_rules.specs.Constants.{Source}
use Rattle.text_rules.specs.Printed.{Reached, is_private, is_written_struct, is_declared_constant, is_written_variable}
use Rattle.text_rules.specs.Declarations.{Names, spelling, shape_at, type_at, pointee_at, expr_at, value_by, constant_decl, members, struct_decl, initial, member_decl, block_decl, variable_decl, declaration, declarations}
use Rattle.text_items.specs.Names.{operand_by, operand, inner_opcode, calculated_by, calculated_with}
use Rattle.list_law.proofs.Numbers.{le_on}
use Rattle.grammar_law.proofs.Height.Lists.{map-le, flat-le, exprs-le, build-le, type-le, zero-le}
use Rattle.grammar_law.proofs.Height.Functions.{constant-le, constant-at-le, initial-le}

if-le : (b : Bool) (xs ys : List Decl) (n : ℕ) → highest decl_height xs ≤ n → highest decl_height ys ≤ n → highest decl_height (if b then xs else ys) ≤ n
if-le true xs ys n p q = p
if-le false xs ys n p q = q

if-one-le : (b : Bool) (x y : Decl) (n : ℕ) → decl_height x ≤ n → decl_height y ≤ n → decl_height (if b then x else y) ≤ n
if-one-le true x y n p q = p
if-one-le false x y n p q = q

module _ (s : Source) (shapes : (ty : ℕ) → depth (shape_at s ty) ≤ 15) where
  -- a constant that is calculated
  module _ (keys : Naming) (ids : ℕ → Text) where
    operand-flat : (o : Option Inst) → depth (operand_by s ids o).shape ≤ 15
    operand-flat None = omega arith
    operand-flat (Some g) = shapes g.ty

    operand-le : (o : Option Inst) → height (operand_by s ids o).of ≤ 3
    operand-le None = omega arith
    operand-le (Some g) = constant-le s ids g

    operands-flat : (ns : List ℕ) → deepest_argument (map (operand s ids) ns) ≤ 15
    operands-flat [] = omega arith
    operands-flat (n ∷ ns) = let one = operand-flat (global s.of.globals n) in let rest = operands-flat ns in omega (arith, one, rest)

    operands-le : (ns : List ℕ) → highest_argument (map (operand s ids) ns) ≤ 3
    operands-le [] = omega arith
    operands-le (n ∷ ns) = let one = operand-le (global s.of.globals n) in let rest = operands-le ns in omega (arith, one, rest)

    pub calculated-le : (g : Inst) → height (calculated_with s keys ids g) ≤ 43
    calculated-le g = by_opcode (inner_opcode g)
      where
        by_opcode : (o : Option Op) → height (option_map_or (calculated_by s keys ids g (drop 1 g.args)) o (zero (basic_type (shape_at s g.ty)))) ≤ 43
        by_opcode None = omega arith
        by_opcode (Some o) =
            let high = operands-le (inner_operands o (drop 1 g.args)) in
            le_on _ _ _ (height-lowered_vector keys o 0 (shape_at s g.ty) (inner_literals o (drop 1 g.args)) (map (operand s ids) (inner_operands o (drop 1 g.args))) (shapes g.ty) (operands-flat (inner_operands o (drop 1 g.args)))) (omega (arith, high))

  module _ (names : Names) (calculated : (g : Inst) → height (names.calculated g) ≤ 43) where
    value-le : (g : Inst) (k : ConstantKind) → height (value_by s names g k) ≤ 43
    value-le g constant.Composite = le_on _ _ _ (build-le (type_at s names g.ty) (exprs_in (map (expr_at s names) g.args)) 3 (omega arith) (exprs-le (map (expr_at s names) g.args) 3 (map-le height (expr_at s names) g.args 3 (constant-at-le s names)))) (omega arith)
    value-le g constant.Zero = let zero = zero-le (spelling s names.id) (shape_at s g.ty) in let deep = shapes g.ty in omega (arith, zero, deep)
    value-le g constant.Operation = calculated g
    value-le g constant.True = omega arith
    value-le g constant.False = omega arith
    value-le g constant.Word = omega arith
    value-le g constant.SpecTrue = omega arith
    value-le g constant.SpecFalse = omega arith
    value-le g constant.SpecWord = omega arith
    value-le g constant.Other = omega arith

    constant-decl-le : (g : Inst) → decl_height (constant_decl s names g) ≤ 44
    constant-decl-le g = let ty = type-le (type_at s names g.ty) in let value = value-le g (constant_kind g.op) in omega (arith, ty, value)

    struct-decl-le : (g : Inst) → decl_height (struct_decl s names g) ≤ 44
    struct-decl-le g =
        let fields : highest field_height (map (λ (m : ℕ × ℕ). field (type_at s names m.1) (names.member g.result m.0)) (members g)) ≤ 3 =
        map-le field_height (λ (m : ℕ × ℕ). field (type_at s names m.1) (names.member g.result m.0)) (members g) 3 (λ m. let ty = type-le (type_at s names m.1) in omega (arith, ty)) in
        omega (arith, fields)

    block-decl-le : (v g : Inst) → decl_height (block_decl s names v g) ≤ 44
    block-decl-le v g =
        let fields : highest member_height (map (member_decl s names v g) (members g)) ≤ 3 = map-le member_height (member_decl s names v g) (members g) 3 (λ m. let ty = type-le (type_at s names m.1) in omega (arith, ty)) in
        omega (arith, fields)

    variable-le : (v : Inst) (o : Option Inst) → highest decl_height (variable_decl s names v o) ≤ 44
    variable-le v (Some g) = let one = block-decl-le v g in omega (arith, one)
    variable-le v None =
        let ty = type-le (type_at s names (pointee_at s v.ty)) in
        let first = initial-le s names v shapes in
        let one = if-one-le (is_private v) (Decl.global (type_at s names (pointee_at s v.ty)) (names.id v.result) (initial s names v)) (Decl.shared (type_at s names (pointee_at s v.ty)) (names.id v.result)) 44 (omega (arith, ty, first)) (omega (arith, ty)) in
        omega (arith, one)

    pub items-le : (r : Reached) → highest decl_height (declarations s r names) ≤ 44
    items-le r =
        flat-le decl_height (declaration s r names) s.of.globals 44 (λ g.
        if-le (is_written_struct s r g) (struct_decl s names g ∷ []) _ 44 (let one = struct-decl-le g in omega (arith, one))
        (if-le (is_declared_constant s r g) (constant_decl s names g ∷ []) _ 44 (let one = constant-decl-le g in omega (arith, one))
        (if-le (is_written_variable r g) (variable_decl s names g (block_of s.of.globals g)) [] 44 (variable-le g (block_of s.of.globals g)) (omega arith))))
