-- The items of a text, computed on modules.
use Rattle.std.specs.Prelude.{ℕ, ◌≡◌, true, false, List, [], ◌∷◌, None, refl, codes}
use Rattle.spv_module.specs.State.{ModuleState}
use Rattle.spv_module.specs.declared.inst.Inst.{Inst}
use Rattle.spv_module.specs.declared.inst.Function.{Function}
use Rattle.profile_rules.specs.declared.given.Given.{Given}
use Rattle.profile_rules.specs.declared.given.Given.TheVariants.{Decimal}
use Rattle.profile_rules.specs.Constants.{constant_kind}
use Rattle.spv_types.specs.Types.{kind, below}
use Rattle.spv_decor.specs.Rows.{key_of}
use Rattle.spv_ops.specs.Operands.{is_id, inner_of}
use Rattle.spv_ops.specs.Opcode.{number as number_of_op, op_of}
use Rattle.spv_ops.specs.declared.Op.{Op}
use Rattle.spv_ops.specs.declared.Op.TheVariants as op
use Rattle.spv_ops.specs.declared.Decoration.{Decoration}
use Rattle.spv_ops.specs.declared.Decoration.TheVariants as decoration
use Rattle.spv_ops.specs.declared.BuiltIn.TheVariants as built
use Rattle.spv_ops.specs.declared.StorageClass.{StorageClass}
use Rattle.spv_ops.specs.declared.StorageClass.TheVariants as storage
use Rattle.spv_ops.specs.Enumerants.{class_number, decoration_number, built_in_number}
use Rattle.glsl_ast.specs.Tree.{Text, Expr, name, literal, member, build, exprs_in, type_name, uint, uint_vec, Decl, shared, struct, constant, block, field, size, number, open_end}
use Rattle.glsl_ast.specs.Tree as tree
use Rattle.glsl_ast.specs.declared.expressions.Literal.TheVariants.{Uint}
use Rattle.glsl_ast.specs.declared.items.BlockPlace.TheVariants.{Set}
use Rattle.glsl_ast.specs.declared.items.BlockRules.TheVariants.{Std430}
use Rattle.glsl_ast.specs.declared.items.Qual.TheVariants.{Readonly}
use Rattle.layout_rules.specs.Rules.{breaks}
use Rattle.layout_rules.specs.Sizes.{aligned}
use Rattle.layout_rules.specs.Blocks.{member_breaks, members_break}
use Rattle.text_rules.specs.Constants.{Source, sizes}
use Rattle.text_rules.specs.Printed.{Reached}
use Rattle.text_rules.specs.Declarations.{Names, declarations}
use Rattle.text_rules.specs.Claims.{claims}
use Rattle.spv_module.specs.Lists.{id}
use Rattle.name_alloc.specs.declared.claims.Key.TheVariants.{Main, Id, Block as BlockOf, Member}

inst : ℕ → Op → ℕ → ℕ → List ℕ → Inst
inst at o ty result args = record { op = o; at = at; ty = ty; result = result; args = args }

abbrev decorate : ℕ → ℕ → Decoration → List ℕ → Inst
decorate at target d literals = inst at op.Decorate 0 0 (target ∷ decoration_number d ∷ literals)

abbrev decorate_member : ℕ → ℕ → ℕ → Decoration → ℕ → Inst
decorate_member at target m d n = inst at op.MemberDecorate 0 0 (target ∷ m ∷ decoration_number d ∷ n ∷ [])

abbrev pointer : ℕ → ℕ → StorageClass → ℕ → Inst
pointer at result c to = inst at op.TypePointer 0 result (class_number c ∷ to ∷ [])

abbrev variable : ℕ → ℕ → ℕ → StorageClass → List ℕ → Inst
variable at ty result c initial = inst at op.Variable ty result (class_number c ∷ initial)

-- the parts of the size of workgroups are a specialization constant, which is the length of an array too, and ones
abbrev sized : ModuleState
sized = record {
  bound = 64;
  heads = decorate 1 24 decoration.SpecId (3 ∷ []) ∷ decorate 2 26 decoration.BuiltIn (built_in_number built.WorkgroupSize ∷ []) ∷ [];
  globals =
      inst 3 op.TypeInt 0 8 (32 ∷ 0 ∷ []) ∷ inst 4 op.SpecConstant 8 24 (64 ∷ []) ∷ inst 5 op.Constant 8 25 (1 ∷ []) ∷ inst 6 op.TypeVector 0 9 (8 ∷ 3 ∷ []) ∷
      inst 7 op.SpecConstantComposite 9 26 (24 ∷ 25 ∷ 25 ∷ []) ∷ inst 8 op.TypeArray 0 27 (8 ∷ 24 ∷ []) ∷ pointer 9 28 storage.Workgroup 27 ∷ variable 10 28 30 storage.Workgroup [] ∷ [];
  functions = [];
}

abbrev body : Function
body = record {
  id = record { 0 = 1 };
  ty = record { 0 = 7 };
  result = record { 0 = 6 };
  at = 11;
  params = [];
  blocks = record { label = record { 0 = 16 }; at = 12; insts = inst 13 op.AccessChain 31 32 (30 ∷ 25 ∷ []) ∷ inst 14 op.Return 0 0 [] ∷ [] } ∷ [];
}

abbrev plain_names : Names
plain_names = record { id = λ id. id ∷ []; block = λ v s. v ∷ s ∷ []; member = λ s k. s ∷ k ∷ []; calculated = λ g. literal (Uint 0) }

abbrev source_with : List (ℕ × Given) → Source
source_with overrides = record { of = sized; entry = 1; overrides = overrides }

abbrev reached : Reached
reached = record { functions = body ∷ []; types = []; mentions = [] }

sized_by_id : sizes (source_with []) ≡
    record { axis = 0; by_id = false; number = 64 } ∷ record { axis = 0; by_id = true; number = 3 } ∷
    record { axis = 1; by_id = false; number = 1 } ∷ record { axis = 2; by_id = false; number = 1 } ∷ []
unfolding inst key_of number_of_op
sized_by_id = refl

sized_by_override : sizes (source_with ((3, Decimal 128) ∷ [])) ≡
    record { axis = 0; by_id = false; number = 128 } ∷
    record { axis = 1; by_id = false; number = 1 } ∷ record { axis = 2; by_id = false; number = 1 } ∷ []
unfolding inst key_of number_of_op
sized_by_override = refl

shared_of_size : declarations (source_with []) reached plain_names ≡
    shared (type_name uint (size (codes "x") ∷ [])) (30 ∷ []) ∷ []
unfolding inst key_of kind below constant_kind is_id inner_of op_of number_of_op
shared_of_size = refl

shared_of_override : declarations (source_with ((3, Decimal 128) ∷ [])) reached plain_names ≡
    shared (type_name uint (number 128 ∷ [])) (30 ∷ []) ∷ []
unfolding inst key_of kind below constant_kind is_id inner_of op_of number_of_op
shared_of_override = refl

-- a struct in a buffer block; a struct of that shape that nothing has; a composite that the initializer of a Private variable needs, and one that nothing needs; a calculated constant in a composite
abbrev items : ModuleState
items = record {
  bound = 64;
  heads =
      decorate 1 9 decoration.Block [] ∷ decorate_member 2 9 0 decoration.Offset 0 ∷ decorate_member 2 3 0 decoration.Offset 0 ∷ decorate_member 2 3 1 decoration.Offset 4 ∷
      decorate 2 4 decoration.ArrayStride (8 ∷ []) ∷ decorate 2 5 decoration.DescriptorSet (1 ∷ []) ∷ decorate 2 5 decoration.Binding (2 ∷ []) ∷ decorate 2 5 decoration.NonWritable [] ∷ [];
  globals =
      inst 3 op.TypeInt 0 8 (32 ∷ 0 ∷ []) ∷ inst 4 op.TypeStruct 0 3 (8 ∷ 8 ∷ []) ∷ inst 5 op.TypeRuntimeArray 0 4 (3 ∷ []) ∷ inst 6 op.TypeStruct 0 9 (4 ∷ []) ∷ pointer 7 11 storage.StorageBuffer 9 ∷
      variable 8 11 5 storage.StorageBuffer [] ∷ inst 9 op.TypeStruct 0 10 (8 ∷ 8 ∷ []) ∷ inst 10 op.Constant 8 14 (7 ∷ []) ∷ inst 11 op.SpecConstantOp 8 15 (number_of_op op.IAdd ∷ 14 ∷ 14 ∷ []) ∷ inst 12 op.TypeVector 0 16 (8 ∷ 2 ∷ []) ∷
      inst 13 op.ConstantComposite 16 17 (14 ∷ 15 ∷ []) ∷ inst 14 op.ConstantComposite 16 18 (14 ∷ 14 ∷ []) ∷ pointer 15 19 storage.Private 16 ∷ variable 16 19 20 storage.Private (17 ∷ []) ∷ [];
  functions = [];
}

abbrev reading_both : Function
reading_both = record {
  id = record { 0 = 1 };
  ty = record { 0 = 7 };
  result = record { 0 = 6 };
  at = 17;
  params = [];
  blocks = record { label = record { 0 = 26 }; at = 18; insts = inst 19 op.Load 16 30 (20 ∷ []) ∷ inst 20 op.AccessChain 31 32 (5 ∷ 14 ∷ []) ∷ inst 21 op.Return 0 0 [] ∷ [] } ∷ [];
}

abbrev with_sum : Names
with_sum = record { id = λ id. id ∷ []; block = λ v s. v ∷ s ∷ []; member = λ s k. s ∷ k ∷ []; calculated = λ g. name (codes "sum") }

items_in_order : declarations (record { of = items; entry = 1; overrides = [] }) (record { functions = reading_both ∷ []; types = 16 ∷ []; mentions = 20 ∷ [] }) with_sum ≡
    struct (3 ∷ []) (field (type_name uint []) (3 ∷ 0 ∷ []) ∷ field (type_name uint []) (3 ∷ 1 ∷ []) ∷ []) ∷
    block (Set 1 2) Std430 (Readonly ∷ []) true (5 ∷ 9 ∷ [])
    (tree.member 0 [] (type_name (tree.struct (3 ∷ [])) (open_end ∷ [])) (9 ∷ 0 ∷ []) ∷ []) (5 ∷ []) ∷
    constant None (type_name uint []) (15 ∷ []) (name (codes "sum")) ∷
    constant None (type_name (uint_vec 2) []) (17 ∷ []) (build (type_name (uint_vec 2) []) (exprs_in (literal (Uint 7) ∷ name (15 ∷ []) ∷ []))) ∷
    tree.global (type_name (uint_vec 2) []) (20 ∷ []) (name (17 ∷ [])) ∷ []
unfolding inst key_of kind below constant_kind is_id inner_of op_of number_of_op breaks member_breaks members_break aligned
items_in_order = refl

-- the claims of these items, in the order in which the module defines them; a block's members are claimed where its struct stands
claims_in_order : claims (record { of = items; entry = 1; overrides = [] }) (record { functions = reading_both ∷ []; types = 16 ∷ []; mentions = 20 ∷ [] }) [] ≡
    (Main, None) ∷ (Id (id 3), None) ∷ (Member (id 3) 0, None) ∷ (Member (id 3) 1, None) ∷ (Member (id 9) 0, None) ∷ (Id (id 5), None) ∷ (BlockOf (id 5) (id 9), None) ∷
    (Id (id 15), None) ∷ (Id (id 17), None) ∷ (Id (id 20), None) ∷ []
unfolding inst key_of kind below constant_kind is_id inner_of op_of number_of_op
claims_in_order = refl
