-- The statements of a block, computed: the element with an invocation's number is read, increased and written.
use Rattle.std.specs.Prelude.{ℕ, ◌≡◌, ◌==◌, ◌||◌, false, List, [], ◌∷◌, None, Some, refl, codes, if◌then◌else◌}
use Rattle.spv_ops.specs.Opcode.{number as number_of_op}
use Rattle.spv_ops.specs.OpGroups.{group_of}
use Rattle.spv_ops.specs.Enumerants.{class_number, decoration_number}
use Rattle.spv_ops.specs.declared.Op.{Op}
use Rattle.spv_ops.specs.declared.Op.TheVariants as op
use Rattle.spv_ops.specs.declared.Decoration.TheVariants as decoration
use Rattle.spv_ops.specs.declared.StorageClass.{StorageClass}
use Rattle.spv_ops.specs.declared.StorageClass.TheVariants as storage
use Rattle.spv_module.specs.State.{ModuleState}
use Rattle.spv_module.specs.declared.inst.Inst.{Inst}
use Rattle.spv_module.specs.declared.inst.Function.{Function}
use Rattle.spv_types.specs.Types.{kind, below}
use Rattle.spv_decor.specs.Rows.{key_of}
use Rattle.profile_rules.specs.Constants.{constant_kind}
use Rattle.name_alloc.specs.declared.claims.Key.{Key}
use Rattle.name_alloc.specs.declared.claims.Key.TheVariants.{Id, Member}
use Rattle.hoist_plan.specs.declared.form.Form.TheVariants.{Forwarded, Local}
use Rattle.glsl_ast.specs.Tree as text
use Rattle.glsl_ast.specs.Tree.{Text, Expr, name, literal, binary, member, index, declare, assign, lvalue, type_name, uint}
use Rattle.glsl_ast.specs.declared.expressions.Literal.TheVariants.{Uint}
use Rattle.glsl_ast.specs.declared.expressions.BinOp.TheVariants.{Add}
use Rattle.vec_lowering.specs.Component.{axis_name}
use Rattle.expr_forward.specs.Scope.{Scope, Argument}
use Rattle.expr_forward.specs.Paths.{literal_word}
use Rattle.expr_forward.specs.Kinds.{kind_of, operation_kind_of}
use Rattle.expr_forward.specs.Values.{value_in}
use Rattle.expr_forward.specs.Statements.{block_text}

inst : ℕ → Op → ℕ → ℕ → List ℕ → Inst
inst at o ty result args = record { op = o; at = at; ty = ty; result = result; args = args }

abbrev pointer : ℕ → ℕ → StorageClass → ℕ → Inst
pointer at result c to = inst at op.TypePointer 0 result (class_number c ∷ to ∷ [])

abbrev variable : ℕ → ℕ → ℕ → StorageClass → Inst
variable at ty result c = inst at op.Variable ty result (class_number c ∷ [])

abbrev types : ModuleState
types = record {
  bound = 64;
  heads = inst 1 op.Decorate 0 0 (3 ∷ decoration_number decoration.Block ∷ []) ∷ [];
  globals =
      inst 2 op.TypeInt 0 8 (32 ∷ 0 ∷ []) ∷ inst 3 op.TypeVector 0 9 (8 ∷ 3 ∷ []) ∷ pointer 4 10 storage.Input 9 ∷ variable 5 10 2 storage.Input ∷ pointer 6 11 storage.Input 8 ∷
      inst 7 op.TypeRuntimeArray 0 4 (8 ∷ []) ∷ inst 8 op.TypeStruct 0 3 (4 ∷ []) ∷ pointer 9 12 storage.StorageBuffer 3 ∷ variable 10 12 5 storage.StorageBuffer ∷ pointer 11 13 storage.StorageBuffer 8 ∷
      inst 12 op.Constant 8 14 (0 ∷ []) ∷ inst 13 op.Constant 8 15 (1 ∷ []) ∷ [];
  functions = [];
}

abbrev increment : Function
increment = record {
  id = record { 0 = 1 };
  ty = record { 0 = 7 };
  result = record { 0 = 6 };
  at = 14;
  params = [];
  blocks = record {
    label = record { 0 = 16 };
    at = 15;
    insts =
        inst 16 op.AccessChain 11 17 (2 ∷ 14 ∷ []) ∷ inst 17 op.Load 8 18 (17 ∷ []) ∷ inst 18 op.AccessChain 13 19 (5 ∷ 14 ∷ 18 ∷ []) ∷ inst 19 op.Load 8 20 (19 ∷ []) ∷
        inst 20 op.IAdd 8 21 (20 ∷ 15 ∷ []) ∷ inst 21 op.Store 0 0 (19 ∷ 21 ∷ []) ∷ inst 22 op.Return 0 0 [] ∷ [];
  } ∷ [];
}

-- names are lists of numbers here
key : Key → Text
key (Id n) = 1 ∷ n.0 ∷ []
key (Member n k) = 2 ∷ n.0 ∷ k ∷ []
key _ = []

-- OpIAdd alone
added : List Argument → Expr
added (a ∷ b ∷ []) = binary Add a.expr b.expr
added _ = literal (Uint 0)

abbrev scope : Scope
scope = record {
  setting = record {
    source = record { of = types; entry = 1; overrides = [] };
    function = increment;
    key = key;
    global = λ n. if n == 2 then Some (name (codes "gl_GlobalInvocationID")) else (if n == 14 then Some (literal (Uint 0)) else (if n == 15 then Some (literal (Uint 1)) else None));
  };
  form = λ n. if (n == 18) || (n == 20) then Local else Forwarded;
  carried = λ n. false;
  names = record { id = λ n. 1 ∷ n ∷ []; block = λ v s. []; member = λ s k. []; calculated = λ g. literal (Uint 0) };
  lowered = λ o number t args literals. added args;
}

incremented : block_text scope 0 ≡
    declare (type_name uint []) (1 ∷ 18 ∷ []) (Some (member (name (codes "gl_GlobalInvocationID")) (codes "x"))) ∷
    declare (type_name uint []) (1 ∷ 20 ∷ []) (Some (index (member (name (1 ∷ 5 ∷ [])) (2 ∷ 3 ∷ 0 ∷ [])) (name (1 ∷ 18 ∷ [])))) ∷
    assign (lvalue (1 ∷ 5 ∷ []) (text.LStep.member (2 ∷ 3 ∷ 0 ∷ []) ∷ text.LStep.index (name (1 ∷ 18 ∷ [])) ∷ [])) (binary Add (name (1 ∷ 20 ∷ [])) (literal (Uint 1))) ∷ []
unfolding number_of_op inst kind below key_of constant_kind axis_name kind_of operation_kind_of group_of literal_word value_in key added
incremented = refl
