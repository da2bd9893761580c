-- What is known of a function, and of where its blocks are written, where its text is low.
use Rattle.std.specs.Prelude.{◌≡◌, ◌≤◌, ◌+◌, ℕ, true, List, drop, length, map, Some}
use Rattle.spv_ops.specs.Groups.{is_chain}
use Rattle.spv_ops.specs.declared.Op.{Op}
use Rattle.spv_module.specs.declared.inst.Inst.{Inst}
use Rattle.spv_module.specs.declared.inst.Function.{Function}
use Rattle.spv_types.specs.Tree.{Tree}
use Rattle.spv_index.specs.Locals.{insts_of}
use Rattle.access_paths.specs.Ways.{base, indexes, path}
use Rattle.plan_law.specs.InOrder.{IsAmong}
use Rattle.glsl_ast.specs.Tree.{Expr}
use Rattle.glsl_ast.specs.Height.{height}
use Rattle.text_rules.specs.Declarations.{shape_at}
use Rattle.vec_lowering.specs.Depth.{depth, deepest_argument, highest_argument}
use Rattle.expr_forward.specs.Scope.{Scope, Argument, globals}
use Rattle.expr_forward.specs.Context.{operand}
use Rattle.expr_forward.specs.Kinds.{operation_kind_of}
use Rattle.expr_forward.specs.declared.kinds.OperationKind.TheVariants.{CompositeExtract}

-- constants and what is built in are read by a literal, a name or a member of one; types are at most 15 deep; an operation makes its operands at most 40 higher; the paths of pointers and the literals by which parts are named lead at most 16 deep
pub record IsShallow (w : Scope) : Type 0 where
  pub constants : (n : ℕ) (e : Expr) → w.setting.global n ≡ Some e → height e ≤ 3
  pub shapes : (ty : ℕ) → depth (shape_at w.setting.source ty) ≤ 15
  pub lowered : (o : Op) (number : ℕ) (t : Tree) (xs : List Argument) (literals : List ℕ) → depth t ≤ 15 → deepest_argument (map operand xs) ≤ 15 → height (w.lowered o number t xs literals) ≤ 40 + highest_argument (map operand xs)
  pub paths : (block pointer : ℕ) → length (path (globals w) w.setting.function block pointer).steps ≤ 16
  pub extracted : (i : Inst) → IsAmong i (insts_of w.setting.function) → operation_kind_of i.op ≡ CompositeExtract → length (drop 1 i.args) ≤ 16

-- of a function alone: the paths of its pointers, and the literals by which parts are named
pub record IsShallowFunction (gs : List Inst) (f : Function) : Type 0 where
  pub paths : (block pointer : ℕ) → length (path gs f block pointer).steps ≤ 16
  pub extracted : (i : Inst) → IsAmong i (insts_of f) → operation_kind_of i.op ≡ CompositeExtract → length (drop 1 i.args) ≤ 16

-- so many constructs stand in one another at most: nesting is at most 127, and the last two may hold no block
abbrev pub most_nested : ℕ
most_nested = 129

-- each chain leads from where there is more room to where there is less, by one for each index
pub record AreDescending (f : Function) (room : ℕ → ℕ) : Type 0 where
  pub low : (pointer : ℕ) → room pointer ≤ 16
  pub falls : (i : Inst) → IsAmong i (insts_of f) → is_chain i.op ≡ true → room i.result + length (indexes i) ≤ room (base i)
