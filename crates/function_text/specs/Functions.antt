-- A function of the text, from what is planned of it (GLSL 4.60, section 6.1).
use Rattle.std.specs.Prelude.{ℕ, ◌==◌, Bool, true, false, List, [], ◌++◌, filter, flat_map, map, is_some, Option, Some, None, option_map, option_and_then, unwrap_or, if◌then◌else◌, slice_get, slice_index}
use Rattle.std.specs.Option.{option_map_or}
use Rattle.spv_ops.specs.Opcode.{is}
use Rattle.spv_ops.specs.declared.Op.TheVariants as code
use Rattle.spv_module.specs.Held.{global}
use Rattle.spv_module.specs.Lists.{id}
use Rattle.spv_module.specs.declared.inst.Id.{Id as IdOf}
use Rattle.spv_module.specs.declared.inst.Inst.{Inst}
use Rattle.spv_module.specs.declared.inst.Block.{Block}
use Rattle.spv_module.specs.declared.inst.Function.{Function}
use Rattle.spv_index.specs.Pointers.{pointee}
use Rattle.spv_module.specs.declared.tree.Elem.{Elem}
use Rattle.spv_module.specs.declared.tree.Elem.TheVariants as elem
use Rattle.spv_types.specs.Types.{type_tree, elem_of}
use Rattle.structure_rules.specs.declared.graph.Node.{Node}
use Rattle.structure_rules.specs.Graph.{terminator}
use Rattle.structure_recover.specs.Tree.{Region}
use Rattle.name_alloc.specs.declared.claims.Key.{Key}
use Rattle.name_alloc.specs.declared.claims.Key.TheVariants.{Main, Id, Again, Leave, Fell, Captured, Spare}
use Rattle.hoist_plan.specs.declared.form.Form.{Form}
use Rattle.hoist_plan.specs.declared.form.Form.TheVariants.{Hoisted}
use Rattle.phi_copies.specs.declared.moves.Src.{Src}
use Rattle.phi_copies.specs.declared.moves.Src.TheVariants.{Var as Variable, Constant}
use Rattle.phi_copies.specs.declared.moves.Var.{Var}
use Rattle.phi_copies.specs.declared.moves.Move.{Move}
use Rattle.phi_copies.specs.declared.moves.Move.TheVariants.{Set, Save, Restore}
use Rattle.glsl_ast.specs.Tree.{Text, Expr, name, Stmt, declare, assign, stmts_in, lvalue, TypeName, Param, param, Decl, function}
use Rattle.glsl_ast.specs.declared.expressions.Literal.{Literal}
use Rattle.glsl_ast.specs.declared.expressions.Literal.TheVariants.{Uint}
use Rattle.text_rules.specs.Constants.{int_literal}
use Rattle.text_rules.specs.Declarations.{initial, pointee_at, type_at}
use Rattle.text_rules.specs.Claims.{label}
use Rattle.expr_forward.specs.Scope.{Scope, globals, type_of}
use Rattle.expr_forward.specs.Values.{value, variable}
use Rattle.expr_forward.specs.Statements.{block_text, is_void, captured_of}
use Rattle.control_text.specs.Statements.{Blocks, function_text}
use Rattle.function_plan.specs.Targets.{target_of}
use Rattle.profile_rules.specs.Places.{is_variable}
use Rattle.function_text.specs.declared.heads.TopKind.{TopKind}
use Rattle.function_text.specs.declared.heads.TopKind.TheVariants as kind

-- what is planned of a function: where its blocks are written, its control-flow graph, the tree of that, the moves of its edges, which flags are needed, and the order of the targets of its switches
pub record FunctionPlan : Type 0 where
  pub scope : Scope
  pub graph : List Node
  pub region : Region
  pub moves : ℕ → ℕ → List Move
  pub again : ℕ → Bool
  pub leave : ℕ → Bool
  pub fell : ℕ → Bool
  pub order : ℕ → List ℕ

-- a function that is written
abbrev pub written : FunctionPlan → Function
written p = p.scope.setting.function

abbrev pub label_of : FunctionPlan → ℕ → IdOf
label_of p b = id (label (written p) b)

-- the value that a move gives: of a variable, or of a constant
abbrev pub constant_text : Scope → ℕ → Expr
constant_text w n = unwrap_or (w.setting.global n) (variable w n)

abbrev pub source_expr : Scope → Src → Expr
source_expr w (Variable v) = variable w v.0
source_expr w (Constant c) = constant_text w c.0

abbrev pub spare_name : FunctionPlan → ℕ → ℕ → ℕ → Text
spare_name p b t k = p.scope.setting.key (Spare (label_of p b) (label_of p t) k)

abbrev pub set_variable : Scope → Var → Expr → Stmt
set_variable w v e = assign (lvalue (w.setting.key (Id (id v.0))) []) e

abbrev pub saved_text : FunctionPlan → ℕ → ℕ → ℕ → Var → Stmt
saved_text p b t k v =
    declare (type_at p.scope.setting.source p.scope.names (type_of p.scope v.0)) (spare_name p b t k) (Some (variable p.scope v.0))

abbrev pub move_text : FunctionPlan → ℕ → ℕ → Move → Stmt
move_text p b t (Set v source) = set_variable p.scope v (source_expr p.scope source)
move_text p b t (Save k v) = saved_text p b t k v
move_text p b t (Restore v k) = set_variable p.scope v (name (spare_name p b t k))

abbrev pub copies_text : FunctionPlan → ℕ → ℕ → List Stmt
copies_text p b t = map (move_text p b t) (p.moves b t)

-- the terminator of the block with an index
abbrev pub terminator_at : Function → ℕ → Option Inst
terminator_at f b = option_and_then terminator (slice_get f.blocks b)

-- its first operand: the condition of OpBranchConditional, the selector of OpSwitch, the value of OpReturnValue
abbrev pub operand_in : Inst → ℕ
operand_in i = slice_index i.args 0

abbrev pub first_operand : Function → ℕ → ℕ
first_operand f b = option_map_or operand_in (terminator_at f b) 0

abbrev pub condition_text : FunctionPlan → ℕ → Expr
condition_text p b = value p.scope b (first_operand (written p) b)

-- OpReturnValue
abbrev pub returned_by : Inst → Option ℕ
returned_by i = if is i.op code.ReturnValue then Some (operand_in i) else None

abbrev pub returned : Function → ℕ → Option ℕ
returned f b = option_and_then returned_by (terminator_at f b)

abbrev pub result_text : FunctionPlan → ℕ → Option Expr
result_text p b = option_map (value p.scope b) (returned (written p) b)

-- the literal of a case has the type of the selector
abbrev pub case_by : Option Elem → ℕ → Literal
case_by (Some elem.Int) n = int_literal n
case_by _ n = Uint n

abbrev pub elem_at : Scope → ℕ → Option Elem
elem_at w ty = option_and_then elem_of (type_tree (globals w) ty)

abbrev pub case_text : FunctionPlan → ℕ → ℕ → Literal
case_text p b n = case_by (elem_at p.scope (type_of p.scope (first_operand (written p) b))) n

abbrev pub when : Bool → Text → Option Text
when b t = if b then Some t else None

abbrev pub blocks_of : FunctionPlan → Blocks
blocks_of p = record {
  statements = block_text p.scope;
  condition = condition_text p;
  case = case_text p;
  value = result_text p;
  target = target_of p.graph;
  copies = copies_text p;
  again = λ b. when (p.again b) (p.scope.setting.key (Again (label_of p b)));
  leave = λ b. when (p.leave b) (p.scope.setting.key (Leave (label_of p b)));
  fell = λ b. when (p.fell b) (p.scope.setting.key (Fell (label_of p b)));
  order = p.order;
}

-- the variables of a function, each with its initializer or its zero
abbrev pub variable_text : Scope → Inst → Stmt
variable_text w i =
    declare (type_at w.setting.source w.names (pointee_at w.setting.source i.ty)) (w.setting.key (Id (id i.result))) (Some (initial w.setting.source w.names i))

-- the values that are declared at the top
abbrev pub is_hoisted : Form → Bool
is_hoisted Hoisted = true
is_hoisted _ = false

abbrev pub hoisted_text : Scope → Inst → Stmt
hoisted_text w i = declare (type_at w.setting.source w.names i.ty) (w.setting.key (Id (id i.result))) None

-- the captured indexes of a chain, each with its number
abbrev pub index_of : ℕ × IdOf → ℕ × ℕ
index_of n = (n.0, n.1.0)

abbrev pub captured_text : Scope → Inst → ℕ × ℕ → Stmt
captured_text w i n = declare (type_at w.setting.source w.names (type_of w n.1)) (w.setting.key (Captured (id i.result) n.0)) None

abbrev pub variables_text : Scope → List Inst → List Stmt
variables_text w insts = map (variable_text w) (filter is_variable insts)

abbrev pub is_hoisted_in : Scope → Inst → Bool
is_hoisted_in w i = is_hoisted (w.form i.result)

abbrev pub hoisted_texts : Scope → List Inst → List Stmt
hoisted_texts w insts = map (hoisted_text w) (filter (is_hoisted_in w) insts)

abbrev pub captured_texts_of : Scope → Inst → List Stmt
captured_texts_of w i = map (captured_text w i) (captured_of w i)

abbrev pub captured_texts : Scope → List Inst → List Stmt
captured_texts w insts = flat_map (captured_texts_of w) insts

abbrev pub kind_texts : Scope → TopKind → List Inst → List Stmt
kind_texts w kind.Variable insts = variables_text w insts
kind_texts w kind.Hoisted insts = hoisted_texts w insts
kind_texts w kind.Captured insts = captured_texts w insts

abbrev pub in_blocks : (List Inst → List Stmt) → List Block → List Stmt
in_blocks text blocks = flat_map (λ (b : Block). text b.insts) blocks

abbrev pub top_text : Scope → List Block → List Stmt
top_text w blocks =
    in_blocks (kind_texts w kind.Variable) blocks ++ (in_blocks (kind_texts w kind.Hoisted) blocks ++ in_blocks (kind_texts w kind.Captured) blocks)

abbrev pub param_text : Scope → IdOf × IdOf → Param
param_text w q =
    param (is_some (pointee w.setting.source.of.globals q.1.0)) (type_at w.setting.source w.names (pointee_at w.setting.source q.1.0)) (w.setting.key (Id q.0))

abbrev pub result_type_at : Scope → ℕ → Option TypeName
result_type_at w ty = if is_void w ty then None else Some (type_at w.setting.source w.names ty)

abbrev pub result_type : Scope → Option TypeName
result_type w = result_type_at w w.setting.function.result.0

-- the entry's function is main
abbrev pub function_key : ℕ → IdOf → Key
function_key entry f = if f.0 == entry then Main else Id f

abbrev pub function_name : Scope → Text
function_name w = w.setting.key (function_key w.setting.source.entry w.setting.function.id)

abbrev pub body_text : FunctionPlan → List Stmt
body_text p = top_text p.scope (written p).blocks ++ function_text (blocks_of p) p.region

abbrev pub function_decl : FunctionPlan → Decl
function_decl p =
    function (result_type p.scope) (function_name p.scope) (map (param_text p.scope) (written p).params)
    (stmts_in (body_text p))
