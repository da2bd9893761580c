-- The shape of a counting loop: what the walk through its text meets, and what its blocks ask for. And the variables that are built in.
use Rattle.std.proofs.Common.{◌≡◌, ℕ, true, false, List, [], ◌∷◌, ◌++◌, map, Some, None, refl}
use Rattle.std.specs.Prelude.{codes}
use Rattle.spv_ops.specs.Opcode.{number}
use Rattle.spv_ops.specs.declared.Op.{Op}
use Rattle.spv_ops.specs.declared.Op.TheVariants as op
use Rattle.spv_ops.specs.OpGroups.{group_of}
use Rattle.spv_module.specs.declared.inst.Id.{Id}
use Rattle.spv_module.specs.declared.inst.Inst.{Inst}
use Rattle.spv_module.specs.declared.inst.Block.{Block}
use Rattle.spv_module.specs.declared.inst.Function.{Function}
use Rattle.spv_module.specs.State.{ModuleState}
use Rattle.structure_rules.specs.Graph.{graph, reached, reach, nodes, grown}
use Rattle.structure_rules.specs.Nesting.{outward, role, name_links, case_links, entry_links}
use Rattle.structure_rules.specs.declared.graph.Part.TheVariants.{Loop, Cont}
use Rattle.structure_recover.specs.Once.{Around, within, branch}
use Rattle.traces.specs.Invocations.{Invocation}
use Rattle.glsl_ast.specs.declared.items.Size.{Size}
use Rattle.glsl_ast.specs.declared.expressions.Literal.TheVariants.{Uint, Truth}
use Rattle.glsl_ast.specs.declared.expressions.BinOp.TheVariants.{Add, Less}
use Rattle.glsl_ast.specs.Tree.{Text, type_name, uint, boolean, Expr, literal, name, binary, LStep, lvalue, Stmt, declare, assign, when, either, loop, leave, again, give, Stmts, stmts_in}
use Rattle.glsl_semantics.specs.Shapes.{Typed}
use Rattle.glsl_semantics.specs.Items.{built_ins}
use Rattle.claim_law.specs.Told.{built_in_variables}
use Rattle.text_law.specs.Deeds.{reads, assigns}
use Rattle.text_law.specs.Walks.{Outer, turns, tests, closes, does, walk}
use Rattle.text_law.specs.Pairs.{Act, repeats, branches, loads, stores}
use Rattle.text_law.specs.Shape.{statements_of}

abbrev i : Text
i = codes "i"

abbrev x : Text
x = codes "x"

abbrev y : Text
y = codes "y"

abbrev flag : Text
flag = codes "again"

abbrev buffer : Text
buffer = codes "b"

abbrev count : ℕ → Expr
count n = literal (Uint n)

abbrev holds : Text → Expr → Stmt
holds v e = declare (type_name uint []) v (Some e)

abbrev below : Expr
below = binary Less (name x) (count 4)

-- for (uint i = 0u; i < 4u; i++) b.m[i] = i, as it is written
abbrev counting : Stmts
counting = stmts_in (
    holds i (count 0) ∷ assign (lvalue i []) (count 0) ∷ declare (type_name boolean []) flag (Some (literal (Truth false))) ∷
    loop (stmts_in (
    when (name flag) (stmts_in (holds x (name i) ∷ assign (lvalue i []) (binary Add (name x) (count 1)) ∷ [])) ∷
    assign (lvalue flag []) (literal (Truth true)) ∷ holds x (name i) ∷
    either below
    (stmts_in (holds y (name i) ∷ holds x (name i) ∷ assign (lvalue buffer (LStep.member (codes "m") ∷ LStep.index (name y) ∷ [])) (name x) ∷ again ∷ []))
    (stmts_in (leave ∷ [])) ∷ [])) ∷
    give None ∷ [])

-- the variable and the buffer are memory
abbrev outer : Outer
outer = record { memory = i ∷ buffer ∷ []; functions = codes "main" ∷ [] }

walked :
    walk outer counting [] ≡
    does (assigns i ∷ []) ∷ turns ∷ tests (name flag) ∷ does (reads i ∷ []) ∷ does (assigns i ∷ []) ∷ closes ∷ does (reads i ∷ []) ∷
    tests below ∷ does (reads i ∷ []) ∷ does (reads i ∷ []) ∷ does (assigns buffer ∷ []) ∷ closes ∷ closes ∷ []
walked = refl

abbrev id : ℕ → Id
id n = record { 0 = n }

abbrev made : Op → ℕ → List ℕ → Inst
made o result args = record { op = o; at = 0; ty = 8; result = result; args = args }

abbrev block : ℕ → List Inst → Block
block label insts = record { label = id label; at = 0; insts = insts }

-- its module: %30 the variable, %5 the buffer, %14 the constant 0, %24 the constant 4
abbrev function : Function
function = record {
  id = id 1;
  ty = id 7;
  result = id 6;
  at = 0;
  params = [];
  blocks =
      block 16 (made op.Variable 30 (7 ∷ []) ∷ made op.Store 0 (30 ∷ 14 ∷ []) ∷ made op.Branch 0 (31 ∷ []) ∷ []) ∷
      block 31 (made op.LoopMerge 0 (35 ∷ 34 ∷ 0 ∷ []) ∷ made op.Branch 0 (32 ∷ []) ∷ []) ∷
      block 32 (made op.Load 40 (30 ∷ []) ∷ made op.ULessThan 41 (40 ∷ 24 ∷ []) ∷ made op.BranchConditional 0 (41 ∷ 33 ∷ 35 ∷ []) ∷ []) ∷
      block 33 (made op.Load 42 (30 ∷ []) ∷ made op.Load 43 (30 ∷ []) ∷ made op.AccessChain 44 (5 ∷ 14 ∷ 42 ∷ []) ∷ made op.Store 0 (44 ∷ 43 ∷ []) ∷ made op.Branch 0 (34 ∷ []) ∷ []) ∷
      block 34 (made op.Load 45 (30 ∷ []) ∷ made op.IAdd 46 (45 ∷ 26 ∷ []) ∷ made op.Store 0 (30 ∷ 46 ∷ []) ∷ made op.Branch 0 (31 ∷ []) ∷ []) ∷
      block 35 (made op.Return 0 [] ∷ []) ∷ [];
}

unfoldable opened : Unit {0}
unfolding graph reached reach nodes grown outward role name_links case_links entry_links number group_of
opened = tt

module _ (m : ModuleState) where
  abbrev asked : ℕ → List (Act × List Around)
  asked b = statements_of (record { of = m; overrides = []; entry = 1 }) function (graph function) b

  first : asked 0 ≡ (stores, []) ∷ []
  unfolding opened
  first = refl

  header : asked 1 ≡ (repeats, []) ∷ []
  unfolding opened
  header = refl

  tested : asked 2 ≡ (loads, within (Loop 1) ∷ []) ∷ (branches, within (Loop 1) ∷ []) ∷ []
  unfolding opened
  tested = refl

  inside : asked 3 ≡ (loads, branch 2 ∷ within (Loop 1) ∷ []) ∷ (loads, branch 2 ∷ within (Loop 1) ∷ []) ∷ (stores, branch 2 ∷ within (Loop 1) ∷ []) ∷ []
  unfolding opened
  inside = refl

  behind : asked 4 ≡ (loads, within (Cont 1) ∷ []) ∷ (stores, within (Cont 1) ∷ []) ∷ []
  unfolding opened
  behind = refl

  last : asked 5 ≡ []
  unfolding opened
  last = refl

-- the variables that are built in are those that have values where the meaning of a text begins, but the constant among them
built_in : (inv : Invocation) (sizes : List Size) → map (λ (v : Text × Typed). v.0) (built_ins inv sizes) ≡ built_in_variables ++ codes "gl_WorkGroupSize" ∷ []
built_in inv sizes = refl
