-- What is asked of how a function's chains, and what their paths begin with, are written: in a block, behind some of its instructions.
use Rattle.std.specs.Prelude.{◌≡◌, ◌⊎◌, ◌==◌, ◌++◌, ◌+◌, ℕ, true, false, List, [], ◌∷◌, drop, length, Option, Some, None, slice_get, slice_index}
use Rattle.spv_module.specs.Lists.{id}
use Rattle.spv_module.specs.declared.inst.Inst.{Inst}
use Rattle.spv_module.specs.declared.inst.Block.{Block}
use Rattle.spv_module.specs.declared.inst.Function.{Function}
use Rattle.spv_types.specs.Tree.{Tree, word}
use Rattle.spv_types.specs.Types.{type_tree}
use Rattle.spv_index.specs.Locals.{insts_of}
use Rattle.spv_index.specs.Pointers.{pointee_of}
use Rattle.profile_rules.specs.declared.given.Given.{Given}
use Rattle.profile_rules.specs.MemoryRules.{is_own_memory}
use Rattle.traces.specs.Outcomes.{Result}
use Rattle.module_semantics.specs.Setting.{Setting}
use Rattle.module_semantics.specs.State.{global}
use Rattle.module_semantics.specs.Operands.{of_module}
use Rattle.module_semantics.specs.Steps.{chain, step_kind, base}
use Rattle.name_alloc.specs.declared.claims.Key.{Key}
use Rattle.name_alloc.specs.declared.claims.Key.TheVariants.{Captured}
use Rattle.access_paths.specs.Ways.{is_constant_index}
use Rattle.glsl_ast.specs.Tree.{Text, Expr, name}
use Rattle.glsl_semantics.specs.Shapes.{Shape, int, uint, Typed}
use Rattle.glsl_semantics.specs.States.{State}
use Rattle.glsl_semantics.specs.Expressions.{Program, Argument}
use Rattle.expr_forward.specs.Paths.{word_at, index_expr}
use Rattle.agree_law.specs.Agree.{Naming}
use Rattle.agree_law.specs.Blocks.{IsOf, have_result}
use Rattle.call_law.specs.Known.{is_parameter}
use Rattle.global_law.specs.Parts.{HasMembersApart}
use Rattle.global_law.specs.Walks.{writing, struct_names, SaysIndex}
use Rattle.global_law.specs.Starts.{IsVariable, IsBuiltIn, IsPrivate, IsShared, IsBlock}
use Rattle.global_law.specs.Chains.{NoneMakes, is_global}

-- an int or a uint
abbrev pub IsNumber : Shape → Type 0
IsNumber int = Unit {0}
IsNumber uint = Unit {0}
IsNumber _ = ⊥

module _ (p : Program) (calls : Text → List Argument → State → Result (Option Typed × State)) (z : State) (m : Naming) (s : Setting) (overrides : List (ℕ × Given)) (f : Function) (key : Key → Text) (globals : ℕ → Option Expr) (b : ℕ) (done : List Inst) where
  -- an index with a variable, at the top of the function or in this block
  pub record HasVariable (n : ℕ) : Type 0 where
    pub itself : index_expr (writing s overrides f key globals) n ≡ name (m.name n)
    pub own : of_module s n ≡ None
    pub there : (m.is_outer n ≡ true) ⊎ ((m.is_local n ≡ true) × (have_result done n ≡ true))
    pub number : IsNumber (m.shape n)

  -- an index that is kept of a chain: what a path has there is counted from its end
  pub record IsKeptIndex (q : Inst) (k : ℕ) : Type 0 where
    pub kept : m.is_kept q.result k ≡ true
    pub named : m.index_name q.result k ≡ key (Captured (id q.result) k)
    pub number : IsNumber (m.index_shape q.result k)
    pub counts : (from indexes : List ℕ) → length indexes ≡ length (drop 1 q.args) → m.index_in q.result k (from ++ indexes) ≡ slice_index indexes k

  -- index k of a chain: a constant says its word, and is written as a literal of it; another has a variable where the chain's block is, and is kept for others
  pub record IsWrittenIndex (q : Inst) (stands k n : ℕ) : Type 0 where
    pub constant : (j : ℕ) → is_constant_index s.of.globals n ≡ true → s.constants n ≡ Some (word j) → SaysIndex p calls z (index_expr (writing s overrides f key globals) n) j
    pub literal : (l j : ℕ) → word_at (writing s overrides f key globals) n ≡ Some l → s.constants n ≡ Some (word j) → l ≡ j
    pub here : is_constant_index s.of.globals n ≡ false → (stands == b) ≡ true → HasVariable n
    pub elsewhere : is_constant_index s.of.globals n ≡ false → (stands == b) ≡ false → IsKeptIndex q k

  abbrev pub AreWrittenIndexes : Inst → ℕ → ℕ → List ℕ → Type 0
  AreWrittenIndexes q stands k [] = Unit {0}
  AreWrittenIndexes q stands k (n ∷ ns) = IsWrittenIndex q stands k n × AreWrittenIndexes q stands (k + 1) ns

  -- a chain of the function, in its block; where that is this one, it has been made already
  pub record IsWrittenChain (q : Inst) : Type 0 where
    pub of_function : IsOf q (insts_of f)
    pub kind : step_kind q.op ≡ chain
    pub stands : ℕ
    pub block : Block
    pub in_block : slice_get f.blocks stands ≡ Some block
    pub inst : IsOf q block.insts
    pub made : (stands == b) ≡ true → IsOf q done
    pub own : of_module s q.result ≡ None
    pub base_shape : (ty : ℕ) → pointee_of s.of.globals f (base q) ≡ Some ty → (t : Tree) × (type_tree s.of.globals ty ≡ Some t)
    pub indexes : AreWrittenIndexes q stands 0 (drop 1 q.args)

  -- a variable or a parameter: what it points to, and how it is written
  abbrev pub IsOwnStart : ℕ → Tree → Type 0
  IsOwnStart n t = IsVariable p m s (writing s overrides f key globals).source key globals n t × (m.is_variable n ≡ true) × (is_own_memory f n ≡ true) × (is_parameter f n ≡ false)

  abbrev pub IsParameterStart : ℕ → Tree → Type 0
  IsParameterStart n t = IsVariable p m s (writing s overrides f key globals).source key globals n t × (m.is_lent n ≡ true) × (is_parameter f n ≡ true) × (of_module s n ≡ None)

  abbrev pub IsGlobalStart : ℕ → Tree → Type 0
  IsGlobalStart n t = (is_global s.of.globals n ≡ true)
      × (IsPrivate p m s (writing s overrides f key globals).source key globals n t (global n) []
      ⊎ (IsBuiltIn p m s (writing s overrides f key globals).source key globals n t (global n) []
      ⊎ (IsShared p m s (writing s overrides f key globals).source key globals n t (global n) []
      ⊎ IsBlock p m s (writing s overrides f key globals).source key globals n t (global n) [])))

  pub record IsWrittenStart (n : ℕ) : Type 0 where
    pub none : NoneMakes n (insts_of f)
    pub type : ℕ
    pub shape : Tree
    pub points_to : pointee_of s.of.globals f n ≡ Some type
    pub typed_as : type_tree s.of.globals type ≡ Some shape
    pub members : HasMembersApart (struct_names key) shape
    pub kind : IsOwnStart n shape ⊎ (IsParameterStart n shape ⊎ IsGlobalStart n shape)
