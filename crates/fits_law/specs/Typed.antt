-- What the rules on types ask of an instruction, in shapes.
use Rattle.std.specs.Prelude.{◌≡◌, ℕ, true, List, [], ◌∷◌, drop, Option, Some, slice_get}
use Rattle.spv_ops.specs.declared.AtomicOp.{AtomicOp}
use Rattle.spv_ops.specs.declared.AtomicOp.TheVariants as atomics
use Rattle.spv_module.specs.declared.inst.Id.{Id}
use Rattle.spv_module.specs.declared.inst.Inst.{Inst}
use Rattle.spv_module.specs.declared.inst.Block.{Block}
use Rattle.spv_module.specs.declared.inst.Function.{Function}
use Rattle.spv_types.specs.Tree.{Tree, word}
use Rattle.spv_types.specs.Types.{type_tree}
use Rattle.spv_types.specs.Leaves.{IsSized}
use Rattle.spv_index.specs.Pointers.{pointee_of}
use Rattle.op_semantics.specs.declared.operation.Operation.{Operation}
use Rattle.op_semantics.specs.Value.{operation_of}
use Rattle.profile_rules.specs.Entry.{function_of}
use Rattle.module_semantics.specs.Setting.{Setting}
use Rattle.module_semantics.specs.Memory.{are_allowed}
use Rattle.module_semantics.specs.State.{Held, Frame}
use Rattle.module_semantics.specs.Operands.{arg, value_operands, literal_operands, words_at}
use Rattle.module_semantics.specs.Accesses.{initial_in}
use Rattle.module_semantics.specs.Steps.{StepKind, operation, chain, array_length, variable, load, store, atomic, call, branch, return_value, base, phis, source_from}
use Rattle.fits_law.specs.Takes.{Takes}
use Rattle.fits_law.specs.State.{value_shape, target_shape, result_shape, HasShape, LeadsTo, IsLocal, VariablesFit}

-- the ids have these shapes, one by one
abbrev pub HaveShapes : Setting → Function → List ℕ → List Tree → Type 0
HaveShapes s f [] [] = Unit {0}
HaveShapes s f (id ∷ ids) (t ∷ ts) = (value_shape s f id ≡ Some t) × HaveShapes s f ids ts
HaveShapes s f _ _ = ⊥

-- the operation takes the shapes of its operands
pub record IsOperation (s : Setting) (f : Function) (i : Inst) (o : Operation) (t : Tree) : Type 0 where
  pub shapes : List Tree
  pub have : HaveShapes s f (value_operands i.op i.args) shapes
  pub takes : Takes o t (literal_operands i.op i.args) shapes

-- any word is a value of the shape
abbrev pub IsOfWords : Option Tree → Type 0
IsOfWords t = (w : ℕ) → HasShape t (word w)

-- an argument is what the parameter is, a value or a pointer
abbrev pub AreArguments : Setting → Function → Function → List (Id × Id) → List ℕ → Type 0
AreArguments s f g [] ids = Unit {0}
AreArguments s f g (p ∷ ps) [] = Unit {0}
AreArguments s f g (p ∷ ps) (id ∷ ids) = (value_shape s g p.0.0 ≡ value_shape s f id) × (target_shape s g p.0.0 ≡ target_shape s f id) × IsLocal s p.0.0 × AreArguments s f g ps ids

pub record IsCall (s : Setting) (f g : Function) (i : Inst) : Type 0 where
  pub arguments : AreArguments s f g g.params (drop 1 i.args)
  pub result : value_shape s f i.result ≡ result_shape s g
  pub variables : VariablesFit s g (initial_in s g)
  pub local : IsLocal s i.result

-- phis take values of their own shapes
abbrev pub ArePhis : Setting → Function → List Inst → Type 0
ArePhis s f [] = Unit {0}
ArePhis s f (i ∷ is) = ((from id : ℕ) → source_from from i.args ≡ Some id → value_shape s f id ≡ value_shape s f i.result) × IsLocal s i.result × ArePhis s f is

abbrev pub IsAtomic : AtomicOp → Setting → Function → Inst → Type 0
IsAtomic atomics.Store s f i = Unit {0}
IsAtomic _ s f i = IsOfWords (value_shape s f i.result) × IsLocal s i.result

pub record IsLoad (s : Setting) (f : Function) (i : Inst) : Type 0 where
  pub shape : Tree
  pub result : value_shape s f i.result ≡ Some shape
  pub target : target_shape s f (arg i 0) ≡ Some shape
  pub sized : IsSized shape
  pub local : IsLocal s i.result

-- a frame has values of its own for its own ids alone
abbrev pub HasOwn : Setting → Frame → Type 0
HasOwn s c = (id : ℕ) (h : Held) → c.ids id ≡ Some h → IsLocal s id

-- a chain leads from what its base points to, by indexes that its types allow, to what it points to
abbrev pub IsChain : Setting → Function → Inst → Type 0
IsChain s f i = (c : Frame) (indexes : List ℕ) (ty : ℕ) → c.function ≡ f → HasOwn s c → words_at s c (drop 1 i.args) ≡ Some indexes → pointee_of s.of.globals f (base i) ≡ Some ty → are_allowed s ty indexes ≡ true
    → LeadsTo (target_shape s f (base i)) indexes (target_shape s f i.result)

abbrev pub IsTyped : Setting → Function → Inst → StepKind → Type 0
IsTyped s f i operation = IsLocal s i.result × ((o : Operation) (t : Tree) → operation_of i.op (literal_operands i.op i.args) ≡ Some o → type_tree s.of.globals i.ty ≡ Some t → (value_shape s f i.result ≡ Some t) × IsOperation s f i o t)
IsTyped s f i chain = IsLocal s i.result × IsChain s f i
IsTyped s f i array_length = IsOfWords (value_shape s f i.result) × IsLocal s i.result
IsTyped s f i variable = IsLocal s i.result
IsTyped s f i load = IsLoad s f i
IsTyped s f i store = value_shape s f (arg i 1) ≡ target_shape s f (arg i 0)
IsTyped s f i (atomic o) = IsAtomic o s f i
IsTyped s f i call = (g : Function) → function_of s.of.functions (arg i 0) ≡ Some g → IsCall s f g i
IsTyped s f i (branch o) = (t : ℕ) (b : Block) → slice_get f.blocks t ≡ Some b → ArePhis s f (phis b)
IsTyped s f i return_value = value_shape s f (arg i 0) ≡ result_shape s f
IsTyped s f i _ = Unit {0}
