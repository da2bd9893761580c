-- The state of a module's run fits its types: values have the shapes of their ids, pointers lead to what their types say, variables hold values of their types.
use Rattle.std.specs.Prelude.{◌≡◌, ◌==◌, ℕ, true, false, List, [], ◌∷◌, length, map, Option, Some, None, option_and_then}
use Rattle.spv_ops.specs.declared.StorageClass.TheVariants as storage
use Rattle.spv_module.specs.Held.{global as global_inst}
use Rattle.spv_module.specs.declared.inst.Function.{Function}
use Rattle.spv_module.specs.declared.inst.Inst.{Inst}
use Rattle.spv_types.specs.Tree.{Tree, vector, array, runtime, struct, ValueTree}
use Rattle.spv_types.specs.Types.{type_tree}
use Rattle.spv_index.specs.Locals.{type_in, global_type}
use Rattle.spv_index.specs.Pointers.{pointee, pointee_of}
use Rattle.op_semantics.specs.Fits.{elem_tree, fits}
use Rattle.traces.specs.Events.{Event, event_of}
use Rattle.traces.specs.Runs.{Act, goes, asks, stops, fails}
use Rattle.module_semantics.specs.Setting.{Setting, global_variable}
use Rattle.module_semantics.specs.Memory.{class_of, shape_along}
use Rattle.module_semantics.specs.Accesses.{seen, input_value}
use Rattle.module_semantics.specs.State.{Root, global, own, lent, Held, value, pointer, Frame, Conf}
use Rattle.fits_law.specs.Takes.{nth_of}

-- the shape of the value with an id of a function, of what a pointer with the id leads to, of a variable of the module, and of a function's result
abbrev pub value_shape : Setting → Function → ℕ → Option Tree
value_shape s f id = option_and_then (type_tree s.of.globals) (type_in s.of.globals f id)

abbrev pub target_shape : Setting → Function → ℕ → Option Tree
target_shape s f id = option_and_then (type_tree s.of.globals) (pointee_of s.of.globals f id)

abbrev pub global_shape : Setting → ℕ → Option Tree
global_shape s id = option_and_then (type_tree s.of.globals) (option_and_then (pointee s.of.globals) (global_type s.of.globals id))

abbrev pub result_shape : Setting → Function → Option Tree
result_shape s f = type_tree s.of.globals f.result.0

-- the functions of the calls under way, and that of the call below which so many stand
abbrev pub functions_of : List (Frame × ℕ) → List Function
functions_of below = map (λ (b : Frame × ℕ). b.0.function) below

abbrev pub function_at : ℕ → List Function → Option Function
function_at depth [] = None
function_at depth (f ∷ fs) = elim (length fs == depth) [ true ↦ Some f | false ↦ function_at depth fs ]

-- the shape of the variable into which a pointer of this function leads, which these have called
abbrev pub root_shape : Setting → List Function → Function → Root → Option Tree
root_shape s fs f (global id) = global_shape s id
root_shape s fs f (own id) = target_shape s f id
root_shape s fs f (lent depth id) = option_and_then (λ g. target_shape s g id) (function_at depth fs)

abbrev pub HasShape : Option Tree → ValueTree → Type 0
HasShape None v = ⊥
HasShape (Some t) v = fits t v ≡ true

-- the shape of the part of a variable at an index, and of that to which indexes lead: in memory a runtime array has elements, and so has an array whose length is a specialization constant, though no value has such a shape
abbrev pub element_shape : Tree → ℕ → Option Tree
element_shape (vector e n) i = Some (elem_tree e)
element_shape (array t l) i = Some t
element_shape (runtime t) i = Some t
element_shape (struct id ts) i = nth_of ts i
element_shape _ i = None

abbrev pub place_shape : Tree → List ℕ → Option Tree
place_shape t [] = Some t
place_shape t (i ∷ is) = option_and_then (λ u. place_shape u is) (element_shape t i)

-- from a variable of the first shape these indexes lead to the second
abbrev pub LeadsTo : Option Tree → List ℕ → Option Tree → Type 0
LeadsTo None path u = ⊥
LeadsTo (Some t) path u = place_shape t path ≡ u

abbrev pub HeldFits : Setting → List Function → Function → ℕ → Held → Type 0
HeldFits s fs f id (value v) = HasShape (value_shape s f id) v
HeldFits s fs f id (pointer r path) = LeadsTo (root_shape s fs f r) path (target_shape s f id)

-- the id is none of the module's constants and variables: a call has its own value for it
abbrev pub IsLocal : Setting → ℕ → Type 0
IsLocal s id = global_inst s.of.globals id ≡ None

abbrev pub IdsFit : Setting → List Function → Function → (ℕ → Option Held) → Type 0
IdsFit s fs f ids = (id : ℕ) (h : Held) → ids id ≡ Some h → IsLocal s id × HeldFits s fs f id h

abbrev pub VariablesFit : Setting → Function → (ℕ → Option ValueTree) → Type 0
VariablesFit s f variables = (id : ℕ) (v : ValueTree) → variables id ≡ Some v → HasShape (target_shape s f id) v

abbrev pub FrameFits : Setting → List Function → Frame → Type 0
FrameFits s fs c = IdsFit s fs c.function c.ids × VariablesFit s c.function c.variables

abbrev pub CallsFit : Setting → List (Frame × ℕ) → Type 0
CallsFit s [] = Unit {0}
CallsFit s (b ∷ bs) = FrameFits s (functions_of bs) b.0 × CallsFit s bs

-- each call waits for a result of its callee's type
abbrev pub IsAwaited : Setting → Function → Frame × ℕ → Type 0
IsAwaited s f b = (value_shape s b.0.function b.1 ≡ result_shape s f) × IsLocal s b.1

abbrev pub Await : Setting → Function → List (Frame × ℕ) → Type 0
Await s f [] = Unit {0}
Await s f (b ∷ bs) = IsAwaited s f b × Await s b.0.function bs

-- the Private variables hold values of their types; what stands there for others is never read
abbrev pub PrivatesFit : Setting → (ℕ → Option ValueTree) → Type 0
PrivatesFit s privates = (id : ℕ) (v : ValueTree) (g : Inst) → global_variable s id ≡ Some g → class_of g ≡ Some storage.Private → privates id ≡ Some v → HasShape (global_shape s id) v

pub record ConfFits (s : Setting) (c : Conf) : Type 0 where
  pub top : FrameFits s (functions_of c.below) c.top
  pub calls : CallsFit s c.below
  pub awaited : Await s c.top.function c.below
  pub privates : PrivatesFit s c.privates

-- what a machine does next leads to states that fit
abbrev pub ActFits : Setting → Act Conf → Type 0
ActFits s (goes e c) = ConfFits s c
ActFits s (asks a f) = (words : List ℕ) (e : Event) → event_of a words ≡ Some e → ConfFits s (f words)
ActFits s stops = Unit {0}
ActFits s fails = Unit {0}

-- constants have the shapes of their types, Input variables too; variables are pointers to their shapes, as each function sees them; and along the types of a variable that others see one comes to the shape of the part
pub record ModuleFits (s : Setting) : Type 0 where
  pub constants : (f : Function) (id : ℕ) (v : ValueTree) → s.constants id ≡ Some v → HasShape (value_shape s f id) v
  pub globals : (f : Function) (id : ℕ) (v : Inst) → global_variable s id ≡ Some v → LeadsTo (global_shape s id) [] (target_shape s f id)
  pub inputs : (id : ℕ) (v : Inst) (r : ValueTree) → global_variable s id ≡ Some v → class_of v ≡ Some storage.Input → input_value s v ≡ Some r → HasShape (global_shape s id) r
  pub along : (id : ℕ) (path : List ℕ) (v : Inst) (t u : Tree) → seen s (global id) ≡ Some v → shape_along s v path ≡ Some t → LeadsTo (global_shape s id) path (Some u) → t ≡ u
