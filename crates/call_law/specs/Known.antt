-- What is known of each call under way: its code is the module's, the variables to which its pointers lead have values, and of pointer parameters and variables to what they lead.
use Rattle.std.specs.Prelude.{◌≡◌, ◌≢◌, ◌≤◌, ◌⊎◌, ℕ, suc, Bool, true, false, List, [], ◌∷◌, drop, length, Option, Some, None, is_some}
use Rattle.std.specs.List.{list_any}
use Rattle.spv_module.specs.declared.inst.Id.{Id}
use Rattle.spv_module.specs.declared.inst.Inst.{Inst}
use Rattle.spv_module.specs.declared.inst.Function.{Function}
use Rattle.spv_types.specs.Tree.{ValueTree}
use Rattle.spv_index.specs.Locals.{insts_of, parameter_in}
use Rattle.profile_rules.specs.Entry.{function_of}
use Rattle.profile_rules.specs.MemoryRules.{is_pointer, is_own_memory, is_other_pointer, repeats}
use Rattle.module_semantics.specs.Setting.{Setting, global_variable}
use Rattle.module_semantics.specs.State.{Root, global, own, lent, Held, pointer, Frame, call_at}
use Rattle.module_semantics.specs.Operands.{arg}
use Rattle.module_semantics.specs.Steps.{chain, variable, call, step_kind}
use Rattle.agree_law.specs.Agree.{IfPointer, variable_in}
use Rattle.agree_law.specs.Blocks.{IsOf}

-- a function of the module, of which the instructions are that are left
abbrev pub IsFunctionOf : Function → List Function → Type 0
IsFunctionOf f [] = ⊥
IsFunctionOf f (g ∷ gs) = (g ≡ f) ⊎ IsFunctionOf f gs

pub record IsCode (s : Setting) (f : Frame) : Type 0 where
  pub of_module : IsFunctionOf f.function s.of.functions
  pub of_function : (i : Inst) → IsOf i f.rest → IsOf i (insts_of f.function)

-- the variable to which a pointer leads has a value
abbrev pub HasSome : Option ValueTree → Type 0
HasSome o = (v : ValueTree) × (o ≡ Some v)

abbrev pub LeadsToSome : List (Frame × ℕ) → Frame → Root → Type 0
LeadsToSome ds f (global n) = Unit {0}
LeadsToSome ds f (own n) = HasSome (f.variables n)
LeadsToSome ds f (lent depth n) = HasSome (variable_in (call_at depth ds) n)

abbrev pub IsValued : List (Frame × ℕ) → Frame → Type 0
IsValued ds f = (n : ℕ) → IfPointer (f.ids n) (λ r path. LeadsToSome ds f r)

-- a parameter, and a variable of a call below these
abbrev pub is_parameter : Function → ℕ → Bool
is_parameter f n = is_some (parameter_in f n)

abbrev pub IsOfBelow : List (Frame × ℕ) → Root → Type 0
IsOfBelow ds (lent depth n) = suc depth ≤ length ds
IsOfBelow ds _ = ⊥

-- Each pointer parameter leads to a whole variable of a call below, no two to one; and the id of a variable to that.
pub record IsLending (s : Setting) (ds : List (Frame × ℕ)) (f : Frame) : Type 0 where
  pub code : IsCode s f
  pub typed : (n : ℕ) → IfPointer (f.ids n) (λ r path. is_pointer s.of.globals f.function n ≡ true)
  pub parameters : (n : ℕ) → is_parameter f.function n ≡ true → IfPointer (f.ids n) (λ r path. IsOfBelow ds r × (path ≡ []))
  pub apart : (n k : ℕ) → is_parameter f.function n ≡ true → is_parameter f.function k ≡ true → n ≢ k → IfPointer (f.ids n) (λ r path. IfPointer (f.ids k) (λ q way. r ≢ q))
  pub variables : (n : ℕ) → is_own_memory f.function n ≡ true → is_parameter f.function n ≡ false → IfPointer (f.ids n) (λ r path. (r ≡ own n) × (path ≡ []))

-- where a pointer leads, seen from a call that is made above these
abbrev pub from_call : List (Frame × ℕ) → Root → Root
from_call ds (own n) = lent (length ds) n
from_call ds (global n) = global n
from_call ds (lent depth n) = lent depth n

-- a pointer that is an argument: that of a parameter of the caller, or of a variable of it
abbrev pub IsWhole : Setting → List (Frame × ℕ) → Frame → ℕ → Root → List ℕ → Type 0
IsWhole s ds f n r path = (is_pointer s.of.globals f.function n ≡ true) × (path ≡ []) × (((is_parameter f.function n ≡ true) × IsOfBelow ds r × (f.ids n ≡ Some (pointer r path))) ⊎ ((is_parameter f.function n ≡ false) × (r ≡ own n)))

-- The parameters of the call below which h calls stand have what they were given, and its function is this one.
pub record KeepsParameters (s : Setting) (h : ℕ) (g : Function) (given : ℕ → Option Held) (ds : List (Frame × ℕ)) (f : Frame) : Type 0 where
  pub code : IsCode s f
  pub above : h ≤ length ds
  pub same : length ds ≡ h → (f.function ≡ g) × ((n : ℕ) → is_parameter g n ≡ true → f.ids n ≡ given n)

-- a parameter whose argument is a pointer is one
abbrev pub ArePointersSo : Setting → Function → Function → List (Id × Id) → List ℕ → Type 0
ArePointersSo s f g [] ids = Unit {0}
ArePointersSo s f g (p ∷ ps) [] = Unit {0}
ArePointersSo s f g (p ∷ ps) (id ∷ ids) = (is_pointer s.of.globals f id ≡ true → is_pointer s.of.globals g p.0.0 ≡ true) × ArePointersSo s f g ps ids

-- What the rules say of pointers: no result is a parameter; chains and variables are pointers, and chains are no variables; a pointer that is an argument is a variable or a parameter, no one twice (M4); and what is a function's own is not the module's.
pub record LendsWhole (s : Setting) : Type 0 where
  pub results : (f : Function) → IsFunctionOf f s.of.functions → (i : Inst) → IsOf i (insts_of f) → is_parameter f i.result ≡ false
  pub chains : (f : Function) → IsFunctionOf f s.of.functions → (i : Inst) → IsOf i (insts_of f) → step_kind i.op ≡ chain → (is_own_memory f i.result ≡ false) × (is_pointer s.of.globals f i.result ≡ true)
  pub variables : (f : Function) → IsFunctionOf f s.of.functions → (i : Inst) → IsOf i (insts_of f) → step_kind i.op ≡ variable → is_pointer s.of.globals f i.result ≡ true
  pub arguments : (f : Function) → IsFunctionOf f s.of.functions → (i : Inst) → IsOf i (insts_of f) → step_kind i.op ≡ call → (list_any (is_other_pointer s.of.globals f) (drop 1 i.args) ≡ false) × (repeats (is_pointer s.of.globals f) (drop 1 i.args) ≡ false)
  pub parameters : (f g : Function) → IsFunctionOf f s.of.functions → (i : Inst) → IsOf i (insts_of f) → step_kind i.op ≡ call → function_of s.of.functions (arg i 0) ≡ Some g → ArePointersSo s f g g.params (drop 1 i.args)
  pub globals : (f : Function) → IsFunctionOf f s.of.functions → (n : ℕ) (v : Inst) → global_variable s n ≡ Some v → is_pointer s.of.globals f n ≡ true
  pub own : (f : Function) → IsFunctionOf f s.of.functions → (n : ℕ) → is_own_memory f n ≡ true → global_variable s n ≡ None
