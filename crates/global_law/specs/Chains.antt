-- What is known of the chains of each call under way: from what each leads, and by which indexes.
use Rattle.std.specs.Prelude.{is_some, ◌≡◌, ◌≢◌, ◌++◌, ℕ, Bool, true, false, List, [], ◌∷◌, drop, Some, None}
use Rattle.spv_ops.specs.Groups.{is_chain}
use Rattle.spv_module.specs.Held.{global}
use Rattle.spv_module.specs.declared.inst.Inst.{Inst}
use Rattle.spv_module.specs.declared.inst.Function.{Function}
use Rattle.spv_types.specs.Tree.{word}
use Rattle.spv_index.specs.Locals.{insts_of}
use Rattle.spv_index.specs.Pointers.{pointee_of}
use Rattle.profile_rules.specs.MemoryRules.{is_pointer, is_own_memory}
use Rattle.module_semantics.specs.Setting.{Setting}
use Rattle.module_semantics.specs.Memory.{are_allowed}
use Rattle.module_semantics.specs.State.{Root, Frame}
use Rattle.module_semantics.specs.Operands.{pointer_at}
use Rattle.module_semantics.specs.Steps.{chain, variable, step_kind, base}
use Rattle.access_paths.specs.Ways.{is_constant_index}
use Rattle.agree_law.specs.Agree.{IfPointer}
use Rattle.agree_law.specs.Blocks.{IsOf}
use Rattle.call_law.specs.Frames.{makes_pointer}
use Rattle.call_law.specs.Known.{IsFunctionOf, is_parameter, IsLending}

-- no chain of these makes this id
abbrev pub NoneMakes : ℕ → List Inst → Type 0
NoneMakes n [] = Unit {0}
NoneMakes n (i ∷ is) = (is_chain i.op ≡ true → i.result ≢ n) × NoneMakes n is

-- a chain stands behind what makes its base, and is the only one with its result
abbrev pub ChainsRise : List Inst → Type 0
ChainsRise [] = Unit {0}
ChainsRise (i ∷ is) = (is_chain i.op ≡ true → NoneMakes (base i) (i ∷ is) × NoneMakes i.result is) × ChainsRise is

-- indexes that are constants have their values
abbrev pub ConstantsAre : Setting → List ℕ → List ℕ → Type 0
ConstantsAre s [] [] = Unit {0}
ConstantsAre s (n ∷ ns) (i ∷ is) = (is_constant_index s.of.globals n ≡ true → s.constants n ≡ Some (word i)) × ConstantsAre s ns is
ConstantsAre s _ _ = ⊥

-- where a chain leads: further than its base, by indexes that its types allow
pub record IsLed (s : Setting) (f : Frame) (i : Inst) (r : Root) (at : List ℕ) : Type 0 where
  pub from : List ℕ
  pub indexes : List ℕ
  pub base_is : pointer_at s f (base i) ≡ Some (r, from)
  pub whole : at ≡ from ++ indexes
  pub type : ℕ
  pub points_to : pointee_of s.of.globals f.function (base i) ≡ Some type
  pub allowed : are_allowed s type indexes ≡ true
  pub constants : ConstantsAre s (drop 1 i.args) indexes

-- the id is that of a constant or a variable of the module, or of another global
abbrev pub is_global : List Inst → ℕ → Bool
is_global gs n = is_some (global gs n)

-- so each chain does that leads somewhere; and no call has something of its own for what is the module's
pub record AreLed (s : Setting) (ds : List (Frame × ℕ)) (f : Frame) : Type 0 where
  pub lending : IsLending s ds f
  pub own : (n : ℕ) → is_global s.of.globals n ≡ true → f.ids n ≡ None
  pub chains : (i : Inst) → IsOf i (insts_of f.function) → step_kind i.op ≡ chain → IfPointer (f.ids i.result) (IsLed s f i)

-- What the rules say of chains: they stand in order, each with a result of its own (P3, T1); a base is a pointer (T6), and a result of what makes none is not (T3, T4, M5); what a function defines is nothing of the module (P3, P4).
pub record ChainsAreRight (s : Setting) : Type 0 where
  pub rise : (f : Function) → IsFunctionOf f s.of.functions → ChainsRise (insts_of f)
  pub values : (f : Function) → IsFunctionOf f s.of.functions → (i : Inst) → IsOf i (insts_of f) → makes_pointer (step_kind i.op) ≡ false → is_pointer s.of.globals f i.result ≡ false
  pub bases : (f : Function) → IsFunctionOf f s.of.functions → (i : Inst) → IsOf i (insts_of f) → step_kind i.op ≡ chain → is_pointer s.of.globals f (base i) ≡ true
  pub apart : (f : Function) → IsFunctionOf f s.of.functions → (i j : Inst) → IsOf i (insts_of f) → IsOf j (insts_of f) → step_kind i.op ≡ variable → step_kind j.op ≡ chain → j.result ≢ i.result
  pub memory : (f : Function) → IsFunctionOf f s.of.functions → (i : Inst) → IsOf i (insts_of f) → step_kind i.op ≡ variable → is_own_memory f i.result ≡ true
  pub results : (f : Function) → IsFunctionOf f s.of.functions → (i : Inst) → IsOf i (insts_of f) → is_global s.of.globals i.result ≡ false
  pub parameters : (f : Function) → IsFunctionOf f s.of.functions → (n : ℕ) → is_parameter f n ≡ true → is_global s.of.globals n ≡ false
