-- Modules that break no rule on their form, their declarations and their types, as the shapes of their values need it.
use Rattle.std.specs.Prelude.{◌≡◌, ◌≤◌, ◌+◌, ◌⊎◌, ℕ, true, false, List, [], ◌∷◌, length, Contains, Option, Some, None}
use Rattle.spv_words.specs.Words.{first_fault}
use Rattle.spv_words.specs.Breaks.{NoRuleBroken}
use Rattle.spv_words.specs.declared.rule.Rule.TheVariants.{P1, P2, P3, P4}
use Rattle.spv_ops.specs.Shape.{shape, count_of}
use Rattle.spv_module.specs.Inst.{has_type, has_result}
use Rattle.spv_module.specs.State.{ModuleState}
use Rattle.spv_module.specs.Held.{global}
use Rattle.spv_module.specs.Lists.{module_of}
use Rattle.spv_module.specs.Broken.{Broken as BrokenForm}
use Rattle.spv_module.specs.declared.inst.Id.{Id}
use Rattle.spv_module.specs.declared.inst.Inst.{Inst}
use Rattle.spv_module.specs.declared.inst.Function.{Function}
use Rattle.spv_index.specs.Locals.{insts_of, parameter_in}
use Rattle.profile_rules.specs.DataRules.{Broken as BrokenData, data_rules}
use Rattle.profile_rules.specs.TypeRules.{broken}
use Rattle.profile_rules.specs.AccessRules.{Broken as BrokenAccess, access_rules}
use Rattle.plan_law.specs.InOrder.{IsAmong, AreRising, AreInOrder}
use Rattle.type_law.specs.Shaped.{HaveResults}

-- the words break none of the rules on the form of a module (P1 to P4), on declarations, on types and on accesses, where an entry point of this name is asked for, if any; and none of their instructions is empty or cut short
pub record BreakNone (ws : List ℕ) (entry : Option (List ℕ)) : Type 0 where
  pub uncut : first_fault ws ≡ None
  pub form : NoRuleBroken (BrokenForm ws) (P1 ∷ P2 ∷ P3 ∷ P4 ∷ [])
  pub declared : NoRuleBroken (BrokenData (module_of ws) entry) data_rules
  pub typed : broken (module_of ws) ≡ []
  pub accessed : NoRuleBroken (BrokenAccess (module_of ws)) access_rules

-- an instruction has as many words as its opcode asks for, a result where the opcode has one, and no type where it has none
abbrev pub size_of : Inst → ℕ
size_of i = 1 + count_of (has_type i.op) + count_of (has_result i.op) + length i.args

pub record IsFormed (i : Inst) : Type 0 where
  pub least : (shape i.op).least ≤ size_of i
  pub most : size_of i ≤ (shape i.op).most
  pub result : has_result i.op ≡ true → i.result ≡ 0 → ⊥
  pub untyped : has_type i.op ≡ false → i.ty ≡ 0

-- it is one of these parameters
abbrev pub IsParameter : Id × Id → List (Id × Id) → Type 0
IsParameter p [] = ⊥
IsParameter p (q ∷ qs) = (q ≡ p) ⊎ IsParameter p qs

-- the instructions of a function are formed and in order, and its parameters have ids of their own, none of which is 0
pub record IsConformingIn (m : ModuleState) (f : Function) : Type 0 where
  pub order : AreInOrder m f
  pub formed : (i : Inst) → IsAmong i (insts_of f) → IsFormed i
  pub some : (p : Id × Id) → IsParameter p f.params → p.0.0 ≡ 0 → ⊥
  pub outside : (p : Id × Id) → IsParameter p f.params → global m.globals p.0.0 ≡ None
  pub found : (p : Id × Id) → IsParameter p f.params → parameter_in f p.0.0 ≡ Some p.1.0

-- so are the globals and the functions of a module, which breaks none of the rules on declarations, types and accesses
pub record IsConforming (m : ModuleState) (entry : Option (List ℕ)) : Type 0 where
  pub results : HaveResults m.globals
  pub rising : AreRising 0 m.globals
  pub formed : (g : Inst) → IsAmong g m.globals → IsFormed g
  pub inside : (f : Function) → Contains m.functions f → IsConformingIn m f
  pub declared : NoRuleBroken (BrokenData m entry) data_rules
  pub typed : broken m ≡ []
  pub accessed : NoRuleBroken (BrokenAccess m) access_rules
