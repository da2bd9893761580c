-- What the judges of a module find, and why one of them refuses it.
use Rattle.std.specs.Prelude.{ℕ, ◌≡◌, ◌≤◌, false, List, [], IsSomeAnd}
use Rattle.spv_words.specs.declared.rule.Rule.{Rule}
use Rattle.spv_words.specs.declared.rule.Fault.{Fault}
use Rattle.spv_words.specs.declared.rule.Limit.TheVariants.{Leaves}
use Rattle.spv_words.specs.Limit.{limit_number}
use Rattle.spv_words.specs.Breaks.{NoRuleBroken}
use Rattle.spv_module.specs.State.{ModuleState}
use Rattle.spv_module.specs.declared.inst.Inst.{Inst}
use Rattle.spv_decor.specs.Rows.{word}
use Rattle.profile_rules.specs.declared.given.Given.{Given}
use Rattle.profile_rules.specs.Entry.{chosen}
use Rattle.profile_rules.specs.DataRules.{Broken as BrokenData, IsRight as IsRightOfData, data_rules}
use Rattle.profile_rules.specs.TypeRules.{broken, AreWithin, Broken as BrokenTypes, IsRight as IsRightOfTypes, type_rules}
use Rattle.profile_rules.specs.AccessRules.{Broken as BrokenAccess, access_rules}
use Rattle.profile_rules.specs.Constants.{breaks_x3, breaks_x4}
use Rattle.profile_rules.specs.Leaves.{leaves_of_module}
use Rattle.profile_rules.specs.Calls.{IsAcyclic, IsWithinCalls, IsRight as IsRightOfCalls}
use Rattle.layout_rules.specs.Blocks.{Broken as BrokenLayout}
use Rattle.profile_check.specs.Data.{IsRestRight}
use Rattle.conformance.specs.Rules.{Options}
use Rattle.module_check.specs.ReadFrom.{IsReadFrom}
use Rattle.module_check.specs.Structure.{AreStructured, IsUnstructured}

-- the module was read from bytes that break no rule on words and on the form of a module
pub record IsRead (m : ModuleState) : Type 0 where
  pub bytes : List ℕ
  pub is : IsReadFrom bytes m

-- no rule behind those on types is broken, and no limit behind those on types is exceeded, where the function of the entry point has this id
pub record IsFineLater (m : ModuleState) (pairs : List (ℕ × Given)) (entry : ℕ) : Type 0 where
  pub leaves : leaves_of_module m ≤ limit_number Leaves
  pub layout : (rule : Rule) (at : ℕ) → BrokenLayout m rule at → ⊥
  pub access : NoRuleBroken (BrokenAccess m) access_rules
  pub known : breaks_x3 m pairs ≡ false
  pub fits : breaks_x4 m pairs ≡ false
  pub structure : AreStructured m.functions
  pub acyclic : IsAcyclic m.functions
  pub calls : IsWithinCalls m.functions entry

-- why a module is refused that breaks no rule on types: its layouts, accesses, overrides and leaves, the structure of its functions, or their calls
pub data IsLaterFault (m : ModuleState) (pairs : List (ℕ × Given)) (entry : ℕ) (fault : Fault) : Type 0 where
  by_rest : IsRestRight m pairs fault → IsLaterFault m pairs entry fault
  by_structure : IsUnstructured m.functions fault → IsLaterFault m pairs entry fault
  by_calls : IsRightOfCalls m.functions entry fault → IsLaterFault m pairs entry fault

-- no rule on declarations is broken; none on types either, and no limit on types is exceeded
abbrev pub IsDeclared : ModuleState → Options → Type 0
IsDeclared m o = NoRuleBroken (BrokenData m o.entry) data_rules

pub record IsTyped (m : ModuleState) : Type 0 where
  pub typed : NoRuleBroken (BrokenTypes m) type_rules
  pub unbroken : broken m ≡ []
  pub within : AreWithin m

-- the id is that of the function of the entry point
abbrev pub IsEntry : ModuleState → Options → ℕ → Type 0
IsEntry m o id = IsSomeAnd (chosen o.entry m.heads) (λ (i : Inst). id ≡ word i 1)

-- no rule is broken behind those on the form and on decorations, and no limit behind that on the bound is exceeded
pub record IsFine (m : ModuleState) (o : Options) : Type 0 where
  pub declared : IsDeclared m o
  pub typed : IsTyped m
  pub entry : ℕ
  pub is : IsEntry m o entry
  pub later : IsFineLater m o.overrides entry

-- why a module is refused: its declarations, its types, or what comes later
pub data IsFault (m : ModuleState) (o : Options) (fault : Fault) : Type 0 where
  by_declarations : IsRightOfData m o.entry fault → IsFault m o fault
  by_types : IsDeclared m o → IsRightOfTypes m fault → IsFault m o fault
  by_later : IsDeclared m o → IsTyped m → (entry : ℕ) → IsEntry m o entry → IsLaterFault m o.overrides entry fault → IsFault m o fault
