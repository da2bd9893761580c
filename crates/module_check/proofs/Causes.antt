-- Why a module is refused, one judge after another.
use Rattle.std.proofs.Common.{◌≡◌, ℕ, List, [], Option, IsSomeAnd, subst}
use Rattle.std.specs.Prelude.{Contains}
use Rattle.spv_words.specs.declared.rule.Fault.{Fault}
use Rattle.spv_module.specs.State.{ModuleState}
use Rattle.profile_rules.specs.declared.given.Given.{Given}
use Rattle.spv_words.specs.Breaks.{NoRuleBroken}
use Rattle.spv_module.specs.declared.inst.Inst.{Inst}
use Rattle.spv_decor.specs.Rows.{word}
use Rattle.profile_rules.specs.Entry.{chosen}
use Rattle.profile_rules.specs.DataRules.{Broken as BrokenData, IsRight as IsRightOfData, data_rules}
use Rattle.profile_rules.specs.Calls.{ids_of, IsRight as IsRightOfCalls}
use Rattle.profile_rules.specs.TypeRules.{broken, AreWithin, Broken as BrokenTypes, type_rules}
use Rattle.profile_check.specs.Data.{IsRestRight}
use Rattle.conformance.specs.Rules.{Options}
use Rattle.conformance.proofs.Callees.{entry_known}
use Rattle.module_check.specs.Structure.{IsUnstructured}
use Rattle.module_check.specs.Judged.{IsLaterFault, by_rest, by_structure, by_calls, IsDeclared, IsTyped, IsEntry, IsFault, by_declarations}

pub rest_fault : (m : ModuleState) (pairs : List (ℕ × Given)) (entry : ℕ) (fault : Fault) → IsRestRight m pairs fault → IsLaterFault m pairs entry fault
rest_fault m pairs entry fault h = by_rest h

pub structure_fault : (m : ModuleState) (pairs : List (ℕ × Given)) (entry : ℕ) (fault : Fault) → IsUnstructured m.functions fault → IsLaterFault m pairs entry fault
structure_fault m pairs entry fault h = by_structure h

pub calls_fault : (m : ModuleState) (pairs : List (ℕ × Given)) (entry : ℕ) (fault : Fault) → IsRightOfCalls m.functions entry fault → IsLaterFault m pairs entry fault
calls_fault m pairs entry fault h = by_calls h

pub ruleset later_causes = (rest_fault, structure_fault, calls_fault)

pub declarations_fault : (m : ModuleState) (o : Options) (name : Option (List ℕ)) (fault : Fault) → name ≡ o.entry → IsRightOfData m name fault → IsFault m o fault
declarations_fault m o name fault same h = by_declarations (subst (λ (n : Option (List ℕ)). IsRightOfData m n fault) same h)

-- the function of the entry point is one of the module's
pub entry_is_function : (m : ModuleState) (o : Options) (id : ℕ) → IsDeclared m o → IsEntry m o id → Contains (ids_of m.functions) id
entry_is_function m o id declared is = entry_known m o.entry id declared.1.1.1.1.1.0 is

-- what is known by the name that was asked for
pub declared_by : (m : ModuleState) (o : Options) (name : Option (List ℕ)) → name ≡ o.entry → NoRuleBroken (BrokenData m name) data_rules → IsDeclared m o
declared_by m o name same fine = subst (λ (n : Option (List ℕ)). NoRuleBroken (BrokenData m n) data_rules) same fine

pub chosen_by : (m : ModuleState) (o : Options) (name : Option (List ℕ)) (id : ℕ) → name ≡ o.entry → IsSomeAnd (chosen name m.heads) (λ (i : Inst). id ≡ word i 1) → IsEntry m o id
chosen_by m o name id same is = subst (λ (n : Option (List ℕ)). IsSomeAnd (chosen n m.heads) (λ (i : Inst). id ≡ word i 1)) same is

pub typed_by : (m : ModuleState) → NoRuleBroken (BrokenTypes m) type_rules → broken m ≡ [] → AreWithin m → IsTyped m
typed_by m typed unbroken within = record { typed = typed; unbroken = unbroken; within = within }
