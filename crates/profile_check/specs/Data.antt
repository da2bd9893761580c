-- Which rules and limits the data of a module and the overrides break, and the plans of its block variables.
use Rattle.std.specs.Prelude.{ℕ, ◌<◌, ◌⊎◌, Bool, false, List, [], ◌∷◌, Option, is_some, map, filter}
use Rattle.std.specs.Option.{option_map_or}
use Rattle.spv_words.specs.Breaks.{NoRuleBroken}
use Rattle.spv_words.specs.Limit.{limit_number}
use Rattle.spv_words.specs.declared.rule.Rule.{Rule}
use Rattle.spv_words.specs.declared.rule.Limit.{Limit}
use Rattle.spv_words.specs.declared.rule.Limit.TheVariants.{Types, Parts, Leaves}
use Rattle.spv_words.specs.declared.rule.Fault.{Fault}
use Rattle.spv_words.specs.declared.rule.Fault.TheVariants.{Refused, Limit as Exceeded, Memory}
use Rattle.spv_module.specs.Held.{global}
use Rattle.spv_module.specs.State.{ModuleState}
use Rattle.spv_module.specs.declared.inst.Inst.{Inst}
use Rattle.spv_types.specs.Limits.{IsPassed}
use Rattle.layout_rules.specs.Blocks.{Broken as BreaksLayout, SomeTypePasses, block_of}
use Rattle.profile_rules.specs.declared.given.Given.{Given}
use Rattle.profile_rules.specs.DataRules.{Broken as BreaksDeclaration, Breaks as BreaksDeclarations, data_rules}
use Rattle.profile_rules.specs.AccessRules.{Broken as BreaksAccess}
use Rattle.profile_rules.specs.Leaves.{leaves_of_module}
use Rattle.spec_constants.specs.Fit.{Broken as BreaksOverrides}
use Rattle.buffer_layout.specs.Plan.{IsPlanOf, IsWithinLimits}
use Rattle.buffer_layout.specs.declared.plan.BlockPlan.{BlockPlan}

-- the id is that of a block variable
abbrev pub is_block_variable : List Inst → ℕ → Bool
is_block_variable gs id = option_map_or (λ (v : Inst). is_some (block_of gs v)) (global gs id) false

-- the ids of the block variables among these globals, in their order
abbrev pub variables_among : List Inst → List Inst → List ℕ
variables_among gs some = map (λ (g : Inst). g.result) (filter (λ (g : Inst). is_block_variable gs g.result) some)

-- the ids of all block variables, in the order of the module
abbrev pub block_variables : List Inst → List ℕ
block_variables gs = variables_among gs gs

-- the plan of the block variable with this id, whose type passes no limit
abbrev pub IsPlanned : ModuleState → ℕ → BlockPlan → Type 0
IsPlanned m id plan = IsPlanOf m.heads m.globals id plan × IsWithinLimits m.globals id

-- these are the plans of the block variables with these ids, one for each
abbrev pub ArePlans : ModuleState → List ℕ → List BlockPlan → Type 0
ArePlans m [] [] = Unit {0}
ArePlans m (id ∷ ids) (plan ∷ plans) = IsPlanned m id plan × ArePlans m ids plans
ArePlans m _ _ = ⊥

-- the limit is passed: a type of the module is too deep or has too many parts, or the module has too many leaves
abbrev pub Exceeds : ModuleState → Limit → Type 0
Exceeds m Types = SomeTypePasses m.globals Types
Exceeds m Parts = SomeTypePasses m.globals Parts
Exceeds m Leaves = limit_number Leaves < leaves_of_module m
Exceeds m _ = ⊥

-- a rule on the layout of blocks, on memory, atomics and barriers, or on overrides is broken at this word
pub data BreaksRest (m : ModuleState) (pairs : List (ℕ × Given)) (rule : Rule) (at : ℕ) : Type 0 where
  laid_out : BreaksLayout m rule at → BreaksRest m pairs rule at
  accessed : BreaksAccess m rule at → BreaksRest m pairs rule at
  overridden : BreaksOverrides m pairs rule at → BreaksRest m pairs rule at

-- a refusal by a rule on layout has its cause
abbrev pub IsLayoutRight : ModuleState → Fault → Type 0
IsLayoutRight m (Refused r) = BreaksLayout m r.rule r.at
IsLayoutRight m (Exceeded l) = SomeTypePasses m.globals l
IsLayoutRight m Memory = Unit {0}

-- a refusal by one of these rules has its cause
abbrev pub IsRestRight : ModuleState → List (ℕ × Given) → Fault → Type 0
IsRestRight m pairs (Refused r) = BreaksRest m pairs r.rule r.at
IsRestRight m pairs (Exceeded l) = Exceeds m l
IsRestRight m pairs Memory = Unit {0}

-- no rule on declarations is broken
abbrev pub AreDeclarationsFine : ModuleState → Option (List ℕ) → Type 0
AreDeclarationsFine m name = NoRuleBroken (BreaksDeclaration m name) data_rules

-- a rule is broken at this word, and considered: one on declarations, or where none of them is broken one of the others
abbrev pub Breaks : ModuleState → Option (List ℕ) → List (ℕ × Given) → Rule → ℕ → Type 0
Breaks m name pairs rule at = BreaksDeclarations m name rule at ⊎ (AreDeclarationsFine m name × BreaksRest m pairs rule at)

-- the limit is passed, by any type of the module or by what the other rules see, and considered, since no rule on declarations is broken
abbrev pub IsExceeded : ModuleState → Option (List ℕ) → Limit → Type 0
IsExceeded m name l = AreDeclarationsFine m name × (IsPassed m.globals l ⊎ Exceeds m l)

-- the fault has its cause
abbrev pub IsRight : ModuleState → Option (List ℕ) → List (ℕ × Given) → Fault → Type 0
IsRight m name pairs (Refused r) = Breaks m name pairs r.rule r.at
IsRight m name pairs (Exceeded l) = IsExceeded m name l
IsRight m name pairs Memory = Unit {0}
