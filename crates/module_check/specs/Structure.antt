-- What is known of the structure of functions that are judged one by one.
use Rattle.std.specs.Prelude.{List, Contains}
use Rattle.std.specs.List.{All}
use Rattle.spv_words.specs.declared.rule.Fault.{Fault}
use Rattle.spv_words.specs.Breaks.{NoRuleBroken}
use Rattle.spv_module.specs.declared.inst.Function.{Function}
use Rattle.structure_rules.specs.Graph.{graph}
use Rattle.structure_rules.specs.Structure.{BrokenIn, IsRightStructure, IsTooDeep, structure_rules}

-- the function breaks no rule on structure, and no block of it is too deep
pub record IsStructured (f : Function) : Type 0 where
  pub unbroken : NoRuleBroken (BrokenIn (graph f)) structure_rules
  pub shallow : IsTooDeep (graph f) → ⊥

abbrev pub AreStructured : List Function → Type 0
AreStructured fs = All IsStructured fs

-- one of these functions is why there is the fault
abbrev pub IsUnstructured : List Function → Fault → Type 0
IsUnstructured fs fault = (f : Function) × Contains fs f × IsRightStructure f fault
