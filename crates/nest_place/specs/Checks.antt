-- What the check of a rule tells.
use Rattle.std.specs.Prelude.{ℕ, ◌≡◌, List}
use Rattle.spv_words.specs.declared.rule.Rule.{Rule}
use Rattle.spv_words.specs.declared.rule.Fault.{Fault}
use Rattle.spv_words.specs.declared.rule.Fault.TheVariants.{Refused, Limit, Memory}
use Rattle.spv_words.specs.Breaks.{NoRuleBroken}
use Rattle.structure_rules.specs.declared.graph.Node.{Node}
use Rattle.structure_rules.specs.Graph.{nth}
use Rattle.nest_place.specs.declared.links.NoTable.{NoTable}
use Rattle.nest_place.specs.declared.links.NoTable.TheVariants.{Clash, Memory as NoMemory}
use Rattle.structure_rules.specs.Structure.{BrokenIn, earlier_structure}

-- the rule is broken nowhere
abbrev pub IsUnbroken : List Node → Rule → Type 0
IsUnbroken g rule = (at : ℕ) → BrokenIn g rule at → ⊥

-- the rule of the refusal is this one, and broken there
abbrev pub IsBroken : List Node → Rule → Fault → Type 0
IsBroken g rule (Refused r) = (r.rule ≡ rule) × BrokenIn g rule r.at
IsBroken g rule (Limit l) = ⊥
IsBroken g rule Memory = Unit {0}

-- why links make no table, as the refusal by a rule of the block that is related to two others
abbrev pub fault_by : List Node → Rule → NoTable → Fault
fault_by g rule (Clash c) = Refused (record { rule = rule; at = (nth g c.block).at })
fault_by g rule NoMemory = Memory

-- no rule with a smaller number is broken
pub record IsFineBefore (g : List Node) (rule : Rule) : Type 0 where
  pub none : NoRuleBroken (BrokenIn g) (earlier_structure rule)
