-- The operands of an atomic's event, from the words of ids.
use Rattle.std.specs.Prelude.{ℕ, List, [], ◌∷◌, Option, Some, option_map}
use Rattle.op_semantics.specs.Component.{each_one}
use Rattle.module_semantics.specs.Steps.{negated}
use Rattle.step_events.specs.declared.atomics.AtomicOperands.{AtomicOperands}
use Rattle.step_events.specs.declared.atomics.AtomicOperands.TheVariants.{Known, Word, Negated, Compared}

abbrev pub asked : AtomicOperands → (ℕ → Option ℕ) → Option (List ℕ)
asked (Known w) f = Some (w ∷ [])
asked (Word id) f = each_one f (id ∷ [])
asked (Negated id) f = option_map negated (each_one f (id ∷ []))
asked (Compared id other) f = each_one f (id ∷ other ∷ [])
