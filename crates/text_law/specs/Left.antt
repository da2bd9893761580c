-- What is asked of an accepted module and an invocation besides that the module was read and is refused by no judge.
use Rattle.std.specs.Prelude.{ℕ, List, [], ◌∷◌}
use Rattle.spv_words.specs.declared.rule.Rule.TheVariants.{P11, P12}
use Rattle.spv_words.specs.Breaks.{NoRuleBroken}
use Rattle.spv_module.specs.State.{ModuleState}
use Rattle.spv_decor.specs.Broken.{Broken}
use Rattle.conformance.specs.Rules.{Options}
use Rattle.typed_law.specs.Words.{AreBytes, AreGivenWords}

-- Bytes are bytes, and overrides are words: by their types in a program. And no rule on decorations is broken, as where they were read.
pub record IsLeftOfGlobals (bytes : List ℕ) (m : ModuleState) (o : Options) : Type 0 where
  pub octets : AreBytes bytes
  pub given : AreGivenWords o.overrides
  pub decorated : NoRuleBroken (Broken m) (P11 ∷ P12 ∷ [])
