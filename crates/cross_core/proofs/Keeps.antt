-- The text of a module that was read and is accepted does what the module does; so it does in every dispatch.
use Rattle.std.proofs.Common.{ℕ, ◌+◌, ◌<◌, List, [], ◌∷◌}
use Rattle.spv_words.specs.declared.rule.Rule.TheVariants.{P11, P12}
use Rattle.spv_words.specs.Breaks.{NoRuleBroken}
use Rattle.spv_module.specs.State.{ModuleState}
use Rattle.spv_decor.specs.Broken.{Broken}
use Rattle.conformance.specs.Rules.{Options}
use Rattle.module_check.specs.Judged.{IsFine}
use Rattle.glsl_ast.specs.Tree.{TranslationUnit}
use Rattle.emit_glsl.specs.Given.{IsGiven}
use Rattle.emit_glsl.specs.Text.{IsTranslationOf}
use Rattle.traces.specs.Events.{Event}
use Rattle.dispatch_semantics.specs.Store.{Store}
use Rattle.dispatch_semantics.specs.Grid.{Grid, group_of, count, invocation}
use Rattle.dispatch_semantics.specs.Dispatch.{DispatchRun}
use Rattle.preservation.specs.Preserves.{module_side, text_side, IsGrid, first_state}
use Rattle.preservation.proofs.Interleavings.{dispatches_agree}
use Rattle.text_law.proofs.Filled.Filled.{accepted_preserves}
use Rattle.cross_core.specs.Keeps.{Keeps}

pub keeps : (m : ModuleState) (o : Options) → IsGiven m o → NoRuleBroken (Broken m) (P11 ∷ P12 ∷ []) → IsFine m o → (unit : TranslationUnit) → IsTranslationOf m o unit → Keeps m o unit
keeps m o given decorated fine unit is = record {
  entry = is.translated.entry;
  is_entry = is.translated.is_entry;
  preserves = record {
    events = λ inv told. accepted_preserves given.read.bytes m o given.read.is fine unit is.translated inv told (record { octets = given.octets; given = given.words; decorated = decorated });
  };
}

-- by any schedule: the same events in the same order, and the same memory
pub every_dispatch : (m : ModuleState) (o : Options) (unit : TranslationUnit) (k : Keeps m o unit) (g : Grid) → IsGrid g → (n : ℕ) (store : Store) (schedule : List ℕ) (events : List (ℕ × Event)) (last : Store)
    → DispatchRun (count g) (group_of g) (module_side m k.entry o.overrides g n) (first_state store) schedule events last
    → DispatchRun (count g) (group_of g) (text_side unit g (n + 1)) (first_state store) schedule events last
every_dispatch m o unit k g told n store schedule events last run =
    dispatches_agree m k.entry o.overrides unit g (λ i less. k.preserves.events (invocation g i) (told i less)) n store schedule events last run
