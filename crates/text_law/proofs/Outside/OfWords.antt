-- A module that was read from bytes is of words, where its overrides and what the invocation is told are.
use Rattle.std.proofs.Common.{ℕ, List, sym, subst}
use Rattle.spv_words.specs.Words.{words}
use Rattle.spv_module.specs.State.{ModuleState}
use Rattle.profile_rules.specs.declared.given.Given.{Given}
use Rattle.module_check.specs.ReadFrom.{IsReadFrom}
use Rattle.traces.specs.Invocations.{Invocation, IsInvocation}
use Rattle.module_semantics.specs.Setting.{setting}
use Rattle.typed_law.specs.Words.{AreBytes, AreGivenWords, IsSettingOfWords}
use Rattle.typed_law.proofs.OfWords.{words_of_bytes, setting_of_words}

pub setting_of_bytes : (bytes : List ℕ) (m : ModuleState) → IsReadFrom bytes m → AreBytes bytes → (function : ℕ) (overrides : List (ℕ × Given)) → AreGivenWords overrides → (inv : Invocation) → IsInvocation inv → IsSettingOfWords (setting m function overrides inv)
setting_of_bytes bytes m read octets function overrides given inv told =
    subst (λ (n : ModuleState). IsSettingOfWords (setting n function overrides inv)) (sym read.made) (setting_of_words (words bytes) (words_of_bytes bytes octets) function overrides given inv told)
