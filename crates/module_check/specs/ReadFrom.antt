-- A module that was read from bytes, and why bytes are none.
use Rattle.std.specs.Prelude.{◌≡◌, ◌≤◌, ℕ, List, length}
use Rattle.spv_words.specs.declared.rule.Fault.{Fault}
use Rattle.spv_words.specs.declared.rule.Limit.TheVariants.{Bytes}
use Rattle.spv_words.specs.Limit.{limit_number}
use Rattle.spv_words.specs.Words.{words}
use Rattle.spv_words.specs.Breaks.{NoRuleBroken, AreWords, bound, most_bound}
use Rattle.spv_module.specs.State.{ModuleState}
use Rattle.spv_module.specs.Lists.{module_of}
use Rattle.spv_module.specs.Broken.{Broken, form_rules}
use Rattle.conformance.specs.Rules.{Options, IsRight}

-- the module is that of these bytes, which are within the limits on bytes and on the bound, and break no rule on words and on the form of a module
pub record IsReadFrom (bytes : List ℕ) (m : ModuleState) : Type 0 where
  pub short : length bytes ≤ limit_number Bytes
  pub fine : AreWords bytes
  pub bound : bound bytes ≤ most_bound
  pub made : m ≡ module_of (words bytes)
  pub form : NoRuleBroken (Broken (words bytes)) form_rules

-- the bytes are refused so, whatever is asked of them
pub record IsUnread (bytes : List ℕ) (fault : Fault) : Type 0 where
  pub right : (o : Options) → IsRight bytes o fault
