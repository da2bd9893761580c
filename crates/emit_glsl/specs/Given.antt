-- What is known of a module and of what is asked of it before it is translated.
use Rattle.spv_module.specs.State.{ModuleState}
use Rattle.conformance.specs.Rules.{Options}
use Rattle.module_check.specs.Judged.{IsRead}
use Rattle.typed_law.specs.Words.{AreBytes, AreGivenWords}

-- the module was read from octets, and the overrides are words
pub record IsGiven (m : ModuleState) (o : Options) : Type 0 where
  pub read : IsRead m
  pub octets : AreBytes read.bytes
  pub words : AreGivenWords o.overrides
