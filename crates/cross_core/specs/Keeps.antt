-- A text does what its module does.
use Rattle.std.specs.Prelude.{ℕ}
use Rattle.spv_module.specs.State.{ModuleState}
use Rattle.conformance.specs.Rules.{Options}
use Rattle.module_check.specs.Judged.{IsEntry}
use Rattle.glsl_ast.specs.Tree.{TranslationUnit}
use Rattle.preservation.specs.Preserves.{Preserves}

-- For the function of the chosen entry point, and with the overrides of the command line, it preserves what the module does.
pub record Keeps (m : ModuleState) (o : Options) (unit : TranslationUnit) : Type 0 where
  pub entry : ℕ
  pub is_entry : IsEntry m o entry
  pub preserves : Preserves m entry o.overrides unit
