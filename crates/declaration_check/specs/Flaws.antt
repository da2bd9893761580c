-- What variables may not be.
use Rattle.std.specs.Prelude.{Bool, true}
use Rattle.spv_module.specs.State.{ModuleState}
use Rattle.spv_module.specs.declared.inst.Inst.{Inst}
use Rattle.profile_rules.specs.Variables.{is_misclassed, is_other_input, is_other_block, is_other_initializer}
use Rattle.declaration_check.specs.declared.variables.Flaw.{Flaw}
use Rattle.declaration_check.specs.declared.variables.Flaw.TheVariants.{Misclassed, OtherInput, OtherBlock, OtherInitializer}

abbrev pub has_flaw : ModuleState → Flaw → Inst → Bool
has_flaw m Misclassed = is_misclassed true m.globals
has_flaw m OtherInput = is_other_input m.heads m.globals
has_flaw m (OtherBlock pushes) = is_other_block m.heads m.globals pushes
has_flaw m OtherInitializer = is_other_initializer m
