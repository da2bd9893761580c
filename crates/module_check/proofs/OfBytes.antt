-- What is known of a module that was read from bytes, said of the bytes.
use Rattle.std.proofs.Common.{◌≡◌, ◌≤◌, ℕ, List, [], ◌∷◌, None, length, refl}
use Rattle.spv_words.specs.declared.rule.Rule.TheVariants.{P11, P12}
use Rattle.spv_words.specs.declared.rule.Fault.{Fault}
use Rattle.spv_words.specs.declared.rule.Limit.TheVariants.{Bytes}
use Rattle.spv_words.specs.Limit.{limit_number}
use Rattle.spv_words.specs.Words.{words}
use Rattle.spv_words.specs.Breaks.{NoRuleBroken}
use Rattle.spv_module.specs.State.{ModuleState}
use Rattle.spv_decor.specs.Broken.{Broken as BrokenDecorations, IsRight as IsRightOfDecorations}
use Rattle.profile_rules.specs.TypeRules.{broken}
use Rattle.profile_rules.specs.Calls.{AreCalleesFunctions, HaveOwnIds}
use Rattle.conformance.specs.Rules.{Options, Conforms, IsRight, IsWithinLimits}
use Rattle.module_check.specs.Judged.{IsRead, IsFine, IsFault}
use Rattle.module_check.specs.ReadFrom.{IsReadFrom}
use Rattle.module_check.proofs.Judged.{decorations_fault, have_own_ids, callees_there, module_fault, module_fine, module_within}

-- functions of a module that was read have ids of their own, and each that is called is one of them where no rule on types is broken
pub own_functions : (m : ModuleState) → IsRead m → HaveOwnIds m.functions
own_functions m read = have_own_ids read.bytes (words read.bytes) (record { entry = None; overrides = [] }) refl read.is.fine m read.is.made read.is.form

pub called_functions : (m : ModuleState) → IsRead m → broken m ≡ [] → AreCalleesFunctions m.functions
called_functions m read = callees_there read.bytes (words read.bytes) (record { entry = None; overrides = [] }) refl read.is.fine m read.is.made read.is.form

module _ (bytes : List ℕ) (m : ModuleState) (read : IsReadFrom bytes m) where
  -- what the judges ask of a module
  pub read_is : IsRead m
  read_is = record { bytes = bytes; is = read }

  module _ (o : Options) where
    -- its decorations are refused
    pub undecorated : (fault : Fault) → IsRightOfDecorations m fault → IsRight bytes o fault
    undecorated fault h = decorations_fault bytes (words bytes) o refl read.fine m read.made read.form fault h

    module _ (decorations : NoRuleBroken (BrokenDecorations m) (P11 ∷ P12 ∷ [])) where
      -- it is refused
      pub faulty : (fault : Fault) → IsFault m o fault → IsRight bytes o fault
      faulty fault h = module_fault bytes (words bytes) o refl read.fine m read.made read.form decorations fault h

      -- it is not
      pub fine : length bytes ≤ limit_number Bytes → IsFine m o → Conforms bytes o × IsWithinLimits bytes o
      fine bytes_fit h = (
        module_fine bytes (words bytes) o refl read.fine m read.made read.form decorations h,
        module_within bytes (words bytes) o refl read.fine m read.made read.form decorations h bytes_fit read.bound,
      )
