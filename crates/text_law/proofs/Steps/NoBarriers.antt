-- No function of an accepted module's text has the name of a barrier: those are reserved.
use Rattle.std.proofs.Common.{ℕ, List, refl}
use Rattle.std.specs.Prelude.{codes}
use Rattle.spv_module.specs.State.{ModuleState}
use Rattle.conformance.specs.Rules.{Options}
use Rattle.module_check.specs.Judged.{IsFine}
use Rattle.module_check.specs.ReadFrom.{IsReadFrom}
use Rattle.traces.specs.Invocations.{Invocation, IsInvocation}
use Rattle.name_alloc.specs.Reserved.{is_word, has_prefix}
use Rattle.glsl_ast.specs.Tree.{TranslationUnit}
use Rattle.unit_rules.specs.Unit.{IsUnitOf}
use Rattle.text_law.specs.Left.{IsLeftOfGlobals}
use Rattle.text_law.proofs.Outside.Text.{P as program_in}
use Rattle.text_law.proofs.Texts.BuiltIns.{IsReserved, no_function}
use Rattle.text_law.proofs.Insts.Barriers.{HasNoBarriers}

buffers_reserved : IsReserved (codes "memoryBarrierBuffer")
unfolding is_word has_prefix
buffers_reserved = record { reserved = refl; no_main = refl; no_none = refl }

shared_reserved : IsReserved (codes "memoryBarrierShared")
unfolding is_word has_prefix
shared_reserved = record { reserved = refl; no_main = refl; no_none = refl }

control_reserved : IsReserved (codes "barrier")
unfolding is_word has_prefix
control_reserved = record { reserved = refl; no_main = refl; no_none = refl }

module _ (bytes : List ℕ) (m : ModuleState) (o : Options) (read : IsReadFrom bytes m) (fine : IsFine m o) (unit : TranslationUnit) (u : IsUnitOf m o unit) (inv : Invocation) (told : IsInvocation inv) (left : IsLeftOfGlobals bytes m o) where
  pub no_barriers : HasNoBarriers (program_in bytes m o read fine unit u inv told left)
  no_barriers = record {
    buffers = no_function bytes m o read fine unit u inv told left (codes "memoryBarrierBuffer") buffers_reserved;
    shared = no_function bytes m o read fine unit u inv told left (codes "memoryBarrierShared") shared_reserved;
    control = no_function bytes m o read fine unit u inv told left (codes "barrier") control_reserved;
  }
