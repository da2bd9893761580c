-- No function of an accepted module's text has the name of a function on memory: those are reserved.
use Rattle.std.proofs.Common.{◌≡◌, ℕ, false, List, refl}
use Rattle.spv_ops.specs.declared.AtomicOp.{AtomicOp}
use Rattle.spv_ops.specs.declared.AtomicOp.TheVariants as atomics
use Rattle.spv_module.specs.State.{ModuleState}
use Rattle.conformance.specs.Rules.{Options}
use Rattle.module_check.specs.Judged.{IsFine}
use Rattle.module_check.specs.ReadFrom.{IsReadFrom}
use Rattle.traces.specs.Invocations.{Invocation, IsInvocation}
use Rattle.name_alloc.specs.Reserved.{is_word, has_prefix}
use Rattle.glsl_ast.specs.Tree.{TranslationUnit}
use Rattle.glsl_semantics.specs.Expressions.{Program}
use Rattle.expr_forward.specs.Statements.{atomic_name}
use Rattle.unit_rules.specs.Unit.{IsUnitOf}
use Rattle.text_law.specs.Left.{IsLeftOfGlobals}
use Rattle.text_law.proofs.Outside.Text.{P as program_in}
use Rattle.text_law.proofs.Texts.BuiltIns.{IsReserved, no_function}

atomic_reserved : (a : AtomicOp) → IsReserved (atomic_name a)
unfolding is_word has_prefix
atomic_reserved atomics.Load = record { reserved = refl; no_main = refl; no_none = refl }
atomic_reserved a = record { reserved = refl; no_main = refl; no_none = refl }

module _ (bytes : List ℕ) (m : ModuleState) (o : Options) (read : IsReadFrom bytes m) (fine : IsFine m o) (unit : TranslationUnit) (u : IsUnitOf m o unit) (inv : Invocation) (told : IsInvocation inv) (left : IsLeftOfGlobals bytes m o) where
  abbrev P : Program
  P = program_in bytes m o read fine unit u inv told left

  pub no_atomics : (a : AtomicOp) → P.is_function (atomic_name a) ≡ false
  no_atomics a = no_function bytes m o read fine unit u inv told left (atomic_name a) (atomic_reserved a)
