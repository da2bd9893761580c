-- A call names a function of the text, in a module that was read and is not refused.
use Rattle.std.proofs.Common.{◌≡◌, ℕ, true, List}
use Rattle.spv_ops.specs.Opcode.{is}
use Rattle.spv_ops.specs.declared.Op.TheVariants as code
use Rattle.spv_module.specs.State.{ModuleState}
use Rattle.spv_module.specs.declared.inst.Inst.{Inst}
use Rattle.spv_index.specs.Locals.{insts_of}
use Rattle.conformance.specs.Rules.{Options}
use Rattle.module_check.specs.Judged.{IsRead, IsFine}
use Rattle.module_check.proofs.OfBytes.{called_functions}
use Rattle.name_alloc.specs.Naming.{name_of}
use Rattle.glsl_ast.specs.Tree.{TranslationUnit}
use Rattle.expr_forward.specs.Statements.{callee_text}
use Rattle.function_text.specs.Functions.{FunctionPlan}
use Rattle.unit_rules.specs.Unit.{IsUnitOf}
use Rattle.typed_law.specs.Conforms.{IsConforming}
use Rattle.accepted_law.proofs.Accepted.{accepted_conforming}
use Rattle.claim_law.specs.Claimed.{IsIn}
use Rattle.grammar_law.specs.Words.{words_of, AreOfStructs}
use Rattle.grammar_law.proofs.Unit.Ways.{HaveKinds, F, V}
use Rattle.grammar_law.proofs.Grammar.Callees.{callee_uses}
use Rattle.grammar_law.proofs.Grammar.Held.{Run}
use Rattle.grammar_law.proofs.Grammar.Outside.{have_kinds, functions_apart}

module _ (m : ModuleState) (o : Options) (unit : TranslationUnit) (read : IsRead m) (fine : IsFine m o) (u : IsUnitOf m o unit) where
  pub right : IsConforming m o.entry
  right = accepted_conforming read.bytes m o read.is fine

  pub kinds : HaveKinds m.globals
  kinds = have_kinds read.bytes m o.entry read.is right

  pub called_uses : (p : FunctionPlan) (among : IsIn p u.plans) (names : List (List ℕ)) → AreOfStructs m.globals (name_of u.claimed) names → (i : Inst) → IsIn i (insts_of (F (Run m o.entry right o unit u) o.entry right kinds o unit u p among)) → is i.op code.FunctionCall ≡ true
      → (words_of m.globals (name_of u.claimed) names).value (callee_text (V (Run m o.entry right o unit u) o.entry right kinds o unit u p among) i)
  called_uses p among names structs i there on =
      callee_uses (Run m o.entry right o unit u) o.entry right kinds o unit u p among (called_functions m read fine.typed.unbroken) fine.later.acyclic i there on (functions_apart read.bytes m o read.is fine) names structs
