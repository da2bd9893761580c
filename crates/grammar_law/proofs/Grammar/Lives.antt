-- An instruction whose result is not gone is live.
use Rattle.std.proofs.Common.{◌≡◌, ℕ, Bool, true, false, List, Option, Some, refl, sym, ap, ◌∙◌}
use Rattle.std.specs.Prelude.{slice_get}
use Rattle.spv_module.specs.declared.inst.Inst.{Inst}
use Rattle.spv_module.specs.declared.inst.Block.{Block}
use Rattle.conformance.specs.Rules.{Options}
use Rattle.module_semantics.specs.Setting.{Setting}
use Rattle.use_chains.specs.Slots.{inst_at, IsLive}
use Rattle.hoist_plan.specs.Plan.{is_live}
use Rattle.glsl_ast.specs.Tree.{TranslationUnit}
use Rattle.function_plan.specs.Phis.{is_gone}
use Rattle.function_text.specs.Functions.{FunctionPlan}
use Rattle.unit_rules.specs.Unit.{IsUnitOf}
use Rattle.list_law.proofs.Tests.{clash}
use Rattle.typed_law.specs.Conforms.{IsConforming}
use Rattle.typed_law.proofs.Lists.{some_part}
use Rattle.claim_law.specs.Claimed.{IsIn}
use Rattle.claim_law.proofs.Claim.Listed.{at_place}
use Rattle.grammar_law.proofs.Unit.Forms.{placed, unmade_gone}
use Rattle.grammar_law.proofs.Meets.LiveOrGone.{placed_live, live_form}
use Rattle.grammar_law.proofs.Unit.Ways.{HaveKinds, F, R, V, plan_is}

module _ (s : Setting) (entry : Option (List ℕ)) (right : IsConforming s.of entry) (kinds : HaveKinds s.of.globals) (o : Options) (unit : TranslationUnit) (u : IsUnitOf s.of o unit) (p : FunctionPlan) (among : IsIn p u.plans) where
  made : (n : ℕ) → is_gone ((V s entry right kinds o unit u p among).form n) ≡ false → n ≡ 0 → ⊥
  made n kept lacks = clash (sym (ap is_gone (ap (V s entry right kinds o unit u p among).form lacks ∙ unmade_gone s.of.globals (F s entry right kinds o unit u p among) (plan_is s entry right kinds o unit u p among).links)) ∙ kept)

  module _ (c place : ℕ) (i : Inst) (at : inst_at (F s entry right kinds o unit u p among) c place ≡ Some i) (kept : is_gone ((V s entry right kinds o unit u p among).form i.result) ≡ false) where
    held : (holder : Block) × (slice_get (F s entry right kinds o unit u p among).blocks c ≡ Some holder) × (slice_get holder.insts place ≡ Some i)
    held = some_part (λ (b : Block). slice_get b.insts place) (slice_get (F s entry right kinds o unit u p among).blocks c) i at

    by_live : (l : Bool) → is_live (placed (plan_is s entry right kinds o unit u p among).links c i) ≡ l → IsLive (F s entry right kinds o unit u p among) (R s entry right kinds o unit u p among) c place
    by_live true on = placed_live s entry right kinds o unit u p among c place i at on
    by_live false off = clash (sym (live_form s entry right kinds o unit u p among c held.0 i held.1 (at_place held.0.insts place i held.2) false off (made i.result kept)) ∙ kept)

    -- the law
    pub lives : IsLive (F s entry right kinds o unit u p among) (R s entry right kinds o unit u p among) c place
    lives = by_live (is_live (placed (plan_is s entry right kinds o unit u p among).links c i)) refl
