-- What is written of a planned function, but for the statements of its blocks, is made of names of which nothing is seen: conditions and selectors, results, the copies of edges, and the top.
use Rattle.std.proofs.Common.{◌≡◌, ◌<◌, ◌^◌, ℕ, true, false, List, length, Option, Some, None, refl, sym, subst}
use Rattle.std.specs.Prelude.{option_map, slice_get}
use Rattle.spv_ops.specs.Opcode.{is}
use Rattle.spv_ops.specs.declared.Op.TheVariants as code
use Rattle.spv_module.specs.declared.inst.Inst.{Inst}
use Rattle.spv_module.specs.declared.inst.Block.{Block}
use Rattle.spv_module.specs.declared.inst.Function.{Function}
use Rattle.structure_rules.specs.Graph.{graph, nth}
use Rattle.nest_place.specs.Nests.{IsSound}
use Rattle.conformance.specs.Rules.{Options}
use Rattle.module_semantics.specs.Setting.{Setting}
use Rattle.use_chains.specs.Slots.{inst_at, IsLive}
use Rattle.name_alloc.specs.Naming.{name_of}
use Rattle.glsl_ast.specs.Tree.{Expr, TranslationUnit}
use Rattle.glsl_grammar.specs.Read.{is_declared}
use Rattle.text_rules.specs.Printed.{is_written_struct}
use Rattle.expr_forward.specs.Kinds.{operation_kind_of}
use Rattle.expr_forward.specs.Scope.{Scope}
use Rattle.expr_forward.specs.Values.{value, length_text}
use Rattle.expr_forward.specs.declared.kinds.OperationKind.TheVariants as kind
use Rattle.function_plan.specs.Phis.{is_gone, pairs}
use Rattle.function_text.specs.Functions.{FunctionPlan, written, first_operand, returned, blocks_of, copies_text, top_text}
use Rattle.unit_rules.specs.Translation.{id_text}
use Rattle.unit_rules.specs.Unit.{source_of, IsUnitOf}
use Rattle.claim_law.specs.Uses.{UsesExpr}
use Rattle.claim_law.specs.Statements.{EachStmt}
use Rattle.claim_law.specs.Blocks.{FitWords}
use Rattle.typed_law.specs.Conforms.{IsConforming}
use Rattle.typed_law.specs.Words.{AreGivenWords}
use Rattle.claim_law.specs.Claimed.{IsIn}
use Rattle.grammar_law.specs.Switches.{IsReached, Chooses, Leads}
use Rattle.grammar_law.specs.Words.{AreOfStructs}
use Rattle.grammar_law.proofs.Unit.Structs.{Written}
use Rattle.grammar_law.proofs.Unit.Ways.{HaveKinds, F, R, V, plan_is, written_is}
use Rattle.grammar_law.proofs.Meets.LiveOrGone.{IsRun}
use Rattle.grammar_law.proofs.Meets.BlocksMade.{AreKnown}
use Rattle.grammar_law.proofs.Grammar.Ends.{chooser_usable, returned_usable}
use Rattle.text_law.specs.Walks.{Outer}
use Rattle.text_law.specs.Shape.{outer_of}
use Rattle.text_law.specs.Unseen.{unseen, AreStill}
use Rattle.text_law.proofs.Shape.UnseenValues.{unseen_value}
use Rattle.text_law.proofs.Shape.UnseenCopies.{copies_unseen}
use Rattle.text_law.proofs.Shape.UnseenTops.{top_still}

module _ (s : Setting) (entry : Option (List ℕ)) (right : IsConforming s.of entry) (kinds : HaveKinds s.of.globals) (o : Options) (unit : TranslationUnit) (u : IsUnitOf s.of o unit) (p : FunctionPlan) (among : IsIn p u.plans) where
  abbrev Fn : Function
  Fn = F s entry right kinds o unit u p among

  abbrev Where : Scope
  Where = V s entry right kinds o unit u p among

  abbrev out_of : Function → Outer
  out_of f = outer_of (source_of s.of o u.entry) (name_of u.claimed) unit f

  -- what is read of a function that is planned, as it is written
  module _ (words : (g : Inst) → IsIn g s.of.globals → FitWords g.args) (given : AreGivenWords o.overrides) (names : List (List ℕ)) (structs : AreOfStructs s.of.globals (name_of u.claimed) names) (k : AreKnown s entry right kinds o unit u p among names structs)
      (sized : (b : ℕ) (i : Inst) → IsRun s entry right kinds o unit u p among b i → operation_kind_of i.op ≡ kind.ArrayLength → UsesExpr (unseen (outer_of (source_of s.of o u.entry) (name_of u.claimed) unit (F s entry right kinds o unit u p among))) (length_text (V s entry right kinds o unit u p among) b i)) where
    pub condition_unseen : (b : ℕ) → IsReached (graph (written p)) b → Chooses (graph (written p)) b → UsesExpr (unseen (out_of (written p))) ((blocks_of p).condition b)
    condition_unseen b =
        subst (λ (w : Scope). IsReached (graph w.setting.function) b → Chooses (graph w.setting.function) b → UsesExpr (unseen (out_of w.setting.function)) (value w b (first_operand w.setting.function b))) (sym (plan_is s entry right kinds o unit u p among).scope_is)
        (λ here chooses. unseen_value s entry right kinds o unit u p among words given names structs k b (sized b) (first_operand Fn b) (chooser_usable s entry right kinds o unit u p among b here chooses))

    returned_unseen : (b : ℕ) (e : Expr) → IsReached (graph Fn) b → option_map (value Where b) (returned Fn b) ≡ Some e → UsesExpr (unseen (out_of Fn)) e
    returned_unseen b e here is = by_value (returned Fn b) refl is
      where
        by_value : (q : Option ℕ) → returned Fn b ≡ q → option_map (value Where b) q ≡ Some e → UsesExpr (unseen (out_of Fn)) e
        by_value None told e_is = cc
        by_value (Some n) told e_is =
            let same : value Where b n ≡ e = cc in
            subst (UsesExpr (unseen (out_of Fn))) same (unseen_value s entry right kinds o unit u p among words given names structs k b (sized b) n (returned_usable s entry right kinds o unit u p among b here n told))

    pub result_unseen : (b : ℕ) (e : Expr) → IsReached (graph (written p)) b → (blocks_of p).value b ≡ Some e → UsesExpr (unseen (out_of (written p))) e
    result_unseen b e =
        subst (λ (w : Scope). IsReached (graph w.setting.function) b → option_map (value w b) (returned w.setting.function b) ≡ Some e → UsesExpr (unseen (out_of w.setting.function)) e) (sym (plan_is s entry right kinds o unit u p among).scope_is)
        (returned_unseen b e)

    module _ (declared : (g : Inst) → IsIn g s.of.globals → is_written_struct (source_of s.of o u.entry) (Written s.of o unit u) g ≡ true → is_declared names (id_text (name_of u.claimed) g.result) ≡ true) where
      pub tops_still : ((c : ℕ) (holder : Block) (i : Inst) → slice_get Fn.blocks c ≡ Some holder → IsIn i holder.insts → is i.op code.Variable ≡ true → (nth (graph Fn) c).reached ≡ true) → AreStill (out_of (written p)) (top_text p.scope (written p).blocks)
      tops_still variables =
          subst (λ (w : Scope). AreStill (out_of w.setting.function) (top_text w w.setting.function.blocks)) (sym (plan_is s entry right kinds o unit u p among).scope_is)
          (top_still s entry right kinds o unit u p among names structs declared words given k variables)

      pub edges_unseen : ((c place : ℕ) (i : Inst) → inst_at Fn c place ≡ Some i → is_gone (Where.form i.result) ≡ false → IsLive Fn (R s entry right kinds o unit u p among) c place) → IsSound (graph Fn) → ((b t : ℕ) → length (pairs s.of.globals p.scope.form Fn b t) < 2 ^ 32)
          → (b t : ℕ) → IsReached (graph (written p)) b → Leads (graph (written p)) b t → EachStmt (unseen (out_of (written p))) ((blocks_of p).copies b t)
      edges_unseen lives sound few b t =
          subst (λ (f : Function). IsReached (graph f) b → Leads (graph f) b t → EachStmt (unseen (out_of f)) (copies_text p b t)) (sym (written_is s entry right kinds o unit u p among))
          (λ here leads. copies_unseen s entry right kinds o unit u p among names structs declared words given lives sound few b t here leads)
