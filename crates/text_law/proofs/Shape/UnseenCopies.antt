-- The copies of an edge are made of names of which nothing is seen.
use Rattle.std.proofs.Common.{◌≡◌, ◌<◌, ◌^◌, ℕ, Bool, true, false, List, length, Option, Some, None, unwrap_or, refl, sym, subst}
use Rattle.std.specs.Prelude.{slice_get}
use Rattle.spv_module.specs.Lists.{id}
use Rattle.spv_module.specs.declared.inst.Inst.{Inst}
use Rattle.spv_module.specs.declared.inst.Block.{Block}
use Rattle.spv_module.specs.declared.inst.Function.{Function}
use Rattle.spv_types.specs.Leaves.{IsSized}
use Rattle.spv_types.specs.Tree.{Tree}
use Rattle.spv_types.specs.Types.{type_tree}
use Rattle.structure_rules.specs.Graph.{graph, nth}
use Rattle.nest_place.specs.Nests.{IsSound}
use Rattle.conformance.specs.Rules.{Options}
use Rattle.module_semantics.specs.Setting.{Setting}
use Rattle.use_chains.specs.Slots.{inst_at, IsLive}
use Rattle.phi_copies.specs.Sequence.{Pair}
use Rattle.name_alloc.specs.declared.claims.Key.TheVariants.{Id, Spare}
use Rattle.name_alloc.specs.Naming.{name_of}
use Rattle.glsl_ast.specs.Tree.{Expr, TranslationUnit}
use Rattle.glsl_grammar.specs.Read.{is_declared}
use Rattle.text_rules.specs.Constants.{Source}
use Rattle.text_rules.specs.Declarations.{type_at}
use Rattle.text_rules.specs.Printed.{is_written_struct}
use Rattle.expr_forward.specs.Scope.{Scope, type_of}
use Rattle.expr_forward.specs.Values.{variable as name_expr}
use Rattle.function_plan.specs.Phis.{is_gone, is_constant_id, source_by, pairs}
use Rattle.function_text.specs.Functions.{FunctionPlan, label_of, constant_text, source_expr, spare_name, copies_text}
use Rattle.unit_rules.specs.Translation.{Naming, text_of, id_text}
use Rattle.unit_rules.specs.Unit.{source_of, IsUnitOf}
use Rattle.claim_law.specs.Uses.{Words, UsesType, UsesExpr}
use Rattle.claim_law.specs.Statements.{EachStmt}
use Rattle.claim_law.specs.Blocks.{FitWords}
use Rattle.typed_law.specs.Conforms.{IsConforming}
use Rattle.typed_law.specs.Words.{AreGivenWords}
use Rattle.claim_law.specs.Claimed.{IsIn}
use Rattle.claim_law.proofs.Claim.Listed.{in_flat, at_place}
use Rattle.grammar_law.specs.Switches.{Leads}
use Rattle.grammar_law.specs.Words.{words_of, AreOfStructs}
use Rattle.grammar_law.proofs.Unit.Structs.{Written}
use Rattle.grammar_law.proofs.Unit.Ways.{HaveKinds, F, R, V, plan_is}
use Rattle.grammar_law.proofs.Grammar.Edges.{copies_of}
use Rattle.grammar_law.proofs.Grammar.PairsOf.{IsPairOf}
use Rattle.grammar_law.proofs.Grammar.PhiNames.{shaped, whole, target_type}
use Rattle.text_law.specs.Shape.{memory_ids, outer_of}
use Rattle.text_law.specs.Unseen.{unseen}
use Rattle.text_law.proofs.Shape.Named.{other_unseen}
use Rattle.text_law.proofs.Shape.Apart.{value_unseen}
use Rattle.text_law.proofs.Shape.Parts.{type_unseen}
use Rattle.text_law.proofs.Shape.UnseenValues.{shaped_unseen, read_unseen}

module _ (s : Setting) (entry : Option (List ℕ)) (right : IsConforming s.of entry) (kinds : HaveKinds s.of.globals) (o : Options) (unit : TranslationUnit) (u : IsUnitOf s.of o unit) (p : FunctionPlan) (among : IsIn p u.plans) (names : List (List ℕ)) (structs : AreOfStructs s.of.globals (name_of u.claimed) names)
    (declared : (g : Inst) → IsIn g s.of.globals → is_written_struct (source_of s.of o u.entry) (Written s.of o unit u) g ≡ true → is_declared names (id_text (name_of u.claimed) g.result) ≡ true)
    (words : (g : Inst) → IsIn g s.of.globals → FitWords g.args) (given : AreGivenWords o.overrides)
    (lives : (c place : ℕ) (i : Inst) → inst_at (F s entry right kinds o unit u p among) c place ≡ Some i → is_gone ((V s entry right kinds o unit u p among).form i.result) ≡ false → IsLive (F s entry right kinds o unit u p among) (R s entry right kinds o unit u p among) c place)
    (sound : IsSound (graph (F s entry right kinds o unit u p among)))
    (few : (b t : ℕ) → length (pairs s.of.globals p.scope.form (F s entry right kinds o unit u p among) b t) < 2 ^ 32) where
  abbrev Gs : List Inst
  Gs = s.of.globals

  abbrev Found : Naming
  Found = name_of u.claimed

  abbrev Fn : Function
  Fn = F s entry right kinds o unit u p among

  abbrev Where : Scope
  Where = V s entry right kinds o unit u p among

  abbrev Src : Source
  Src = source_of s.of o u.entry

  abbrev X : Words
  X = unseen (outer_of (source_of s.of o u.entry) (name_of u.claimed) unit (F s entry right kinds o unit u p among))

  module _ (b t : ℕ) (here : (nth (graph Fn) b).reached ≡ true) (leads : Leads (graph Fn) b t) where
    there : (nth (graph Fn) t).reached ≡ true
    there = sound.reached b t here leads

    module _ (q : Pair) (holder : Block) (held : slice_get Fn.blocks t ≡ Some holder) (w : IsPairOf Gs Where.form Fn b holder q) where
      shape_is : (v : Tree) × (type_tree Gs w.phi.ty ≡ Some v) × IsSized v
      shape_is = shaped s entry right kinds o unit u p among names structs declared words given lives t holder w.phi held w.among w.is_phi w.kept there

      named : X.value (text_of Found (Id (id q.0.0)))
      named =
          subst (λ (x : Pair). X.value (text_of Found (Id (id x.0.0)))) w.same
          (shaped_unseen s entry right kinds o unit u p among w.phi (in_flat (λ (c : Block). c.insts) Fn.blocks holder w.phi (at_place Fn.blocks t holder held) w.among) shape_is.0 shape_is.1)

      typed : UsesType X (type_at Where.setting.source Where.names (type_of Where q.0.0))
      typed =
          subst (λ (x : Pair). UsesType X (type_at Where.setting.source Where.names (type_of Where x.0.0))) w.same
          (type_unseen (words_of s.of.globals (name_of u.claimed) names) (outer_of Src Found unit Fn) (type_at Src Where.names (type_of Where w.phi.result))
          (target_type s entry right kinds o unit u p among names structs declared words given lives t holder w.phi held w.among w.is_phi w.kept there))

      -- what a phi takes has the shape of its result
      abbrev n : ℕ
      n = w.value.0

      whole_is : type_tree Gs (type_of Where n) ≡ Some shape_is.0
      unfolding shape_is
      whole_is = whole s entry right kinds o unit u p among names structs declared words given lives t holder w.phi held w.among w.is_phi w.kept there w.place w.value.0 b w.at w.even w.from here

      variable : UsesExpr X (name_expr Where n)
      variable = value_unseen s entry right kinds o unit u p among n shape_is.0 whole_is

      constant : UsesExpr X (constant_text Where n)
      constant = by_global (Where.setting.global n) refl
        where
          by_global : (e : Option Expr) → Where.setting.global n ≡ e → UsesExpr X (unwrap_or e (name_expr Where n))
          by_global None is = variable
          by_global (Some e) is = read_unseen s entry right kinds o unit u p among words given n shape_is.0 whole_is e is

      source : UsesExpr X (source_expr Where q.1)
      source = subst (λ (x : Pair). UsesExpr X (source_expr Where x.1)) w.same (by_constant (is_constant_id Gs n))
        where
          by_constant : (c : Bool) → UsesExpr X (source_expr Where (source_by c n))
          by_constant true = constant
          by_constant false = variable

    spare : (k : ℕ) → X.value (spare_name p b t k)
    spare k =
        subst (λ (y : Scope). X.value (y.setting.key (Spare (label_of p b) (label_of p t) k))) (sym (plan_is s entry right kinds o unit u p among).scope_is)
        (other_unseen Found u.lawful (memory_ids Src Fn) (Spare (label_of p b) (label_of p t) k) refl refl)

    -- The law.
    pub copies_unseen : EachStmt X (copies_text p b t)
    copies_unseen =
        copies_of s entry right kinds o unit u p among names structs declared words given lives sound few b t here leads X
        (λ q holder held w. named q holder held w) (λ q holder held w. typed q holder held w) (λ q holder held w. source q holder held w) (λ k less. spare k)
