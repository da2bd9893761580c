-- What is written of an operation, and of an insert into a composite, is made of names of which nothing is seen.
use Rattle.std.proofs.Common.{◌≡◌, ℕ, true, List, [], ◌∷◌, drop, Option, refl, ap}
use Rattle.std.specs.Prelude.{slice_index}
use Rattle.spv_module.specs.declared.inst.Inst.{Inst}
use Rattle.spv_module.specs.declared.inst.Block.{Block}
use Rattle.spv_module.specs.declared.inst.Function.{Function}
use Rattle.spv_index.specs.Locals.{insts_of}
use Rattle.conformance.specs.Rules.{Options}
use Rattle.module_semantics.specs.Setting.{Setting}
use Rattle.name_alloc.specs.Naming.{name_of}
use Rattle.glsl_ast.specs.Tree.{Expr, LStep, TranslationUnit}
use Rattle.expr_forward.specs.Kinds.{kind_of, operation_kind_of}
use Rattle.expr_forward.specs.Paths.{part_steps}
use Rattle.expr_forward.specs.Scope.{Scope}
use Rattle.expr_forward.specs.Statements.{set_by, insert_where_named, inst_text}
use Rattle.expr_forward.specs.Values.{value, expression, length_text}
use Rattle.expr_forward.specs.declared.kinds.InstKind.{InstKind}
use Rattle.expr_forward.specs.declared.kinds.InstKind.TheVariants as inst_kind
use Rattle.expr_forward.specs.declared.kinds.OperationKind.TheVariants as kind
use Rattle.function_text.specs.Functions.{FunctionPlan}
use Rattle.unit_rules.specs.Translation.{Naming, id_text}
use Rattle.unit_rules.specs.Unit.{source_of, IsUnitOf}
use Rattle.claim_law.specs.Uses.{Words, UsesExpr, UseSteps}
use Rattle.claim_law.specs.Blocks.{FitWords}
use Rattle.claim_law.specs.Asked.{Meets}
use Rattle.claim_law.specs.Statements.{EachStmt, AsksSet, MeetsInst}
use Rattle.claim_law.proofs.Spell.Values.{operation-uses}
use Rattle.claim_law.proofs.Spell.Statements.{set-uses, inserted-use}
use Rattle.claim_law.specs.Ranked.{operand_ids}
use Rattle.typed_law.specs.Conforms.{IsConforming}
use Rattle.typed_law.specs.Words.{AreGivenWords}
use Rattle.claim_law.specs.Claimed.{IsIn}
use Rattle.claim_law.proofs.Claim.Listed.{in_flat, at_place}
use Rattle.grammar_law.specs.Mentioned.{IsValueIn}
use Rattle.grammar_law.specs.Words.{words_of, AreOfStructs}
use Rattle.grammar_law.proofs.Unit.ResultShapes.{IsShaped}
use Rattle.grammar_law.proofs.Unit.Usable.{Ranks, ranked}
use Rattle.grammar_law.proofs.Unit.Ways.{HaveKinds, F, R, V}
use Rattle.grammar_law.proofs.Meets.LiveOrGone.{IsRun}
use Rattle.grammar_law.proofs.Meets.BlocksMade.{is_shaped_kind, AreKnown, inst_meets, below}
use Rattle.text_law.specs.Walks.{Outer}
use Rattle.text_law.specs.Shape.{outer_of}
use Rattle.text_law.specs.Unseen.{unseen}
use Rattle.text_law.proofs.Shape.BuiltIns.{built_unseen}
use Rattle.text_law.proofs.Shape.Parts.{parts_unseen, kind_unseen, set_unseen}
use Rattle.text_law.proofs.Shape.UnseenValues.{shaped_unseen, left_of, unseen_asked, unseen_value}

module _ (s : Setting) (entry : Option (List ℕ)) (right : IsConforming s.of entry) (kinds : HaveKinds s.of.globals) (o : Options) (unit : TranslationUnit) (u : IsUnitOf s.of o unit) (p : FunctionPlan) (among : IsIn p u.plans)
    (words : (g : Inst) → IsIn g s.of.globals → FitWords g.args) (given : AreGivenWords o.overrides) (names : List (List ℕ)) (structs : AreOfStructs s.of.globals (name_of u.claimed) names) (k : AreKnown s entry right kinds o unit u p among names structs)
    (b : ℕ) (length : (i : Inst) → IsRun s entry right kinds o unit u p among b i → operation_kind_of i.op ≡ kind.ArrayLength → UsesExpr (unseen (outer_of (source_of s.of o u.entry) (name_of u.claimed) unit (F s entry right kinds o unit u p among))) (length_text (V s entry right kinds o unit u p among) b i)) where
  abbrev Found : Naming
  Found = name_of u.claimed

  abbrev Fn : Function
  Fn = F s entry right kinds o unit u p among

  abbrev Where : Scope
  Where = V s entry right kinds o unit u p among

  abbrev Usable : ℕ → Type 0
  Usable = IsValueIn Where (R s entry right kinds o unit u p among) b

  abbrev Out : Outer
  Out = outer_of (source_of s.of o u.entry) (name_of u.claimed) unit (F s entry right kinds o unit u p among)

  abbrev X : Words
  X = unseen (outer_of (source_of s.of o u.entry) (name_of u.claimed) unit (F s entry right kinds o unit u p among))

  abbrev W : Words
  W = words_of s.of.globals (name_of u.claimed) names

  says : (n : ℕ) → Usable n → UsesExpr X (value Where b n)
  says n v = unseen_value s entry right kinds o unit u p among words given names structs k b length n v

  module _ (i : Inst) (r : IsRun s entry right kinds o unit u p among b i) where
    i_in : IsIn i (insts_of Fn)
    i_in = in_flat (λ (c : Block). c.insts) Fn.blocks r.holder i (at_place Fn.blocks b r.holder r.there) r.within

    module _ (shaped_kind : is_shaped_kind (kind_of i.op) ≡ true) where
      shape_is : IsShaped s entry right i.ty
      shape_is = k.shapes i i_in shaped_kind

      named : X.value (id_text Found i.result)
      named = shaped_unseen s entry right kinds o unit u p among i i_in shape_is.0 shape_is.1

      set : AsksSet W Found Where Usable b i (Where.form i.result) → (e : Expr) → UsesExpr X e → EachStmt X (set_by Where i e (Where.form i.result))
      set asks e uses =
          set-uses X (λ f. built_unseen s.of o unit u Fn f) (λ axis. tt) Found Where Usable b (unseen_asked s entry right kinds o unit u p among words given names structs k b length) (Ranks s entry right kinds o unit u p among) (ranked s entry right kinds o unit u p among b)
          i e (Where.form i.result) (set_unseen W Out Found Where Usable b i (Where.form i.result) asks named) uses

      inserted : (composite : ℕ) (steps : List LStep) (object : ℕ) → AsksSet W Found Where Usable b i (Where.form i.result) → Usable composite → UseSteps X steps → Usable object → EachStmt X (insert_where_named Where b i composite steps object)
      inserted composite steps object asks whole has part =
          inserted-use X (λ f. built_unseen s.of o unit u Fn f) (λ axis. tt) Found Where Usable b (unseen_asked s entry right kinds o unit u p among words given names structs k b length) (Ranks s entry right kinds o unit u p among) (ranked s entry right kinds o unit u p among b)
          i composite steps object (set_unseen W Out Found Where Usable b i (Where.form i.result) asks named) named whole has part

      operation : Meets W Found Where Usable b i → UsesExpr X (expression Where (value Where b) b i)
      operation meets =
          operation-uses X (λ f. built_unseen s.of o unit u Fn f) (λ axis. tt) Found Where Usable b (unseen_asked s entry right kinds o unit u p among words given names structs k b length) (Ranks s entry right kinds o unit u p among) (ranked s entry right kinds o unit u p among b)
          i (below s entry right kinds o unit u p among names structs k b (operand_ids i))
          (kind_unseen W Out Found Where Usable b i (operation_kind_of i.op) meets (left_of s entry right kinds o unit u p among words given names structs k b length i r shape_is.0 shape_is.1 named (operation_kind_of i.op) refl))

    by_kind : (q : InstKind) → kind_of i.op ≡ q → is_shaped_kind q ≡ true → MeetsInst W Found Where Usable b i q → EachStmt X (inst_text Where b i q)
    by_kind (inst_kind.Value q) is on meets = set (ap is_shaped_kind is) meets.0 (expression Where (value Where b) b i) (operation (ap is_shaped_kind is) meets.1)
    by_kind inst_kind.CompositeInsert is on meets =
        inserted (ap is_shaped_kind is) (slice_index i.args 1) (part_steps Where.setting i.ty (drop 2 i.args)) (slice_index i.args 0) meets.0 meets.2 (parts_unseen W Out Where.setting i.ty (drop 2 i.args) meets.3) meets.4
    by_kind inst_kind.VectorInsertDynamic is on meets =
        inserted (ap is_shaped_kind is) (slice_index i.args 0) (LStep.index (value Where b (slice_index i.args 2)) ∷ []) (slice_index i.args 1) meets.0 meets.2 (says (slice_index i.args 2) meets.3, tt) meets.4
    by_kind q is on meets = cc

    -- The law.
    pub shaped_insts_unseen : is_shaped_kind (kind_of i.op) ≡ true → EachStmt X (inst_text Where b i (kind_of i.op))
    shaped_insts_unseen on = by_kind (kind_of i.op) refl on (inst_meets s entry right kinds o unit u p among names structs k b i r (kind_of i.op) refl)
