-- What the body of a function begins with declares alone: a variable of the function begins with a constant or its zero, in which nothing is seen.
use Rattle.std.proofs.Common.{◌≡◌, ◌++◌, ℕ, true, List, [], ◌∷◌, filter, Option, Some, None, inl, inr, refl, subst}
use Rattle.std.specs.Prelude.{◌⊎◌, slice_get}
use Rattle.std.specs.Option.{option_map_or}
use Rattle.spv_ops.specs.Opcode.{is}
use Rattle.spv_ops.specs.declared.Op.TheVariants as code
use Rattle.spv_module.specs.Held.{global}
use Rattle.spv_module.specs.declared.inst.Inst.{Inst}
use Rattle.spv_module.specs.declared.inst.Block.{Block}
use Rattle.spv_module.specs.declared.inst.Function.{Function}
use Rattle.structure_rules.specs.Graph.{graph, nth}
use Rattle.conformance.specs.Rules.{Options}
use Rattle.module_semantics.specs.Setting.{Setting}
use Rattle.name_alloc.specs.Naming.{name_of}
use Rattle.glsl_ast.specs.Tree.{literal, Stmt, TranslationUnit}
use Rattle.glsl_ast.specs.declared.expressions.Literal.TheVariants.{Uint}
use Rattle.glsl_grammar.specs.Read.{is_declared}
use Rattle.text_rules.specs.Constants.{Source, constant_expr}
use Rattle.text_rules.specs.Declarations.{pointee_at, zero_at, expr_at, initial}
use Rattle.text_rules.specs.Printed.{is_written_struct}
use Rattle.expr_forward.specs.Scope.{Scope}
use Rattle.expr_forward.specs.Statements.{captured_of}
use Rattle.function_text.specs.Functions.{FunctionPlan, variable_text, variables_text, is_hoisted_in, hoisted_text, hoisted_texts, captured_text, captured_texts_of, captured_texts, in_blocks, top_text}
use Rattle.unit_rules.specs.Translation.{Naming, id_text, names_of}
use Rattle.unit_rules.specs.Unit.{source_of, IsUnitOf}
use Rattle.claim_law.specs.Uses.{Words, UsesExpr}
use Rattle.claim_law.specs.Blocks.{FitWords}
use Rattle.typed_law.specs.Conforms.{IsConforming}
use Rattle.typed_law.specs.Words.{AreGivenWords}
use Rattle.claim_law.specs.Claimed.{IsIn}
use Rattle.claim_law.proofs.Claim.Constants.{found_in}
use Rattle.grammar_law.specs.Words.{AreOfStructs}
use Rattle.grammar_law.proofs.Unit.Lists.{at_some, of_filter, of_flat, in_either}
use Rattle.grammar_law.proofs.Unit.Structs.{Written}
use Rattle.grammar_law.proofs.Unit.Ways.{HaveKinds, F, V}
use Rattle.grammar_law.proofs.Meets.BlocksMade.{AreKnown}
use Rattle.grammar_law.proofs.Grammar.Listed.{of_mapped}
use Rattle.grammar_law.proofs.Grammar.Readings.{none_fits}
use Rattle.grammar_law.proofs.Grammar.Tops.{points, shaped, first_constant}
use Rattle.profile_rules.specs.Places.{is_variable}
use Rattle.text_law.specs.Walks.{Outer}
use Rattle.text_law.specs.Shape.{outer_of}
use Rattle.text_law.specs.Unseen.{unseen, IsStill, AreStill}
use Rattle.text_law.proofs.Shape.Unseen.{uses-quiet}
use Rattle.text_law.proofs.Shape.UnseenValues.{constant_unseen, zero_unseen}

each_still : (o : Outer) (xs : List Stmt) → ((x : Stmt) → IsIn x xs → IsStill o x) → AreStill o xs
each_still o [] each = tt
each_still o (x ∷ xs) each = (each x (inl refl), each_still o xs (λ y y_in. each y (inr y_in)))

module _ (s : Setting) (entry : Option (List ℕ)) (right : IsConforming s.of entry) (kinds : HaveKinds s.of.globals) (o : Options) (unit : TranslationUnit) (u : IsUnitOf s.of o unit) (p : FunctionPlan) (among : IsIn p u.plans) (names : List (List ℕ)) (structs : AreOfStructs s.of.globals (name_of u.claimed) names)
    (declared : (g : Inst) → IsIn g s.of.globals → is_written_struct (source_of s.of o u.entry) (Written s.of o unit u) g ≡ true → is_declared names (id_text (name_of u.claimed) g.result) ≡ true)
    (words : (g : Inst) → IsIn g s.of.globals → FitWords g.args) (given : AreGivenWords o.overrides) (k : AreKnown s entry right kinds o unit u p among names structs) where
  abbrev Gs : List Inst
  Gs = s.of.globals

  abbrev Found : Naming
  Found = name_of u.claimed

  abbrev Fn : Function
  Fn = F s entry right kinds o unit u p among

  abbrev Where : Scope
  Where = V s entry right kinds o unit u p among

  abbrev Src : Source
  Src = source_of s.of o u.entry

  abbrev Out : Outer
  Out = outer_of (source_of s.of o u.entry) (name_of u.claimed) unit (F s entry right kinds o unit u p among)

  abbrev X : Words
  X = unseen (outer_of (source_of s.of o u.entry) (name_of u.claimed) unit (F s entry right kinds o unit u p among))

  -- a variable of a reached block begins with a constant, or with its zero
  module _ (c : ℕ) (holder : Block) (i : Inst) (there : slice_get Fn.blocks c ≡ Some holder) (inside_it : IsIn i holder.insts) (on : is i.op code.Variable ≡ true) (reached : (nth (graph Fn) c).reached ≡ true) where
    initial_unseen : UsesExpr X (initial Src (names_of Found) i)
    initial_unseen = by_second (slice_get i.args 1) refl
      where
        by_global : (n : ℕ) → slice_get i.args 1 ≡ Some n → (x : Option Inst) → global Gs n ≡ x → UsesExpr X (option_map_or (constant_expr Src (id_text Found)) x (literal (Uint 0)))
        by_global n second None at = none_fits
        by_global n second (Some h) at =
            constant_unseen s entry right kinds o unit u p among words given h (found_in Gs n h at).0
            (first_constant s entry right kinds o unit u p among names structs declared words given c holder i there inside_it on reached n second h at)

        by_second : (x : Option ℕ) → slice_get i.args 1 ≡ x → UsesExpr X (option_map_or (expr_at Src (names_of Found)) x (zero_at Src (names_of Found) (pointee_at Src i.ty)))
        by_second None second =
            zero_unseen s entry right kinds o unit u p among words given names structs k (pointee_at Src i.ty)
            (points s entry right kinds o unit u p among names structs declared words given c holder i there inside_it on reached).1
            (shaped s entry right kinds o unit u p among names structs declared words given c holder i there inside_it on reached)
        by_second (Some n) second = by_global n second (global Gs n) refl

    variable_still : IsStill Out (variable_text Where i)
    variable_still = uses-quiet Out true (initial Src (names_of Found) i) initial_unseen

  -- The law.
  pub top_still : ((c : ℕ) (holder : Block) (i : Inst) → slice_get Fn.blocks c ≡ Some holder → IsIn i holder.insts → is i.op code.Variable ≡ true → (nth (graph Fn) c).reached ≡ true) → AreStill Out (top_text Where Fn.blocks)
  top_still variables = each_still Out (top_text Where Fn.blocks) (λ x x_in. by_kind x (in_either x (in_blocks (variables_text Where) Fn.blocks) (in_blocks (hoisted_texts Where) Fn.blocks ++ in_blocks (captured_texts Where) Fn.blocks) x_in))
    where
      by_variable : (x : Stmt) → IsIn x (in_blocks (variables_text Where) Fn.blocks) → IsStill Out x
      by_variable x x_in =
          let b = of_flat (λ (y : Block). variables_text Where y.insts) Fn.blocks x x_in in
          let c = at_some Fn.blocks b.0 b.1 in
          let i = of_mapped (variable_text Where) (filter is_variable b.0.insts) x b.2 in
          let on = of_filter is_variable b.0.insts i.0 i.1 in
          subst (IsStill Out) i.2 (variable_still c.0 b.0 i.0 c.1 on.0 on.1 (variables c.0 b.0 i.0 c.1 on.0 on.1))

      by_hoisted : (x : Stmt) → IsIn x (in_blocks (hoisted_texts Where) Fn.blocks) → IsStill Out x
      by_hoisted x x_in =
          let b = of_flat (λ (y : Block). hoisted_texts Where y.insts) Fn.blocks x x_in in
          let i = of_mapped (hoisted_text Where) (filter (is_hoisted_in Where) b.0.insts) x b.2 in
          subst (IsStill Out) i.2 refl

      by_captured : (x : Stmt) → IsIn x (in_blocks (captured_texts Where) Fn.blocks) → IsStill Out x
      by_captured x x_in =
          let b = of_flat (λ (y : Block). captured_texts Where y.insts) Fn.blocks x x_in in
          let i = of_flat (captured_texts_of Where) b.0.insts x b.2 in
          let n = of_mapped (captured_text Where i.0) (captured_of Where i.0) x i.2 in
          subst (IsStill Out) n.2 refl

      by_kind : (x : Stmt) → IsIn x (in_blocks (variables_text Where) Fn.blocks) ⊎ IsIn x (in_blocks (hoisted_texts Where) Fn.blocks ++ in_blocks (captured_texts Where) Fn.blocks) → IsStill Out x
      by_kind x (inl variable) = by_variable x variable
      by_kind x (inr later) = elim (in_either x (in_blocks (hoisted_texts Where) Fn.blocks) (in_blocks (captured_texts Where) Fn.blocks) later) [ inl hoisted ↦ by_hoisted x hoisted | inr captured ↦ by_captured x captured ]
