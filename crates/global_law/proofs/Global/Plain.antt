-- A constant that is read by its literal says the value that it has.
use Rattle.std.proofs.Common.{◌≡◌, ◌^◌, ◌&&◌, ℕ, Bool, true, false, List, [], Option, Some, None, refl, sym, ap, ◌∙◌, subst, if◌then◌else◌}
use Rattle.std.specs.Prelude.{◌==◌, not, nat_lt, is_some, option_map, option_and_then, unwrap_or}
use Rattle.std.specs.Option.{option_map_or, option_or}
use Rattle.std.specs.List.{position_from}
use Rattle.std.proofs.lemmas.Bool.{and_parts, not-true}
use Rattle.std.proofs.lemmas.Option.{same_Some}
use Rattle.spv_ops.specs.Opcode.{is, number}
use Rattle.spv_ops.specs.declared.Op.{Op}
use Rattle.spv_ops.specs.declared.Op.TheVariants as code
use Rattle.spv_module.specs.Held.{global}
use Rattle.spv_module.specs.declared.inst.Inst.{Inst}
use Rattle.spv_types.specs.Tree as plain
use Rattle.spv_types.specs.Tree.{Tree, ValueTree, truth, word, many}
use Rattle.spv_types.specs.Types.{type_tree}
use Rattle.op_semantics.specs.Component.{each_one, composite}
use Rattle.op_semantics.specs.Fits.{fits}
use Rattle.profile_rules.specs.declared.given.Given.{Given}
use Rattle.profile_rules.specs.declared.constant.ConstantKind.{ConstantKind}
use Rattle.profile_rules.specs.declared.constant.ConstantKind.TheVariants as kinds
use Rattle.profile_rules.specs.Constants.{constant_kind, spec_id, given_to, word_given, value_by_kind}
use Rattle.profile_rules.specs.Entry.{is_size_composite}
use Rattle.module_semantics.specs.Setting.{Setting}
use Rattle.glsl_ast.specs.Tree.{Text}
use Rattle.traces.specs.Outcomes.{Result, got}
use Rattle.glsl_semantics.specs.Shapes.{Typed, typed}
use Rattle.glsl_semantics.specs.States.{State}
use Rattle.glsl_semantics.specs.Expressions.{Program, Argument, literal_value, evaluate}
use Rattle.glsl_ast.specs.declared.expressions.Literal.TheVariants.{Int, Hex}
use Rattle.text_rules.specs.declared.readings.Reading.TheVariants.{Plain, GroupSize}
use Rattle.text_rules.specs.Constants.{if_free, free_spec_id, is_scalar, has_literal, reading_by_part, reading_by_literal, reading_by_spec, reading, size_ids, scalar_literal, override_word, constant_shape, plain_value_by, plain_value, constant_expr, expr_by}
use Rattle.fits_law.proofs.Steps.{named}
use Rattle.type_law.specs.Shaped.{HaveResults, HasConstants}
use Rattle.type_law.proofs.Constants.{constant_of}
use Rattle.global_law.specs.Parts.{StructNames, shape_in}
use Rattle.global_law.specs.Sources.{source_of, chosen}

-- what is read by its literal: no composite of the size, without a SpecId that is free, of a scalar type, and not calculated
pub record IsPlain (s : Setting) (overrides : List (ℕ × Given)) (g : Inst) : Type 0 where
  pub bound : free_spec_id (source_of s overrides) g.result ≡ None
  pub shape : Tree
  pub typed_as : type_tree s.of.globals g.ty ≡ Some shape
  pub scalar : is_scalar shape ≡ true
  pub made : is g.op code.SpecConstantOp ≡ false

pub plain_is : (s : Setting) (overrides : List (ℕ × Given)) (g : Inst) → reading (source_of s overrides) g ≡ Plain → IsPlain s overrides g
plain_is s overrides g e = by_size (is_size_composite s.of.heads g) e
  where
    by_shape : (o : Option Tree) → type_tree s.of.globals g.ty ≡ o → free_spec_id (source_of s overrides) g.result ≡ None → (option_map_or is_scalar o false && not (is g.op code.SpecConstantOp)) ≡ true → IsPlain s overrides g
    by_shape None shaped free e = cc
    by_shape (Some t) shaped free e = let parts = and_parts (is_scalar t) (not (is g.op code.SpecConstantOp)) e in record { bound = free; shape = t; typed_as = shaped; scalar = parts.0; made = not-true (is g.op code.SpecConstantOp) parts.1 }

    by_literal : (b : Bool) → has_literal (source_of s overrides) g ≡ b → free_spec_id (source_of s overrides) g.result ≡ None → reading_by_literal b ≡ Plain → IsPlain s overrides g
    by_literal true is free e = by_shape (type_tree s.of.globals g.ty) refl free is
    by_literal false is free e = cc

    by_part : (o : Option ℕ) → reading_by_part o ≡ Plain → ⊥
    by_part None e = cc
    by_part (Some axis) e = cc

    by_spec : (o : Option ℕ) → free_spec_id (source_of s overrides) g.result ≡ o → reading_by_spec (source_of s overrides) g o ≡ Plain → IsPlain s overrides g
    by_spec None is e = by_literal (has_literal (source_of s overrides) g) refl is e
    by_spec (Some k) is e = absurd (by_part (position_from (λ (part : ℕ). part == g.result) 0 (size_ids (source_of s overrides))) e)

    by_size : (b : Bool) → (if b then GroupSize else reading_by_spec (source_of s overrides) g (free_spec_id (source_of s overrides) g.result)) ≡ Plain → IsPlain s overrides g
    by_size true e = cc
    by_size false e = by_spec (free_spec_id (source_of s overrides) g.result) refl e

-- which opcode calculates
calculated_op : (o : Op) → is o code.SpecConstantOp ≡ false → constant_kind o ≡ kinds.Operation → ⊥
unfolding constant_kind number
calculated_op code.SpecConstantOp off e = cc
calculated_op o off e = cc

module _ (s : Setting) (overrides : List (ℕ × Given)) (have : HasConstants s (chosen s overrides)) (results : HaveResults s.of.globals) where
  -- the word in place of a default is that of an override
  word_same : (id : ℕ) → free_spec_id (source_of s overrides) id ≡ None → chosen s overrides id ≡ override_word (source_of s overrides) id
  word_same id free = by_spec (spec_id s.of.heads id) free
    where
      by_given : (k : ℕ) (o : Option Given) → (if is_some o then None else Some k) ≡ None → option_or (option_map word_given o) (s.invocation.specialization k) ≡ option_map word_given o
      by_given k None e = cc
      by_given k (Some v) e = refl

      by_spec : (o : Option ℕ) → option_and_then (if_free overrides) o ≡ None → option_and_then (λ k. option_or (option_map word_given (given_to overrides k)) (s.invocation.specialization k)) o ≡ option_and_then (λ k. option_map word_given (given_to overrides k)) o
      by_spec None e = refl
      by_spec (Some k) e = by_given k (given_to overrides k) e

  -- a composite is no scalar
  no_scalar : (t : Tree) (o : Option (List ValueTree)) (v : ValueTree) → is_scalar t ≡ true → fits t v ≡ true → option_map composite o ≡ Some v → ⊥
  no_scalar t None v on fit e = cc
  no_scalar t (Some vs) v on fit e = by_shape t on (subst (λ x. fits t x ≡ true) (sym (same_Some (composite vs) v e)) fit)
    where
      by_shape : (t : Tree) → is_scalar t ≡ true → fits t (composite vs) ≡ true → ⊥
      by_shape plain.boolean on fit = cc
      by_shape plain.int on fit = cc
      by_shape plain.uint on fit = cc
      by_shape (plain.vector e n) on fit = cc
      by_shape (plain.array t l) on fit = cc
      by_shape (plain.runtime t) on fit = cc
      by_shape (plain.struct n ts) on fit = cc

  -- the value of a plain constant is that of its literal
  pub record HasPlain (id : ℕ) (g : Inst) (v : ValueTree) : Type 0 where
    pub shape : Tree
    pub typed_as : type_tree s.of.globals g.ty ≡ Some shape
    pub scalar : is_scalar shape ≡ true
    pub fit : fits shape v ≡ true
    pub value : plain_value (source_of s overrides) g ≡ v

  global_result : (id : ℕ) (g : Inst) → global s.of.globals id ≡ Some g → g.result ≡ id
  global_result id g is = named s.of.globals id g is

  pub plain_has : (id : ℕ) (g : Inst) (v : ValueTree) → global s.of.globals id ≡ Some g → reading (source_of s overrides) g ≡ Plain → s.constants id ≡ Some v → HasPlain id g v
  plain_has id g v there reads has =
      let c = constant_of s (chosen s overrides) have results id v has in
      let same : c.0 ≡ g = same_Some c.0 g (sym c.3 ∙ there) in
      let p = plain_is s overrides g reads in
      let shape : c.2 ≡ p.shape = same_Some c.2 p.shape (sym c.4 ∙ ap (λ (x : Inst). type_tree s.of.globals x.ty) same ∙ p.typed_as) in
      let fit : fits p.shape v ≡ true = subst (λ t. fits t v ≡ true) shape c.5 in
      let made : value_by_kind c.1 (chosen s overrides g.result) p.shape g.args (constant_kind g.op) ≡ Some v
      = ap (λ (x : Inst). value_by_kind c.1 (chosen s overrides x.result) p.shape x.args (constant_kind x.op)) (sym same) ∙ ap (λ t. value_by_kind c.1 (chosen s overrides c.0.result) t c.0.args (constant_kind c.0.op)) (sym shape) ∙ c.6 in
      record {
        shape = p.shape;
        typed_as = p.typed_as;
        scalar = p.scalar;
        fit = fit;
        value = by_kind c.1 p (constant_kind g.op) refl fit (ap (λ w. value_by_kind c.1 w p.shape g.args (constant_kind g.op)) (sym (word_same g.result p.bound)) ∙ made);
      }
    where
      by_kind : (h : ℕ → Option ValueTree) (p : IsPlain s overrides g) (k : ConstantKind) → constant_kind g.op ≡ k → fits p.shape v ≡ true → value_by_kind h (override_word (source_of s overrides) g.result) p.shape g.args (constant_kind g.op) ≡ Some v → plain_value (source_of s overrides) g ≡ v
      by_kind h p k is fit made = by_case k is (ap (value_by_kind h (override_word (source_of s overrides) g.result) p.shape g.args) (sym is) ∙ made)
        where
          shape_same : constant_shape (source_of s overrides) g ≡ p.shape
          shape_same = ap (λ o. unwrap_or o plain.uint) p.typed_as

          -- of kinds that need no other constants
          itself : (k : ConstantKind) → constant_kind g.op ≡ k → ((t : Tree) → plain_value_by (source_of s overrides) g k ≡ unwrap_or (value_by_kind (λ id. None) (override_word (source_of s overrides) g.result) (constant_shape (source_of s overrides) g) g.args k) (word 0))
              → value_by_kind (λ id. None) (override_word (source_of s overrides) g.result) p.shape g.args k ≡ Some v → plain_value (source_of s overrides) g ≡ v
          itself k is opens made =
              ap (plain_value_by (source_of s overrides) g) is ∙ opens p.shape
              ∙ ap (λ t. unwrap_or (value_by_kind (λ id. None) (override_word (source_of s overrides) g.result) t g.args k) (word 0)) shape_same ∙ ap (λ o. unwrap_or o (word 0)) made

          by_case : (k : ConstantKind) → constant_kind g.op ≡ k → value_by_kind h (override_word (source_of s overrides) g.result) p.shape g.args k ≡ Some v → plain_value (source_of s overrides) g ≡ v
          by_case kinds.True is made = itself kinds.True is (λ t. refl) made
          by_case kinds.False is made = itself kinds.False is (λ t. refl) made
          by_case kinds.Word is made = itself kinds.Word is (λ t. refl) made
          by_case kinds.Zero is made = itself kinds.Zero is (λ t. refl) made
          by_case kinds.SpecTrue is made = itself kinds.SpecTrue is (λ t. refl) made
          by_case kinds.SpecFalse is made = itself kinds.SpecFalse is (λ t. refl) made
          by_case kinds.SpecWord is made = itself kinds.SpecWord is (λ t. refl) made
          by_case kinds.Composite is made = absurd (no_scalar p.shape (each_one h g.args) v p.scalar fit made)
          by_case kinds.Operation is made = absurd (calculated_op g.op p.made is)
          by_case kinds.Other is made = cc

  -- a literal is a value of its type
  pub literal_says : (y : StructNames) (t : Tree) (v : ValueTree) → is_scalar t ≡ true → fits t v ≡ true → literal_value (scalar_literal t v) ≡ typed (shape_in s y t) v
  literal_says y plain.int (word w) on fit = by_sign (nat_lt w (2 ^ 31))
    where
      by_sign : (b : Bool) → literal_value (if b then Int w else Hex w) ≡ typed (shape_in s y plain.int) (word w)
      by_sign true = refl
      by_sign false = refl
  literal_says y plain.uint (word w) on fit = refl
  literal_says y plain.boolean (truth b) on fit = refl
  literal_says y plain.boolean (word w) on fit = cc
  literal_says y plain.boolean (many vs) on fit = cc
  literal_says y plain.int (truth b) on fit = cc
  literal_says y plain.int (many vs) on fit = cc
  literal_says y plain.uint (truth b) on fit = cc
  literal_says y plain.uint (many vs) on fit = cc
  literal_says y (plain.vector e n) v on fit = cc
  literal_says y (plain.array t l) v on fit = cc
  literal_says y (plain.runtime t) v on fit = cc
  literal_says y (plain.struct n ts) v on fit = cc

  -- So the expression of a plain constant says its value.
  pub plain_says : (p : Program) (calls : Text → List Argument → State → Result (Option Typed × State)) (z : State) (y : StructNames) (names : ℕ → Text) (id : ℕ) (g : Inst) (v : ValueTree) → global s.of.globals id ≡ Some g → reading (source_of s overrides) g ≡ Plain → s.constants id ≡ Some v
      → (t : Tree) × (type_tree s.of.globals g.ty ≡ Some t) × (evaluate p calls (constant_expr (source_of s overrides) names g) z ≡ got [] (typed (shape_in s y t) v, z))
  plain_says p calls z y names id g v there reads has =
      let c = plain_has id g v there reads has in (
        c.shape,
        c.typed_as,
        ap (λ r. evaluate p calls (expr_by (source_of s overrides) names g r) z) reads
            ∙ ap (λ a. got [] (a, z)) (ap (λ t. literal_value (scalar_literal t (plain_value (source_of s overrides) g))) (ap (λ o. unwrap_or o plain.uint) c.typed_as) ∙ ap (λ a. literal_value (scalar_literal c.shape a)) c.value ∙ literal_says y c.shape v c.scalar c.fit),
      )
