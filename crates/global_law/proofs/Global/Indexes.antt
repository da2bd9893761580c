-- Constants as indexes: a literal is the word of the constant, and says it; so does a name that stands for its value.
use Rattle.std.proofs.Common.{◌≡◌, ◌&&◌, ℕ, Bool, true, false, List, [], Option, Some, None, refl, sym, ap, ◌∙◌, if◌then◌else◌}
use Rattle.std.specs.Prelude.{option_and_then, unwrap_or}
use Rattle.std.proofs.lemmas.Bool.{and_parts}
use Rattle.std.proofs.lemmas.Option.{same_Some}
use Rattle.spv_module.specs.Held.{global as global_inst}
use Rattle.spv_module.specs.declared.inst.Inst.{Inst}
use Rattle.spv_module.specs.declared.inst.Function.{Function}
use Rattle.spv_types.specs.Tree as plain
use Rattle.spv_types.specs.Tree.{Tree, word}
use Rattle.spv_types.specs.Types.{elem_of, type_tree}
use Rattle.op_semantics.specs.Fits.{fits}
use Rattle.profile_rules.specs.declared.given.Given.{Given}
use Rattle.traces.specs.Outcomes.{Result, got, or_stuck}
use Rattle.module_semantics.specs.Setting.{Setting}
use Rattle.module_semantics.specs.State.{Conf}
use Rattle.name_alloc.specs.declared.claims.Key.{Key}
use Rattle.name_alloc.specs.declared.claims.Key.TheVariants.{Id}
use Rattle.spv_module.specs.Lists.{id}
use Rattle.glsl_ast.specs.Tree.{Text, Expr, name}
use Rattle.glsl_semantics.specs.Shapes.{Typed, typed}
use Rattle.glsl_semantics.specs.States.{State, value, index_word}
use Rattle.glsl_semantics.specs.Expressions.{Program, Argument, then_fetch, evaluate}
use Rattle.text_rules.specs.declared.readings.Reading.{Reading}
use Rattle.text_rules.specs.declared.readings.Reading.TheVariants.{Plain, Named, GroupSize, GroupSizePart}
use Rattle.text_rules.specs.Constants.{is_scalar, is_constant, reading, plain_value, constant_expr}
use Rattle.text_rules.specs.Declarations.{word_of}
use Rattle.expr_forward.specs.Paths as paths
use Rattle.expr_forward.specs.Paths.{is_plain, is_number, literal_word, index_expr}
use Rattle.type_law.specs.Shaped.{HaveResults, HasConstants}
use Rattle.agree_law.specs.Agree.{Naming, Agree}
use Rattle.global_law.specs.Parts.{StructNames, shape_in}
use Rattle.global_law.specs.Walks.{writing, struct_names, SaysIndex}
use Rattle.global_law.proofs.Path.Starts.{outside_is}
use Rattle.global_law.specs.Sources.{source_of, chosen}
use Rattle.global_law.proofs.Global.Plain.{plain_has, plain_says}

pub plain_reading : (r : Reading) → is_plain r ≡ true → r ≡ Plain
plain_reading Plain e = refl
plain_reading Named e = cc
plain_reading GroupSize e = cc
plain_reading (GroupSizePart axis) e = cc

-- a scalar that has a word is a number
pub word_number : (s : Setting) (y : StructNames) (t : Tree) (i : ℕ) → is_scalar t ≡ true → fits t (word i) ≡ true → index_word (typed (shape_in s y t) (word i)) ≡ Some i
word_number s y plain.int i on fit = refl
word_number s y plain.uint i on fit = refl
word_number s y plain.boolean i on fit = cc
word_number s y (plain.vector e n) i on fit = cc
word_number s y (plain.array t l) i on fit = cc
word_number s y (plain.runtime t) i on fit = cc
word_number s y (plain.struct n ts) i on fit = cc

module _ (s : Setting) (overrides : List (ℕ × Given)) (have : HasConstants s (chosen s overrides)) (results : HaveResults s.of.globals) (f : Function) (key : Key → Text) (globals : ℕ → Option Expr) where
  -- what is written as a literal has the word of its constant
  pub literal_right : (n l i : ℕ) → paths.word_at (writing s overrides f key globals) n ≡ Some l → s.constants n ≡ Some (word i) → l ≡ i
  unfolding literal_word
  literal_right n l i e has = by_global (global_inst s.of.globals n) refl e
    where
      by_test : (g : Inst) (b : Bool) → (is_constant g && (is_plain (reading (source_of s overrides) g) && is_number (option_and_then elem_of (type_tree s.of.globals g.ty)))) ≡ b → global_inst s.of.globals n ≡ Some g → (if b then Some (word_of (plain_value (source_of s overrides) g)) else None) ≡ Some l → l ≡ i
      by_test g true on there e =
          let parts = and_parts (is_constant g) _ on in
          let reads = plain_reading (reading (source_of s overrides) g) (and_parts (is_plain (reading (source_of s overrides) g)) _ parts.1).0 in
          let c = plain_has s overrides have results n g (word i) there reads has in
          let same : word_of (plain_value (source_of s overrides) g) ≡ l = cc in
          sym same ∙ ap word_of c.value
      by_test g false on there e = cc

      by_global : (o : Option Inst) → global_inst s.of.globals n ≡ o → option_and_then (literal_word (writing s overrides f key globals)) o ≡ Some l → l ≡ i
      by_global None there e = cc
      by_global (Some g) there e = by_test g (is_constant g && (is_plain (reading (source_of s overrides) g) && is_number (option_and_then elem_of (type_tree s.of.globals g.ty)))) refl there e

  module _ (p : Program) (calls : Text → List Argument → State → Result (Option Typed × State)) (z : State) where
    -- an index that is a plain constant says its word
    pub plain_index : (names : ℕ → Text) (n i : ℕ) (g : Inst) → global_inst s.of.globals n ≡ Some g → reading (source_of s overrides) g ≡ Plain → globals n ≡ Some (constant_expr (source_of s overrides) names g) → s.constants n ≡ Some (word i) → SaysIndex p calls z (index_expr (writing s overrides f key globals) n) i
    plain_index names n i g there reads written has =
        let c = plain_has s overrides have results n g (word i) there reads has in
        let says = plain_says s overrides have results p calls z (struct_names key) names n g (word i) there reads has in
        let same : says.0 ≡ c.shape = same_Some says.0 c.shape (sym says.1 ∙ c.typed_as) in (
          typed (shape_in s (struct_names key) says.0) (word i),
          ap (λ o. evaluate p calls (unwrap_or o (name (key (Id (id n))))) z) written ∙ says.2,
          word_number s (struct_names key) says.0 i (ap is_scalar same ∙ c.scalar) (ap (λ t. fits t (word i)) same ∙ c.fit),
        )

    -- a name that stands outside of functions for a value says it
    pub outside_says : (m : Naming) (c : Conf) → Agree m c z → (x : Text) (v : Typed) → m.is_outside x ≡ true → p.things x ≡ Some (value v) → evaluate p calls (name x) z ≡ got [] (v, z)
    outside_says m c agree x v out is =
        let o = agree.outside x out in
        ap (λ o. then_fetch (or_stuck o (λ y. got [] (y, z))) (λ v q. got [] (v, q))) (outside_is p z x o.0 o.1 ∙ is)
