-- What is known of the values of a call under way, where the module's state fits its types and is of words: their shapes, and the words of constants that are written as literals.
use Rattle.std.proofs.Common.{◌≡◌, ◌&&◌, ℕ, Bool, true, false, [], Option, Some, None, refl, sym, ap, ◌∙◌, subst, if◌then◌else◌}
use Rattle.std.specs.Prelude.{option_map, option_and_then}
use Rattle.std.proofs.lemmas.Option.{same_Some}
use Rattle.spv_module.specs.Held.{global as global_inst}
use Rattle.spv_module.specs.State.{ModuleState}
use Rattle.spv_module.specs.declared.inst.Inst.{Inst}
use Rattle.spv_module.specs.declared.inst.Function.{Function}
use Rattle.spv_types.specs.Tree as plain
use Rattle.spv_types.specs.Tree.{Tree, ValueTree, word}
use Rattle.spv_types.specs.Types.{elem_of, type_tree}
use Rattle.op_semantics.specs.Fits.{fits, IsOfWords}
use Rattle.conformance.specs.Rules.{Options}
use Rattle.traces.specs.Invocations.{Invocation}
use Rattle.module_semantics.specs.Setting.{Setting, global_variable}
use Rattle.module_semantics.specs.State.{global, value, pointer, Held, Conf}
use Rattle.module_semantics.specs.Operands as operands
use Rattle.module_semantics.specs.Operands.{of_module, value_at}
use Rattle.glsl_ast.specs.Tree.{TranslationUnit}
use Rattle.text_rules.specs.Constants.{is_constant, reading, plain_value}
use Rattle.text_rules.specs.Declarations.{word_of}
use Rattle.expr_forward.specs.Scope.{Scope}
use Rattle.expr_forward.specs.Paths.{is_plain, is_number, literal_word, word_at}
use Rattle.function_text.specs.Functions.{FunctionPlan}
use Rattle.unit_rules.specs.Translation.{text_of}
use Rattle.unit_rules.specs.Unit.{IsUnitOf}
use Rattle.agree_law.specs.Agree.{Naming}
use Rattle.fits_law.specs.State.{value_shape, HasShape, ConfFits, ModuleFits, functions_of}
use Rattle.global_law.specs.Parts.{shape_in}
use Rattle.global_law.specs.Walks.{struct_names}
use Rattle.global_law.specs.Sources.{source_of}
use Rattle.global_law.proofs.Global.Plain.{plain_has}
use Rattle.global_law.proofs.Global.Indexes.{plain_reading}
use Rattle.typed_law.specs.Conforms.{IsConforming}
use Rattle.typed_law.specs.Words.{IsSettingOfWords, IsStateOfWords}
use Rattle.typed_law.proofs.Lists.{and_left, and_right}
use Rattle.global_law.proofs.Constant.Calculated.{number_value}
use Rattle.claim_law.specs.Claimed.{IsIn}
use Rattle.grammar_law.proofs.Unit.Ways.{HaveKinds, F, V, Found, written_is}
use Rattle.text_law.proofs.Naming.Keys.{S, names}
use Rattle.text_law.proofs.Written.Shapes.{shape_of_value, value_has}

no_global : {A : Type 0} (g : Inst) → None ≡ Some g → A
no_global g e = cc

module _ (m : ModuleState) (opts : Options) (right : IsConforming m opts.entry) (kinds : HaveKinds m.globals) (unit : TranslationUnit) (u : IsUnitOf m opts unit) (inv : Invocation) (p : FunctionPlan) (among : IsIn p u.plans) where
  abbrev s : Setting
  s = S m opts unit u inv

  abbrev N : Naming
  N = names m opts unit u inv p

  abbrev Fn : Function
  Fn = F s opts.entry right kinds opts unit u p among

  abbrev Where : Scope
  Where = V s opts.entry right kinds opts unit u p among

  -- names have the shapes of types
  pub shapes_are : (n : ℕ) (t : Tree) → value_shape s Fn n ≡ Some t → N.shape n ≡ shape_in s (struct_names (text_of (Found s opts.entry right kinds opts unit u p among))) t
  shapes_are n t = subst (λ (g : Function). value_shape s g n ≡ Some t → N.shape n ≡ shape_in s (struct_names (text_of (Found s opts.entry right kinds opts unit u p among))) t) (written_is s opts.entry right kinds opts unit u p among) (shape_of_value m opts unit u inv p n t)

  module _ (suits : ModuleFits s) (words : IsSettingOfWords s) (c : Conf) (fit : ConfFits s c) (low : IsStateOfWords c) (same : c.top.function ≡ Fn) where
    pub fitting : (n : ℕ) (t : Tree) → value_shape s Fn n ≡ Some t → (v : ValueTree) → value_at s c.top n ≡ Some v → fits t v ≡ true
    fitting n t shaped v has =
        subst (λ (o : Option Tree). HasShape o v) shaped (subst (λ (g : Function). HasShape (value_shape s g n) v) same (value_has s suits (functions_of c.below) c.top n v fit.top.0 has))

    -- what an id has, in a call or in the module
    module _ (n : ℕ) (v : ValueTree) where
      by_variable : (P : Type 0) → (s.constants n ≡ Some v → P) → (x : Option Inst) → operands.as_value (elim x [ Some h ↦ Some (pointer (global n) []) | None ↦ option_map value (s.constants n) ]) ≡ Some v → P
      by_variable P module_value (Some x) e = cc
      by_variable P module_value None e = by_constant (s.constants n) refl e
        where
          by_constant : (k : Option ValueTree) → s.constants n ≡ k → operands.as_value (option_map value k) ≡ Some v → P
          by_constant None at e = cc
          by_constant (Some w) at e = module_value (at ∙ e)

      has_value : (P : Type 0) → (c.top.ids n ≡ Some (value v) → P) → (c.top.ids n ≡ None → s.constants n ≡ Some v → P) → value_at s c.top n ≡ Some v → P
      has_value P own module_value has = by_id (c.top.ids n) refl has
        where
          by_id : (x : Option Held) → c.top.ids n ≡ x → operands.as_value (elim x [ Some h ↦ Some h | None ↦ of_module s n ]) ≡ Some v → P
          by_id None at e = by_variable P (module_value at) (global_variable s n) e
          by_id (Some (value w)) at e = own (at ∙ ap (λ (q : ValueTree). Some (value q)) (same_Some w v e))
          by_id (Some (pointer r path)) at e = cc

    pub low_values : (n : ℕ) (v : ValueTree) → value_at s c.top n ≡ Some v → IsOfWords v
    low_values n v has = has_value n v (IsOfWords v) (λ at. low.top.0 n v at) (λ none at. words.constants n v at) has

    -- a constant that is written as a literal has its word
    literal_value : (n : ℕ) (v : ValueTree) (g : Inst) → global_inst m.globals n ≡ Some g → s.constants n ≡ Some v → (w : ℕ) → literal_word Where.setting g ≡ Some w → v ≡ word w
    unfolding literal_word
    literal_value n v g there has w is = by_test (is_constant g && (is_plain (reading (source_of s opts.overrides) g) && is_number (option_and_then elem_of (type_tree m.globals g.ty)))) refl is
      where
        by_test : (b : Bool) → (is_constant g && (is_plain (reading (source_of s opts.overrides) g) && is_number (option_and_then elem_of (type_tree m.globals g.ty)))) ≡ b → (if b then Some (word_of (plain_value (source_of s opts.overrides) g)) else None) ≡ Some w → v ≡ word w
        by_test true on e =
            let parts = and_right (is_constant g) (is_plain (reading (source_of s opts.overrides) g) && is_number (option_and_then elem_of (type_tree m.globals g.ty))) on in
            let reads = plain_reading (reading (source_of s opts.overrides) g) (and_left (is_plain (reading (source_of s opts.overrides) g)) (is_number (option_and_then elem_of (type_tree m.globals g.ty))) parts) in
            let number = and_right (is_plain (reading (source_of s opts.overrides) g)) (is_number (option_and_then elem_of (type_tree m.globals g.ty))) parts in
            let k = plain_has s opts.overrides (λ i. refl) right.results n g v there reads has in
            let own : word_of (plain_value (source_of s opts.overrides) g) ≡ w = same_Some (word_of (plain_value (source_of s opts.overrides) g)) w e in
            number_value k.shape v (ap (λ (o : Option Tree). is_number (option_and_then elem_of o)) (sym k.typed_as) ∙ number) k.fit ∙ ap word (sym (ap word_of k.value) ∙ own)
        by_test false on e = cc

    pub literals : (n : ℕ) (v : ValueTree) → value_at s c.top n ≡ Some v → (w : ℕ) → word_at Where.setting n ≡ Some w → v ≡ word w
    literals n v has w is = by_global (global_inst m.globals n) refl is
      where
        by_global : (o : Option Inst) → global_inst m.globals n ≡ o → option_and_then (literal_word Where.setting) o ≡ Some w → v ≡ word w
        by_global None there e = cc
        by_global (Some g) there e = has_value n v (v ≡ word w) (λ at. no_global g (sym (fit.top.0 n (value v) at).0 ∙ there)) (λ none at. literal_value n v g there at w e) has
