-- Constants and variables of a module have the shapes of their types.
use Rattle.std.proofs.Common.{◌≡◌, ◌==◌, ℕ, Bool, true, false, List, [], ◌∷◌, Option, Some, None, inl, inr, refl, sym, ap, ◌∙◌, subst, if◌then◌else◌}
use Rattle.std.specs.Prelude.{◌⊎◌, fold, option_and_then}
use Rattle.std.specs.Option.{option_map_or, option_or}
use Rattle.std.proofs.lemmas.Bool.Decides.{eqb_tells}
use Rattle.std.proofs.lemmas.Option.{same_Some}
use Rattle.spv_ops.specs.Opcode.{is, number}
use Rattle.spv_ops.specs.declared.Op.{Op}
use Rattle.spv_ops.specs.declared.Op.TheVariants as code
use Rattle.spv_ops.specs.declared.StorageClass.TheVariants as storage
use Rattle.spv_module.specs.Held.{global as global_inst}
use Rattle.spv_module.specs.declared.inst.Inst.{Inst}
use Rattle.spv_module.specs.declared.inst.Function.{Function}
use Rattle.spv_types.specs.Tree.{Tree, ValueTree, word as word_value}
use Rattle.spv_types.specs.Types.{tree_at, type_tree}
use Rattle.spv_decor.specs.Rows.{word}
use Rattle.spv_index.specs.Locals.{typed, global_type, local_type}
use Rattle.spv_index.specs.Pointers.{pointee}
use Rattle.op_semantics.specs.Fits.{fits}
use Rattle.profile_rules.specs.declared.constant.ConstantKind.TheVariants.{Word}
use Rattle.profile_rules.specs.TypeRows.{constant_if}
use Rattle.profile_rules.specs.TypeRules.{is_sound}
use Rattle.profile_rules.specs.Constants.{constant_kind, value_by_kind, if_fits, shaped_value, value_step, with_value}
use Rattle.module_semantics.specs.Setting.{Setting, global_variable}
use Rattle.module_semantics.specs.Memory.{class_of}
use Rattle.module_semantics.specs.Accesses.{input_value}
use Rattle.list_law.proofs.Options.{some_part, none_some}
use Rattle.fits_law.specs.State.{value_shape, target_shape, global_shape, HasShape, LeadsTo, ModuleFits}
use Rattle.type_law.specs.Shaped.{EachFound, HaveResults, AreConstants, HasConstants}
use Rattle.type_law.proofs.Places.{along_is}

word_kind : (o : Op) → is o code.Constant ≡ true → constant_kind o ≡ Word
unfolding constant_kind number
word_kind code.Constant e = refl
word_kind o e = cc

-- what is found in the end was found at the instruction with that id
found_at : (gs : List Inst) (step : (ℕ → Option ValueTree) → Inst → Option ValueTree) (rest : List Inst) (f : ℕ → Option ValueTree) (id : ℕ) (v : ValueTree) → EachFound gs rest → fold (with_value step) f rest id ≡ Some v
    → (f id ≡ Some v) ⊎ ((g : Inst) × (h : ℕ → Option ValueTree) × (global_inst gs id ≡ Some g) × (step h g ≡ Some v))
found_at gs step [] f id v each e = inl e
found_at gs step (g ∷ rest) f id v each e = by_later (found_at gs step rest (with_value step f g) id v each.1 e)
  where
    by_step : (o : Option ValueTree) → step f g ≡ o → g.result ≡ id → option_or o (f id) ≡ Some v → (f id ≡ Some v) ⊎ ((g : Inst) × (h : ℕ → Option ValueTree) × (global_inst gs id ≡ Some g) × (step h g ≡ Some v))
    by_step None here same e = inl e
    by_step (Some w) here same e = inr (g, f, subst (λ n. global_inst gs n ≡ Some g) same each.0, here ∙ e)

    by_test : (b : Bool) → ((b ≡ true) × (g.result ≡ id)) ⊎ ((b ≡ false) × (g.result ≡ id → ⊥)) → elim b [ true ↦ option_or (step f g) (f id) | false ↦ f id ] ≡ Some v → (f id ≡ Some v) ⊎ ((g : Inst) × (h : ℕ → Option ValueTree) × (global_inst gs id ≡ Some g) × (step h g ≡ Some v))
    by_test true (inl w) e = by_step (step f g) refl w.1 e
    by_test true (inr w) e = cc
    by_test false w e = inl e

    by_later : (with_value step f g id ≡ Some v) ⊎ ((g : Inst) × (h : ℕ → Option ValueTree) × (global_inst gs id ≡ Some g) × (step h g ≡ Some v)) → (f id ≡ Some v) ⊎ ((g : Inst) × (h : ℕ → Option ValueTree) × (global_inst gs id ≡ Some g) × (step h g ≡ Some v))
    by_later (inl own) = by_test (g.result == id) (eqb_tells g.result id) own
    by_later (inr w) = inr w

-- a value that fits its shape
pub by_fits : (t : Tree) (w v : ValueTree) (b : Bool) → fits t w ≡ b → (if b then Some w else None) ≡ Some v → (w ≡ v) × (fits t v ≡ true)
by_fits t w v true is e = let same = same_Some w v e in (same, subst (λ x. fits t x ≡ true) same is)
by_fits t w v false is e = cc

-- a type with a shape is not 0
pub typed_by : (gs : List Inst) → HaveResults gs → (g : Inst) (t : Tree) → type_tree gs g.ty ≡ Some t → typed g ≡ Some g.ty
typed_by gs results g t shape = by_test (g.ty == 0) (eqb_tells g.ty 0)
  where
    by_test : (b : Bool) → ((b ≡ true) × (g.ty ≡ 0)) ⊎ ((b ≡ false) × (g.ty ≡ 0 → ⊥)) → (if b then None else Some g.ty) ≡ Some g.ty
    by_test true (inl w) = none_some (sym (ap (λ o. option_map_or (tree_at gs) o None) (ap (global_inst gs) w.1 ∙ results.none)) ∙ shape)
    by_test true (inr w) = cc
    by_test false w = refl

module _ (s : Setting) (chosen : ℕ → Option ℕ) (have : HasConstants s chosen) (results : HaveResults s.of.globals) where
  abbrev pub Gs : List Inst
  Gs = s.of.globals

  -- the instruction of a constant, its shape, and that its value has the shape
  pub constant_of : (id : ℕ) (v : ValueTree) → s.constants id ≡ Some v → (g : Inst) × (h : ℕ → Option ValueTree) × (t : Tree) × (global_inst Gs id ≡ Some g) × (type_tree Gs g.ty ≡ Some t) × (fits t v ≡ true) × (value_by_kind h (chosen g.result) t g.args (constant_kind g.op) ≡ Some v)
  constant_of id v e = by_found (found_at Gs (value_step s.of chosen) Gs (λ id. None) id v results.each (sym (have id) ∙ e))
    where
      by_sound : (g : Inst) (h : ℕ → Option ValueTree) (b : Bool) → global_inst Gs id ≡ Some g → (if b then option_and_then (shaped_value h (chosen g.result) g) (type_tree Gs g.ty) else None) ≡ Some v
          → (g : Inst) × (h : ℕ → Option ValueTree) × (t : Tree) × (global_inst Gs id ≡ Some g) × (type_tree Gs g.ty ≡ Some t) × (fits t v ≡ true) × (value_by_kind h (chosen g.result) t g.args (constant_kind g.op) ≡ Some v)
      by_sound g h true there e =
          let t = some_part (shaped_value h (chosen g.result) g) (type_tree Gs g.ty) v e in
          let w = some_part (if_fits t.0) (value_by_kind h (chosen g.result) t.0 g.args (constant_kind g.op)) v t.2 in
          let fit = by_fits t.0 w.0 v (fits t.0 w.0) refl w.2 in
          (g, h, t.0, there, t.1, fit.1, w.1 ∙ ap (λ x. Some x) fit.0)
      by_sound g h false there e = cc

      by_found : (None ≡ Some v) ⊎ ((g : Inst) × (h : ℕ → Option ValueTree) × (global_inst Gs id ≡ Some g) × (value_step s.of chosen h g ≡ Some v))
          → (g : Inst) × (h : ℕ → Option ValueTree) × (t : Tree) × (global_inst Gs id ≡ Some g) × (type_tree Gs g.ty ≡ Some t) × (fits t v ≡ true) × (value_by_kind h (chosen g.result) t g.args (constant_kind g.op) ≡ Some v)
      by_found (inl none) = cc
      by_found (inr w) = by_sound w.0 w.1 (is_sound s.of w.0) w.2 w.3

  -- an OpConstant has its word
  pub constants_are : AreConstants s
  constants_are id w v told at =
      let c = constant_of id v at in
      by_test c.0 (is c.0.op code.Constant) refl (ap (option_and_then constant_if) (sym c.3) ∙ told) (c.1) c.2 c.6
    where
      by_test : (g : Inst) (b : Bool) → is g.op code.Constant ≡ b → (if b then Some (word g 0) else None) ≡ Some w → (h : ℕ → Option ValueTree) (t : Tree) → value_by_kind h (chosen g.result) t g.args (constant_kind g.op) ≡ Some v → v ≡ word_value w
      by_test g true on e h t made =
          let kind_is = ap (λ k. value_by_kind h (chosen g.result) t g.args k) (word_kind g.op on) in
          sym (same_Some (word_value (word g 0)) v (sym kind_is ∙ made)) ∙ ap word_value (same_Some (word g 0) w e)
      by_test g false on e h t made = cc

  pub constants_fit : (f : Function) (id : ℕ) (v : ValueTree) → s.constants id ≡ Some v → HasShape (value_shape s f id) v
  constants_fit f id v at =
      let c = constant_of id v at in
      let own : global_type Gs id ≡ Some c.0.ty = ap (option_and_then typed) c.3 ∙ typed_by Gs results c.0 c.2 c.4 in
      let shape : value_shape s f id ≡ Some c.2 = ap (λ o. option_and_then (type_tree Gs) (option_or o (local_type f id))) own ∙ c.4 in
      subst (λ o. HasShape o v) (sym shape) c.5

  global_leads : (f : Function) (id : ℕ) (t : Tree) → global_shape s id ≡ Some t → LeadsTo (global_shape s id) [] (target_shape s f id)
  global_leads f id t shape =
      let part = some_part (type_tree Gs) (option_and_then (pointee Gs) (global_type Gs id)) t shape in
      let own = some_part (pointee Gs) (global_type Gs id) part.0 part.1 in
      let target : target_shape s f id ≡ Some t = ap (λ o. option_and_then (type_tree Gs) (option_and_then (pointee Gs) (option_or o (local_type f id)))) own.1 ∙ (ap (option_and_then (type_tree Gs)) own.2 ∙ part.2) in
      subst (λ o. LeadsTo o [] (target_shape s f id)) (sym shape) (sym target)

  -- what a module has fits its types, where its variables have shapes and built-in variables values of these
  pub module_fits : ((id : ℕ) (v : Inst) → global_variable s id ≡ Some v → (t : Tree) × (global_shape s id ≡ Some t)) → ((id : ℕ) (v : Inst) (r : ValueTree) → global_variable s id ≡ Some v → class_of v ≡ Some storage.Input → input_value s v ≡ Some r → HasShape (global_shape s id) r) → ModuleFits s
  module_fits shaped told = record {
    constants = constants_fit;
    globals = λ f id v there. let t = shaped id v there in global_leads f id t.0 t.1;
    inputs = told;
    along = along_is s;
  }
