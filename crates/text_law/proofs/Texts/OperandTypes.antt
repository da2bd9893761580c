-- The types of the values that a reached block of an accepted module mentions stand in its text, and so do those of its own results.
use Rattle.std.proofs.Common.{◌≡◌, ◌⊎◌, ◌==◌, ℕ, Bool, true, false, List, [], ◌∷◌, Option, Some, None, inl, inr, refl, sym, ap, ◌∙◌, map, not, subst}
use Rattle.std.specs.Prelude.{find, is_some, option_map, option_and_then, slice_get, slice_index_or}
use Rattle.std.specs.Option.{option_map_or, option_or}
use Rattle.std.proofs.lemmas.Bool.{false_from_ne_true}
use Rattle.std.proofs.lemmas.Option.{same_Some}
use Rattle.spv_module.specs.Held.{global}
use Rattle.spv_module.specs.State.{ModuleState}
use Rattle.spv_module.specs.declared.inst.Id.{Id as IdOf}
use Rattle.spv_module.specs.declared.inst.Inst.{Inst}
use Rattle.spv_module.specs.declared.inst.Block.{Block}
use Rattle.spv_module.specs.declared.inst.Function.{Function}
use Rattle.spv_types.specs.Tree as plain
use Rattle.spv_types.specs.Tree.{Tree}
use Rattle.spv_types.specs.Types.{type_tree}
use Rattle.spv_index.specs.Locals.{insts_of, inst_in, parameter_in, typed, local_type, type_in}
use Rattle.conformance.specs.Rules.{Options}
use Rattle.profile_rules.specs.MemoryRules.{is_pointer}
use Rattle.profile_rules.specs.Places.{is_variable}
use Rattle.module_check.specs.Judged.{IsFine}
use Rattle.module_check.specs.ReadFrom.{IsReadFrom}
use Rattle.traces.specs.Invocations.{Invocation, IsInvocation}
use Rattle.module_semantics.specs.Setting.{Setting}
use Rattle.glsl_ast.specs.Tree.{TranslationUnit}
use Rattle.hoist_plan.specs.declared.form.Form.{Form}
use Rattle.hoist_plan.specs.declared.form.Form.TheVariants.{Forwarded, Local, Hoisted}
use Rattle.expr_forward.specs.Scope.{Scope}
use Rattle.function_plan.specs.Phis.{is_gone}
use Rattle.function_text.specs.Functions.{FunctionPlan, written}
use Rattle.function_text.specs.Live.{is_composite_type, is_composite}
use Rattle.unit_rules.specs.Unit.{claims_by, liveness_of, source_of, IsUnitOf}
use Rattle.list_law.proofs.Options.{no_some}
use Rattle.call_law.specs.Known.{LendsWhole}
use Rattle.fits_law.specs.State.{value_shape}
use Rattle.lowering_law.specs.Arguments.{IsBasic}
use Rattle.lowers_law.proofs.Types.{decide_basic}
use Rattle.global_law.proofs.Path.Types.{op_of, declared_as}
use Rattle.typed_law.specs.Conforms.{IsConforming, IsParameter}
use Rattle.typed_law.proofs.Lists.{and_left, some_part}
use Rattle.typed_law.proofs.Types.{pointee_shaped}
use Rattle.typed_law.proofs.Values.{local_row, shaped_some, variable_type_is}
use Rattle.global_law.proofs.Constant.Written.{no_pointee}
use Rattle.structure_rules.specs.declared.graph.Node.{Node}
use Rattle.function_plan.specs.Planned.{is_reached_node}
use Rattle.use_chains.specs.Slots.{inst_at}
use Rattle.claim_law.specs.Claimed.{IsIn, IsOf}
use Rattle.claim_law.proofs.Claim.Listed.{at_place}
use Rattle.grammar_law.specs.Mentioned.{IsValueIn, Stands}
use Rattle.grammar_law.proofs.Unit.Lists.{as_among, found_by}
use Rattle.grammar_law.proofs.Unit.Shaped.{shaped_value}
use Rattle.grammar_law.proofs.Unit.Ways.{HaveKinds, CountsIn, F, R, V, plan_is, written_is, in_module, counts_here, home, result, stands, reached_here, reached_nth}
use Rattle.text_law.specs.Names.{is_value_parameter}
use Rattle.text_law.proofs.Naming.Keys.{S}
use Rattle.text_law.specs.Left.{IsLeftOfGlobals}
use Rattle.text_law.proofs.Outside.Locals.{typed_parameter}
use Rattle.text_law.proofs.Written.Placed.{IsMadeBy, maker}
use Rattle.text_law.proofs.Texts.ValueTypes.{IsTextType, basic_text, live_text, top_text, parameter_text}

composite_op : (t : Tree) → (IsBasic t → ⊥) → is_composite_type (op_of t) ≡ true
composite_op (plain.array t l) far = refl
composite_op (plain.runtime t) far = refl
composite_op (plain.struct k ts) far = refl
composite_op plain.boolean far = absurd (far tt)
composite_op plain.int far = absurd (far tt)
composite_op plain.uint far = absurd (far tt)
composite_op (plain.vector e n) far = absurd (far tt)

as_parameter : (ps : List (IdOf × IdOf)) (q : IdOf × IdOf) → IsIn q ps → IsParameter q ps
as_parameter [] q among = absurd among
as_parameter (p ∷ ps) q (inl same) = inl same
as_parameter (p ∷ ps) q (inr among) = inr (as_parameter ps q among)

-- a parameter by its id
parameter_found : (f : Function) (n ty : ℕ) → parameter_in f n ≡ Some ty → (q : IdOf × IdOf) × IsParameter q f.params × (q.1.0 ≡ ty)
parameter_found f n ty is = by_find (find (λ (q : IdOf × IdOf). q.0.0 == n) f.params) refl is
  where
    by_find : (o : Option (IdOf × IdOf)) → find (λ (q : IdOf × IdOf). q.0.0 == n) f.params ≡ o → option_map (λ (q : IdOf × IdOf). q.1.0) o ≡ Some ty → (q : IdOf × IdOf) × IsParameter q f.params × (q.1.0 ≡ ty)
    by_find None at e = cc
    by_find (Some q) at e = (q, as_parameter f.params q (found_by (λ (x : IdOf × IdOf). x.0.0 == n) f.params q at).0, same_Some q.1.0 ty e)

module _ (bytes : List ℕ) (m : ModuleState) (o : Options) (read : IsReadFrom bytes m) (fine : IsFine m o) (unit : TranslationUnit) (u : IsUnitOf m o unit) (inv : Invocation) (told : IsInvocation inv) (left : IsLeftOfGlobals bytes m o) (p : FunctionPlan) (planned : IsIn p u.plans) (right : IsConforming m o.entry) (kinds : HaveKinds m.globals) where
  abbrev s : Setting
  s = S m o unit u inv

  abbrev Gs : List Inst
  Gs = m.globals

  abbrev Fn : Function
  Fn = F s o.entry right kinds o unit u p planned

  abbrev Where : Scope
  Where = V s o.entry right kinds o unit u p planned

  abbrev Marks : List Bool
  Marks = R s o.entry right kinds o unit u p planned

  abbrev IsText : Tree → Type 0
  IsText = IsTextType bytes m o read fine unit u inv told left p planned

  same : written p ≡ Fn
  same = written_is s o.entry right kinds o unit u p planned

  composite_is : (ty : ℕ) (t : Tree) → type_tree Gs ty ≡ Some t → (IsBasic t → ⊥) → is_composite Gs ty ≡ true
  composite_is ty t shaped far =
      let d = declared_as s ty t shaped in
      ap (λ (x : Option Inst). option_map_or (λ (g : Inst). is_composite_type g.op) x false) d.1 ∙ (ap is_composite_type d.2 ∙ composite_op t far)

  -- what has a value's type is no variable, whose type is a pointer
  no_variable : (j : Inst) → IsIn j (insts_of Fn) → (j.ty ≡ 0 → ⊥) → (t : Tree) → type_tree Gs j.ty ≡ Some t → is_variable j ≡ false
  no_variable j among some t shaped = false_from_ne_true (is_variable j) never
    where
      never : is_variable j ≡ true → ⊥
      never on =
          let g = local_row s o.entry right Fn (in_module s o.entry right kinds o unit u p planned) j (as_among (insts_of Fn) j among) some in
          let q = pointee_shaped m o.entry right j.ty g.0 g.1 (variable_type_is j.op g.0 on g.2) in
          no_some q.0 (sym (no_pointee Gs j.ty t shaped) ∙ q.2)

  -- what is mentioned in the block and made by an instruction
  module _ (b n : ℕ) (v : IsValueIn Where Marks b n) (j : Inst) (made : inst_in Fn n ≡ Some j) (some : j.ty ≡ 0 → ⊥) (t : Tree) (shaped : type_tree Gs j.ty ≡ Some t) (far : IsBasic t → ⊥) where
    abbrev counts : CountsIn s o.entry right kinds o unit u p planned b v.user n v.mentioned b
    counts = counts_here s o.entry right kinds o unit u p planned b v.user n v.mentioned v.no_phi

    abbrev it : IsIn j (insts_of Fn) × (j.result ≡ n)
    it = result s o.entry right kinds o unit u p planned b n v.user j v.mentioned b counts made some (shaped_value Gs j.ty t shaped)

    abbrev place : (c : ℕ) × (block : Block) × (slice_get Fn.blocks c ≡ Some block) × IsIn j block.insts
    place = home s o.entry right kinds o unit u p planned b n v.user j v.mentioned b counts made some (shaped_value Gs j.ty t shaped)

    abbrev of_it : IsOf (claims_by (source_of m o u.entry) p) j
    of_it = record { number = place.0; block = place.1; there = subst (λ (g : Function). slice_get g.blocks place.0 ≡ Some place.1) (sym same) place.2; among = place.3 }

    there : IsIn j (insts_of (written p))
    there = subst (λ (g : Function). IsIn j (insts_of g)) (sym same) it.0

    form_is : (x : Form) → Where.form n ≡ x → p.scope.form j.result ≡ x
    form_is x form = ap (λ (w : Scope). w.form j.result) (plan_is s o.entry right kinds o unit u p planned).scope_is ∙ (ap Where.form it.1 ∙ form)

    reached : place.0 ≡ b → slice_index_or (liveness_of (source_of m o u.entry) p).reached of_it.number false ≡ true
    reached here = reached_nth p.graph place.0 ∙ reached_here s o.entry right kinds o unit u p planned b n v.user j v.mentioned b counts made some (shaped_value Gs j.ty t shaped) here

    by_stands : Stands (Where.form n) place.0 b → IsText t
    by_stands (inl top) = top_text bytes m o read fine unit u inv told left p planned j there (no_variable j it.0 some t shaped) t shaped of_it (form_is Hoisted top) (composite_is j.ty t shaped far)
    by_stands (inr (inl form, here)) = live_text bytes m o read fine unit u inv told left p planned j there (no_variable j it.0 some t shaped) t shaped of_it (reached here) (ap is_gone (form_is Local form))
    by_stands (inr (inr form, here)) = live_text bytes m o read fine unit u inv told left p planned j there (no_variable j it.0 some t shaped) t shaped of_it (reached here) (ap is_gone (form_is Forwarded form))

    made_text : IsText t
    made_text = by_stands (stands s o.entry right kinds o unit u p planned b n v.user j v.mentioned b counts made some (shaped_value Gs j.ty t shaped))

  -- what the block makes that is not gone
  pub result_text : (b k : ℕ) (j : Inst) → inst_at Fn b k ≡ Some j → slice_index_or Marks b false ≡ true → IsIn j (insts_of Fn) → is_gone (Where.form j.result) ≡ false → (t : Tree) → type_tree Gs j.ty ≡ Some t → IsText t
  result_text b k j at here among kept t shaped =
      let block = some_part (λ (x : Block). slice_get x.insts k) (slice_get Fn.blocks b) j at in
      let some : j.ty ≡ 0 → ⊥ = shaped_some s o.entry right Fn (in_module s o.entry right kinds o unit u p planned) j.ty t shaped in
      live_text bytes m o read fine unit u inv told left p planned j (subst (λ (g : Function). IsIn j (insts_of g)) (sym same) among) (no_variable j among some t shaped) t shaped
      (record { number = b; block = block.0; there = subst (λ (g : Function). slice_get g.blocks b ≡ Some block.0) (sym same) block.1; among = at_place block.0.insts k j block.2 })
      (ap (λ (g : List Node). slice_index_or (map is_reached_node g) b false) (plan_is s o.entry right kinds o unit u p planned).graph_is ∙ here)
      (ap (λ (w : Scope). is_gone (w.form j.result)) (plan_is s o.entry right kinds o unit u p planned).scope_is ∙ kept)

  -- a value parameter
  parameter_type_text : (n ty : ℕ) (t : Tree) → parameter_in Fn n ≡ Some ty → type_tree Gs ty ≡ Some t → IsText t
  parameter_type_text n ty t is shaped =
      let q = parameter_found Fn n ty is in
      let one : IsParameter q.0 (written p).params = subst (λ (g : Function). IsParameter q.0 g.params) (sym same) q.1 in
      let w = typed_parameter bytes m o read fine unit u inv told left p planned q.0 one in
      let own : type_tree Gs q.0.1.0 ≡ Some t = ap (type_tree Gs) q.2 ∙ shaped in
      let itself : q.0.1.0 ≡ w.type = sym (ap (λ (x : Option ℕ). option_map_or (λ (k : ℕ). k) x q.0.1.0) (no_pointee Gs q.0.1.0 t own)) ∙ w.self in
      let shape_is : w.shape ≡ t = same_Some w.shape t (sym w.typed_as ∙ (ap (type_tree Gs) (sym itself) ∙ own)) in
      subst IsText shape_is (parameter_text bytes m o read fine unit u inv told left p planned q.0 one)

  -- The law: of any value that the block mentions, where those of the module that are composites have types in the text.
  pub operand_text : (lends : LendsWhole s) (b n : ℕ) → IsValueIn Where Marks b n → (t : Tree) → value_shape s Fn n ≡ Some t → ((g : Inst) → global Gs n ≡ Some g → (IsBasic t → ⊥) → IsText t) → IsText t
  operand_text lends b n v t shaped of_module = by_basic (decide_basic t)
    where
      by_type : (x : Option ℕ) → option_and_then (type_tree Gs) x ≡ Some t → (ty : ℕ) × (x ≡ Some ty) × (type_tree Gs ty ≡ Some t)
      by_type None e = cc
      by_type (Some ty) e = (ty, refl, e)

      of_parameter : global Gs n ≡ None → (x : Option ℕ) → parameter_in Fn n ≡ x → is_some x ≡ true → IsText t
      of_parameter local None is on = cc
      of_parameter local (Some ty) is on =
          let type_is : type_in Gs Fn n ≡ Some ty = ap (λ (g : Option Inst). option_or (option_and_then typed g) (local_type Fn n)) local ∙ ap (λ (y : Option ℕ). option_or y (option_and_then typed (inst_in Fn n))) is in
          parameter_type_text n ty t is (sym (ap (option_and_then (type_tree Gs)) type_is) ∙ shaped)

      by_maker : (IsBasic t → ⊥) → global Gs n ≡ None → (is_value_parameter Gs Fn n ≡ true) ⊎ ((j : Inst) × IsMadeBy s o.entry right kinds o unit u p planned lends n t j) → IsText t
      by_maker far local (inl on) = of_parameter local (parameter_in Fn n) refl (and_left (is_some (parameter_in Fn n)) (not (is_pointer Gs Fn n)) on)
      by_maker far local (inr k) = let by = k.1 in made_text b n v k.0 by.made by.some_type t by.shaped far

      by_global : (IsBasic t → ⊥) → (x : Option Inst) → global Gs n ≡ x → IsText t
      by_global far (Some g) is = of_module g is far
      by_global far None is = by_maker far is (maker s o.entry right kinds o unit u p planned lends n t shaped is)

      by_basic : IsBasic t ⊎ (IsBasic t → ⊥) → IsText t
      by_basic (inl basic) = let w = by_type (type_in Gs Fn n) shaped in basic_text bytes m o read fine unit u inv told left p planned w.0 t w.2 basic
      by_basic (inr far) = by_global far (global Gs n) refl
