-- In a conforming module the result of an instruction whose type is neither void nor a pointer has a shape: no value has the type of a function, since each would have it of one that stands before it.
use Rattle.std.proofs.Common.{◌≡◌, ◌<◌, ◌||◌, ◌&&◌, not, ℕ, zero, suc, Bool, true, false, List, [], ◌∷◌, ◌++◌, Option, Some, None, inl, inr, refl, sym, ap, subst, ◌∙◌, if◌then◌else◌, arith}
use Rattle.std.specs.Prelude.{◌⊎◌, nat_lt, is_some, option_and_then, flat_map, Contains, slice_index}
use Rattle.std.specs.Option.{option_map_or, option_or}
use Rattle.std.proofs.lemmas.Option.{same_Some, none-some}
use Rattle.spv_words.specs.declared.rule.Rule.TheVariants.{T1}
use Rattle.spv_ops.specs.Opcode.{is}
use Rattle.spv_ops.specs.Groups.{is_constant}
use Rattle.spv_ops.specs.OpGroups.{group_of}
use Rattle.spv_ops.specs.declared.OpGroup.{OpGroup}
use Rattle.spv_ops.specs.declared.OpGroup.TheVariants as groups
use Rattle.spv_ops.specs.declared.Op.{Op}
use Rattle.spv_ops.specs.declared.Op.TheVariants as code
use Rattle.spv_module.specs.Held.{global}
use Rattle.spv_module.specs.Inst.{has_type}
use Rattle.spv_module.specs.State.{ModuleState}
use Rattle.spv_module.specs.declared.inst.Inst.{Inst}
use Rattle.spv_module.specs.declared.inst.Function.{Function}
use Rattle.spv_types.specs.Tree.{Tree}
use Rattle.spv_types.specs.Types.{is_shapeless, tree_at, type_tree, earlier}
use Rattle.spv_types.specs.Leaves.{IsSized}
use Rattle.spv_index.specs.Locals.{insts_of, inst_in, parameter_in, typed, global_type, local_type, type_in}
use Rattle.spv_index.specs.Pointers.{storage_class}
use Rattle.spv_index.specs.ValueTypes.{is_no_value_type}
use Rattle.profile_rules.specs.declared.needs.Need.{Need}
use Rattle.profile_rules.specs.declared.needs.Need.TheVariants.{Value}
use Rattle.profile_rules.specs.Constants.{chosen_word}
use Rattle.profile_rules.specs.Operands.{suits, is_global, is_local_before, is_there_in, breaks_t1}
use Rattle.profile_rules.specs.TypeRows.{is_bool, is_int, type_row, fails}
use Rattle.profile_rules.specs.TypeForm.{is_no_variable, is_other_parameter}
use Rattle.profile_rules.specs.ValueRules.{misfit}
use Rattle.profile_rules.specs.TypeRules.{broken_if, is_value_broken, is_number_broken, is_broken_outside, broken_as, broken_inside, broken_by_global, broken_by_function, rule_of}
use Rattle.profile_rules.specs.MemoryRules.{is_pointer}
use Rattle.conformance.specs.Rules.{Options}
use Rattle.module_check.specs.Judged.{IsFine}
use Rattle.module_check.specs.ReadFrom.{IsReadFrom}
use Rattle.traces.specs.Invocations.{Invocation}
use Rattle.hoist_plan.specs.Plan.{is_value}
use Rattle.list_law.proofs.Lists.{none_left, none_right}
use Rattle.list_law.proofs.Options.{some_part}
use Rattle.list_law.proofs.Numbers.{less_of}
use Rattle.list_law.proofs.Tests.{second_by, not_both, or_left, and_right, clash}
use Rattle.plan_law.specs.InOrder.{IsAmong}
use Rattle.module_semantics.specs.Setting.{Setting, setting}
use Rattle.module_semantics.specs.Steps.{StepKind, chain, variable, step_kind}
use Rattle.type_law.specs.Shaped.{HasConstants}
use Rattle.agree_law.specs.Blocks.{IsOf}
use Rattle.call_law.specs.Frames.{makes_pointer}
use Rattle.call_law.specs.Known.{IsFunctionOf}
use Rattle.typed_law.specs.Conforms.{IsConforming}
use Rattle.typed_law.proofs.Lists.{none_among, found_in, earlier_some}
use Rattle.typed_law.proofs.Rules.{operand_there, refused}
use Rattle.typed_law.proofs.Values.{IsRow, global_row, shape_of_row, value_type_has, inside, parameter_right, value_sized, own_type, has_a_type, variable_type_is}
use Rattle.typed_law.proofs.Others.{typed_some}
use Rattle.accepted_law.proofs.Accepted.{accepted_conforming}
use Rattle.grammar_law.proofs.Ruled.Ruled.{contains_of, parameter_of, lends_whole}
use Rattle.grammar_law.proofs.Unit.Ways.{own_type_of}
use Rattle.grammar_law.proofs.Formed.Inner.{is_frame, accepted_free}
use Rattle.grammar_law.proofs.Formed.Pointers.{NoSame, row, function_shapeless, shapeless_is, no_tree, no_class, shapeless_none}

of_among : (is : List Inst) (i : Inst) → IsAmong i is → IsOf i is
of_among [] i there = there
of_among (j ∷ is) i (inl same) = inl same
of_among (j ∷ is) i (inr there) = inr (of_among is i there)

neither : (a b : Bool) → not (a || b) ≡ true → (a ≡ false) × (b ≡ false)
neither false false e = (refl, refl)
neither a b e = cc

-- constants, by their groups
abbrev is_constant_group : OpGroup → Bool
is_constant_group groups.Truth = true
is_constant_group groups.Number = true
is_constant_group groups.Composite = true
is_constant_group groups.AnyConstant = true
is_constant_group groups.Undef = true
is_constant_group _ = false

constant_group : (o : Op) → is_constant o ≡ true → is_constant_group (group_of o) ≡ true
unfolding group_of
constant_group code.Undef on = refl
constant_group o on = cc

-- what may be the global of a module with a type
abbrev pub AreGlobals : List Inst → Type 0
AreGlobals gs = (g : Inst) → IsAmong g gs → (g.ty ≡ 0 → ⊥) → (is_constant g.op ≡ true) ⊎ (is g.op code.Variable ≡ true)

module _ (s : Setting) (entry : Option (List ℕ)) (right : IsConforming s.of entry) (chosen : ℕ → Option ℕ) (have : HasConstants s chosen) (kinds : AreGlobals s.of.globals) where
  abbrev Gs : List Inst
  Gs = s.of.globals

  -- T2: a constant is of a value type
  constant_right : (h : Inst) → IsAmong h Gs → is_constant h.op ≡ true → is_no_value_type s.of.heads Gs h.ty ≡ false
  constant_right h there on = by_group (group_of h.op) (constant_group h.op on) (or_left (is_value_broken s.of (global_type Gs) h (group_of h.op)) (is_number_broken Gs (global_type Gs) h (group_of h.op)) outside)
    where
      all : flat_map (broken_by_global s.of) Gs ≡ []
      all = none_left (flat_map (broken_by_global s.of) Gs) (flat_map (broken_by_function s.of) s.of.functions) right.typed

      as_it_is : broken_as s.of h h.op ≡ []
      as_it_is = none_left (broken_as s.of h h.op) (broken_inside s.of h) (none_right (broken_if (breaks_t1 Gs h) T1 h.at) (broken_as s.of h h.op ++ broken_inside s.of h) (none_among (broken_by_global s.of) Gs h all there))

      outside : is_broken_outside s.of h (group_of h.op) ≡ false
      outside = refused (is_broken_outside s.of h (group_of h.op)) (rule_of (group_of h.op)) h.at as_it_is

      by_group : (q : OpGroup) → is_constant_group q ≡ true → is_value_broken s.of (global_type Gs) h q ≡ false → is_no_value_type s.of.heads Gs h.ty ≡ false
      by_group groups.Truth on off = or_left (is_no_value_type s.of.heads Gs h.ty) (fails is_bool Gs h.ty) off
      by_group groups.Number on off = or_left (is_no_value_type s.of.heads Gs h.ty) (fails is_int Gs h.ty) off
      by_group groups.Composite on off = or_left (is_no_value_type s.of.heads Gs h.ty) (option_map_or (λ (g : Inst). misfit Gs (global_type Gs) g h.args) (type_row Gs h.ty) false) off
      by_group groups.AnyConstant on off = off
      by_group groups.Undef on off = off
      by_group q on off = clash (sym on)

  -- a type of functions
  module _ (ty : ℕ) (w : IsRow s entry right ty) (on : is w.0.op code.TypeFunction ≡ true) where
    no_value_type : is_no_value_type s.of.heads Gs ty ≡ false → ⊥
    no_value_type off = let v = value_type_has s entry right ty w off in no_tree Gs w.0 v.0 (function_shapeless w.0.op on).0 (sym (ap (λ (o : Option Inst). option_map_or (tree_at Gs) o None) w.1) ∙ v.1)

    no_pointer_type : (g : Inst) → g ≡ w.0 → is g.op code.TypePointer ≡ true → ⊥
    no_pointer_type g same points = not_both (is g.op code.TypePointer) points (ap (λ (x : Inst). is x.op code.TypePointer) same ∙ (function_shapeless w.0.op on).2)

    no_global : (h : Inst) → IsAmong h Gs → h.ty ≡ ty → (h.ty ≡ 0 → ⊥) → ⊥
    no_global h there same some = elim (kinds h there some) [
      | inl constant ↦ no_value_type (subst (λ (n : ℕ). is_no_value_type s.of.heads Gs n ≡ false) same (constant_right h there constant))
      | inr var ↦ let g = global_row s entry right h there some in no_pointer_type g.0 (same_Some g.0 w.0 (sym g.1 ∙ (ap (global Gs) same ∙ w.1))) (variable_type_is h.op g.0 var g.2)
    ]

    module _ (f : Function) (is_one : IsFunctionOf f s.of.functions) (free : (i : Inst) → IsAmong i (insts_of f) → is_frame (group_of i.op) ≡ false) where
      in_it : Contains s.of.functions f
      in_it = contains_of s.of.functions f is_one

      -- P19: no parameter has it
      no_parameter : (x y : ℕ) → parameter_in f x ≡ Some y → y ≡ ty → ⊥
      no_parameter x y at same =
          let p = parameter_of f.params x (ap is_some at) in
          let type_is : p.0.1.0 ≡ ty = same_Some p.0.1.0 y (sym ((inside s entry right f in_it).found p.0 p.1) ∙ (ap (parameter_in f) p.2 ∙ at)) ∙ same in
          let told : is_other_parameter s.of.heads Gs ty ≡ false = subst (λ (n : ℕ). is_other_parameter s.of.heads Gs n ≡ false) type_is (parameter_right s entry right f in_it p.0 p.1) in
          no_value_type
          (sym (ap (λ (o : Option Inst). option_map_or (λ (t : Inst). if is t.op code.TypePointer then is_no_variable s.of.heads Gs t else is_no_value_type s.of.heads Gs ty) o false) w.1
          ∙ ap (λ (b : Bool). if b then is_no_variable s.of.heads Gs w.0 else is_no_value_type s.of.heads Gs ty) (function_shapeless w.0.op on).2) ∙ told)

      -- nor has a variable or a chain
      pointer_made : (j : Inst) → IsAmong j (insts_of f) → (k : StepKind) → step_kind j.op ≡ k → makes_pointer k ≡ true → is_pointer Gs f j.result ≡ true
      pointer_made j there chain at made = ((lends_whole s entry right chosen have).chains f is_one j (of_among (insts_of f) j there) at).1
      pointer_made j there variable at made = (lends_whole s entry right chosen have).variables f is_one j (of_among (insts_of f) j there) at
      pointer_made j there k at made = clash (sym made)

      no_made : (j : Inst) → IsAmong j (insts_of f) → j.ty ≡ ty → (j.ty ≡ 0 → ⊥) → makes_pointer (step_kind j.op) ≡ true → ⊥
      no_made j there same some made =
          not_both (is_some (storage_class Gs ty))
          (sym (ap (λ (o : Option ℕ). is_some (option_and_then (storage_class Gs) o)) (own_type s entry right f in_it j there some ∙ ap (λ (n : ℕ). Some n) same)) ∙ pointer_made j there (step_kind j.op) refl made)
          (no_class Gs ty w.0 w.1 (function_shapeless w.0.op on).2)

      -- an operand of it is the result of an instruction that stands before
      module _ (i : Inst) (earlier_none : (j : Inst) → IsAmong j (insts_of f) → j.at < i.at → j.ty ≡ ty → (j.ty ≡ 0 → ⊥) → ⊥) (x : ℕ) (stands : is_there_in s.of f i.at Value x ≡ true) where
        by_inst : (o : Option Inst) → inst_in f x ≡ o → parameter_in f x ≡ None → global_type Gs x ≡ None → option_and_then typed o ≡ Some ty → ⊥
        by_inst None at none outside e = absurd (none-some ty e)
        by_inst (Some j) at none outside e =
            let own = own_type_of j ty e in
            earlier_none j (found_in (insts_of f) x j at) (less_of j.at i.at (and_right (is_some (typed j)) (nat_lt j.at i.at) before)) own.0 own.1
          where
            no_outer : (o : Option Inst) → earlier Gs i.at x ≡ o → option_map_or (suits Value) o false ≡ false
            no_outer None there = refl
            no_outer (Some h) there = ap is_some (sym (ap (option_and_then typed) (earlier_some Gs i.at x h there).0) ∙ outside)

            before : (is_some (typed j) && nat_lt j.at i.at) ≡ true
            before =
                sym (ap (λ (o : Option ℕ). is_some o || option_map_or (λ (y : Inst). is_some (typed y) && nat_lt y.at i.at) (inst_in f x) false) none ∙ ap (λ (o : Option Inst). option_map_or (λ (y : Inst). is_some (typed y) && nat_lt y.at i.at) o false) at)
                ∙ second_by (is_global Gs i.at Value x) (is_local_before f i.at x) stands (no_outer (earlier Gs i.at x) refl)

        by_parameter : (o : Option ℕ) → parameter_in f x ≡ o → global_type Gs x ≡ None → option_or o (option_and_then typed (inst_in f x)) ≡ Some ty → ⊥
        by_parameter None at outside e = by_inst (inst_in f x) refl at outside e
        by_parameter (Some y) at outside e = no_parameter x y at (same_Some y ty e)

        by_outer : (o : Option ℕ) → global_type Gs x ≡ o → option_or o (local_type f x) ≡ Some ty → ⊥
        by_outer None at e = by_parameter (parameter_in f x) refl at e
        by_outer (Some y) at e =
            let h = some_part typed (global Gs x) y at in
            let own = own_type_of h.0 y h.2 in
            no_global h.0 (found_in Gs x h.0 h.1) (own.0 ∙ same_Some y ty e) own.1

        none_before : type_in Gs f x ≡ Some ty → ⊥
        none_before e = by_outer (global_type Gs x) refl e

      -- so no instruction has it, one behind the other
      none_typed : (n : ℕ) (i : Inst) → i.at < n → IsAmong i (insts_of f) → i.ty ≡ ty → (i.ty ≡ 0 → ⊥) → ⊥
      none_typed zero i low there same some = absurd (omega (arith, low))
      none_typed (suc n) i low there same some = by_made (makes_pointer (step_kind i.op)) refl (λ j j_in before own typed_some. none_typed n j (let less : j.at < n = omega (arith, low, before) in less) j_in own typed_some)
        where
          has : has_type i.op ≡ true
          has = has_a_type i ((inside s entry right f in_it).formed i there) some

          itself : (row s entry right chosen have f in_it i there has).0 ≡ w.0
          itself = let r = row s entry right chosen have f in_it i there has in same_Some r.0 w.0 (sym r.1 ∙ (ap (global Gs) same ∙ w.1))

          alone : ((j : Inst) → IsAmong j (insts_of f) → j.at < i.at → j.ty ≡ ty → (j.ty ≡ 0 → ⊥) → ⊥) → NoSame s entry right chosen have f in_it i there has
          alone earlier_none k few names needed off e =
              none_before i earlier_none (slice_index i.args k)
              (subst (λ (q : Need). is_there_in s.of f i.at q (slice_index i.args k) ≡ true) needed (operand_there (is_there_in s.of f i.at) i ((inside s entry right f in_it).order.there i there) k few names)) (e ∙ ap (λ (m : ℕ). Some m) same)

          by_made : (b : Bool) → makes_pointer (step_kind i.op) ≡ b → ((j : Inst) → IsAmong j (insts_of f) → j.at < i.at → j.ty ≡ ty → (j.ty ≡ 0 → ⊥) → ⊥) → ⊥
          by_made true made earlier_none = no_made i there same some made
          by_made false off earlier_none =
              let p = function_shapeless w.0.op on in
              shapeless_none s entry right chosen have f in_it i there has (ap (λ (x : Inst). is_shapeless x.op) itself ∙ p.0) (ap (λ (x : Inst). is x.op code.TypeVoid) itself ∙ p.1) (alone earlier_none) (free i there) off

  -- neither void nor a pointer
  value_parts : (ty : ℕ) (g : Inst) → global Gs ty ≡ Some g → is_value Gs ty ≡ true → (is g.op code.TypeVoid ≡ false) × (is g.op code.TypePointer ≡ false)
  value_parts ty g at on =
      neither (is g.op code.TypeVoid) (is g.op code.TypePointer)
      (sym (ap (λ (o : Option Inst). not (option_map_or (λ (x : Inst). is x.op code.TypeVoid) o false || option_map_or (λ (x : Inst). is x.op code.TypePointer) o false)) at) ∙ on)

  pub result_shaped : (f : Function) → IsFunctionOf f s.of.functions → ((i : Inst) → IsAmong i (insts_of f) → is_frame (group_of i.op) ≡ false) → (i : Inst) → IsAmong i (insts_of f) → has_type i.op ≡ true → is_value Gs i.ty ≡ true → (t : Tree) × (type_tree Gs i.ty ≡ Some t) × IsSized t
  result_shaped f is_one free i there has on = by_shape (is_shapeless r.0.op) refl
    where
      contained : Contains s.of.functions f
      contained = contains_of s.of.functions f is_one

      some : i.ty ≡ 0 → ⊥
      some = typed_some s entry right f contained i there has

      r : IsRow s entry right i.ty
      r = row s entry right chosen have f contained i there has

      by_shape : (b : Bool) → is_shapeless r.0.op ≡ b → (t : Tree) × (type_tree Gs i.ty ≡ Some t) × IsSized t
      by_shape false shaped = let t = shape_of_row s entry right i.ty r shaped in (t.0, t.1, value_sized s entry right f contained i.result i.ty (own_type s entry right f contained i there some) t.0 t.1)
      by_shape true less =
          let parts = value_parts i.ty r.0 r.1 on in
          absurd (none_typed i.ty r (shapeless_is r.0.op less parts.0 parts.1) f is_one free (suc i.at) i (let next : i.at < suc i.at = omega arith in next) there refl some)

-- so in a module that was read from bytes and that the judges do not refuse
abbrev any_invocation : Invocation
any_invocation = record {
  num_workgroups = (0, 0, 0);
  workgroup_id = (0, 0, 0);
  local_invocation_id = (0, 0, 0);
  global_invocation_id = (0, 0, 0);
  local_invocation_index = 0;
  buffer_bytes = λ set binding. 0;
  specialization = λ id. None;
}

module _ (bytes : List ℕ) (m : ModuleState) (o : Options) (read : IsReadFrom bytes m) (fine : IsFine m o) (kinds : AreGlobals m.globals) where
  pub accepted_shaped : (f : Function) → IsFunctionOf f m.functions → (i : Inst) → IsAmong i (insts_of f) → has_type i.op ≡ true → is_value m.globals i.ty ≡ true → (t : Tree) × (type_tree m.globals i.ty ≡ Some t) × IsSized t
  accepted_shaped f is_one i there has on =
      result_shaped (setting m 0 [] any_invocation) o.entry (accepted_conforming bytes m o read fine) (chosen_word m.heads [] (λ id. None)) (λ id. refl) kinds f is_one (λ j j_in. accepted_free bytes m read f is_one j j_in) i there has on
