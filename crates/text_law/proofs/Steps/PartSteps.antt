-- The steps by which the text names a part of a composite's variable, along literals, lead to that part.
use Rattle.std.proofs.Common.{◌≡◌, ◌++◌, ◌^◌, ◌+◌, append_assoc, append-nil, ℕ, Bool, true, false, List, [], ◌∷◌, Option, Some, None, refl, sym, ap, ◌∙◌, subst, arith, if◌then◌else◌}
use Rattle.std.specs.Prelude.{nat_lt, option_and_then}
use Rattle.std.proofs.lemmas.Option.{same_Some}
use Rattle.spv_ops.specs.Opcode.{number}
use Rattle.spv_ops.specs.declared.Op.TheVariants as code
use Rattle.spv_module.specs.declared.inst.Inst.{Inst}
use Rattle.spv_module.specs.declared.inst.Function.{Function}
use Rattle.spv_module.specs.declared.tree.Length.TheVariants.{Fixed, Spec}
use Rattle.spv_types.specs.Tree as plain
use Rattle.spv_types.specs.Tree.{Tree, ValueTree, word}
use Rattle.spv_types.specs.Types.{type_tree}
use Rattle.op_semantics.specs.Fits.{elem_tree}
use Rattle.op_semantics.specs.Composite.{are_indexes}
use Rattle.profile_rules.specs.declared.given.Given.{Given}
use Rattle.traces.specs.Outcomes.{Result}
use Rattle.module_semantics.specs.Setting.{Setting}
use Rattle.hoist_plan.specs.declared.form.Form.{Form}
use Rattle.name_alloc.specs.declared.claims.Key.{Key}
use Rattle.glsl_ast.specs.Tree.{Text, Expr, LStep}
use Rattle.glsl_semantics.specs.Shapes as shapes
use Rattle.glsl_semantics.specs.Shapes.{Shape, Typed, typed}
use Rattle.glsl_semantics.specs.States.{State, Thing, variable, part_of_option, part_at_index, named_part}
use Rattle.glsl_semantics.specs.Expressions.{Program, Argument}
use Rattle.vec_lowering.specs.Component.{axis_name}
use Rattle.expr_forward.specs.Scope as scope
use Rattle.expr_forward.specs.Paths.{part_step_by, part_step, part_type, part_steps}
use Rattle.unit_rules.specs.Translation.{text_of}
use Rattle.list_law.proofs.Numbers.{less_of}
use Rattle.fits_law.specs.Takes.{part_shape, shape_at}
use Rattle.fits_law.specs.State.{element_shape}
use Rattle.type_law.proofs.Places.{part_leads}
use Rattle.lowering_law.proofs.Components.{axis_part}
use Rattle.global_law.specs.Parts.{StructNames, HasMembersApart, shape_in}
use Rattle.global_law.specs.Walks.{struct_names, Walks}
use Rattle.global_law.proofs.Path.Parts.{scalar_in, member_named}
use Rattle.global_law.proofs.Path.Types.{op_of, vector_size_is, struct_number}
use Rattle.global_law.proofs.Path.Walks.{part_apart}
use Rattle.typed_law.proofs.Lists.{and_left, and_right, some_part}
use Rattle.lowers_law.proofs.Types.{W, op_at, part_at}

if_some : {A : Type 0} (b : Bool) (x y : A) → (if b then Some x else None) ≡ Some y → (b ≡ true) × (x ≡ y)
if_some true x y e = (refl, same_Some x y e)
if_some false x y e = cc

-- a part of a value's shape is one of what lies in memory
part_element : (a u : Tree) (k : ℕ) → part_shape a k ≡ Some u → element_shape a k ≡ Some u
part_element (plain.vector e n) u k at = ap (λ (t : Tree). Some t) (if_some (nat_lt k n) (elem_tree e) u at).1
part_element (plain.array t (Fixed n)) u k at = ap (λ (t : Tree). Some t) (if_some (nat_lt k n) t u at).1
part_element (plain.array t (Spec l)) u k at = cc
part_element (plain.struct n ts) u k at = at
part_element (plain.runtime t) u k at = cc
part_element plain.boolean u k at = cc
part_element plain.int u k at = cc
part_element plain.uint u k at = cc

module _ (p : Program) (calls : Text → List Argument → State → Result (Option Typed × State)) (z : State) (s : Setting) (entry : ℕ) (overrides : List (ℕ × Given)) (found : Key → Option Text) (f : Function) (globals : ℕ → Option Expr) (form : ℕ → Form) (carried : ℕ → Bool) (x : Text) where
  abbrev w : scope.Setting
  w = (W s entry overrides found f globals form carried).setting

  abbrev Y : StructNames
  Y = struct_names (text_of found)

  abbrev gs : List Inst
  gs = s.of.globals

  abbrev S : Tree → Shape
  S t = shape_in s Y t

  -- the part to which a way leads
  abbrev Part : List ℕ → Tree → Option ValueTree → Thing
  Part way t o = variable x way (S t) o

  -- one step, by the type of what stands before it
  module _ (ty k : ℕ) (a u : Tree) (shaped : type_tree gs ty ≡ Some a) (low : nat_lt k (2 ^ 31) ≡ true) (apart : HasMembersApart Y a) (way : List ℕ) (o : Option ValueTree) (ls : List LStep) (y : Thing) where
    abbrev Next : Thing
    Next = Part (way ++ k ∷ []) u (part_of_option o k)

    by_tree : (a : Tree) → type_tree gs ty ≡ Some a → HasMembersApart Y a → part_shape a k ≡ Some u → Walks p calls z ls Next y → Walks p calls z (part_step_by w ty k (op_of a) ∷ ls) (Part way a o) y
    unfolding number
    by_tree (plain.vector e n) shaped apart at more =
        let v = vector_size_is s ty e n shaped in
        let is = if_some (nat_lt k n) (elem_tree e) u at in
        let named : named_part (Some (shapes.vector e n)) (axis_name k) ≡ Some (k, S u) = axis_part e n k (less_of k n is.0) v.4 ∙ ap (λ (t : Shape). Some (k, t)) (sym (scalar_in s Y e) ∙ ap S is.1) in
        (Next, ap (option_and_then (λ (q : ℕ × Shape). part_at_index (Part way (plain.vector e n) o) q.0 q.1)) named, more)
    by_tree (plain.array t (Fixed n)) shaped apart at more =
        let is = if_some (nat_lt k n) t u at in
        let there : (if nat_lt k n then Some (S t) else None) ≡ Some (S u) = ap (λ (b : Bool). if b then Some (S t) else None) is.0 ∙ ap (λ (t : Tree). Some (S t)) is.1 in (
          typed shapes.int (word k),
          Next,
          refl,
          ap (λ (b : Bool). if b then option_and_then (part_at_index (Part way (plain.array t (Fixed n)) o) k) (if nat_lt k n then Some (S t) else None) else None) low ∙ ap (option_and_then (part_at_index (Part way (plain.array t (Fixed n)) o) k)) there,
          more,
        )
    by_tree (plain.struct n ts) shaped apart at more =
        let own = member_named s Y n ts apart.0 ts 0 k k u (let none : k ≡ 0 + k = omega arith in none) at at in
        let named = ap (λ (j : ℕ). named_part (Some (S (plain.struct n ts))) (Y.member_name j k)) (sym (struct_number s ty n ts shaped)) ∙ own in
        (Next, ap (option_and_then (λ (q : ℕ × Shape). part_at_index (Part way (plain.struct n ts) o) q.0 q.1)) named, more)
    by_tree (plain.array t (Spec l)) shaped apart at more = cc
    by_tree (plain.runtime t) shaped apart at more = cc
    by_tree plain.boolean shaped apart at more = cc
    by_tree plain.int shaped apart at more = cc
    by_tree plain.uint shaped apart at more = cc

    step_leads : part_shape a k ≡ Some u → Walks p calls z ls Next y → Walks p calls z (part_step w ty k ∷ ls) (Part way a o) y
    step_leads at more =
        subst (λ (q : LStep). Walks p calls z (q ∷ ls) (Part way a o) y) (ap (part_step_by w ty k) (sym (op_at s entry overrides found f globals form carried ty a shaped))) (by_tree a shaped apart at more)

  -- The law.
  pub parts_lead : (ks : List ℕ) (ty : ℕ) (a t : Tree) (way : List ℕ) (o : Option ValueTree) → type_tree gs ty ≡ Some a → shape_at a ks ≡ Some t → are_indexes ks ≡ true → HasMembersApart Y a
      → (old : Option ValueTree) × Walks p calls z (part_steps w ty ks) (variable x way (S a) o) (variable x (way ++ ks) (S t) old)
  parts_lead [] ty a t way o shaped at low apart = (o, ap (λ (l : List ℕ). Part l a o) (sym (append-nil way)) ∙ ap (λ (b : Tree). Part (way ++ []) b o) (same_Some a t at))
  parts_lead (k ∷ ks) ty a t way o shaped at low apart =
      let w1 = some_part (λ (v : Tree). shape_at v ks) (part_shape a k) t at in
      let here = and_left (nat_lt k (2 ^ 31)) (are_indexes ks) low in
      let element = part_element a w1.0 k w1.1 in
      let type_is : type_tree gs (part_type w ty k) ≡ Some w1.0 = ap (type_tree gs) (part_at s entry overrides found f globals form carried ty k) ∙ part_leads s ty k a w1.0 shaped element in
      let more = parts_lead ks (part_type w ty k) w1.0 t (way ++ k ∷ []) (part_of_option o k) type_is w1.2 (and_right (nat_lt k (2 ^ 31)) (are_indexes ks) low) (part_apart Y a w1.0 k apart element) in (
        more.0,
        step_leads ty k a w1.0 shaped here apart way o (part_steps w (part_type w ty k) ks) (variable x (way ++ k ∷ ks) (S t) more.0) w1.1
            (subst (λ (l : List ℕ). Walks p calls z (part_steps w (part_type w ty k) ks) (Part (way ++ k ∷ []) w1.0 (part_of_option o k)) (variable x l (S t) more.0)) (append_assoc way (k ∷ []) ks) more.1),
      )
