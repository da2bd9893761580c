-- The Function variables and the parameters of an accepted module's functions: what they point to, and that the structs in it are written.
use Rattle.std.proofs.Common.{◌≡◌, ◌==◌, ◌||◌, ◌++◌, ℕ, zero, suc, Bool, true, false, List, [], ◌∷◌, map, filter, not, Option, Some, None, inl, inr, refl, sym, ap, ◌∙◌, subst, if◌then◌else◌}
use Rattle.std.specs.Prelude.{Contains, flat_map, option_map, option_and_then, slice_get, slice_index, slice_index_or}
use Rattle.std.specs.Option.{option_map_or, option_or}
use Rattle.std.specs.List.{enumerate_from}
use Rattle.std.proofs.lemmas.Option.{same_Some}
use Rattle.spv_ops.specs.Opcode.{is}
use Rattle.spv_ops.specs.Shape.{shape}
use Rattle.spv_ops.specs.Enumerants.{class_number}
use Rattle.spv_ops.specs.declared.Op.TheVariants as code
use Rattle.spv_ops.specs.declared.StorageClass.TheVariants as storage
use Rattle.spv_module.specs.State.{ModuleState}
use Rattle.spv_module.specs.declared.inst.Id.{Id as IdOf}
use Rattle.spv_module.specs.declared.inst.Inst.{Inst}
use Rattle.spv_module.specs.declared.inst.Block.{Block}
use Rattle.spv_module.specs.declared.inst.Function.{Function}
use Rattle.spv_types.specs.Tree.{Tree}
use Rattle.spv_types.specs.Types.{type_tree}
use Rattle.spv_types.specs.Leaves.{IsSized}
use Rattle.spv_decor.specs.Decorations.{local_insts}
use Rattle.spv_decor.specs.Rows.{word}
use Rattle.spv_index.specs.Locals.{insts_of, inst_in, typed, local_type, type_in}
use Rattle.spv_index.specs.BlockStructs.{is_block_struct, is_some_block}
use Rattle.spv_index.specs.Pointers.{as_pointer, pointee}
use Rattle.spv_index.specs.ValueTypes.{is_no_value_type}
use Rattle.structure_rules.specs.Graph.{graph, nth}
use Rattle.conformance.specs.Rules.{Options}
use Rattle.module_check.specs.Judged.{IsFine}
use Rattle.module_check.specs.ReadFrom.{IsReadFrom}
use Rattle.profile_rules.specs.Places.{is_variable, body_insts}
use Rattle.profile_rules.specs.TypeForm.{is_no_variable, is_workgroup, signature}
use Rattle.traces.specs.Invocations.{Invocation, IsInvocation}
use Rattle.module_semantics.specs.Setting.{Setting}
use Rattle.name_alloc.specs.declared.claims.Key.{Key}
use Rattle.glsl_ast.specs.Tree.{Text, TranslationUnit}
use Rattle.text_rules.specs.Constants.{Source}
use Rattle.text_rules.specs.Printed.{Reached, has_struct, pointee_or_self, type_has_struct, is_written_variable, is_declared_constant, written_types}
use Rattle.function_plan.specs.Phis.{is_gone}
use Rattle.function_plan.specs.Planned.{is_live}
use Rattle.function_text.specs.Functions.{FunctionPlan, written}
use Rattle.function_text.specs.Live.{is_wanted, types_of, has_type_written, in_block}
use Rattle.expr_forward.specs.Scope.{Scope}
use Rattle.unit_rules.specs.Translation.{IsPlanOf}
use Rattle.unit_rules.specs.Unit.{called, claims_by, liveness_of, live_of, source_of, IsUnitOf}
use Rattle.list_law.proofs.Tests.{no_flip}
use Rattle.plan_law.specs.InOrder.{IsAmong}
use Rattle.plan_law.proofs.Order.{found as found_at, among_right as body_right}
use Rattle.call_law.specs.Known.{IsFunctionOf}
use Rattle.typed_law.specs.Conforms.{IsParameter, IsConforming}
use Rattle.typed_law.proofs.Lists.{or_right}
use Rattle.typed_law.proofs.Rules.{function_class}
use Rattle.typed_law.proofs.Types.{pointee_shaped}
use Rattle.typed_law.proofs.Sized.{value_type_is}
use Rattle.typed_law.proofs.Used.{pointee_sized}
use Rattle.typed_law.proofs.Values.{IsRow, parameter_row, among_functions, variable_type_is, inside, local_row, own_type, typed_result, parameter_right, value_type_has}
use Rattle.typed_law.proofs.Others.{typed_some}
use Rattle.places_law.proofs.Blocks.{type_found}
use Rattle.accepted_law.proofs.Accepted.{accepted_conforming}
use Rattle.grammar_law.proofs.Ruled.Ruled.{contains_of, variable_has}
use Rattle.global_law.specs.Within.{IsWithin, IsNoBlock}
use Rattle.global_law.proofs.Constant.Within.{pointee_misused, misused_within, value_within}
use Rattle.global_law.proofs.Constant.Written.{IsHeld}
use Rattle.claim_law.specs.Claimed.{IsIn, IsOf}
use Rattle.claim_law.proofs.Claim.Listed.{in_right, in_flat, any_in}
use Rattle.grammar_law.proofs.Unit.Lists.{as_among, numbered_first}
use Rattle.grammar_law.proofs.Unit.Ways.{planned_as, reached_nth}
use Rattle.grammar_law.proofs.Unit.TypesWritten.{parameter_type_written}
use Rattle.grammar_law.proofs.Meets.Roots.{variable_impure}
use Rattle.grammar_law.specs.Declares.{HaveNoVariable, NoneDeclare, DeclaresFirst}
use Rattle.text_law.proofs.Naming.Keys.{placed, S, found as names_found, R}
use Rattle.grammar_law.proofs.Formed.Reach.{first_marked}
use Rattle.text_law.specs.Left.{IsLeftOfGlobals}
use Rattle.text_law.proofs.Naming.Functions.{function_of_plan}
use Rattle.text_law.proofs.Whole.Accepted.{declares_so}

-- variables stand in the first block alone
none_in : (is : List Inst) (i : Inst) → HaveNoVariable is → IsIn i is → is_variable i ≡ false
none_in [] i none there = absurd there
none_in (j ∷ is) i none (inl same) = subst (λ (x : Inst). is_variable x ≡ false) same none.0
none_in (j ∷ is) i none (inr there) = none_in is i none.1 there

none_at : (bs : List Block) (k : ℕ) (b : Block) (i : Inst) → NoneDeclare bs → slice_get bs k ≡ Some b → IsIn i b.insts → is_variable i ≡ false
none_at [] k b i none at there = cc
none_at (c ∷ bs) zero b i none at there = let same : c ≡ b = cc in none_in b.insts i (subst (λ (x : Block). HaveNoVariable x.insts) same none.0) there
none_at (c ∷ bs) (suc k) b i none at there = none_at bs k b i none.1 at there

first_place : (bs : List Block) (d : DeclaresFirst bs) (k : ℕ) (b : Block) (i : Inst) → slice_get bs k ≡ Some b → IsIn i b.insts → is_variable i ≡ true → k ≡ 0
first_place bs d zero b i at there on = refl
first_place bs d (suc k) b i at there on = no_flip (is_variable i) on (none_at d.others k b i d.none_other (ap (λ l. slice_get l (suc k)) (sym d.whole) ∙ at) there)

module _ (bytes : List ℕ) (m : ModuleState) (o : Options) (read : IsReadFrom bytes m) (fine : IsFine m o) (unit : TranslationUnit) (u : IsUnitOf m o unit) (inv : Invocation) (told : IsInvocation inv) (left : IsLeftOfGlobals bytes m o) (p : FunctionPlan) (planned : IsIn p u.plans) where
  abbrev s : Setting
  s = S m o unit u inv

  abbrev found : Key → Option Text
  found = names_found m o unit u inv

  abbrev r : Reached
  r = R m o unit u inv

  abbrev src : Source
  src = source_of m o u.entry

  abbrev Gs : List Inst
  Gs = m.globals

  abbrev f : Function
  f = written p

  abbrev Types : List ℕ
  Types = written_types src r

  abbrev right : IsConforming m o.entry
  right = accepted_conforming bytes m o read fine

  is_one : IsFunctionOf f m.functions
  is_one = function_of_plan bytes m o read fine unit u p planned

  pub in_module : Contains m.functions f
  in_module = contains_of m.functions f is_one

  -- the structs in a type that is written, or that such a type points to, are held by it
  pub held_in : (ty q : ℕ) (t : Tree) → IsIn ty Types → pointee_or_self Gs ty ≡ q → type_tree Gs q ≡ Some t → (j : ℕ) → has_struct j t ≡ true → IsHeld s o.entry right o.overrides r j
  held_in ty q t listed points shape j has =
      any_in (type_has_struct Gs j) Types ty listed (ap (λ k. option_map_or (has_struct j) (type_tree Gs k) false) points ∙ (ap (λ a. option_map_or (has_struct j) a false) shape ∙ has))

  graph_is : p.graph ≡ graph f
  graph_is = let w = planned_as (IsPlanOf src found) (called u.order m.functions) u.plans p u.planned planned in w.2.graph_is ∙ ap graph (sym (ap (λ (x : Scope). x.setting.function) w.2.scope_is))

  module _ (i : Inst) (there : IsIn i (insts_of f)) (on : is_variable i ≡ true) where
    -- where a variable of the function stands
    pub of_it : IsOf (claims_by src p) i
    of_it = placed m o unit u p i there

    among : IsAmong i (insts_of f)
    among = as_among (insts_of f) i there

    first : of_it.number ≡ 0
    first = first_place f.blocks (declares_so bytes m o read fine unit u inv f is_one) of_it.number of_it.block i of_it.there of_it.among on

    -- in the first block, which is reached
    pub variable_reached : slice_index_or (liveness_of src p).reached of_it.number false ≡ true
    variable_reached = reached_nth p.graph of_it.number ∙ ap (λ n. (nth p.graph n).reached) first ∙ (ap (λ g. (nth g 0).reached) graph_is ∙ first_marked f of_it.block (ap (slice_get f.blocks) (sym first) ∙ of_it.there))

    pub variable_live : is_live p.scope.form i ≡ true
    variable_live = ap (λ (b : Bool). elim b as (λ b. Bool) [ true ↦ elim (is_gone (p.scope.form i.result)) as (λ b. Bool) [ true ↦ false | false ↦ true ] | false ↦ true ]) (variable_impure i.op on)

    -- so its type is written
    listed : IsIn i.ty Types
    listed =
        let type_on : has_type_written (liveness_of src p) (slice_index_or (liveness_of src p).reached of_it.number false) i ≡ true =
        ap (λ (b : Bool). if b then is_live p.scope.form i else is_wanted m.globals p.scope.form p.scope.carried i) variable_reached ∙ variable_live in
        in_right i.ty (map (λ (g : Inst). g.ty) (filter (λ g. is_written_variable r g || is_declared_constant src r g) Gs)) (flat_map signature r.functions ++ r.types)
        (in_right i.ty (flat_map signature r.functions) r.types
        (in_flat (live_of types_of src) u.plans p i.ty planned
        (in_flat (in_block types_of (liveness_of src p)) (enumerate_from 0 f.blocks) (of_it.number, of_it.block) i.ty (numbered_first f.blocks of_it.number of_it.block of_it.there)
        (in_flat (types_of (liveness_of src p) (slice_index_or (liveness_of src p).reached of_it.number false)) of_it.block.insts i i.ty of_it.among
        (subst (λ (b : Bool). IsIn i.ty (if b then i.ty ∷ [] else [])) (sym type_on) (inl refl))))))

    some : i.ty ≡ 0 → ⊥
    some = typed_some s o.entry right f in_module i among (variable_has i.op on)

    pub local : IsAmong i (local_insts m)
    local = among_functions m.functions f i in_module among

    pub of_class : word i 0 ≡ class_number storage.Function
    of_class = function_class m o.entry right i local on

    -- What a Function variable points to.
    pub record IsLocalVariable : Type 0 where
      pub type : ℕ
      pub shape : Tree
      pub type_is : type_in Gs f i.result ≡ Some i.ty
      pub itself : inst_in f i.result ≡ Some i
      pub has_result : i.result ≡ 0 → ⊥
      pub points_to : pointee Gs i.ty ≡ Some type
      pub typed_as : type_tree Gs type ≡ Some shape
      pub sized : IsSized shape
      pub word_at : ℕ
      pub within : IsWithin (IsNoBlock m) m word_at shape
      pub held : (j : ℕ) → has_struct j shape ≡ true → IsHeld s o.entry right o.overrides r j

    pub local_variable : IsLocalVariable
    local_variable =
        let g = local_row s o.entry right f in_module i among some in
        let q = pointee_shaped m o.entry right i.ty g.0 g.1 (variable_type_is i.op g.0 on g.2) in
        let body : IsAmong i (body_insts m) = body_right i Gs (local_insts m) local in
        let no_block : is_some_block m.heads Gs i ≡ false = ap (λ n. option_map_or (is_block_struct m.heads n) (pointee Gs i.ty) false) of_class ∙ ap (λ a. option_map_or (is_block_struct m.heads (class_number storage.Function)) a false) q.2 in
        let no_workgroup : is_workgroup i ≡ false = ap (λ n. n == class_number storage.Workgroup) of_class in
        let has = ((inside s o.entry right f in_module).formed i among).result (typed_result i.op (variable_has i.op on)) in
        let w = misused_within m o.entry right q.0 q.1 (pointee_misused m o.entry right i q.0 body on no_block q.2) q.3 in
        record {
          type = q.0;
          shape = q.1;
          type_is = own_type s o.entry right f in_module i among some;
          itself = found_at i (insts_of f) (inside s o.entry right f in_module).order.apart among has;
          has_result = has;
          points_to = q.2;
          typed_as = q.3;
          sized = pointee_sized m o.entry right i q.0 body on no_workgroup no_block q.2 q.1 q.3;
          word_at = w.0;
          within = w.1;
          held = held_in i.ty q.0 q.1 listed (ap (λ a. option_map_or (λ k. k) a i.ty) q.2) q.3;
        }

  -- And what a pointer parameter points to, or a value parameter is.
  module _ (q : IdOf × IdOf) (there : IsParameter q f.params) where
    in_params : (ps : List (IdOf × IdOf)) → IsParameter q ps → IsIn q ps
    in_params [] one = absurd one
    in_params (x ∷ ps) (inl same) = inl same
    in_params (x ∷ ps) (inr one) = inr (in_params ps one)

    param_listed : IsIn q.1.0 Types
    param_listed = parameter_type_written m o unit u p planned q (in_params f.params there)

    pub param_type : type_in Gs f q.0.0 ≡ Some q.1.0
    param_type =
        let own = inside s o.entry right f in_module in
        ap (λ (a : Option Inst). option_or (option_and_then typed a) (local_type f q.0.0)) (own.outside q there) ∙ ap (λ (a : Option ℕ). option_or a (option_and_then typed (inst_in f q.0.0))) (own.found q there)

    pub record IsTypedParameter : Type 0 where
      pub type : ℕ
      pub shape : Tree
      pub self : pointee_or_self Gs q.1.0 ≡ type
      pub typed_as : type_tree Gs type ≡ Some shape
      pub sized : IsSized shape
      pub word_at : ℕ
      pub within : IsWithin (IsNoBlock m) m word_at shape
      pub held : (j : ℕ) → has_struct j shape ≡ true → IsHeld s o.entry right o.overrides r j

    of_value : (ty : ℕ) → pointee_or_self Gs q.1.0 ≡ ty → IsRow s o.entry right ty → is_no_value_type m.heads Gs ty ≡ false → IsTypedParameter
    of_value ty self row off =
        let t = value_type_has s o.entry right ty row off in
        let w = value_within m o.entry right ty t.0 off t.1 in
        record { type = ty; shape = t.0; self = self; typed_as = t.1; sized = t.2; word_at = w.0; within = w.1; held = held_in q.1.0 ty t.0 param_listed self t.1 }

    pub typed_parameter : IsTypedParameter
    typed_parameter = by_pointer (is g.op code.TypePointer) refl
      where
        row : IsRow s o.entry right q.1.0
        row = parameter_row s o.entry right f in_module q there

        g : Inst
        g = row.0

        off : (if is g.op code.TypePointer then is_no_variable m.heads Gs g else is_no_value_type m.heads Gs q.1.0) ≡ false
        off = ap (λ a. option_map_or (λ (x : Inst). if is x.op code.TypePointer then is_no_variable m.heads Gs x else is_no_value_type m.heads Gs q.1.0) a false) (sym row.1) ∙ parameter_right s o.entry right f in_module q there

        points : (b : Bool) → is g.op code.TypePointer ≡ b → pointee Gs q.1.0 ≡ option_map (λ (x : Inst). slice_index x.args 1) (if b then Some g else None)
        points b at = ap (λ a. option_map (λ (x : Inst). slice_index x.args 1) (option_and_then as_pointer a)) row.1 ∙ ap (λ (c : Bool). option_map (λ (x : Inst). slice_index x.args 1) (if c then Some g else None)) at

        by_pointer : (b : Bool) → is g.op code.TypePointer ≡ b → IsTypedParameter
        by_pointer true at =
            let value = or_right (not (word g 0 == class_number storage.Function)) (is_no_value_type m.heads Gs (word g 1)) (ap (λ (c : Bool). if c then is_no_variable m.heads Gs g else is_no_value_type m.heads Gs q.1.0) (sym at) ∙ off) in
            let p_shape = pointee_shaped m o.entry right q.1.0 g row.1 at in
            let to : p_shape.0 ≡ word g 1 = same_Some p_shape.0 (word g 1) (sym p_shape.2 ∙ points true at) in
            let w = value_within m o.entry right p_shape.0 p_shape.1 (subst (λ k. is_no_value_type m.heads Gs k ≡ false) (sym to) value) p_shape.3 in
            let h = type_found Gs p_shape.0 p_shape.1 p_shape.3 in
            record {
              type = p_shape.0;
              shape = p_shape.1;
              self = ap (λ a. option_map_or (λ k. k) a q.1.0) p_shape.2;
              typed_as = p_shape.3;
              sized = (value_type_is m o.entry right p_shape.0 h.0 h.1 (subst (λ k. is_no_value_type m.heads Gs k ≡ false) (sym to) value)).1 p_shape.1 h.2;
              word_at = w.0;
              within = w.1;
              held = held_in q.1.0 p_shape.0 p_shape.1 param_listed (ap (λ a. option_map_or (λ k. k) a q.1.0) p_shape.2) p_shape.3;
            }
        by_pointer false at =
            of_value q.1.0 (ap (λ a. option_map_or (λ k. k) a q.1.0) (points false at)) row (ap (λ (c : Bool). if c then is_no_variable m.heads Gs g else is_no_value_type m.heads Gs q.1.0) (sym at) ∙ off)
