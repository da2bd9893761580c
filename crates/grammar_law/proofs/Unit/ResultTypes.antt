-- In a conforming module no value is of a function type; what an instruction gives has a shape, but for variables and chains, which are pointers, and calls, which may give nothing.
use Rattle.std.proofs.Common.{◌≡◌, ◌<◌, ◌≤◌, ◌+◌, ◌==◌, ◌||◌, ◌&&◌, not, ℕ, zero, suc, Bool, true, false, List, [], ◌∷◌, length, drop, Contains, Option, Some, None, find, inl, inr, refl, sym, ap, subst, ◌∙◌, if◌then◌else◌, arith}
use Rattle.std.specs.Prelude.{◌⊎◌, nat_lt, is_some, option_map, option_and_then, slice_index}
use Rattle.std.specs.Option.{option_map_or, option_or}
use Rattle.std.specs.List.{list_any, list_all, zip}
use Rattle.std.proofs.lemmas.Bool.Decides.{nat_tests}
use Rattle.std.proofs.lemmas.Bool.{false_from_ne_true, not-false}
use Rattle.std.proofs.lemmas.Option.{same_Some}
use Rattle.spv_words.specs.declared.rule.Rule.TheVariants.{M5}
use Rattle.spv_ops.specs.Opcode.{is, number}
use Rattle.spv_ops.specs.Groups.{is_constant}
use Rattle.spv_ops.specs.Shape.{shape, count_of}
use Rattle.spv_ops.specs.Operands.{is_id}
use Rattle.spv_ops.specs.OpGroups.{takes_of, group_of}
use Rattle.spv_ops.specs.declared.Op.{Op}
use Rattle.spv_ops.specs.declared.Op.TheVariants as code
use Rattle.spv_ops.specs.declared.OpGroup.{OpGroup}
use Rattle.spv_ops.specs.declared.OpGroup.TheVariants as groups
use Rattle.spv_module.specs.Held.{global}
use Rattle.spv_module.specs.Inst.{has_type, has_result}
use Rattle.spv_module.specs.declared.inst.Id.{Id as IdOf}
use Rattle.spv_module.specs.declared.inst.Inst.{Inst}
use Rattle.spv_module.specs.declared.inst.Function.{Function}
use Rattle.spv_module.specs.declared.tree.Length.{Length}
use Rattle.spv_types.specs.Tree.{Tree, runtime, struct, Trees}
use Rattle.spv_types.specs.declared.kind.TypeKind.TheVariants as kinds
use Rattle.spv_types.specs.Types.{kind, is_shapeless, length_by, array_tree, all_trees, tree_before, tree_at, type_tree, earlier}
use Rattle.spv_decor.specs.Rows.{word}
use Rattle.spv_index.specs.Locals.{insts_of, inst_in, parameter_in, typed, global_type, local_type, type_in}
use Rattle.spv_index.specs.Pointers.{storage_class, as_pointer, pointee}
use Rattle.spv_index.specs.ValueTypes.{is_no_value_type}
use Rattle.profile_rules.specs.declared.needs.Need.TheVariants.{Value}
use Rattle.profile_rules.specs.Operands.{need, suits, is_there_in}
use Rattle.profile_rules.specs.TypeRows.{is_void, is_pointer, is_vector, is_runtime_array, is_int, fails, differ, value_fails, is_other, is_not, constant_word}
use Rattle.profile_rules.specs.TypeForm.{is_no_variable, is_other_parameter}
use Rattle.profile_rules.specs.declared.needs.Reached.{Reached}
use Rattle.profile_rules.specs.declared.needs.Reached.TheVariants.{Part, Nothing, Unknown}
use Rattle.profile_rules.specs.ValueRules.{nth_member, member_by, chain_part, chain_step, chain_end, walk, is_other_pointer, leads_elsewhere, match_before, match_at, do_match, do_parts_match, is_same_length}
use Rattle.profile_rules.specs.NumberRules.{is_no_condition}
use Rattle.profile_rules.specs.FlowRules.{every_second, is_from_elsewhere, breaks_t22}
use Rattle.profile_rules.specs.MemoryRules.{is_pointer as holds_pointer, may_be_pointer_of, may_be_pointer, is_stray_pointer, breaks_m5}
use Rattle.profile_rules.specs.AccessRules.{breaks, broken_in}
use Rattle.profile_rules.specs.TypeRules.{is_value_broken, is_number_broken, is_flow_broken}
use Rattle.list_law.proofs.Numbers.{same_number}
use Rattle.plan_law.specs.InOrder.{IsAmong}
use Rattle.module_semantics.specs.Setting.{Setting}
use Rattle.fits_law.proofs.Steps.{named}
use Rattle.type_law.proofs.Vectors.{three_off}
use Rattle.typed_law.specs.Conforms.{IsConforming}
use Rattle.typed_law.proofs.Lists.{and_left, and_right, and_off, clash, some_part, earlier_some, from_zero, any_at, none_at_fault}
use Rattle.typed_law.proofs.Rules.{operand_there, value_right, number_right, flow_right, contains_flat}
use Rattle.typed_law.proofs.Types.{row_is}
use Rattle.typed_law.proofs.Operations.{four_off}
use Rattle.typed_law.proofs.Values.{IsRow, shape_of_row, value_type_has, global_row, inside, local_row, has_a_type, typed_value, HasType, type_row_of, same_type, type_suits, variable_type_is, parameter_right, parameter_row}
use Rattle.typed_law.proofs.Others.{target_of, typed_some, chain_types}
use Rattle.type_law.proofs.Chains.{HaveTypes}
use Rattle.type_law.proofs.Rows.{by_kind as tree_kind, vector_parts}
use Rattle.type_law.proofs.Parts.{array_kind, runtime_kind, struct_kind, all_nth, row as type_row_at, earlier_is}
use Rattle.grammar_law.proofs.Unit.CallTypes.{given_value}
use Rattle.claim_law.proofs.Claim.Constants.{found_in}
use Rattle.grammar_law.proofs.Unit.Lists.{found_by, as_among, as_parameter, each_behind}
use Rattle.grammar_law.proofs.Unit.Shaped.{other_none}
use Rattle.grammar_law.proofs.Unit.Ways.{HaveKinds, own_type_of, mapped_some}
use Rattle.grammar_law.proofs.Unit.Chains.{nothing_left}
use Rattle.grammar_law.proofs.Unit.ResultShapes.{stands_inside, makes, reads_first, reads_second, IsReadAt, first_read, second_read, IsShaped, constant_shaped, row, typed_read, by_value, made_shaped}

abbrev pub IsNoFunction : List Inst → ℕ → Type 0
IsNoFunction gs ty = (g : Inst) → global gs ty ≡ Some g → is g.op code.TypeFunction ≡ true → ⊥

function_kind : (o : Op) → is o code.TypeFunction ≡ true → kind o ≡ kinds.Other
unfolding kind number
function_kind code.TypeFunction on = refl
function_kind o on = cc

no_both : (o : Op) → is o code.TypePointer ≡ true → is o code.TypeFunction ≡ true → ⊥
unfolding number
no_both code.TypePointer on function = cc
no_both o on function = cc

no_void : (o : Op) → is o code.TypeVoid ≡ true → is o code.TypeFunction ≡ true → ⊥
unfolding number
no_void code.TypeVoid on function = cc
no_void o on function = cc

-- a type that is none of these has a shape
kinds_left : (o : Op) → is o code.TypeVoid ≡ false → is o code.TypePointer ≡ false → is o code.TypeFunction ≡ false → is_shapeless o ≡ false
unfolding number
kinds_left code.TypeVoid a b c = cc
kinds_left code.TypePointer a b c = cc
kinds_left code.TypeFunction a b c = cc
kinds_left o a b c = refl

unbuilt : (o : Op) → is_shapeless o ≡ true → (is o code.TypeArray ≡ false) × (is o code.TypeStruct ≡ false)
unfolding number
unbuilt code.TypeArray e = cc
unbuilt code.TypeStruct e = cc
unbuilt o e = (refl, refl)

-- opcodes by their groups
select_op : (o : Op) → group_of o ≡ groups.Select → is o code.Select ≡ true
unfolding group_of number
select_op code.Select e = refl
select_op o e = cc

copy_op : (o : Op) → group_of o ≡ groups.CopyLogical → is o code.CopyLogical ≡ true
unfolding group_of number
copy_op code.CopyLogical e = refl
copy_op o e = cc

pub variable_op : (o : Op) → group_of o ≡ groups.Variable → is o code.Variable ≡ true
unfolding group_of number
variable_op code.Variable e = refl
variable_op o e = cc

pub call_op : (o : Op) → group_of o ≡ groups.Call → is o code.FunctionCall ≡ true
unfolding group_of number
call_op code.FunctionCall e = refl
call_op o e = cc

-- where no pointer may stand
select_no_pointer : (o : Op) → is o code.Select ≡ true → may_be_pointer_of o 1 ≡ false
unfolding number
select_no_pointer code.Select on = refl
select_no_pointer o on = cc

copy_no_pointer : (o : Op) → is o code.CopyLogical ≡ true → may_be_pointer_of o 0 ≡ false
unfolding number
copy_no_pointer code.CopyLogical on = refl
copy_no_pointer o on = cc

-- what is left of groups that stand in blocks, and have types
abbrev is_left : OpGroup → Bool
is_left groups.Phi = true
is_left groups.Call = true
is_left groups.Chain = true
is_left groups.Variable = true
is_left groups.Select = true
is_left groups.CopyLogical = true
is_left _ = false

grouped : (o : Op) → has_type o ≡ true → stands_inside (group_of o) ≡ true → (makes (group_of o) || is_left (group_of o)) ≡ true
unfolding shape group_of
grouped code.Undef typed in_it = refl
grouped o typed in_it = cc

chain_read : (o : Op) (args : List ℕ) (k : ℕ) → group_of o ≡ groups.Chain → (is_id o args k ≡ true) × (need o k ≡ Value)
unfolding group_of takes_of need is_id
chain_read code.AccessChain args k e = (from_zero k, refl)
chain_read code.InBoundsAccessChain args k e = (from_zero k, refl)
chain_read o args k e = cc

chain_many : (o : Op) (n : ℕ) → group_of o ≡ groups.Chain → (shape o).least ≤ 1 + count_of (has_type o) + count_of (has_result o) + n → 0 < n
unfolding group_of shape
chain_many code.AccessChain n e le = omega (arith, le)
chain_many code.InBoundsAccessChain n e le = omega (arith, le)
chain_many o n e le = cc

module _ (s : Setting) (entry : Option (List ℕ)) (right : IsConforming s.of entry) (kinds_of : HaveKinds s.of.globals) (f : Function) (in_it : Contains s.of.functions f) where
  abbrev Gs : List Inst
  Gs = s.of.globals

  abbrev V : ℕ → Option ℕ
  V = type_in s.of.globals f

  abbrev NoFunction : ℕ → Type 0
  NoFunction = IsNoFunction s.of.globals

  shaped_free : (ty : ℕ) (t : Tree) → type_tree Gs ty ≡ Some t → NoFunction ty
  shaped_free ty t shaped g at on = other_none Gs g t (function_kind g.op on) (sym (ap (λ q. option_map_or (tree_at Gs) q None) at) ∙ shaped)

  row_free : (ty : ℕ) (w : IsRow s entry right ty) → (is w.0.op code.TypeFunction ≡ true → ⊥) → NoFunction ty
  row_free ty w off g at on = off (ap (λ (x : Inst). is x.op code.TypeFunction) (same_Some w.0 g (sym w.1 ∙ at)) ∙ on)

  -- the type of an operand, where this is known of what stands before
  operand_free : (id ty n : ℕ) → is_there_in s.of f n Value id ≡ true → V id ≡ Some ty → ((j : Inst) → IsAmong j (insts_of f) → j.at < n → (j.ty ≡ 0 → ⊥) → NoFunction j.ty) → NoFunction ty
  operand_free id ty n has told known = by_global (global_type Gs id) refl told
    where
      by_inst : (j : Inst) → inst_in f id ≡ Some j → (j.ty ≡ 0 → ⊥) → (j.ty ≡ ty) → j.at < n → NoFunction ty
      by_inst j made some same before = subst NoFunction same (known j (as_among (insts_of f) j (found_in (insts_of f) id j made).0) before some)

      before_of : global_type Gs id ≡ None → parameter_in f id ≡ None → (j : Inst) → inst_in f id ≡ Some j → j.at < n
      before_of outside lent j made = by_earlier (earlier Gs n id) refl has
        where
          less : is_some (typed j) ≡ true → nat_lt j.at n ≡ true → j.at < n
          less typed_some on = grind (arith, nat_tests, on)

          local : (is_some (parameter_in f id) || option_map_or (λ (i : Inst). is_some (typed i) && nat_lt i.at n) (inst_in f id) false) ≡ true → j.at < n
          local on =
              let told : (is_some (typed j) && nat_lt j.at n) ≡ true = sym (ap (λ (q : Option ℕ). is_some q || option_map_or (λ (i : Inst). is_some (typed i) && nat_lt i.at n) (inst_in f id) false) lent ∙ ap (λ (q : Option Inst). option_map_or (λ (i : Inst). is_some (typed i) && nat_lt i.at n) q false) made) ∙ on in
              less (and_left (is_some (typed j)) (nat_lt j.at n) told) (and_right (is_some (typed j)) (nat_lt j.at n) told)

          by_suits : (h : Inst) → earlier Gs n id ≡ Some h → (b : Bool) → is_some (typed h) ≡ b → (b || (is_some (parameter_in f id) || option_map_or (λ (i : Inst). is_some (typed i) && nat_lt i.at n) (inst_in f id) false)) ≡ true → j.at < n
          by_suits h at true on e = clash (sym on ∙ ap is_some (sym (ap (option_and_then typed) (earlier_some Gs n id h at).0) ∙ outside))
          by_suits h at false off e = local e

          by_earlier : (q : Option Inst) → earlier Gs n id ≡ q → (option_map_or (suits Value) q false || (is_some (parameter_in f id) || option_map_or (λ (i : Inst). is_some (typed i) && nat_lt i.at n) (inst_in f id) false)) ≡ true → j.at < n
          by_earlier None at e = local e
          by_earlier (Some h) at e = by_suits h at (is_some (typed h)) refl e

      by_parameter : global_type Gs id ≡ None → (x : Option ℕ) → parameter_in f id ≡ x → option_or x (option_and_then typed (inst_in f id)) ≡ Some ty → NoFunction ty
      by_parameter outside None lent told =
          let j = some_part typed (inst_in f id) ty told in
          let own = own_type_of j.0 ty j.2 in
          by_inst j.0 j.1 own.1 own.0 (before_of outside lent j.0 j.1)
      by_parameter outside (Some y) lent told =
          let q = mapped_some (λ (r : IdOf × IdOf). r.1.0) (find (λ (r : IdOf × IdOf). r.0.0 == id) f.params) y lent in
          let w = found_by (λ (r : IdOf × IdOf). r.0.0 == id) f.params q.0 q.1 in
          let same : q.0.1.0 ≡ ty = same_Some q.0.1.0 y (ap (option_map (λ (r : IdOf × IdOf). r.1.0)) (sym q.1) ∙ lent) ∙ same_Some y ty told in
          let g = parameter_row s entry right f in_it q.0 (as_parameter q.0 f.params w.0) in
          subst NoFunction same (row_free q.0.1.0 g (by_pointer q.0 g (parameter_right s entry right f in_it q.0 (as_parameter q.0 f.params w.0)) (is g.0.op code.TypePointer) refl))
        where
          by_pointer : (q : IdOf × IdOf) (g : IsRow s entry right q.1.0) → is_other_parameter s.of.heads Gs q.1.0 ≡ false → (b : Bool) → is g.0.op code.TypePointer ≡ b → is g.0.op code.TypeFunction ≡ true → ⊥
          by_pointer q g fit true on function = no_both g.0.op on function
          by_pointer q g fit false off function =
              let value : is_no_value_type s.of.heads Gs q.1.0 ≡ false =
              ap (λ (b : Bool). if b then is_no_variable s.of.heads Gs g.0 else is_no_value_type s.of.heads Gs q.1.0) (sym off)
              ∙ (ap (λ x. option_map_or (λ (y : Inst). if is y.op code.TypePointer then is_no_variable s.of.heads Gs y else is_no_value_type s.of.heads Gs q.1.0) x false) (sym g.1) ∙ fit) in
              let t = value_type_has s entry right q.1.0 g value in
              shaped_free q.1.0 t.0 t.1 g.0 g.1 function

      by_kind : (h : Inst) → IsAmong h Gs → (h.ty ≡ 0 → ⊥) → (is_constant h.op ≡ true) ⊎ (is h.op code.Variable ≡ true) → NoFunction h.ty
      by_kind h there some (inl constant) = let t = constant_shaped s entry right h there constant some in shaped_free h.ty t.0 t.1
      by_kind h there some (inr variable) =
          let g = global_row s entry right h there some in
          row_free h.ty (g.0, g.1, type_suits h.op g.0 g.2) (no_both g.0.op (variable_type_is h.op g.0 variable g.2))

      by_global : (x : Option ℕ) → global_type Gs id ≡ x → option_or x (local_type f id) ≡ Some ty → NoFunction ty
      by_global None outside told = by_parameter outside (parameter_in f id) refl told
      by_global (Some y) at told =
          let h = some_part typed (global Gs id) y at in
          let own = own_type_of h.0 y h.2 in
          let there = found_in Gs id h.0 h.1 in
          subst NoFunction (own.0 ∙ same_Some y ty told) (by_kind h.0 (as_among Gs h.0 there.0) own.1 (kinds_of h.0 there.0 own.1))

  -- where a chain's indexes lead is known
  step_known : (ty id : ℕ) (t : Tree) → type_tree Gs ty ≡ Some t → is_some (V id) ≡ true → (chain_step Gs V ty id ≡ Nothing) ⊎ ((c : ℕ) × (u : Tree) × (chain_step Gs V ty id ≡ Part c) × (type_tree Gs c ≡ Some u))
  step_known ty id t shaped typed_index =
      let g = type_row_at s f ty t shaped in
      subst (λ q. (option_map_or (λ x. chain_part Gs V x id) q Unknown ≡ Nothing) ⊎ ((c : ℕ) × (u : Tree) × (option_map_or (λ x. chain_part Gs V x id) q Unknown ≡ Part c) × (type_tree Gs c ≡ Some u))) (sym g.1)
      (by_opcode g.0 g.2 (is g.0.op code.TypeStruct) refl (is_vector g.0) refl (is g.0.op code.TypeArray) refl (is_runtime_array g.0) refl)
    where
      Leads : Reached → Type 0
      Leads r = (r ≡ Nothing) ⊎ ((c : ℕ) × (u : Tree) × (r ≡ Part c) × (type_tree Gs c ≡ Some u))

      member_known : (g : Inst) → tree_at Gs g ≡ Some t → is g.op code.TypeStruct ≡ true → Leads (member_by Gs V g id)
      member_known g at on = by_members (all_trees (tree_before Gs g.at) g.args) refl (tree_kind Gs (tree_before Gs g.at) g kinds.Struct t (struct_kind g.op on) at)
        where
          by_less : (ts : Trees) (w : ℕ) (b : Bool) → nat_lt w (length g.args) ≡ b → all_trees (tree_before Gs g.at) g.args ≡ Some ts → Leads (if b then Part (word g w) else Nothing)
          by_less ts w true less all = let v = all_nth (tree_before Gs g.at) g.args ts w all less in inr (word g w, v.0, refl, earlier_is s f g.at (word g w) v.0 v.1)
          by_less ts w false less all = inl refl

          by_constant : (ts : Trees) (q : Option ℕ) (b : Bool) → b ≡ true → all_trees (tree_before Gs g.at) g.args ≡ Some ts → Leads (option_map_or (nth_member g) q (if b then Nothing else Unknown))
          by_constant ts (Some w) b some all = by_less ts w (nat_lt w (length g.args)) refl all
          by_constant ts None true some all = inl refl
          by_constant ts None false some all = cc

          by_members : (q : Option Trees) → all_trees (tree_before Gs g.at) g.args ≡ q → option_map (struct g.result) q ≡ Some t → Leads (member_by Gs V g id)
          by_members None all e = cc
          by_members (Some ts) all e = by_constant ts (constant_word Gs id) (is_some (V id)) typed_index all

      array_known : (g : Inst) → tree_at Gs g ≡ Some t → is g.op code.TypeArray ≡ true → Leads (Part (word g 0))
      array_known g at on = by_part (tree_before Gs g.at (word g 0)) refl (length_by (word g 1) (global Gs (word g 1))) (tree_kind Gs (tree_before Gs g.at) g kinds.Array t (array_kind g.op on) at)
        where
          by_part : (q : Option Tree) → tree_before Gs g.at (word g 0) ≡ q → (l : Option Length) → array_tree q l ≡ Some t → Leads (Part (word g 0))
          by_part None there l e = cc
          by_part (Some u) there None e = cc
          by_part (Some u) there (Some l) e = inr (word g 0, u, refl, earlier_is s f g.at (word g 0) u there)

      runtime_known : (g : Inst) → tree_at Gs g ≡ Some t → is_runtime_array g ≡ true → Leads (Part (word g 0))
      runtime_known g at on = by_part (tree_before Gs g.at (word g 0)) refl (tree_kind Gs (tree_before Gs g.at) g kinds.Runtime t (runtime_kind g.op on) at)
        where
          by_part : (q : Option Tree) → tree_before Gs g.at (word g 0) ≡ q → option_map runtime q ≡ Some t → Leads (Part (word g 0))
          by_part None there e = cc
          by_part (Some u) there e = inr (word g 0, u, refl, earlier_is s f g.at (word g 0) u there)

      vector_known : (g : Inst) → tree_at Gs g ≡ Some t → is_vector g ≡ true → Leads (Part (word g 0))
      vector_known g at on = let parts = vector_parts Gs g t on at in inr (word g 0, parts.0, refl, earlier_is s f g.at (word g 0) parts.0 parts.2)

      by_opcode : (g : Inst) → tree_at Gs g ≡ Some t → (q : Bool) → is g.op code.TypeStruct ≡ q → (v : Bool) → is_vector g ≡ v → (a : Bool) → is g.op code.TypeArray ≡ a → (r : Bool) → is_runtime_array g ≡ r
          → Leads (if q then member_by Gs V g id else (if v || a || r then Part (word g 0) else Nothing))
      by_opcode g at true on v vn a an r rn = member_known g at on
      by_opcode g at false on true vn a an r rn = vector_known g at vn
      by_opcode g at false on false vn true an r rn = array_known g at an
      by_opcode g at false on false vn false an true rn = runtime_known g at rn
      by_opcode g at false on false vn false an false rn = inl refl

  chain_known : (ids : List ℕ) (ty : ℕ) (t : Tree) → type_tree Gs ty ≡ Some t → HaveTypes s f ids → (walk (chain_step Gs V) (Part ty) ids ≡ Nothing) ⊎ ((c : ℕ) × (u : Tree) × (walk (chain_step Gs V) (Part ty) ids ≡ Part c) × (type_tree Gs c ≡ Some u))
  chain_known [] ty t shaped have = inr (ty, t, refl, shaped)
  chain_known (id ∷ ids) ty t shaped have = by_step (step_known ty id t shaped have.0) (λ c u at. chain_known ids c u at have.1)
    where
      by_step : (chain_step Gs V ty id ≡ Nothing) ⊎ ((c : ℕ) × (u : Tree) × (chain_step Gs V ty id ≡ Part c) × (type_tree Gs c ≡ Some u)) → ((c : ℕ) (u : Tree) → type_tree Gs c ≡ Some u → (walk (chain_step Gs V) (Part c) ids ≡ Nothing) ⊎ ((d : ℕ) × (w : Tree) × (walk (chain_step Gs V) (Part c) ids ≡ Part d) × (type_tree Gs d ≡ Some w)))
          → (walk (chain_step Gs V) (chain_step Gs V ty id) ids ≡ Nothing) ⊎ ((c : ℕ) × (u : Tree) × (walk (chain_step Gs V) (chain_step Gs V ty id) ids ≡ Part c) × (type_tree Gs c ≡ Some u))
      by_step (inl none) later = inl (ap (λ r. walk (chain_step Gs V) r ids) none ∙ nothing_left (chain_step Gs V) ids)
      by_step (inr w) later = elim (later w.0 w.1 w.3) [
        | inl none ↦ inl (ap (λ r. walk (chain_step Gs V) r ids) w.2 ∙ none)
        | inr q ↦ inr (q.0, q.1, ap (λ r. walk (chain_step Gs V) r ids) w.2 ∙ q.2, q.3)
      ]

  module _ (inner : (i : Inst) → IsAmong i (insts_of f) → stands_inside (group_of i.op) ≡ true) where
    module _ (i : Inst) (there : IsAmong i (insts_of f)) (has : has_type i.op ≡ true) where
      pub own_row : IsRow s entry right i.ty
      own_row = row s entry right f in_it i there has

      phi_shaped : group_of i.op ≡ groups.Phi → IsShaped s entry right i.ty
      phi_shaped is_it =
          let b = flow_right s.of entry right f in_it i there in
          let off : breaks_t22 s.of.heads Gs V f b.0 i ≡ false = ap (is_flow_broken s.of f b.0 i) (sym is_it) ∙ b.1 in
          by_value s entry right f in_it i there has (three_off (is_no_value_type s.of.heads Gs i.ty) (list_any (is_other Gs V i.ty) (every_second 0 i.args)) (is_from_elsewhere f b.0.label.0 i) off).0

      there_at : (k : ℕ) → IsReadAt i.op i.args k → is_there_in s.of f i.at Value (slice_index i.args k) ≡ true
      there_at k r =
          subst (λ q. is_there_in s.of f i.at q (slice_index i.args k) ≡ true) r.asks
          (operand_there (is_there_in s.of f i.at) i ((inside s entry right f in_it).order.there i there) k (r.many (length i.args) ((inside s entry right f in_it).formed i there).least) r.names_id)

      -- M5: the operand is no pointer
      no_stray : breaks_m5 Gs f i ≡ false
      no_stray = none_at_fault (breaks s.of.heads Gs f M5) (insts_of f) i (λ at broken. right.accessed.1.1.1.1.0 at (contains_flat (broken_in s.of M5) s.of.functions f at in_it broken)) there

      no_pointer_at : (k : ℕ) (r : IsReadAt i.op i.args k) → may_be_pointer_of i.op k ≡ false → (w : HasType s entry right f in_it (slice_index i.args k)) (g : Inst) → global Gs w.0 ≡ Some g → is g.op code.TypePointer ≡ false
      no_pointer_at k r may w g at =
          let less = r.many (length i.args) ((inside s entry right f in_it).formed i there).least in
          let one : is_stray_pointer Gs f i (k, slice_index i.args k) ≡ false = subst (λ n. is_stray_pointer Gs f i (n, slice_index i.args k) ≡ false) (let same : 0 + k ≡ k = omega arith in same) (any_at (is_stray_pointer Gs f i) i.args 0 k no_stray less) in
          let stray = and_off (is_id i.op i.args k) (not (may_be_pointer i k) && holds_pointer Gs f (slice_index i.args k)) one r.names_id in
          let off = and_off (not (may_be_pointer i k)) (holds_pointer Gs f (slice_index i.args k)) stray (ap not may) in
          by_test (is g.op code.TypePointer) refl (sym (ap (λ (q : Option ℕ). is_some (option_and_then (storage_class Gs) q)) w.1) ∙ off)
        where
          by_test : (b : Bool) → is g.op code.TypePointer ≡ b → is_some (storage_class Gs w.0) ≡ false → b ≡ false
          by_test false e off = refl
          by_test true e off = clash (sym (ap (λ (q : Option Inst). is_some (option_map (λ (h : Inst). slice_index h.args 0) (option_and_then as_pointer q))) at ∙ ap (λ (b : Bool). is_some (option_map (λ (h : Inst). slice_index h.args 0) (if b then Some g else None))) e) ∙ off)

      -- T17
      module _ (is_it : group_of i.op ≡ groups.Select) where
        second : IsReadAt i.op i.args 1
        second = second_read i.op i.args (ap reads_second is_it)

        select_parts : (fails (λ g. not (is_void g)) Gs i.ty ≡ false) × (is_other Gs V i.ty (word i 1) ≡ false)
        select_parts =
            let off = ap (is_number_broken Gs V i) (sym is_it) ∙ number_right s.of entry right f in_it i there in
            let parts = four_off (fails (λ g. not (is_void g)) Gs i.ty) (is_other Gs V i.ty (word i 1)) (is_other Gs V i.ty (word i 2)) (option_map_or (is_no_condition Gs i.ty) (V (word i 0)) false) off in
            (parts.0, parts.1)

        second_is : V (word i 1) ≡ Some i.ty
        second_is = same_type s entry right f in_it i.ty (word i 1) own_row (typed_read s entry right f in_it i there 1 second) select_parts.1

        select_void : is own_row.0.op code.TypeVoid ≡ false
        select_void = twice (is own_row.0.op code.TypeVoid) (ap (λ q. option_map_or (λ (g : Inst). not (not (is_void g))) q false) (sym (row_is s.of entry right i.ty own_row.0 own_row.1 own_row.2)) ∙ select_parts.0)
          where
            twice : (b : Bool) → not (not b) ≡ false → b ≡ false
            twice true e = cc
            twice false e = refl

        select_shaped : NoFunction i.ty → IsShaped s entry right i.ty
        select_shaped free =
            shape_of_row s entry right i.ty own_row
            (kinds_left own_row.0.op select_void (no_pointer_at 1 second (select_no_pointer i.op (select_op i.op is_it)) (i.ty, second_is) own_row.0 own_row.1) (false_from_ne_true (is own_row.0.op code.TypeFunction) (free own_row.0 own_row.1)))

      -- T12
      module _ (is_it : group_of i.op ≡ groups.CopyLogical) where
        first : IsReadAt i.op i.args 0
        first = first_read i.op i.args (ap reads_first is_it)

        abbrev from : HasType s entry right f in_it (word i 0)
        from = typed_read s entry right f in_it i there 0 first

        from_row : IsRow s entry right from.0
        from_row = type_row_of s entry right f in_it (word i 0) from.0 from.1

        matches : (((from_row.0.result == i.ty) && not (is_void from_row.0)) || do_parts_match Gs (match_before Gs from_row.0.at) from_row.0 own_row.0) ≡ true
        matches =
            let off = ap (is_value_broken s.of V i) (sym is_it) ∙ value_right s.of entry right f in_it i there in
            let on : do_match Gs from.0 i.ty ≡ true = not-false (do_match Gs from.0 i.ty) (ap (λ q. option_map_or (λ ty. not (do_match Gs ty i.ty)) q false) (sym from.1) ∙ off) in
            ap (λ q. option_map_or (λ x. ((from_row.0.result == i.ty) && not (is_void from_row.0)) || do_parts_match Gs (match_before Gs from_row.0.at) from_row.0 x) q true) (sym (row_is s.of entry right i.ty own_row.0 own_row.1 own_row.2))
            ∙ (ap (λ q. option_map_or (λ x. match_at Gs x i.ty) q true) (sym (row_is s.of entry right from.0 from_row.0 from_row.1 from_row.2)) ∙ on)

        -- a result without a shape is of the type of the operand, which is not void
        same_as : is_shapeless own_row.0.op ≡ true → (from.0 ≡ i.ty) × (is own_row.0.op code.TypeVoid ≡ false)
        same_as shapeless =
            let none = unbuilt own_row.0.op shapeless in
            let parts = by_match (from_row.0.result == i.ty) (is_void from_row.0) (is from_row.0.op code.TypeArray) (is own_row.0.op code.TypeArray) (is from_row.0.op code.TypeStruct) (is own_row.0.op code.TypeStruct)
            (match_before Gs from_row.0.at (word from_row.0 0) (word own_row.0 0)) (is_same_length Gs (word from_row.0 1) (word own_row.0 1)) (length from_row.0.args == length own_row.0.args) (list_all (λ (q : ℕ × ℕ). match_before Gs from_row.0.at q.0 q.1) (zip from_row.0.args own_row.0.args)) none.0 none.1 matches in
            let one : from.0 ≡ i.ty = sym (named Gs from.0 from_row.0 from_row.1) ∙ same_number from_row.0.result i.ty parts.0 in
            (one, ap (λ (g : Inst). is g.op code.TypeVoid) (same_Some own_row.0 from_row.0 (sym own_row.1 ∙ (ap (global Gs) (sym one) ∙ from_row.1))) ∙ parts.1)
          where
            by_match : (a v x y z w p q k l : Bool) → y ≡ false → w ≡ false → ((a && not v) || ((x && y && p && q) || (z && w && k && l))) ≡ true → (a ≡ true) × (v ≡ false)
            by_match true false x y z w p q k l no_array no_struct e = (refl, refl)
            by_match true true true false true false p q k l no_array no_struct e = cc
            by_match true true false false true false p q k l no_array no_struct e = cc
            by_match true true true false false false p q k l no_array no_struct e = cc
            by_match true true false false false false p q k l no_array no_struct e = cc
            by_match false v true false true false p q k l no_array no_struct e = cc
            by_match false v false false true false p q k l no_array no_struct e = cc
            by_match false v true false false false p q k l no_array no_struct e = cc
            by_match false v false false false false p q k l no_array no_struct e = cc
            by_match a v x true z w p q k l no_array no_struct e = cc
            by_match a v x y z true p q k l no_array no_struct e = cc

        copy_shaped : (from.0 ≡ i.ty → NoFunction i.ty) → IsShaped s entry right i.ty
        copy_shaped free = by_shape (is_shapeless own_row.0.op) refl
          where
            by_shape : (b : Bool) → is_shapeless own_row.0.op ≡ b → IsShaped s entry right i.ty
            by_shape false shaped = shape_of_row s entry right i.ty own_row shaped
            by_shape true shapeless =
                let w = same_as shapeless in
                shape_of_row s entry right i.ty own_row
                (kinds_left own_row.0.op w.1 (no_pointer_at 0 first (copy_no_pointer i.op (copy_op i.op is_it)) from own_row.0 (ap (global Gs) w.0 ∙ own_row.1)) (false_from_ne_true (is own_row.0.op code.TypeFunction) (free w.0 own_row.0 own_row.1)))

      -- T6: a chain's type is a pointer
      pub chain_pointer : group_of i.op ≡ groups.Chain → is own_row.0.op code.TypePointer ≡ true
      chain_pointer is_it =
          let off = ap (is_value_broken s.of V i) (sym is_it) ∙ value_right s.of entry right f in_it i there in
          let parts = three_off (value_fails is_pointer Gs V (word i 0)) (list_any (value_fails is_int Gs V) (drop 1 i.args)) (leads_elsewhere Gs i.ty (option_and_then (storage_class Gs) (V (word i 0))) (chain_end Gs V i)) off in
          let many = chain_many i.op (length i.args) is_it ((inside s entry right f in_it).formed i there).least in
          let q = target_of s entry right f in_it (word i 0) (typed_arg is_it 0 many) parts.0 in
          let reached : leads_elsewhere Gs i.ty (option_and_then (storage_class Gs) (V (word i 0))) (walk (chain_step Gs V) (Part q.0) (drop 1 i.args)) ≡ false =
          ap (λ x. leads_elsewhere Gs i.ty (option_and_then (storage_class Gs) (V (word i 0))) (walk (chain_step Gs V) (option_map_or Part x Unknown) (drop 1 i.args))) (sym q.2) ∙ parts.2 in
          elim (chain_known (drop 1 i.args) q.0 q.1 q.3 (chain_types s entry right f in_it i there (drop 1 i.args) (each_behind (HasType s entry right f in_it) i.args (λ k less. typed_arg is_it k less)))) [
            | inl none ↦ absurd (clash (ap (leads_elsewhere Gs i.ty (option_and_then (storage_class Gs) (V (word i 0)))) (sym none) ∙ reached))
            | inr w ↦ by_part w.0 (ap (leads_elsewhere Gs i.ty (option_and_then (storage_class Gs) (V (word i 0)))) (sym w.2) ∙ reached)
          ]
        where
          typed_arg : group_of i.op ≡ groups.Chain → (k : ℕ) → k < length i.args → HasType s entry right f in_it (slice_index i.args k)
          typed_arg is_it k less =
              let r = chain_read i.op i.args k is_it in
              typed_value s entry right f in_it i.at (slice_index i.args k) (subst (λ q. is_there_in s.of f i.at q (slice_index i.args k) ≡ true) r.1 (operand_there (is_there_in s.of f i.at) i ((inside s entry right f in_it).order.there i there) k less r.0))

          by_part : (c : ℕ) → is_other_pointer Gs i.ty (option_and_then (storage_class Gs) (V (word i 0))) c ≡ false → is own_row.0.op code.TypePointer ≡ true
          by_part c off =
              let parts = three_off (fails is_pointer Gs i.ty) (option_map_or (λ (x : ℕ). is_not x (storage_class Gs i.ty)) (option_and_then (storage_class Gs) (V (word i 0))) false) (option_map_or (differ Gs c) (pointee Gs i.ty) false) off in
              not-false (is_pointer own_row.0) (ap (λ q. option_map_or (λ (g : Inst). not (is_pointer g)) q false) (sym (row_is s.of entry right i.ty own_row.0 own_row.1 own_row.2)) ∙ parts.0)

      pub variable_pointer : group_of i.op ≡ groups.Variable → is own_row.0.op code.TypePointer ≡ true
      variable_pointer is_it =
          let some = typed_some s entry right f in_it i there has in
          let g = local_row s entry right f in_it i there some in
          ap (λ (x : Inst). is x.op code.TypePointer) (same_Some own_row.0 g.0 (sym own_row.1 ∙ g.1)) ∙ variable_type_is i.op g.0 (variable_op i.op is_it) g.2

      left_free : (g : OpGroup) → group_of i.op ≡ g → is_left g ≡ true → ((j : Inst) → IsAmong j (insts_of f) → j.at < i.at → (j.ty ≡ 0 → ⊥) → NoFunction j.ty) → NoFunction i.ty
      left_free groups.Phi is_it on known = let t = phi_shaped is_it in shaped_free i.ty t.0 t.1
      left_free groups.Call is_it on known = by_void (is own_row.0.op code.TypeVoid) refl
        where
          by_void : (b : Bool) → is own_row.0.op code.TypeVoid ≡ b → NoFunction i.ty
          by_void true void = row_free i.ty own_row (no_void own_row.0.op void)
          by_void false none = let t = given_value s entry right f in_it i there (call_op i.op is_it) own_row none in shaped_free i.ty t.0 t.1
      left_free groups.Chain is_it on known = row_free i.ty own_row (no_both own_row.0.op (chain_pointer is_it))
      left_free groups.Variable is_it on known = row_free i.ty own_row (no_both own_row.0.op (variable_pointer is_it))
      left_free groups.Select is_it on known = operand_free (word i 1) i.ty i.at (there_at 1 (second is_it)) (second_is is_it) known
      left_free groups.CopyLogical is_it on known = let t = copy_shaped is_it (λ same. subst NoFunction same (operand_free (word i 0) (from is_it).0 i.at (there_at 0 (first is_it)) (from is_it).1 known)) in shaped_free i.ty t.0 t.1
      left_free g is_it on known = clash (sym on)

    free_below : (n : ℕ) (i : Inst) → IsAmong i (insts_of f) → i.at < n → (i.ty ≡ 0 → ⊥) → NoFunction i.ty
    free_below zero i there less some = absurd (omega (arith, less))
    free_below (suc n) i there less some = by_either (makes (group_of i.op)) refl (grouped i.op has (inner i there)) (λ j j_in before j_some. free_below n j j_in (let low : j.at < n = omega (arith, before, less) in low) j_some)
      where
        has : has_type i.op ≡ true
        has = has_a_type i ((inside s entry right f in_it).formed i there) some

        by_either : (b : Bool) → makes (group_of i.op) ≡ b → (b || is_left (group_of i.op)) ≡ true → ((j : Inst) → IsAmong j (insts_of f) → j.at < i.at → (j.ty ≡ 0 → ⊥) → NoFunction j.ty) → NoFunction i.ty
        by_either true on e known = let t = made_shaped s entry right f in_it i there has on in shaped_free i.ty t.0 t.1
        by_either false off e known = left_free i there has (group_of i.op) refl e known

    free : (i : Inst) → IsAmong i (insts_of f) → (i.ty ≡ 0 → ⊥) → NoFunction i.ty
    free i there some = free_below (suc i.at) i there (let less : i.at < suc i.at = omega arith in less) some

    -- what an instruction gives, by its group
    pub data Gives (i : Inst) : Type 0 where
      of_shape : IsShaped s entry right i.ty → Gives i
      of_pointer : (w : IsRow s entry right i.ty) → is w.0.op code.TypePointer ≡ true → (group_of i.op ≡ groups.Chain) ⊎ (group_of i.op ≡ groups.Variable) → Gives i
      of_call : (w : IsRow s entry right i.ty) → is w.0.op code.TypeVoid ≡ true → group_of i.op ≡ groups.Call → Gives i

    pub gives : (i : Inst) → IsAmong i (insts_of f) → has_type i.op ≡ true → Gives i
    gives i there has = by_either (makes (group_of i.op)) refl (grouped i.op has (inner i there))
      where
        some : i.ty ≡ 0 → ⊥
        some = typed_some s entry right f in_it i there has

        by_left : (g : OpGroup) → group_of i.op ≡ g → is_left g ≡ true → Gives i
        by_left groups.Phi is_it on = of_shape (phi_shaped i there has is_it)
        by_left groups.Call is_it on = by_void (is (own_row i there has).0.op code.TypeVoid) refl
          where
            by_void : (b : Bool) → is (own_row i there has).0.op code.TypeVoid ≡ b → Gives i
            by_void true void = of_call (own_row i there has) void is_it
            by_void false none = of_shape (given_value s entry right f in_it i there (call_op i.op is_it) (own_row i there has) none)
        by_left groups.Chain is_it on = of_pointer (own_row i there has) (chain_pointer i there has is_it) (inl is_it)
        by_left groups.Variable is_it on = of_pointer (own_row i there has) (variable_pointer i there has is_it) (inr is_it)
        by_left groups.Select is_it on = of_shape (select_shaped i there has is_it (free i there some))
        by_left groups.CopyLogical is_it on = of_shape (copy_shaped i there has is_it (λ same. free i there some))
        by_left g is_it on = clash (sym on)

        by_either : (b : Bool) → makes (group_of i.op) ≡ b → (b || is_left (group_of i.op)) ≡ true → Gives i
        by_either true on e = of_shape (made_shaped s entry right f in_it i there has on)
        by_either false off e = by_left (group_of i.op) refl e
