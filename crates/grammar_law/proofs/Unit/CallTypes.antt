-- The type that a call has: that of the function that it calls, and the types of its arguments (T21).
use Rattle.std.proofs.Common.{◌≡◌, ◌<◌, ◌≤◌, ◌+◌, ◌==◌, ◌&&◌, ◌||◌, not, ℕ, Bool, true, false, List, [], ◌∷◌, length, drop, Contains, Option, Some, None, refl, sym, ap, ◌∙◌, subst, arith, if◌then◌else◌}
use Rattle.std.specs.Prelude.{is_some, slice_index, option_and_then}
use Rattle.std.specs.Option.{option_map_or}
use Rattle.std.specs.List.{list_any, position_from}
use Rattle.std.proofs.lemmas.Option.{same_Some}
use Rattle.spv_ops.specs.Opcode.{is, number}
use Rattle.spv_ops.specs.OpGroups.{takes_of, group_of}
use Rattle.spv_ops.specs.Operands.{is_id}
use Rattle.spv_ops.specs.Shape.{shape, count_of}
use Rattle.spv_ops.specs.declared.Op.{Op}
use Rattle.spv_ops.specs.declared.Op.TheVariants as code
use Rattle.spv_ops.specs.declared.OpGroup.TheVariants as groups
use Rattle.spv_module.specs.Held.{global}
use Rattle.spv_module.specs.State.{ModuleState}
use Rattle.spv_module.specs.Inst.{has_type, has_result}
use Rattle.spv_module.specs.declared.inst.Inst.{Inst}
use Rattle.spv_module.specs.declared.inst.Function.{Function}
use Rattle.spv_types.specs.Types.{type_tree, earlier}
use Rattle.spv_decor.specs.Rows.{word}
use Rattle.spv_index.specs.Locals.{insts_of, function_in, type_in}
use Rattle.spv_index.specs.ValueTypes.{is_no_value_type}
use Rattle.profile_rules.specs.declared.needs.Need.TheVariants.{AnyType, Callee}
use Rattle.profile_rules.specs.Operands.{need, suits, is_there, is_there_in}
use Rattle.profile_rules.specs.TypeRows.{differ}
use Rattle.profile_rules.specs.TypeForm.{is_other_parameter, is_other_result, is_other_pointer, is_other_function}
use Rattle.profile_rules.specs.FlowRules.{function_type, is_miscalled, breaks_t21}
use Rattle.profile_rules.specs.ValueRules.{are_other_members}
use Rattle.profile_rules.specs.TypeRules.{is_flow_broken}
use Rattle.profile_rules.specs.Entry.{function_of}
use Rattle.plan_law.specs.InOrder.{IsAmong}
use Rattle.module_semantics.specs.Setting.{Setting}
use Rattle.typed_law.specs.Conforms.{IsConforming}
use Rattle.typed_law.proofs.Lists.{or_left, or_right, and_off, some_by, earlier_some, from_zero}
use Rattle.typed_law.proofs.Rules.{operand_there, global_there, pointed_type, flow_right}
use Rattle.typed_law.proofs.Values.{IsRow, IsDeclaredBy, declared_by, local_row, type_suits, one_type, inside, value_type_has, function_id, function_need, function_least}
use Rattle.typed_law.proofs.Others.{contains_found, callee_is, typed_some}
use Rattle.grammar_law.proofs.Unit.ResultShapes.{IsShaped}

pub call_typed : (o : Op) → is o code.FunctionCall ≡ true → has_type o ≡ true
unfolding number shape
call_typed code.FunctionCall on = refl
call_typed o on = cc

pub call_group : (o : Op) → is o code.FunctionCall ≡ true → group_of o ≡ groups.Call
unfolding number group_of
call_group code.FunctionCall on = refl
call_group o on = cc

pub call_id : (o : Op) (args : List ℕ) (k : ℕ) → is o code.FunctionCall ≡ true → is_id o args k ≡ true
unfolding number is_id
call_id code.FunctionCall args k on = from_zero k
call_id o args k on = cc

call_callee : (o : Op) → is o code.FunctionCall ≡ true → need o 0 ≡ Callee
unfolding number need takes_of group_of
call_callee code.FunctionCall on = refl
call_callee o on = cc

call_least : (o : Op) (n : ℕ) → is o code.FunctionCall ≡ true → (shape o).least ≤ 1 + count_of (has_type o) + count_of (has_result o) + n → 0 < n
unfolding number shape
call_least code.FunctionCall n on le = omega (arith, le)
call_least o n on le = cc

-- the function with an id
pub function_found : (fs : List Function) (n k : ℕ) → is_some (position_from (λ (f : Function). f.id.0 == n) k fs) ≡ true → (g : Function) × (function_of fs n ≡ Some g)
function_found [] n k some = cc
function_found (f ∷ fs) n k some = by_test (f.id.0 == n) some (function_found fs n (k + 1))
  where
    by_test : (b : Bool) → is_some (if b then Some k else position_from (λ (g : Function). g.id.0 == n) (k + 1) fs) ≡ true → (is_some (position_from (λ (g : Function). g.id.0 == n) (k + 1) fs) ≡ true → (g : Function) × (function_of fs n ≡ Some g)) → (g : Function) × ((if b then Some f else function_of fs n) ≡ Some g)
    by_test true some later = (f, refl)
    by_test false some later = later some

callee_there : (m : ModuleState) (f : Function) (n k : ℕ) → is_there_in m f n Callee k ≡ true → is_some (function_in m.functions k) ≡ true
callee_there m f n k on = by_global (earlier m.globals n k) on
  where
    by_global : (q : Option Inst) → (option_map_or (suits Callee) q false || is_some (function_in m.functions k)) ≡ true → is_some (function_in m.functions k) ≡ true
    by_global None on = on
    by_global (Some g) on = on

module _ (s : Setting) (entry : Option (List ℕ)) (right : IsConforming s.of entry) (f : Function) (in_it : Contains s.of.functions f) (i : Inst) (stands : IsAmong i (insts_of f)) (on : is i.op code.FunctionCall ≡ true) where
  abbrev Gs : List Inst
  Gs = s.of.globals

  abbrev T : ℕ → Option ℕ
  T = type_in s.of.globals f

  pub there_by : (k : ℕ) → k < length i.args → is_there_in s.of f i.at (need i.op k) (slice_index i.args k) ≡ true
  there_by k less = operand_there (is_there_in s.of f i.at) i ((inside s entry right f in_it).order.there i stands) k less (call_id i.op i.args k on)

  -- the callee, and the type that it is declared with
  pub called_function : (g : Function) × (function_of s.of.functions (word i 0) ≡ Some g)
  called_function =
      let some = call_least i.op (length i.args) on ((inside s entry right f in_it).formed i stands).least in
      function_found s.of.functions (word i 0) 0 (callee_there s.of f i.at (word i 0) (subst (λ q. is_there_in s.of f i.at q (word i 0) ≡ true) (call_callee i.op on) (there_by 0 some)))

  pub g_in : Contains s.of.functions called_function.0
  g_in = contains_found s.of.functions (word i 0) called_function.0 called_function.1

  pub named : (d : Inst) × IsDeclaredBy s entry right called_function.0 g_in d
  named = declared_by s entry right called_function.0 g_in

  abbrev pub d : Inst
  d = named.0

  pub right_call : is_miscalled Gs T i d ≡ false
  right_call =
      let w = flow_right s.of entry right f in_it i stands in
      let off : breaks_t21 s.of.functions Gs T i ≡ false = ap (is_flow_broken s.of f w.0 i) (sym (call_group i.op on)) ∙ w.1 in
      ap (λ q. option_map_or (is_miscalled Gs T i) q false) (sym named.1.is_it) ∙ (ap (λ q. option_map_or (is_miscalled Gs T i) (option_and_then (function_type Gs) q) false) (sym (callee_is s.of.functions (word i 0) called_function.0 called_function.1)) ∙ off)

  pub right_type : (is_other_result s.of.heads Gs (word d 0) || list_any (is_other_parameter s.of.heads Gs) (drop 1 d.args)) ≡ false
  right_type =
      and_off (is d.op code.TypeFunction) (is_other_result s.of.heads Gs (word d 0) || list_any (is_other_parameter s.of.heads Gs) (drop 1 d.args))
      (or_right (is_other_pointer Gs d) (is_other_function s.of.heads Gs d) (pointed_type s.of entry right d named.1.there)) named.1.on

  pub type_named : (k : ℕ) → k < length d.args → IsRow s entry right (slice_index d.args k)
  type_named k less =
      let has = operand_there (is_there Gs d.at) d (global_there s.of entry right d named.1.there) k less (function_id d.op d.args k named.1.on) in
      let h = some_by (suits AnyType) (earlier Gs d.at (slice_index d.args k)) (subst (λ q. is_there Gs d.at q (slice_index d.args k) ≡ true) (function_need d.op k named.1.on) has) in
      (h.0, (earlier_some Gs d.at (slice_index d.args k) h.0 h.1).0, h.2)

  pub given_type : (word d 0 ≡ i.ty) × IsRow s entry right (word d 0)
  given_type =
      let some = typed_some s entry right f in_it i stands (call_typed i.op on) in
      let own = local_row s entry right f in_it i stands some in
      let first = type_named 0 (function_least d.op (length d.args) named.1.on (right.formed d named.1.there).least) in
      (one_type s entry right f in_it (word d 0) i.ty first (own.0, own.1, type_suits i.op own.0 own.2) (or_left (differ Gs (word d 0) i.ty) (are_other_members Gs T (drop 1 d.args) (drop 1 i.args)) right_call), first)

  -- a call gives nothing, or a value
  pub given_value : (w : IsRow s entry right i.ty) → is w.0.op code.TypeVoid ≡ false → IsShaped s entry right i.ty
  given_value w no_void =
      let first = given_type.1 in
      let same : first.0 ≡ w.0 = same_Some first.0 w.0 (sym first.1 ∙ (ap (global Gs) given_type.0 ∙ w.1)) in
      let off : (not (is first.0.op code.TypeVoid) && is_no_value_type s.of.heads Gs (word d 0)) ≡ false =
      ap (λ q. option_map_or (λ (x : Inst). not (is x.op code.TypeVoid) && is_no_value_type s.of.heads Gs (word d 0)) q false) (sym first.1) ∙ or_left (is_other_result s.of.heads Gs (word d 0)) (list_any (is_other_parameter s.of.heads Gs) (drop 1 d.args)) right_type in
      let t = value_type_has s entry right (word d 0) first (and_off (not (is first.0.op code.TypeVoid)) (is_no_value_type s.of.heads Gs (word d 0)) off (ap (λ (x : Inst). not (is x.op code.TypeVoid)) same ∙ ap not no_void)) in
      (t.0, ap (type_tree Gs) (sym given_type.0) ∙ t.1)

  pub call_row : IsRow s entry right i.ty
  call_row = let own = local_row s entry right f in_it i stands (typed_some s entry right f in_it i stands (call_typed i.op on)) in (own.0, own.1, type_suits i.op own.0 own.2)
