-- What a live call asks for: its arguments are places that are written of declared words, or values of the block (T21).
use Rattle.std.proofs.Common.{◌≡◌, ◌<◌, ◌+◌, ◌==◌, ◌&&◌, ◌||◌, not, ℕ, suc, Bool, true, false, List, [], ◌∷◌, length, drop, Contains, Option, Some, None, refl, sym, ap, ◌∙◌, subst, arith, if◌then◌else◌}
use Rattle.std.specs.Prelude.{is_some, option_map, slice_get, slice_index, option_and_then}
use Rattle.std.specs.Option.{option_map_or}
use Rattle.std.specs.List.{list_any, zip}
use Rattle.std.proofs.lemmas.Bool.Decides.{nat_tests}
use Rattle.std.proofs.lemmas.Bool.{and_from}
use Rattle.std.proofs.lemmas.Option.{same_Some, none-some}
use Rattle.spv_ops.specs.Opcode.{is, number}
use Rattle.spv_ops.specs.OpGroups.{takes_of, group_of}
use Rattle.spv_ops.specs.Operands.{is_id}
use Rattle.spv_ops.specs.Shape.{shape}
use Rattle.spv_ops.specs.declared.Op.{Op}
use Rattle.spv_ops.specs.declared.Op.TheVariants as code
use Rattle.spv_module.specs.Held.{global}
use Rattle.spv_module.specs.declared.inst.Inst.{Inst}
use Rattle.spv_module.specs.declared.inst.Block.{Block}
use Rattle.spv_module.specs.declared.inst.Function.{Function}
use Rattle.spv_module.specs.declared.tree.Length.{Length}
use Rattle.spv_types.specs.Tree.{Tree}
use Rattle.spv_types.specs.Types.{type_tree}
use Rattle.spv_decor.specs.Rows.{word}
use Rattle.spv_index.specs.Locals.{insts_of, type_in}
use Rattle.spv_index.specs.Pointers.{pointee, as_pointer, pointee_of}
use Rattle.spv_index.specs.ValueTypes.{is_no_value_type}
use Rattle.profile_rules.specs.declared.needs.Need.TheVariants.{Callee, Value}
use Rattle.profile_rules.specs.Operands.{need, first_or, is_there_in}
use Rattle.profile_rules.specs.TypeRows.{differ, is_other}
use Rattle.profile_rules.specs.TypeForm.{is_no_variable, is_other_parameter, is_other_result}
use Rattle.profile_rules.specs.ValueRules.{are_other_members}
use Rattle.conformance.specs.Rules.{Options}
use Rattle.list_law.proofs.Lists.{behind_first, index_get}
use Rattle.list_law.proofs.Options.{none_some}
use Rattle.plan_law.specs.InOrder.{IsAmong}
use Rattle.module_semantics.specs.Setting.{Setting}
use Rattle.use_chains.specs.Slots.{is_value, is_taken, is_label_reached}
use Rattle.hoist_plan.specs.declared.form.Form.{Form}
use Rattle.hoist_plan.specs.declared.form.Form.TheVariants.{Gone, Forwarded, Local, Hoisted}
use Rattle.hoist_plan.specs.Plan as plan
use Rattle.hoist_plan.specs.Plan.{Placed, is_live, is_named_by_use, own_height, is_hoisted, form_with}
use Rattle.name_alloc.specs.Naming.{name_of}
use Rattle.glsl_ast.specs.Tree.{TranslationUnit}
use Rattle.glsl_grammar.specs.Read.{is_declared}
use Rattle.text_rules.specs.Printed.{is_written_struct}
use Rattle.text_rules.specs.Declarations.{length_extent}
use Rattle.expr_forward.specs.Scope.{Scope}
use Rattle.expr_forward.specs.Statements.{callee_text}
use Rattle.expr_forward.specs.declared.kinds.InstKind.TheVariants as kind
use Rattle.function_text.specs.Functions.{FunctionPlan}
use Rattle.unit_rules.specs.Translation.{Naming, id_text}
use Rattle.unit_rules.specs.Unit.{source_of, IsUnitOf}
use Rattle.claim_law.specs.Uses.{Words, UsesExtent}
use Rattle.claim_law.specs.Statements.{AsksSet, AsksArgument, AskArguments, MeetsInst}
use Rattle.typed_law.specs.Conforms.{IsConforming}
use Rattle.typed_law.proofs.Lists.{or_left, or_right}
use Rattle.typed_law.proofs.Types.{pointee_shaped}
use Rattle.typed_law.proofs.Values.{same_count, IsRow, HasType, same_type, typed_value, typed_result, inside, value_type_has}
use Rattle.typed_law.proofs.Others.{typed_some}
use Rattle.claim_law.specs.Claimed.{IsIn}
use Rattle.claim_law.proofs.Claim.Listed.{in_flat, at_place}
use Rattle.function_law.proofs.CaseGroups.{placed_below}
use Rattle.grammar_law.specs.Mentioned.{IsMentioned, IsValueIn}
use Rattle.grammar_law.specs.Words.{words_of, AreOfStructs}
use Rattle.grammar_law.specs.Types.{IsLengthOf}
use Rattle.grammar_law.proofs.Unit.Lists.{as_among, each_behind}
use Rattle.grammar_law.proofs.Unit.Forms.{placed}
use Rattle.grammar_law.proofs.Unit.Ways.{HaveKinds, F, R, V, plan_is, in_module}
use Rattle.grammar_law.proofs.Unit.Structs.{Written}
use Rattle.grammar_law.proofs.Unit.Chains.{place_uses}
use Rattle.grammar_law.proofs.Unit.Sets.{set_asked, no_zero}
use Rattle.grammar_law.proofs.Unit.Kept.{shaped_type}
use Rattle.grammar_law.proofs.Meets.LiveOrGone.{IsRun, told}
use Rattle.grammar_law.proofs.Unit.CallTypes.{call_typed, call_id, d, there_by, right_call, right_type, type_named, given_value, call_row}
use Rattle.grammar_law.proofs.Meets.PlaceMeets.{Way}

pub call_need : (o : Op) (k : ℕ) → is o code.FunctionCall ≡ true → need o (suc k) ≡ Value
unfolding number need takes_of group_of
call_need code.FunctionCall k on = behind k
  where
    behind : (k : ℕ) → first_or (suc k) Callee Value ≡ Value
    behind k = let off : (suc k == 0) ≡ false = grind (arith, nat_tests) in ap (λ (b : Bool). if b then Callee else Value) off
call_need o k on = cc

pub call_value : (o : Op) (k : ℕ) → is o code.FunctionCall ≡ true → is_value o (suc k) ≡ true
unfolding number takes_of group_of
call_value code.FunctionCall k on = no_zero k
call_value o k on = cc

call_no_phi : (o : Op) → is o code.FunctionCall ≡ true → is o code.Phi ≡ false
unfolding number
call_no_phi code.FunctionCall on = refl
call_no_phi o on = cc

pub value_no_void : (gs : List Inst) (ty : ℕ) (g : Inst) → global gs ty ≡ Some g → plan.is_value gs ty ≡ true → is g.op code.TypeVoid ≡ false
value_no_void gs ty g at value = by_void (is g.op code.TypeVoid) (is g.op code.TypePointer) (sym (ap (λ (q : Option Inst). not (option_map_or (λ (x : Inst). is x.op code.TypeVoid) q false || option_map_or (λ (x : Inst). is x.op code.TypePointer) q false)) at) ∙ value)
  where
    by_void : (a b : Bool) → not (a || b) ≡ true → a ≡ false
    by_void false b on = refl
    by_void true b on = cc

module _ (s : Setting) (entry : Option (List ℕ)) (right : IsConforming s.of entry) (kinds : HaveKinds s.of.globals) (o : Options) (unit : TranslationUnit) (u : IsUnitOf s.of o unit) (p : FunctionPlan) (among : IsIn p u.plans) (names : List (List ℕ)) (structs : AreOfStructs s.of.globals (name_of u.claimed) names) where
  abbrev Gs : List Inst
  Gs = s.of.globals

  abbrev Found : Naming
  Found = name_of u.claimed

  abbrev Fn : Function
  Fn = F s entry right kinds o unit u p among

  abbrev Marks : List Bool
  Marks = R s entry right kinds o unit u p among

  abbrev Where : Scope
  Where = V s entry right kinds o unit u p among

  abbrev T : ℕ → Option ℕ
  T = type_in s.of.globals Fn

  abbrev W : Words
  W = words_of s.of.globals (name_of u.claimed) names

  in_it : Contains s.of.functions Fn
  in_it = in_module s entry right kinds o unit u p among

  module _ (b : ℕ) (i : Inst) (r : IsRun s entry right kinds o unit u p among b i) (on : is i.op code.FunctionCall ≡ true)
      (pointer : (c n : ℕ) (j : Inst) → IsMentioned Fn Marks c j n → is j.op code.Phi ≡ false → (ty : ℕ) (t : Tree) → pointee_of Gs Fn n ≡ Some ty → type_tree Gs ty ≡ Some t → Way s entry right kinds o unit u p among names structs c n)
      (declared : (g : Inst) → IsIn g s.of.globals → is_written_struct (source_of s.of o u.entry) (Written s.of o unit u) g ≡ true → is_declared names (id_text (name_of u.claimed) g.result) ≡ true)
      (lengths : (l : Length) → IsLengthOf s.of.globals l → UsesExtent (words_of s.of.globals (name_of u.claimed) names) (length_extent (source_of s.of o u.entry) (id_text (name_of u.claimed)) l))
      (called : W.value (callee_text Where i)) where
    abbrev Usable : ℕ → Type 0
    Usable = IsValueIn Where Marks b

    stands : IsAmong i (insts_of Fn)
    stands = as_among (insts_of Fn) i (in_flat (λ (c : Block). c.insts) Fn.blocks r.holder i (at_place Fn.blocks b r.holder r.there) r.within)

    -- the type that its callee is declared with
    abbrev D : Inst
    D = d s entry right Fn in_it i stands on

    -- an argument, by the type of its parameter
    module _ (n ty : ℕ) (m : IsMentioned Fn Marks b i n) (typed : T n ≡ Some ty) (row : IsRow s entry right ty) (fit : is_other_parameter s.of.heads Gs ty ≡ false) where
      abbrev Asks : Bool → Type 0
      Asks = AsksArgument W Found Where Usable b n

      by_place : (q : ℕ) → pointee_of Gs Fn n ≡ Some q → (a : Bool) → is row.0.op code.TypePointer ≡ a → Asks true
      by_place q points true on_pointer =
          let w = pointee_shaped s.of entry right ty row.0 row.1 on_pointer in
          let same : w.0 ≡ q = same_Some w.0 q (sym w.2 ∙ (sym (ap (option_and_then (pointee Gs)) typed) ∙ points)) in
          place_uses s entry right Fn o unit u names Where.setting.global b n (pointer b n i m (call_no_phi i.op on) q w.1 points (ap (type_tree Gs) (sym same) ∙ w.3))
      by_place q points false off = none_some (sym (ap (option_map (λ (x : Inst). slice_index x.args 1)) is_pointer) ∙ (sym (ap (option_and_then (pointee Gs)) typed) ∙ points))
        where
          is_pointer : option_and_then as_pointer (global Gs ty) ≡ None
          is_pointer = ap (option_and_then as_pointer) row.1 ∙ ap (λ (x : Bool). if x then Some row.0 else None) off

      by_value : pointee_of Gs Fn n ≡ None → (a : Bool) → is row.0.op code.TypePointer ≡ a → Asks false
      by_value none true on_pointer =
          let w = pointee_shaped s.of entry right ty row.0 row.1 on_pointer in
          absurd (none-some w.0 (sym none ∙ (ap (option_and_then (pointee Gs)) typed ∙ w.2)))
      by_value none false off =
          let told_type : is_no_value_type s.of.heads Gs ty ≡ false =
          ap (λ (x : Bool). if x then is_no_variable s.of.heads Gs row.0 else is_no_value_type s.of.heads Gs ty) (sym off)
          ∙ (ap (λ q. option_map_or (λ (x : Inst). if is x.op code.TypePointer then is_no_variable s.of.heads Gs x else is_no_value_type s.of.heads Gs ty) q false) (sym row.1) ∙ fit) in
          let t = value_type_has s entry right ty row told_type in
          record { user = i; mentioned = m; no_phi = call_no_phi i.op on; shape = t.0; shaped = shaped_type (type_tree Gs) (T n) t.0 (ap (option_and_then (type_tree Gs)) typed ∙ t.1) }

      argument_asks : Asks (is_some (pointee_of Gs Fn n))
      argument_asks = by_pointee (pointee_of Gs Fn n) refl
        where
          by_pointee : (q : Option ℕ) → pointee_of Gs Fn n ≡ q → Asks (is_some (pointee_of Gs Fn n))
          by_pointee None none = subst (λ (q : Option ℕ). Asks (is_some q)) (sym none) (by_value none (is row.0.op code.TypePointer) refl)
          by_pointee (Some q) points = subst (λ (x : Option ℕ). Asks (is_some x)) (sym points) (by_place q points (is row.0.op code.TypePointer) refl)

    -- all of them
    record IsPassed (n : ℕ) : Type 0 where
      mentioned : IsMentioned Fn Marks b i n
      typed : HasType s entry right Fn in_it n

    arguments_ask : (tys ids : List ℕ) → length ids ≡ length tys → ((k : ℕ) → k < length tys → IsRow s entry right (slice_index tys k)) → list_any (is_other_parameter s.of.heads Gs) tys ≡ false → ((k n : ℕ) → slice_get ids k ≡ Some n → IsPassed n)
        → list_any (λ (q : ℕ × ℕ). is_other Gs T q.0 q.1) (zip tys ids) ≡ false → AskArguments W Found Where Usable b ids
    arguments_ask tys [] many rows fit each off = tt
    arguments_ask [] (n ∷ ns) many rows fit each off = absurd (omega (arith, many))
    arguments_ask (ty ∷ tys) (n ∷ ns) many rows fit each off =
        let row = rows 0 (let less : 0 < suc (length tys) = omega arith in less) in
        let w = each 0 n refl in
        let told_type : T n ≡ Some ty = same_type s entry right Fn in_it ty n row w.typed (or_left (is_other Gs T ty n) (list_any (λ (q : ℕ × ℕ). is_other Gs T q.0 q.1) (zip tys ns)) off) in (
          argument_asks n ty w.mentioned told_type row (or_left (is_other_parameter s.of.heads Gs ty) (list_any (is_other_parameter s.of.heads Gs) tys) fit),
          arguments_ask tys ns (let rest : length ns ≡ length tys = omega (arith, many) in rest) (λ k less. rows (suc k) (let more : suc k < suc (length tys) = omega (arith, less) in more))
              (or_right (is_other_parameter s.of.heads Gs ty) (list_any (is_other_parameter s.of.heads Gs) tys) fit) (λ k m at. each (suc k) m at) (or_right (is_other Gs T ty n) (list_any (λ (q : ℕ × ℕ). is_other Gs T q.0 q.1) (zip tys ns)) off),
        )

    passed : (k n : ℕ) → slice_get (drop 1 i.args) k ≡ Some n → IsPassed n
    passed k n at =
        let arg = behind_first i.args k n at in
        let less = placed_below i.args (suc k) n arg in
        record {
          mentioned = record {
            place = r.place;
            arg = suc k;
            there = r.at;
            here = r.here;
            live = r.live;
            slot = and_from (is_id i.op i.args (suc k)) (is_value i.op (suc k) && is_taken Fn Marks i (suc k)) (call_id i.op i.args (suc k) on)
                (and_from (is_value i.op (suc k)) (is_taken Fn Marks i (suc k)) (call_value i.op k on) (ap (λ (x : Bool). not x || is_label_reached Fn Marks (slice_index i.args (suc k + 1))) (call_no_phi i.op on)));
            word = arg;
          };
          typed = typed_value s entry right Fn in_it i.at n (subst (λ x. is_there_in s.of Fn i.at Value x ≡ true) (same_Some (slice_index i.args (suc k)) n (sym (index_get i.args (suc k) less) ∙ arg))
              (subst (λ q. is_there_in s.of Fn i.at q (slice_index i.args (suc k)) ≡ true) (call_need i.op k on) (there_by s entry right Fn in_it i stands on (suc k) less)));
        }

    passed_all : AskArguments W Found Where Usable b (drop 1 i.args)
    passed_all =
        let members = or_right (differ Gs (word D 0) i.ty) (are_other_members Gs T (drop 1 D.args) (drop 1 i.args)) (right_call s entry right Fn in_it i stands on) in
        let few = not (length (drop 1 i.args) == length (drop 1 D.args)) in
        let others = list_any (λ (q : ℕ × ℕ). is_other Gs T q.0 q.1) (zip (drop 1 D.args) (drop 1 i.args)) in
        arguments_ask (drop 1 D.args) (drop 1 i.args) (same_count (length (drop 1 i.args)) (length (drop 1 D.args)) (or_left few others members)) (each_behind (IsRow s entry right) D.args (type_named s entry right Fn in_it i stands on))
        (or_right (is_other_result s.of.heads Gs (word D 0)) (list_any (is_other_parameter s.of.heads Gs) (drop 1 D.args)) (right_type s entry right Fn in_it i stands on)) passed (or_right few others members)

    -- the result: nothing, or a value
    made : i.result ≡ 0 → ⊥
    made = ((inside s entry right Fn in_it).formed i stands).result (typed_result i.op (call_typed i.op on))

    abbrev P : Placed
    P = placed (plan_is s entry right kinds o unit u p among).links b i

    set_by_type : (v : Bool) → plan.is_value Gs i.ty ≡ v → AsksSet W Found Where Usable b i (Where.form i.result)
    set_by_type true value =
        let w = call_row s entry right Fn in_it i stands on in
        let t = given_value s entry right Fn in_it i stands on w (value_no_void Gs i.ty w.0 w.1 value) in
        set_asked s entry right kinds o unit u p among names structs b r.holder i r.there r.within made r.here (typed_some s entry right Fn in_it i stands (call_typed i.op on)) t.0 t.1 declared lengths (Where.form i.result) refl
    set_by_type false none =
        let w = told s entry right kinds o unit u p among b r.holder i r.there r.within made in
        subst (λ (x : Form). AsksSet W Found Where Usable b i x) (sym w.1) (unnamed w.0)
      where
        unnamed : (k : ℕ → Option ℕ) → AsksSet W Found Where Usable b i (form_with Gs Fn k (placed (plan_is s entry right kinds o unit u p among).links b i))
        unnamed k =
            subst (λ (v : Bool). AsksSet W Found Where Usable b i (if is_live P then (if v && (is_live P && (is_named_by_use Gs Fn P || (own_height k P == 17))) then (if is_hoisted Fn P then Hoisted else Local) else Forwarded) else Gone)) (sym none) (by_live (is_live P))
          where
            by_live : (l : Bool) → AsksSet W Found Where Usable b i (if l then Forwarded else Gone)
            by_live true = tt
            by_live false = tt

    pub call_asks : MeetsInst W Found Where Usable b i kind.Call
    call_asks = (set_by_type (plan.is_value Gs i.ty) refl, called, passed_all)
