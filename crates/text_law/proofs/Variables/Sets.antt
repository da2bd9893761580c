-- Results that have the form Local are those of instructions that are written as declarations.
use Rattle.std.proofs.Common.{◌≡◌, ◌&&◌, ◌||◌, ◌==◌, not, ◌⊎◌, ℕ, Bool, true, false, List, Option, Some, inl, inr, refl, sym, ap, ◌∙◌, subst, if◌then◌else◌}
use Rattle.std.specs.Prelude.{slice_get}
use Rattle.std.specs.List.{list_any}
use Rattle.std.specs.Option.{option_map_or}
use Rattle.std.proofs.lemmas.Bool.{or_right}
use Rattle.spv_ops.specs.Opcode.{is, number}
use Rattle.spv_ops.specs.OpGroups.{group_of}
use Rattle.spv_ops.specs.Shape.{shape}
use Rattle.spv_ops.specs.declared.Op.{Op}
use Rattle.spv_ops.specs.declared.Op.TheVariants as code
use Rattle.spv_ops.specs.declared.OpGroup.{OpGroup}
use Rattle.spv_ops.specs.declared.OpGroup.TheVariants as groups
use Rattle.spv_module.specs.Inst.{has_type}
use Rattle.spv_module.specs.Held.{global}
use Rattle.spv_module.specs.declared.inst.Inst.{Inst}
use Rattle.spv_module.specs.declared.inst.Block.{Block}
use Rattle.spv_module.specs.declared.inst.Function.{Function}
use Rattle.spv_index.specs.Locals.{insts_of}
use Rattle.conformance.specs.Rules.{Options}
use Rattle.module_semantics.specs.Setting.{Setting}
use Rattle.hoist_plan.specs.declared.form.Form.TheVariants.{Gone, Forwarded, Local, Hoisted}
use Rattle.hoist_plan.specs.Plan.{Placed, results, is_live, is_named, is_named_by_use, own_height, is_value, is_hoisted, is_elsewhere, form_with}
use Rattle.glsl_ast.specs.Tree.{TranslationUnit}
use Rattle.expr_forward.specs.declared.kinds.InstKind.{InstKind}
use Rattle.expr_forward.specs.declared.kinds.InstKind.TheVariants as kind
use Rattle.expr_forward.specs.Scope.{Scope}
use Rattle.expr_forward.specs.Kinds.{kind_of}
use Rattle.expr_forward.specs.Statements.{is_void, has_result}
use Rattle.function_text.specs.Functions.{FunctionPlan}
use Rattle.unit_rules.specs.Unit.{IsUnitOf}
use Rattle.list_law.proofs.Tests.{clash}
use Rattle.plan_law.specs.Ordered.{AreOrdered}
use Rattle.plan_law.proofs.Order.{in_order}
use Rattle.plan_law.specs.InOrder.{IsAmong}
use Rattle.typed_law.specs.Conforms.{IsConforming}
use Rattle.claim_law.specs.Claimed.{IsIn}
use Rattle.claim_law.proofs.Claim.Listed.{in_flat, at_place}
use Rattle.grammar_law.proofs.Unit.Lists.{in_block, as_among, same_test, test_same}
use Rattle.grammar_law.proofs.Unit.Forms.{placed, is_placed, form_at, unmade_gone}
use Rattle.grammar_law.proofs.Unit.Ways.{HaveKinds, F, R, V, ordered, plan_is, in_module}
use Rattle.grammar_law.proofs.Unit.ResultShapes.{stands_inside}
use Rattle.grammar_law.proofs.Unit.ResultTypes.{own_row, chain_pointer, variable_pointer}
use Rattle.text_law.specs.Variables.{is_local}
use Rattle.text_law.proofs.Variables.Blocks.{IsSet}

-- kinds that may be written as declarations
abbrev may_set : InstKind → Bool
may_set kind.Load = true
may_set kind.Store = false
may_set kind.Call = true
may_set (kind.Atomic a) = has_result a
may_set kind.ControlBarrier = false
may_set kind.MemoryBarrier = false
may_set kind.Chain = false
may_set kind.CompositeInsert = true
may_set kind.VectorInsertDynamic = true
may_set (kind.Value v) = true
may_set kind.Silent = false

abbrev is_unset : OpGroup → Bool
is_unset groups.Chain = true
is_unset groups.Variable = true
is_unset groups.Phi = true
is_unset _ = false

unset_by : (o : Op) → (not (has_type o && (stands_inside (group_of o) && not (may_set (kind_of o)))) || is_unset (group_of o)) ≡ true
unfolding kind_of group_of shape
unset_by code.Load = refl
unset_by o = refl

phi_op : (o : Op) → group_of o ≡ groups.Phi → is o code.Phi ≡ true
unfolding group_of number
phi_op code.Phi e = refl
phi_op o e = cc

unset_cases : (g : OpGroup) → is_unset g ≡ true → (g ≡ groups.Chain) ⊎ ((g ≡ groups.Variable) ⊎ (g ≡ groups.Phi))
unset_cases groups.Chain e = inl refl
unset_cases groups.Variable e = inr (inl refl)
unset_cases groups.Phi e = inr (inr refl)
unset_cases g e = cc

-- so it is of all instructions of a function
abbrev pub AreSet : Scope → Type 0
AreSet w = (b : ℕ) (block : Block) → slice_get w.setting.function.blocks b ≡ Some block → (i : Inst) → IsIn i block.insts → IsSet w i (kind_of i.op)

module _ (s : Setting) (entry : Option (List ℕ)) (right : IsConforming s.of entry) (kinds : HaveKinds s.of.globals) (o : Options) (unit : TranslationUnit) (u : IsUnitOf s.of o unit) (p : FunctionPlan) (among : IsIn p u.plans)
    (inner : (i : Inst) → IsAmong i (insts_of (F s entry right kinds o unit u p among)) → (stands_inside (group_of i.op) ≡ true) × (has_type i.op ≡ false → i.result ≡ 0)) where
  abbrev gs : List Inst
  gs = s.of.globals

  abbrev Fn : Function
  Fn = F s entry right kinds o unit u p among

  abbrev Where : Scope
  Where = V s entry right kinds o unit u p among

  stands : (i : Inst) → IsAmong i (insts_of Fn) → stands_inside (group_of i.op) ≡ true
  stands i there = (inner i there).0

  module _ (i : Inst) (there_in : IsIn i (insts_of Fn)) where
    there : IsAmong i (insts_of Fn)
    there = as_among (insts_of Fn) i there_in

    zero_local : i.result ≡ 0 → is_local (Where.form i.result) ≡ false
    zero_local zero = ap (λ (n : ℕ). is_local (Where.form n)) zero ∙ ap is_local (unmade_gone gs Fn (plan_is s entry right kinds o unit u p among).links)

    -- the form of a result
    abbrev FormAt : Type 0
    FormAt = (P : Placed) × (k : ℕ → Option ℕ) × (Where.form i.result ≡ form_with gs Fn k P) × (P.ty ≡ i.ty) × (P.op ≡ i.op)

    form_of : (i.result == 0) ≡ false → FormAt
    form_of off =
        let home = in_block Fn.blocks i there_in in
        let links = (plan_is s entry right kinds o unit u p among).links in
        let order : AreOrdered Fn (results links Fn) = in_order s.of Fn (ordered s entry right kinds o unit u p among) (R s entry right kinds o unit u p among) links (plan_is s entry right kinds o unit u p among).live in
        let told = form_at gs Fn links order (placed links home.0 i) (is_placed links Fn home.0 home.1 i home.2 home.3 (λ zero. clash (sym (same_test i.result 0 zero) ∙ off))) in
        (placed links home.0 i, told.0, told.1, refl, refl)

    -- what is no value has no variable
    no_value : is_value gs i.ty ≡ false → is_local (Where.form i.result) ≡ false
    no_value off = by_zero (i.result == 0) refl
      where
        unnamed : (l n h : Bool) → n ≡ false → is_local (if l then (if n then (if h then Hoisted else Local) else Forwarded) else Gone) ≡ false
        unnamed true true h off = cc
        unnamed true false h off = refl
        unnamed false n h off = refl

        by_zero : (q : Bool) → (i.result == 0) ≡ q → is_local (Where.form i.result) ≡ false
        by_zero true e = zero_local (test_same i.result 0 e)
        by_zero false e =
            let w = form_of e in
            ap is_local w.2 ∙ unnamed (is_live w.0) (is_named gs Fn w.1 w.0) (is_hoisted Fn w.0) (ap (λ (v : Bool). v && (is_live w.0 && (is_named_by_use gs Fn w.0 || (own_height w.1 w.0 == 17)))) (ap (is_value gs) w.3 ∙ off))

    pointer_no_value : (g : Inst) → global gs i.ty ≡ Some g → is g.op code.TypePointer ≡ true → is_value gs i.ty ≡ false
    pointer_no_value g at on = ap (λ (x : Option Inst). not (option_map_or (λ (y : Inst). is y.op code.TypeVoid) x false || option_map_or (λ (y : Inst). is y.op code.TypePointer) x false)) at ∙ ap not (or_right (is g.op code.TypeVoid) (is g.op code.TypePointer) on)

    void_no_value : is_void Where i.ty ≡ true → is_value gs i.ty ≡ false
    void_no_value on = ap (λ (a : Bool). not (a || option_map_or (λ (y : Inst). is y.op code.TypePointer) (global gs i.ty) false)) on

    -- a phi that has a variable is declared at the top
    phi_no_local : is i.op code.Phi ≡ true → is_local (Where.form i.result) ≡ false
    phi_no_local phi = by_zero (i.result == 0) refl
      where
        hoisted_form : (l n h : Bool) → h ≡ true → is_local (if l then (if n then (if h then Hoisted else Local) else Forwarded) else Gone) ≡ false
        hoisted_form true true true on = refl
        hoisted_form true true false on = cc
        hoisted_form true false h on = refl
        hoisted_form false n h on = refl

        by_zero : (q : Bool) → (i.result == 0) ≡ q → is_local (Where.form i.result) ≡ false
        by_zero true e = zero_local (test_same i.result 0 e)
        by_zero false e =
            let w = form_of e in
            ap is_local w.2 ∙ hoisted_form (is_live w.0) (is_named gs Fn w.1 w.0) (is_hoisted Fn w.0) (ap (λ (a : Bool). a || list_any (is_elsewhere Fn w.0.block) w.0.mentions) (ap (λ (x : Op). is x code.Phi) w.4 ∙ phi))

    typed_unset : has_type i.op ≡ true → may_set (kind_of i.op) ≡ false → is_local (Where.form i.result) ≡ false
    typed_unset has off = by_group (unset_cases (group_of i.op) (by_parts (has_type i.op) (stands_inside (group_of i.op)) (may_set (kind_of i.op)) (is_unset (group_of i.op)) has (inner i there).0 off (unset_by i.op)))
      where
        by_parts : (a b c d : Bool) → a ≡ true → b ≡ true → c ≡ false → (not (a && (b && not c)) || d) ≡ true → d ≡ true
        by_parts true true false d x y z e = e
        by_parts false b c d x y z e = cc
        by_parts true false c d x y z e = cc
        by_parts true true true d x y z e = cc

        by_group : (group_of i.op ≡ groups.Chain) ⊎ ((group_of i.op ≡ groups.Variable) ⊎ (group_of i.op ≡ groups.Phi)) → is_local (Where.form i.result) ≡ false
        by_group (inl chain) =
            let row = own_row s entry right kinds Fn (in_module s entry right kinds o unit u p among) stands i there has in
            no_value (pointer_no_value row.0 row.1 (chain_pointer s entry right kinds Fn (in_module s entry right kinds o unit u p among) stands i there has chain))
        by_group (inr (inl variable)) =
            let row = own_row s entry right kinds Fn (in_module s entry right kinds o unit u p among) stands i there has in
            no_value (pointer_no_value row.0 row.1 (variable_pointer s entry right kinds Fn (in_module s entry right kinds o unit u p among) stands i there has variable))
        by_group (inr (inr phi)) = phi_no_local (phi_op i.op phi)

    unset : may_set (kind_of i.op) ≡ false → is_local (Where.form i.result) ≡ false
    unset off = by_type (has_type i.op) refl
      where
        by_type : (t : Bool) → has_type i.op ≡ t → is_local (Where.form i.result) ≡ false
        by_type true has = typed_unset has off
        by_type false none = zero_local ((inner i there).1 none)

    set_so : IsSet Where i (kind_of i.op)
    set_so = by_kind (kind_of i.op) (λ off. unset off)
      where
        by_kind : (k : InstKind) → (may_set k ≡ false → is_local (Where.form i.result) ≡ false) → IsSet Where i k
        by_kind kind.Load none off = cc
        by_kind kind.Store none off = none refl
        by_kind kind.Call none off = no_value (void_no_value (by_void (is_void Where i.ty) off))
          where
            by_void : (v : Bool) → (if v then false else true) ≡ false → v ≡ true
            by_void true e = refl
            by_void false e = cc
        by_kind (kind.Atomic a) none off = none off
        by_kind kind.ControlBarrier none off = none refl
        by_kind kind.MemoryBarrier none off = none refl
        by_kind kind.Chain none off = none refl
        by_kind kind.CompositeInsert none off = cc
        by_kind kind.VectorInsertDynamic none off = cc
        by_kind (kind.Value v) none off = cc
        by_kind kind.Silent none off = none refl

  -- The law, by the plan's own scope.
  pub are_set : AreSet p.scope
  are_set =
      subst AreSet (sym (plan_is s entry right kinds o unit u p among).scope_is)
      (λ b block at i there. set_so i (in_flat (λ (c : Block). c.insts) Fn.blocks block i (at_place Fn.blocks b block at) there))
