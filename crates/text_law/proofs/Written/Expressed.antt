-- What stands in expressions is an operation or the length of an array: its operands stand in its expression; a phi never has a variable of its block alone.
use Rattle.std.proofs.Common.{◌≡◌, ◌⊎◌, ◌≤◌, ◌+◌, ◌==◌, ◌&&◌, ◌||◌, not, ℕ, Bool, true, false, List, [], ◌∷◌, drop, take, length, Option, Some, None, inl, inr, refl, sym, ap, ◌∙◌, subst, arith, if◌then◌else◌}
use Rattle.std.specs.Prelude.{slice_get, slice_index, nat_le, nat_lt}
use Rattle.std.specs.List.{list_any}
use Rattle.std.specs.Option.{option_map_or}
use Rattle.std.proofs.lemmas.Bool.{and_from, or_left as first_true, false_from_ne_true}
use Rattle.std.proofs.lemmas.Option.{none-some}
use Rattle.spv_ops.specs.Opcode.{is, number}
use Rattle.spv_ops.specs.OpGroups.{group_of}
use Rattle.spv_ops.specs.Groups.{is_chain}
use Rattle.spv_ops.specs.Shape.{shape, count_of, is_pure}
use Rattle.spv_ops.specs.Operands.{operands, ids_among}
use Rattle.spv_ops.specs.declared.Op.{Op}
use Rattle.spv_ops.specs.declared.Op.TheVariants as code
use Rattle.spv_module.specs.Inst.{has_type, has_result}
use Rattle.spv_module.specs.declared.inst.Inst.{Inst}
use Rattle.spv_module.specs.declared.inst.Block.{Block}
use Rattle.spv_module.specs.declared.inst.Function.{Function}
use Rattle.spv_types.specs.Tree.{Tree}
use Rattle.spv_types.specs.Types.{tree_at, type_tree}
use Rattle.spv_index.specs.Locals.{insts_of}
use Rattle.conformance.specs.Rules.{Options}
use Rattle.profile_rules.specs.MemoryRules.{is_pointer}
use Rattle.module_semantics.specs.Setting.{Setting}
use Rattle.module_semantics.specs.Operands.{value_operands}
use Rattle.module_semantics.specs.Steps as steps
use Rattle.module_semantics.specs.Steps.{step_kind, is_phi}
use Rattle.hoist_plan.specs.declared.form.Form.{Form}
use Rattle.hoist_plan.specs.declared.form.Form.TheVariants.{Gone, Forwarded, Local, Hoisted}
use Rattle.hoist_plan.specs.Plan.{Placed, is_live, is_value, is_always_named, wants_variable, is_named_by_use, own_height, is_named, is_elsewhere, is_hoisted, form_with, results, mentions_of}
use Rattle.glsl_ast.specs.Tree.{TranslationUnit}
use Rattle.expr_forward.specs.Kinds.{kind_of, operation_kind_of}
use Rattle.expr_forward.specs.Scope.{Scope}
use Rattle.expr_forward.specs.Statements.{is_variable_form}
use Rattle.function_text.specs.Functions.{FunctionPlan}
use Rattle.unit_rules.specs.Unit.{IsUnitOf}
use Rattle.list_law.proofs.Tests.{and_left}
use Rattle.region_law.specs.Leads.{In}
use Rattle.agree_law.specs.Blocks.{IsOf}
use Rattle.claim_law.specs.Ranked.{operand_ids}
use Rattle.call_law.specs.Known.{IsFunctionOf, LendsWhole}
use Rattle.plan_law.specs.Ordered.{AreOrdered}
use Rattle.plan_law.proofs.Order.{in_order}
use Rattle.typed_law.specs.Conforms.{IsConforming, IsFormed}
use Rattle.typed_law.proofs.Lists.{clash, and_off, or_left}
use Rattle.typed_law.proofs.Values.{typed_result, has_a_type, own_type, inside}
use Rattle.claim_law.specs.Claimed.{IsIn}
use Rattle.grammar_law.proofs.Unit.Lists.{as_among, in_block}
use Rattle.grammar_law.proofs.Unit.Forms.{placed as placed_at, is_placed, form_at}
use Rattle.grammar_law.proofs.Unit.Shaped.{shaped_value}
use Rattle.grammar_law.proofs.Unit.Operands.{ids_at, same_ids}
use Rattle.grammar_law.proofs.Unit.Ways.{HaveKinds, F, R, V, in_module, plan_is, ordered}
use Rattle.grammar_law.proofs.Formed.Inner.{is_inner}
use Rattle.text_law.proofs.Naming.Firsts.{of_in}
use Rattle.text_law.proofs.Written.Placed.{chain_step, variable_step, value_no_pointer}

-- opcodes whose results stand in expressions
kind_by : (o : Op) → has_type o ≡ true → is_chain o ≡ false → is o code.Variable ≡ false → is_always_named o ≡ false → ((step_kind o ≡ steps.operation) ⊎ (step_kind o ≡ steps.array_length)) × (is o code.Phi ≡ false)
unfolding step_kind group_of number shape
kind_by code.Load typed chain variable named = clash named
kind_by code.FunctionCall typed chain variable named = clash named
kind_by code.VectorInsertDynamic typed chain variable named = clash named
kind_by code.CompositeInsert typed chain variable named = clash named
kind_by code.Phi typed chain variable named = clash named
kind_by code.AtomicLoad typed chain variable named = clash named
kind_by code.AtomicStore typed chain variable named = clash named
kind_by code.AtomicExchange typed chain variable named = clash named
kind_by code.AtomicCompareExchange typed chain variable named = clash named
kind_by code.AtomicIIncrement typed chain variable named = clash named
kind_by code.AtomicIDecrement typed chain variable named = clash named
kind_by code.AtomicIAdd typed chain variable named = clash named
kind_by code.AtomicISub typed chain variable named = clash named
kind_by code.AtomicSMin typed chain variable named = clash named
kind_by code.AtomicUMin typed chain variable named = clash named
kind_by code.AtomicSMax typed chain variable named = clash named
kind_by code.AtomicUMax typed chain variable named = clash named
kind_by code.AtomicAnd typed chain variable named = clash named
kind_by code.AtomicOr typed chain variable named = clash named
kind_by code.AtomicXor typed chain variable named = clash named
kind_by code.AccessChain typed chain variable named = clash chain
kind_by code.InBoundsAccessChain typed chain variable named = clash chain
kind_by code.Variable typed chain variable named = clash variable
kind_by code.Store typed chain variable named = clash (sym typed)
kind_by code.ControlBarrier typed chain variable named = clash (sym typed)
kind_by code.MemoryBarrier typed chain variable named = clash (sym typed)
kind_by code.LoopMerge typed chain variable named = clash (sym typed)
kind_by code.SelectionMerge typed chain variable named = clash (sym typed)
kind_by code.Branch typed chain variable named = clash (sym typed)
kind_by code.BranchConditional typed chain variable named = clash (sym typed)
kind_by code.Switch typed chain variable named = clash (sym typed)
kind_by code.Return typed chain variable named = clash (sym typed)
kind_by code.ReturnValue typed chain variable named = clash (sym typed)
kind_by code.Unreachable typed chain variable named = clash (sym typed)
kind_by code.ArrayLength typed chain variable named = (inr refl, refl)
kind_by o typed chain variable named = (inl refl, refl)

-- a word among words
pub as_in : (k : ℕ) (xs : List ℕ) → In k xs → IsIn k xs
as_in k [] among = absurd among
as_in k (x ∷ xs) (inl same) = inl (sym same)
as_in k (x ∷ xs) (inr among) = inr (as_in k xs among)

alone : (args : List ℕ) (k : ℕ) → length args ≤ 1 → In k args → IsIn k (slice_index args 0 ∷ [])
alone [] k few among = absurd among
alone (a ∷ []) k few (inl same) = inl (sym same)
alone (a ∷ []) k few (inr none) = absurd none
alone (a ∷ b ∷ args) k few among = absurd (omega (arith, few))

first_of : (args : List ℕ) (k : ℕ) → In k (take 1 args) → IsIn k (slice_index args 0 ∷ [])
first_of [] k among = absurd among
first_of (a ∷ args) k (inl same) = inl (sym same)
first_of (a ∷ args) k (inr none) = absurd none

abbrev pub is_operation : steps.StepKind → Bool
is_operation steps.operation = true
is_operation _ = false

-- their operands that are values stand in the expression
pub operands_by : (o : Op) (args : List ℕ) (k : ℕ) → is_inner (group_of o) ≡ true → is_always_named o ≡ false → is_operation (step_kind o) ≡ true → 1 + count_of (has_type o) + count_of (has_result o) + length args ≤ (shape o).most → In k (value_operands o args) → IsIn k (ids_at (operation_kind_of o) o args)
unfolding step_kind group_of shape operation_kind_of kind_of
operands_by code.Nop args k inner named step most among = clash (sym inner)
operands_by code.SourceContinued args k inner named step most among = clash (sym inner)
operands_by code.Source args k inner named step most among = clash (sym inner)
operands_by code.SourceExtension args k inner named step most among = clash (sym inner)
operands_by code.Name args k inner named step most among = clash (sym inner)
operands_by code.MemberName args k inner named step most among = clash (sym inner)
operands_by code.String args k inner named step most among = clash (sym inner)
operands_by code.Line args k inner named step most among = clash (sym inner)
operands_by code.Extension args k inner named step most among = clash (sym inner)
operands_by code.ExtInstImport args k inner named step most among = clash (sym inner)
operands_by code.MemoryModel args k inner named step most among = clash (sym inner)
operands_by code.EntryPoint args k inner named step most among = clash (sym inner)
operands_by code.ExecutionMode args k inner named step most among = clash (sym inner)
operands_by code.Capability args k inner named step most among = clash (sym inner)
operands_by code.TypeVoid args k inner named step most among = clash (sym inner)
operands_by code.TypeBool args k inner named step most among = clash (sym inner)
operands_by code.TypeInt args k inner named step most among = clash (sym inner)
operands_by code.TypeVector args k inner named step most among = clash (sym inner)
operands_by code.TypeArray args k inner named step most among = clash (sym inner)
operands_by code.TypeRuntimeArray args k inner named step most among = clash (sym inner)
operands_by code.TypeStruct args k inner named step most among = clash (sym inner)
operands_by code.TypePointer args k inner named step most among = clash (sym inner)
operands_by code.TypeFunction args k inner named step most among = clash (sym inner)
operands_by code.ConstantTrue args k inner named step most among = clash (sym inner)
operands_by code.ConstantFalse args k inner named step most among = clash (sym inner)
operands_by code.Constant args k inner named step most among = clash (sym inner)
operands_by code.ConstantComposite args k inner named step most among = clash (sym inner)
operands_by code.ConstantNull args k inner named step most among = clash (sym inner)
operands_by code.SpecConstantTrue args k inner named step most among = clash (sym inner)
operands_by code.SpecConstantFalse args k inner named step most among = clash (sym inner)
operands_by code.SpecConstant args k inner named step most among = clash (sym inner)
operands_by code.SpecConstantComposite args k inner named step most among = clash (sym inner)
operands_by code.SpecConstantOp args k inner named step most among = clash (sym inner)
operands_by code.Function args k inner named step most among = clash (sym inner)
operands_by code.FunctionParameter args k inner named step most among = clash (sym inner)
operands_by code.FunctionEnd args k inner named step most among = clash (sym inner)
operands_by code.Decorate args k inner named step most among = clash (sym inner)
operands_by code.MemberDecorate args k inner named step most among = clash (sym inner)
operands_by code.Label args k inner named step most among = clash (sym inner)
operands_by code.NoLine args k inner named step most among = clash (sym inner)
operands_by code.ModuleProcessed args k inner named step most among = clash (sym inner)
operands_by code.ExecutionModeId args k inner named step most among = clash (sym inner)
operands_by code.Load args k inner named step most among = clash named
operands_by code.FunctionCall args k inner named step most among = clash named
operands_by code.VectorInsertDynamic args k inner named step most among = clash named
operands_by code.CompositeInsert args k inner named step most among = clash named
operands_by code.Phi args k inner named step most among = clash named
operands_by code.AtomicLoad args k inner named step most among = clash named
operands_by code.AtomicStore args k inner named step most among = clash named
operands_by code.AtomicExchange args k inner named step most among = clash named
operands_by code.AtomicCompareExchange args k inner named step most among = clash named
operands_by code.AtomicIIncrement args k inner named step most among = clash named
operands_by code.AtomicIDecrement args k inner named step most among = clash named
operands_by code.AtomicIAdd args k inner named step most among = clash named
operands_by code.AtomicISub args k inner named step most among = clash named
operands_by code.AtomicSMin args k inner named step most among = clash named
operands_by code.AtomicUMin args k inner named step most among = clash named
operands_by code.AtomicSMax args k inner named step most among = clash named
operands_by code.AtomicUMax args k inner named step most among = clash named
operands_by code.AtomicAnd args k inner named step most among = clash named
operands_by code.AtomicOr args k inner named step most among = clash named
operands_by code.AtomicXor args k inner named step most among = clash named
operands_by code.Variable args k inner named step most among = clash (sym step)
operands_by code.ArrayLength args k inner named step most among = clash (sym step)
operands_by code.AccessChain args k inner named step most among = clash (sym step)
operands_by code.InBoundsAccessChain args k inner named step most among = clash (sym step)
operands_by code.Store args k inner named step most among = clash (sym step)
operands_by code.ControlBarrier args k inner named step most among = clash (sym step)
operands_by code.MemoryBarrier args k inner named step most among = clash (sym step)
operands_by code.LoopMerge args k inner named step most among = clash (sym step)
operands_by code.SelectionMerge args k inner named step most among = clash (sym step)
operands_by code.Branch args k inner named step most among = clash (sym step)
operands_by code.BranchConditional args k inner named step most among = clash (sym step)
operands_by code.Switch args k inner named step most among = clash (sym step)
operands_by code.Return args k inner named step most among = clash (sym step)
operands_by code.ReturnValue args k inner named step most among = clash (sym step)
operands_by code.Unreachable args k inner named step most among = clash (sym step)
operands_by code.ExtInst args k inner named step most among = as_in k (drop 2 args) among
operands_by code.CopyObject args k inner named step most among = alone args k (omega (arith, most)) among
operands_by code.CopyLogical args k inner named step most among = alone args k (omega (arith, most)) among
operands_by code.CompositeExtract args k inner named step most among = first_of args k among
operands_by o args k inner named step most among = as_in k (ids_among (operands o) args) among

pub phi_result : (o : Op) → is o code.Phi ≡ true → has_result o ≡ true
unfolding number shape
phi_result code.Phi on = refl
phi_result o on = cc

-- forms, by what they are made of
abbrev form_of : Bool → Bool → Bool → Form
form_of live named hoisted = if live then (if named then (if hoisted then Hoisted else Local) else Forwarded) else Gone

hoisted_form : (live named phi elsewhere : Bool) → phi ≡ true → form_of live named (phi || elsewhere) ≡ Local → ⊥
hoisted_form true true true elsewhere on is = cc
hoisted_form true false true elsewhere on is = cc
hoisted_form false named true elsewhere on is = cc
hoisted_form live named false elsewhere on is = cc

forwarded_live : (live named hoisted : Bool) → form_of live named hoisted ≡ Forwarded → live ≡ true
forwarded_live true named hoisted is = refl
forwarded_live false named hoisted is = cc

forwarded_unnamed : (live named hoisted : Bool) → form_of live named hoisted ≡ Forwarded → named ≡ false
forwarded_unnamed live false hoisted is = refl
forwarded_unnamed true true true is = cc
forwarded_unnamed true true false is = cc
forwarded_unnamed false true hoisted is = cc

variable_named : (live named hoisted : Bool) → is_variable_form (form_of live named hoisted) ≡ true → named ≡ true
variable_named live true hoisted on = refl
variable_named true false hoisted on = cc
variable_named false false hoisted on = cc

live_variable : (live named hoisted : Bool) → is_variable_form (form_of live named hoisted) ≡ true → live ≡ true
live_variable true named hoisted on = refl
live_variable false named hoisted on = cc

formed_variable : (live named hoisted : Bool) → live ≡ true → named ≡ true → is_variable_form (form_of live named hoisted) ≡ true
formed_variable true true true on is = refl
formed_variable true true false on is = refl
formed_variable true false hoisted on is = cc
formed_variable false named hoisted on is = cc

module _ (s : Setting) (entry : Option (List ℕ)) (right : IsConforming s.of entry) where
  -- what has a shape has a type
  pub no_zero : (ty : ℕ) (t : Tree) → type_tree s.of.globals ty ≡ Some t → ty ≡ 0 → ⊥
  no_zero ty t shaped is = none-some t (sym (ap (λ (x : Option Inst). option_map_or (tree_at s.of.globals) x None) right.results.none) ∙ subst (λ (k : ℕ). type_tree s.of.globals k ≡ Some t) is shaped)

module _ (s : Setting) (entry : Option (List ℕ)) (right : IsConforming s.of entry) (kinds : HaveKinds s.of.globals) (o : Options) (unit : TranslationUnit) (u : IsUnitOf s.of o unit) (p : FunctionPlan) (among : IsIn p u.plans) where
  abbrev gs : List Inst
  gs = s.of.globals

  abbrev Fn : Function
  Fn = F s entry right kinds o unit u p among

  abbrev Where : Scope
  Where = V s entry right kinds o unit u p among

  module _ (j : Inst) (there : IsIn j (insts_of Fn)) where
    formed_so : IsFormed j
    formed_so = (inside s entry right Fn (in_module s entry right kinds o unit u p among)).formed j (as_among (insts_of Fn) j there)

    -- the form of a result
    module _ (some : j.result ≡ 0 → ⊥) where
      home : (c : ℕ) × (block : Block) × (slice_get Fn.blocks c ≡ Some block) × IsIn j block.insts
      home = in_block Fn.blocks j there

      abbrev P : Placed
      P = placed_at (plan_is s entry right kinds o unit u p among).links home.0 j

      in_text_order : AreOrdered Fn (results (plan_is s entry right kinds o unit u p among).links Fn)
      in_text_order = in_order s.of Fn (ordered s entry right kinds o unit u p among) (R s entry right kinds o unit u p among) (plan_is s entry right kinds o unit u p among).links (plan_is s entry right kinds o unit u p among).live

      told : (k : ℕ → Option ℕ) × (Where.form j.result ≡ form_with gs Fn k P)
      told = form_at gs Fn (plan_is s entry right kinds o unit u p among).links in_text_order P (is_placed (plan_is s entry right kinds o unit u p among).links Fn home.0 home.1 j home.2 home.3 some)

      no_local : is j.op code.Phi ≡ true → Where.form j.result ≡ Local → ⊥
      no_local on form = hoisted_form (is_live P) (is_named gs Fn told.0 P) (is j.op code.Phi) (list_any (is_elsewhere Fn P.block) P.mentions) on (sym told.1 ∙ form)

      -- what has a variable is a value
      pub variable_value : is_variable_form (Where.form j.result) ≡ true → is_value gs j.ty ≡ true
      variable_value on =
          and_left (is_value gs j.ty) (is_live P && (is_named_by_use gs Fn P || (own_height told.0 P == 17)))
          (variable_named (is_live P) (is_named gs Fn told.0 P) (is_hoisted Fn P) (sym (ap is_variable_form told.1) ∙ on))

      -- and it is live
      pub variable_live : is_variable_form (Where.form j.result) ≡ true → (not (is_pure j.op) || nat_lt 0 (length (mentions_of (plan_is s entry right kinds o unit u p among).links j.result))) ≡ true
      variable_live on = live_variable (is_live P) (is_named gs Fn told.0 P) (is_hoisted Fn P) (sym (ap is_variable_form told.1) ∙ on)

      -- a value that is named wherever it is live has one, where it is live by its effect
      pub always_variable : is_always_named j.op ≡ true → is_pure j.op ≡ false → is_value gs j.ty ≡ true → is_variable_form (Where.form j.result) ≡ true
      always_variable named effect value =
          ap is_variable_form told.1 ∙ formed_variable (is_live P) (is_named gs Fn told.0 P) (is_hoisted Fn P) live
          (and_from (is_value gs j.ty) (is_live P && (is_named_by_use gs Fn P || (own_height told.0 P == 17))) value
          (and_from (is_live P) (is_named_by_use gs Fn P || (own_height told.0 P == 17)) live
          (first_true (is_named_by_use gs Fn P) (own_height told.0 P == 17) (first_true (is_always_named j.op) (nat_le 2 (length P.mentions) || list_any (wants_variable gs Fn P.block) P.mentions) named))))
        where
          live : is_live P ≡ true
          live = first_true (not (is_pure j.op)) (nat_lt 0 (length P.mentions)) (ap not effect)

      -- what stands in expressions is not always named
      unnamed : Where.form j.result ≡ Forwarded → is_value gs j.ty ≡ true → is_always_named j.op ≡ false
      unnamed form value =
          let is = sym told.1 ∙ form in
          let live = forwarded_live (is_live P) (is_named gs Fn told.0 P) (is_hoisted Fn P) is in
          let off = forwarded_unnamed (is_live P) (is_named gs Fn told.0 P) (is_hoisted Fn P) is in
          let some_live = and_off (is_value gs P.ty) (is_live P && (is_named_by_use gs Fn P || (own_height told.0 P == 17))) off value in
          let used = and_off (is_live P) (is_named_by_use gs Fn P || (own_height told.0 P == 17)) some_live live in
          let by_use = or_left (is_named_by_use gs Fn P) (own_height told.0 P == 17) used in
          or_left (is_always_named P.op) (nat_le 2 (length P.mentions) || list_any (wants_variable gs Fn P.block) P.mentions) by_use

    pub local_no_phi : Where.form j.result ≡ Local → is_phi j ≡ false
    local_no_phi form = false_from_ne_true (is_phi j) (λ on. no_local (formed_so.result (phi_result j.op on)) on form)

    module _ (t : Tree) (shaped : type_tree gs j.ty ≡ Some t) (form : Where.form j.result ≡ Forwarded) where
      has_type_so : has_type j.op ≡ true
      has_type_so = has_a_type j formed_so (no_zero s entry right j.ty t shaped)

      pub unnamed_so : is_always_named j.op ≡ false
      unnamed_so = unnamed (formed_so.result (typed_result j.op has_type_so)) form (shaped_value gs j.ty t shaped)

      pub forwarded_operands : is_inner (group_of j.op) ≡ true → step_kind j.op ≡ steps.operation → (k : ℕ) → In k (value_operands j.op j.args) → IsIn k (operand_ids j)
      forwarded_operands inner step k operand =
          subst (IsIn k) (sym (same_ids (operation_kind_of j.op) j)) (operands_by j.op j.args k inner unnamed_so (ap is_operation step) formed_so.most operand)

      module _ (lends : LendsWhole s) (is_one : IsFunctionOf Fn s.of.functions) where
        of_it : IsOf j (insts_of Fn)
        of_it = of_in (insts_of Fn) j there

        no_pointer : is_pointer gs Fn j.result ≡ false
        no_pointer = value_no_pointer gs Fn j.result j.ty t (own_type s entry right Fn (in_module s entry right kinds o unit u p among) j (as_among (insts_of Fn) j there) (no_zero s entry right j.ty t shaped)) shaped

        pub forwarded_kind : ((step_kind j.op ≡ steps.operation) ⊎ (step_kind j.op ≡ steps.array_length)) × (is_phi j ≡ false)
        forwarded_kind =
            kind_by j.op has_type_so
            (false_from_ne_true (is_chain j.op) (λ on. clash (sym (lends.chains Fn is_one j of_it (chain_step j.op on)).1 ∙ no_pointer)))
            (false_from_ne_true (is j.op code.Variable) (λ on. clash (sym (lends.variables Fn is_one j of_it (variable_step j.op on)) ∙ no_pointer)))
            unnamed_so
