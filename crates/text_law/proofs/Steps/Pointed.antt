-- To what the pointer of a load, a store or an atomic instruction points.
use Rattle.std.proofs.Common.{◌≡◌, ℕ, true, false, List, length, Contains, Option, Some, sym, ap, ◌∙◌}
use Rattle.std.specs.Prelude.{slice_get}
use Rattle.std.specs.Option.{option_map_or}
use Rattle.spv_ops.specs.OpGroups.{group_of}
use Rattle.spv_ops.specs.declared.AtomicOp.{AtomicOp}
use Rattle.spv_module.specs.declared.inst.Inst.{Inst}
use Rattle.spv_module.specs.declared.inst.Function.{Function}
use Rattle.spv_types.specs.Tree.{Tree}
use Rattle.spv_types.specs.Types.{type_tree}
use Rattle.spv_decor.specs.Rows.{word}
use Rattle.spv_index.specs.Locals.{insts_of, type_in}
use Rattle.spv_index.specs.Pointers.{pointee_of}
use Rattle.spv_index.specs.ValueTypes.{is_no_value_type}
use Rattle.profile_rules.specs.NumberRules.{points_to_other, is_no_content}
use Rattle.profile_rules.specs.TypeRows.{is_pointer, value_fails, differ, is_other}
use Rattle.profile_rules.specs.TypeRules.{is_value_broken, is_number_broken}
use Rattle.module_semantics.specs.Setting.{Setting}
use Rattle.module_semantics.specs.Operands.{arg}
use Rattle.expr_forward.specs.declared.kinds.InstKind.TheVariants as kind
use Rattle.expr_forward.specs.Kinds.{kind_of}
use Rattle.plan_law.specs.InOrder.{IsAmong}
use Rattle.typed_law.specs.Conforms.{IsConforming}
use Rattle.typed_law.proofs.Lists.{or_left, or_right}
use Rattle.typed_law.proofs.Others.{target_of}
use Rattle.typed_law.proofs.Rules.{value_right, number_right}
use Rattle.typed_law.proofs.Values.{inside}
use Rattle.grammar_law.proofs.Unit.ResultShapes.{reads_first, IsReadAt, first_read, typed_read}
use Rattle.grammar_law.proofs.Unit.Steps.{at_index}
use Rattle.grammar_law.proofs.Meets.PlaceMeets.{pointer_of}
use Rattle.text_law.proofs.Steps.Stores.{load_group, store_group}
use Rattle.text_law.proofs.Steps.Atomics.{atomic_group}

module _ (s : Setting) (entry : Option (List ℕ)) (right : IsConforming s.of entry) (f : Function) (in_it : Contains s.of.functions f) (i : Inst) (there : IsAmong i (insts_of f)) where
  abbrev Gs : List Inst
  Gs = s.of.globals

  abbrev T : ℕ → Option ℕ
  T = type_in s.of.globals f

  -- the first operand is a pointer
  pub record IsPointed : Type 0 where
    pub first : IsReadAt i.op i.args 0
    pub word_is : slice_get i.args 0 ≡ Some (arg i 0)
    pub type : ℕ
    pub shape : Tree
    pub points : pointee_of s.of.globals f (arg i 0) ≡ Some type
    pub shaped : type_tree s.of.globals type ≡ Some shape

  pointed : reads_first (group_of i.op) ≡ true → value_fails is_pointer Gs T (word i 0) ≡ false → IsPointed
  pointed reads off =
      let first = first_read i.op i.args reads in
      let t = target_of s entry right f in_it (word i 0) (typed_read s entry right f in_it i there 0 first) off in
      record { first = first; word_is = at_index i.args 0 (first.many (length i.args) ((inside s entry right f in_it).formed i there).least); type = t.0; shape = t.1; points = t.2; shaped = t.3 }

  -- T4, T5, T25
  pub load_pointed : kind_of i.op ≡ kind.Load → IsPointed
  load_pointed e =
      let group = load_group i.op e in
      pointed (ap reads_first group)
      (or_left (value_fails is_pointer Gs T (word i 0)) (option_map_or (λ (q : ℕ). differ Gs q i.ty) (pointee_of Gs f (word i 0)) false)
      (or_right (is_no_value_type s.of.heads Gs i.ty) (points_to_other Gs T (word i 0) i.ty) (ap (is_value_broken s.of T i) (sym group) ∙ value_right s.of entry right f in_it i there)))

  pub store_pointed : kind_of i.op ≡ kind.Store → IsPointed
  store_pointed e =
      let group = store_group i.op e in
      pointed (ap reads_first group)
      (or_left (value_fails is_pointer Gs T (word i 0)) (option_map_or (λ (q : ℕ). is_other Gs T q (word i 1)) (pointee_of Gs f (word i 0)) false)
      (or_right (option_map_or (is_no_value_type s.of.heads Gs) (pointee_of Gs f (word i 0)) false) (is_no_content Gs T (word i 0) (word i 1)) (ap (is_value_broken s.of T i) (sym group) ∙ value_right s.of entry right f in_it i there)))

  pub atomic_pointed : (a : AtomicOp) → kind_of i.op ≡ kind.Atomic a → IsPointed
  atomic_pointed a e =
      let group = atomic_group i.op a e in
      pointed (ap reads_first group) (pointer_of Gs T i a (ap (is_number_broken Gs T i) (sym group) ∙ number_right s.of entry right f in_it i there))
