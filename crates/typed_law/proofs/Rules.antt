-- What the rules say of one global and of one instruction of a conforming module.
use Rattle.std.proofs.Common.{◌≡◌, ◌<◌, ◌+◌, ◌==◌, ◌||◌, ◌&&◌, not, ℕ, zero, suc, Bool, true, false, List, [], ◌∷◌, ◌++◌, length, Option, inl, inr, refl, sym, subst, arith}
use Rattle.std.specs.Prelude.{flat_map, Contains, slice_index}
use Rattle.std.specs.List.{list_any, enumerate_from}
use Rattle.std.proofs.lemmas.List.Elements.{Contains-append_left, Contains-append_right}
use Rattle.std.proofs.lemmas.Bool.{not-false}
use Rattle.spv_words.specs.declared.rule.Rule.{Rule}
use Rattle.spv_words.specs.declared.rule.Rule.TheVariants.{T1, T21, M4, A3}
use Rattle.spv_ops.specs.Enumerants.{class_number}
use Rattle.spv_ops.specs.Operands.{is_id}
use Rattle.spv_ops.specs.OpGroups.{group_of}
use Rattle.spv_ops.specs.declared.StorageClass.TheVariants as storage
use Rattle.spv_module.specs.State.{ModuleState}
use Rattle.spv_module.specs.Inst.{has_type}
use Rattle.spv_module.specs.declared.inst.Inst.{Inst}
use Rattle.spv_module.specs.declared.inst.Block.{Block}
use Rattle.spv_module.specs.declared.inst.Function.{Function}
use Rattle.spv_index.specs.Locals.{insts_of, type_in}
use Rattle.profile_rules.specs.declared.needs.Need.{Need}
use Rattle.profile_rules.specs.Operands.{need, type_need, lacks_operand, lacks, breaks_t1, breaks_t1_in, breaks_t1_of}
use Rattle.profile_rules.specs.FlowRules.{breaks_t21_of}
use Rattle.profile_rules.specs.TypeRules.{broken_if, broken_as, broken_inside, broken_by_global, broken_by_local, broken_by_block, broken_by_function, is_broken_in, is_value_broken, is_number_broken, is_flow_broken, rule_of}
use Rattle.profile_rules.specs.TypeForm.{is_misformed, is_misused, is_other_pointer, is_other_function}
use Rattle.profile_rules.specs.Variables.{is_other_input, is_other_initializer, is_other_class, is_misclassed}
use Rattle.profile_rules.specs.Places.{is_variable, places, body_insts}
use Rattle.spv_decor.specs.Decorations.{local_insts}
use Rattle.spv_decor.specs.Rows.{word}
use Rattle.profile_rules.specs.MemoryRules.{breaks_m4}
use Rattle.profile_rules.specs.AtomicRules.{breaks_a3}
use Rattle.profile_rules.specs.AccessRules.{breaks, broken_in}
use Rattle.list_law.proofs.Lists.{none_left, none_right}
use Rattle.list_law.proofs.Numbers.{same_count}
use Rattle.list_law.proofs.Tests.{or_left, or_right, and_off}
use Rattle.plan_law.specs.InOrder.{IsAmong}
use Rattle.plan_law.proofs.Listed.{flat}
use Rattle.plan_law.proofs.Conforming.{among_either}
use Rattle.type_law.proofs.Vectors.{three_off}
use Rattle.typed_law.specs.Conforms.{IsConforming}
use Rattle.typed_law.proofs.Lists.{none_by, none_among, any_at, none_at_fault}

pub refused : (b : Bool) (rule : Rule) (at : ℕ) → broken_if b rule at ≡ [] → b ≡ false
refused true rule at e = cc
refused false rule at e = refl

-- T1 of an instruction: its type and its operands are there
module _ (there : Need → ℕ → Bool) (i : Inst) (right : lacks there i ≡ false) where
  pub type_there : has_type i.op ≡ true → there (type_need i.op) i.ty ≡ true
  type_there has = not-false (there (type_need i.op) i.ty) (and_off (has_type i.op) (not (there (type_need i.op) i.ty)) (or_left (has_type i.op && not (there (type_need i.op) i.ty)) (list_any (lacks_operand there i) (enumerate_from 0 i.args)) right) has)

  pub operand_there : (k : ℕ) → k < length i.args → is_id i.op i.args k ≡ true → there (need i.op k) (slice_index i.args k) ≡ true
  operand_there k less has =
      let none = any_at (lacks_operand there i) i.args 0 k (or_right (has_type i.op && not (there (type_need i.op) i.ty)) (list_any (lacks_operand there i) (enumerate_from 0 i.args)) right) less in
      not-false (there (need i.op k) (slice_index i.args k)) (and_off (is_id i.op i.args k) (not (there (need i.op k) (slice_index i.args k))) (subst (λ n. lacks_operand there i (n, slice_index i.args k) ≡ false) (let same : 0 + k ≡ k = omega arith in same) none) has)

pub contains_flat : {A : Type 0} (g : A → List ℕ) (fs : List A) (f : A) (at : ℕ) → Contains fs f → Contains (g f) at → Contains (flat_map g fs) at
contains_flat g [] f at there own = let less = there.1 in absurd (omega (arith, less))
contains_flat g (h ∷ fs) f at (zero, less, same) own = Contains-append_left (g h) (flat_map g fs) at (subst (λ z. Contains (g z) at) (sym same) own)
contains_flat g (h ∷ fs) f at (suc k, less, same) own = Contains-append_right (g h) (flat_map g fs) at (contains_flat g fs f at (k, (let low : k < length fs = omega (arith, less) in low), same) own)

-- a block that has the instruction
local_none : (m : ModuleState) (f : Function) (i : Inst) (bs : List Block) → flat_map (broken_by_block m f) bs ≡ [] → IsAmong i (flat bs) → (b : Block) × (broken_by_local m f b i ≡ [])
local_none m f i [] e there = absurd there
local_none m f i (b ∷ bs) e there = elim (among_either i b.insts (flat bs) there) [
  | inl here ↦ (b, none_among (broken_by_local m f b) b.insts i (none_left (broken_by_block m f b) (flat_map (broken_by_block m f) bs) e) here)
  | inr later ↦ local_none m f i bs (none_right (broken_by_block m f b) (flat_map (broken_by_block m f) bs) e) later
]

module _ (m : ModuleState) (entry : Option (List ℕ)) (right : IsConforming m entry) where
  by_globals : flat_map (broken_by_global m) m.globals ≡ []
  by_globals = none_left (flat_map (broken_by_global m) m.globals) (flat_map (broken_by_function m) m.functions) right.typed

  by_functions : flat_map (broken_by_function m) m.functions ≡ []
  by_functions = none_right (flat_map (broken_by_global m) m.globals) (flat_map (broken_by_function m) m.functions) right.typed

  -- T1 of a global
  pub global_there : (g : Inst) → IsAmong g m.globals → breaks_t1 m.globals g ≡ false
  global_there g there = refused (breaks_t1 m.globals g) T1 g.at (none_left (broken_if (breaks_t1 m.globals g) T1 g.at) (broken_as m g g.op ++ broken_inside m g) (none_among (broken_by_global m) m.globals g by_globals there))

  -- P14, P16 of a variable, P17 to P19 of a type
  pub formed_type : (g : Inst) → IsAmong g m.globals → is_misformed m g ≡ false
  formed_type g there = none_at_fault (is_misformed m) m.globals g right.declared.1.1.1.1.1.1.1.1.1.1.1.1.1.0 there

  pub used_type : (g : Inst) → IsAmong g m.globals → is_misused m g ≡ false
  used_type g there = none_at_fault (is_misused m) m.globals g right.declared.1.1.1.1.1.1.1.1.1.1.1.1.0 there

  pub pointed_type : (g : Inst) → IsAmong g m.globals → (is_other_pointer m.globals g || is_other_function m.heads m.globals g) ≡ false
  pointed_type g there = none_at_fault (λ t. is_other_pointer m.globals t || is_other_function m.heads m.globals t) m.globals g right.declared.1.1.1.1.1.1.1.1.1.1.1.1.1.1.0 there

  pub input_right : (g : Inst) → IsAmong g (body_insts m) → is_other_input m.heads m.globals g ≡ false
  input_right g there = none_at_fault (is_other_input m.heads m.globals) (body_insts m) g right.declared.1.1.1.1.1.1.1.1.1.0 there

  pub initializer_right : (g : Inst) → IsAmong g (body_insts m) → is_other_initializer m g ≡ false
  initializer_right g there = none_at_fault (is_other_initializer m) (body_insts m) g right.declared.1.1.1.1.1.1.1.1.1.1.1.0 there

  -- what a function breaks
  module _ (f : Function) (in_it : Contains m.functions f) where
    by_function : broken_by_function m f ≡ []
    by_function = none_by (broken_by_function m) m.functions f by_functions in_it

    pub rest_of : broken_if (breaks_t21_of m.globals f) T21 f.at ++ flat_map (broken_by_block m f) f.blocks ≡ []
    rest_of = none_right (broken_if (breaks_t1_of m.globals f) T1 f.at) (broken_if (breaks_t21_of m.globals f) T21 f.at ++ flat_map (broken_by_block m f) f.blocks) by_function

    -- T1 and T21 of its types
    pub types_there : breaks_t1_of m.globals f ≡ false
    types_there = refused (breaks_t1_of m.globals f) T1 f.at (none_left (broken_if (breaks_t1_of m.globals f) T1 f.at) (broken_if (breaks_t21_of m.globals f) T21 f.at ++ flat_map (broken_by_block m f) f.blocks) by_function)

    pub declared_right : breaks_t21_of m.globals f ≡ false
    declared_right = refused (breaks_t21_of m.globals f) T21 f.at (none_left (broken_if (breaks_t21_of m.globals f) T21 f.at) (flat_map (broken_by_block m f) f.blocks) rest_of)

    -- T2 to T25 of an instruction, in a block of it
    pub inst_right : (i : Inst) → IsAmong i (insts_of f) → (b : Block) × (is_broken_in m f b i (group_of i.op) ≡ false)
    inst_right i there =
        let w = local_none m f i f.blocks (none_right (broken_if (breaks_t21_of m.globals f) T21 f.at) (flat_map (broken_by_block m f) f.blocks) rest_of) there in
        (w.0, refused (is_broken_in m f w.0 i (group_of i.op)) (rule_of (group_of i.op)) i.at (none_right (broken_if (breaks_t1_in m f i) T1 i.at) (broken_if (is_broken_in m f w.0 i (group_of i.op)) (rule_of (group_of i.op)) i.at) w.1))

    pub value_right : (i : Inst) → IsAmong i (insts_of f) → is_value_broken m (type_in m.globals f) i (group_of i.op) ≡ false
    value_right i there = let w = inst_right i there in (three_off (is_value_broken m (type_in m.globals f) i (group_of i.op)) (is_number_broken m.globals (type_in m.globals f) i (group_of i.op)) (is_flow_broken m f w.0 i (group_of i.op)) w.1).0

    pub number_right : (i : Inst) → IsAmong i (insts_of f) → is_number_broken m.globals (type_in m.globals f) i (group_of i.op) ≡ false
    number_right i there = let w = inst_right i there in (three_off (is_value_broken m (type_in m.globals f) i (group_of i.op)) (is_number_broken m.globals (type_in m.globals f) i (group_of i.op)) (is_flow_broken m f w.0 i (group_of i.op)) w.1).1

    pub flow_right : (i : Inst) → IsAmong i (insts_of f) → (b : Block) × (is_flow_broken m f b i (group_of i.op) ≡ false)
    flow_right i there = let w = inst_right i there in (w.0, (three_off (is_value_broken m (type_in m.globals f) i (group_of i.op)) (is_number_broken m.globals (type_in m.globals f) i (group_of i.op)) (is_flow_broken m f w.0 i (group_of i.op)) w.1).2)

  -- P13 of a variable in a function: it is of class Function
  class_right : (v : Inst) → IsAmong v (local_insts m) → is_misclassed true m.globals v ≡ false
  class_right v there = none_at_fault (is_misclassed true m.globals) (local_insts m) v (λ at has. right.declared.1.1.1.1.1.1.1.1.0 at (Contains-append_right (places (is_misclassed false m.globals) m.globals) (places (is_misclassed true m.globals) (local_insts m)) at has)) there

  pub function_class : (v : Inst) → IsAmong v (local_insts m) → is_variable v ≡ true → word v 0 ≡ class_number storage.Function
  function_class v there on =
      same_count (word v 0) (class_number storage.Function)
      (or_right (is_other_class m.globals v) (not (word v 0 == class_number storage.Function)) (and_off (is_variable v) (is_other_class m.globals v || not (word v 0 == class_number storage.Function)) (class_right v there) on))

  -- M4 of a call
  pub call_right : (f : Function) → Contains m.functions f → (i : Inst) → IsAmong i (insts_of f) → breaks_m4 m.globals f i ≡ false
  call_right f in_it i there = none_at_fault (breaks m.heads m.globals f M4) (insts_of f) i (λ at has. right.accessed.1.1.1.0 at (contains_flat (broken_in m M4) m.functions f at in_it has)) there

  -- A3 of an instruction of a function
  pub access_right : (f : Function) → Contains m.functions f → (i : Inst) → IsAmong i (insts_of f) → breaks_a3 m.heads m.globals f i ≡ false
  access_right f in_it i there = none_at_fault (breaks m.heads m.globals f A3) (insts_of f) i (λ at has. right.accessed.1.1.1.1.1.1.1.0 at (contains_flat (broken_in m A3) m.functions f at in_it has)) there
