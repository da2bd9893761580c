-- The memory semantics of a barrier are an OpConstant (A5), and a scalar OpConstant is written as a literal, as it has no SpecId (P11).
use Rattle.std.proofs.Common.{◌≡◌, ◌||◌, ◌&&◌, not, ℕ, Bool, true, false, List, Option, Some, None, refl, ap, ◌∙◌, subst, if◌then◌else◌}
use Rattle.std.specs.Prelude.{is_some, option_and_then}
use Rattle.std.specs.Option.{option_map_or}
use Rattle.std.proofs.lemmas.Bool.{and_from, not-false}
use Rattle.spv_words.specs.declared.rule.Rule.TheVariants.{A5}
use Rattle.spv_ops.specs.Opcode.{is, number}
use Rattle.spv_ops.specs.OpGroups.{group_of}
use Rattle.spv_ops.specs.declared.Op.{Op}
use Rattle.spv_ops.specs.declared.Op.TheVariants as code
use Rattle.spv_module.specs.Held.{global}
use Rattle.spv_module.specs.State.{ModuleState}
use Rattle.spv_module.specs.declared.inst.Inst.{Inst}
use Rattle.spv_module.specs.declared.inst.Function.{Function}
use Rattle.spv_types.specs.Tree.{Tree}
use Rattle.spv_types.specs.Types.{elem_of, type_tree}
use Rattle.spv_decor.specs.Rows as rows
use Rattle.spv_index.specs.Locals.{insts_of, type_in}
use Rattle.spv_index.specs.Steps.{constant_if, constant_word}
use Rattle.profile_rules.specs.Constants.{constant_kind, spec_id}
use Rattle.profile_rules.specs.AtomicRules.{is_other_value, is_semantics, breaks_a5}
use Rattle.profile_rules.specs.AccessRules.{breaks, broken_in, broken_at}
use Rattle.text_rules.specs.declared.readings.Reading.TheVariants.{Plain, GroupSize}
use Rattle.text_rules.specs.Constants.{Source, is_constant, is_scalar, if_free, free_spec_id, has_literal, reading_by_literal, reading_by_spec, reading, plain_value}
use Rattle.text_rules.specs.Declarations.{word_of}
use Rattle.expr_forward.specs.declared.kinds.InstKind.TheVariants as kind
use Rattle.expr_forward.specs.Kinds.{kind_of}
use Rattle.expr_forward.specs.Scope.{Setting, globals_in}
use Rattle.expr_forward.specs.Paths.{is_plain, is_number, literal_word}
use Rattle.plan_law.specs.InOrder.{IsAmong}
use Rattle.typed_law.specs.Conforms.{IsConforming}
use Rattle.typed_law.proofs.Lists.{and_off, some_by, some_part, none_at_fault}
use Rattle.global_law.specs.Items.{AreSpecIds, IsScalarSpec}
use Rattle.claim_law.specs.Claimed.{IsIn}
use Rattle.claim_law.proofs.Claim.Listed.{in_flat}
use Rattle.grammar_law.proofs.Unit.Lists.{contained, of_contained}

-- A5 of an instruction of a function
pub semantics_right : (m : ModuleState) (entry : Option (List ℕ)) (right : IsConforming m entry) (f : Function) → IsIn f m.functions → (i : Inst) → IsAmong i (insts_of f) → breaks_a5 m.globals f i ≡ false
semantics_right m entry right f in_it i there =
    none_at_fault (breaks m.heads m.globals f A5) (insts_of f) i
    (λ at has. right.accessed.1.1.1.1.1.1.1.1.1.0 at (contained (broken_at m A5) at (in_flat (broken_in m A5) m.functions f at in_it (of_contained (broken_in m A5 f) at has)))) there

pub control_op : (o : Op) → kind_of o ≡ kind.ControlBarrier → o ≡ code.ControlBarrier
unfolding kind_of group_of
control_op code.ControlBarrier e = refl
control_op o e = cc

pub memory_op : (o : Op) → kind_of o ≡ kind.MemoryBarrier → o ≡ code.MemoryBarrier
unfolding kind_of group_of
memory_op code.MemoryBarrier e = refl
memory_op o e = cc

-- An OpConstant is none of the composites that give the size of workgroups, has no SpecId, and is not calculated.
constant_op : (o : Op) → is o code.Constant ≡ true → o ≡ code.Constant
unfolding number
constant_op code.Constant on = refl
constant_op o on = cc

no_composite : (o : Op) (b : Bool) → o ≡ code.Constant → (((is o code.ConstantComposite) || (is o code.SpecConstantComposite)) && b) ≡ false
unfolding number
no_composite o b same = ap (λ (x : Op). ((is x code.ConstantComposite) || (is x code.SpecConstantComposite)) && b) same

no_calculation : (o : Op) → o ≡ code.Constant → not (is o code.SpecConstantOp) ≡ true
unfolding number
no_calculation o same = ap (λ (x : Op). not (is x code.SpecConstantOp)) same

no_spec : (o : Op) → o ≡ code.Constant → IsScalarSpec (constant_kind o) → ⊥
unfolding constant_kind
no_spec o same spec = subst (λ (x : Op). IsScalarSpec (constant_kind x)) same spec

is_constant_so : (g : Inst) → g.op ≡ code.Constant → is_constant g ≡ true
is_constant_so g same = ap (λ (x : Op). is_constant (record g { op = x })) same

constant_on : (t : Bool) (w x : ℕ) → (if t then Some w else None) ≡ Some x → t ≡ true
constant_on true w x e = refl
constant_on false w x e = cc

-- the id is that of an OpConstant
pub made_constant : (gs : List Inst) (f : Function) (n : ℕ) → is_other_value gs f is_semantics n ≡ false → is_some (type_in gs f n) ≡ true → (g : Inst) × (global gs n ≡ Some g) × (g.op ≡ code.Constant)
made_constant gs f n right typed =
    let w = some_by is_semantics (constant_word gs n) (not-false (option_map_or is_semantics (constant_word gs n) false) (and_off (is_some (type_in gs f n)) (not (option_map_or is_semantics (constant_word gs n) false)) right typed)) in
    let g = some_part constant_if (global gs n) w.0 w.1 in
    (g.0, g.1, constant_op g.0.op (constant_on (is g.0.op code.Constant) (rows.word g.0 0) w.0 g.2))

-- So it is written as a literal.
module _ (src : Source) (spec_ids : AreSpecIds src) (g : Inst) (there : IsAmong g src.of.globals) (same : g.op ≡ code.Constant) (t : Tree) (shape : type_tree src.of.globals g.ty ≡ Some t) (on : is_scalar t ≡ true) where
  no_id : free_spec_id src g.result ≡ None
  no_id = by_spec (spec_id src.of.heads g.result) refl
    where
      by_spec : (x : Option ℕ) → spec_id src.of.heads g.result ≡ x → option_and_then (if_free src.overrides) x ≡ None
      by_spec None e = refl
      by_spec (Some k) e = absurd (no_spec g.op same (spec_ids g there (ap is_some e)))

  literal_so : has_literal src g ≡ true
  literal_so = and_from (option_map_or is_scalar (type_tree src.of.globals g.ty) false) (not (is g.op code.SpecConstantOp)) (ap (λ (x : Option Tree). option_map_or is_scalar x false) shape ∙ on) (no_calculation g.op same)

  reads_plain : reading src g ≡ Plain
  reads_plain =
      ap (λ (b : Bool). if b then GroupSize else reading_by_spec src g (free_spec_id src g.result)) (no_composite g.op _ same)
      ∙ (ap (reading_by_spec src g) no_id ∙ ap reading_by_literal literal_so)

  pub literal_is : (w : Setting) → w.source ≡ src → is_number (elem_of t) ≡ true → literal_word w g ≡ Some (word_of (plain_value w.source g))
  unfolding literal_word
  literal_is w same_source number_so =
      ap (λ (b : Bool). if b then Some (word_of (plain_value w.source g)) else None)
      (and_from (is_constant g) (is_plain (reading w.source g) && is_number (option_and_then elem_of (type_tree (globals_in w) g.ty))) (is_constant_so g same)
      (and_from (is_plain (reading w.source g)) (is_number (option_and_then elem_of (type_tree (globals_in w) g.ty))) (ap (λ (x : Source). is_plain (reading x g)) same_source ∙ ap is_plain reads_plain)
      (ap (λ (x : Source). is_number (option_and_then elem_of (type_tree x.of.globals g.ty))) same_source ∙ (ap (λ (x : Option Tree). is_number (option_and_then elem_of x)) shape ∙ number_so))))
