-- What is known where an edge is taken: which ids are constants of the module, and that each phi of the block to which the edge leads has a source from the block where it begins.
use Rattle.std.proofs.Common.{◌≡◌, ℕ, true, false, List, [], ◌∷◌, Option, Some, None, inl, inr, refl, sym, ap, ◌∙◌, subst}
use Rattle.std.specs.Prelude.{slice_get, option_and_then}
use Rattle.std.specs.Option.{option_map_or}
use Rattle.spv_ops.specs.Groups.{is_constant as is_constant_op}
use Rattle.spv_ops.specs.declared.Op.TheVariants as code
use Rattle.spv_module.specs.declared.inst.Inst.{Inst}
use Rattle.spv_module.specs.declared.inst.Block.{Block}
use Rattle.spv_module.specs.declared.inst.Function.{Function}
use Rattle.spv_types.specs.Tree.{Tree, ValueTree}
use Rattle.op_semantics.specs.Component.{before, each_one}
use Rattle.profile_rules.specs.Constants.{constant_kind, value_by_kind}
use Rattle.profile_rules.specs.declared.constant.ConstantKind.{ConstantKind}
use Rattle.profile_rules.specs.declared.constant.ConstantKind.TheVariants as kinds
use Rattle.text_rules.specs.Constants.{is_constant}
use Rattle.function_plan.specs.Phis.{is_constant_id}
use Rattle.module_semantics.specs.Setting.{Setting}
use Rattle.module_semantics.specs.State.{Held, Frame}
use Rattle.module_semantics.specs.Operands.{value_at}
use Rattle.module_semantics.specs.Steps.{phis, phi_value, source_from, label_of, present_label}
use Rattle.list_law.proofs.Options.{no_some}
use Rattle.list_law.proofs.Tests.{clash}
use Rattle.fits_law.specs.State.{FrameFits}
use Rattle.agree_law.specs.Blocks.{IsOf}
use Rattle.type_law.specs.Shaped.{HaveResults, HasConstants}
use Rattle.type_law.proofs.Constants.{constant_of}
use Rattle.global_law.proofs.Constant.Standing.{kind_constant}
use Rattle.function_law.specs.Edges.{AreConstants}

-- an opcode whose results have values as constants is one of a constant
no_other : (h : ℕ → Option ValueTree) (chosen : Option ℕ) (t : Tree) (args : List ℕ) (k : ConstantKind) (v : ValueTree) → value_by_kind h chosen t args k ≡ Some v → k ≡ kinds.Other → ⊥
no_other h chosen t args k v is same = no_some v (sym (ap (value_by_kind h chosen t args) same) ∙ is)

-- A call has no value of its own for a constant, and nothing else has one as a constant.
pub constants_known : (s : Setting) (chosen : ℕ → Option ℕ) → HasConstants s chosen → HaveResults s.of.globals → (fs : List Function) (c : Frame) → FrameFits s fs c → AreConstants s.of.globals s c s.constants
constants_known s chosen have results fs c fit = record {
  same = λ n on. refl;
  unset = λ n on. by_held n on (c.ids n) refl;
  only = λ n off. by_value n off (s.constants n) refl;
}
  where
    by_held : (n : ℕ) → is_constant_id s.of.globals n ≡ true → (x : Option Held) → c.ids n ≡ x → x ≡ None
    by_held n on None at = refl
    by_held n on (Some h) at = clash (sym on ∙ ap (λ (q : Option Inst). option_map_or is_constant q false) (fit.0 n h at).0)

    by_value : (n : ℕ) → is_constant_id s.of.globals n ≡ false → (x : Option ValueTree) → s.constants n ≡ x → x ≡ None
    by_value n off None at = refl
    by_value n off (Some v) at =
        let w = constant_of s chosen have results n v at in
        let on : is_constant_op w.0.op ≡ true = kind_constant w.0.op (no_other w.1 (chosen w.0.result) w.2 w.0.args (constant_kind w.0.op) v w.6) in
        clash (sym (ap (λ (q : Option Inst). option_map_or is_constant q false) w.3 ∙ on) ∙ off)

-- what is there of all is there of each
each_has : (g : Inst → Option ValueTree) (is : List Inst) (vs : List ValueTree) → each_one g is ≡ Some vs → (i : Inst) → IsOf i is → (v : ValueTree) × (g i ≡ Some v)
each_has g [] vs all i one = absurd one
each_has g (x ∷ is) vs all i one = by_parts (g x) refl (each_one g is) refl all one (λ us told later. each_has g is us told i later)
  where
    by_parts : (a : Option ValueTree) → g x ≡ a → (rest : Option (List ValueTree)) → each_one g is ≡ rest → before a rest ≡ Some vs → IsOf i (x ∷ is) → ((us : List ValueTree) → each_one g is ≡ Some us → IsOf i is → (v : ValueTree) × (g i ≡ Some v)) → (v : ValueTree) × (g i ≡ Some v)
    by_parts None at rest told all one next = no_some vs all
    by_parts (Some v) at None told all one next = no_some vs all
    by_parts (Some v) at (Some us) told all (inl same) next = (v, subst (λ (y : Inst). g y ≡ Some v) same at)
    by_parts (Some v) at (Some us) told all (inr later) next = next us told later

-- So each phi has a source from the block where the edge begins.
pub phi_sources : (s : Setting) (f : Function) (b : ℕ) (from : Block) → slice_get f.blocks b ≡ Some from → (c : Frame) → c.function ≡ f → c.block ≡ b → (block : Block) (values : List ValueTree) → each_one (phi_value s c (present_label c)) (phis block) ≡ Some values
    → (i : Inst) → IsOf i (phis block) → (n : ℕ) × (source_from from.label.0 i.args ≡ Some n)
phi_sources s f b from there c function at block values all i one =
    let has = each_has (phi_value s c (present_label c)) (phis block) values all i one in
    by_source (source_from from.label.0 i.args) refl (subst (λ (l : ℕ). phi_value s c l i ≡ Some has.0) label_is has.1)
  where
    label_is : present_label c ≡ from.label.0
    label_is = ap (λ (g : Function). label_of (slice_get g.blocks c.block)) function ∙ (ap (λ (n : ℕ). label_of (slice_get f.blocks n)) at ∙ ap label_of there)

    by_source : {v : ValueTree} (x : Option ℕ) → source_from from.label.0 i.args ≡ x → option_and_then (value_at s c) (source_from from.label.0 i.args) ≡ Some v → (n : ℕ) × (source_from from.label.0 i.args ≡ Some n)
    by_source {v = v} None is e = no_some v (sym (ap (option_and_then (value_at s c)) is) ∙ e)
    by_source (Some n) is e = (n, is)
