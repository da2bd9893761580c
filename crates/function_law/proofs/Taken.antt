-- Where an edge is taken, each phi of its block has a source from the block where the edge begins: so of two blocks without an edge only a block without phis could be gone to.
use Rattle.std.proofs.Common.{◌≡◌, ℕ, true, false, List, [], ◌∷◌, Option, Some, None, inl, inr, refl, ap, ◌∙◌, subst}
use Rattle.std.specs.Prelude.{slice_get, option_and_then}
use Rattle.spv_module.specs.declared.inst.Inst.{Inst}
use Rattle.spv_module.specs.declared.inst.Block.{Block}
use Rattle.spv_module.specs.declared.inst.Function.{Function}
use Rattle.spv_types.specs.Tree.{ValueTree}
use Rattle.op_semantics.specs.Component.{each_one}
use Rattle.traces.specs.Outcomes.{Result}
use Rattle.module_semantics.specs.Setting.{Setting}
use Rattle.module_semantics.specs.State.{Frame, Conf}
use Rattle.module_semantics.specs.Operands.{value_at}
use Rattle.module_semantics.specs.Steps.{phis, phi_value, label_of, present_label, source_from}
use Rattle.glsl_ast.specs.Tree.{Text}
use Rattle.glsl_semantics.specs.Shapes.{Typed}
use Rattle.glsl_semantics.specs.States.{State}
use Rattle.glsl_semantics.specs.Expressions.{Program, Argument}
use Rattle.fits_law.proofs.Operations.{before_some}
use Rattle.agree_law.specs.Agree.{Naming, AreApart}
use Rattle.agree_law.specs.Blocks.{IsOf}
use Rattle.agree_law.specs.Points.{Body}
use Rattle.edge_law.proofs.Copies.{IsTaken}

-- a phi that has a value has a source
has_source : (s : Setting) (c : Frame) (label : ℕ) (i : Inst) (v : ValueTree) → phi_value s c label i ≡ Some v → (n : ℕ) × (source_from label i.args ≡ Some n)
has_source s c label i v e = by_source (source_from label i.args) refl e
  where
    by_source : (o : Option ℕ) → source_from label i.args ≡ o → option_and_then (value_at s c) o ≡ Some v → (n : ℕ) × (source_from label i.args ≡ Some n)
    by_source None is e = cc
    by_source (Some n) is e = (n, is)

all_sources : (s : Setting) (c : Frame) (label : ℕ) (is : List Inst) (vs : List ValueTree) → each_one (phi_value s c label) is ≡ Some vs → (i : Inst) → IsOf i is → (n : ℕ) × (source_from label i.args ≡ Some n)
all_sources s c label [] vs e i of = absurd of
all_sources s c label (j ∷ is) vs e i (inl same) = let b = before_some (phi_value s c label j) (each_one (phi_value s c label) is) vs e in subst (λ (x : Inst). (n : ℕ) × (source_from label x.args ≡ Some n)) same (has_source s c label j b.0 b.2)
all_sources s c label (j ∷ is) vs e i (inr of) = let b = before_some (phi_value s c label j) (each_one (phi_value s c label) is) vs e in all_sources s c label is b.1 b.3 i of

module _ (p : Program) (calls : Text → List Argument → State → Result (Option Typed × State)) (k : ℕ) (m : Naming) (apart : AreApart m) (chains : (q j : ℕ) → m.is_kept q j ≡ true → m.is_outer q ≡ false) (s : Setting) (Holds : Conf → Type 0) (f : Function) (body : (b : ℕ) → Option (Body f b)) where
  -- from the block with this label
  pub taken_sources : (b t : ℕ) (from : Conf) (block here : Block) (values : List ValueTree) → IsTaken p calls k m apart chains s Holds f body b t from block values → slice_get f.blocks b ≡ Some here → (i : Inst) → IsOf i (phis block) → (n : ℕ) × (source_from here.label.0 i.args ≡ Some n)
  taken_sources b t from block here values taken there =
      let label : present_label from.top ≡ here.label.0 = ap (λ (g : Function). label_of (slice_get g.blocks from.top.block)) taken.function ∙ (ap (λ n. label_of (slice_get f.blocks n)) taken.at ∙ ap label_of there) in
      all_sources s from.top here.label.0 (phis block) values (subst (λ l. each_one (phi_value s from.top l) (phis block) ≡ Some values) label taken.sources)
