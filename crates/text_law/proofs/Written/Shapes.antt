-- The shape that a function's naming gives a value is that of its type; and a value that something has is one of its type.
use Rattle.std.proofs.Common.{◌≡◌, ◌⊎◌, ℕ, Bool, true, List, [], Option, Some, None, inl, inr, refl, ap, ◌∙◌, subst, unwrap_or}
use Rattle.std.specs.Prelude.{option_and_then, option_map}
use Rattle.std.specs.Option.{option_map_or}
use Rattle.spv_module.specs.State.{ModuleState}
use Rattle.spv_module.specs.declared.inst.Inst.{Inst}
use Rattle.spv_module.specs.declared.inst.Function.{Function}
use Rattle.spv_module.specs.declared.tree.Length.{Length}
use Rattle.spv_module.specs.declared.tree.Length.TheVariants.{Fixed, Spec}
use Rattle.spv_types.specs.Tree as plain
use Rattle.spv_types.specs.Tree.{Tree, ValueTree, truth, word}
use Rattle.spv_types.specs.Types.{type_tree}
use Rattle.spv_index.specs.Locals.{type_in}
use Rattle.spv_index.specs.Pointers.{pointee}
use Rattle.op_semantics.specs.Fits.{fits}
use Rattle.conformance.specs.Rules.{Options}
use Rattle.traces.specs.Invocations.{Invocation}
use Rattle.module_semantics.specs.Setting.{Setting, global_variable}
use Rattle.module_semantics.specs.State.{global, Held, value, pointer, Frame}
use Rattle.module_semantics.specs.Operands as operands
use Rattle.module_semantics.specs.Operands.{of_module, value_at}
use Rattle.glsl_ast.specs.Tree.{TranslationUnit}
use Rattle.text_rules.specs.Declarations.{shape_at}
use Rattle.function_text.specs.Functions.{FunctionPlan, written}
use Rattle.unit_rules.specs.Unit.{IsUnitOf}
use Rattle.fits_law.specs.State.{value_shape, HasShape, IdsFit, ModuleFits}
pub use Rattle.fits_law.proofs.Steps.{has_is as has_shape}
use Rattle.global_law.specs.Parts.{shape_in}
use Rattle.global_law.specs.Walks.{struct_names}
use Rattle.global_law.specs.Sources.{source_of}
use Rattle.grammar_law.proofs.Unit.ValueNames.{no_pointer}
use Rattle.text_law.proofs.Naming.Keys.{S, key, names}

as_itself : (o : Option ℕ) (ty : ℕ) → unwrap_or o ty ≡ option_map_or (λ (p : ℕ). p) o ty
as_itself None ty = refl
as_itself (Some p) ty = refl

module _ (m : ModuleState) (opts : Options) (unit : TranslationUnit) (u : IsUnitOf m opts unit) (inv : Invocation) (p : FunctionPlan) where
  abbrev s : Setting
  s = S m opts unit u inv

  -- by its type
  pub shape_of_type : (n ty : ℕ) (t : Tree) → type_in m.globals (written p) n ≡ Some ty → type_tree m.globals ty ≡ Some t → (names m opts unit u inv p).shape n ≡ shape_in s (struct_names (key m opts unit u inv)) t
  shape_of_type n ty t typed shaped =
      let itself : unwrap_or (pointee m.globals ty) ty ≡ ty = as_itself (pointee m.globals ty) ty ∙ no_pointer m.globals ty t shaped in
      ap (λ (o : Option ℕ). shape_in s (struct_names (key m opts unit u inv)) (shape_at (source_of s opts.overrides) (unwrap_or (pointee m.globals (unwrap_or o 0)) (unwrap_or o 0)))) typed
      ∙ (ap (λ (k : ℕ). shape_in s (struct_names (key m opts unit u inv)) (shape_at (source_of s opts.overrides) k)) itself
      ∙ ap (λ (x : Option Tree). shape_in s (struct_names (key m opts unit u inv)) (unwrap_or x plain.uint)) shaped)

  pub shape_of_value : (n : ℕ) (t : Tree) → value_shape s (written p) n ≡ Some t → (names m opts unit u inv p).shape n ≡ shape_in s (struct_names (key m opts unit u inv)) t
  shape_of_value n t is = by_type (type_in m.globals (written p) n) refl is
    where
      by_type : (x : Option ℕ) → type_in m.globals (written p) n ≡ x → option_and_then (type_tree m.globals) x ≡ Some t → (names m opts unit u inv p).shape n ≡ shape_in s (struct_names (key m opts unit u inv)) t
      by_type None typed shaped = cc
      by_type (Some ty) typed shaped = shape_of_type n ty t typed shaped

-- what fits a shape has one
-- what an id has is of its type
pub value_has : (s : Setting) → ModuleFits s → (fs : List Function) (c : Frame) (n : ℕ) (v : ValueTree) → IdsFit s fs c.function c.ids → value_at s c n ≡ Some v → HasShape (value_shape s c.function n) v
value_has s fits fs c n v ids is = by_id (c.ids n) refl is
  where
    has : Option Held → Option ValueTree
    has x = operands.as_value (elim x [ Some h ↦ Some h | None ↦ of_module s n ])

    same_value : (u : ValueTree) → Some u ≡ Some v → HasShape (value_shape s c.function n) u → HasShape (value_shape s c.function n) v
    same_value u e fit = let same : u ≡ v = cc in subst (HasShape (value_shape s c.function n)) same fit

    by_constant : (k : Option ValueTree) → s.constants n ≡ k → operands.as_value (option_map value k) ≡ Some v → HasShape (value_shape s c.function n) v
    by_constant None at e = cc
    by_constant (Some u) at e = same_value u e (fits.constants c.function n u at)

    by_variable : (g : Option Inst) → operands.as_value (elim g [ Some x ↦ Some (pointer (global n) []) | None ↦ option_map value (s.constants n) ]) ≡ Some v → HasShape (value_shape s c.function n) v
    by_variable (Some x) e = cc
    by_variable None e = by_constant (s.constants n) refl e

    by_id : (x : Option Held) → c.ids n ≡ x → has x ≡ Some v → HasShape (value_shape s c.function n) v
    by_id None at e = by_variable (global_variable s n) e
    by_id (Some (value u)) at e = same_value u e (ids n (value u) at).1
    by_id (Some (pointer r path)) at e = cc

-- the shapes of truths and of words
no_array_truth : (t : Tree) (l : Length) (b : Bool) → fits (plain.array t l) (truth b) ≡ true → ⊥
no_array_truth t (Fixed n) b fit = cc
no_array_truth t (Spec id) b fit = cc

no_array_word : (t : Tree) (l : Length) (w : ℕ) → fits (plain.array t l) (word w) ≡ true → ⊥
no_array_word t (Fixed n) w fit = cc
no_array_word t (Spec id) w fit = cc

pub of_truth : (t : Tree) (b : Bool) → fits t (truth b) ≡ true → t ≡ plain.boolean
of_truth plain.boolean b fit = refl
of_truth (plain.array t l) b fit = absurd (no_array_truth t l b fit)
of_truth t b fit = cc

pub of_word : (t : Tree) (w : ℕ) → fits t (word w) ≡ true → (t ≡ plain.int) ⊎ (t ≡ plain.uint)
of_word plain.int w fit = inl refl
of_word plain.uint w fit = inr refl
of_word (plain.array t l) w fit = absurd (no_array_word t l w fit)
of_word t w fit = cc
