-- A type that has a shape is one of values.
use Rattle.std.proofs.Common.{◌≡◌, ◌||◌, not, ℕ, Bool, true, false, List, Option, Some, None, refl, sym, ap, ◌∙◌}
use Rattle.std.specs.Option.{option_map_or}
use Rattle.spv_ops.specs.Opcode.{is, number}
use Rattle.spv_ops.specs.declared.Op.{Op}
use Rattle.spv_ops.specs.declared.Op.TheVariants as code
use Rattle.spv_module.specs.Held.{global}
use Rattle.spv_module.specs.declared.inst.Inst.{Inst}
use Rattle.spv_types.specs.Tree.{Tree}
use Rattle.spv_types.specs.declared.kind.TypeKind.{TypeKind}
use Rattle.spv_types.specs.declared.kind.TypeKind.TheVariants.{Other}
use Rattle.spv_types.specs.Types.{kind, tree_by_kind, tree_before, tree_at, type_tree}
use Rattle.hoist_plan.specs.Plan.{is_value}
use Rattle.list_law.proofs.Options.{none_some}
use Rattle.typed_law.proofs.Values.{pointer_kind}

void_kind : (o : Op) → is o code.TypeVoid ≡ true → kind o ≡ Other
unfolding number kind
void_kind code.TypeVoid on = refl
void_kind o on = cc

pub other_none : (gs : List Inst) (g : Inst) (t : Tree) → kind g.op ≡ Other → tree_at gs g ≡ Some t → ⊥
other_none gs g t other shape = none_some (ap (λ (k : TypeKind). tree_by_kind gs (tree_before gs g.at) g k) (sym other) ∙ shape)

pub pointer_none : (gs : List Inst) (g : Inst) (t : Tree) → is g.op code.TypePointer ≡ true → tree_at gs g ≡ Some t → ⊥
pointer_none gs g t on shape = other_none gs g t (pointer_kind g.op on) shape

pub shaped_value : (gs : List Inst) (ty : ℕ) (t : Tree) → type_tree gs ty ≡ Some t → is_value gs ty ≡ true
shaped_value gs ty t shape = by_global (global gs ty) shape
  where
    by_tests : (g : Inst) → tree_at gs g ≡ Some t → (a b : Bool) → is g.op code.TypeVoid ≡ a → is g.op code.TypePointer ≡ b → not (a || b) ≡ true
    by_tests g at true b void pointer = absurd (other_none gs g t (void_kind g.op void) at)
    by_tests g at false true void pointer = absurd (pointer_none gs g t pointer at)
    by_tests g at false false void pointer = refl

    by_global : (o : Option Inst) → option_map_or (tree_at gs) o None ≡ Some t → not (option_map_or (λ (g : Inst). is g.op code.TypeVoid) o false || option_map_or (λ (g : Inst). is g.op code.TypePointer) o false) ≡ true
    by_global None shape = cc
    by_global (Some g) at = by_tests g at (is g.op code.TypeVoid) (is g.op code.TypePointer) refl refl
