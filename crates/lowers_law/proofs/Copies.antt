-- What OpCopyLogical copies is of one shape with its result but for the ids of structs.
use Rattle.std.proofs.Common.{◌≡◌, ℕ, false, List, Option, Some, refl, subst}
use Rattle.std.specs.Prelude.{Contains, slice_index}
use Rattle.spv_ops.specs.OpGroups.{group_of}
use Rattle.spv_ops.specs.declared.Op.{Op}
use Rattle.spv_ops.specs.declared.Op.TheVariants as code
use Rattle.spv_module.specs.declared.inst.Inst.{Inst}
use Rattle.spv_module.specs.declared.inst.Function.{Function}
use Rattle.spv_module.specs.declared.tree.Length.TheVariants.{Fixed, Spec}
use Rattle.spv_types.specs.Tree as plain
use Rattle.spv_types.specs.Tree.{Tree, Trees, no_trees, tree}
use Rattle.spv_types.specs.Types.{type_tree}
use Rattle.spv_types.specs.Leaves.{IsSized, AreSized}
use Rattle.spv_index.specs.Locals.{insts_of, type_in}
use Rattle.profile_rules.specs.ValueRules.{breaks_t12}
use Rattle.profile_rules.specs.TypeRules.{is_value_broken}
use Rattle.module_semantics.specs.Setting.{Setting}
use Rattle.plan_law.specs.InOrder.{IsAmong}
use Rattle.fits_law.specs.State.{value_shape}
use Rattle.type_law.proofs.Copies.{IsByParts, logical_matched}
use Rattle.lowering_law.specs.Written.{IsLogical, AreLogical}
use Rattle.typed_law.specs.Conforms.{IsConforming}
use Rattle.typed_law.proofs.Lists.{some_part}
use Rattle.typed_law.proofs.Rules.{value_right}
use Rattle.typed_law.proofs.Values.{value_sized, own_type, shaped_some}

mutual
  logical_self : (t : Tree) → IsSized t → IsLogical t t
  logical_self plain.boolean sized = tt
  logical_self plain.int sized = tt
  logical_self plain.uint sized = tt
  logical_self (plain.vector e n) sized = (refl, refl)
  logical_self (plain.array t (Fixed n)) sized = (logical_self t sized, refl)
  logical_self (plain.array t (Spec l)) sized = absurd sized
  logical_self (plain.runtime t) sized = absurd sized
  logical_self (plain.struct k ts) sized = logical_selves ts sized

  logical_selves : (ts : Trees) → AreSized ts → AreLogical ts ts
  logical_selves no_trees sized = tt
  logical_selves (tree t ts) sized = (logical_self t sized.0, logical_selves ts sized.1)

logical_by_parts : IsByParts IsLogical AreLogical
logical_by_parts = record { self = logical_self; arrays = λ u t n m part same. (part, same); structs = λ i k us ts parts. parts; none = tt; more = λ u t us ts one parts. (one, parts) }

module _ (s : Setting) (entry : Option (List ℕ)) (right : IsConforming s.of entry) (f : Function) (in_it : Contains s.of.functions f) (j : Inst) (there : IsAmong j (insts_of f)) where
  -- T12
  copied_right : j.op ≡ code.CopyLogical → breaks_t12 s.of.globals (type_in s.of.globals f) j ≡ false
  unfolding group_of
  copied_right same = subst (λ (q : Op). is_value_broken s.of (type_in s.of.globals f) j (group_of q) ≡ false) same (value_right s.of entry right f in_it j there)

  pub copied_logical : j.op ≡ code.CopyLogical → (t a : Tree) → type_tree s.of.globals j.ty ≡ Some t → value_shape s f (slice_index j.args 0) ≡ Some a → IsLogical t a
  copied_logical same t a shaped value =
      let own = some_part (type_tree s.of.globals) (type_in s.of.globals f (slice_index j.args 0)) a value in
      logical_matched s f IsLogical AreLogical logical_by_parts j t a (copied_right same) shaped value
      (value_sized s entry right f in_it j.result j.ty (own_type s entry right f in_it j there (shaped_some s entry right f in_it j.ty t shaped)) t shaped)
      (value_sized s entry right f in_it (slice_index j.args 0) own.0 own.1 a own.2)
