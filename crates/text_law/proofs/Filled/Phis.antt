-- In an accepted module the type of a phi has a shape: it is no variable, no chain and no call.
use Rattle.std.proofs.Common.{◌≡◌, ℕ, true, List, Option, Some, Contains, inl, inr, sym, ◌∙◌}
use Rattle.spv_ops.specs.OpGroups.{group_of}
use Rattle.spv_ops.specs.declared.OpGroup.TheVariants as groups
use Rattle.spv_module.specs.declared.inst.Inst.{Inst}
use Rattle.spv_module.specs.declared.inst.Function.{Function}
use Rattle.spv_types.specs.Tree.{Tree}
use Rattle.spv_types.specs.Types.{type_tree}
use Rattle.spv_index.specs.Locals.{insts_of}
use Rattle.module_semantics.specs.Setting.{Setting}
use Rattle.module_semantics.specs.Steps.{is_phi}
use Rattle.plan_law.specs.InOrder.{IsAmong}
use Rattle.typed_law.specs.Conforms.{IsConforming}
use Rattle.typed_law.proofs.Others.{phi_group}
use Rattle.grammar_law.proofs.Unit.Ways.{HaveKinds}
use Rattle.grammar_law.proofs.Unit.ResultShapes.{stands_inside, IsShaped}
use Rattle.grammar_law.proofs.Unit.ResultTypes.{Gives, of_shape, of_pointer, of_call, gives}
use Rattle.grammar_law.proofs.Grammar.PhiNames.{phi_typed}

no_chain : groups.Phi ≡ groups.Chain → ⊥
no_chain e = cc

no_variable : groups.Phi ≡ groups.Variable → ⊥
no_variable e = cc

no_call : groups.Phi ≡ groups.Call → ⊥
no_call e = cc

module _ (s : Setting) (entry : Option (List ℕ)) (right : IsConforming s.of entry) (kinds : HaveKinds s.of.globals) (f : Function) (in_it : Contains s.of.functions f) (inner : (i : Inst) → IsAmong i (insts_of f) → stands_inside (group_of i.op) ≡ true) where
  pub phi_shaped : (i : Inst) → IsAmong i (insts_of f) → is_phi i ≡ true → (t : Tree) × (type_tree s.of.globals i.ty ≡ Some t)
  phi_shaped i there on = by_what (gives s entry right kinds f in_it inner i there (phi_typed i.op on).0)
    where
      by_what : Gives s entry right kinds f in_it inner i → IsShaped s entry right i.ty
      by_what (of_shape shaped) = shaped
      by_what (of_pointer w points (inl chain)) = absurd (no_chain (sym (phi_group i.op on) ∙ chain))
      by_what (of_pointer w points (inr variable)) = absurd (no_variable (sym (phi_group i.op on) ∙ variable))
      by_what (of_call w void call) = absurd (no_call (sym (phi_group i.op on) ∙ call))
