use Rattle.std.proofs.Common.{◌++◌, ◌∙◌, ℕ, List, not, ap}
use Rattle.profile_rules.specs.TypeForm.{is_workgroup, pointees, value_types, other_types, is_held}
use Rattle.spv_module.specs.State.{ModuleState}
use Rattle.declaration_check.proofs.Asked.{same_behind, held_same}
use Rattle.declaration_check.proofs.holders.Holders.of.Goals as goal

pub invariant_of-result : goal.invariant_of-result
invariant_of-result c =
    let m : ModuleState = c.args.context.now in
    let front : List ℕ = pointees m (λ v. not (is_workgroup v)) in
    record {
      by_workgroup = λ id. c.in_ok-held.ensures id ∙ ap (λ l. is_held m.globals l id) (c.deref.ensures.value ∙ c.in_ok-workgroup.ensures);
      by_others = λ id.
          c.in_ok-held-2.ensures id
          ∙ ap (λ l. is_held m.globals l id) (c.deref-2.ensures.value ∙ c.in_ok-others.ensures)
          ∙ held_same m.globals (front ++ c.types_of_values.result.now) (other_types m) (same_behind front c.types_of_values.result.now (value_types m) c.types_of_values.ensures) id;
    }
