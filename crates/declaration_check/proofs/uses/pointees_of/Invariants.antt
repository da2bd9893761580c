use Rattle.std.proofs.Common.{◌≡◌, ◌++◌, drop, map}
use Rattle.std.specs.List.{filter_map}
use Rattle.profile_rules.specs.TypeForm.{pointee_by}
use Rattle.declaration_check.specs.Classes.{is_in}
use Rattle.declaration_check.proofs.uses.pointees_of.Given as goal

abbrev pub invariant-loop-inst : goal.invariant-loop-inst
invariant-loop-inst l = l.ids.items ++ filter_map (pointee_by l.context.globals (is_in l.context l.classes)) (map (λ i. i.now) (drop l.inst-index l.inst-items)) ≡ filter_map (pointee_by l.context.globals (is_in l.context l.classes)) (map (λ i. i.now) l.inst-items)
