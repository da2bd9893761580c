use Rattle.std.proofs.Common.{◌≡◌, ◌++◌, map, take}
use Rattle.spv_module.specs.declared.inst.Id.{Id}
use Rattle.text_items.proofs.types.add_signature.Given as goal

abbrev pub invariant-loop-ty : goal.invariant-loop-ty
invariant-loop-ty l = l.types.items ≡ l.initial.types.items ++ map (λ (p : Id × Id). p.1.0) (take l.ty-index l.ty-items)
