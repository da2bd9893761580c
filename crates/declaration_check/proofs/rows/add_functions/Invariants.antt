use Rattle.std.proofs.Common.{take}
use Rattle.std.specs.List.{flat_map}
use Rattle.spv_module.specs.declared.inst.Block.{Block}
use Rattle.spv_module.specs.declared.inst.Function.{Function}
use Rattle.declaration_check.specs.Kept.{WithMore}
use Rattle.declaration_check.proofs.rows.add_functions.Given as goal

abbrev pub invariant-loop-function : goal.invariant-loop-function
invariant-loop-function l = WithMore (flat_map (λ (f : Function). flat_map (λ (b : Block). b.insts) f.blocks) (take l.function-index l.functions)) l.initial.rows l.rows
