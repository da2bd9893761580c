-- The outline of a type is that of its instruction.
use Rattle.std.proofs.Common.{◌≡◌, ℕ, List}
use Rattle.std.specs.Option.{option_map_or}
use Rattle.spv_module.specs.declared.inst.Inst.{Inst}
use Rattle.spv_types.specs.Tree.{uint}
use Rattle.spv_types.specs.Types.{earlier}
use Rattle.spv_types.proofs.Below.{below_is}
use Rattle.text_rules.specs.Outlines.{outline_step, outline_at, outline_before}

pub outline_before_is : (gs : List Inst) (n id : ℕ) → outline_before gs n id ≡ option_map_or (outline_at gs) (earlier gs n id) uint
outline_before_is gs n id = below_is (outline_step gs) uint gs n id

pub ruleset outline_rules = (outline_before_is)
