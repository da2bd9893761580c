use Rattle.std.proofs.Common.{◌≡◌, ◌++◌, take}
use Rattle.std.specs.List.{flat_map}
use Rattle.function_text.specs.Live.{types_of, mentions_of, liveness_in}
use Rattle.function_text.proofs.live.add_block.Given as goal

abbrev pub invariant-loop-inst : goal.invariant-loop-inst
invariant-loop-inst l =
    (l.live.types.items ≡ l.initial.live.types.items ++ flat_map (types_of (liveness_in l.plan) l.reached) (take l.inst-index l.block.insts))
    × (l.live.mentions.items ≡ l.initial.live.mentions.items ++ flat_map (mentions_of (liveness_in l.plan) l.reached) (take l.inst-index l.block.insts))
