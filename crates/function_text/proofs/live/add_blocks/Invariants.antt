use Rattle.std.proofs.Common.{◌≡◌, ◌++◌, drop}
use Rattle.std.specs.List.{flat_map, enumerate_from}
use Rattle.function_text.specs.Live.{in_block, types_of, mentions_of, liveness_in}
use Rattle.function_text.proofs.live.add_blocks.Given as goal

abbrev pub invariant-loop-index : goal.invariant-loop-index
invariant-loop-index l =
    (l.live.types.items ++ flat_map (in_block types_of (liveness_in l.plan)) (enumerate_from l.index (drop l.index l.blocks))
    ≡ l.initial.live.types.items ++ flat_map (in_block types_of (liveness_in l.plan)) (enumerate_from 0 l.blocks))
    × (l.live.mentions.items ++ flat_map (in_block mentions_of (liveness_in l.plan)) (enumerate_from l.index (drop l.index l.blocks))
    ≡ l.initial.live.mentions.items ++ flat_map (in_block mentions_of (liveness_in l.plan)) (enumerate_from 0 l.blocks))
