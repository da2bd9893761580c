use Rattle.std.proofs.Common.{◌≡◌, take}
use Rattle.std.specs.List.{flat_map}
use Rattle.function_text.specs.Live.{types_in, mentions_in}
use Rattle.unit_text.proofs.heads.live_of.Given as goal

abbrev pub invariant-loop-plan : goal.invariant-loop-plan
invariant-loop-plan l = (l.live.types.items ≡ flat_map types_in (take l.plan-index l.plans)) × (l.live.mentions.items ≡ flat_map mentions_in (take l.plan-index l.plans))
