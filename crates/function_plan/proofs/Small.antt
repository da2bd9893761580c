-- A small function is short.
use Rattle.std.proofs.Common.{get_or}
use Rattle.std.proofs.lemmas.List.Elements.{Contains-get_or}
use Rattle.spv_module.specs.declared.inst.Block.{Block}
use Rattle.spv_module.specs.declared.inst.Function.{Function}
use Rattle.few_law.specs.Short.{IsShort}
use Rattle.use_chains.specs.Small.{IsSmall}

pub small_short : (f : Function) → IsSmall f → IsShort f
small_short f small k b inside =
    let here : Block = get_or f.blocks k b in
    λ n i within. (small.each here (Contains-get_or f.blocks k b inside)).args (get_or here.insts n i) (Contains-get_or here.insts n i within)
