-- Types that stand before others.
use Rattle.std.proofs.Common.{◌≡◌, ◌<◌, ℕ, true, List, Some, refl, sym, nat_lt}
use Rattle.std.proofs.lemmas.Bool.{lt-ltb}
use Rattle.spv_module.specs.Held.{global}
use Rattle.spv_module.specs.declared.inst.Inst.{Inst}
use Rattle.spv_types.specs.Types.{tree_before, type_tree}
use Rattle.spv_types.proofs.Below.{tree_before_is}

-- of a type that stands before there the shape is known there
pub known_before : (gs : List Inst) (n id : ℕ) (g : Inst) → Some g ≡ global gs id → g.at < n → type_tree gs id ≡ tree_before gs n id
known_before gs n id g is less =
    let before : nat_lt g.at n ≡ true = lt-ltb g.at n less in
    rw (tree_before_is gs n id, sym is, before) refl
