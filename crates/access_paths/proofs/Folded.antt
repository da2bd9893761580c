-- The ways of pointers, with one more instruction or block.
use Rattle.std.proofs.Common.{◌≡◌, ◌==◌, ◌&&◌, ◌<◌, ◌≤◌, ◌+◌, ℕ, List, [], ◌∷◌, true, false, length, take, get_or, ap, sym, ◌∙◌, arith}
use Rattle.std.specs.List.{fold, enumerate_from}
use Rattle.std.proofs.lemmas.List.{take_all}
use Rattle.std.proofs.lemmas.List.Sums.{fold_more}
use Rattle.std.proofs.lemmas.List.FromFn.{get_or-enumerate_from, length-enumerate_from}
use Rattle.spv_module.specs.declared.inst.Inst.{Inst}
use Rattle.spv_module.specs.declared.inst.Block.{Block}
use Rattle.spv_module.specs.declared.inst.Function.{Function}
use Rattle.spv_ops.specs.Groups.{is_chain}
use Rattle.access_paths.specs.declared.links.Links.{Links}
use Rattle.access_paths.specs.Ways.{Way, base, further, chain_steps, spot_of, with_inst, with_block, ways_in, start}
use Rattle.access_paths.specs.Links.{AreWaysIn, AreWays, HaveMore, way_of}

-- an instruction changes equal ways equally
inst_same : (gs : List Inst) (f : Function) (printed stands : ℕ) (a b : ℕ → Way) → ((p : ℕ) → a p ≡ b p) → (i : Inst) (p : ℕ) → with_inst gs f printed stands a i p ≡ with_inst gs f printed stands b i p
inst_same gs f printed stands a b same i p =
    let made : Way → Way → Way = λ other longer.
    elim (is_chain i.op && (i.result == p)) [
      | true ↦ further longer (chain_steps gs f (spot_of printed (stands, i)) i)
      | false ↦ other
    ] in
    ap (λ w. made w (a (base i))) (same p) ∙ ap (made (b p)) (same (base i))

pub insts_same : (gs : List Inst) (f : Function) (printed stands : ℕ) (insts : List Inst) (a b : ℕ → Way) → ((p : ℕ) → a p ≡ b p) → (p : ℕ) → fold (with_inst gs f printed stands) a insts p ≡ fold (with_inst gs f printed stands) b insts p
insts_same gs f printed stands [] a b same p = same p
insts_same gs f printed stands (i ∷ insts) a b same p =
    insts_same gs f printed stands insts (with_inst gs f printed stands a i) (with_inst gs f printed stands b i) (inst_same gs f printed stands a b same i) p

-- with one more block
pub blocks_more : (gs : List Inst) (f : Function) (blocks : List Block) (i : ℕ) (b : Block) (insts : List Inst) (old new : Links) → i < length blocks → insts ≡ (get_or blocks i b).insts → AreWaysIn gs f (take i (enumerate_from 0 blocks)) old → HaveMore gs f i insts old new → AreWaysIn gs f (take (i + 1) (enumerate_from 0 blocks)) new
blocks_more gs f blocks i b insts old new inside here before more = record {
  linked = more.linked;
  ways = λ printed p.
      let places : List (ℕ × Block) = enumerate_from 0 blocks in
      let known : ℕ → Way = ways_in gs f printed (take i places) in
      let in_places : i < length places = omega (arith, length-enumerate_from 0 blocks) in
      let at : get_or places i (0, b) ≡ (i, get_or blocks i b) = get_or-enumerate_from 0 blocks i (0, b) inside ∙ ap (λ n. (n, get_or blocks i b)) (omega arith) in
      more.ways printed p
      ∙ insts_same gs f printed i insts (way_of gs printed old) known (before.ways printed) p
      ∙ ap (λ is. fold (with_inst gs f printed i) known is p) here
      ∙ ap (λ (d : ℕ × Block). with_block gs f printed known d p) (sym at)
      ∙ sym (ap (λ (h : ℕ → Way). h p) (fold_more (with_block gs f printed) start places i (0, b) in_places));
}

pub blocks_all : (gs : List Inst) (f : Function) (blocks : List Block) (i : ℕ) (links : Links) → length blocks ≤ i → blocks ≡ f.blocks → AreWaysIn gs f (take i (enumerate_from 0 blocks)) links → AreWays gs f links
blocks_all gs f blocks i links past same known =
    let whole : take i (enumerate_from 0 blocks) ≡ enumerate_from 0 f.blocks =
    take_all i (enumerate_from 0 blocks) (omega (arith, length-enumerate_from 0 blocks)) ∙ ap (enumerate_from 0) same in
    record { linked = known.linked; ways = λ printed p. known.ways printed p ∙ ap (λ bs. ways_in gs f printed bs p) whole }
