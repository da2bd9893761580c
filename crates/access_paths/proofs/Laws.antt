-- The path of a chain is that of its base and the chain's own steps; any other pointer is where its path begins.
use Rattle.std.proofs.Common.{◌≡◌, ◌==◌, ◌&&◌, ◌++◌, ℕ, List, [], ◌∷◌, Bool, true, false, map, refl, ap, sym, ◌∙◌, arith}
use Rattle.std.specs.List.{fold, list_any, enumerate_from}
use Rattle.std.proofs.lemmas.Bool.Decides.{nat_tests}
use Rattle.std.proofs.lemmas.List.Sums.{fold-append}
use Rattle.std.proofs.lemmas.List.Concat.{flat_map-cons}
use Rattle.list_law.proofs.Tests.{or_left, or_right}
use Rattle.spv_module.specs.declared.inst.Inst.{Inst}
use Rattle.spv_module.specs.declared.inst.Block.{Block}
use Rattle.spv_module.specs.declared.inst.Function.{Function}
use Rattle.spv_ops.specs.Groups.{is_chain}
use Rattle.access_paths.specs.Ways.{Way, base, start, further, chain_steps, spot_of, with_inst, with_block, path, placed, makes}

abbrev with_placed : List Inst → Function → ℕ → (ℕ → Way) → ℕ × Inst → ℕ → Way
with_placed gs f printed ways c = with_inst gs f printed c.0 ways c.1

block_placed : (gs : List Inst) (f : Function) (printed stands : ℕ) (insts : List Inst) (ways : ℕ → Way) → fold (with_inst gs f printed stands) ways insts ≡ fold (with_placed gs f printed) ways (map (λ i. (stands, i)) insts)
block_placed gs f printed stands [] ways = refl
block_placed gs f printed stands (i ∷ insts) ways = block_placed gs f printed stands insts (with_inst gs f printed stands ways i)

-- block by block is instruction by instruction
blocks_placed : (gs : List Inst) (f : Function) (printed : ℕ) (blocks : List (ℕ × Block)) (ways : ℕ → Way) → fold (with_block gs f printed) ways blocks ≡ fold (with_placed gs f printed) ways (placed blocks)
blocks_placed gs f printed [] ways = refl
blocks_placed gs f printed (b ∷ blocks) ways =
    let here : List (ℕ × Inst) = map (λ i. (b.0, i)) b.1.insts in
    let parts : ℕ × Block → List (ℕ × Inst) = λ d. map (λ i. (d.0, i)) d.1.insts in
    blocks_placed gs f printed blocks (with_block gs f printed ways b)
    ∙ ap (λ w. fold (with_placed gs f printed) w (placed blocks)) (block_placed gs f printed b.0 b.1.insts ways)
    ∙ sym (fold-append (with_placed gs f printed) ways here (placed blocks))
    ∙ ap (fold (with_placed gs f printed) ways) (sym (flat_map-cons parts b blocks))

placed_path : (gs : List Inst) (f : Function) (printed pointer : ℕ) → path gs f printed pointer ≡ fold (with_placed gs f printed) start (placed (enumerate_from 0 f.blocks)) pointer
placed_path gs f printed pointer = ap (λ (h : ℕ → Way). h pointer) (blocks_placed gs f printed (enumerate_from 0 f.blocks) start)

abbrev chosen : List Inst → Function → ℕ → (ℕ → Way) → ℕ × Inst → ℕ → Bool → Way
chosen gs f printed ways c pointer made =
    elim made [ true ↦ further (ways (base c.1)) (chain_steps gs f (spot_of printed c) c.1) | false ↦ ways pointer ]

-- what does not make a pointer leaves it
unmade : (gs : List Inst) (f : Function) (printed pointer : ℕ) (cs : List (ℕ × Inst)) (ways : ℕ → Way) → list_any (makes pointer) cs ≡ false → fold (with_placed gs f printed) ways cs pointer ≡ ways pointer
unmade gs f printed pointer [] ways none = refl
unmade gs f printed pointer (c ∷ cs) ways none =
    unmade gs f printed pointer cs (with_placed gs f printed ways c) (or_right (makes pointer c) (list_any (makes pointer) cs) none)
    ∙ ap (chosen gs f printed ways c pointer) (or_left (makes pointer c) (list_any (makes pointer) cs) none)

-- a pointer that no chain makes: a variable, a parameter
pub path_of_start : (gs : List Inst) (f : Function) (printed pointer : ℕ) → list_any (makes pointer) (placed (enumerate_from 0 f.blocks)) ≡ false → path gs f printed pointer ≡ start pointer
path_of_start gs f printed pointer none =
    placed_path gs f printed pointer ∙ unmade gs f printed pointer (placed (enumerate_from 0 f.blocks)) start none

-- a pointer that a chain makes and none after it, where neither the chain nor one after it makes its base
pub path_of_chain : (gs : List Inst) (f : Function) (printed : ℕ) (before after : List (ℕ × Inst)) (c : ℕ × Inst) → placed (enumerate_from 0 f.blocks) ≡ before ++ c ∷ after → is_chain c.1.op ≡ true → list_any (makes c.1.result) after ≡ false → list_any (makes (base c.1)) (c ∷ after) ≡ false → path gs f printed c.1.result ≡ further (path gs f printed (base c.1)) (chain_steps gs f (spot_of printed c) c.1)
path_of_chain gs f printed before after c whole chain once earlier =
    let go = with_placed gs f printed in
    let known : ℕ → Way = fold go start before in
    let split : (p : ℕ) → path gs f printed p ≡ fold go known (c ∷ after) p =
    λ p. placed_path gs f printed p ∙ ap (λ cs. fold go start cs p) whole ∙ ap (λ (h : ℕ → Way). h p) (fold-append go start before (c ∷ after)) in
    let same : (c.1.result == c.1.result) ≡ true = grind (arith, nat_tests) in
    let made : makes c.1.result c ≡ true = ap (λ b. b && (c.1.result == c.1.result)) chain ∙ same in
    split c.1.result
    ∙ unmade gs f printed c.1.result after (go known c) once
    ∙ ap (chosen gs f printed known c c.1.result) made
    ∙ ap (λ w. further w (chain_steps gs f (spot_of printed c) c.1)) (sym (split (base c.1) ∙ unmade gs f printed (base c.1) (c ∷ after) known earlier))
