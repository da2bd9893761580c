-- The path of a chain of a function in order is that of its base and the chain's steps.
use Rattle.std.proofs.Common.{◌≡◌, ◌≢◌, ◌+◌, ◌==◌, ◌&&◌, ◌++◌, ℕ, zero, suc, Bool, true, false, List, [], ◌∷◌, map, Some, inl, inr, refl, sym, ap, ap₂, ◌∙◌, subst, arith, append_assoc}
use Rattle.std.specs.Prelude.{slice_get, flat_map}
use Rattle.std.specs.List.{enumerate_from, list_any}
use Rattle.std.proofs.lemmas.Bool.Decides.{eqb_tells}
use Rattle.std.proofs.lemmas.List.Concat.{flat_map-cons}
use Rattle.std.proofs.lemmas.Bool.{or_from}
use Rattle.spv_ops.specs.Groups.{is_chain}
use Rattle.spv_module.specs.declared.inst.Inst.{Inst}
use Rattle.spv_module.specs.declared.inst.Block.{Block}
use Rattle.spv_module.specs.declared.inst.Function.{Function}
use Rattle.spv_index.specs.Locals.{insts_of}
use Rattle.access_paths.specs.Ways.{base, start, further, chain_steps, spot_of, path, placed, makes}
use Rattle.access_paths.proofs.Laws.{path_of_start, path_of_chain}
use Rattle.agree_law.specs.Blocks.{IsOf}
use Rattle.global_law.specs.Chains.{NoneMakes, ChainsRise}

abbrev Placed : Type 0
Placed = List (ℕ × Inst)

abbrev insts : Placed → List Inst
insts cs = map (λ (c : ℕ × Inst). c.1) cs

-- lists one behind the other
more_insts : (xs ys : Placed) → insts (xs ++ ys) ≡ insts xs ++ insts ys
more_insts [] ys = refl
more_insts (x ∷ xs) ys = ap (λ l. x.1 ∷ l) (more_insts xs ys)

of_block : (b : ℕ) (is : List Inst) → insts (map (λ i. (b, i)) is) ≡ is
of_block b [] = refl
of_block b (i ∷ is) = ap (λ l. i ∷ l) (of_block b is)

of_blocks : (k : ℕ) (bs : List Block) → insts (placed (enumerate_from k bs)) ≡ flat_map (λ (b : Block). b.insts) bs
of_blocks k [] = refl
of_blocks k (b ∷ bs) =
    ap insts (flat_map-cons (λ (d : ℕ × Block). map (λ i. (d.0, i)) d.1.insts) (k, b) (enumerate_from (k + 1) bs))
    ∙ more_insts (map (λ i. (k, i)) b.insts) (placed (enumerate_from (k + 1) bs))
    ∙ ap₂ (λ xs ys. xs ++ ys) (of_block k b.insts) (of_blocks (k + 1) bs)
    ∙ sym (flat_map-cons (λ (b : Block). b.insts) b bs)

-- where an instruction stands
pub record Stands (c : ℕ × Inst) (cs : Placed) : Type 0 where
  pub before : Placed
  pub after : Placed
  pub whole : cs ≡ before ++ c ∷ after

in_block : (b : ℕ) (i : Inst) (is : List Inst) → IsOf i is → Stands (b, i) (map (λ i. (b, i)) is)
in_block b i [] at = absurd at
in_block b i (j ∷ js) (inl same) = record { before = []; after = map (λ i. (b, i)) js; whole = ap (λ (x : Inst). (b, x) ∷ map (λ i. (b, i)) js) same }
in_block b i (j ∷ js) (inr at) = let s = in_block b i js at in record { before = (b, j) ∷ s.before; after = s.after; whole = ap (λ l. (b, j) ∷ l) s.whole }

in_blocks : (bs : List Block) (k t : ℕ) (b : Block) (i : Inst) → slice_get bs t ≡ Some b → IsOf i b.insts → Stands (k + t, i) (placed (enumerate_from k bs))
in_blocks [] k t b i there at = cc
in_blocks (d ∷ bs) k zero b i there at =
    let same : d ≡ b = cc in
    let s = in_block k i d.insts (subst (λ (x : Block). IsOf i x.insts) (sym same) at) in
    let here : k + 0 ≡ k = omega arith in
    subst (λ n. Stands (n, i) (placed (enumerate_from k (d ∷ bs)))) (sym here) (record {
      before = s.before;
      after = s.after ++ placed (enumerate_from (k + 1) bs);
      whole =
          flat_map-cons (λ (d : ℕ × Block). map (λ i. (d.0, i)) d.1.insts) (k, d) (enumerate_from (k + 1) bs)
          ∙ ap (λ l. l ++ placed (enumerate_from (k + 1) bs)) s.whole ∙ append_assoc s.before ((k, i) ∷ s.after) (placed (enumerate_from (k + 1) bs));
    })
in_blocks (d ∷ bs) k (suc t) b i there at =
    let s = in_blocks bs (k + 1) t b i there at in
    let next : k + suc t ≡ k + 1 + t = omega arith in
    subst (λ n. Stands (n, i) (placed (enumerate_from k (d ∷ bs)))) (sym next) (record {
      before = map (λ i. (k, i)) d.insts ++ s.before;
      after = s.after;
      whole =
          flat_map-cons (λ (d : ℕ × Block). map (λ i. (d.0, i)) d.1.insts) (k, d) (enumerate_from (k + 1) bs)
          ∙ ap (λ l. map (λ i. (k, i)) d.insts ++ l) s.whole ∙ sym (append_assoc (map (λ i. (k, i)) d.insts) s.before ((k + 1 + t, i) ∷ s.after));
    })

-- what is not made is made by none of these
none_any : (n : ℕ) (cs : Placed) → NoneMakes n (insts cs) → list_any (makes n) cs ≡ false
none_any n [] none = refl
none_any n (c ∷ cs) none = or_from (makes n c) (list_any (makes n) cs) (by_test (is_chain c.1.op) refl none.0) (none_any n cs none.1)
  where
    by_test : (t : Bool) → is_chain c.1.op ≡ t → (t ≡ true → c.1.result ≢ n) → (t && (c.1.result == n)) ≡ false
    by_test true is differ = elim (eqb_tells c.1.result n) [ inl w ↦ absurd (differ refl w.1) | inr w ↦ w.0 ]
    by_test false is differ = refl

rise_split : (xs : List Inst) (i : Inst) (ys : List Inst) → ChainsRise (xs ++ i ∷ ys) → is_chain i.op ≡ true → NoneMakes (base i) (i ∷ ys) × NoneMakes i.result ys
rise_split [] i ys rise on = rise.0 on
rise_split (x ∷ xs) i ys rise on = rise_split xs i ys rise.1 on

-- a pointer that no chain makes is where its path begins
pub start_way : (gs : List Inst) (f : Function) (printed n : ℕ) → NoneMakes n (insts_of f) → path gs f printed n ≡ start n
start_way gs f printed n none = path_of_start gs f printed n (none_any n (placed (enumerate_from 0 f.blocks)) (subst (NoneMakes n) (sym (of_blocks 0 f.blocks)) none))

-- a chain leads further than its base
pub chain_way : (gs : List Inst) (f : Function) (printed t : ℕ) (b : Block) (i : Inst) → ChainsRise (insts_of f) → slice_get f.blocks t ≡ Some b → IsOf i b.insts → is_chain i.op ≡ true → path gs f printed i.result ≡ further (path gs f printed (base i)) (chain_steps gs f (spot_of printed (t, i)) i)
chain_way gs f printed t b i rise there at on =
    let here : 0 + t ≡ t = omega arith in
    let s : Stands (t, i) (placed (enumerate_from 0 f.blocks)) = subst (λ n. Stands (n, i) (placed (enumerate_from 0 f.blocks))) here (in_blocks f.blocks 0 t b i there at) in
    let all : insts_of f ≡ insts s.before ++ i ∷ insts s.after = sym (of_blocks 0 f.blocks) ∙ ap insts s.whole ∙ more_insts s.before ((t, i) ∷ s.after) in
    let made = rise_split (insts s.before) i (insts s.after) (subst ChainsRise all rise) on in
    path_of_chain gs f printed s.before s.after (t, i) s.whole on (none_any i.result s.after made.1) (none_any (base i) ((t, i) ∷ s.after) made.0)
