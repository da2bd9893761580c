-- In a function of one block nothing is mentioned elsewhere.
use Rattle.std.proofs.Common.{◌≡◌, ◌<◌, ◌+◌, ◌==◌, ◌&&◌, ◌||◌, ℕ, Bool, true, false, not, List, [], ◌∷◌, length, Option, Some, None, refl, ap, sym, ◌∙◌, subst, cond, inl, inr, arith}
use Rattle.std.specs.Prelude.{option_and_then, slice_get, slice_index, unwrap_or}
use Rattle.std.specs.Option.{option_map_or}
use Rattle.std.specs.List.{list_any, position_from}
use Rattle.std.proofs.lemmas.Bool.{cases_Bool, eqb-true}
use Rattle.std.proofs.lemmas.Option.{slice_get_within}
use Rattle.spv_ops.specs.Opcode.{is}
use Rattle.spv_ops.specs.declared.Op.TheVariants as code
use Rattle.spv_module.specs.declared.inst.Inst.{Inst}
use Rattle.spv_module.specs.declared.inst.Block.{Block}
use Rattle.spv_module.specs.declared.inst.Function.{Function}
use Rattle.spv_index.specs.Locals.{block_in}
use Rattle.use_chains.specs.declared.slot.SlotPlace.{SlotPlace}
use Rattle.hoist_plan.specs.Plan.{is_elsewhere, is_elsewhere_by, mention_block}

-- the place of the first block that passes a test, where there is only one block
first_alone : (t : Block → Bool) (bs : List Block) (d : ℕ) → length bs ≡ 1 → d ≡ 0 → unwrap_or (position_from t 0 bs) d ≡ 0
first_alone t [] d one zero = absurd (omega (arith, one))
first_alone t (b ∷ []) d one zero = elim (cases_Bool (t b)) [
  | inl here ↦ ap (λ p. unwrap_or (cond p (Some 0) None) d) here
  | inr gone ↦ ap (λ p. unwrap_or (cond p (Some 0) None) d) gone ∙ zero
]
first_alone t (b ∷ c ∷ bs) d one zero = absurd (omega (arith, one))

module _ (f : Function) (one : length f.blocks ≡ 1) (at : SlotPlace) where
  by_inst : at.block ≡ 0 → (i : Inst) → is_elsewhere_by f 0 at i ≡ false
  by_inst here i =
      let first : unwrap_or (block_in f (slice_index i.args (at.arg + 1))) at.block ≡ 0 = first_alone (λ (b : Block). b.label.0 == slice_index i.args (at.arg + 1)) f.blocks at.block one here in
      let there : mention_block f at i ≡ 0 = elim (cases_Bool (is i.op code.Phi)) [
        | inl phi ↦ ap (λ p. cond p (unwrap_or (block_in f (slice_index i.args (at.arg + 1))) at.block) at.block) phi ∙ first
        | inr other ↦ ap (λ p. cond p (unwrap_or (block_in f (slice_index i.args (at.arg + 1))) at.block) at.block) other ∙ here
      ] in
      ap (λ n. not (n == 0)) there

  by_user : at.block ≡ 0 → (o : Option Inst) → option_map_or (is_elsewhere_by f 0 at) o false ≡ false
  by_user here None = refl
  by_user here (Some i) = by_inst here i

  by_block : (o : Option Block) → slice_get f.blocks at.block ≡ o → option_map_or (is_elsewhere_by f 0 at) (option_and_then (λ (b : Block). slice_get b.insts at.inst) o) false ≡ false
  by_block None is = refl
  by_block (Some b) is =
      let inside : at.block < length f.blocks = slice_get_within f.blocks at.block b is in
      by_user (omega (arith, inside, one)) (slice_get b.insts at.inst)

  not_elsewhere : is_elsewhere f 0 at ≡ false
  not_elsewhere = by_block (slice_get f.blocks at.block) refl

none_in_first : (f : Function) → length f.blocks ≡ 1 → (ps : List SlotPlace) → list_any (is_elsewhere f 0) ps ≡ false
none_in_first f one [] = refl
none_in_first f one (p ∷ ps) = ap (λ b. b || list_any (is_elsewhere f 0) ps) (not_elsewhere f one p) ∙ none_in_first f one ps

-- what is mentioned in a block that is the only one is mentioned nowhere else
pub none_elsewhere : (f : Function) (block : ℕ) (ps : List SlotPlace) → ((block == 0) && (length f.blocks == 1)) ≡ true → list_any (is_elsewhere f block) ps ≡ false
none_elsewhere f block ps alone = elim (cases_Bool (block == 0)) [
  | inl first ↦
      let one : length f.blocks ≡ 1 = eqb-true (length f.blocks) 1 (sym (ap (λ b. b && (length f.blocks == 1)) first) ∙ alone) in
      subst (λ n. list_any (is_elsewhere f n) ps ≡ false) (sym (eqb-true block 0 first)) (none_in_first f one ps)
  | inr later ↦ absurd (no_true (sym (ap (λ b. b && (length f.blocks == 1)) later) ∙ alone))
]
  where
    no_true : false ≡ true → ⊥
    no_true e = cc
