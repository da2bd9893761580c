-- What a pair of an edge is: what a live phi of its block takes from the block where the edge begins.
use Rattle.std.proofs.Common.{◌≡◌, ◌+◌, ◌%◌, ◌==◌, not, ℕ, zero, suc, Bool, true, false, List, [], ◌∷◌, filter, Option, Some, None, inl, inr, refl, sym, ap, ◌∙◌, subst, arith}
use Rattle.std.specs.Prelude.{◌⊎◌, slice_get, slice_index}
use Rattle.std.proofs.lemmas.Bool.{not-true}
use Rattle.spv_ops.specs.Opcode.{is}
use Rattle.spv_ops.specs.declared.Op.TheVariants as code
use Rattle.spv_module.specs.declared.inst.Inst.{Inst}
use Rattle.spv_module.specs.declared.inst.Block.{Block}
use Rattle.spv_module.specs.declared.inst.Function.{Function}
use Rattle.spv_index.specs.Locals.{block_in}
use Rattle.hoist_plan.specs.declared.form.Form.{Form}
use Rattle.phi_copies.specs.Sequence.{Pair}
use Rattle.function_plan.specs.Phis.{is_gone, is_live_phi, live_phis, values_in, is_block, comes_from, pair_with, given_by, pairs_into}
use Rattle.function_plan.specs.Once.{with_id, once_by, itself}
use Rattle.list_law.proofs.Tests.{and_right}
use Rattle.list_law.proofs.Numbers.{even_after, same_number}
use Rattle.typed_law.proofs.Lists.{and_left}
use Rattle.claim_law.specs.Claimed.{IsIn}
use Rattle.grammar_law.proofs.Unit.Lists.{of_filter, of_flat}
use Rattle.grammar_law.proofs.Meets.LiveOrGone.{of_mapped}

-- a value of a phi stands at an even place, and behind it the label of its block
value_place : (args : List ℕ) (v : ℕ × ℕ) → IsIn v (values_in args) → (k : ℕ) × ((k % 2 == 0) ≡ true) × (slice_get args k ≡ Some v.0) × (slice_index args (k + 1) ≡ v.1) × (slice_get args (k + 1) ≡ Some v.1)
value_place [] v there = absurd there
value_place (a ∷ []) v there = absurd there
value_place (a ∷ b ∷ args) v (inl same) = (zero, refl, ap (λ (q : ℕ × ℕ). Some q.0) same, ap (λ (q : ℕ × ℕ). q.1) same, ap (λ (q : ℕ × ℕ). Some q.1) same)
value_place (a ∷ b ∷ args) v (inr there) =
    let w = value_place args v there in (
      suc (suc w.0),
      subst (λ (n : ℕ). (n % 2 == 0) ≡ true) (let two : w.0 + 2 ≡ suc (suc w.0) = omega arith in two) (even_after w.0 w.1),
      w.2,
      subst (λ (n : ℕ). slice_index (a ∷ b ∷ args) n ≡ v.1) (let one : suc (suc (w.0 + 1)) ≡ suc (suc w.0) + 1 = omega arith in one) w.3,
      subst (λ (n : ℕ). slice_get (a ∷ b ∷ args) n ≡ Some v.1) (let one : suc (suc (w.0 + 1)) ≡ suc (suc w.0) + 1 = omega arith in one) w.4,
    )

found_block : (b : ℕ) (q : Option ℕ) → is_block b q ≡ true → q ≡ Some b
found_block b None on = cc
found_block b (Some c) on = ap (λ (x : ℕ). Some x) (same_number c b on)

-- a pair of an edge
pub record IsPairOf (gs : List Inst) (form : ℕ → Form) (f : Function) (b : ℕ) (holder : Block) (q : Pair) : Type 0 where
  pub phi : Inst
  pub among : IsIn phi holder.insts
  pub is_phi : is phi.op code.Phi ≡ true
  pub kept : is_gone (form phi.result) ≡ false
  pub value : ℕ × ℕ
  pub place : ℕ
  pub even : (place % 2 == 0) ≡ true
  pub at : slice_get phi.args place ≡ Some value.0
  pub from : block_in f (slice_index phi.args (place + 1)) ≡ Some b
  pub label : slice_get phi.args (place + 1) ≡ Some value.1
  pub comes : block_in f value.1 ≡ Some b
  pub same : pair_with gs phi.result value ≡ q

pub pair_of : (gs : List Inst) (form : ℕ → Form) (f : Function) (b : ℕ) (holder : Block) (q : Pair) → IsIn q (pairs_into gs form f b holder) → IsPairOf gs form f b holder q
pair_of gs form f b holder q there =
    let i = of_flat (given_by gs f b) (live_phis form holder) q there in
    let live = of_filter (is_live_phi form) holder.insts i.0 i.1 in
    let v = of_mapped (pair_with gs i.0.result) (filter (comes_from f b) (values_in i.0.args)) q i.2 in
    let there_in = of_filter (comes_from f b) (values_in i.0.args) v.0 v.1 in
    let k = value_place i.0.args v.0 there_in.0 in
    record {
      phi = i.0;
      among = live.0;
      is_phi = and_left (is i.0.op code.Phi) (not (is_gone (form i.0.result))) live.1;
      kept = not-true (is_gone (form i.0.result)) (and_right (is i.0.op code.Phi) (not (is_gone (form i.0.result))) live.1);
      value = v.0;
      place = k.0;
      even = k.1;
      at = k.2;
      from = ap (block_in f) k.3 ∙ found_block b (block_in f v.0.1) there_in.1;
      label = k.4;
      comes = found_block b (block_in f v.0.1) there_in.1;
      same = v.2;
    }

-- an edge is among those of the block, each once
pub in_once : (seen : ℕ → Bool) (ts : List ℕ) (t : ℕ) → seen t ≡ false → IsIn t ts → IsIn t (once_by itself seen ts)
in_once seen [] t new there = absurd there
in_once seen (x ∷ ts) t new there = by_seen (seen x) refl there (in_once seen ts t new) (in_once (with_id x seen) ts t)
  where
    no_seen : (seen x ≡ true) → x ≡ t → ⊥
    no_seen on same = clash (sym on ∙ (ap seen same ∙ new))
      where
        clash : true ≡ false → ⊥
        clash e = cc

    by_new : (b : Bool) → (t == x) ≡ b → IsIn t ts → (with_id x seen t ≡ false → IsIn t ts → IsIn t (once_by itself (with_id x seen) ts)) → IsIn t (x ∷ once_by itself (with_id x seen) ts)
    by_new true same among later = inl (sym (same_number t x same))
    by_new false other among later = inr (later (ap (λ (b : Bool). elim b [ true ↦ true | false ↦ seen t ]) other ∙ new) among)

    by_seen : (b : Bool) → seen x ≡ b → (x ≡ t) ⊎ IsIn t ts → (IsIn t ts → IsIn t (once_by itself seen ts)) → (with_id x seen t ≡ false → IsIn t ts → IsIn t (once_by itself (with_id x seen) ts)) → IsIn t (elim b [ true ↦ once_by itself seen ts | false ↦ x ∷ once_by itself (with_id x seen) ts ])
    by_seen true on (inl same) rest later = absurd (no_seen on same)
    by_seen true on (inr among) rest later = rest among
    by_seen false off (inl same) rest later = inl same
    by_seen false off (inr among) rest later = by_new (t == x) refl among later
