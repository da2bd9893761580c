-- The pairs of an edge are fewer than the operands of the function's instructions.
use Rattle.std.proofs.Common.{◌≡◌, ◌<◌, ◌≤◌, ◌+◌, ◌^◌, ℕ, zero, suc, Bool, true, false, List, [], ◌∷◌, ◌++◌, length, map, filter, Option, Some, None, refl, subst, arith, if◌then◌else◌, length-append}
use Rattle.std.specs.Prelude.{flat_map, slice_get}
use Rattle.std.specs.Option.{option_map_or}
use Rattle.spv_module.specs.declared.inst.Inst.{Inst}
use Rattle.spv_module.specs.declared.inst.Block.{Block}
use Rattle.spv_module.specs.declared.inst.Function.{Function}
use Rattle.spv_index.specs.Locals.{insts_of}
use Rattle.hoist_plan.specs.declared.form.Form.{Form}
use Rattle.phi_copies.specs.Sequence.{Pair}
use Rattle.function_plan.specs.Phis.{is_live_phi, values_in, comes_from, pair_with, given_by, pairs_into, pairs}
use Rattle.accepted_law.proofs.Small.{args_in, args_append, filtered}

mapped_few : (f : ℕ × ℕ → Pair) (xs : List (ℕ × ℕ)) → length (map f xs) ≤ length xs
mapped_few f [] = omega arith
mapped_few f (x ∷ xs) = let rest = mapped_few f xs in omega (arith, rest)

values_few : (ws : List ℕ) → length (values_in ws) ≤ length ws
values_few [] = omega arith
values_few (v ∷ []) = omega arith
values_few (v ∷ l ∷ ws) = let rest = values_few ws in omega (arith, rest)

module _ (gs : List Inst) (form : ℕ → Form) (f : Function) (b : ℕ) where
  given_few : (i : Inst) → length (given_by gs f b i) ≤ length i.args
  given_few i =
      let mapped = mapped_few (pair_with gs i.result) (filter (comes_from f b) (values_in i.args)) in
      let kept = filtered (comes_from f b) (values_in i.args) in
      let values = values_few i.args in
      omega (arith, mapped, kept, values)

  insts_few : (is : List Inst) → length (flat_map (given_by gs f b) (filter (is_live_phi form) is)) ≤ args_in is
  insts_few [] = omega arith
  insts_few (i ∷ is) = by_test (is_live_phi form i) (insts_few is)
    where
      by_test : (c : Bool) → length (flat_map (given_by gs f b) (filter (is_live_phi form) is)) ≤ args_in is → length (flat_map (given_by gs f b) (if c then i ∷ filter (is_live_phi form) is else filter (is_live_phi form) is)) ≤ length i.args + args_in is
      by_test true rest =
          let whole = length-append (given_by gs f b i) (flat_map (given_by gs f b) (filter (is_live_phi form) is)) in
          let one = given_few i in
          omega (arith, whole, one, rest)
      by_test false rest = omega (arith, rest)

block_few : (bs : List Block) (t : ℕ) (holder : Block) → slice_get bs t ≡ Some holder → args_in holder.insts ≤ args_in (flat_map (λ (c : Block). c.insts) bs)
block_few [] t holder at = cc
block_few (x ∷ bs) zero holder at =
    let same : x ≡ holder = cc in
    subst (λ (y : Block). args_in y.insts ≤ args_in (x.insts ++ flat_map (λ (c : Block). c.insts) bs)) same
    (let whole = args_append x.insts (flat_map (λ (c : Block). c.insts) bs) in let le : args_in x.insts ≤ args_in (x.insts ++ flat_map (λ (c : Block). c.insts) bs) = omega (arith, whole) in le)
block_few (x ∷ bs) (suc t) holder at =
    let whole = args_append x.insts (flat_map (λ (c : Block). c.insts) bs) in
    let rest = block_few bs t holder at in
    omega (arith, whole, rest)

-- the law
pub few_pairs : (gs : List Inst) (form : ℕ → Form) (f : Function) → args_in (insts_of f) < 2 ^ 32 → (b t : ℕ) → length (pairs gs form f b t) < 2 ^ 32
few_pairs gs form f low b t = by_block (slice_get f.blocks t) refl
  where
    by_block : (q : Option Block) → slice_get f.blocks t ≡ q → length (option_map_or (pairs_into gs form f b) q []) < 2 ^ 32
    by_block None at = omega arith
    by_block (Some holder) at =
        let one = insts_few gs form f b holder.insts in
        let all : args_in holder.insts ≤ args_in (insts_of f) = block_few f.blocks t holder at in
        omega (arith, one, all, low)
