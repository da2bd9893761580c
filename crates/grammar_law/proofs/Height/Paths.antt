-- A path has as many steps at most as there is room where it begins.
use Rattle.std.proofs.Common.{◌≡◌, ◌≤◌, ◌+◌, ◌==◌, ◌&&◌, ℕ, suc, Bool, true, false, List, [], ◌∷◌, ◌++◌, Option, fold, length, inl, inr, refl, ap, arith}
use Rattle.std.specs.Prelude.{flat_map, option_and_then}
use Rattle.std.specs.List.{enumerate_from}
use Rattle.std.proofs.lemmas.Bool.Decides.{eqb_tells}
use Rattle.std.proofs.lemmas.List.{length-append}
use Rattle.spv_ops.specs.Groups.{is_chain}
use Rattle.spv_module.specs.declared.inst.Inst.{Inst}
use Rattle.spv_module.specs.declared.inst.Block.{Block}
use Rattle.spv_module.specs.declared.inst.Function.{Function}
use Rattle.spv_index.specs.Locals.{insts_of}
use Rattle.profile_rules.specs.MemoryRules.{step_type, pointee_of}
use Rattle.access_paths.specs.Ways.{Way, Spot, base, indexes, steps_from, spot_of, chain_steps, start, further, with_inst, with_block, path}
use Rattle.list_law.proofs.Tests.{not_both}
use Rattle.plan_law.specs.InOrder.{IsAmong}
use Rattle.plan_law.proofs.Order.{among_left, among_right}
use Rattle.grammar_law.specs.Shallow.{AreDescending}

-- a chain makes a step for each index
steps-many : (gs : List Inst) (s : Spot) (number : ℕ) (ty : Option ℕ) (ids : List ℕ) → length (steps_from gs s number ty ids) ≡ length ids
steps-many gs s number ty [] = refl
steps-many gs s number ty (index ∷ rest) = ap suc (steps-many gs s (number + 1) (option_and_then (step_type gs index) ty) rest)

module _ (gs : List Inst) (f : Function) (room : ℕ → ℕ) (descending : AreDescending f room) (printed : ℕ) where
  abbrev HaveRoom : (ℕ → Way) → Type 0
  HaveRoom ways = (pointer : ℕ) → length (ways pointer).steps + room pointer ≤ 16

  inst-room : (stands : ℕ) (ways : ℕ → Way) (i : Inst) → IsAmong i (insts_of f) → HaveRoom ways → HaveRoom (with_inst gs f printed stands ways i)
  inst-room stands ways i among room_so pointer = by_chain (is_chain i.op) refl
    where
      more : length (chain_steps gs f (spot_of printed (stands, i)) i) ≡ length (indexes i)
      more = steps-many gs (spot_of printed (stands, i)) 0 (pointee_of gs f (base i)) (indexes i)

      led : is_chain i.op ≡ true → i.result ≡ pointer → length ((ways (base i)).steps ++ chain_steps gs f (spot_of printed (stands, i)) i) + room pointer ≤ 16
      led on same =
          let both = length-append (ways (base i)).steps (chain_steps gs f (spot_of printed (stands, i)) i) in
          let before = room_so (base i) in
          let less = descending.falls i among on in
          let own : room i.result ≡ room pointer = ap room same in
          let many = more in
          omega (arith, both, before, less, own, many)

      by_result : is_chain i.op ≡ true → (b : Bool) → (i.result ≡ pointer → b ≡ true) → (b ≡ true → i.result ≡ pointer)
          → length (elim b as (λ b. Way) [ true ↦ further (ways (base i)) (chain_steps gs f (spot_of printed (stands, i)) i) | false ↦ ways pointer ]).steps + room pointer ≤ 16
      by_result on true to from = led on (from refl)
      by_result on false to from = room_so pointer

      tells : (i.result ≡ pointer → (i.result == pointer) ≡ true) × ((i.result == pointer) ≡ true → i.result ≡ pointer)
      tells = elim (eqb_tells i.result pointer) [
        | inl w ↦ (λ same. w.0, λ on. w.1)
        | inr w ↦ (λ same. absurd (w.1 same), λ on. absurd (not_both (i.result == pointer) on w.0))
      ]

      by_chain : (b : Bool) → is_chain i.op ≡ b → length (elim (b && (i.result == pointer)) as (λ b. Way) [ true ↦ further (ways (base i)) (chain_steps gs f (spot_of printed (stands, i)) i) | false ↦ ways pointer ]).steps + room pointer ≤ 16
      by_chain true on = by_result on (i.result == pointer) tells.0 tells.1
      by_chain false off = room_so pointer

  insts-room : (stands : ℕ) (is : List Inst) (ways : ℕ → Way) → ((i : Inst) → IsAmong i is → IsAmong i (insts_of f)) → HaveRoom ways → HaveRoom (fold (with_inst gs f printed stands) ways is)
  insts-room stands [] ways among room_so = room_so
  insts-room stands (i ∷ is) ways among room_so = insts-room stands is (with_inst gs f printed stands ways i) (λ j there. among j (inr there)) (inst-room stands ways i (among i (inl refl)) room_so)

  blocks-room : (n : ℕ) (bs : List Block) (ways : ℕ → Way) → ((i : Inst) → IsAmong i (flat_map (λ (b : Block). b.insts) bs) → IsAmong i (insts_of f)) → HaveRoom ways → HaveRoom (fold (with_block gs f printed) ways (enumerate_from n bs))
  blocks-room n [] ways among room_so = room_so
  blocks-room n (b ∷ bs) ways among room_so =
      blocks-room (n + 1) bs (with_block gs f printed ways (n, b)) (λ i there. among i (among_right i b.insts (flat_map (λ (c : Block). c.insts) bs) there))
      (insts-room n b.insts ways (λ i there. among i (among_left i b.insts (flat_map (λ (c : Block). c.insts) bs) there)) room_so)

  -- so a path is short
  pub path-le : (pointer : ℕ) → length (path gs f printed pointer).steps ≤ 16
  path-le pointer =
      let at_first : HaveRoom start = λ p. (let low = descending.low p in omega (arith, low)) in
      let whole = blocks-room 0 f.blocks start (λ i there. there) at_first pointer in
      omega (arith, whole)
