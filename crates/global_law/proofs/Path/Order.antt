-- Where P3 and T1 are not broken, the chains of a function stand behind what makes their bases, each with a result of its own.
use Rattle.std.proofs.Common.{◌≡◌, ◌≢◌, ◌<◌, ◌≤◌, ◌+◌, ◌&&◌, ◌||◌, ℕ, true, false, List, [], ◌∷◌, inl, inr, refl, sym, ap, ◌∙◌, subst, arith}
use Rattle.std.specs.Prelude.{is_some, nat_lt, slice_index}
use Rattle.std.specs.Option.{option_map_or}
use Rattle.std.specs.List.{enumerate_from, list_any}
use Rattle.std.proofs.lemmas.Bool.{and_parts, or_parts}
use Rattle.spv_ops.specs.Groups.{is_chain}
use Rattle.spv_ops.specs.OpGroups.{takes_of, group_of}
use Rattle.spv_ops.specs.Operands.{is_id}
use Rattle.spv_ops.specs.declared.Op.{Op}
use Rattle.spv_ops.specs.declared.Op.TheVariants as code
use Rattle.spv_module.specs.State.{ModuleState}
use Rattle.spv_module.specs.declared.inst.Inst.{Inst}
use Rattle.spv_module.specs.declared.inst.Function.{Function}
use Rattle.spv_types.specs.Types.{if_earlier}
use Rattle.spv_index.specs.Locals.{insts_of, parameter_in, typed}
use Rattle.profile_rules.specs.declared.needs.Need.TheVariants.{Value}
use Rattle.profile_rules.specs.Operands.{need, suits, is_local_before, is_there_in, lacks_operand, breaks_t1_in}
use Rattle.module_semantics.specs.Steps.{base}
use Rattle.list_law.proofs.Tests.{but_not}
use Rattle.list_law.proofs.Numbers.{no_less, less_of}
use Rattle.plan_law.specs.InOrder.{IsAmong, AreRising, AreApart, IsOwn, AreInOrder}
use Rattle.plan_law.proofs.Order.{not_among, found}
use Rattle.typed_law.proofs.Sized.{rising_low}
use Rattle.global_law.specs.Chains.{NoneMakes, ChainsRise}

-- the first operand of a chain is a value
chain_needs : (o : Op) → is_chain o ≡ true → need o 0 ≡ Value
unfolding need takes_of group_of
chain_needs code.AccessChain e = refl
chain_needs code.InBoundsAccessChain e = refl
chain_needs o e = cc

chain_names : (o : Op) (x : ℕ) (xs : List ℕ) → is_chain o ≡ true → is_id o (x ∷ xs) 0 ≡ true
unfolding is_id
chain_names code.AccessChain x xs e = refl
chain_names code.InBoundsAccessChain x xs e = refl
chain_names o x xs e = cc

module _ (m : ModuleState) (f : Function) (order : AreInOrder m f) (some : (i : Inst) → IsAmong i (insts_of f) → is_chain i.op ≡ true → i.result ≡ 0 → ⊥) where
  -- what a chain's base is the result of stands before the chain
  base_before : (i j : Inst) → IsAmong i (insts_of f) → IsAmong j (insts_of f) → is_chain i.op ≡ true → is_chain j.op ≡ true → j.result ≡ base i → j.at < i.at
  base_before i j of_i of_j on too same = by_args i.args refl (order.there i of_i)
    where
      none_zero : j.result ≡ 0 → ⊥
      none_zero = some j of_j too

      mine : IsOwn m f j.result
      mine = order.own j of_j none_zero

      by_there : (x : ℕ) → x ≡ j.result → is_there_in m f i.at (need i.op 0) x ≡ true → j.at < i.at
      by_there x is there =
          let value : is_there_in m f i.at Value j.result ≡ true = ap (λ q. is_there_in m f i.at q j.result) (sym (chain_needs i.op on)) ∙ ap (is_there_in m f i.at (need i.op 0)) (sym is) ∙ there in
          let local : is_local_before f i.at j.result ≡ true = ap (λ o. option_map_or (suits Value) (if_earlier i.at o) false || is_local_before f i.at j.result) (sym mine.inside) ∙ value in
          let inst : (is_some (typed j) && nat_lt j.at i.at) ≡ true
          = ap (λ o. is_some o || (is_some (typed j) && nat_lt j.at i.at)) (sym mine.made)
          ∙ ap (λ o. is_some (parameter_in f j.result) || option_map_or (λ (x : Inst). is_some (typed x) && nat_lt x.at i.at) o false) (sym (found j (insts_of f) order.apart of_j none_zero)) ∙ local in
          less_of j.at i.at (and_parts (is_some (typed j)) (nat_lt j.at i.at) inst).1

      by_args : (args : List ℕ) → i.args ≡ args → breaks_t1_in m f i ≡ false → j.at < i.at
      by_args [] is e = absurd (none_zero (same ∙ ap (λ l. slice_index l 0) is))
      by_args (x ∷ xs) is e =
          let any = (or_parts _ (list_any (lacks_operand (is_there_in m f i.at) i) (enumerate_from 0 i.args)) e).1 in
          let first = (or_parts (lacks_operand (is_there_in m f i.at) i (0, x)) (list_any (lacks_operand (is_there_in m f i.at) i) (enumerate_from 1 xs)) (ap (λ l. list_any (lacks_operand (is_there_in m f i.at) i) (enumerate_from 0 l)) (sym is) ∙ any)).0 in
          let names : is_id i.op i.args 0 ≡ true = ap (λ l. is_id i.op l 0) is ∙ chain_names i.op x xs on in
          by_there x (sym (same ∙ ap (λ l. slice_index l 0) is)) (but_not (is_id i.op i.args 0) (is_there_in m f i.at (need i.op 0) x) names first)

  none_behind : (n : ℕ) (is : List Inst) → ((j : Inst) → IsAmong j is → is_chain j.op ≡ true → j.result ≢ n) → NoneMakes n is
  none_behind n [] all = tt
  none_behind n (i ∷ is) all = (λ on. all i (inl refl) on, none_behind n is (λ j at. all j (inr at)))

  rise_on : (n : ℕ) (is : List Inst) → AreRising n is → AreApart is → ((j : Inst) → IsAmong j is → IsAmong j (insts_of f)) → ChainsRise is
  rise_on n [] rising apart all = tt
  rise_on n (i ∷ is) rising apart all = (
    λ on. (none_behind (base i) (i ∷ is) (λ j at too same. behind j at too same on), none_behind i.result is (λ j at too same. not_among i.result j is (apart.0 (some i (all i (inl refl)) on)) at same)),
    rise_on (i.at + 1) is rising.1 apart.1 (λ j at. all j (inr at)),
  )
    where
      behind : (j : Inst) → IsAmong j (i ∷ is) → is_chain j.op ≡ true → j.result ≡ base i → is_chain i.op ≡ true → ⊥
      behind j at too same on =
          let before = base_before i j (all i (inl refl)) (all j at) on too same in
          elim at [
            | inl here ↦ no_less j.at i.at before (subst (λ (x : Inst). i.at ≤ x.at) here (let itself : i.at ≤ i.at = omega arith in itself))
            | inr there ↦ let low = rising_low (i.at + 1) is j rising.1 there in no_less j.at i.at before (omega (arith, low))
          ]

  -- So the chains of a function in order rise.
  pub chains_rise : ChainsRise (insts_of f)
  chains_rise = rise_on 0 (insts_of f) order.rising order.apart (λ j at. at)
