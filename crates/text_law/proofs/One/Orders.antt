-- The calls of a module determine the order of its functions.
use Rattle.std.proofs.Common.{◌≡◌, ◌<◌, ◌≤◌, ◌+◌, ℕ, zero, suc, List, [], ◌∷◌, length, take, refl, ap, sym, ◌∙◌, subst, inl, inr, arith, Contains}
use Rattle.std.specs.Prelude.{slice_index}
use Rattle.std.proofs.lemmas.Bool.Decides.{leb_tells}
use Rattle.std.proofs.lemmas.List.{take_all, take_more_same}
use Rattle.spv_module.specs.declared.inst.Id.{Id}
use Rattle.spv_module.specs.declared.inst.Function.{Function}
use Rattle.profile_rules.specs.Calls.{ids_of, Calls, Leads, place, IsNext, IsCallOrder, numbers, HaveOwnIds, AreCalleesFunctions}
use Rattle.call_order.specs.Graph.{number}
use Rattle.call_order.proofs.Numbers.{number_place}

-- the numbers of ids tell the ids
ids_one : (a b : List Id) → numbers a ≡ numbers b → a ≡ b
ids_one [] [] e = refl
ids_one [] (y ∷ b) e = cc
ids_one (x ∷ a) [] e = cc
ids_one (x ∷ a) (y ∷ b) e =
    let both : x.0 ∷ numbers a ≡ y.0 ∷ numbers b = e in
    let one : x.0 ≡ y.0 = cc in
    let rest : numbers a ≡ numbers b = cc in
    let later = ids_one a b rest in
    λ i. record { 0 = one i } ∷ later i

module _ (fs : List Function) (entry : ℕ) (own : HaveOwnIds fs) (callees : AreCalleesFunctions fs) (is_function : Contains (ids_of fs) entry) where
  reached_known : (f n : ℕ) → Leads (Calls fs) n entry f → Contains (ids_of fs) f
  reached_known f zero leads = subst (Contains (ids_of fs)) leads is_function
  reached_known f (suc n) leads = callees leads.0 f leads.2

  next_one : (l : List ℕ) (f g : ℕ) → IsNext fs entry l f → IsNext fs entry l g → f ≡ g
  next_one l f g v w =
      let up = v.earliest g w.ready in
      let down = w.earliest f v.ready in
      let same : place fs f ≡ place fs g = omega (arith, up, down) in
      sym (number_place fs f own (reached_known f v.ready.reached.0 v.ready.reached.1)).1 ∙ (ap (number fs) same ∙ (number_place fs g own (reached_known g w.ready.reached.0 w.ready.reached.1)).1)

  module _ (a b : List ℕ) (v : IsCallOrder fs entry a) (w : IsCallOrder fs entry b) where
    begin_one : (k : ℕ) → k ≤ length a → k ≤ length b → take k a ≡ take k b
    begin_one zero up down = refl
    begin_one (suc k) up down =
        let less : k < length a = omega (arith, up) in
        let fewer : k < length b = omega (arith, down) in
        let before = begin_one k (let le : k ≤ length a = omega (arith, up) in le) (let le : k ≤ length b = omega (arith, down) in le) in
        let here = next_one (take k a) (slice_index a k) (slice_index b k) (v.next k less) (subst (λ l. IsNext fs entry l (slice_index b k)) (sym before) (w.next k fewer)) in
        let on : suc k ≡ k + 1 = omega arith in
        ap (λ n. take n a) on ∙ (take_more_same a b k 0 less fewer before here ∙ ap (λ n. take n b) (sym on))

    -- what stands behind all functions that calls reach is not listed yet
    none_longer : length b ≤ length a
    none_longer = elim (leb_tells (length b) (length a)) [
      | inl e ↦ e.1
      | inr e ↦
          let less : length a < length b = omega (arith, e.1) in
          let begun : a ≡ take (length a) b = sym (take_all (length a) a (let le : length a ≤ length a = omega arith in le)) ∙ begin_one (length a) (let le : length a ≤ length a = omega arith in le) (let le : length a ≤ length b = omega (arith, less) in le) in
          let next = w.next (length a) less in
          absurd (next.ready.unlisted (subst (λ l. Contains l (slice_index b (length a))) begun (v.all (slice_index b (length a)) next.ready.reached)))
    ]

  numbers_one : (a b : List ℕ) → IsCallOrder fs entry a → IsCallOrder fs entry b → a ≡ b
  numbers_one a b v w =
      let up = none_longer a b v w in
      let down = none_longer b a w v in
      let same : length a ≡ length b = omega (arith, up, down) in
      sym (take_all (length a) a (let le : length a ≤ length a = omega arith in le))
      ∙ (begin_one a b v w (length a) (let le : length a ≤ length a = omega arith in le) down ∙ take_all (length a) b up)

  -- two orders of calls from the entry are one
  pub order_one : (a b : List Id) → IsCallOrder fs entry (numbers a) → IsCallOrder fs entry (numbers b) → a ≡ b
  order_one a b v w = ids_one a b (numbers_one (numbers a) (numbers b) v w)
