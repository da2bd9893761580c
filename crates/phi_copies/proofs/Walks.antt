-- Ways along the sources of pairs.
use Rattle.std.proofs.Common.{◌≡◌, ◌≤◌, ◌+◌, ◌-◌, ℕ, zero, suc, true, List, refl, sym, ◌∙◌, arith, subst}
use Rattle.std.proofs.lemmas.Bool.Decides.{nat_tests}
use Rattle.phi_copies.specs.declared.moves.Src.{Src}
use Rattle.phi_copies.specs.declared.moves.Src.TheVariants.{Var as Variable, Constant}
use Rattle.phi_copies.specs.Sequence.{Pair, target, pair_at, HaveOwnTargets, is_var}
use Rattle.phi_copies.specs.Cycles.{IsRead, Leads, IsOnCycle}
use Rattle.phi_copies.proofs.Reading.{same_place}

-- a source is one variable
one_variable : (v w : ℕ) (s : Src) → is_var v s ≡ true → is_var w s ≡ true → v ≡ w
one_variable v w (Variable x) h k = grind (arith, nat_tests, h, k)
one_variable v w (Constant c) h k = cc

module _ (ps : List Pair) (own : HaveOwnTargets ps) where
  pub read_one : (i j k : ℕ) → IsRead ps i j → IsRead ps i k → j ≡ k
  read_one i j k a b = same_place ps j k own a.to b.to (one_variable (target (pair_at ps j)) (target (pair_at ps k)) (pair_at ps i).1 a.source b.source)

  -- so many steps lead to one pair
  pub leads_one : (n i j k : ℕ) → Leads ps n i j → Leads ps n i k → j ≡ k
  leads_one zero i j k a b = sym a ∙ b
  leads_one (suc n) i j k a b = leads_one n a.0 j k a.1.1 (subst (λ x. Leads ps n x k) (read_one i b.0 a.0 b.1.0 a.1.0) b.1.1)

  pub leads_join : (m n i j k : ℕ) → Leads ps m i j → Leads ps n j k → (t : ℕ) → t ≡ m + n → Leads ps t i k
  leads_join zero n i j k a b t e = let same : n ≡ t = omega (arith, e) in subst (λ s. Leads ps s i k) same (subst (λ x. Leads ps n x k) (sym a) b)
  leads_join (suc m) n i j k a b zero e = absurd (omega (arith, e))
  leads_join (suc m) n i j k a b (suc t) e = (a.0, (a.1.0, leads_join m n a.0 j k a.1.1 b t (omega (arith, e))))

  -- a way splits after each number of steps
  pub leads_split : (m n i k : ℕ) (t : ℕ) → t ≡ m + n → Leads ps t i k → (j : ℕ) × (Leads ps m i j × Leads ps n j k)
  leads_split zero n i k t e a = let same : t ≡ n = omega (arith, e) in (i, (refl, subst (λ s. Leads ps s i k) same a))
  leads_split (suc m) n i k zero e a = absurd (omega (arith, e))
  leads_split (suc m) n i k (suc t) e a =
      let rest = leads_split m n a.0 k t (omega (arith, e)) a.1.1 in
      (rest.0, ((a.0, (a.1.0, rest.1.0)), rest.1.1))

  -- what stands behind a pair on a cycle is on it too
  pub cycle_behind : (n p i j : ℕ) → Leads ps n i j → Leads ps p i i → Leads ps p j j
  cycle_behind n p i j a c =
      let all : Leads ps (n + p) i j = leads_join p n i i j c a (n + p) (omega arith) in
      let parts = leads_split n p i j (n + p) refl all in
      subst (λ x. Leads ps p x j) (leads_one n i parts.0 j parts.1.0 a) parts.1.1

  -- round and round
  turns : (p i t : ℕ) → Leads ps (suc p) i i → (k : ℕ) × ((t ≤ k) × Leads ps k i i)
  turns p i zero c = (0, (omega arith, refl))
  turns p i (suc t) c =
      let more = turns p i t c in
      (suc p + more.0, (omega (arith, more.1.0), leads_join (suc p) more.0 i i i c more.1.1 (suc p + more.0) refl))

  -- and leads back
  pub leads_back : (n i j : ℕ) → Leads ps n i j → IsOnCycle ps i → (k : ℕ) × Leads ps k j i
  leads_back n i j a c =
      let round = turns c.steps i n c.back in
      let parts = leads_split n (round.0 - n) i i round.0 (omega (arith, round.1.0)) round.1.1 in
      (round.0 - n, subst (λ x. Leads ps (round.0 - n) x i) (leads_one n i parts.0 j parts.1.0 a) parts.1.1)

  -- the pair before the last step
  pub leads_last : (n i j : ℕ) → Leads ps (suc n) i j → (k : ℕ) × (Leads ps n i k × IsRead ps k j)
  leads_last n i j a =
      let parts = leads_split n 1 i j (suc n) (omega arith) a in
      (parts.0, (parts.1.0, subst (IsRead ps parts.0) parts.1.1.1.1 parts.1.1.1.0))
