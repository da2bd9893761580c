-- Chains are in order and end; each element stands in the chain of its first, and in one chain once.
use Rattle.std.proofs.Common.{◌≡◌, ◌<◌, ◌≤◌, ◌==◌, ℕ, zero, suc, Bool, true, false, List, [], ◌∷◌, ◌++◌, length, Option, Some, None, ◌⊎◌, inl, inr, ⊎_elim, refl, sym, ap, ◌∙◌, subst, arith}
use Rattle.std.specs.Prelude.{option_and_then}
use Rattle.std.specs.Option.{option_map_or}
use Rattle.std.specs.List.{list_any, IsDistinct, AllByRecursion}
use Rattle.std.proofs.lemmas.Bool.{false≢true}
use Rattle.std.proofs.lemmas.Bool.Decides.{eqb_tells}
use Rattle.std.proofs.lemmas.Map.Steps.{length-le_from_distinct_below}
use Rattle.std.proofs.lemmas.Option.{same_Some}
use Rattle.region_law.specs.Leads.{AreInOrder, In, AreApart}
use Rattle.tree_law.specs.Chain.{chain, after, chains}

pub in_left : (x : ℕ) (xs ys : List ℕ) → In x xs → In x (xs ++ ys)
in_left x [] ys h = absurd h
in_left x (t ∷ xs) ys (inl e) = inl e
in_left x (t ∷ xs) ys (inr h) = inr (in_left x xs ys h)

pub in_right : (x : ℕ) (xs ys : List ℕ) → In x ys → In x (xs ++ ys)
in_right x [] ys h = h
in_right x (t ∷ xs) ys h = inr (in_right x xs ys h)

pub in_either : (x : ℕ) (xs ys : List ℕ) → In x (xs ++ ys) → In x xs ⊎ In x ys
in_either x [] ys h = inr h
in_either x (t ∷ xs) ys (inl e) = inl (inl e)
in_either x (t ∷ xs) ys (inr h) = ⊎_elim (λ l. inl (inr l)) (λ r. inr r) (in_either x xs ys h)

pub apart_joined : (xs ys : List ℕ) → AreApart xs → AreApart ys → ((x : ℕ) → In x xs → In x ys → ⊥) → AreApart (xs ++ ys)
apart_joined [] ys a b no_both = b
apart_joined (t ∷ xs) ys a b no_both = (λ h. ⊎_elim (λ l. a.0 l) (λ r. no_both t (inl refl) r) (in_either t xs ys h), apart_joined xs ys a.1 b (λ x l r. no_both x (inr l) r))

-- for std's count of distinct numbers
not_in : (t : ℕ) (xs : List ℕ) → (In t xs → ⊥) → AllByRecursion (λ y. (t == y) ≡ false) xs
not_in t [] h = tt
not_in t (x ∷ xs) h = (elim (eqb_tells t x) [ inl e ↦ absurd (h (inl e.1)) | inr e ↦ e.0 ], not_in t xs (λ q. h (inr q)))

distinct : (xs : List ℕ) → AreApart xs → IsDistinct ◌==◌ xs
unfolding IsDistinct
distinct [] a = tt
distinct (x ∷ xs) a = (not_in x xs a.0, distinct xs a.1)

is_in : (q : ℕ) (xs : List ℕ) → list_any (λ y. q == y) xs ≡ true → In q xs
is_in q [] h = absurd (false≢true h)
is_in q (x ∷ xs) h = elim (eqb_tells q x) [ inl e ↦ inl e.1 | inr e ↦ inr (is_in q xs (rw e.0 at h)) ]

module _ (next : ℕ → Option ℕ) (size : ℕ) (below : (t u : ℕ) → next t ≡ Some u → u < size) (no_cycle : (t n : ℕ) → n < size → after next (suc n) t ≡ Some t → ⊥) where
  abbrev C : ℕ → ℕ → List ℕ
  C = chain next

  abbrev A : ℕ → ℕ → Option ℕ
  A = after next

  -- what stands in a chain is some steps behind its first
  reached : (n t x : ℕ) → In x (C n t) → (m : ℕ) × (m < n) × (A m t ≡ Some x)
  reached zero t x h = absurd h
  reached (suc n) t x (inl e) = (0, omega arith, ap (λ q. Some q) (sym e))
  reached (suc n) t x (inr h) = by_next (next t) refl h (λ u i. reached n u x i)
    where
      by_next : (o : Option ℕ) → next t ≡ o → In x (option_map_or (C n) o []) → ((u : ℕ) → In x (C n u) → (m : ℕ) × (m < n) × (A m u ≡ Some x)) → (m : ℕ) × (m < suc n) × (A m t ≡ Some x)
      by_next None e h ih = absurd h
      by_next (Some u) e h ih = let r = ih u h in (suc r.0, omega (arith, r.1), ap (λ q. option_and_then (A r.0) q) e ∙ r.2)

  stands : (m n t x : ℕ) → m < n → A m t ≡ Some x → In x (C n t)
  stands m zero t x lt e = absurd (omega (arith, lt))
  stands zero (suc n) t x lt e = inl (sym (same_Some t x e))
  stands (suc m) (suc n) t x lt e = by_next (next t) refl e (λ u i. stands m n u x (omega (arith, lt)) i)
    where
      by_next : (o : Option ℕ) → next t ≡ o → option_and_then (A m) o ≡ Some x → ((u : ℕ) → A m u ≡ Some x → In x (C n u)) → In x (C (suc n) t)
      by_next None is e ih = cc
      by_next (Some u) is e ih = inr (subst (λ q. In x (option_map_or (C n) q [])) (sym is) (ih u e))

  apart : (n t : ℕ) → n ≤ suc size → AreApart (C n t)
  apart zero t le = tt
  apart (suc n) t le = by_next (next t) refl (λ u. apart n u (omega (arith, le)))
    where
      by_next : (o : Option ℕ) → next t ≡ o → ((u : ℕ) → AreApart (C n u)) → AreApart (t ∷ option_map_or (C n) o [])
      by_next None e ih = ((λ h. h), tt)
      by_next (Some u) e ih = ((λ h. let r = reached n u t h in no_cycle t r.0 (omega (arith, r.1, le)) (ap (λ q. option_and_then (A r.0) q) e ∙ r.2)), ih u)

  long : (n t x : ℕ) → A n t ≡ Some x → length (C (suc n) t) ≡ suc n
  long zero t x e = by_next (next t)
    where
      by_next : (o : Option ℕ) → length (t ∷ option_map_or (C 0) o []) ≡ 1
      by_next None = refl
      by_next (Some u) = refl
  long (suc n) t x e = by_next (next t) refl e (λ u i. long n u x i)
    where
      by_next : (o : Option ℕ) → next t ≡ o → option_and_then (A n) o ≡ Some x → ((u : ℕ) → A n u ≡ Some x → length (C (suc n) u) ≡ suc n) → length (C (suc (suc n)) t) ≡ suc (suc n)
      by_next None is e ih = cc
      by_next (Some u) is e ih = ap (λ q. suc (length (option_map_or (C (suc n)) q []))) is ∙ ap (λ q. suc q) (ih u e)

  small : (n t : ℕ) → t < size → (x : ℕ) → In x (C n t) → x < size
  small zero t lt x h = absurd h
  small (suc n) t lt x (inl e) = subst (λ q. q < size) (sym e) lt
  small (suc n) t lt x (inr h) = by_next (next t) refl h (λ u l i. small n u l x i)
    where
      by_next : (o : Option ℕ) → next t ≡ o → In x (option_map_or (C n) o []) → ((u : ℕ) → u < size → In x (C n u) → x < size) → x < size
      by_next None e h ih = absurd h
      by_next (Some u) e h ih = ih u (below t u e) h

  -- the way from each ends
  pub ends : (t : ℕ) → t < size → A size t ≡ None
  ends t lt = by_end (A size t) refl
    where
      too_long : (k : ℕ) → k ≤ size → k ≡ suc size → ⊥
      too_long k a b = omega (arith, a, b)

      by_end : (o : Option ℕ) → A size t ≡ o → A size t ≡ None
      by_end None e = e
      by_end (Some x) e = absurd (too_long (length (C (suc size) t))
          (length-le_from_distinct_below (C (suc size) t) size (distinct (C (suc size) t) (apart (suc size) t (omega arith))) (λ q i. small (suc size) t lt q (is_in q (C (suc size) t) i)))
          (long size t x e))

  ordered : (n t : ℕ) → A n t ≡ None → AreInOrder next (C n t)
  ordered zero t e = cc
  ordered (suc n) t e = by_next (next t) refl e (λ u i. ordered n u i)
    where
      begins : (m u : ℕ) → A m u ≡ None → next t ≡ Some u → AreInOrder next (C m u) → AreInOrder next (t ∷ C m u)
      begins zero u e is h = cc
      begins (suc m) u e is h = (inr is, h)

      by_next : (o : Option ℕ) → next t ≡ o → option_and_then (A n) o ≡ None → ((u : ℕ) → A n u ≡ None → AreInOrder next (C n u)) → AreInOrder next (C (suc n) t)
      by_next None is e ih = subst (λ q. AreInOrder next (t ∷ option_map_or (C n) q [])) (sym is) is
      by_next (Some u) is e ih = subst (λ q. AreInOrder next (t ∷ option_map_or (C n) q [])) (sym is) (begins n u e is (ih u e))

  -- a chain is in order, and none comes twice
  pub chain_ordered : (t : ℕ) → t < size → AreInOrder next (C size t)
  chain_ordered t lt = ordered size t (ends t lt)

  pub chain_apart : (t : ℕ) → AreApart (C size t)
  chain_apart t = apart size t (omega arith)

  -- some steps lead on by one more
  one_more : (m s t : ℕ) → A m s ≡ Some t → A (suc m) s ≡ next t
  one_more zero s t e = by_next (next s) refl ∙ ap next (same_Some s t e)
    where
      by_next : (o : Option ℕ) → next s ≡ o → A 1 s ≡ next s
      by_next None is = ap (λ q. option_and_then (A 0) q) is ∙ sym is
      by_next (Some u) is = ap (λ q. option_and_then (A 0) q) is ∙ sym is
  one_more (suc m) s t e = by_next (next s) refl e (λ u i. one_more m u t i)
    where
      by_next : (o : Option ℕ) → next s ≡ o → option_and_then (A m) o ≡ Some t → ((u : ℕ) → A m u ≡ Some t → A (suc m) u ≡ next t) → A (suc (suc m)) s ≡ next t
      by_next None is e ih = cc
      by_next (Some u) is e ih = ap (λ q. option_and_then (A (suc m)) q) is ∙ ih u e

  -- what stands in a chain, and what it leads to
  pub chain_goes_on : (s t u : ℕ) → s < size → In t (C size s) → next t ≡ Some u → In u (C size s)
  chain_goes_on s t u lt h e =
      let r = reached size s t h in
      let more : A (suc r.0) s ≡ Some u = one_more r.0 s t r.2 ∙ e in
      within (suc r.0) more r.1
    where
      within : (m : ℕ) → A m s ≡ Some u → m ≤ size → In u (C size s)
      within m is le = by_less (m == size) refl
        where
          by_less : (b : Bool) → (m == size) ≡ b → In u (C size s)
          by_less b same = ⊎_elim (λ q. let never : Some u ≡ None = sym is ∙ ap (λ k. A k s) q ∙ ends s lt in cc) (λ q. stands m size s u q is) (less_or m size le)
            where
              less_or : (a c : ℕ) → a ≤ c → (a ≡ c) ⊎ (a < c)
              less_or zero zero l = inl refl
              less_or zero (suc c) l = inr (omega arith)
              less_or (suc a) zero l = absurd (omega (arith, l))
              less_or (suc a) (suc c) l = ⊎_elim (λ e. inl (ap (λ k. suc k) e)) (λ e. inr (omega (arith, e))) (less_or a c (omega (arith, l)))

  -- the last of a way that ends
  last_of : (n t : ℕ) → A n t ≡ None → (m : ℕ) × (s : ℕ) × (m < n) × (A m t ≡ Some s) × (next s ≡ None)
  last_of zero t e = cc
  last_of (suc n) t e = by_next (next t) refl e (λ u i. last_of n u i)
    where
      by_next : (o : Option ℕ) → next t ≡ o → option_and_then (A n) o ≡ None → ((u : ℕ) → A n u ≡ None → (m : ℕ) × (s : ℕ) × (m < n) × (A m u ≡ Some s) × (next s ≡ None)) → (m : ℕ) × (s : ℕ) × (m < suc n) × (A m t ≡ Some s) × (next s ≡ None)
      by_next None is e ih = (0, t, omega arith, refl, is)
      by_next (Some u) is e ih = let r = ih u e in (suc r.0, r.1, omega (arith, r.2), ap (λ q. option_and_then (A r.0) q) is ∙ r.3, r.4)

  -- a way ends in one place
  one_end : (i j x a b : ℕ) → A i x ≡ Some a → next a ≡ None → A j x ≡ Some b → next b ≡ None → a ≡ b
  one_end zero zero x a b ea na eb nb = sym (same_Some x a ea) ∙ same_Some x b eb
  one_end zero (suc j) x a b ea na eb nb = let none : next x ≡ None = ap next (same_Some x a ea) ∙ na in let never : None ≡ Some b = ap (λ q. option_and_then (A j) q) (sym none) ∙ eb in cc
  one_end (suc i) zero x a b ea na eb nb = let none : next x ≡ None = ap next (same_Some x b eb) ∙ nb in let never : None ≡ Some a = ap (λ q. option_and_then (A i) q) (sym none) ∙ ea in cc
  one_end (suc i) (suc j) x a b ea na eb nb = by_next (next x) ea eb (λ u p q. one_end i j u a b p na q nb)
    where
      by_next : (o : Option ℕ) → option_and_then (A i) o ≡ Some a → option_and_then (A j) o ≡ Some b → ((u : ℕ) → A i u ≡ Some a → A j u ≡ Some b → a ≡ b) → a ≡ b
      by_next None p q ih = cc
      by_next (Some u) p q ih = ih u p q

  -- the other way round
  turned : (other : ℕ → Option ℕ) → ((t u : ℕ) → other u ≡ Some t → next t ≡ Some u) → (n t s : ℕ) → after other n t ≡ Some s → A n s ≡ Some t
  turned other back zero t s e = ap (λ q. Some q) (sym (same_Some t s e))
  turned other back (suc n) t s e = by_other (other t) refl e (λ r i. turned other back n r s i)
    where
      by_other : (o : Option ℕ) → other t ≡ o → option_and_then (after other n) o ≡ Some s → ((r : ℕ) → after other n r ≡ Some s → A n s ≡ Some r) → A (suc n) s ≡ Some t
      by_other None is e ih = cc
      by_other (Some r) is e ih = one_more n s r (ih r e) ∙ back r t is

pub in_order_on : (next : ℕ → Option ℕ) (xs ys : List ℕ) → AreInOrder next xs → AreInOrder next ys → AreInOrder next (xs ++ ys)
in_order_on next [] ys a b = b
in_order_on next (t ∷ []) [] a b = a
in_order_on next (t ∷ []) (y ∷ ys) a b = (inl a, b)
in_order_on next (t ∷ u ∷ xs) ys a b = (a.0, in_order_on next (u ∷ xs) ys a.1 b)

-- those that lead nowhere are in order
pub all_last : (next : ℕ → Option ℕ) (xs : List ℕ) → ((x : ℕ) → In x xs → next x ≡ None) → AreInOrder next xs
all_last next [] h = tt
all_last next (x ∷ []) h = h x (inl refl)
all_last next (x ∷ y ∷ xs) h = (inl (h x (inl refl)), all_last next (y ∷ xs) (λ z i. h z (inr i)))

module _ (next prev : ℕ → Option ℕ) (size : ℕ) (there : (t u : ℕ) → next t ≡ Some u → prev u ≡ Some t) (back : (t u : ℕ) → prev u ≡ Some t → next t ≡ Some u)
    (below : (t u : ℕ) → next t ≡ Some u → u < size) (low : (t u : ℕ) → next t ≡ Some u → t < size) (no_cycle : (t n : ℕ) → n < size → after next (suc n) t ≡ Some t → ⊥) where
  no_cycle_back : (t n : ℕ) → n < size → after prev (suc n) t ≡ Some t → ⊥
  no_cycle_back t n lt e = no_cycle t n lt (turned next size below no_cycle prev back (suc n) t t e)

  low_back : (u t : ℕ) → prev u ≡ Some t → t < size
  low_back u t e = low t u (back t u e)

  -- each stands in the chain of one that nothing leads to
  pub has_first : (t : ℕ) → t < size → (s : ℕ) × (prev s ≡ None) × In t (chain next size s)
  has_first t lt =
      let l = last_of prev size low_back no_cycle_back size t (ends prev size low_back no_cycle_back t lt) in
      (l.1, l.4, stands next size below no_cycle l.0 size l.1 t l.2 (turned next size below no_cycle prev back l.0 t l.1 l.3))

  -- and in no other such chain
  pub one_first : (x a b : ℕ) → prev a ≡ None → prev b ≡ None → In x (chain next size a) → In x (chain next size b) → a ≡ b
  one_first x a b na nb ia ib =
      let ra = reached next size below no_cycle size a x ia in
      let rb = reached next size below no_cycle size b x ib in
      one_end prev size low_back no_cycle_back ra.0 rb.0 x a b
      (turned prev size low_back no_cycle_back next (λ t u e. there u t e) ra.0 a x ra.2) na
      (turned prev size low_back no_cycle_back next (λ t u e. there u t e) rb.0 b x rb.2) nb

  pub chain_of : (x : ℕ) (ss : List ℕ) → In x (chains next size ss) → (s : ℕ) × In s ss × In x (chain next size s)
  chain_of x [] h = absurd h
  chain_of x (s ∷ ss) h = ⊎_elim (λ l. (s, inl refl, l)) (λ r. let q = chain_of x ss r in (q.0, inr q.1, q.2)) (in_either x (chain next size s) (chains next size ss) h)

  -- the chains of firsts, one behind the other: none comes twice, and each is followed by that to which it leads
  pub chains_apart : (ss : List ℕ) → AreApart ss → ((s : ℕ) → In s ss → prev s ≡ None) → AreApart (chains next size ss)
  chains_apart [] a n = tt
  chains_apart (s ∷ ss) a n =
      apart_joined (chain next size s) (chains next size ss) (chain_apart next size below no_cycle s) (chains_apart ss a.1 (λ r i. n r (inr i)))
      (λ x l r. let q = chain_of x ss r in a.0 (subst (λ k. In k ss) (sym (one_first x s q.0 (n s (inl refl)) (n q.0 (inr q.1)) l q.2)) q.1))

  pub in_chains : (x s : ℕ) (ss : List ℕ) → In s ss → In x (chain next size s) → In x (chains next size ss)
  in_chains x s [] i h = absurd i
  in_chains x s (r ∷ ss) (inl e) h = in_left x (chain next size r) (chains next size ss) (subst (λ k. In x (chain next size k)) e h)
  in_chains x s (r ∷ ss) (inr i) h = in_right x (chain next size r) (chains next size ss) (in_chains x s ss i h)

  pub chains_ordered : (ss : List ℕ) → ((s : ℕ) → In s ss → s < size) → AreInOrder next (chains next size ss)
  chains_ordered [] l = tt
  chains_ordered (s ∷ ss) l = in_order_on next (chain next size s) (chains next size ss) (chain_ordered next size below no_cycle s (l s (inl refl))) (chains_ordered ss (λ r i. l r (inr i)))
