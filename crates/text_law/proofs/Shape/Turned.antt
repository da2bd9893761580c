-- What the groups of a switch have, of which one has something at most, in whatever order they are written.
use Rattle.std.proofs.Common.{◌≡◌, ◌⊎◌, ℕ, Bool, true, false, List, [], ◌∷◌, ◌++◌, cond, Option, Some, None, nat_eq, inl, inr, refl, sym, ◌∙◌, ap, append-nil}
use Rattle.std.specs.Map.{update, update_all}
use Rattle.std.proofs.lemmas.Bool.Decides.{eqb_tells}
use Rattle.region_law.specs.Leads.{In, AreApart}

module _ (X : Type 0) where
  abbrev pub told : Option (List X) → List X
  told None = []
  told (Some m) = m

  abbrev pub in_turn : List ℕ → (ℕ → Option (List X)) → List X
  in_turn [] arms = []
  in_turn (t ∷ ts) arms = told (arms t) ++ in_turn ts (update nat_eq arms t None)

  abbrev pub all_of : List (ℕ × List X) → List X
  all_of [] = []
  all_of (e ∷ es) = e.1 ++ all_of es

  abbrev pub keys : List (ℕ × List X) → List ℕ
  keys [] = []
  keys (e ∷ es) = e.0 ∷ keys es

  abbrev pub AreEmpty : List (ℕ × List X) → Type 0
  AreEmpty [] = Unit {0}
  AreEmpty (e ∷ es) = (e.1 ≡ []) × AreEmpty es

  abbrev pub AtMostOne : List (ℕ × List X) → Type 0
  AtMostOne [] = Unit {0}
  AtMostOne (e ∷ es) = ((e.1 ≡ []) × AtMostOne es) ⊎ AreEmpty es

  abbrev AreNone : (ℕ → Option (List X)) → Type 0
  AreNone arms = (t : ℕ) → told (arms t) ≡ []

  set-none : (arms : ℕ → Option (List X)) (t : ℕ) (m : Option (List X)) (u : ℕ) → told m ≡ [] → told (arms u) ≡ [] → told (update nat_eq arms t m u) ≡ []
  set-none arms t m u one other = by_test (nat_eq t u)
    where
      by_test : (b : Bool) → told (cond b m (arms u)) ≡ []
      by_test true = one
      by_test false = other

  none-at : (es : List (ℕ × List X)) (arms : ℕ → Option (List X)) (u : ℕ) → AreEmpty es → told (arms u) ≡ [] → told (update_all nat_eq arms es u) ≡ []
  none-at [] arms u empty none = none
  none-at (e ∷ es) arms u empty none = none-at es (update nat_eq arms e.0 (Some e.1)) u empty.1 (set-none arms e.0 (Some e.1) u empty.0 none)

  none-all : (es : List (ℕ × List X)) → AreEmpty es → all_of es ≡ []
  none-all [] empty = refl
  none-all (e ∷ es) empty = ap (λ (l : List X). l ++ all_of es) empty.0 ∙ none-all es empty.1

  none-turn : (ts : List ℕ) (arms : ℕ → Option (List X)) → AreNone arms → in_turn ts arms ≡ []
  none-turn [] arms none = refl
  none-turn (t ∷ ts) arms none = ap (λ (l : List X). l ++ in_turn ts (update nat_eq arms t None)) (none t) ∙ none-turn ts (update nat_eq arms t None) (λ u. set-none arms t None u refl (none u))

  abbrev AreOthersNone : (ℕ → Option (List X)) → ℕ → Type 0
  AreOthersNone arms t = (u : ℕ) → (t ≡ u → ⊥) → told (arms u) ≡ []

  one-turn : (ts : List ℕ) (arms : ℕ → Option (List X)) (t : ℕ) → AreOthersNone arms t → In t ts → in_turn ts arms ≡ told (arms t)
  one-turn [] arms t none in_it = absurd in_it
  one-turn (u ∷ ts) arms t none in_it = by_place (eqb_tells u t) in_it (one-turn ts (update nat_eq arms u None) t (λ v other. set-none arms u None v refl (none v other)))
    where
      by_test : (b : Bool) → b ≡ true → told (cond b None (arms t)) ≡ []
      by_test true on = refl
      by_test false on = cc

      kept : (b : Bool) → b ≡ false → told (cond b None (arms t)) ≡ told (arms t)
      kept true off = cc
      kept false off = refl

      here : u ≡ t → nat_eq u t ≡ true → told (arms u) ++ in_turn ts (update nat_eq arms u None) ≡ told (arms t)
      here same on =
          ap (λ (l : List X). told (arms u) ++ l) (none-turn ts (update nat_eq arms u None) (λ v. by_other v (eqb_tells u v)))
          ∙ append-nil (told (arms u)) ∙ ap (λ n. told (arms n)) same
        where
          by_other : (v : ℕ) → ((nat_eq u v ≡ true) × (u ≡ v)) ⊎ ((nat_eq u v ≡ false) × (u ≡ v → ⊥)) → told (update nat_eq arms u None v) ≡ []
          by_other v (inl w) = gone (nat_eq u v) w.0
            where
              gone : (b : Bool) → b ≡ true → told (cond b None (arms v)) ≡ []
              gone true on = refl
              gone false on = cc
          by_other v (inr w) = set-none arms u None v refl (none v (λ e. w.1 (same ∙ e)))

      by_place : ((nat_eq u t ≡ true) × (u ≡ t)) ⊎ ((nat_eq u t ≡ false) × (u ≡ t → ⊥)) → (t ≡ u) ⊎ In t ts → (In t ts → in_turn ts (update nat_eq arms u None) ≡ told (update nat_eq arms u None t)) → told (arms u) ++ in_turn ts (update nat_eq arms u None) ≡ told (arms t)
      by_place (inl w) in_it later = here w.1 w.0
      by_place (inr w) (inl same) later = absurd (w.1 (sym same))
      by_place (inr w) (inr behind) later =
          ap (λ (l : List X). l ++ in_turn ts (update nat_eq arms u None)) (none u (λ e. w.1 (sym e))) ∙ later behind ∙ kept (nat_eq u t) w.0

  other-keys : (es : List (ℕ × List X)) (arms : ℕ → Option (List X)) (u : ℕ) → (In u (keys es) → ⊥) → told (update_all nat_eq arms es u) ≡ told (arms u)
  other-keys [] arms u off = refl
  other-keys (e ∷ es) arms u off = other-keys es (update nat_eq arms e.0 (Some e.1)) u (λ in_it. off (inr in_it)) ∙ by_place (eqb_tells e.0 u)
    where
      kept : (b : Bool) → b ≡ false → told (cond b (Some e.1) (arms u)) ≡ told (arms u)
      kept true no_more = cc
      kept false no_more = refl

      by_place : ((nat_eq e.0 u ≡ true) × (e.0 ≡ u)) ⊎ ((nat_eq e.0 u ≡ false) × (e.0 ≡ u → ⊥)) → told (update nat_eq arms e.0 (Some e.1) u) ≡ told (arms u)
      by_place (inl w) = absurd (off (inl (sym w.1)))
      by_place (inr w) = kept (nat_eq e.0 u) w.0

  -- all are empty, or one holds all there is
  abbrev IsFound : List (ℕ × List X) → (ℕ → Option (List X)) → Type 0
  IsFound es arms = ((all_of es ≡ []) × AreNone (update_all nat_eq arms es)) ⊎ ((t : ℕ) × In t (keys es) × (told (update_all nat_eq arms es t) ≡ all_of es) × AreOthersNone (update_all nat_eq arms es) t)

  found : (es : List (ℕ × List X)) (arms : ℕ → Option (List X)) → AtMostOne es → AreApart (keys es) → AreNone arms → IsFound es arms
  found [] arms most apart none = inl (refl, none)
  found (e ∷ es) arms (inl most) apart none = more (found es (update nat_eq arms e.0 (Some e.1)) most.1 apart.1 (λ u. set-none arms e.0 (Some e.1) u most.0 (none u)))
    where
      more : IsFound es (update nat_eq arms e.0 (Some e.1)) → IsFound (e ∷ es) arms
      more (inl f) = inl (ap (λ (l : List X). l ++ all_of es) most.0 ∙ f.0, f.1)
      more (inr f) = inr (f.0, inr f.1, f.2 ∙ sym (ap (λ (l : List X). l ++ all_of es) most.0), f.3)
  found (e ∷ es) arms (inr empty) apart none =
      inr (
        e.0,
        inl refl,
        other-keys es (update nat_eq arms e.0 (Some e.1)) e.0 apart.0 ∙ set (eqb_tells e.0 e.0) ∙ sym (ap (λ (l : List X). e.1 ++ l) (none-all es empty) ∙ append-nil e.1),
        λ u other. none-at es (update nat_eq arms e.0 (Some e.1)) u empty (by_place u other (eqb_tells e.0 u)),
      )
    where
      put : (b : Bool) → b ≡ true → told (cond b (Some e.1) (arms e.0)) ≡ e.1
      put true on = refl
      put false on = cc

      set : ((nat_eq e.0 e.0 ≡ true) × (e.0 ≡ e.0)) ⊎ ((nat_eq e.0 e.0 ≡ false) × (e.0 ≡ e.0 → ⊥)) → told (update nat_eq arms e.0 (Some e.1) e.0) ≡ e.1
      set (inl w) = put (nat_eq e.0 e.0) w.0
      set (inr w) = absurd (w.1 refl)

      kept : (u : ℕ) (b : Bool) → b ≡ false → told (cond b (Some e.1) (arms u)) ≡ []
      kept u true off = cc
      kept u false off = none u

      by_place : (u : ℕ) → (e.0 ≡ u → ⊥) → ((nat_eq e.0 u ≡ true) × (e.0 ≡ u)) ⊎ ((nat_eq e.0 u ≡ false) × (e.0 ≡ u → ⊥)) → told (update nat_eq arms e.0 (Some e.1) u) ≡ []
      by_place u other (inl w) = absurd (other w.1)
      by_place u other (inr w) = kept u (nat_eq e.0 u) w.0

  pub turned : (es : List (ℕ × List X)) (ts : List ℕ) → AtMostOne es → AreApart (keys es) → ((t : ℕ) → In t (keys es) → In t ts) → in_turn ts (update_all nat_eq (λ t. None) es) ≡ all_of es
  turned es ts most apart there = by_found (found es (λ t. None) most apart (λ t. refl))
    where
      by_found : IsFound es (λ t. None) → in_turn ts (update_all nat_eq (λ t. None) es) ≡ all_of es
      by_found (inl f) = none-turn ts (update_all nat_eq (λ t. None) es) f.1 ∙ sym f.0
      by_found (inr f) = one-turn ts (update_all nat_eq (λ t. None) es) f.0 f.3 (there f.0 f.1) ∙ f.2
