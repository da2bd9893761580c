-- Slots of words.
use Rattle.std.proofs.Common.{◌≡◌, ◌==◌, ◌≢◌, ℕ, false, List, Option, Some, None, length, refl, ap, sym, ◌∙◌, arith, cond, get_or, set, subst, inl, inr}
use Rattle.std.specs.Option.{option_map_or}
use Rattle.std.proofs.lemmas.List.{get_or-set_same, get_or-set_other}
use Rattle.std.proofs.Math.ListN.{length-set}
use Rattle.std.proofs.lemmas.Bool.Decides.{nat_tests, eqb_tells}
use Rattle.id_map.specs.Entries.{slot_in, held, place_by}
use Rattle.id_map.proofs.Slots.{slot_is}

-- a word is written to the slot of an id, and perhaps its place among the others
module _ (least : ℕ) (slots : List ℕ) (old new : ℕ → Option ℕ) (id k w : ℕ) (p : Option ℕ) (here : slot_in least (length slots) id ≡ Some k) (given : held w (new id) ≡ p) (kept : (other : ℕ) → (id == other) ≡ false → new other ≡ old other) where
  held_at : (other : ℕ) (o : Option ℕ) → slot_in least (length slots) other ≡ o → (id == other) ≡ false → option_map_or (λ j. held (get_or (set slots k w) j 4294967295) (new other)) o (new other) ≡ option_map_or (λ j. held (get_or slots j 4294967295) (old other)) o (old other)
  held_at other None is differs = kept other differs
  held_at other (Some j) is differs =
      let a = slot_is least (length slots) id k here in
      let b = slot_is least (length slots) other j is in
      let apart : j ≢ k = grind (arith, nat_tests, a.0, b.0, differs) in
      ap (λ v. held v (new other)) (get_or-set_other slots k j w 4294967295 apart) ∙ ap (held (get_or slots j 4294967295)) (kept other differs)

  pub word_written : (other : ℕ) → place_by least (set slots k w) new other ≡ cond (id == other) p (place_by least slots old other)
  word_written other =
      let size : length (set slots k w) ≡ length slots = length-set slots k w in
      let moved : place_by least (set slots k w) new other ≡ option_map_or (λ j. held (get_or (set slots k w) j 4294967295) (new other)) (slot_in least (length slots) other) (new other) =
      ap (λ n. option_map_or (λ j. held (get_or (set slots k w) j 4294967295) (new other)) (slot_in least n other) (new other)) size in
      moved ∙ (elim (eqb_tells id other) [
        | inl e ↦
            let same : id ≡ other = e.1 in
            let a = slot_is least (length slots) id k here in
            let at : slot_in least (length slots) other ≡ Some k = subst (λ n. slot_in least (length slots) n ≡ Some k) same here in
            ap (λ o. option_map_or (λ j. held (get_or (set slots k w) j 4294967295) (new other)) o (new other)) at
            ∙ ap (λ v. held v (new other)) (get_or-set_same slots k w 4294967295 a.1)
            ∙ subst (λ n. held w (new n) ≡ p) same given
            ∙ sym (ap (λ b. cond b p (place_by least slots old other)) e.0)
        | inr e ↦
            held_at other (slot_in least (length slots) other) refl e.0
            ∙ sym (ap (λ b. cond b p (place_by least slots old other)) e.0)
      ])

-- what has no slot is written among the others
module _ (least : ℕ) (slots : List ℕ) (old new : ℕ → Option ℕ) (id : ℕ) (p : Option ℕ) (here : slot_in least (length slots) id ≡ None) (now : (other : ℕ) → new other ≡ cond (id == other) p (old other)) where
  beyond_at : (other : ℕ) (o : Option ℕ) → slot_in least (length slots) other ≡ o → option_map_or (λ j. held (get_or slots j 4294967295) (new other)) o (new other) ≡ cond (id == other) p (option_map_or (λ j. held (get_or slots j 4294967295) (old other)) o (old other))
  beyond_at other None is = now other
  beyond_at other (Some j) is =
      elim (eqb_tells id other) [
        | inl e ↦
            let at : slot_in least (length slots) other ≡ None = subst (λ n. slot_in least (length slots) n ≡ None) e.1 here in
            let no : Some j ≡ None = sym is ∙ at in
            cc
        | inr e ↦
            ap (held (get_or slots j 4294967295)) (now other ∙ ap (λ b. cond b p (old other)) e.0)
            ∙ sym (ap (λ b. cond b p (held (get_or slots j 4294967295) (old other))) e.0)
      ]

  pub word_beyond : (other : ℕ) → place_by least slots new other ≡ cond (id == other) p (place_by least slots old other)
  word_beyond other = beyond_at other (slot_in least (length slots) other) refl
