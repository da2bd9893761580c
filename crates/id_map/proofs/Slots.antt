-- Slots of ids.
use Rattle.std.proofs.Common.{◌≡◌, ◌==◌, ◌<◌, ◌+◌, ◌-◌, ◌≢◌, ℕ, Bool, true, false, List, Option, Some, None, length, refl, ap, sym, ◌∙◌, arith, cond, get_or, set, subst, nat_lt, inl, inr}
use Rattle.std.specs.Option.{option_map_or}
use Rattle.std.proofs.lemmas.List.{get_or-set_same, get_or-set_other}
use Rattle.std.proofs.Math.ListN.{length-set}
use Rattle.std.proofs.lemmas.Bool.Decides.{nat_tests, eqb_tells}
use Rattle.std.proofs.lemmas.Option.{same_Some}
use Rattle.id_map.specs.Entries.{slot_in, entry_by}

-- where a slot stands
pub slot_is : (least count id k : ℕ) → slot_in least count id ≡ Some k → (id ≡ least + k) × (k < count)
unfolding slot_in
slot_is least count id k h =
    let by : (b c : Bool) → nat_lt id least ≡ b → nat_lt (id - least) count ≡ c → cond b None (cond c (Some (id - least)) None) ≡ Some k → (id ≡ least + k) × (k < count) =
    λ b c. elim b as (λ b. nat_lt id least ≡ b → nat_lt (id - least) count ≡ c → cond b None (cond c (Some (id - least)) None) ≡ Some k → (id ≡ least + k) × (k < count)) [
      | true ↦ λ low within is. cc
      | false ↦ elim c as (λ c. nat_lt id least ≡ false → nat_lt (id - least) count ≡ c → cond c (Some (id - least)) None ≡ Some k → (id ≡ least + k) × (k < count)) [
        | true ↦ λ low within is.
            let e : id - least ≡ k = same_Some (id - least) k is in
            (grind (arith, nat_tests, low, e), grind (arith, nat_tests, within, e))
        | false ↦ λ low within is. cc
      ]
    ] in
    by (nat_lt id least) (nat_lt (id - least) count) refl refl h

-- a slot is written
module _ {V : Type 0} (least : ℕ) (slots : List (Option V)) (others : ℕ → Option V) (id k : ℕ) (v : Option V) (here : slot_in least (length slots) id ≡ Some k) where
  written_at : (other : ℕ) (o : Option ℕ) → slot_in least (length slots) other ≡ o → (id == other) ≡ false → option_map_or (λ j. get_or (set slots k v) j None) o (others other) ≡ option_map_or (λ j. get_or slots j None) o (others other)
  written_at other None is differs = refl
  written_at other (Some j) is differs =
      let a = slot_is least (length slots) id k here in
      let b = slot_is least (length slots) other j is in
      let apart : j ≢ k = grind (arith, nat_tests, a.0, b.0, differs) in
      get_or-set_other slots k j v None apart

  pub written : (other : ℕ) → entry_by least (set slots k v) others other ≡ cond (id == other) v (entry_by least slots others other)
  written other =
      let size : length (set slots k v) ≡ length slots = length-set slots k v in
      let moved : entry_by least (set slots k v) others other ≡ option_map_or (λ j. get_or (set slots k v) j None) (slot_in least (length slots) other) (others other) =
      ap (λ n. option_map_or (λ j. get_or (set slots k v) j None) (slot_in least n other) (others other)) size in
      moved ∙ (elim (eqb_tells id other) [
        | inl w ↦
            let e : id ≡ other = w.1 in
            let a = slot_is least (length slots) id k here in
            let at : slot_in least (length slots) other ≡ Some k = subst (λ n. slot_in least (length slots) n ≡ Some k) e here in
            ap (λ o. option_map_or (λ j. get_or (set slots k v) j None) o (others other)) at
            ∙ get_or-set_same slots k v None a.1
            ∙ sym (ap (λ b. cond b v (entry_by least slots others other)) w.0)
        | inr w ↦
            written_at other (slot_in least (length slots) other) refl w.0
            ∙ sym (ap (λ b. cond b v (entry_by least slots others other)) w.0)
      ])

-- what has no slot is written among the others
module _ {V : Type 0} (least : ℕ) (slots : List (Option V)) (old new : ℕ → Option V) (id : ℕ) (v : Option V) (here : slot_in least (length slots) id ≡ None) (now : (other : ℕ) → new other ≡ cond (id == other) v (old other)) where
  outside_at : (other : ℕ) (o : Option ℕ) → slot_in least (length slots) other ≡ o → option_map_or (λ j. get_or slots j None) o (new other) ≡ cond (id == other) v (option_map_or (λ j. get_or slots j None) o (old other))
  outside_at other None is = now other
  outside_at other (Some j) is =
      elim (eqb_tells id other) [
        | inl w ↦
            let at : slot_in least (length slots) other ≡ None = subst (λ n. slot_in least (length slots) n ≡ None) w.1 here in
            let no : Some j ≡ None = sym is ∙ at in
            cc
        | inr w ↦ sym (ap (λ b. cond b v (get_or slots j None)) w.0)
      ]

  pub outside : (other : ℕ) → entry_by least slots new other ≡ cond (id == other) v (entry_by least slots old other)
  outside other = outside_at other (slot_in least (length slots) other) refl
