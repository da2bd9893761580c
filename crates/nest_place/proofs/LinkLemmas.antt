-- Links, added one by one to a table.
use Rattle.std.proofs.Common.{◌≡◌, ◌≢◌, ◌<◌, ◌≤◌, ◌+◌, ◌==◌, ◌&&◌, ◌||◌, ◌⊎◌, ℕ, zero, suc, Bool, true, false, List, [], ◌∷◌, ◌++◌, length, take, get_or, Option, Some, None, refl, ap, sym, ◌∙◌, subst, inl, inr, cond, arith, replicate}
use Rattle.std.specs.List.{find}
use Rattle.std.specs.Option.{option_or, option_map}
use Rattle.std.proofs.Math.ListN.{set}
use Rattle.std.proofs.lemmas.List.{take_more, get_or-set_same, get_or-set_other, length-set, length-replicate, take_all}
use Rattle.std.proofs.lemmas.List.Folds.{find-append, list_any-append}
use Rattle.std.proofs.lemmas.Bool.{or_cases, and_parts, or_left, or_right, and_from}
use Rattle.std.proofs.lemmas.Bool.Decides.{eqb_tells}
use Rattle.list_law.proofs.Options.{or_none}
pub use Rattle.list_law.proofs.Numbers.{number_itself as same_nat, same_number as equal_nat}
use Rattle.structure_rules.specs.Nesting.{Links, has_link, first_of}
use Rattle.nest_place.specs.Links.{IsTable, IsSingle}

abbrev link_if : ℕ × ℕ → ℕ → Option ℕ
link_if l a = cond (l.0 == a) (Some l.1) None

first_by : (b : Bool) (l : ℕ × ℕ) (o : Option (ℕ × ℕ)) → option_map (λ (l : ℕ × ℕ). l.1) (option_or o (cond b (Some l) None)) ≡ option_or (option_map (λ (l : ℕ × ℕ). l.1) o) (cond b (Some l.1) None)
first_by true l None = refl
first_by true l (Some m) = refl
first_by false l None = refl
first_by false l (Some m) = refl

first_push : (links : Links) (l : ℕ × ℕ) (a : ℕ) → first_of (links ++ l ∷ []) a ≡ option_or (first_of links a) (link_if l a)
first_push links l a = ap (option_map (λ (l : ℕ × ℕ). l.1)) (find-append (λ (m : ℕ × ℕ). m.0 == a) links (l ∷ [])) ∙ first_by (l.0 == a) l (find (λ (m : ℕ × ℕ). m.0 == a) links)

has_push : (links : Links) (l : ℕ × ℕ) (a b : ℕ) → has_link (links ++ l ∷ []) a b ≡ (has_link links a b || (((l.0 == a) && (l.1 == b)) || false))
has_push links l a b = list_any-append (λ (m : ℕ × ℕ). (m.0 == a) && (m.1 == b)) links (l ∷ [])

-- the first link of a block is one of its links
pub has_first : (links : Links) (a b : ℕ) → first_of links a ≡ Some b → has_link links a b ≡ true
has_first [] a b e = cc
has_first (l ∷ links) a b e =
    let later : first_of links a ≡ Some b → has_link links a b ≡ true = has_first links a b in
    let here : l.1 ≡ b → (l.1 == b) ≡ true = λ s. ap (λ q. q == b) s ∙ same_nat b in
    (elim (l.0 == a) as (λ t. option_map (λ (l : ℕ × ℕ). l.1) (cond t (Some l) (find (λ (m : ℕ × ℕ). m.0 == a) links)) ≡ Some b → ((t && (l.1 == b)) || has_link links a b) ≡ true) [
      | true ↦ λ h. or_left (l.1 == b) (has_link links a b) (here (let same : l.1 ≡ b = cc in same))
      | false ↦ later
    ]) e

front_has : (i : ℕ) (links : Links) (a b : ℕ) → has_link (take i links) a b ≡ true → has_link links a b ≡ true
front_has zero links a b e = cc
front_has (suc i) [] a b e = cc
front_has (suc i) (l ∷ links) a b e =
    elim (or_cases ((l.0 == a) && (l.1 == b)) (has_link (take i links) a b) e) [
      | inl here ↦ or_left ((l.0 == a) && (l.1 == b)) (has_link links a b) here
      | inr there ↦ or_right ((l.0 == a) && (l.1 == b)) (has_link links a b) (front_has i links a b there)
    ]

-- the links so far
pub record IsGathered (links : Links) (i n : ℕ) (table : List (Option ℕ)) : Type 0 where
  pub sized : length table ≡ n
  pub firsts : (a : ℕ) → get_or table a None ≡ first_of (take i links) a
  pub single : (a b : ℕ) → has_link (take i links) a b ≡ true → first_of (take i links) a ≡ Some b

pub gathered_none : (links : Links) (n : ℕ) (table : List (Option ℕ)) → table ≡ replicate n None → IsGathered links 0 n table
gathered_none links n table is = record {
  sized = ap length is ∙ length-replicate n None;
  firsts = λ a. ap (λ t. get_or t a None) is ∙ none n a;
  single = λ a b e. cc;
}
  where
    none : (n a : ℕ) → (λ (t : List (Option ℕ)). get_or t a None ≡ None) (replicate n None)
    none zero a = refl
    none (suc n) zero = refl
    none (suc n) (suc a) = none n a

module _ (links : Links) (i n : ℕ) (table : List (Option ℕ)) (d : ℕ × ℕ) (inside : i < length links) (g : IsGathered links i n table) where
  firsts_more : (a : ℕ) → first_of (take (i + 1) links) a ≡ option_or (get_or table a None) (link_if (get_or links i d) a)
  firsts_more a = ap (λ ls. first_of ls a) (take_more links i d inside) ∙ first_push (take i links) (get_or links i d) a ∙ ap (λ o. option_or o (link_if (get_or links i d) a)) (sym (g.firsts a))

  has_more : (a b : ℕ) → has_link (take (i + 1) links) a b ≡ true → (has_link (take i links) a b ≡ true) ⊎ (((get_or links i d).0 ≡ a) × ((get_or links i d).1 ≡ b))
  has_more a b e =
      let l : ℕ × ℕ = get_or links i d in
      let by : (has_link (take i links) a b || (((l.0 == a) && (l.1 == b)) || false)) ≡ true = sym (ap (λ ls. has_link ls a b) (take_more links i d inside) ∙ has_push (take i links) l a b) ∙ e in
      elim (or_cases (has_link (take i links) a b) (((l.0 == a) && (l.1 == b)) || false) by) [
        | inl before ↦ inl before
        | inr here ↦ elim (or_cases ((l.0 == a) && (l.1 == b)) false here) [
          | inl now ↦ let parts = and_parts (l.0 == a) (l.1 == b) now in inr (equal_nat l.0 a parts.0, equal_nat l.1 b parts.1)
          | inr never ↦ let h : false ≡ true = never in cc
        ]
      ]

  has_here : has_link (take (i + 1) links) (get_or links i d).0 (get_or links i d).1 ≡ true
  has_here =
      let l : ℕ × ℕ = get_or links i d in
      ap (λ ls. has_link ls l.0 l.1) (take_more links i d inside) ∙ has_push (take i links) l l.0 l.1
      ∙ or_right (has_link (take i links) l.0 l.1) _ (or_left ((l.0 == l.0) && (l.1 == l.1)) false (and_from (l.0 == l.0) (l.1 == l.1) (same_nat l.0) (same_nat l.1)))

  -- the first link of a block
  new_first : (a : ℕ) → (get_or links i d).0 < length table → get_or table (get_or links i d).0 None ≡ None → get_or (set table (get_or links i d).0 (Some (get_or links i d).1)) a None ≡ first_of (take (i + 1) links) a
  new_first a within free =
      let l : ℕ × ℕ = get_or links i d in
      elim (eqb_tells l.0 a) [
        | inl w ↦
            subst (λ q. get_or (set table l.0 (Some l.1)) q None ≡ first_of (take (i + 1) links) q) w.1
            (get_or-set_same table l.0 (Some l.1) None within
            ∙ sym (firsts_more l.0 ∙ ap (λ o. option_or o (link_if l l.0)) free ∙ ap (λ b. cond b (Some l.1) None) (same_nat l.0)))
        | inr w ↦
            let apart : a ≢ l.0 = λ e. w.1 (sym e) in
            get_or-set_other table l.0 a (Some l.1) None apart
            ∙ sym (firsts_more a ∙ ap (λ b. option_or (get_or table a None) (cond b (Some l.1) None)) w.0 ∙ or_none (get_or table a None))
      ]

  -- a block that has a link already
  old_first : (a v : ℕ) → get_or table (get_or links i d).0 None ≡ Some v → get_or table a None ≡ first_of (take (i + 1) links) a
  old_first a v taken =
      let l : ℕ × ℕ = get_or links i d in
      elim (eqb_tells l.0 a) [
        | inl w ↦
            subst (λ q. get_or table q None ≡ first_of (take (i + 1) links) q) w.1
            (taken ∙ sym (firsts_more l.0 ∙ ap (λ o. option_or o (link_if l l.0)) taken))
        | inr w ↦ sym (firsts_more a ∙ ap (λ b. option_or (get_or table a None) (cond b (Some l.1) None)) w.0 ∙ or_none (get_or table a None))
      ]

  kept_first : (a b : ℕ) → first_of (take i links) a ≡ Some b → first_of (take (i + 1) links) a ≡ Some b
  kept_first a b e = firsts_more a ∙ ap (λ o. option_or o (link_if (get_or links i d) a)) (g.firsts a ∙ e)

  pub gathered_new : (get_or links i d).0 < n → get_or table (get_or links i d).0 None ≡ None → IsGathered links (i + 1) n (set table (get_or links i d).0 (Some (get_or links i d).1))
  gathered_new within free =
      let l : ℕ × ℕ = get_or links i d in
      let room : l.0 < length table = omega (arith, within, g.sized) in
      record {
        sized = length-set table l.0 (Some l.1) ∙ g.sized;
        firsts = λ a. new_first a room free;
        single = λ a b e. elim (has_more a b e) [
          | inl before ↦ kept_first a b (g.single a b before)
          | inr here ↦
              let one : get_or (set table l.0 (Some l.1)) l.0 None ≡ Some l.1 = get_or-set_same table l.0 (Some l.1) None room in
              subst (λ q. first_of (take (i + 1) links) q ≡ Some b) here.0 (sym (new_first l.0 room free) ∙ one ∙ ap (λ q. Some q) here.1)
        ];
      }

  pub gathered_old : get_or table (get_or links i d).0 None ≡ Some (get_or links i d).1 → IsGathered links (i + 1) n table
  gathered_old taken =
      let l : ℕ × ℕ = get_or links i d in
      record {
        sized = g.sized;
        firsts = λ a. old_first a l.1 taken;
        single = λ a b e. elim (has_more a b e) [
          | inl before ↦ kept_first a b (g.single a b before)
          | inr here ↦ subst (λ q. first_of (take (i + 1) links) q ≡ Some b) here.0 (sym (old_first l.0 l.1 taken) ∙ taken ∙ ap (λ q. Some q) here.1)
        ];
      }

  pub clash_at : (v : ℕ) → get_or table (get_or links i d).0 None ≡ Some v → (v ≡ (get_or links i d).1 → ⊥) → (has_link links (get_or links i d).0 v ≡ true) × (has_link links (get_or links i d).0 (get_or links i d).1 ≡ true) × (v ≢ (get_or links i d).1)
  clash_at v taken apart =
      let l : ℕ × ℕ = get_or links i d in
      let old : has_link (take i links) l.0 v ≡ true = has_first (take i links) l.0 v (sym (g.firsts l.0) ∙ taken) in
      (front_has i links l.0 v old, front_has (i + 1) links l.0 l.1 has_here, apart)

pub gathered_all : (links : Links) (i n : ℕ) (table : List (Option ℕ)) → length links ≤ i → IsGathered links i n table → IsTable links table × IsSingle links × (length table ≡ n)
gathered_all links i n table all g =
    let whole : take i links ≡ links = take_all i links all in
    ((λ a. g.firsts a ∙ ap (λ ls. first_of ls a) whole), (λ a b e. ap (λ ls. first_of ls a) (sym whole) ∙ g.single a b (ap (λ ls. has_link ls a b) whole ∙ e)), g.sized)

pub ruleset table_rules = (gathered_none, gathered_all)

-- where there are no links
pub no_item : {X : Type 0} (xs : List X) → (length xs == 0) ≡ true → xs ≡ []
no_item [] none = refl
no_item (x ∷ xs) none = let e : suc (length xs) ≡ 0 = equal_nat (suc (length xs)) 0 none in absurd (omega (arith, e))

pub no_table : (links : Links) (table : List (Option ℕ)) → (length links == 0) ≡ true → table ≡ [] → IsTable links table
no_table links table none empty a = ap (λ t. get_or t a None) empty ∙ ap (λ ls. first_of ls a) (sym (no_item links none))

pub no_clash : (links : Links) → (length links == 0) ≡ true → IsSingle links
no_clash links none a b e = let never : has_link [] a b ≡ true = ap (λ ls. has_link ls a b) (sym (no_item links none)) ∙ e in cc
