-- Places of scalars, gathered one after another.
use Rattle.std.proofs.Common.{◌≡◌, ◌≤◌, ◌<◌, ℕ, suc, ◌+◌, ◌-◌, List, [], ◌∷◌, ◌++◌, min, refl, ap, sym, subst, ◌∙◌, arith, drop, take, length, map, flat_map, get_or, Vec, Global, Result, Ok, Err, OnOk}
use Rattle.std.proofs.Math.ListN.{drop_of_length-le}
use Rattle.std.proofs.Math.Seq.{drop-cons, take-append_seam}
use Rattle.std.proofs.lemmas.List.{map-append, append_assoc, append-nil, length-append}
use Rattle.std.specs.List.{range_with_len}
use Rattle.spv_module.specs.declared.tree.Shape.{Shape}
use Rattle.spv_types.specs.Tree.{Tree}
use Rattle.spv_types.specs.View.{tree_of, trees_of}
use Rattle.value_words.specs.Words.{behind, scalar_paths, member_paths}
use Rattle.traces.specs.Events.{Location}
use Rattle.group_items.specs.declared.event.LeafPlace.{LeafPlace}
use Rattle.group_items.specs.Events.{locations_of}
use Rattle.module_semantics.specs.Setting.{Setting}
use Rattle.module_semantics.specs.Memory.{bytes_along, part_bytes, part_type}
use Rattle.memory_places.specs.declared.bases.Base.{Base}
use Rattle.memory_places.specs.declared.leaves.Gathered.{Gathered}
use Rattle.memory_places.specs.declared.leaves.Part.{Part}
use Rattle.memory_places.specs.Capped.{most_bytes}
use Rattle.memory_places.specs.Bases.{place_in}
use Rattle.memory_places.specs.Leaves.{leaf, leaves, HasGained, HasLeaves, HasLeft, IsGaining, IsInside, IsPartAt}

same_place : (base : Base) (m n : ℕ) (p q : List ℕ) → m ≡ n → p ≡ q → place_in base m p ≡ place_in base n q
same_place base m n p q e f = ap (λ k. place_in base k p) e ∙ ap (place_in base n) f

pub on_ok : {A E : Type 0} → (r : Result A E) (P Q : Type 0) → (P → Q) → OnOk r P → OnOk r Q
on_ok (Ok x) P Q f p = f p
on_ok (Err e) P Q f p = p

-- a scalar
own_leaf : (s : Setting) (base : Base) (part : Part) (path : List ℕ) → part.bytes ≤ most_bytes → leaf s base part path [] ≡ place_in base part.bytes path
own_leaf s base part path h = same_place base _ _ _ _ (let e : min most_bytes (part.bytes + 0) ≡ part.bytes = omega arith in e) (append-nil path)

pub scalar_gain : (s : Setting) (part : Part) (old new : Gathered) → part.bytes ≤ most_bytes → HasGained old new (place_in old.base part.bytes old.path.items ∷ []) → HasLeaves s part old new ([] ∷ [])
scalar_gain s part old new h g = subst (HasGained old new) (ap (λ (l : Location). l ∷ []) (sym (own_leaf s old.base part old.path.items h))) g

-- one index further
capped_sum : (w p r : ℕ) → min most_bytes (min most_bytes (w + p) + r) ≡ min most_bytes (w + (p + r))
capped_sum w p r = omega arith

inner_bytes : (s : Setting) (whole part : Part) (i : ℕ) (rest : List ℕ) → IsPartAt s whole i part
    → min most_bytes (part.bytes + bytes_along s part.ty rest) ≡ min most_bytes (whole.bytes + bytes_along s whole.ty (i ∷ rest))
inner_bytes s whole part i rest (ty, bytes) =
    ap (λ t. min most_bytes (part.bytes + bytes_along s t rest)) ty
    ∙ (ap (λ b. min most_bytes (b + bytes_along s (part_type s whole.ty i) rest)) bytes ∙ capped_sum whole.bytes (part_bytes s whole.ty i) (bytes_along s (part_type s whole.ty i) rest))

inner_leaf : (s : Setting) (base : Base) (whole part : Part) (i : ℕ) (path rest : List ℕ) → IsPartAt s whole i part → leaf s base part (path ++ i ∷ []) rest ≡ leaf s base whole path (i ∷ rest)
inner_leaf s base whole part i path rest at = same_place base _ _ _ _ (inner_bytes s whole part i rest at) (append_assoc path (i ∷ []) rest)

inner_leaves : (s : Setting) (base : Base) (whole part : Part) (i : ℕ) (path : List ℕ) → IsPartAt s whole i part
    → (ways : List (List ℕ)) → leaves s base part (path ++ i ∷ []) ways ≡ leaves s base whole path (behind i ways)
inner_leaves s base whole part i path at [] = refl
inner_leaves s base whole part i path at (w ∷ ws) =
    ap (λ l. l ∷ leaves s base part (path ++ i ∷ []) ws) (inner_leaf s base whole part i path w at) ∙ ap (λ ls. leaf s base whole path (i ∷ w) ∷ ls) (inner_leaves s base whole part i path at ws)

-- the places of a part are those of the whole behind the index
pub part_gain : (s : Setting) (whole part : Part) (i : ℕ) (ways : List (List ℕ)) (old inside low new : Gathered) → IsPartAt s whole i part
    → IsInside old inside i → HasLeaves s part inside low ways → HasLeft low new → HasLeaves s whole old new (behind i ways)
part_gain s whole part i ways old inside low new at e g l = record {
  base = l.base ∙ (g.base ∙ e.base);
  path = l.path old.path.items i (g.path ∙ e.path);
  places =
      ap (λ (v : Vec LeafPlace Global). locations_of v.items) l.places
      ∙ (g.places
      ∙ (ap (λ (v : Vec LeafPlace Global). locations_of v.items ++ leaves s inside.base part inside.path.items ways) e.places
      ∙ ap (λ ls. locations_of old.places.items ++ ls)
      (ap (λ (c : Base). leaves s c part inside.path.items ways) e.base
      ∙ (ap (λ q. leaves s old.base part q ways) e.path ∙ inner_leaves s old.base whole part i old.path.items at ways))));
}

-- the last index is taken away
pub last_taken : (before xs ys : List ℕ) (i n : ℕ) → ys ≡ take (n - 1) xs → n ≡ length xs → xs ≡ before ++ i ∷ [] → ys ≡ before
last_taken before xs ys i n y l x =
    let count : n - 1 ≡ length before = (let e : length (before ++ i ∷ []) ≡ length before + 1 = length-append before (i ∷ []) in omega (arith, e, l, ap (λ (q : List ℕ). length q) x)) in
    y ∙ (ap (λ m. take m xs) count ∙ (ap (take (length before)) x ∙ take-append_seam before (i ∷ [])))

-- one step of a loop
pub gain_start : (s : Setting) (part : Part) (old : Gathered) (whole : List (List ℕ)) → IsGaining s part old old whole whole
gain_start s part old whole = record { base = refl; path = refl; places = refl }

pub gain_next : (s : Setting) (part : Part) (old now new : Gathered) (w left whole : List (List ℕ))
    → IsGaining s part old now (w ++ left) whole → HasLeaves s part now new w → IsGaining s part old new left whole
gain_next s part old now new w left whole g h = record {
  base = h.base ∙ g.base;
  path = h.path ∙ g.path;
  places =
      ap (λ ls. ls ++ leaves s old.base part old.path.items left)
      (h.places ∙ ap (λ ls. locations_of now.places.items ++ ls) (ap (λ (b : Base). leaves s b part now.path.items w) g.base ∙ ap (λ p. leaves s old.base part p w) g.path))
      ∙ (append_assoc (locations_of now.places.items) (leaves s old.base part old.path.items w) (leaves s old.base part old.path.items left)
      ∙ (ap (λ ls. locations_of now.places.items ++ ls) (sym (map-append (leaf s old.base part old.path.items) w left)) ∙ g.places));
}

pub gain_end : (s : Setting) (part : Part) (old now : Gathered) (left whole : List (List ℕ)) → left ≡ [] → IsGaining s part old now left whole → HasLeaves s part old now whole
gain_end s part old now left whole none g = record {
  base = g.base;
  path = g.path;
  places =
      sym (append-nil (locations_of now.places.items))
      ∙ (ap (λ ws. locations_of now.places.items ++ leaves s old.base part old.path.items ws) (sym none) ∙ g.places);
}

-- indexes from i on, below n
first_index : (i n : ℕ) → i < n → range_with_len i (n - i) ≡ i ∷ range_with_len (i + 1) (n - (i + 1))
first_index i n h = let e : n - i ≡ suc (n - (i + 1)) = omega arith in ap (range_with_len i) e

pub no_index : (i n : ℕ) → n ≤ i → range_with_len i (n - i) ≡ []
no_index i n h = let e : n - i ≡ 0 = omega arith in ap (range_with_len i) e

pub next_component : (s : Setting) (part : Part) (old now new : Gathered) (i n : ℕ) (whole : List (List ℕ)) → i < n
    → IsGaining s part old now (map (λ k. k ∷ []) (range_with_len i (n - i))) whole → HasLeaves s part now new ((i ∷ []) ∷ [])
    → IsGaining s part old new (map (λ k. k ∷ []) (range_with_len (i + 1) (n - (i + 1)))) whole
next_component s part old now new i n whole h g one =
    gain_next s part old now new ((i ∷ []) ∷ []) (map (λ k. k ∷ []) (range_with_len (i + 1) (n - (i + 1)))) whole
    (subst (λ (ks : List ℕ). IsGaining s part old now (map (λ k. k ∷ []) ks) whole) (first_index i n h) g) one

pub next_element : (s : Setting) (part : Part) (old now new : Gathered) (t : Tree) (i n : ℕ) (whole : List (List ℕ)) → i < n
    → IsGaining s part old now (flat_map (λ k. behind k (scalar_paths t)) (range_with_len i (n - i))) whole → HasLeaves s part now new (behind i (scalar_paths t))
    → IsGaining s part old new (flat_map (λ k. behind k (scalar_paths t)) (range_with_len (i + 1) (n - (i + 1)))) whole
next_element s part old now new t i n whole h g one =
    gain_next s part old now new (behind i (scalar_paths t)) (flat_map (λ k. behind k (scalar_paths t)) (range_with_len (i + 1) (n - (i + 1)))) whole
    (subst (λ (ks : List ℕ). IsGaining s part old now (flat_map (λ k. behind k (scalar_paths t)) ks) whole) (first_index i n h) g) one

next_members : (ms : List Shape) (k : ℕ) (d : Shape) → k < length ms
    → member_paths k (trees_of (drop k ms)) ≡ behind k (scalar_paths (tree_of (get_or ms k d))) ++ member_paths (k + 1) (trees_of (drop (k + 1) ms))
next_members ms k d h =
    ap (λ (l : List Shape). member_paths k (trees_of l)) (drop-cons ms k d h)
    ∙ ap (λ n. behind k (scalar_paths (tree_of (get_or ms k d))) ++ member_paths (k + 1) (trees_of (drop n ms))) (let more : suc k ≡ k + 1 = omega arith in more)

pub next_member : (s : Setting) (part : Part) (old now new : Gathered) (ms : List Shape) (k : ℕ) (d : Shape) (whole : List (List ℕ)) → k < length ms
    → IsGaining s part old now (member_paths k (trees_of (drop k ms))) whole → HasLeaves s part now new (behind k (scalar_paths (tree_of (get_or ms k d))))
    → IsGaining s part old new (member_paths (k + 1) (trees_of (drop (k + 1) ms))) whole
next_member s part old now new ms k d whole h g one =
    gain_next s part old now new (behind k (scalar_paths (tree_of (get_or ms k d)))) (member_paths (k + 1) (trees_of (drop (k + 1) ms))) whole
    (subst (λ (ws : List (List ℕ)). IsGaining s part old now ws whole) (next_members ms k d h) g) one

pub no_member : (ms : List Shape) (k : ℕ) → length ms ≤ k → member_paths k (trees_of (drop k ms)) ≡ []
no_member ms k h = ap (λ (l : List Shape). member_paths k (trees_of l)) (drop_of_length-le ms h)

pub ruleset gain_rules = (part_gain, gain_start, gain_end, no_index, next_component, next_element, next_member, no_member)
