-- The scalars of a part: where a text has them, and which value their words are.
use Rattle.std.proofs.Common.{◌≡◌, ◌+◌, ◌*◌, ◌++◌, ℕ, suc, true, List, [], ◌∷◌, map, Option, Some, None, refl, sym, ap, ap₂, ◌∙◌, arith}
use Rattle.std.specs.Prelude.{drop, is_some, option_and_then, flat_map}
use Rattle.std.specs.List.{range_with_len}
use Rattle.std.specs.Option.{option_map_or}
use Rattle.std.proofs.lemmas.Bool.{and_from}
use Rattle.spv_module.specs.declared.inst.Inst.{Inst}
use Rattle.spv_module.specs.declared.tree.Length.TheVariants.{Fixed, Spec}
use Rattle.spv_types.specs.Tree as plain
use Rattle.spv_types.specs.Tree.{Tree, Trees, no_trees, tree, ValueTree, many, value, values_in}
use Rattle.spv_types.specs.Leaves.{leaf_count, leaf_counts, IsSized, AreSized}
use Rattle.value_words.specs.Words.{value_from, values_from, parts_from, behind, scalar_paths, member_paths}
use Rattle.traces.specs.Events.{Location}
use Rattle.module_semantics.specs.Setting.{Setting}
use Rattle.module_semantics.specs.Memory as module_memory
use Rattle.module_semantics.specs.Memory.{location, shape_along}
use Rattle.glsl_semantics.specs.Shapes.{tree_of, trees_of, is_sized, are_sized}
use Rattle.glsl_semantics.specs.Places.{Site, site_along, location_of, locations}
use Rattle.fits_law.specs.Takes.{nth_of}
use Rattle.fits_law.specs.State.{element_shape, place_shape}
use Rattle.global_law.specs.Parts.{StructNames, shape_in, fields_in, HasScalars}

-- each of these ways leads to a part
abbrev AllLead : Tree → List (List ℕ) → Type 0
AllLead t [] = Unit {0}
AllLead t (p ∷ ps) = (is_some (place_shape t p) ≡ true) × AllLead t ps

all_more : (t : Tree) (ps qs : List (List ℕ)) → AllLead t ps → AllLead t qs → AllLead t (ps ++ qs)
all_more t [] qs a b = b
all_more t (p ∷ ps) qs a b = (a.0, all_more t ps qs a.1 b)

all_behind : (t u : Tree) (i : ℕ) (ps : List (List ℕ)) → element_shape t i ≡ Some u → AllLead u ps → AllLead t (behind i ps)
all_behind t u i [] part a = tt
all_behind t u i (p ∷ ps) part a = (ap (λ o. is_some (option_and_then (λ x. place_shape x p) o)) part ∙ a.0, all_behind t u i ps part a.1)

all_each : (t u : Tree) (ps : List (List ℕ)) (is : List ℕ) → ((i : ℕ) → element_shape t i ≡ Some u) → AllLead u ps → AllLead t (flat_map (λ i. behind i ps) is)
all_each t u ps [] part a = tt
all_each t u ps (i ∷ is) part a = all_more t (behind i ps) (flat_map (λ i. behind i ps) is) (all_behind t u i ps (part i) a) (all_each t u ps is part a)

all_single : (t : Tree) (is : List ℕ) → ((i : ℕ) → is_some (element_shape t i) ≡ true) → AllLead t (map (λ i. i ∷ []) is)
all_single t [] part = tt
all_single t (i ∷ is) part = (by_part (element_shape t i) (part i), all_single t is part)
  where
    by_part : (o : Option Tree) → is_some o ≡ true → is_some (option_and_then (λ x. place_shape x []) o) ≡ true
    by_part None e = cc
    by_part (Some u) e = refl

-- to each scalar there is a way
mutual
  scalars_lead : (t : Tree) → AllLead t (scalar_paths t)
  scalars_lead plain.boolean = (refl, tt)
  scalars_lead plain.int = (refl, tt)
  scalars_lead plain.uint = (refl, tt)
  scalars_lead (plain.vector e n) = all_single (plain.vector e n) (range_with_len 0 n) (λ i. refl)
  scalars_lead (plain.array t (Fixed n)) = all_each (plain.array t (Fixed n)) t (scalar_paths t) (range_with_len 0 n) (λ i. refl) (scalars_lead t)
  scalars_lead (plain.array t (Spec id)) = tt
  scalars_lead (plain.runtime t) = tt
  scalars_lead (plain.struct id ts) = members_lead id ts ts 0 (λ i. ap (nth_of ts) (let same : 0 + i ≡ i = omega arith in same))

  members_lead : (id : ℕ) (whole ts : Trees) (k : ℕ) → ((i : ℕ) → nth_of whole (k + i) ≡ nth_of ts i) → AllLead (plain.struct id whole) (member_paths k ts)
  members_lead id whole no_trees k at = tt
  members_lead id whole (tree t ts) k at =
      all_more (plain.struct id whole) (behind k (scalar_paths t)) (member_paths (k + 1) ts)
      (all_behind (plain.struct id whole) t k (scalar_paths t) (ap (nth_of whole) (let same : k ≡ k + 0 = omega arith in same) ∙ at 0) (scalars_lead t))
      (members_lead id whole ts (k + 1) (λ i. ap (nth_of whole) (let same : k + 1 + i ≡ k + suc i = omega arith in same) ∙ at (suc i)))

module _ (s : Setting) (y : StructNames) where
  -- the type of the text has as many scalars, in the same order
  mutual
    same_paths : (t : Tree) → IsSized t → scalar_paths (tree_of (shape_in s y t)) ≡ scalar_paths t
    same_paths plain.boolean z = refl
    same_paths plain.int z = refl
    same_paths plain.uint z = refl
    same_paths (plain.vector e n) z = refl
    same_paths (plain.array t (Fixed n)) z = ap (λ ps. flat_map (λ i. behind i ps) (range_with_len 0 n)) (same_paths t z)
    same_paths (plain.array t (Spec id)) z = absurd z
    same_paths (plain.runtime t) z = refl
    same_paths (plain.struct id ts) z = same_members id 0 0 ts z

    same_members : (id j k : ℕ) (ts : Trees) → AreSized ts → member_paths k (trees_of (fields_in s y id j ts)) ≡ member_paths k ts
    same_members id j k no_trees z = refl
    same_members id j k (tree t ts) z = ap₂ (λ a b. behind k a ++ b) (same_paths t z.0) (same_members id (j + 1) (k + 1) ts z.1)

  mutual
    same_count : (t : Tree) → IsSized t → leaf_count (tree_of (shape_in s y t)) ≡ leaf_count t
    same_count plain.boolean z = refl
    same_count plain.int z = refl
    same_count plain.uint z = refl
    same_count (plain.vector e n) z = refl
    same_count (plain.array t (Fixed n)) z = ap (λ k. n * k) (same_count t z)
    same_count (plain.array t (Spec id)) z = absurd z
    same_count (plain.runtime t) z = refl
    same_count (plain.struct id ts) z = same_counts id 0 ts z

    same_counts : (id j : ℕ) (ts : Trees) → AreSized ts → leaf_counts (trees_of (fields_in s y id j ts)) ≡ leaf_counts ts
    same_counts id j no_trees z = refl
    same_counts id j (tree t ts) z = ap₂ (λ a b. a + b) (same_count t z.0) (same_counts id (j + 1) ts z.1)

  -- and the same words are the same value
  mutual
    pub same_value : (t : Tree) → IsSized t → (ws : List ℕ) → value_from (tree_of (shape_in s y t)) ws ≡ value_from t ws
    same_value plain.boolean z ws = refl
    same_value plain.int z ws = refl
    same_value plain.uint z ws = refl
    same_value (plain.vector e n) z ws = refl
    same_value (plain.array t (Fixed n)) z ws =
        let reads : value_from (tree_of (shape_in s y t)) ≡ value_from t = λ i words. same_value t z words i in
        ap₂ (λ (f : List ℕ → ValueTree) (k : ℕ). many (values_in (parts_from f k n ws))) reads (same_count t z)
    same_value (plain.array t (Spec id)) z ws = absurd z
    same_value (plain.runtime t) z ws = refl
    same_value (plain.struct id ts) z ws = ap many (same_values id 0 ts z ws)

    same_values : (id j : ℕ) (ts : Trees) → AreSized ts → (ws : List ℕ) → values_from (trees_of (fields_in s y id j ts)) ws ≡ values_from ts ws
    same_values id j no_trees z ws = refl
    same_values id j (tree t ts) z ws = ap₂ value (same_value t z.0 ws) (ap (λ k. values_from (trees_of (fields_in s y id (j + 1) ts)) (drop k ws)) (same_count t z.0) ∙ same_values id (j + 1) ts z.1 (drop (leaf_count t) ws))

  mutual
    pub sized_in : (t : Tree) → IsSized t → is_sized (shape_in s y t) ≡ true
    sized_in plain.boolean z = refl
    sized_in plain.int z = refl
    sized_in plain.uint z = refl
    sized_in (plain.vector e n) z = refl
    sized_in (plain.array t (Fixed n)) z = sized_in t z
    sized_in (plain.array t (Spec id)) z = absurd z
    sized_in (plain.runtime t) z = absurd z
    sized_in (plain.struct id ts) z = all_sized id 0 ts z

    all_sized : (id j : ℕ) (ts : Trees) → AreSized ts → are_sized (fields_in s y id j ts) ≡ true
    all_sized id j no_trees z = refl
    all_sized id j (tree t ts) z = and_from (is_sized (shape_in s y t)) (are_sized (fields_in s y id (j + 1) ts)) (sized_in t z.0) (all_sized id (j + 1) ts z.1)

  each_there : (v : Inst) (path : List ℕ) (t : Tree) (at : Site) → HasScalars s v path t (shape_in s y t) at → (ps : List (List ℕ)) → AllLead t ps → map (λ rest. location_of (site_along (tree_of (shape_in s y t)) rest at)) ps ≡ map (λ rest. location s v (path ++ rest)) ps
  each_there v path t at has [] a = refl
  each_there v path t at has (p ∷ ps) a = ap₂ (λ (x : Location) (xs : List Location). x ∷ xs) (has p a.0) (each_there v path t at has ps a.1)

  -- Of a part of which a value is read, the text has the scalars where the module has them.
  pub places_are : (v : Inst) (path : List ℕ) (t : Tree) (at : Site) → IsSized t → shape_along s v path ≡ Some t → HasScalars s v path t (shape_in s y t) at → locations (tree_of (shape_in s y t)) at ≡ module_memory.locations s v path
  places_are v path t at z shape has =
      ap (map (λ rest. location_of (site_along (tree_of (shape_in s y t)) rest at))) (same_paths t z)
      ∙ each_there v path t at has (scalar_paths t) (scalars_lead t)
      ∙ sym (ap (λ (o : Option Tree). option_map_or (λ (t : Tree). map (λ rest. location s v (path ++ rest)) (scalar_paths t)) o []) shape)
