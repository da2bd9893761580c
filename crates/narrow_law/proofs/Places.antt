-- The places of block and workgroup variables have the numbers that the program has for them.
use Rattle.std.proofs.Common.{◌≡◌, ◌<◌, ◌≤◌, ◌^◌, ◌==◌, ℕ, ◌+◌, Bool, true, false, cond, List, [], ◌∷◌, ◌++◌, Option, Some, None, min, refl, ap, sym, subst, ◌∙◌, arith, length, map, filter, unwrap_or}
use Rattle.std.specs.Prelude.{option_and_then}
use Rattle.std.specs.Option.{option_map_or}
use Rattle.std.specs.List.{position_from}
use Rattle.spv_ops.specs.declared.StorageClass.{StorageClass}
use Rattle.spv_ops.specs.declared.StorageClass.TheVariants as storage
use Rattle.spv_module.specs.declared.inst.Inst.{Inst}
use Rattle.spv_types.specs.Tree as plain
use Rattle.spv_types.specs.Tree.{Tree, Trees}
use Rattle.spv_types.specs.Types.{type_tree}
use Rattle.value_words.specs.Words.{scalar_paths}
use Rattle.traces.specs.Events.{Location, shared}
use Rattle.module_semantics.specs.Setting.{Setting, shared_number, shared_variables}
use Rattle.module_semantics.specs.Memory.{are_allowed, bytes_along, class_of, location, location_by, locations, part_type, shape_along, type_along, variable_type}
use Rattle.fits_law.specs.State.{place_shape}
use Rattle.type_law.specs.Shaped.{AreConstants}
use Rattle.type_law.proofs.Places.{part_leads}
use Rattle.global_law.specs.Parts.{StructNames}
use Rattle.memory_places.specs.Capped.{capped, most_bytes, most_variables}
use Rattle.memory_places.proofs.Narrow.{narrow_location, narrow_locations, AreLow}
use Rattle.narrow_law.specs.Reach.{Along, AllAlong}
use Rattle.narrow_law.specs.Placed.{IsPlaced}
use Rattle.narrow_law.proofs.Inside.{allowed_along}
use Rattle.narrow_law.proofs.Blocks.{block_low}
use Rattle.narrow_law.proofs.Members.{members_low}
use Rattle.narrow_law.proofs.Scalars.{scalars_along, along_more}

-- no text is asked here, so names are none
pub no_names : StructNames
no_names = record { struct_name = λ id. []; member_name = λ id k. [] }

module _ (s : Setting) where
  abbrev Gs : List Inst
  Gs = s.of.globals

  -- the shape of a part by its type
  place_is : (path : List ℕ) (ty : ℕ) (t u : Tree) → type_tree Gs ty ≡ Some t → Along s t path → type_tree Gs (type_along s ty path) ≡ Some u → place_shape t path ≡ Some u
  place_is [] ty t u shape along e = sym shape ∙ e
  place_is (i ∷ is) ty t u shape (x, at, inside, short, along) e =
      ap (λ (o : Option Tree). option_and_then (λ z. place_shape z is) o) at ∙ place_is is (part_type s ty i) x u (part_leads s ty i t x shape at) along e

  module _ (v : Inst) (p : IsPlaced s v) where
    low : (path : List ℕ) → Along s (plain.struct p.number p.members) path → bytes_along s (variable_type s v) path ≤ most_bytes
    low path along =
        let b : bytes_along s (variable_type s v) path < 2 ^ 64 =
        block_low s no_names p.layout path (variable_type s v) p.number p.members p.shape (λ i u at. members_low s p.layout v p.block (variable_type s v) p.number p.members i u p.takes p.declared_is p.shape at (p.fine i u at)) along in
        omega (arith, b)

    all_low : (path : List ℕ) (t : Tree) → Along s (plain.struct p.number p.members) path → place_shape (plain.struct p.number p.members) path ≡ Some t → (ways : List (List ℕ)) → AllAlong s t ways → AreLow s v path ways
    all_low path t along at [] a = tt
    all_low path t along at (w ∷ ws) a = (low (path ++ w) (along_more s path (plain.struct p.number p.members) t w along at a.0), all_low path t along at ws a.1)

    -- a place in it, and those of the scalars of a part
    pub placed_location : (path : List ℕ) → Along s (plain.struct p.number p.members) path → shared_number s v.result ≤ most_variables → capped (location s v path) ≡ location s v path
    placed_location path along few = narrow_location s v path (low path along) few

    pub placed_locations : (path : List ℕ) → Along s (plain.struct p.number p.members) path → shared_number s v.result ≤ most_variables → map capped (locations s v path) ≡ locations s v path
    placed_locations path along few = by_shape (shape_along s v path) refl
      where
        by_shape : (o : Option Tree) → shape_along s v path ≡ o → map capped (option_map_or (λ (t : Tree). map (λ rest. location s v (path ++ rest)) (scalar_paths t)) o []) ≡ option_map_or (λ (t : Tree). map (λ rest. location s v (path ++ rest)) (scalar_paths t)) o []
        by_shape None is = refl
        by_shape (Some t) is =
            narrow_locations s v path (scalar_paths t) (all_low path t along (place_is path (variable_type s v) (plain.struct p.number p.members) t p.shape along is) (scalar_paths t) (scalars_along s t)) few

    -- by indexes that the types allow
    allowed_here : (path : List ℕ) → AreConstants s → are_allowed s (variable_type s v) path ≡ true → Along s (plain.struct p.number p.members) path
    allowed_here path right allowed = allowed_along s no_names p.layout path (variable_type s v) (plain.struct p.number p.members) right p.shape allowed

    pub block_place : (path : List ℕ) → AreConstants s → are_allowed s (variable_type s v) path ≡ true → shared_number s v.result ≤ most_variables → capped (location s v path) ≡ location s v path
    block_place path right allowed few = placed_location path (allowed_here path right allowed) few

    pub block_places : (path : List ℕ) → AreConstants s → are_allowed s (variable_type s v) path ≡ true → shared_number s v.result ≤ most_variables → map capped (locations s v path) ≡ locations s v path
    block_places path right allowed few = placed_locations path (allowed_here path right allowed) few

  -- workgroup variables have numbers alone
  by_class : (v : Inst) (path : List ℕ) (o : Option StorageClass) → o ≡ Some storage.Workgroup → shared_number s v.result ≤ most_variables
      → capped (location_by s v path (unwrap_or o storage.StorageBuffer)) ≡ location_by s v path (unwrap_or o storage.StorageBuffer)
  by_class v path o e few =
      subst (λ (q : Option StorageClass). capped (location_by s v path (unwrap_or q storage.StorageBuffer)) ≡ location_by s v path (unwrap_or q storage.StorageBuffer)) (sym e)
      (ap (λ n. shared n path) (let m : min most_variables (shared_number s v.result) ≡ shared_number s v.result = omega (arith, few) in m))

  pub shared_place : (v : Inst) (path : List ℕ) → class_of v ≡ Some storage.Workgroup → shared_number s v.result ≤ most_variables → capped (location s v path) ≡ location s v path
  shared_place v path e few = by_class v path (class_of v) e few

  each_shared : (v : Inst) (path : List ℕ) (ways : List (List ℕ)) → class_of v ≡ Some storage.Workgroup → shared_number s v.result ≤ most_variables
      → map capped (map (λ rest. location s v (path ++ rest)) ways) ≡ map (λ rest. location s v (path ++ rest)) ways
  each_shared v path [] e few = refl
  each_shared v path (w ∷ ws) e few =
      ap (λ l. l ∷ map capped (map (λ rest. location s v (path ++ rest)) ws)) (shared_place v (path ++ w) e few) ∙ ap (λ (ls : List Location). location s v (path ++ w) ∷ ls) (each_shared v path ws e few)

  pub shared_places : (v : Inst) (path : List ℕ) → class_of v ≡ Some storage.Workgroup → shared_number s v.result ≤ most_variables → map capped (locations s v path) ≡ locations s v path
  shared_places v path e few = by_shape (shape_along s v path)
    where
      by_shape : (o : Option Tree) → map capped (option_map_or (λ (t : Tree). map (λ rest. location s v (path ++ rest)) (scalar_paths t)) o []) ≡ option_map_or (λ (t : Tree). map (λ rest. location s v (path ++ rest)) (scalar_paths t)) o []
      by_shape None = refl
      by_shape (Some t) = each_shared v path (scalar_paths t) e few

  -- there are no more numbers than globals
  found_low : (test : Inst → Bool) (k : ℕ) (gs : List Inst) → option_map_or (λ (n : ℕ). n) (position_from test k gs) 0 ≤ k + length gs
  found_low test k [] = omega arith
  found_low test k (g ∷ gs) = by_test (test g) (found_low test (k + 1) gs)
    where
      by_test : (b : Bool) → option_map_or (λ (n : ℕ). n) (position_from test (k + 1) gs) 0 ≤ k + 1 + length gs → option_map_or (λ (n : ℕ). n) (cond b (Some k) (position_from test (k + 1) gs)) 0 ≤ k + length (g ∷ gs)
      by_test true h = omega arith
      by_test false h = omega (arith, h)

  kept_low : (test : Inst → Bool) (gs : List Inst) → length (filter test gs) ≤ length gs
  kept_low test [] = omega arith
  kept_low test (g ∷ gs) = by_test (test g) (kept_low test gs)
    where
      by_test : (b : Bool) → length (filter test gs) ≤ length gs → length (cond b (g ∷ filter test gs) (filter test gs)) ≤ length (g ∷ gs)
      by_test true h = omega (arith, h)
      by_test false h = omega (arith, h)

  pub number_low : (id : ℕ) → length Gs ≤ most_variables → shared_number s id ≤ most_variables
  number_low id few = omega (arith, few, found_low (λ (g : Inst). g.result == id) 0 (shared_variables s), shared_low)
    where
      shared_low : length (shared_variables s) ≤ length Gs
      shared_low = kept_low _ Gs
