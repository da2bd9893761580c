-- The ways to the scalars of a type lead along its parts.
use Rattle.std.proofs.Common.{◌≡◌, ◌≤◌, ℕ, zero, suc, ◌+◌, List, [], ◌∷◌, ◌++◌, Option, Some, refl, ap, sym, subst, ◌∙◌, arith, map, flat_map}
use Rattle.std.specs.Prelude.{option_and_then}
use Rattle.std.specs.List.{range_with_len}
use Rattle.std.proofs.lemmas.Option.{same_Some}
use Rattle.spv_module.specs.declared.tree.Elem.{Elem}
use Rattle.spv_module.specs.declared.tree.Length.TheVariants.{Fixed, Spec}
use Rattle.spv_types.specs.Tree as plain
use Rattle.spv_types.specs.Tree.{Tree, Trees, no_trees, tree}
use Rattle.op_semantics.specs.Fits.{elem_tree}
use Rattle.value_words.specs.Words.{behind, scalar_paths, member_paths}
use Rattle.module_semantics.specs.Setting.{Setting}
use Rattle.fits_law.specs.Takes.{nth_of}
use Rattle.fits_law.specs.State.{element_shape, place_shape}
use Rattle.global_law.specs.Parts.{IsInside}
use Rattle.narrow_law.specs.Reach.{IsShort, Along, AllAlong}

module _ (s : Setting) where
  both_along : (t : Tree) (v w : List (List ℕ)) → AllAlong s t v → AllAlong s t w → AllAlong s t (v ++ w)
  both_along t [] w a b = b
  both_along t (x ∷ v) w a b = (a.0, both_along t v w a.1 b)

  behind_along : (t u : Tree) (i : ℕ) (ws : List (List ℕ)) → element_shape t i ≡ Some u → IsInside s t i → IsShort t i → AllAlong s u ws → AllAlong s t (behind i ws)
  behind_along t u i [] at inside short a = tt
  behind_along t u i (w ∷ ws) at inside short a = ((u, at, inside, short, a.0), behind_along t u i ws at inside short a.1)

  components : (e : Elem) (n m a : ℕ) → a + m ≤ n → AllAlong s (plain.vector e n) (map (λ i. i ∷ []) (range_with_len a m))
  components e n zero a h = tt
  components e n (suc m) a h = ((elem_tree e, refl, omega (arith, h), tt, tt), components e n m (a + 1) (omega (arith, h)))

  elements : (t : Tree) (n m a : ℕ) → a + m ≤ n → AllAlong s t (scalar_paths t) → AllAlong s (plain.array t (Fixed n)) (flat_map (λ i. behind i (scalar_paths t)) (range_with_len a m))
  elements t n zero a h each = tt
  elements t n (suc m) a h each =
      both_along (plain.array t (Fixed n)) (behind a (scalar_paths t)) (flat_map (λ i. behind i (scalar_paths t)) (range_with_len (a + 1) m))
      (behind_along (plain.array t (Fixed n)) t a (scalar_paths t) refl (omega (arith, h)) tt each) (elements t n m (a + 1) (omega (arith, h)) each)

  mutual
    pub scalars_along : (t : Tree) → AllAlong s t (scalar_paths t)
    scalars_along plain.boolean = (tt, tt)
    scalars_along plain.int = (tt, tt)
    scalars_along plain.uint = (tt, tt)
    scalars_along (plain.vector e n) = components e n n 0 (omega arith)
    scalars_along (plain.array t (Fixed n)) = elements t n n 0 (omega arith) (scalars_along t)
    scalars_along (plain.array t (Spec id)) = tt
    scalars_along (plain.runtime t) = tt
    scalars_along (plain.struct id ts) = members_along id ts ts 0 (λ i u at. ap (nth_of ts) (let none : 0 + i ≡ i = omega arith in none) ∙ at)

    members_along : (id : ℕ) (all ts : Trees) (k : ℕ) → ((i : ℕ) (u : Tree) → nth_of ts i ≡ Some u → nth_of all (k + i) ≡ Some u) → AllAlong s (plain.struct id all) (member_paths k ts)
    members_along id all no_trees k at = tt
    members_along id all (tree t ts) k at =
        both_along (plain.struct id all) (behind k (scalar_paths t)) (member_paths (k + 1) ts)
        (behind_along (plain.struct id all) t k (scalar_paths t) (ap (nth_of all) (let none : k ≡ k + 0 = omega arith in none) ∙ at 0 t refl) tt tt (scalars_along t))
        (members_along id all ts (k + 1) (λ i u n. ap (nth_of all) (let next : k + 1 + i ≡ k + suc i = omega arith in next) ∙ at (suc i) u n))

  -- one way behind another
  pub along_more : (path : List ℕ) (t u : Tree) (rest : List ℕ) → Along s t path → place_shape t path ≡ Some u → Along s u rest → Along s t (path ++ rest)
  along_more [] t u rest a at b = subst (λ x. Along s x rest) (sym (same_Some t u at)) b
  along_more (i ∷ is) t u rest (x, here, inside, short, a) at b =
      (x, here, inside, short, along_more is x u rest a (ap (λ (o : Option Tree). option_and_then (λ z. place_shape z is) o) (sym here) ∙ at) b)
