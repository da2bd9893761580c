-- The shapes of types are as deep as the limit on types allows.
use Rattle.std.proofs.Common.{◌≡◌, ◌<◌, ◌≤◌, ◌+◌, ◌==◌, ◌&&◌, ℕ, zero, suc, Bool, true, false, List, [], ◌∷◌, length, Option, Some, None, find, refl, sym, ◌∙◌, ap, subst, arith, if◌then◌else◌, take, nat_le, unwrap_or}
use Rattle.std.specs.Prelude.{Contains, option_map, slice_index}
use Rattle.std.specs.Option.{option_map_or}
use Rattle.std.proofs.lemmas.List.Elements.{All-contains}
use Rattle.std.proofs.lemmas.Option.{same_Some}
use Rattle.spv_module.specs.Held.{global}
use Rattle.spv_module.specs.declared.inst.Inst.{Inst}
use Rattle.spv_module.specs.declared.tree.Elem.{Elem}
use Rattle.spv_module.specs.declared.tree.Length.{Length}
use Rattle.spv_types.specs.declared.kind.TypeKind.{TypeKind}
use Rattle.spv_types.specs.declared.kind.TypeKind.TheVariants as kinds
use Rattle.spv_types.specs.Tree.{Tree, boolean, int, uint, vector, array, runtime, struct, Trees, no_trees, tree}
use Rattle.spv_types.specs.Types.{kind, ids_by_kind, below, deepest as deepest_id, depth_step, depth_before, depth_at, depth as depth_of, if_earlier, parts_at, elem_of, sized_vector, vector_tree, length_by, array_tree, both, all_trees, tree_by_kind, tree_step, tree_before, tree_at, type_tree}
use Rattle.spv_types.specs.Limits.{AreWithin}
use Rattle.spv_types.proofs.Below.{tree_before_is}
use Rattle.list_law.proofs.Options.{none_some}
use Rattle.vec_lowering.specs.Depth.{depth, deepest}

same-depth : (t u : Tree) (n : ℕ) → Some t ≡ Some u → depth t ≤ n → depth u ≤ n
same-depth t u n e low = subst (λ (x : Tree). depth x ≤ n) (same_Some t u e) low

found : (gs : List Inst) (id : ℕ) (g : Inst) → find (λ (i : Inst). i.result == id) gs ≡ Some g → Contains gs g
found [] id g e = cc
found (i ∷ gs) id g e = by_test (i.result == id) e (found gs id g)
  where
    by_test : (b : Bool) → (if b then Some i else find (λ (j : Inst). j.result == id) gs) ≡ Some g → (find (λ (j : Inst). j.result == id) gs ≡ Some g → Contains gs g) → Contains (i ∷ gs) g
    by_test true e later = (zero, (omega arith), same_Some i g e)
    by_test false e later = let c = later e in (suc c.0, (let less : c.0 < length gs = c.1 in omega (arith, less)), c.2)

module _ (f : ℕ → Option Tree) (d : ℕ → ℕ) (each : (id : ℕ) (t : Tree) → f id ≡ Some t → depth t ≤ d id) where
  all-le : (ids : List ℕ) (ts : Trees) → all_trees f ids ≡ Some ts → deepest ts ≤ deepest_id d ids
  all-le [] ts e = subst (λ (x : Trees). deepest x ≤ 0) (same_Some no_trees ts e) (omega arith)
  all-le (id ∷ ids) ts e = by_both (f id) refl (all_trees f ids) refl e (all-le ids)
    where
      by_both : (o : Option Tree) → f id ≡ o → (q : Option Trees) → all_trees f ids ≡ q → both o q ≡ Some ts → ((us : Trees) → all_trees f ids ≡ Some us → deepest us ≤ deepest_id d ids) → deepest ts ≤ deepest_id d (id ∷ ids)
      by_both None is q all e later = cc
      by_both (Some t) is None all e later = cc
      by_both (Some t) is (Some us) all e later =
          let one = each id t is in
          let rest = later us all in
          subst (λ (x : Trees). deepest x ≤ deepest_id d (id ∷ ids)) (same_Some (tree t us) ts e) (omega (arith, one, rest))

  module _ (gs : List Inst) (none : f 0 ≡ None) where
    array-le : (args : List ℕ) (l : Option Length) (t : Tree) → array_tree (f (slice_index args 0)) l ≡ Some t → depth t ≤ 1 + deepest_id d (take 1 args)
    array-le [] l t e = absurd (never (ap (λ o. array_tree o l) (sym none) ∙ e))
      where
        never : array_tree None l ≡ Some t → ⊥
        never e = cc
    array-le (id ∷ args) l t e = by_part (f id) refl l e
      where
        by_part : (o : Option Tree) → f id ≡ o → (l : Option Length) → array_tree o l ≡ Some t → depth t ≤ 1 + deepest_id d (id ∷ [])
        by_part None is l e = cc
        by_part (Some u) is None e = cc
        by_part (Some u) is (Some l) e = let one = each id u is in same-depth (array u l) t (1 + deepest_id d (id ∷ [])) e (omega (arith, one))

    runtime-le : (args : List ℕ) (t : Tree) → option_map runtime (f (slice_index args 0)) ≡ Some t → depth t ≤ 1 + deepest_id d (take 1 args)
    runtime-le [] t e = none_some (ap (λ (o : Option Tree). option_map runtime o) (sym none) ∙ e)
    runtime-le (id ∷ args) t e = by_part (f id) refl e
      where
        by_part : (o : Option Tree) → f id ≡ o → option_map runtime o ≡ Some t → depth t ≤ 1 + deepest_id d (id ∷ [])
        by_part None is e = cc
        by_part (Some u) is e = let one = each id u is in same-depth (runtime u) t (1 + deepest_id d (id ∷ [])) e (omega (arith, one))

    int-le : (a b c : Bool) (t : Tree) → (if a then (if b then Some uint else (if c then Some int else None)) else None) ≡ Some t → depth t ≤ 1
    int-le true true c t e = same-depth uint t 1 e (omega arith)
    int-le true false true t e = same-depth int t 1 e (omega arith)
    int-le true false false t e = cc
    int-le false b c t e = cc

    sized-le : (b : Bool) (n : ℕ) (x : Elem) (t : Tree) → (if b then Some (vector x n) else None) ≡ Some t → depth t ≤ 1
    sized-le true n x t e = same-depth (vector x n) t 1 e (omega arith)
    sized-le false n x t e = cc

    vector-le : (o : Option Tree) (n : ℕ) (t : Tree) → vector_tree o n ≡ Some t → depth t ≤ 1
    vector-le None n t e = cc
    vector-le (Some u) n t e = by_elem (elem_of u) e
      where
        by_elem : (o : Option Elem) → option_map_or (sized_vector n) o None ≡ Some t → depth t ≤ 1
        by_elem None e = cc
        by_elem (Some x) e = sized-le (nat_le 2 n && nat_le n 4) n x t e

    kind-le : (g : Inst) (k : TypeKind) (t : Tree) → tree_by_kind gs f g k ≡ Some t → depth t ≤ option_map_or (λ ids. 1 + deepest_id d ids) (ids_by_kind k g.args) 0
    kind-le g kinds.Bool t e = same-depth boolean t 1 e (omega arith)
    kind-le g kinds.Int t e = int-le (slice_index g.args 0 == 32) (slice_index g.args 1 == 0) (slice_index g.args 1 == 1) t e
    kind-le g kinds.Vector t e = vector-le (f (slice_index g.args 0)) (slice_index g.args 1) t e
    kind-le g kinds.Array t e = array-le g.args (length_by (slice_index g.args 1) (global gs (slice_index g.args 1))) t e
    kind-le g kinds.Runtime t e = runtime-le g.args t e
    kind-le g kinds.Struct t e = by_parts (all_trees f g.args) refl e
      where
        by_parts : (o : Option Trees) → all_trees f g.args ≡ o → option_map (struct g.result) o ≡ Some t → depth t ≤ 1 + deepest_id d g.args
        by_parts None all e = cc
        by_parts (Some ts) all e = let rest = all-le g.args ts all in same-depth (struct g.result ts) t (1 + deepest_id d g.args) e (omega (arith, rest))
    kind-le g kinds.Other t e = cc

    pub step-le : (g : Inst) (t : Tree) → tree_step gs f g ≡ Some t → depth t ≤ depth_step d g
    step-le g t e = kind-le g (kind g.op) t e

module _ (gs : List Inst) (none : global gs 0 ≡ None) where
  none-before : (n : ℕ) → tree_before gs n 0 ≡ None
  none-before n = tree_before_is gs n 0 ∙ by_global (global gs 0) none
    where
      by_global : (o : Option Inst) → o ≡ None → option_map_or (tree_at gs) (if_earlier n o) None ≡ None
      by_global None e = refl
      by_global (Some g) e = cc

  before-le : (n id : ℕ) (t : Tree) → tree_before gs n id ≡ Some t → depth t ≤ depth_before gs n id
  unfolding below
  before-le zero id t e = cc
  before-le (suc n) id t e = by_global (global gs id) e (before-le n)
    where
      by_test : (g : Inst) (b : Bool) → (if b then tree_step gs (tree_before gs n) g else tree_before gs n id) ≡ Some t → ((m : ℕ) (u : Tree) → tree_before gs n m ≡ Some u → depth u ≤ depth_before gs n m) → depth t ≤ (if b then depth_step (depth_before gs n) g else depth_before gs n id)
      by_test g true e later = step-le (tree_before gs n) (depth_before gs n) later gs (none-before n) g t e
      by_test g false e later = later id t e

      by_global : (o : Option Inst) → option_map_or (λ (g : Inst). if g.at == n then tree_step gs (tree_before gs n) g else tree_before gs n id) o None ≡ Some t → ((m : ℕ) (u : Tree) → tree_before gs n m ≡ Some u → depth u ≤ depth_before gs n m)
          → depth t ≤ option_map_or (λ (g : Inst). if g.at == n then depth_step (depth_before gs n) g else depth_before gs n id) o 0
      by_global None e later = cc
      by_global (Some g) e later = by_test g (g.at == n) e later

  pub shape-le : (id : ℕ) (t : Tree) → type_tree gs id ≡ Some t → depth t ≤ depth_of gs id
  shape-le id t e = by_global (global gs id) e
    where
      by_global : (o : Option Inst) → option_map_or (tree_at gs) o None ≡ Some t → depth t ≤ option_map_or (depth_at gs) o 0
      by_global None e = cc
      by_global (Some g) e = step-le (tree_before gs g.at) (depth_before gs g.at) (before-le g.at) gs (none-before g.at) g t e

  module _ (within : AreWithin gs) where
    pub depth-le : (id : ℕ) → depth_of gs id ≤ 15
    depth-le id = by_global (global gs id) refl
      where
        by_global : (o : Option Inst) → global gs id ≡ o → option_map_or (depth_at gs) o 0 ≤ 15
        by_global None is = omega arith
        by_global (Some g) is = (All-contains (λ (x : Inst). (depth_at gs x ≤ 15) × (parts_at gs x ≤ 16384)) gs g within (found gs id g is)).0

    -- each shape is at most 15 deep
    pub shapes-le : (id : ℕ) → depth (unwrap_or (type_tree gs id) uint) ≤ 15
    shapes-le id = by_shape (type_tree gs id) refl
      where
        by_shape : (o : Option Tree) → type_tree gs id ≡ o → depth (unwrap_or o uint) ≤ 15
        by_shape None is = omega arith
        by_shape (Some t) is = let one = shape-le id t is in let most = depth-le id in omega (arith, one, most)
