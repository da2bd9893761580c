-- The types of a module whose instructions have few operands have structs with few members.
use Rattle.std.proofs.Common.{◌≡◌, ◌<◌, ◌^◌, ◌==◌, ◌&&◌, ℕ, zero, suc, Bool, true, false, List, [], ◌∷◌, length, Option, Some, None, find, refl, sym, subst, arith, if◌then◌else◌, nat_le}
use Rattle.std.specs.Prelude.{option_map, slice_index, unwrap_or}
use Rattle.std.specs.List.{All}
use Rattle.std.specs.Option.{option_map_or}
use Rattle.std.proofs.lemmas.List.Elements.{All-head, All-tail}
use Rattle.spv_module.specs.Held.{global}
use Rattle.spv_module.specs.declared.inst.Inst.{Inst}
use Rattle.spv_module.specs.declared.tree.Elem.{Elem}
use Rattle.spv_module.specs.declared.tree.Length.{Length}
use Rattle.spv_types.specs.declared.kind.TypeKind.{TypeKind}
use Rattle.spv_types.specs.declared.kind.TypeKind.TheVariants as kinds
use Rattle.spv_types.specs.Tree.{Tree, boolean, int, uint, vector, array, runtime, struct, Trees, no_trees, tree}
use Rattle.spv_types.specs.Types.{kind, below, elem_of, sized_vector, vector_tree, length_by, array_tree, both, all_trees, tree_by_kind, tree_step, tree_before, tree_at, type_tree}
use Rattle.few_law.specs.Short.{HasFewArgs}
use Rattle.few_law.specs.Few.{how_many, HasFewMembers, HaveFewMembers}

same_some : {A : Type 0} (a b : A) → Some a ≡ Some b → a ≡ b
same_some a b e = cc

same_few : (t u : Tree) → Some t ≡ Some u → HasFewMembers t → HasFewMembers u
same_few t u e few = subst HasFewMembers (same_some t u e) few

-- one that is found among instructions with few operands has few
found_few : (gs : List Inst) (id : ℕ) (g : Inst) → All HasFewArgs gs → find (λ (i : Inst). i.result == id) gs ≡ Some g → HasFewArgs g
found_few [] id g few e = cc
found_few (i ∷ gs) id g few e = by_test (i.result == id) e (found_few gs id g (All-tail HasFewArgs i gs few))
  where
    by_test : (b : Bool) → (if b then Some i else find (λ (j : Inst). j.result == id) gs) ≡ Some g → (find (λ (j : Inst). j.result == id) gs ≡ Some g → HasFewArgs g) → HasFewArgs g
    by_test true e later = subst HasFewArgs (same_some i g e) (All-head HasFewArgs i gs few)
    by_test false e later = later e

module _ (f : ℕ → Option Tree) (each : (id : ℕ) (t : Tree) → f id ≡ Some t → HasFewMembers t) where
  all_few : (ids : List ℕ) (ts : Trees) → all_trees f ids ≡ Some ts → (how_many ts ≡ length ids) × HaveFewMembers ts
  all_few [] ts e = subst (λ (x : Trees). (how_many x ≡ 0) × HaveFewMembers x) (same_some no_trees ts e) (refl, tt)
  all_few (id ∷ ids) ts e = by_both (f id) refl (all_trees f ids) refl e (all_few ids)
    where
      by_both : (o : Option Tree) → f id ≡ o → (q : Option Trees) → all_trees f ids ≡ q → both o q ≡ Some ts → ((us : Trees) → all_trees f ids ≡ Some us → (how_many us ≡ length ids) × HaveFewMembers us) → (how_many ts ≡ length (id ∷ ids)) × HaveFewMembers ts
      by_both None is q all e later = cc
      by_both (Some t) is None all e later = cc
      by_both (Some t) is (Some us) all e later =
          let rest = later us all in
          subst (λ (x : Trees). (how_many x ≡ length (id ∷ ids)) × HaveFewMembers x) (same_some (tree t us) ts e) (omega (arith, rest.0), (each id t is, rest.1))

  array_few : (id : ℕ) (l : Option Length) (t : Tree) → array_tree (f id) l ≡ Some t → HasFewMembers t
  array_few id l t e = by_part (f id) refl l e
    where
      by_part : (o : Option Tree) → f id ≡ o → (l : Option Length) → array_tree o l ≡ Some t → HasFewMembers t
      by_part None is l e = cc
      by_part (Some u) is None e = cc
      by_part (Some u) is (Some l) e = same_few (array u l) t e (each id u is)

  runtime_few : (id : ℕ) (t : Tree) → option_map runtime (f id) ≡ Some t → HasFewMembers t
  runtime_few id t e = by_part (f id) refl e
    where
      by_part : (o : Option Tree) → f id ≡ o → option_map runtime o ≡ Some t → HasFewMembers t
      by_part None is e = cc
      by_part (Some u) is e = same_few (runtime u) t e (each id u is)

  int_few : (a b c : Bool) (t : Tree) → (if a then (if b then Some uint else (if c then Some int else None)) else None) ≡ Some t → HasFewMembers t
  int_few true true c t e = same_few uint t e tt
  int_few true false true t e = same_few int t e tt
  int_few true false false t e = cc
  int_few false b c t e = cc

  sized_few : (b : Bool) (n : ℕ) (x : Elem) (t : Tree) → (if b then Some (vector x n) else None) ≡ Some t → HasFewMembers t
  sized_few true n x t e = same_few (vector x n) t e tt
  sized_few false n x t e = cc

  vector_few : (o : Option Tree) (n : ℕ) (t : Tree) → vector_tree o n ≡ Some t → HasFewMembers t
  vector_few None n t e = cc
  vector_few (Some u) n t e = by_elem (elem_of u) e
    where
      by_elem : (o : Option Elem) → option_map_or (sized_vector n) o None ≡ Some t → HasFewMembers t
      by_elem None e = cc
      by_elem (Some x) e = sized_few (nat_le 2 n && nat_le n 4) n x t e

  kind_few : (gs : List Inst) (g : Inst) → HasFewArgs g → (k : TypeKind) (t : Tree) → tree_by_kind gs f g k ≡ Some t → HasFewMembers t
  kind_few gs g few kinds.Bool t e = same_few boolean t e tt
  kind_few gs g few kinds.Int t e = int_few (slice_index g.args 0 == 32) (slice_index g.args 1 == 0) (slice_index g.args 1 == 1) t e
  kind_few gs g few kinds.Vector t e = vector_few (f (slice_index g.args 0)) (slice_index g.args 1) t e
  kind_few gs g few kinds.Array t e = array_few (slice_index g.args 0) (length_by (slice_index g.args 1) (global gs (slice_index g.args 1))) t e
  kind_few gs g few kinds.Runtime t e = runtime_few (slice_index g.args 0) t e
  kind_few gs g few kinds.Struct t e = by_parts (all_trees f g.args) refl e
    where
      by_parts : (o : Option Trees) → all_trees f g.args ≡ o → option_map (struct g.result) o ≡ Some t → HasFewMembers t
      by_parts None all e = cc
      by_parts (Some ts) all e =
          let rest = all_few g.args ts all in
          same_few (struct g.result ts) t e (subst (λ (n : ℕ). n < 2 ^ 32) (sym rest.0) few, rest.1)
  kind_few gs g few kinds.Other t e = cc

  pub step_few : (gs : List Inst) (g : Inst) → HasFewArgs g → (t : Tree) → tree_step gs f g ≡ Some t → HasFewMembers t
  step_few gs g few t e = kind_few gs g few (kind g.op) t e

module _ (gs : List Inst) (few : All HasFewArgs gs) where
  pub before_few : (n id : ℕ) (t : Tree) → tree_before gs n id ≡ Some t → HasFewMembers t
  unfolding below
  before_few zero id t e = cc
  before_few (suc n) id t e = by_global (global gs id) refl e (before_few n)
    where
      by_test : (g : Inst) → HasFewArgs g → (b : Bool) → (if b then tree_step gs (tree_before gs n) g else tree_before gs n id) ≡ Some t → ((m : ℕ) (u : Tree) → tree_before gs n m ≡ Some u → HasFewMembers u) → HasFewMembers t
      by_test g has true e later = step_few (tree_before gs n) later gs g has t e
      by_test g has false e later = later id t e

      by_global : (o : Option Inst) → global gs id ≡ o → option_map_or (λ (g : Inst). if g.at == n then tree_step gs (tree_before gs n) g else tree_before gs n id) o None ≡ Some t → ((m : ℕ) (u : Tree) → tree_before gs n m ≡ Some u → HasFewMembers u) → HasFewMembers t
      by_global None is e later = cc
      by_global (Some g) is e later = by_test g (found_few gs id g few is) (g.at == n) e later

  -- the shape of a type
  pub type_few : (id : ℕ) (t : Tree) → type_tree gs id ≡ Some t → HasFewMembers t
  type_few id t e = by_global (global gs id) refl e
    where
      by_global : (o : Option Inst) → global gs id ≡ o → option_map_or (tree_at gs) o None ≡ Some t → HasFewMembers t
      by_global None is e = cc
      by_global (Some g) is e = step_few (tree_before gs g.at) (before_few g.at) gs g (found_few gs id g few is) t e

  -- and of one that stands for what is no type
  pub shape_few : (id : ℕ) → HasFewMembers (unwrap_or (type_tree gs id) uint)
  shape_few id = by_type (type_tree gs id) refl
    where
      by_type : (o : Option Tree) → type_tree gs id ≡ o → HasFewMembers (unwrap_or o uint)
      by_type None e = tt
      by_type (Some t) e = type_few id t e
