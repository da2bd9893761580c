-- The name of a type, and its zero, are made of names of structs and of constants that are lengths of arrays.
use Rattle.std.proofs.Common.{◌≡◌, ◌<◌, ◌&&◌, ◌==◌, ◌||◌, ℕ, zero, suc, Bool, true, false, List, [], ◌∷◌, Option, Some, None, nat_le, option_map, refl, sym, ap, ◌∙◌, subst, arith, unwrap_or, if◌then◌else◌}
use Rattle.std.specs.Prelude.{slice_index}
use Rattle.std.specs.Option.{option_map_or}
use Rattle.std.proofs.lemmas.Bool.Decides.{nat_tests}
use Rattle.std.proofs.lemmas.Bool.{or_left, or_right}
use Rattle.std.proofs.lemmas.Option.{same_Some}
use Rattle.spv_ops.specs.Opcode.{is}
use Rattle.spv_ops.specs.declared.Op.TheVariants as code
use Rattle.spv_module.specs.Held.{global}
use Rattle.spv_module.specs.declared.inst.Inst.{Inst}
use Rattle.spv_module.specs.declared.tree.Elem.{Elem}
use Rattle.spv_module.specs.declared.tree.Elem.TheVariants as elem
use Rattle.spv_module.specs.declared.tree.Length.{Length}
use Rattle.spv_module.specs.declared.tree.Length.TheVariants.{Fixed, Spec}
use Rattle.spv_types.specs.Tree.{Tree, boolean, int, uint, vector, array, runtime, struct, Trees, no_trees, tree}
use Rattle.spv_types.specs.declared.kind.TypeKind.{TypeKind}
use Rattle.spv_types.specs.declared.kind.TypeKind.TheVariants as kinds
use Rattle.spv_types.specs.Types.{kind, elem_of, sized_vector, vector_tree, length_by, array_tree, both, all_trees, tree_by_kind, tree_before, tree_at, type_tree, earlier}
use Rattle.spv_types.proofs.Below.{tree_before_is}
use Rattle.glsl_ast.specs.Tree.{Text, Expr, Extent, TypeName, type_name}
use Rattle.glsl_grammar.specs.Spelled.{IsVectorSize}
use Rattle.text_rules.specs.Constants.{Source}
use Rattle.text_rules.specs.Declarations.{Names, length_extent, spelling, shape_at, type_at, zero_at}
use Rattle.text_rules.specs.Outlines.{outline}
use Rattle.text_rules.specs.Printed.{has_struct, have_struct}
use Rattle.text_rules.specs.Types.{Spelling, vector_base, with_extent, type_text, zero_elem, times, zero_text, zero_texts}
use Rattle.list_law.proofs.Numbers.{number_same}
use Rattle.type_law.proofs.Parts.{struct_op, array_op}
use Rattle.claim_law.specs.Uses.{Words, UsesExtent, UsesBase, UsesType, UsesExpr, UseExprs}
use Rattle.global_law.proofs.Global.Declared.{outline_same}
use Rattle.typed_law.proofs.Lists.{earlier_some}
use Rattle.claim_law.specs.Claimed.{IsIn}
use Rattle.claim_law.proofs.Claim.Constants.{found_in}
use Rattle.grammar_law.specs.Types.{IsLengthOf, IsOfTypes, AreOfTypes}

-- a struct is one of its own
pub own_struct : (n : ℕ) (ts : Trees) → ((n == n) || have_struct n ts) ≡ true
own_struct n ts = ap (λ (b : Bool). b || have_struct n ts) (number_same n n refl)

-- the shape of a type is made of types of the module
module _ (gs : List Inst) where
  module _ (g : Inst) (among : IsIn g gs) (parts : (p : ℕ) (u : Tree) → tree_before gs g.at p ≡ Some u → IsOfTypes gs u) where
    sized_of : (n : ℕ) (e : Elem) (a b : Bool) (t : Tree) → nat_le 2 n ≡ a → nat_le n 4 ≡ b → (if a && b then Some (vector e n) else None) ≡ Some t → IsOfTypes gs t
    sized_of n e true true t low high is = subst (IsOfTypes gs) (same_Some (vector e n) t is) (grind (arith, nat_tests, low, high), grind (arith, nat_tests, low, high))
    sized_of n e true false t low high is = cc
    sized_of n e false b t low high is = cc

    vector_of : (o : Option Tree) (n : ℕ) (t : Tree) → vector_tree o n ≡ Some t → IsOfTypes gs t
    vector_of None n t is = cc
    vector_of (Some u) n t is = by_elem (elem_of u) is
      where
        by_elem : (o : Option Elem) → option_map_or (sized_vector n) o None ≡ Some t → IsOfTypes gs t
        by_elem None is = cc
        by_elem (Some e) is = sized_of n e (nat_le 2 n) (nat_le n 4) t refl refl is

    array_of : (o : Option Tree) (l : Option Length) (t : Tree) → tree_before gs g.at (slice_index g.args 0) ≡ o → length_by (slice_index g.args 1) (global gs (slice_index g.args 1)) ≡ l → is g.op code.TypeArray ≡ true → array_tree o l ≡ Some t → IsOfTypes gs t
    array_of None l t part long on is = cc
    array_of (Some v) None t part long on is = cc
    array_of (Some v) (Some l) t part long on is = subst (IsOfTypes gs) (same_Some (array v l) t is) (record { ty = g; among = among; is_array = on; length = long }, parts (slice_index g.args 0) v part)

    runtime_of : (o : Option Tree) (t : Tree) → tree_before gs g.at (slice_index g.args 0) ≡ o → option_map runtime o ≡ Some t → IsOfTypes gs t
    runtime_of None t part is = cc
    runtime_of (Some v) t part is = subst (IsOfTypes gs) (same_Some (runtime v) t is) (parts (slice_index g.args 0) v part)

    all_of : (ids : List ℕ) (ts : Trees) → all_trees (tree_before gs g.at) ids ≡ Some ts → AreOfTypes gs ts
    all_of [] ts is = subst (AreOfTypes gs) (same_Some no_trees ts is) tt
    all_of (id ∷ ids) ts is = by_both (tree_before gs g.at id) refl (all_trees (tree_before gs g.at) ids) refl is (all_of ids)
      where
        by_both : (o : Option Tree) → tree_before gs g.at id ≡ o → (q : Option Trees) → all_trees (tree_before gs g.at) ids ≡ q → both o q ≡ Some ts → ((us : Trees) → all_trees (tree_before gs g.at) ids ≡ Some us → AreOfTypes gs us) → AreOfTypes gs ts
        by_both None part q rest is later = cc
        by_both (Some v) part None rest is later = cc
        by_both (Some v) part (Some vs) rest is later = subst (AreOfTypes gs) (same_Some (tree v vs) ts is) (parts id v part, later vs rest)

    struct_of : (q : Option Trees) (t : Tree) → all_trees (tree_before gs g.at) g.args ≡ q → is g.op code.TypeStruct ≡ true → option_map (struct g.result) q ≡ Some t → IsOfTypes gs t
    struct_of None t all on is = cc
    struct_of (Some ts) t all on is = subst (IsOfTypes gs) (same_Some (struct g.result ts) t is) (record { ty = g; among = among; is_struct = on; result = refl; parts = all }, all_of g.args ts all)

    kind_of_types : (k : TypeKind) (t : Tree) → kind g.op ≡ k → tree_by_kind gs (tree_before gs g.at) g k ≡ Some t → IsOfTypes gs t
    kind_of_types kinds.Bool t on is = subst (IsOfTypes gs) (same_Some boolean t is) tt
    kind_of_types kinds.Int t on is = by_width (slice_index g.args 0 == 32) (slice_index g.args 1 == 0) (slice_index g.args 1 == 1) is
      where
        by_width : (a b c : Bool) → (if a then (if b then Some uint else (if c then Some int else None)) else None) ≡ Some t → IsOfTypes gs t
        by_width true true c is = subst (IsOfTypes gs) (same_Some uint t is) tt
        by_width true false true is = subst (IsOfTypes gs) (same_Some int t is) tt
        by_width true false false is = cc
        by_width false b c is = cc
    kind_of_types kinds.Vector t on is = vector_of (tree_before gs g.at (slice_index g.args 0)) (slice_index g.args 1) t is
    kind_of_types kinds.Array t on is = array_of (tree_before gs g.at (slice_index g.args 0)) (length_by (slice_index g.args 1) (global gs (slice_index g.args 1))) t refl refl (array_op g.op on) is
    kind_of_types kinds.Runtime t on is = runtime_of (tree_before gs g.at (slice_index g.args 0)) t refl is
    kind_of_types kinds.Struct t on is = struct_of (all_trees (tree_before gs g.at) g.args) t refl (struct_op g.op on) is
    kind_of_types kinds.Other t on is = cc

  at_of_types : (n : ℕ) (g : Inst) (t : Tree) → IsIn g gs → g.at < n → tree_at gs g ≡ Some t → IsOfTypes gs t
  at_of_types zero g t among less is = absurd (omega (arith, less))
  at_of_types (suc n) g t among less is = kind_of_types g among (λ p v part. part_of p v part (at_of_types n)) (kind g.op) t refl is
    where
      part_of : (p : ℕ) (v : Tree) → tree_before gs g.at p ≡ Some v → ((h : Inst) (w : Tree) → IsIn h gs → h.at < n → tree_at gs h ≡ Some w → IsOfTypes gs w) → IsOfTypes gs v
      part_of p v part known = by_earlier (earlier gs g.at p) refl (sym (tree_before_is gs g.at p) ∙ part)
        where
          by_earlier : (o : Option Inst) → earlier gs g.at p ≡ o → option_map_or (tree_at gs) o None ≡ Some v → IsOfTypes gs v
          by_earlier None at e = cc
          by_earlier (Some h) at e =
              let w = earlier_some gs g.at p h at in
              known h v (found_in gs p h w.0).0 (let before = w.1 in let low : h.at < n = omega (arith, less, before) in low) e

  pub of_types : (ty : ℕ) (t : Tree) → type_tree gs ty ≡ Some t → IsOfTypes gs t
  of_types ty t is = by_global (global gs ty) refl is
    where
      by_global : (o : Option Inst) → global gs ty ≡ o → option_map_or (tree_at gs) o None ≡ Some t → IsOfTypes gs t
      by_global None at is = cc
      by_global (Some g) at is = at_of_types (suc g.at) g t (found_in gs ty g at).0 (let less : g.at < suc g.at = omega arith in less) is

-- its name, where its structs and lengths have names
module _ (W : Words) (gs : List Inst) (s : Source) (ids : ℕ → Text) (lengths : (l : Length) → IsLengthOf gs l → UsesExtent W (length_extent s ids l)) where
  abbrev Spelled : Spelling
  Spelled = spelling s ids

  extent_uses : (e : Extent) (t : TypeName) → UsesExtent W e → UsesType W t → UsesType W (with_extent e t)
  extent_uses e (type_name b es) has rest = (rest.0, (has, rest.1))

  base_uses : (e : Elem) (n : ℕ) → IsVectorSize n → UsesBase W (vector_base e n)
  base_uses elem.Bool n size = size
  base_uses elem.Int n size = size
  base_uses elem.Uint n size = size

  -- each struct in it has a name
  abbrev pub AreNamedIn : Tree → Type 0
  AreNamedIn t = (n : ℕ) → has_struct n t ≡ true → W.struct (ids n)

  abbrev pub AreNamedInAll : Trees → Type 0
  AreNamedInAll ts = (n : ℕ) → have_struct n ts ≡ true → W.struct (ids n)

  pub shape_uses : (t : Tree) → IsOfTypes gs t → AreNamedIn t → UsesType W (type_text Spelled t)
  shape_uses boolean of_it named = (tt, tt)
  shape_uses int of_it named = (tt, tt)
  shape_uses uint of_it named = (tt, tt)
  shape_uses (vector e n) of_it named = (base_uses e n of_it, tt)
  shape_uses (array t l) of_it named = extent_uses (length_extent s ids l) (type_text Spelled t) (lengths l of_it.0) (shape_uses t of_it.1 named)
  shape_uses (runtime t) of_it named = extent_uses _ (type_text Spelled t) tt (shape_uses t of_it named)
  shape_uses (struct n ts) of_it named = (named n (own_struct n ts), tt)

  -- and its zero
  times_use : (n : ℕ) (e : Expr) → UsesExpr W e → UseExprs W (times n e)
  times_use zero e has = tt
  times_use (suc n) e has = (has, times_use n e has)

  elem_uses : (e : Elem) → UsesExpr W (zero_elem e)
  elem_uses elem.Bool = tt
  elem_uses elem.Int = omega arith
  elem_uses elem.Uint = omega arith

  mutual
    pub zero_uses : (t : Tree) → IsOfTypes gs t → AreNamedIn t → UsesExpr W (zero_text Spelled t)
    zero_uses boolean of_it named = tt
    zero_uses int of_it named = omega arith
    zero_uses uint of_it named = omega arith
    zero_uses (vector e n) of_it named = (shape_uses (vector e n) of_it named, times_use n (zero_elem e) (elem_uses e))
    zero_uses (array t (Fixed n)) of_it named = (shape_uses (array t (Fixed n)) of_it named, times_use n (zero_text Spelled t) (zero_uses t of_it.1 named))
    zero_uses (array t (Spec id)) of_it named = (shape_uses (array t (Spec id)) of_it named, tt)
    zero_uses (runtime t) of_it named = (shape_uses (runtime t) of_it named, tt)
    zero_uses (struct n ts) of_it named = (shape_uses (struct n ts) of_it named, zeros_use ts of_it.1 (λ k has. named k (or_right (n == k) (have_struct k ts) has)))

    zeros_use : (ts : Trees) → AreOfTypes gs ts → AreNamedInAll ts → UseExprs W (zero_texts Spelled ts)
    zeros_use no_trees of_it named = tt
    zeros_use (tree t ts) of_it named = (zero_uses t of_it.0 (λ k has. named k (or_left (has_struct k t) (have_struct k ts) has)), zeros_use ts of_it.1 (λ k has. named k (or_right (has_struct k t) (have_struct k ts) has)))

  -- of a type by its id
  module _ (same : s.of.globals ≡ gs) (names : Names) (named_ids : names.id ≡ ids) (ty : ℕ) (t : Tree) (shaped : type_tree gs ty ≡ Some t) (named : AreNamedIn t) where
    pub type_uses : UsesType W (type_at s names ty)
    type_uses =
        subst (λ (f : ℕ → Text). UsesType W (type_text (spelling s f) (outline s.of.globals ty))) (sym named_ids)
        (subst (λ (hs : List Inst). UsesType W (type_text Spelled (outline hs ty))) (sym same)
        (subst (UsesType W) (sym (outline_same Spelled gs ty t shaped)) (shape_uses t (of_types gs ty t shaped) named)))

    pub zero_at_uses : UsesExpr W (zero_at s names ty)
    zero_at_uses =
        subst (λ (f : ℕ → Text). UsesExpr W (zero_text (spelling s f) (shape_at s ty))) (sym named_ids)
        (subst (λ (v : Tree). UsesExpr W (zero_text Spelled v)) (sym (ap (λ (hs : List Inst). unwrap_or (type_tree hs ty) uint) same ∙ ap (λ (o : Option Tree). unwrap_or o uint) shaped)) (zero_uses t (of_types gs ty t shaped) named))
