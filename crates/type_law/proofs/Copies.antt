-- OpCopyLogical: types that match part by part have alike shapes.
use Rattle.std.proofs.Common.{◌≡◌, ◌==◌, ◌&&◌, ◌||◌, ℕ, suc, Bool, true, false, not, List, [], ◌∷◌, length, Option, Some, None, inl, inr, refl, sym, ap, ◌∙◌, subst, arith, if◌then◌else◌}
use Rattle.std.specs.Prelude.{◌⊎◌, option_map, nat_lt}
use Rattle.std.specs.Option.{option_map_or}
use Rattle.std.specs.List.{list_all, zip}
use Rattle.std.proofs.lemmas.Bool.Decides.{eqb_tells, nat_tests}
use Rattle.std.proofs.lemmas.Bool.{and_parts, not-false, not-true, or_cases}
use Rattle.std.proofs.lemmas.Option.{same_Some}
use Rattle.spv_ops.specs.Opcode.{is}
use Rattle.spv_ops.specs.declared.Op.TheVariants as code
use Rattle.spv_module.specs.Held.{global as global_inst}
use Rattle.spv_module.specs.declared.inst.Inst.{Inst}
use Rattle.spv_module.specs.declared.inst.Function.{Function}
use Rattle.spv_module.specs.declared.tree.Length.{Length}
use Rattle.spv_module.specs.declared.tree.Length.TheVariants.{Fixed, Spec}
use Rattle.spv_types.specs.declared.kind.TypeKind.TheVariants.{Array, Struct}
use Rattle.spv_types.specs.Tree.{Tree, boolean, int, uint, vector, array, runtime, struct, Trees, no_trees, tree}
use Rattle.spv_types.specs.Leaves.{IsSized, AreSized}
use Rattle.spv_types.specs.Types.{if_earlier, length_by, array_tree, both, all_trees, tree_before, tree_at, type_tree}
use Rattle.spv_types.proofs.Below.{below_is, tree_before_is}
use Rattle.spv_decor.specs.Rows.{word}
use Rattle.spv_index.specs.Locals.{type_in}
use Rattle.op_semantics.specs.declared.operation.Operation.TheVariants as op
use Rattle.profile_rules.specs.TypeRows.{is_type, if_type, is_void, is_not, type_row, constant_word}
use Rattle.profile_rules.specs.ValueRules.{is_same_length, do_parts_match, match_step, match_before, match_at, do_match, breaks_t12}
use Rattle.module_semantics.specs.Setting.{Setting}
use Rattle.list_law.proofs.Numbers.{same_count}
use Rattle.list_law.proofs.Options.{some_part}
use Rattle.fits_law.specs.Takes.{Alike, AllAlike, Takes}
use Rattle.fits_law.specs.State.{value_shape}
use Rattle.fits_law.proofs.Steps.{named}
use Rattle.type_law.proofs.Rows.{by_kind}
use Rattle.type_law.proofs.Vectors.{alike_self}
use Rattle.type_law.proofs.Parts.{array_kind, struct_kind, fixed_word, row, earlier_is, fixed_same}

-- a relation of shapes that each sized one has to itself, and arrays and structs have where their parts have it
pub record IsByParts (R : Tree → Tree → Type 0) (Rs : Trees → Trees → Type 0) : Type 0 where
  pub self : (t : Tree) → IsSized t → R t t
  pub arrays : (u t : Tree) (n m : ℕ) → R u t → n ≡ m → R (array u (Fixed n)) (array t (Fixed m))
  pub structs : (i k : ℕ) (us ts : Trees) → Rs us ts → R (struct i us) (struct k ts)
  pub none : Rs no_trees no_trees
  pub more : (u t : Tree) (us ts : Trees) → R u t → Rs us ts → Rs (tree u us) (tree t ts)

module _ (s : Setting) (f : Function) (R : Tree → Tree → Type 0) (Rs : Trees → Trees → Type 0) (kept : IsByParts R Rs) where
  abbrev Gs : List Inst
  Gs = s.of.globals

  -- the row of what stands before is matched as a whole
  before_matches : (n c b : ℕ) (u : Tree) → tree_before Gs n c ≡ Some u → match_before Gs n c b ≡ true → (g : Inst) × (global_inst Gs c ≡ Some g) × (tree_at Gs g ≡ Some u) × (match_at Gs g b ≡ true)
  before_matches n c b u shape on = by_global (global_inst Gs c) refl (sym (tree_before_is Gs n c) ∙ shape) (ap (λ h. h b) (sym (below_is (match_step Gs) (λ b. true) Gs n c)) ∙ on)
    where
      by_earlier : (g : Inst) (t : Bool) → global_inst Gs c ≡ Some g → option_map_or (tree_at Gs) (if t then Some g else None) None ≡ Some u → option_map_or (λ (g : Inst). match_at Gs g) (if t then Some g else None) (λ b. true) b ≡ true
          → (g : Inst) × (global_inst Gs c ≡ Some g) × (tree_at Gs g ≡ Some u) × (match_at Gs g b ≡ true)
      by_earlier g true is e m = (g, is, e, m)
      by_earlier g false is e m = cc

      by_global : (o : Option Inst) → global_inst Gs c ≡ o → option_map_or (tree_at Gs) (if_earlier n o) None ≡ Some u → option_map_or (λ (g : Inst). match_at Gs g) (if_earlier n o) (λ b. true) b ≡ true
          → (g : Inst) × (global_inst Gs c ≡ Some g) × (tree_at Gs g ≡ Some u) × (match_at Gs g b ≡ true)
      by_global None is e m = cc
      by_global (Some g) is e m = by_earlier g (nat_lt g.at n) is e m

  -- what an array and a struct are made of
  array_parts : (g : Inst) (t : Tree) → is g.op code.TypeArray ≡ true → tree_at Gs g ≡ Some t → IsSized t → (u : Tree) × (n : ℕ) × (tree_before Gs g.at (word g 0) ≡ Some u) × (t ≡ array u (Fixed n)) × (constant_word Gs (word g 1) ≡ Some n)
  array_parts g t on shape sized = by_part (tree_before Gs g.at (word g 0)) refl (length_by (word g 1) (global_inst Gs (word g 1))) refl (by_kind Gs (tree_before Gs g.at) g Array t (array_kind g.op on) shape)
    where
      by_length : (u : Tree) (l : Length) → tree_before Gs g.at (word g 0) ≡ Some u → length_by (word g 1) (global_inst Gs (word g 1)) ≡ Some l → t ≡ array u l → (u : Tree) × (n : ℕ) × (tree_before Gs g.at (word g 0) ≡ Some u) × (t ≡ array u (Fixed n)) × (constant_word Gs (word g 1) ≡ Some n)
      by_length u (Fixed n) there is same = (u, n, there, same, fixed_word Gs (word g 1) n is)
      by_length u (Spec id) there is same = absurd (subst IsSized same sized)

      by_part : (o : Option Tree) → tree_before Gs g.at (word g 0) ≡ o → (l : Option Length) → length_by (word g 1) (global_inst Gs (word g 1)) ≡ l → array_tree o l ≡ Some t → (u : Tree) × (n : ℕ) × (tree_before Gs g.at (word g 0) ≡ Some u) × (t ≡ array u (Fixed n)) × (constant_word Gs (word g 1) ≡ Some n)
      by_part None there l is e = cc
      by_part (Some u) there None is e = cc
      by_part (Some u) there (Some l) is e = by_length u l there is (sym (same_Some (array u l) t e))

  struct_parts : (g : Inst) (t : Tree) → is g.op code.TypeStruct ≡ true → tree_at Gs g ≡ Some t → (ts : Trees) × (all_trees (tree_before Gs g.at) g.args ≡ Some ts) × (t ≡ struct g.result ts)
  struct_parts g t on shape = by_members (all_trees (tree_before Gs g.at) g.args) refl (by_kind Gs (tree_before Gs g.at) g Struct t (struct_kind g.op on) shape)
    where
      by_members : (o : Option Trees) → all_trees (tree_before Gs g.at) g.args ≡ o → option_map (struct g.result) o ≡ Some t → (ts : Trees) × (all_trees (tree_before Gs g.at) g.args ≡ Some ts) × (t ≡ struct g.result ts)
      by_members None all e = cc
      by_members (Some ts) all e = (ts, all, sym (same_Some (struct g.result ts) t e))

  same_array : (x y : Tree) (l k : Length) → array x l ≡ array y k → (x ≡ y) × (l ≡ k)
  same_array x y l k e = (let one : x ≡ y = cc in one, let two : l ≡ k = cc in two)

  same_struct : (a b : ℕ) (ts us : Trees) → struct a ts ≡ struct b us → ts ≡ us
  same_struct a b ts us e = cc

  same_length : (a b n m : ℕ) → is_same_length Gs a b ≡ true → constant_word Gs a ≡ Some n → constant_word Gs b ≡ Some m → m ≡ n
  same_length a b n m on an bm = same_count m n (not-true (not (m == n)) (subst (λ o. not (is_not n o) ≡ true) bm (subst (λ o. option_map_or (λ n. not (is_not n (constant_word Gs b))) o true ≡ true) an on)))

  -- a type of this shape has the values of each type that it matches
  abbrev Matches : Tree → Type 0
  Matches t = (c b : ℕ) (u : Tree) (g : Inst) → global_inst Gs c ≡ Some g → type_tree Gs c ≡ Some t → type_tree Gs b ≡ Some u → IsSized t → IsSized u → match_at Gs g b ≡ true → R u t

  -- arrays, of parts that match
  array_alike : (x : Tree) (n : ℕ) (u : Tree) (g h : Inst) → Matches x → tree_at Gs g ≡ Some (array x (Fixed n)) → tree_at Gs h ≡ Some u → IsSized x → IsSized u → is g.op code.TypeArray ≡ true → is h.op code.TypeArray ≡ true
      → match_before Gs g.at (word g 0) (word h 0) ≡ true → is_same_length Gs (word g 1) (word h 1) ≡ true → R u (array x (Fixed n))
  array_alike x n u g h part gt hu sx su ga ha m l =
      let p = array_parts g (array x (Fixed n)) ga gt sx in
      let q = array_parts h u ha hu su in
      let same = same_array x p.0 (Fixed n) (Fixed p.1) p.3 in
      let before = before_matches g.at (word g 0) (word h 0) p.0 p.2 m in
      let whole = part (word g 0) (word h 0) q.0 before.0 before.1 (earlier_is s f g.at (word g 0) p.0 p.2 ∙ ap (λ y. Some y) (sym same.0)) (earlier_is s f h.at (word h 0) q.0 q.2) sx (subst IsSized q.3 su) before.3 in
      subst (λ y. R y (array x (Fixed n))) {x = array q.0 (Fixed q.1)} (sym q.3) (kept.arrays q.0 x q.1 n whole (same_length (word g 1) (word h 1) p.1 q.1 l p.4 q.4 ∙ sym (fixed_same n p.1 same.1)))

  four_on : (a b c d : Bool) → (a && b && c && d) ≡ true → (a ≡ true) × (b ≡ true) × (c ≡ true) × (d ≡ true)
  four_on true true true true e = (refl, refl, refl, refl)
  four_on a b c d e = cc

  abbrev IsArrays : Inst → Inst → Bool
  IsArrays g h = (is g.op code.TypeArray) && (is h.op code.TypeArray) && match_before Gs g.at (word g 0) (word h 0) && is_same_length Gs (word g 1) (word h 1)

  abbrev IsStructs : Inst → Inst → Bool
  IsStructs g h = (is g.op code.TypeStruct) && (is h.op code.TypeStruct) && (length g.args == length h.args) && list_all (λ (p : ℕ × ℕ). match_before Gs g.at p.0 p.1) (zip g.args h.args)

  -- the same type is alike, else the parts tell
  whole_alike : (t : Tree) (c b : ℕ) (u : Tree) (g : Inst) → global_inst Gs c ≡ Some g → type_tree Gs c ≡ Some t → type_tree Gs b ≡ Some u → IsSized t → match_at Gs g b ≡ true
      → ((h : Inst) → tree_at Gs g ≡ Some t → tree_at Gs h ≡ Some u → (IsArrays g h ≡ true) ⊎ (IsStructs g h ≡ true) → R u t) → R u t
  whole_alike t c b u g there gt bu st m parts =
      let h = row s f b u bu in
      elim (or_cases ((g.result == b) && not (is_void g)) (do_parts_match Gs (match_before Gs g.at) g h.0) (ap (λ o. option_map_or (λ h. ((g.result == b) && not (is_void g)) || do_parts_match Gs (match_before Gs g.at) g h) o true) (sym h.1) ∙ m)) [
        | inl same ↦ of_same (g.result == b) (eqb_tells g.result b) (and_parts (g.result == b) (not (is_void g)) same).0
        | inr other ↦ parts h.0 (ap (λ o. option_map_or (tree_at Gs) o None) (sym there) ∙ gt) h.2 (or_cases (IsArrays g h.0) (IsStructs g h.0) other)
      ]
    where
      of_same : (t' : Bool) → ((t' ≡ true) × (g.result ≡ b)) ⊎ ((t' ≡ false) × (g.result ≡ b → ⊥)) → t' ≡ true → R u t
      of_same true (inl w) on = let same = same_Some t u (sym gt ∙ (ap (type_tree Gs) (sym (named Gs c g there) ∙ w.1) ∙ bu)) in subst (λ y. R y t) {x = t} same (kept.self t st)
      of_same true (inr w) on = cc
      of_same false w on = cc

  no_parts : (t : Tree) (u : Tree) (g h : Inst) → ((x : Tree) (l : Length) → t ≡ array x l → ⊥) → ((id : ℕ) (ts : Trees) → t ≡ struct id ts → ⊥) → IsSized t → tree_at Gs g ≡ Some t → (IsArrays g h ≡ true) ⊎ (IsStructs g h ≡ true) → R u t
  no_parts t u g h no_array no_struct st gt (inl a) =
      let on = four_on (is g.op code.TypeArray) (is h.op code.TypeArray) (match_before Gs g.at (word g 0) (word h 0)) (is_same_length Gs (word g 1) (word h 1)) a in
      let p = array_parts g t on.0 gt st in absurd (no_array p.0 (Fixed p.1) p.3)
  no_parts t u g h no_array no_struct st gt (inr a) =
      let on = four_on (is g.op code.TypeStruct) (is h.op code.TypeStruct) (length g.args == length h.args) (list_all (λ (p : ℕ × ℕ). match_before Gs g.at p.0 p.1) (zip g.args h.args)) a in
      let p = struct_parts g t on.0 gt in absurd (no_struct g.result p.0 p.2)

  both_parts : (o : Option Tree) (q : Option Trees) (t : Tree) (ts : Trees) → both o q ≡ Some (tree t ts) → (o ≡ Some t) × (q ≡ Some ts)
  both_parts None q t ts e = cc
  both_parts (Some x) None t ts e = cc
  both_parts (Some x) (Some xs) t ts e = (let one : x ≡ t = cc in ap (λ y. Some y) one, let two : xs ≡ ts = cc in ap (λ y. Some y) two)

  no_both : (o : Option Tree) (q : Option Trees) → both o q ≡ Some no_trees → ⊥
  no_both None q e = cc
  no_both (Some x) None e = cc
  no_both (Some x) (Some xs) e = cc

  other_counts : (a b : ℕ) → (a ≡ b → ⊥) → (a == b) ≡ true → ⊥
  other_counts a b far on = by_test (a == b) (eqb_tells a b) on
    where
      by_test : (t : Bool) → ((t ≡ true) × (a ≡ b)) ⊎ ((t ≡ false) × (a ≡ b → ⊥)) → t ≡ true → ⊥
      by_test t (inl w) on = far w.1
      by_test true (inr w) on = cc
      by_test false (inr w) on = cc

  fewer : (n m : ℕ) → (suc n == suc m) ≡ true → (n == m) ≡ true
  fewer n m on = grind (arith, nat_tests, on)

  mutual
    matched : (t : Tree) → Matches t
    matched boolean c b u g there gt bu st su m = whole_alike boolean c b u g there gt bu st m (λ h tg hu parts. no_parts boolean u g h (λ x l e. let no : ⊥ = cc in no) (λ id ts e. let no : ⊥ = cc in no) st tg parts)
    matched int c b u g there gt bu st su m = whole_alike int c b u g there gt bu st m (λ h tg hu parts. no_parts int u g h (λ x l e. let no : ⊥ = cc in no) (λ id ts e. let no : ⊥ = cc in no) st tg parts)
    matched uint c b u g there gt bu st su m = whole_alike uint c b u g there gt bu st m (λ h tg hu parts. no_parts uint u g h (λ x l e. let no : ⊥ = cc in no) (λ id ts e. let no : ⊥ = cc in no) st tg parts)
    matched (vector d n) c b u g there gt bu st su m = whole_alike (vector d n) c b u g there gt bu st m (λ h tg hu parts. no_parts (vector d n) u g h (λ x l e. let no : ⊥ = cc in no) (λ id ts e. let no : ⊥ = cc in no) st tg parts)
    matched (array x (Spec id)) c b u g there gt bu st su m = absurd st
    matched (runtime x) c b u g there gt bu st su m = absurd st
    matched (array x (Fixed n)) c b u g there gt bu st su m = whole_alike (array x (Fixed n)) c b u g there gt bu st m (λ h tg hu parts. elim parts [
      | inl a ↦
          let on = four_on (is g.op code.TypeArray) (is h.op code.TypeArray) (match_before Gs g.at (word g 0) (word h 0)) (is_same_length Gs (word g 1) (word h 1)) a in
          array_alike x n u g h (matched x) tg hu st su on.0 on.1 on.2 on.3
      | inr a ↦
          let on = four_on (is g.op code.TypeStruct) (is h.op code.TypeStruct) (length g.args == length h.args) (list_all (λ (p : ℕ × ℕ). match_before Gs g.at p.0 p.1) (zip g.args h.args)) a in
          let p = struct_parts g (array x (Fixed n)) on.0 tg in let same = p.2 in let no : ⊥ = cc in absurd no
    ])
    matched (struct id ts) c b u g there gt bu st su m = whole_alike (struct id ts) c b u g there gt bu st m (λ h tg hu parts. elim parts [
      | inl a ↦
          let on = four_on (is g.op code.TypeArray) (is h.op code.TypeArray) (match_before Gs g.at (word g 0) (word h 0)) (is_same_length Gs (word g 1) (word h 1)) a in
          let p = array_parts g (struct id ts) on.0 tg st in let same = p.3 in let no : ⊥ = cc in absurd no
      | inr a ↦
          let on = four_on (is g.op code.TypeStruct) (is h.op code.TypeStruct) (length g.args == length h.args) (list_all (λ (p : ℕ × ℕ). match_before Gs g.at p.0 p.1) (zip g.args h.args)) a in
          let p = struct_parts g (struct id ts) on.0 tg in
          let q = struct_parts h u on.1 hu in
          subst (λ y. R y (struct id ts)) {x = struct h.result q.0} (sym q.2)
          (kept.structs h.result id q.0 ts (members_matched ts q.0 g h g.args h.args (p.1 ∙ ap (λ y. Some y) (sym (same_struct id g.result ts p.0 p.2))) q.1 st (subst IsSized q.2 su) on.2 on.3))
    ])

    members_matched : (ts us : Trees) (g h : Inst) (ids js : List ℕ) → all_trees (tree_before Gs g.at) ids ≡ Some ts → all_trees (tree_before Gs h.at) js ≡ Some us → AreSized ts → AreSized us → (length ids == length js) ≡ true
        → list_all (λ (p : ℕ × ℕ). match_before Gs g.at p.0 p.1) (zip ids js) ≡ true → Rs us ts
    members_matched no_trees us g h [] [] a b st su count m = let same = same_Some no_trees us b in subst (λ y. Rs y no_trees) {x = no_trees} same kept.none
    members_matched no_trees us g h [] (j ∷ js) a b st su count m = absurd (other_counts 0 (suc (length js)) (λ e. omega (arith, e)) count)
    members_matched no_trees us g h (id ∷ ids) js a b st su count m = absurd (no_both (tree_before Gs g.at id) (all_trees (tree_before Gs g.at) ids) a)
    members_matched (tree t ts) us g h [] js a b st su count m = cc
    members_matched (tree t ts) us g h (id ∷ ids) [] a b st su count m = absurd (other_counts (suc (length ids)) 0 (λ e. omega (arith, e)) count)
    members_matched (tree t ts) no_trees g h (id ∷ ids) (j ∷ js) a b st su count m = absurd (no_both (tree_before Gs h.at j) (all_trees (tree_before Gs h.at) js) b)
    members_matched (tree t ts) (tree u us) g h (id ∷ ids) (j ∷ js) a b st su count m =
        let p = both_parts (tree_before Gs g.at id) (all_trees (tree_before Gs g.at) ids) t ts a in
        let q = both_parts (tree_before Gs h.at j) (all_trees (tree_before Gs h.at) js) u us b in
        let on = and_parts (match_before Gs g.at id j) (list_all (λ (p : ℕ × ℕ). match_before Gs g.at p.0 p.1) (zip ids js)) m in
        let one = before_matches g.at id j t p.0 on.0 in
        kept.more u t us ts (matched t id j u one.0 one.1 (earlier_is s f g.at id t p.0) (earlier_is s f h.at j u q.0) st.0 su.0 one.3) (members_matched ts us g h ids js p.1 q.1 st.1 su.1 (fewer (length ids) (length js) count) on.1)

  -- T12
  pub logical_matched : (i : Inst) (t a : Tree) → breaks_t12 Gs (type_in Gs f) i ≡ false → type_tree Gs i.ty ≡ Some t → value_shape s f (word i 0) ≡ Some a → IsSized t → IsSized a → R t a
  logical_matched i t a right shape value st sa =
      let own = some_part (type_tree Gs) (type_in Gs f (word i 0)) a value in
      let g = row s f own.0 a own.2 in
      let on : do_match Gs own.0 i.ty ≡ true = not-false (do_match Gs own.0 i.ty) (ap (λ o. option_map_or (λ ty. not (do_match Gs ty i.ty)) o false) (sym own.1) ∙ right) in
      matched a own.0 i.ty t g.0 (row_global own.0 g.0 g.1) own.2 shape sa st (ap (λ o. option_map_or (λ x. match_at Gs x i.ty) o true) (sym g.1) ∙ on)
    where
      row_if : (x g : Inst) (b : Bool) → (if b then Some x else None) ≡ Some g → x ≡ g
      row_if x g true e = same_Some x g e
      row_if x g false e = cc

      row_global : (ty : ℕ) (g : Inst) → type_row Gs ty ≡ Some g → global_inst Gs ty ≡ Some g
      row_global ty g e = let x = some_part if_type (global_inst Gs ty) g e in x.1 ∙ ap (λ y. Some y) (row_if x.0 g (is_type x.0) x.2)

alike_by_parts : IsByParts Alike AllAlike
alike_by_parts = record { self = alike_self; arrays = λ u t n m part same. (part, same); structs = λ i k us ts parts. parts; none = tt; more = λ u t us ts one parts. (one, parts) }

-- so the values of the one are those of the other
pub logical_takes : (s : Setting) (f : Function) (ls : List ℕ) (i : Inst) (t a : Tree) → breaks_t12 s.of.globals (type_in s.of.globals f) i ≡ false → type_tree s.of.globals i.ty ≡ Some t → value_shape s f (word i 0) ≡ Some a → IsSized t → IsSized a → Takes op.Copy t ls (a ∷ [])
logical_takes s f ls i t a right shape value st sa = logical_matched s f Alike AllAlike alike_by_parts i t a right shape value st sa
