-- A block that breaks no rule on layout lies in the text where its decorations put it.
use Rattle.std.proofs.Common.{◌≡◌, ◌+◌, ◌==◌, ◌||◌, ℕ, zero, suc, Bool, true, false, List, [], ◌∷◌, Option, Some, None, refl, sym, ap, ◌∙◌, subst, arith, if◌then◌else◌}
use Rattle.std.specs.Prelude.{is_none, find, nat_lt, option_map, slice_index, unwrap_or}
use Rattle.std.specs.Option.{option_map_or}
use Rattle.std.specs.List.{list_any}
use Rattle.std.proofs.lemmas.Bool.{or_parts, not-false}
use Rattle.std.proofs.lemmas.Option.{same_Some}
use Rattle.spv_words.specs.declared.rule.Rule.{Rule}
use Rattle.spv_words.specs.declared.rule.Rule.TheVariants.{L1, L2, L6}
use Rattle.spv_ops.specs.Enumerants.{decoration_number}
use Rattle.spv_ops.specs.declared.Op.{Op}
use Rattle.spv_ops.specs.declared.Op.TheVariants as code
use Rattle.spv_ops.specs.declared.Decoration.TheVariants as decoration
use Rattle.spv_module.specs.Held.{global}
use Rattle.spv_module.specs.declared.inst.Inst.{Inst}
use Rattle.spv_types.specs.declared.kind.TypeKind.{TypeKind}
use Rattle.spv_types.specs.declared.kind.TypeKind.TheVariants as kinds
use Rattle.spv_types.specs.Tree as plain
use Rattle.spv_types.specs.Tree.{Tree, Trees, no_trees, tree}
use Rattle.spv_types.specs.Types.{kind, both, all_trees, tree_by_kind, tree_before, tree_at, type_tree}
use Rattle.spv_decor.specs.Rows.{value_of, member_value_of}
use Rattle.layout_rules.specs.declared.Kind.{Kind}
use Rattle.layout_rules.specs.declared.Kind.TheVariants.{Std140}
use Rattle.layout_rules.specs.Sizes.{aligned, alignment_of, size_of, stride_over}
use Rattle.layout_rules.specs.Parts.{part_id, any_part, any_member}
use Rattle.layout_rules.specs.Rules.{is_not, is_other, offset_of, lacks_from, lacks_offset, has_other_stride, others_from, has_other_offset, breaks}
use Rattle.layout_rules.specs.Blocks.{Member, members_from, members_of, breaks_inside, member_breaks, members_break, block_rules, first_broken, kind_of_members, first_at, kind_at}
use Rattle.module_semantics.specs.Setting.{Setting}
use Rattle.module_semantics.specs.Memory.{array_stride, member_offset, part_by, part_type}
use Rattle.list_law.proofs.Numbers.{same_number}
use Rattle.list_law.proofs.Options.{none_by, none_some}
use Rattle.fits_law.specs.Takes.{nth_of}
use Rattle.type_law.proofs.Places.{part_leads}
use Rattle.global_law.specs.Laid.{IsLaidOut, AreLaidOut}
use Rattle.global_law.proofs.Path.Bytes.{kind_of, declared_by}

-- a literal that is there and is no other
told_is : (o : Option ℕ) (n : ℕ) → is_not o n ≡ false → unwrap_or o 0 ≡ n
told_is None n e = cc
told_is (Some m) n e = same_number m n (not-false (m == n) e)

placed_is : (o : Option ℕ) (n : ℕ) → is_none o ≡ false → is_other o n ≡ false → o ≡ Some n
placed_is None n there e = cc
placed_is (Some m) n there e = ap (λ a. Some a) (same_number m n (not-false (m == n) e))

module _ (s : Setting) (k : Kind) where
  abbrev Gs : List Inst
  Gs = s.of.globals

  abbrev H : List Inst
  H = s.of.heads

  -- an Offset by the rules is the decoration's
  pub offset_is : (id j n : ℕ) → offset_of H id j ≡ Some n → member_offset s id j ≡ n
  offset_is id j n e = by_low (nat_lt j 4294967296) e
    where
      by_low : (b : Bool) → (if b then member_value_of H id j (decoration_number decoration.Offset) else None) ≡ Some n → member_offset s id j ≡ n
      by_low true e = ap (λ o. unwrap_or o 0) e
      by_low false e = cc

  -- the rules, of a type by itself
  l1_is : (id : ℕ) (t : Tree) → breaks H k L1 id t ≡ lacks_offset H id t
  unfolding breaks
  l1_is id t = refl

  l2_is : (id : ℕ) (t : Tree) → breaks H k L2 id t ≡ has_other_stride H k id t
  unfolding breaks
  l2_is id t = refl

  l6_is : (id : ℕ) (t : Tree) → breaks H k L6 id t ≡ has_other_offset H k id t
  unfolding breaks
  l6_is id t = refl

  stride_is : (id : ℕ) (t : Tree) (n : ℕ) → is_not (value_of H id (decoration_number decoration.ArrayStride)) n ≡ false → array_stride s id ≡ n
  stride_is id t n e = told_is (value_of H id (decoration_number decoration.ArrayStride)) n e

  -- a part by the kind of type, as the rules on layout go to it
  abbrev part_of : List ℕ → ℕ → TypeKind → ℕ
  part_of args i kinds.Struct = slice_index args i
  part_of args i _ = slice_index args 0

  by_opcode : (o : Op) (args : List ℕ) (i : ℕ) → part_by o args i ≡ part_of args i (kind o)
  unfolding kind
  by_opcode code.TypeStruct args i = refl
  by_opcode code.TypeBool args i = refl
  by_opcode code.TypeInt args i = refl
  by_opcode code.TypeVector args i = refl
  by_opcode code.TypeArray args i = refl
  by_opcode code.TypeRuntimeArray args i = refl
  by_opcode o args i = refl

  part_same : (ty i j : ℕ) (t : Tree) → type_tree Gs ty ≡ Some t → ((args : List ℕ) → part_of args i (kind_of t) ≡ slice_index args j) → part_type s ty i ≡ part_id Gs ty j
  part_same ty i j t shape at =
      let d = declared_by s ty t shape in
      ap (λ (o : Option Inst). option_map_or (λ (g : Inst). part_by g.op g.args i) o 0) d.1
      ∙ by_opcode d.0.op d.0.args i ∙ ap (part_of d.0.args i) d.3 ∙ at d.0.args
      ∙ sym (ap (λ (o : Option Inst). option_map_or (λ (g : Inst). slice_index g.args j) o 0) d.1)

  abbrev Off : Rule → ℕ → Tree → Type 0
  Off rule id t = any_part (breaks H k rule) Gs id t ≡ false

  abbrev AllOff : Rule → ℕ → ℕ → Trees → Type 0
  AllOff rule id j ts = any_member (breaks H k rule) Gs id j ts ≡ false

  -- A type that breaks none of these is laid out.
  mutual
    pub laid_out : (t : Tree) (ty : ℕ) → type_tree Gs ty ≡ Some t → Off L1 ty t → Off L2 ty t → Off L6 ty t → IsLaidOut s k ty t
    laid_out plain.boolean ty shape a b c = tt
    laid_out plain.int ty shape a b c = tt
    laid_out plain.uint ty shape a b c = tt
    laid_out (plain.vector e n) ty shape a b c = tt
    laid_out (plain.array t l) ty shape a b c =
        let one = or_parts (breaks H k L1 ty (plain.array t l)) (any_part (breaks H k L1) Gs (part_id Gs ty 0) t) a in
        let two = or_parts (breaks H k L2 ty (plain.array t l)) (any_part (breaks H k L2) Gs (part_id Gs ty 0) t) b in
        let six = or_parts (breaks H k L6 ty (plain.array t l)) (any_part (breaks H k L6) Gs (part_id Gs ty 0) t) c in (
          stride_is ty t (stride_over k t) (sym (l2_is ty (plain.array t l)) ∙ two.0),
          λ i. let same = part_same ty i 0 (plain.array t l) shape (λ args. refl) in
              subst (λ q. IsLaidOut s k q t) (sym same) (laid_out t (part_id Gs ty 0) (ap (type_tree Gs) (sym same) ∙ part_leads s ty i (plain.array t l) t shape refl) one.1 two.1 six.1),
        )
    laid_out (plain.runtime t) ty shape a b c =
        let one = or_parts (breaks H k L1 ty (plain.runtime t)) (any_part (breaks H k L1) Gs (part_id Gs ty 0) t) a in
        let two = or_parts (breaks H k L2 ty (plain.runtime t)) (any_part (breaks H k L2) Gs (part_id Gs ty 0) t) b in
        let six = or_parts (breaks H k L6 ty (plain.runtime t)) (any_part (breaks H k L6) Gs (part_id Gs ty 0) t) c in (
          stride_is ty t (stride_over k t) (sym (l2_is ty (plain.runtime t)) ∙ two.0),
          λ i. let same = part_same ty i 0 (plain.runtime t) shape (λ args. refl) in
              subst (λ q. IsLaidOut s k q t) (sym same) (laid_out t (part_id Gs ty 0) (ap (type_tree Gs) (sym same) ∙ part_leads s ty i (plain.runtime t) t shape refl) one.1 two.1 six.1),
        )
    laid_out (plain.struct id ts) ty shape a b c =
        let one = or_parts (breaks H k L1 ty (plain.struct id ts)) (any_member (breaks H k L1) Gs ty 0 ts) a in
        let two = or_parts (breaks H k L2 ty (plain.struct id ts)) (any_member (breaks H k L2) Gs ty 0 ts) b in
        let six = or_parts (breaks H k L6 ty (plain.struct id ts)) (any_member (breaks H k L6) Gs ty 0 ts) c in
        all_laid ts ty 0 0 (sym (l1_is ty (plain.struct id ts)) ∙ one.0) (sym (l6_is ty (plain.struct id ts)) ∙ six.0)
        (λ i u at. let none : 0 + i ≡ i = omega arith in
        (ap (part_type s ty) none ∙ part_same ty i i (plain.struct id ts) shape (λ args. refl) ∙ ap (part_id Gs ty) (sym none), ap (λ j. type_tree Gs (part_type s ty j)) none ∙ part_leads s ty i (plain.struct id ts) u shape at))
        one.1 two.1 six.1

    all_laid : (ts : Trees) (ty j end : ℕ) → lacks_from H ty j ts ≡ false → others_from H k ty j end ts ≡ false
        → ((i : ℕ) (u : Tree) → nth_of ts i ≡ Some u → (part_type s ty (j + i) ≡ part_id Gs ty (j + i)) × (type_tree Gs (part_type s ty (j + i)) ≡ Some u))
        → AllOff L1 ty j ts → AllOff L2 ty j ts → AllOff L6 ty j ts → AreLaidOut s k ty j end ts
    all_laid no_trees ty j end lacks others shape a b c = tt
    all_laid (tree t ts) ty j end lacks others shape a b c =
        let there = or_parts (is_none (offset_of H ty j)) (lacks_from H ty (j + 1) ts) lacks in
        let same = or_parts (is_other (offset_of H ty j) (aligned end (alignment_of k t))) (others_from H k ty (j + 1) (aligned end (alignment_of k t) + size_of k t) ts) others in
        let one = or_parts (any_part (breaks H k L1) Gs (part_id Gs ty j) t) (any_member (breaks H k L1) Gs ty (j + 1) ts) a in
        let two = or_parts (any_part (breaks H k L2) Gs (part_id Gs ty j) t) (any_member (breaks H k L2) Gs ty (j + 1) ts) b in
        let six = or_parts (any_part (breaks H k L6) Gs (part_id Gs ty j) t) (any_member (breaks H k L6) Gs ty (j + 1) ts) c in
        let none : j + 0 ≡ j = omega arith in
        let here = shape 0 t refl in
        let id : part_type s ty j ≡ part_id Gs ty j = ap (part_type s ty) (sym none) ∙ here.0 ∙ ap (part_id Gs ty) none in (
          offset_is ty j (aligned end (alignment_of k t)) (placed_is (offset_of H ty j) (aligned end (alignment_of k t)) there.0 same.0),
          subst (λ q. IsLaidOut s k q t) (sym id) (laid_out t (part_id Gs ty j) (ap (type_tree Gs) (sym id) ∙ ap (λ a. type_tree Gs (part_type s ty a)) (sym none) ∙ here.1) one.0 two.0 six.0),
          all_laid ts ty (j + 1) (aligned end (alignment_of k t) + size_of k t) there.1 same.1
              (λ i u at. let next : j + suc i ≡ j + 1 + i = omega arith in let m = shape (suc i) u at in
              (ap (part_type s ty) (sym next) ∙ m.0 ∙ ap (part_id Gs ty) next, ap (λ a. type_tree Gs (part_type s ty a)) (sym next) ∙ m.1))
              one.1 two.1 six.1,
        )

  -- the rules, of the members of a block
  abbrev pub AllFalse : {A : Type 0} → (A → Bool) → List A → Type 0
  AllFalse p [] = Unit {0}
  AllFalse p (x ∷ xs) = (p x ≡ false) × AllFalse p xs

  pub none_found : {A : Type 0} (p : A → Bool) (xs : List A) → find p xs ≡ None → AllFalse p xs
  none_found p [] e = tt
  none_found p (x ∷ xs) e = by_test (p x) refl e (λ e. none_found p xs e)
    where
      by_test : (b : Bool) → p x ≡ b → (if b then Some x else find p xs) ≡ None → (find p xs ≡ None → AllFalse p xs) → (p x ≡ false) × AllFalse p xs
      by_test true is e later = cc
      by_test false is e later = (is, later e)

  pub any_none : {A : Type 0} (p : A → Bool) (xs : List A) → list_any p xs ≡ false → AllFalse p xs
  any_none p [] e = tt
  any_none p (x ∷ xs) e = let parts = or_parts (p x) (list_any p xs) e in (parts.0, any_none p xs parts.1)

  -- the layout that the members take fits
  pub taken_fits : (first : Kind) (ms : List Member) → kind_of_members H Gs first ms ≡ Some k → first_broken H Gs k ms ≡ None
  taken_fits first ms e = by_first (is_none (first_broken H Gs first ms)) refl e
    where
      by_second : (b : Bool) → is_none (first_broken H Gs Std140 ms) ≡ b → (if b then Some Std140 else None) ≡ Some k → first_broken H Gs k ms ≡ None
      by_second true is e = subst (λ q. first_broken H Gs q ms ≡ None) (same_Some Std140 k e) (none_by (first_broken H Gs Std140 ms) is)
      by_second false is e = cc

      by_first : (b : Bool) → is_none (first_broken H Gs first ms) ≡ b → (if b then Some first else (if is_none (first_broken H Gs Std140 ms) then Some Std140 else None)) ≡ Some k → first_broken H Gs k ms ≡ None
      by_first true is e = subst (λ q. first_broken H Gs q ms ≡ None) (same_Some first k e) (none_by (first_broken H Gs first ms) is)
      by_first false is e = by_second (is_none (first_broken H Gs Std140 ms)) refl e

  pub each_l1 : (ms : List Member) → members_break H Gs k ms L1 ≡ list_any (member_breaks H Gs k L1) ms
  unfolding members_break
  each_l1 ms = refl

  each_l2 : (ms : List Member) → members_break H Gs k ms L2 ≡ list_any (member_breaks H Gs k L2) ms
  unfolding members_break
  each_l2 ms = refl

  each_l6 : (ms : List Member) → members_break H Gs k ms L6 ≡ list_any (member_breaks H Gs k L6) ms
  unfolding members_break
  each_l6 ms = refl

  pub member_l1 : (m : Member) → member_breaks H Gs k L1 m ≡ (is_none m.offset || breaks_inside H Gs k L1 m)
  unfolding member_breaks
  member_l1 m = refl

  member_l2 : (m : Member) → member_breaks H Gs k L2 m ≡ breaks_inside H Gs k L2 m
  unfolding member_breaks
  member_l2 m = refl

  member_l6 : (m : Member) → member_breaks H Gs k L6 m ≡ breaks_inside H Gs k L6 m
  unfolding member_breaks
  member_l6 m = refl

  -- a member with a shape
  inside_off : (rule : Rule) (m : Member) (t : Tree) → m.shape ≡ Some t → breaks_inside H Gs k rule m ≡ false → Off rule m.id t
  inside_off rule m t is e = ap (λ o. option_map_or (any_part (breaks H k rule) Gs m.id) o false) (sym is) ∙ e

  member_at : (g : Inst) (ids : List ℕ) (ts : Trees) (j i : ℕ) (u : Tree) → all_trees (tree_before Gs g.at) ids ≡ Some ts → nth_of ts i ≡ Some u
      → AllFalse (member_breaks H Gs k L1) (members_from H Gs g j ids) → AllFalse (member_breaks H Gs k L2) (members_from H Gs g j ids) → AllFalse (member_breaks H Gs k L6) (members_from H Gs g j ids)
      → Off L1 (slice_index ids i) u × Off L2 (slice_index ids i) u × Off L6 (slice_index ids i) u
  member_at g [] ts j i u all at a b c = let none : no_trees ≡ ts = same_Some no_trees ts all in none_some (ap (λ x. nth_of x i) none ∙ at)
  member_at g (id ∷ ids) ts j i u all at a b c = by_parts (tree_before Gs g.at id) refl (all_trees (tree_before Gs g.at) ids) refl i all at (λ rest n is there. member_at g ids rest (j + 1) n u is there a.1 b.1 c.1)
    where
      Offs : ℕ → Type 0
      Offs n = Off L1 n u × Off L2 n u × Off L6 n u

      m : Member
      m = record { id = id; offset = offset_of H g.result j; shape = tree_before Gs g.at id }

      here : m.shape ≡ Some u → Offs id
      here is =
          let one = or_parts (is_none m.offset) (breaks_inside H Gs k L1 m) (sym (member_l1 m) ∙ a.0) in
          (inside_off L1 m u is one.1, inside_off L2 m u is (sym (member_l2 m) ∙ b.0), inside_off L6 m u is (sym (member_l6 m) ∙ c.0))

      by_parts : (o : Option Tree) → tree_before Gs g.at id ≡ o → (q : Option Trees) → all_trees (tree_before Gs g.at) ids ≡ q → (i : ℕ) → both o q ≡ Some ts → nth_of ts i ≡ Some u → ((rest : Trees) (n : ℕ) → all_trees (tree_before Gs g.at) ids ≡ Some rest → nth_of rest n ≡ Some u → Offs (slice_index ids n)) → Offs (slice_index (id ∷ ids) i)
      by_parts None is q more i e at later = cc
      by_parts (Some t) is None more i e at later = cc
      by_parts (Some t) is (Some rest) more zero e at later = here (is ∙ ap (λ x. nth_of x 0) (same_Some (tree t rest) ts e) ∙ at)
      by_parts (Some t) is (Some rest) more (suc n) e at later = later rest n more (ap (λ x. nth_of x (suc n)) (same_Some (tree t rest) ts e) ∙ at)

  -- The members of the block of a variable are laid out as the text lays it out.
  pub block_laid : (v g : Inst) (ty id : ℕ) (ts : Trees) (i : ℕ) (u : Tree) → kind_at H Gs v g ≡ Some k → global Gs ty ≡ Some g → type_tree Gs ty ≡ Some (plain.struct id ts) → nth_of ts i ≡ Some u → IsLaidOut s k (part_type s ty i) u
  block_laid v g ty id ts i u takes is shape at =
      let none = none_found (members_break H Gs k (members_of H Gs g)) block_rules (taken_fits (first_at H v g) (members_of H Gs g) takes) in
      let one = any_none (member_breaks H Gs k L1) (members_of H Gs g) (sym (each_l1 (members_of H Gs g)) ∙ none.0) in
      let two = any_none (member_breaks H Gs k L2) (members_of H Gs g) (sym (each_l2 (members_of H Gs g)) ∙ none.1.0) in
      let six = any_none (member_breaks H Gs k L6) (members_of H Gs g) (sym (each_l6 (members_of H Gs g)) ∙ none.1.1.1.1.1.0) in
      let d = declared_by s ty (plain.struct id ts) shape in
      let same : d.0 ≡ g = same_Some d.0 g (sym d.1 ∙ is) in
      let parts : tree_by_kind Gs (tree_before Gs g.at) g kinds.Struct ≡ Some (plain.struct id ts) = ap (tree_by_kind Gs (tree_before Gs g.at) g) (sym (ap (λ (x : Inst). kind x.op) (sym same) ∙ d.3)) ∙ subst (λ (x : Inst). tree_at Gs x ≡ Some (plain.struct id ts)) same d.4 in
      let off = by_trees g ts (all_trees (tree_before Gs g.at) g.args) refl parts one two six at in
      let part : part_type s ty i ≡ slice_index g.args i = part_same ty i i (plain.struct id ts) shape (λ args. refl) ∙ ap (λ (o : Option Inst). option_map_or (λ (g : Inst). slice_index g.args i) o 0) is in
      subst (λ q. IsLaidOut s k q u) (sym part) (laid_out u (slice_index g.args i) (ap (type_tree Gs) (sym part) ∙ part_leads s ty i (plain.struct id ts) u shape at) off.0 off.1 off.2)
    where
      by_trees : (g : Inst) (ts : Trees) (o : Option Trees) → all_trees (tree_before Gs g.at) g.args ≡ o → option_map (plain.struct g.result) o ≡ Some (plain.struct id ts)
          → AllFalse (member_breaks H Gs k L1) (members_of H Gs g) → AllFalse (member_breaks H Gs k L2) (members_of H Gs g) → AllFalse (member_breaks H Gs k L6) (members_of H Gs g)
          → nth_of ts i ≡ Some u → Off L1 (slice_index g.args i) u × Off L2 (slice_index g.args i) u × Off L6 (slice_index g.args i) u
      by_trees g ts None all e a b c at = cc
      by_trees g ts (Some us) all e a b c at = member_at g g.args us 0 i u all (ap (λ x. nth_of x i) (same_trees us ts e) ∙ at) a b c
        where
          same_trees : (us ts : Trees) → Some (plain.struct g.result us) ≡ Some (plain.struct id ts) → us ≡ ts
          same_trees us ts e = cc
