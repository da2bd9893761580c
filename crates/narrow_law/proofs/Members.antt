-- The members of a block that takes a layout end within 32 bits.
use Rattle.std.proofs.Common.{◌≡◌, ◌≤◌, ◌||◌, ℕ, zero, suc, ◌+◌, false, List, [], ◌∷◌, Option, Some, None, refl, ap, sym, subst, ◌∙◌, arith}
use Rattle.std.specs.Prelude.{is_none, option_map}
use Rattle.std.specs.Option.{option_map_or}
use Rattle.std.specs.List.{list_any}
use Rattle.std.proofs.lemmas.Bool.Decides.{nat_tests}
use Rattle.std.proofs.lemmas.Bool.{or_parts}
use Rattle.std.proofs.lemmas.Option.{same_Some}
use Rattle.spv_words.specs.declared.rule.Rule.TheVariants.{L1, L7}
use Rattle.spv_module.specs.Held.{global}
use Rattle.spv_module.specs.declared.inst.Inst.{Inst}
use Rattle.spv_types.specs.declared.kind.TypeKind.TheVariants as kinds
use Rattle.spv_types.specs.Tree as plain
use Rattle.spv_types.specs.Tree.{Tree, Trees, no_trees, tree}
use Rattle.spv_types.specs.Types.{kind, both, all_trees, tree_by_kind, tree_before, tree_at, type_tree}
use Rattle.layout_rules.specs.declared.Kind.{Kind}
use Rattle.layout_rules.specs.Sizes.{size_of, stride_of, stride_over}
use Rattle.layout_rules.specs.Parts.{part_id, any_part}
use Rattle.layout_rules.specs.Rules.{is_past, ends_past, offset_of, breaks}
use Rattle.layout_rules.specs.Blocks.{Member, members_from, members_of, breaks_inside, end_of, member_breaks, members_break, block_rules, first_at, kind_at}
use Rattle.module_semantics.specs.Setting.{Setting}
use Rattle.module_semantics.specs.Memory.{member_offset, part_type}
use Rattle.list_law.proofs.Options.{none_some}
use Rattle.fits_law.specs.Takes.{nth_of}
use Rattle.fits_law.proofs.Steps.{named}
use Rattle.global_law.specs.Laid.{IsLaidOut}
use Rattle.global_law.proofs.Path.Bytes.{declared_by}
use Rattle.global_law.proofs.Path.BlockLayouts.{offset_is, none_found, any_none, taken_fits, block_laid, AllFalse, each_l1, member_l1}
use Rattle.narrow_law.specs.Low.{IsLowMember, IsFineMember}

not_past : (n : ℕ) → is_past n ≡ false → n ≤ 4294967295
not_past n e = grind (arith, nat_tests, e)

there : (o : Option ℕ) → is_none o ≡ false → (n : ℕ) × (o ≡ Some n)
there None e = cc
there (Some n) e = (n, refl)

module _ (s : Setting) (k : Kind) where
  abbrev Gs : List Inst
  Gs = s.of.globals

  abbrev H : List Inst
  H = s.of.heads

  each_l7 : (ms : List Member) → members_break H Gs k ms L7 ≡ list_any (member_breaks H Gs k L7) ms
  unfolding members_break
  each_l7 ms = refl

  member_l7 : (m : Member) → member_breaks H Gs k L7 m ≡ (is_past (end_of k m) || breaks_inside H Gs k L7 m)
  unfolding member_breaks
  member_l7 m = refl

  type_l7 : (id : ℕ) (t : Tree) → breaks H k L7 id t ≡ ends_past k t
  unfolding breaks
  type_l7 id t = refl

  -- a member of this shape has an Offset, and ends within 32 bits
  record IsFound (of n : ℕ) (u : Tree) : Type 0 where
    offset : ℕ
    at : offset_of H of n ≡ Some offset
    end : offset + size_of k u ≤ 4294967295
    id : ℕ
    inside : any_part (breaks H k L7) Gs id u ≡ false

  found : (of n id : ℕ) (u : Tree) (m : Member) → m.offset ≡ offset_of H of n → m.shape ≡ Some u → m.id ≡ id → member_breaks H Gs k L1 m ≡ false → member_breaks H Gs k L7 m ≡ false → IsFound of n u
  found of n id u m o is same a b =
      let one = or_parts (is_none m.offset) (breaks_inside H Gs k L1 m) (sym (member_l1 s k m) ∙ a) in
      let seven = or_parts (is_past (end_of k m)) (breaks_inside H Gs k L7 m) (sym (member_l7 m) ∙ b) in
      let (w, e) = there m.offset one.0 in
      let end_is : end_of k m ≡ w + size_of k u =
      ap (λ (q : Option ℕ). option_map_or (λ (offset : ℕ). option_map_or (λ (t : Tree). offset + size_of k t) m.shape 0) q 0) e ∙ ap (λ (q : Option Tree). option_map_or (λ (t : Tree). w + size_of k t) q 0) is in
      record {
        offset = w;
        at = sym o ∙ e;
        end = not_past (w + size_of k u) (ap is_past (sym end_is) ∙ seven.0);
        id = m.id;
        inside = ap (λ (q : Option Tree). option_map_or (any_part (breaks H k L7) Gs m.id) q false) (sym is) ∙ seven.1;
      }

  member_at : (g : Inst) (ids : List ℕ) (ts : Trees) (j i : ℕ) (u : Tree) → all_trees (tree_before Gs g.at) ids ≡ Some ts → nth_of ts i ≡ Some u
      → AllFalse s k (member_breaks H Gs k L1) (members_from H Gs g j ids) → AllFalse s k (member_breaks H Gs k L7) (members_from H Gs g j ids) → IsFound g.result (j + i) u
  member_at g [] ts j i u all at a b = none_some (ap (λ x. nth_of x i) (same_Some no_trees ts all) ∙ at)
  member_at g (id ∷ ids) ts j i u all at a b = by_parts (tree_before Gs g.at id) refl (all_trees (tree_before Gs g.at) ids) refl i all at (λ rest n is there. member_at g ids rest (j + 1) n u is there a.1 b.1)
    where
      by_parts : (o : Option Tree) → tree_before Gs g.at id ≡ o → (q : Option Trees) → all_trees (tree_before Gs g.at) ids ≡ q → (i : ℕ) → both o q ≡ Some ts → nth_of ts i ≡ Some u
          → ((rest : Trees) (n : ℕ) → all_trees (tree_before Gs g.at) ids ≡ Some rest → nth_of rest n ≡ Some u → IsFound g.result (j + 1 + n) u) → IsFound g.result (j + i) u
      by_parts None is q more i e at later = cc
      by_parts (Some t) is None more i e at later = cc
      by_parts (Some t) is (Some rest) more zero e at later =
          subst (λ n. IsFound g.result n u) (let none : j ≡ j + 0 = omega arith in none)
          (found g.result j id u (record { id = id; offset = offset_of H g.result j; shape = tree_before Gs g.at id }) refl (is ∙ ap (λ x. nth_of x 0) (same_Some (tree t rest) ts e) ∙ at) refl a.0 b.0)
      by_parts (Some t) is (Some rest) more (suc n) e at later =
          subst (λ n. IsFound g.result n u) (let next : j + 1 + n ≡ j + suc n = omega arith in next) (later rest n more (ap (λ x. nth_of x (suc n)) (same_Some (tree t rest) ts e) ∙ at))

  low_by : (offset id : ℕ) (u : Tree) → IsFineMember u → offset + size_of k u ≤ 4294967295 → any_part (breaks H k L7) Gs id u ≡ false → IsLowMember k offset u
  low_by offset id (plain.runtime t) h end inside =
      let whole = or_parts (breaks H k L7 id (plain.runtime t)) (any_part (breaks H k L7) Gs (part_id Gs id 0) t) inside in
      let both = or_parts (is_past (size_of k (plain.runtime t))) (option_map_or is_past (stride_of k (plain.runtime t)) false) (sym (type_l7 id (plain.runtime t)) ∙ whole.0) in
      (h, omega (arith, end), omega (arith, not_past (stride_over k t) both.1))
  low_by offset id plain.boolean h end inside = (h, omega (arith, end))
  low_by offset id plain.int h end inside = (h, omega (arith, end))
  low_by offset id plain.uint h end inside = (h, omega (arith, end))
  low_by offset id (plain.vector e n) h end inside = (h, omega (arith, end))
  low_by offset id (plain.array t l) h end inside = (h, omega (arith, end))
  low_by offset id (plain.struct n ts) h end inside = (h, omega (arith, end))

  placed : (ty i : ℕ) (u : Tree) (g : Inst) (f : IsFound g.result (0 + i) u) → g.result ≡ ty → member_offset s ty i ≡ f.offset
  placed ty i u g f same =
      let none : i ≡ 0 + i = omega arith in
      let here : member_offset s ty i ≡ member_offset s g.result (0 + i) = ap (λ t. member_offset s t i) (sym same) ∙ ap (member_offset s g.result) none in
      here ∙ offset_is s k g.result (0 + i) f.offset f.at

  low_member : (ty i : ℕ) (u : Tree) (g : Inst) → IsFound g.result (0 + i) u → g.result ≡ ty → IsFineMember u → IsLowMember k (member_offset s ty i) u
  low_member ty i u g f same fine = subst (λ m. IsLowMember k m u) (sym (placed ty i u g f same)) (low_by f.offset f.id u fine f.end f.inside)

  -- the members of the block of a variable
  pub members_low : (v g : Inst) (ty id : ℕ) (ts : Trees) (i : ℕ) (u : Tree) → kind_at H Gs v g ≡ Some k → global Gs ty ≡ Some g → type_tree Gs ty ≡ Some (plain.struct id ts) → nth_of ts i ≡ Some u → IsFineMember u
      → IsLaidOut s k (part_type s ty i) u × IsLowMember k (member_offset s ty i) u
  members_low v g ty id ts i u takes is shape at fine =
      let none = none_found s k (members_break H Gs k (members_of H Gs g)) block_rules (taken_fits s k (first_at H v g) (members_of H Gs g) takes) in
      let one = any_none s k (member_breaks H Gs k L1) (members_of H Gs g) (sym (each_l1 s k (members_of H Gs g)) ∙ none.0) in
      let seven = any_none s k (member_breaks H Gs k L7) (members_of H Gs g) (sym (each_l7 (members_of H Gs g)) ∙ none.1.1.1.1.1.1.0) in
      let d = declared_by s ty (plain.struct id ts) shape in
      let same : d.0 ≡ g = same_Some d.0 g (sym d.1 ∙ is) in
      let parts : tree_by_kind Gs (tree_before Gs g.at) g kinds.Struct ≡ Some (plain.struct id ts) = ap (tree_by_kind Gs (tree_before Gs g.at) g) (sym (ap (λ (x : Inst). kind x.op) (sym same) ∙ d.3)) ∙ subst (λ (x : Inst). tree_at Gs x ≡ Some (plain.struct id ts)) same d.4 in
      (block_laid s k v g ty id ts i u takes is shape at, low_member ty i u g (by_trees (all_trees (tree_before Gs g.at) g.args) refl parts one seven) (named Gs ty g is) fine)
    where
      by_trees : (o : Option Trees) → all_trees (tree_before Gs g.at) g.args ≡ o → option_map (plain.struct g.result) o ≡ Some (plain.struct id ts)
          → AllFalse s k (member_breaks H Gs k L1) (members_of H Gs g) → AllFalse s k (member_breaks H Gs k L7) (members_of H Gs g) → IsFound g.result (0 + i) u
      by_trees None all e a b = cc
      by_trees (Some us) all e a b = member_at g g.args us 0 i u all (ap (λ x. nth_of x i) (same_trees us e) ∙ at) a b
        where
          same_trees : (us : Trees) → Some (plain.struct g.result us) ≡ Some (plain.struct id ts) → us ≡ ts
          same_trees us e = cc
