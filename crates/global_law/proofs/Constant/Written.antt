-- The structs in the types of what is written are written.
use Rattle.std.proofs.Common.{◌≡◌, ◌⊎◌, ◌==◌, ◌||◌, ◌&&◌, ◌++◌, ℕ, Bool, true, false, List, [], ◌∷◌, filter, map, not, Option, Some, None, inl, inr, refl, sym, ap, ◌∙◌, subst, if◌then◌else◌}
use Rattle.std.specs.Prelude.{flat_map, option_map, option_and_then, slice_index}
use Rattle.std.specs.Option.{option_map_or}
use Rattle.std.specs.List.{list_any}
use Rattle.std.proofs.lemmas.Bool.Decides.{eqb_tells}
use Rattle.std.proofs.lemmas.Bool.{and_from, or_cases, or_left, or_right}
use Rattle.std.proofs.lemmas.Option.{same_Some}
use Rattle.spv_ops.specs.Opcode.{is, number}
use Rattle.spv_ops.specs.declared.Op.{Op}
use Rattle.spv_ops.specs.declared.Op.TheVariants as code
use Rattle.spv_module.specs.Held.{global}
use Rattle.spv_module.specs.declared.inst.Inst.{Inst}
use Rattle.spv_types.specs.declared.kind.TypeKind.TheVariants as kinds
use Rattle.spv_types.specs.Tree as plain
use Rattle.spv_types.specs.Tree.{Tree, Trees, no_trees, tree}
use Rattle.spv_types.specs.Types.{kind, all_trees, tree_by_kind, tree_before, tree_at, type_tree}
use Rattle.spv_index.specs.Pointers.{pointee, as_pointer}
use Rattle.spv_index.specs.BlockStructs.{is_block}
use Rattle.profile_rules.specs.declared.given.Given.{Given}
use Rattle.profile_rules.specs.TypeForm.{signature}
use Rattle.module_semantics.specs.Setting.{Setting}
use Rattle.list_law.proofs.Options.{none_some}
use Rattle.plan_law.specs.InOrder.{IsAmong}
use Rattle.fits_law.proofs.Steps.{named}
use Rattle.text_rules.specs.Constants.{Source}
use Rattle.text_rules.specs.Printed.{Reached, has_struct, have_struct, is_written_variable, is_declared_constant, is_written_struct, pointee_or_self, type_has_struct, written_types}
use Rattle.typed_law.specs.Conforms.{IsConforming}
use Rattle.typed_law.proofs.Lists.{clash}
use Rattle.global_law.specs.Sources.{source_of}
use Rattle.global_law.specs.Within.{IsStructBefore, IsWithin, AreWithin, IsNoBlock, Anything}
use Rattle.global_law.proofs.Constant.Within.{any_within}

-- tests of lists
any_more : (P Q : ℕ → Bool) → ((x : ℕ) → P x ≡ true → Q x ≡ true) → (xs : List ℕ) → list_any P xs ≡ true → list_any Q xs ≡ true
any_more P Q more [] on = cc
any_more P Q more (x ∷ xs) on = elim (or_cases (P x) (list_any P xs) on) [ inl own ↦ or_left (Q x) (list_any Q xs) (more x own) | inr later ↦ or_right (Q x) (list_any Q xs) (any_more P Q more xs later) ]

any_left : (P : ℕ → Bool) (xs ys : List ℕ) → list_any P xs ≡ true → list_any P (xs ++ ys) ≡ true
any_left P [] ys on = cc
any_left P (x ∷ xs) ys on = elim (or_cases (P x) (list_any P xs) on) [ inl own ↦ or_left (P x) (list_any P (xs ++ ys)) own | inr later ↦ or_right (P x) (list_any P (xs ++ ys)) (any_left P xs ys later) ]

any_kept : (test : Inst → Bool) (P : ℕ → Bool) (gs : List Inst) (g : Inst) → IsAmong g gs → test g ≡ true → P g.ty ≡ true → list_any P (map (λ (x : Inst). x.ty) (filter test gs)) ≡ true
any_kept test P [] g there on has = absurd there
any_kept test P (x ∷ gs) g there on has = by_test (test x) refl there (λ later. any_kept test P gs g later on has)
  where
    by_test : (b : Bool) → test x ≡ b → (x ≡ g) ⊎ IsAmong g gs → (IsAmong g gs → list_any P (map (λ (x : Inst). x.ty) (filter test gs)) ≡ true) → list_any P (map (λ (x : Inst). x.ty) (if b then x ∷ filter test gs else filter test gs)) ≡ true
    by_test true at (inl same) later = or_left (P x.ty) (list_any P (map (λ (x : Inst). x.ty) (filter test gs))) (subst (λ (y : Inst). P y.ty ≡ true) (sym same) has)
    by_test true at (inr more) later = or_right (P x.ty) (list_any P (map (λ (x : Inst). x.ty) (filter test gs))) (later more)
    by_test false at (inl same) later = clash (sym on ∙ ap test (sym same) ∙ at)
    by_test false at (inr more) later = later more

-- a pointer has no shape
pointer_kind : (o : Op) → is o code.TypePointer ≡ true → kind o ≡ kinds.Other
unfolding kind number
pointer_kind code.TypePointer e = refl
pointer_kind o e = cc

pub no_pointee : (gs : List Inst) (ty : ℕ) (t : Tree) → type_tree gs ty ≡ Some t → pointee gs ty ≡ None
no_pointee gs ty t shape = by_global (global gs ty) shape
  where
    by_test : (g : Inst) (b : Bool) → is g.op code.TypePointer ≡ b → tree_at gs g ≡ Some t → option_map (λ (p : Inst). slice_index p.args 1) (if b then Some g else None) ≡ None
    by_test g true on e = none_some (sym (ap (tree_by_kind gs (tree_before gs g.at) g) (pointer_kind g.op on)) ∙ e)
    by_test g false on e = refl

    by_global : (o : Option Inst) → option_map_or (tree_at gs) o None ≡ Some t → option_map (λ (p : Inst). slice_index p.args 1) (option_and_then as_pointer o) ≡ None
    by_global None e = none_some e
    by_global (Some g) e = by_test g (is g.op code.TypePointer) refl e

-- a struct is what has it, or is in one of its members
struct_has : (k a b : ℕ) (us : Trees) → (k ≡ a → have_struct b us ≡ true) → (have_struct a us ≡ true → have_struct b us ≡ true) → ((k == a) || have_struct a us) ≡ true → ((k == b) || have_struct b us) ≡ true
struct_has k a b us own later e = by_test (k == a) (eqb_tells k a) e
  where
    by_test : (q : Bool) → ((q ≡ true) × (k ≡ a)) ⊎ ((q ≡ false) × (k ≡ a → ⊥)) → (q || have_struct a us) ≡ true → ((k == b) || have_struct b us) ≡ true
    by_test q (inl same) e = or_right (k == b) (have_struct b us) (own same.1)
    by_test true (inr far) e = cc
    by_test false (inr far) e = or_right (k == b) (have_struct b us) (later e)

module _ (s : Setting) (entry : Option (List ℕ)) (right : IsConforming s.of entry) (overrides : List (ℕ × Given)) (r : Reached) where
  abbrev source : Source
  source = source_of s overrides

  abbrev Gs : List Inst
  Gs = s.of.globals

  -- what has a struct has the structs in its members
  module _ (n a : ℕ) (h : Inst) (at : global Gs a ≡ Some h) (ts : Trees) (all : all_trees (tree_before Gs h.at) h.args ≡ Some ts) (b : ℕ) (inner : have_struct b ts ≡ true) where
    own_members : (k : ℕ) (us : Trees) → IsStructBefore Anything s.of n k us → k ≡ a → have_struct b us ≡ true
    own_members k us w same =
        let one : w.inst ≡ h = same_Some w.inst h (sym w.there ∙ ap (global Gs) same ∙ at) in
        let parts : ts ≡ us = same_Some ts us (sym all ∙ ap (λ (x : Inst). all_trees (tree_before Gs x.at) x.args) (sym one) ∙ w.members) in
        subst (λ q. have_struct b q ≡ true) parts inner

    mutual
      has_more : (t : Tree) → IsWithin Anything s.of n t → has_struct a t ≡ true → has_struct b t ≡ true
      has_more plain.boolean w e = cc
      has_more plain.int w e = cc
      has_more plain.uint w e = cc
      has_more (plain.vector d m) w e = cc
      has_more (plain.array t l) w e = has_more t w.0 e
      has_more (plain.runtime t) w e = has_more t w e
      has_more (plain.struct k us) w e = struct_has k a b us (own_members k us w.0) (λ more. have_more us w.1 more) e

      have_more : (us : Trees) → AreWithin Anything s.of n us → have_struct a us ≡ true → have_struct b us ≡ true
      have_more no_trees w e = cc
      have_more (tree t us) w e = elim (or_cases (has_struct a t) (have_struct a us) e) [ inl own ↦ or_left (has_struct b t) (have_struct b us) (has_more t w.0 own) | inr later ↦ or_right (has_struct b t) (have_struct b us) (have_more us w.1 later) ]

  -- something that is written has the struct
  abbrev pub IsHeld : ℕ → Type 0
  IsHeld k = list_any (type_has_struct Gs k) (written_types source r) ≡ true

  pub held_member : (a : ℕ) (h : Inst) (ts : Trees) (b : ℕ) → global Gs a ≡ Some h → all_trees (tree_before Gs h.at) h.args ≡ Some ts → have_struct b ts ≡ true → IsHeld a → IsHeld b
  held_member a h ts b at all inner held = any_more (type_has_struct Gs a) (type_has_struct Gs b) (λ ty on. by_tree ty (type_tree Gs (pointee_or_self Gs ty)) refl on) (written_types source r) held
    where
      by_tree : (ty : ℕ) (o : Option Tree) → type_tree Gs (pointee_or_self Gs ty) ≡ o → option_map_or (has_struct a) o false ≡ true → option_map_or (has_struct b) (type_tree Gs (pointee_or_self Gs ty)) false ≡ true
      by_tree ty None e on = cc
      by_tree ty (Some t) e on =
          let w = any_within s.of entry right (pointee_or_self Gs ty) t e in
          ap (λ o. option_map_or (has_struct b) o false) e ∙ has_more w.0 a h at ts all b inner t w.1 on

  -- the type of a value, and what a pointer points to
  pub own_type : (ty k : ℕ) (t : Tree) → type_tree Gs ty ≡ Some t → has_struct k t ≡ true → type_has_struct Gs k ty ≡ true
  own_type ty k t shape has = ap (λ o. option_map_or (has_struct k) (type_tree Gs (option_map_or (λ p. p) o ty)) false) (no_pointee Gs ty t shape) ∙ ap (λ o. option_map_or (has_struct k) o false) shape ∙ has

  pub pointed_type : (ty q k : ℕ) (t : Tree) → pointee Gs ty ≡ Some q → type_tree Gs q ≡ Some t → has_struct k t ≡ true → type_has_struct Gs k ty ≡ true
  pointed_type ty q k t at shape has = ap (λ o. option_map_or (has_struct k) (type_tree Gs (option_map_or (λ p. p) o ty)) false) at ∙ ap (λ o. option_map_or (has_struct k) o false) shape ∙ has

  pub held_by : (g : Inst) (k : ℕ) → IsAmong g Gs → (is_written_variable r g || is_declared_constant source r g) ≡ true → type_has_struct Gs k g.ty ≡ true → IsHeld k
  held_by g k there on has =
      any_left (type_has_struct Gs k) (map (λ (x : Inst). x.ty) (filter (λ x. is_written_variable r x || is_declared_constant source r x) Gs)) (flat_map signature r.functions ++ r.types)
      (any_kept (λ x. is_written_variable r x || is_declared_constant source r x) (type_has_struct Gs k) Gs g there on has)

  -- so it is written, where it is no block
  pub struct_written : (n k : ℕ) (ts : Trees) (w : IsStructBefore (IsNoBlock s.of) s.of n k ts) → IsHeld k → is_written_struct source r w.inst ≡ true
  struct_written n k ts w held =
      and_from (is w.inst.op code.TypeStruct) (not (is_block s.of.heads w.inst.result) && list_any (type_has_struct Gs w.inst.result) (written_types source r)) w.opcode
      (and_from (not (is_block s.of.heads w.inst.result)) (list_any (type_has_struct Gs w.inst.result) (written_types source r)) (ap not w.asked) (subst (λ x. list_any (type_has_struct Gs x) (written_types source r) ≡ true) (sym (named Gs k w.inst w.there)) held))
