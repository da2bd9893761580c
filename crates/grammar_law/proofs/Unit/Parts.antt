-- The steps to a part of a value, by literals, are made of names of members that are claimed.
use Rattle.std.proofs.Common.{◌≡◌, ◌&&◌, ◌==◌, ℕ, zero, suc, Bool, true, false, List, [], ◌∷◌, Option, Some, None, option_map, nat_lt, nat_le, inl, refl, sym, ap, ◌∙◌, subst, if◌then◌else◌}
use Rattle.std.specs.Prelude.{slice_get, slice_index, option_and_then}
use Rattle.std.specs.Option.{option_map_or}
use Rattle.std.proofs.lemmas.Bool.{or_left, or_right}
use Rattle.std.proofs.lemmas.Option.{same_Some}
use Rattle.spv_ops.specs.Opcode.{is, number}
use Rattle.spv_ops.specs.declared.Op.{Op}
use Rattle.spv_ops.specs.declared.Op.TheVariants as code
use Rattle.spv_module.specs.Held.{global}
use Rattle.spv_module.specs.Lists.{id}
use Rattle.spv_module.specs.declared.inst.Inst.{Inst}
use Rattle.spv_module.specs.declared.inst.Function.{Function}
use Rattle.spv_module.specs.declared.tree.Elem.{Elem}
use Rattle.spv_module.specs.declared.tree.Elem.TheVariants as elem
use Rattle.spv_module.specs.declared.tree.Length.{Length}
use Rattle.spv_module.specs.declared.tree.Length.TheVariants.{Fixed, Spec}
use Rattle.spv_types.specs.Tree.{Tree, boolean, int, uint, vector, array, runtime, struct, Trees, no_trees, tree}
use Rattle.spv_types.specs.declared.kind.TypeKind.{TypeKind}
use Rattle.spv_types.specs.declared.kind.TypeKind.TheVariants as kinds
use Rattle.spv_types.specs.Types.{kind, elem_of, sized_vector, vector_tree, length_by, array_tree, both, all_trees, tree_by_kind, tree_before, tree_at, type_tree}
use Rattle.op_semantics.specs.Fits.{elem_tree}
use Rattle.conformance.specs.Rules.{Options}
use Rattle.module_semantics.specs.Setting.{Setting}
use Rattle.name_alloc.specs.declared.claims.Key.TheVariants.{Member}
use Rattle.name_alloc.specs.Naming.{name_of}
use Rattle.glsl_ast.specs.Tree as text
use Rattle.glsl_ast.specs.Tree.{Expr, TranslationUnit, LStep, literal}
use Rattle.glsl_ast.specs.declared.expressions.Literal.TheVariants.{Int}
use Rattle.glsl_grammar.specs.Spelled.{FitsWord}
use Rattle.vec_lowering.specs.Component.{axis_name}
use Rattle.text_rules.specs.Printed.{has_struct, have_struct}
use Rattle.expr_forward.specs.Scope.{Setting as Place}
use Rattle.expr_forward.specs.Paths.{part_step_by, part_step, part_type_by, part_type, part_steps}
use Rattle.unit_rules.specs.Translation.{Naming, text_of}
use Rattle.unit_rules.specs.Unit.{source_of, IsUnitOf}
use Rattle.list_law.proofs.Numbers.{number_same}
use Rattle.list_law.proofs.Options.{none_some}
use Rattle.claim_law.specs.Uses.{Words, UseSteps}
use Rattle.claim_law.specs.Blocks.{FitWords}
use Rattle.fits_law.specs.Takes.{nth_of, part_shape, shape_at}
use Rattle.type_law.proofs.Parts.{earlier_is, struct_op}
use Rattle.type_law.proofs.Choices.{scalar_elem}
use Rattle.typed_law.specs.Conforms.{IsConforming}
use Rattle.typed_law.proofs.Used.{global_found}
use Rattle.claim_law.specs.Claimed.{HasName}
use Rattle.claim_law.proofs.Claim.Constants.{found_in}
use Rattle.claim_law.proofs.Claim.Told.{named_is, axes_told}
use Rattle.grammar_law.specs.Words.{words_of}
use Rattle.grammar_law.proofs.Unit.Lists.{as_among}
use Rattle.grammar_law.proofs.Unit.Structs.{HasNames, part_named}

-- what is no struct by its kind
no_struct : (o : Op) (k : TypeKind) → kind o ≡ k → (k ≡ kinds.Struct → ⊥) → is o code.TypeStruct ≡ false
unfolding kind number
no_struct code.TypeStruct k same other = absurd (other (sym same))
no_struct o k same other = refl

no_vector_struct : kinds.Vector ≡ kinds.Struct → ⊥
no_vector_struct e = cc

no_array_struct : kinds.Array ≡ kinds.Struct → ⊥
no_array_struct e = cc

-- the member of a struct
pub nth_arg : (f : ℕ → Option Tree) (ids : List ℕ) (ts : Trees) (k : ℕ) (v : Tree) → all_trees f ids ≡ Some ts → nth_of ts k ≡ Some v → (slice_get ids k ≡ Some (slice_index ids k)) × (f (slice_index ids k) ≡ Some v)
nth_arg f [] ts k v is at = none_some (ap (λ x. nth_of x k) (same_Some no_trees ts is) ∙ at)
nth_arg f (x ∷ ids) ts k v is at = by_both (f x) refl (all_trees f ids) refl k is at (nth_arg f ids)
  where
    by_both : (o : Option Tree) → f x ≡ o → (q : Option Trees) → all_trees f ids ≡ q → (k : ℕ) → both o q ≡ Some ts → nth_of ts k ≡ Some v → ((us : Trees) (j : ℕ) (w : Tree) → all_trees f ids ≡ Some us → nth_of us j ≡ Some w → (slice_get ids j ≡ Some (slice_index ids j)) × (f (slice_index ids j) ≡ Some w))
        → (slice_get (x ∷ ids) k ≡ Some (slice_index (x ∷ ids) k)) × (f (slice_index (x ∷ ids) k) ≡ Some v)
    by_both None one q all k is at later = cc
    by_both (Some w) one None all k is at later = cc
    by_both (Some w) one (Some us) all zero is at later = (refl, one ∙ (ap (λ t. nth_of t zero) (same_Some (tree w us) ts is) ∙ at))
    by_both (Some w) one (Some us) all (suc j) is at later = later us j v all (ap (λ t. nth_of t (suc j)) (same_Some (tree w us) ts is) ∙ at)

pub nth_has : (ts : Trees) (k : ℕ) (v : Tree) (n : ℕ) → nth_of ts k ≡ Some v → has_struct n v ≡ true → have_struct n ts ≡ true
nth_has no_trees k v n at has = cc
nth_has (tree t ts) zero v n at has = or_left (has_struct n t) (have_struct n ts) (ap (has_struct n) (same_Some t v at) ∙ has)
nth_has (tree t ts) (suc k) v n at has = or_right (has_struct n t) (have_struct n ts) (nth_has ts k v n at has)

elem_none : (e : Elem) (n : ℕ) → has_struct n (elem_tree e) ≡ false
elem_none elem.Bool n = refl
elem_none elem.Int n = refl
elem_none elem.Uint n = refl

pub part_has : (t : Tree) (k : ℕ) (v : Tree) (n : ℕ) → part_shape t k ≡ Some v → has_struct n v ≡ true → has_struct n t ≡ true
part_has boolean k v n at has = cc
part_has int k v n at has = cc
part_has uint k v n at has = cc
part_has (vector e m) k v n at has = by_test (nat_lt k m) at
  where
    by_test : (b : Bool) → (if b then Some (elem_tree e) else None) ≡ Some v → false ≡ true
    by_test true at = sym (elem_none e n) ∙ (ap (has_struct n) (same_Some (elem_tree e) v at) ∙ has)
    by_test false at = cc
part_has (array t (Fixed m)) k v n at has = by_test (nat_lt k m) at
  where
    by_test : (b : Bool) → (if b then Some t else None) ≡ Some v → has_struct n t ≡ true
    by_test true at = ap (has_struct n) (same_Some t v at) ∙ has
    by_test false at = cc
part_has (array t (Spec m)) k v n at has = cc
part_has (runtime t) k v n at has = cc
part_has (struct m ts) k v n at has = or_right (m == n) (have_struct n ts) (nth_has ts k v n at has)

module _ (s : Setting) (entry : Option (List ℕ)) (right : IsConforming s.of entry) (f : Function) where
  abbrev Gs : List Inst
  Gs = s.of.globals

  -- the type of the part, and the struct of which it is a member
  pub record IsPartOf (g : Inst) (t : Tree) (k : ℕ) (v : Tree) : Type 0 where
    pub shaped : type_tree Gs (part_type_by k g) ≡ Some v
    pub member : is g.op code.TypeStruct ≡ true → (has_struct g.result t ≡ true) × (slice_get g.args k ≡ Some (slice_index g.args k))

  no_member : {A : Type 0} (b : Bool) → b ≡ false → b ≡ true → A
  no_member true off on = cc
  no_member false off on = cc

  first_part : (g : Inst) (t : Tree) (k : ℕ) (v : Tree) → is g.op code.TypeStruct ≡ false → tree_before Gs g.at (slice_index g.args 0) ≡ Some v → IsPartOf g t k v
  first_part g t k v other at = record {
    shaped = ap (λ (b : Bool). type_tree Gs (slice_index g.args (if b then k else 0))) other ∙ earlier_is s f g.at (slice_index g.args 0) v at;
    member = λ on. no_member (is g.op code.TypeStruct) other on;
  }

  part_by : (g : Inst) (q : TypeKind) (t : Tree) (k : ℕ) (v : Tree) → kind g.op ≡ q → tree_by_kind Gs (tree_before Gs g.at) g q ≡ Some t → part_shape t k ≡ Some v → IsPartOf g t k v
  part_by g kinds.Bool t k v on is part = none_some (ap (λ x. part_shape x k) (same_Some boolean t is) ∙ part)
  part_by g kinds.Int t k v on is part = absurd (by_width (slice_index g.args 0 == 32) (slice_index g.args 1 == 0) (slice_index g.args 1 == 1) is)
    where
      by_width : (a b c : Bool) → (if a then (if b then Some uint else (if c then Some int else None)) else None) ≡ Some t → ⊥
      by_width true true c is = none_some (ap (λ x. part_shape x k) (same_Some uint t is) ∙ part)
      by_width true false true is = none_some (ap (λ x. part_shape x k) (same_Some int t is) ∙ part)
      by_width true false false is = cc
      by_width false b c is = cc
  part_by g kinds.Vector t k v on is part = by_part (tree_before Gs g.at (slice_index g.args 0)) refl is
    where
      by_less : (e : Elem) (n : ℕ) (b : Bool) → (if b then Some (elem_tree e) else None) ≡ Some v → elem_tree e ≡ v
      by_less e n true at = same_Some (elem_tree e) v at
      by_less e n false at = cc

      by_size : (u : Tree) → tree_before Gs g.at (slice_index g.args 0) ≡ Some u → (e : Elem) → elem_of u ≡ Some e → (n : ℕ) (a b : Bool) → (if a && b then Some (vector e n) else None) ≡ Some t → IsPartOf g t k v
      by_size u at e is_elem n true true is =
          let same : elem_tree e ≡ v = by_less e n (nat_lt k n) (ap (λ x. part_shape x k) (same_Some (vector e n) t is) ∙ part) in
          first_part g t k v (no_struct g.op kinds.Vector on no_vector_struct) (at ∙ ap (λ x. Some x) (scalar_elem u e is_elem ∙ same))
      by_size u at e is_elem n true false is = cc
      by_size u at e is_elem n false b is = cc

      by_elem : (u : Tree) → tree_before Gs g.at (slice_index g.args 0) ≡ Some u → (o : Option Elem) → elem_of u ≡ o → option_map_or (sized_vector (slice_index g.args 1)) o None ≡ Some t → IsPartOf g t k v
      by_elem u at None is_elem is = cc
      by_elem u at (Some e) is_elem is = by_size u at e is_elem (slice_index g.args 1) (nat_le 2 (slice_index g.args 1)) (nat_le (slice_index g.args 1) 4) is

      by_part : (o : Option Tree) → tree_before Gs g.at (slice_index g.args 0) ≡ o → vector_tree o (slice_index g.args 1) ≡ Some t → IsPartOf g t k v
      by_part None at is = cc
      by_part (Some u) at is = by_elem u at (elem_of u) refl is
  part_by g kinds.Array t k v on is part = by_part (tree_before Gs g.at (slice_index g.args 0)) refl (length_by (slice_index g.args 1) (global Gs (slice_index g.args 1))) is
    where
      by_length : (u : Tree) (l : Length) → part_shape (array u l) k ≡ Some v → u ≡ v
      by_length u (Fixed n) at = by_less (nat_lt k n) at
        where
          by_less : (b : Bool) → (if b then Some u else None) ≡ Some v → u ≡ v
          by_less true at = same_Some u v at
          by_less false at = cc
      by_length u (Spec n) at = cc

      by_part : (o : Option Tree) → tree_before Gs g.at (slice_index g.args 0) ≡ o → (l : Option Length) → array_tree o l ≡ Some t → IsPartOf g t k v
      by_part None at l is = cc
      by_part (Some u) at None is = cc
      by_part (Some u) at (Some l) is =
          first_part g t k v (no_struct g.op kinds.Array on no_array_struct) (at ∙ ap (λ x. Some x) (by_length u l (ap (λ x. part_shape x k) (same_Some (array u l) t is) ∙ part)))
  part_by g kinds.Runtime t k v on is part = absurd (by_part (tree_before Gs g.at (slice_index g.args 0)) is)
    where
      by_part : (o : Option Tree) → option_map runtime o ≡ Some t → ⊥
      by_part None is = cc
      by_part (Some u) is = none_some (ap (λ x. part_shape x k) (same_Some (runtime u) t is) ∙ part)
  part_by g kinds.Struct t k v on is part = by_members (all_trees (tree_before Gs g.at) g.args) refl is
    where
      by_members : (q : Option Trees) → all_trees (tree_before Gs g.at) g.args ≡ q → option_map (struct g.result) q ≡ Some t → IsPartOf g t k v
      by_members None all is = cc
      by_members (Some ts) all is =
          let same : struct g.result ts ≡ t = same_Some (struct g.result ts) t is in
          let w = nth_arg (tree_before Gs g.at) g.args ts k v all (ap (λ x. part_shape x k) same ∙ part) in
          record {
            shaped = ap (λ (b : Bool). type_tree Gs (slice_index g.args (if b then k else 0))) (struct_op g.op on) ∙ earlier_is s f g.at (slice_index g.args k) v w.1;
            member = λ on_struct. (ap (has_struct g.result) (sym same) ∙ or_left (g.result == g.result) (have_struct g.result ts) (number_same g.result g.result refl), w.0);
          }
  part_by g kinds.Other t k v on is part = cc

  module _ (o : Options) (unit : TranslationUnit) (u : IsUnitOf s.of o unit) (names : List (List ℕ)) (read : ℕ → Option Expr) where
    abbrev Found : Naming
    Found = name_of u.claimed

    abbrev W : Words
    W = words_of s.of.globals (name_of u.claimed) names

    -- where a function's blocks are written
    abbrev pub Here : Place
    Here = record { source = source_of s.of o u.entry; function = f; key = text_of (name_of u.claimed); global = read }

    member_name : (ty k : ℕ) → HasName Found (Member (id ty) k) → W.member (text_of Found (Member (id ty) k))
    member_name ty k named = inl (Member (id ty) k, named_is Found (Member (id ty) k) named)

    -- one step, and what comes behind it
    step_uses : (ty k : ℕ) (g : Inst) (t : Tree) (ss : List LStep) → global Gs ty ≡ Some g → HasNames s.of o unit u t → FitsWord k → (is g.op code.TypeStruct ≡ true → (has_struct g.result t ≡ true) × (slice_get g.args k ≡ Some (slice_index g.args k))) → UseSteps W ss → UseSteps W (part_step Here ty k ∷ ss)
    step_uses ty k g t ss at has fits member rest =
        subst (λ (q : Option Inst). UseSteps W (part_step_by Here ty k (option_map_or (λ (x : Inst). x.op) q code.TypeArray) ∷ ss)) (sym at) (by_op (is g.op code.TypeVector) (is g.op code.TypeStruct) refl)
      where
        named : is g.op code.TypeStruct ≡ true → HasName Found (Member (id ty) k)
        named on =
            let w = member on in
            let written = has g.result w.0 in
            let own = found_in Gs ty g at in
            let same : written.ty ≡ g =
            same_Some written.ty g (sym (global_found s.of entry right written.ty (as_among Gs written.ty written.among)) ∙ (ap (global Gs) written.result ∙ global_found s.of entry right g (as_among Gs g own.0))) in
            subst (λ (n : ℕ). HasName Found (Member (id n) k)) (written.result ∙ own.1)
            (part_named s.of o unit u written.ty k (slice_index g.args k) written.among written.is_struct written.written (subst (λ (x : Inst). slice_get x.args k ≡ Some (slice_index g.args k)) (sym same) w.1))

        by_op : (a b : Bool) → is g.op code.TypeStruct ≡ b → UseSteps W ((if a then text.LStep.member (axis_name k) else (if b then text.LStep.member (text_of Found (Member (id ty) k)) else text.LStep.index (literal (Int k)))) ∷ ss)
        by_op true b on = (axes_told Found k, rest)
        by_op false true on = (member_name ty k (named on), rest)
        by_op false false on = (fits, rest)

    -- along literals, from a type whose structs are written
    pub steps_use : (ks : List ℕ) (ty : ℕ) (t v : Tree) → type_tree Gs ty ≡ Some t → HasNames s.of o unit u t → FitWords ks → shape_at t ks ≡ Some v → UseSteps W (part_steps Here ty ks)
    steps_use [] ty t v shaped has fit is = tt
    steps_use (k ∷ ks) ty t v shaped has fit is = by_global (global Gs ty) refl shaped (steps_use ks)
      where
        by_part : (g : Inst) → global Gs ty ≡ Some g → tree_at Gs g ≡ Some t → (q : Option Tree) → part_shape t k ≡ q → option_and_then (λ x. shape_at x ks) q ≡ Some v
            → ((c : ℕ) (x y : Tree) → type_tree Gs c ≡ Some x → HasNames s.of o unit u x → FitWords ks → shape_at x ks ≡ Some y → UseSteps W (part_steps Here c ks)) → UseSteps W (part_steps Here ty (k ∷ ks))
        by_part g at whole None part is later = cc
        by_part g at whole (Some x) part is later =
            let w = part_by g (kind g.op) t k x refl whole part in
            step_uses ty k g t (part_steps Here (part_type Here ty k) ks) at has fit.0 w.member
            (later (part_type Here ty k) x v (ap (λ (h : Option Inst). type_tree Gs (option_map_or (part_type_by k) h 0)) at ∙ w.shaped) (λ n there. has n (part_has t k x n part there)) fit.1 is)

        by_global : (h : Option Inst) → global Gs ty ≡ h → option_map_or (tree_at Gs) h None ≡ Some t → ((c : ℕ) (x y : Tree) → type_tree Gs c ≡ Some x → HasNames s.of o unit u x → FitWords ks → shape_at x ks ≡ Some y → UseSteps W (part_steps Here c ks)) → UseSteps W (part_steps Here ty (k ∷ ks))
        by_global None at whole later = cc
        by_global (Some g) at whole later = by_part g at whole (part_shape t k) refl is later
