-- No array in what OpCopyLogical gives is so long that an int does not lead to each of its elements: by the limit on scalars, which counts those of its result.
use Rattle.std.proofs.Common.{◌≡◌, ◌⊎◌, ◌<◌, ◌≤◌, ◌+◌, ◌*◌, ◌^◌, ◌==◌, ◌&&◌, ℕ, zero, suc, Bool, true, false, List, [], ◌∷◌, length, not, Option, Some, None, inl, inr, refl, sym, ap, ◌∙◌, subst, if◌then◌else◌, arith}
use Rattle.std.specs.Prelude.{nat_le, nat_lt, option_map, slice_index, sum_by, fold, flat_map, Contains}
use Rattle.std.specs.Option.{option_map_or}
use Rattle.std.specs.List.{list_any}
use Rattle.std.proofs.lemmas.Bool.Decides.{eqb_tells, nat_tests}
use Rattle.std.proofs.lemmas.List.Sums.{sum_by-cons, sum_by-append, get_or-le-sum_by}
use Rattle.std.proofs.lemmas.Bool.{not-false}
use Rattle.std.proofs.lemmas.Option.{same_Some}
use Rattle.spv_words.specs.declared.rule.Limit.TheVariants.{Leaves}
use Rattle.spv_words.specs.Limit.{limit_number}
use Rattle.spv_ops.specs.Opcode.{is, number}
use Rattle.spv_ops.specs.Groups.{is_specialization}
use Rattle.spv_ops.specs.declared.Op.{Op}
use Rattle.spv_ops.specs.declared.Op.TheVariants as code
use Rattle.spv_module.specs.Held.{global}
use Rattle.spv_module.specs.State.{ModuleState}
use Rattle.spv_module.specs.declared.inst.Inst.{Inst}
use Rattle.spv_module.specs.declared.inst.Block.{Block}
use Rattle.spv_module.specs.declared.inst.Function.{Function}
use Rattle.spv_module.specs.declared.tree.Elem.{Elem}
use Rattle.spv_module.specs.declared.tree.Length.{Length}
use Rattle.spv_module.specs.declared.tree.Length.TheVariants.{Fixed, Spec}
use Rattle.spv_types.specs.declared.kind.TypeKind.{TypeKind}
use Rattle.spv_types.specs.declared.kind.TypeKind.TheVariants as type_kinds
use Rattle.spv_types.specs.Tree as plain
use Rattle.spv_types.specs.Tree.{Tree, Trees, no_trees, tree}
use Rattle.spv_types.specs.Types.{kind, elem_of, sized_vector, vector_tree, length_of, length_by, array_tree, both, all_trees, tree_by_kind, tree_before, tree_at, type_tree, earlier}
use Rattle.spv_types.specs.Leaves.{IsSized, AreSized}
use Rattle.spv_types.proofs.Below.{tree_before_is}
use Rattle.spv_index.specs.Locals.{insts_of}
use Rattle.spv_decor.specs.Rows.{word}
use Rattle.profile_rules.specs.Leaves.{said_with, constant_length, leaves_by_kind, leaves_step, type_leaves, inst_leaves, function_leaves, leaves_of_module}
use Rattle.profile_rules.specs.Places.{is_defined_elsewhere}
use Rattle.profile_rules.specs.TypeForm.{is_no_data, parts_of, is_signed, is_above_zero, is_workgroup_length, is_length, is_other_int, is_other_vector, is_other_array, is_empty_struct}
use Rattle.module_semantics.specs.Setting.{Setting}
use Rattle.list_law.proofs.Options.{none_some}
use Rattle.plan_law.specs.InOrder.{IsAmong, AreRising}
use Rattle.fits_law.proofs.Steps.{named}
use Rattle.type_law.proofs.Vectors.{five_off}
use Rattle.type_law.proofs.Parts.{array_op, struct_op, constant_length as fixed_length}
use Rattle.typed_law.specs.Conforms.{IsConforming}
use Rattle.typed_law.proofs.Lists.{and_left, and_off, found_in, earlier_some}
use Rattle.typed_law.proofs.Rules.{formed_type}
use Rattle.typed_law.proofs.Sized.{rising_low}
use Rattle.typed_law.proofs.Used.{global_found}
use Rattle.typed_law.proofs.Values.{value_sized, own_type, shaped_some}
use Rattle.lowering_law.specs.Written.{IsShort, AreShort}

-- numbers
le_first : (n a : ℕ) → 1 ≤ n → a ≤ n * a
le_first zero a le = absurd (omega (arith, le))
le_first (suc n) a le = omega arith

le_second : (n a : ℕ) → 1 ≤ a → n ≤ n * a
le_second zero a le = omega arith
le_second (suc n) a le = let rest = le_second n a le in omega (arith, le, rest)

-- a part of a sum is no more than the sum
one_in : (f : Inst → ℕ) (gs : List Inst) (g : Inst) → IsAmong g gs → f g ≤ sum_by f gs
one_in f [] g there = absurd there
one_in f (x ∷ gs) g (inl same) = subst (λ n. f g ≤ n) (sym (sum_by-cons f x gs)) (subst (λ (y : Inst). f g ≤ f y + sum_by f gs) (sym same) (let le : f g ≤ f g + sum_by f gs = omega arith in le))
one_in f (x ∷ gs) g (inr there) = let rest = one_in f gs g there in subst (λ n. f g ≤ n) (sym (sum_by-cons f x gs)) (let le : f g ≤ f x + sum_by f gs = omega (arith, rest) in le)

-- what is told of ids, one instruction after another: of an id that no instruction behind has, what was told before
module _ (step : (ℕ → ℕ) → Inst → ℕ) where
  unsaid : (gs : List Inst) (f : ℕ → ℕ) (n : ℕ) → ((h : Inst) → IsAmong h gs → h.result ≡ n → ⊥) → fold (said_with step) f gs n ≡ f n
  unsaid [] f n none = refl
  unsaid (x ∷ gs) f n none = unsaid gs (said_with step f x) n (λ h there. none h (inr there)) ∙ by_test (x.result == n) (eqb_tells x.result n)
    where
      by_test : (b : Bool) → ((b ≡ true) × (x.result ≡ n)) ⊎ ((b ≡ false) × (x.result ≡ n → ⊥)) → elim b as (λ q. ℕ) [ true ↦ step f x | false ↦ f n ] ≡ f n
      by_test b (inl w) = absurd (none x (inl refl) w.1)
      by_test true (inr w) = cc
      by_test false (inr w) = refl

  -- of an instruction's own id what the step says from what was told before it, which is told in the end of what stands before it
  record IsSaid (gs : List Inst) (f : ℕ → ℕ) (g : Inst) : Type 0 where
    from : ℕ → ℕ
    is : fold (said_with step) f gs g.result ≡ step from g
    same : (p : ℕ) → ((h : Inst) → IsAmong h gs → g.at ≤ h.at → h.result ≡ p → ⊥) → from p ≡ fold (said_with step) f gs p

  said_at : (gs : List Inst) (k : ℕ) (f : ℕ → ℕ) (g : Inst) → AreRising k gs → ((h : Inst) → IsAmong h gs → h.result ≡ g.result → h.at ≡ g.at) → IsAmong g gs → IsSaid gs f g
  said_at [] k f g rise once there = absurd there
  said_at (x ∷ gs) k f g rise once (inl same) = record {
    from = f;
    is =
        unsaid gs (said_with step f x) g.result (λ h later one. let far = rising_low (x.at + 1) gs h rise.1 later in let at : h.at ≡ g.at = once h (inr later) one in let here : x.at ≡ g.at = ap (λ (y : Inst). y.at) same in omega (arith, far, at, here))
        ∙ by_test (x.result == g.result) (eqb_tells x.result g.result);
    same = λ p none. sym (unsaid (x ∷ gs) f p (λ h there. none h there (low h there)));
  }
    where
      by_test : (b : Bool) → ((b ≡ true) × (x.result ≡ g.result)) ⊎ ((b ≡ false) × (x.result ≡ g.result → ⊥)) → elim b as (λ q. ℕ) [ true ↦ step f x | false ↦ f g.result ] ≡ step f g
      by_test true (inl w) = ap (step f) same
      by_test false (inl w) = cc
      by_test b (inr w) = absurd (w.1 (ap (λ (y : Inst). y.result) same))

      low : (h : Inst) → IsAmong h (x ∷ gs) → g.at ≤ h.at
      low h (inl other) = let here : x.at ≡ g.at = ap (λ (y : Inst). y.at) same in let at : x.at ≡ h.at = ap (λ (y : Inst). y.at) other in omega (arith, here, at)
      low h (inr later) = let far = rising_low (x.at + 1) gs h rise.1 later in let here : x.at ≡ g.at = ap (λ (y : Inst). y.at) same in omega (arith, far, here)
  said_at (x ∷ gs) k f g rise once (inr there) =
      let w = said_at gs (x.at + 1) (said_with step f x) g rise.1 (λ h later. once h (inr later)) there in
      record { from = w.from; is = w.is; same = λ p none. w.same p (λ h later. none h (inr later)) }

module _ (m : ModuleState) (entry : Option (List ℕ)) (right : IsConforming m entry) where
  abbrev Gs : List Inst
  Gs = m.globals

  abbrev L : ℕ → ℕ
  L = type_leaves m.globals

  -- the scalars of a type are counted from those of the types before it
  record IsCounted (g : Inst) : Type 0 where
    from : ℕ → ℕ
    is : L g.result ≡ leaves_by_kind Gs from g.args (kind g.op)
    same : (p : ℕ) (h : Inst) → global Gs p ≡ Some h → h.at < g.at → from p ≡ L p

  counted : (g : Inst) → IsAmong g Gs → IsCounted g
  counted g there =
      let w = said_at (leaves_step Gs) Gs 0 (λ id. 0) g right.rising (λ h h_in same. ap (λ (x : Inst). x.at) (same_Some h g (sym (global_found m entry right h h_in) ∙ ap (global Gs) same ∙ global_found m entry right g there))) there in
      record {
        from = w.from;
        is = w.is;
        same = λ p h at less. w.same p (λ k k_in le same. let one : k.at ≡ h.at = ap (λ (x : Inst). x.at) (same_Some k h (sym (global_found m entry right k k_in) ∙ ap (global Gs) same ∙ at)) in omega (arith, less, le, one));
      }

  -- what is known of a type with so few scalars: it is short, and it has some
  abbrev IsFew : ℕ → Tree → Type 0
  IsFew n t = n ≤ 2 ^ 31 → IsShort t × (1 ≤ n)

  module _ (g : Inst) (there : IsAmong g Gs) (known : (h : Inst) → IsAmong h Gs → h.at < g.at → (u : Tree) → tree_at Gs h ≡ Some u → IsSized u → IsFew (L h.result) u) where
    c : IsCounted g
    c = counted g there

    part : (p : ℕ) (u : Tree) → tree_before Gs g.at p ≡ Some u → IsSized u → IsFew (c.from p) u
    part p u e sized = by_earlier (earlier Gs g.at p) refl (sym (tree_before_is Gs g.at p) ∙ e)
      where
        by_earlier : (o : Option Inst) → earlier Gs g.at p ≡ o → option_map_or (tree_at Gs) o None ≡ Some u → IsFew (c.from p) u
        by_earlier None at e = none_some e
        by_earlier (Some h) at e =
            let w = earlier_some Gs g.at p h at in
            subst (λ n. IsFew n u) (sym (c.same p h w.0 w.1 ∙ ap L (sym (named Gs p h w.0)))) (known h (found_in Gs p h w.0) w.1 u e sized)

    -- P18
    off : (is_other_array m g ≡ false) × (is_empty_struct g ≡ false)
    off = let w = five_off (is_other_int g) (is_other_vector m g) (is_other_array m g) (is_empty_struct g) (list_any (is_no_data Gs) (parts_of g)) (formed_type m entry right g there) in (w.2, w.3)

    abbrev Goal : Tree → Type 0
    Goal t = IsFew (L g.result) t

    by_count : (k : TypeKind) → kind g.op ≡ k → (t : Tree) → IsFew (leaves_by_kind Gs c.from g.args k) t → Goal t
    by_count k at t few = subst (λ n. IsFew n t) (sym (c.is ∙ ap (leaves_by_kind Gs c.from g.args) at)) few

    scalar_few : (k : TypeKind) → kind g.op ≡ k → (t : Tree) → IsShort t → leaves_by_kind Gs c.from g.args k ≡ 1 → Goal t
    scalar_few k at t short one = by_count k at t (λ le. (short, let some : 1 ≤ leaves_by_kind Gs c.from g.args k = omega (arith, one) in some))

    int_few : kind g.op ≡ type_kinds.Int → (w a b : Bool) (t : Tree) → (if w then (if a then Some plain.uint else (if b then Some plain.int else None)) else None) ≡ Some t → Goal t
    int_few at true true b t e = scalar_few type_kinds.Int at t (subst IsShort (same_Some plain.uint t e) tt) refl
    int_few at true false true t e = scalar_few type_kinds.Int at t (subst IsShort (same_Some plain.int t e) tt) refl
    int_few at true false false t e = none_some e
    int_few at false a b t e = none_some e

    vector_few : kind g.op ≡ type_kinds.Vector → (o : Option Tree) → tree_before Gs g.at (slice_index g.args 0) ≡ o → (t : Tree) → vector_tree o (slice_index g.args 1) ≡ Some t → Goal t
    vector_few at None first t e = none_some e
    vector_few at (Some u) first t e = by_elem (elem_of u) refl e
      where
        sized : (u : Tree) (d : Elem) → elem_of u ≡ Some d → IsSized u
        sized plain.boolean d e = tt
        sized plain.int d e = tt
        sized plain.uint d e = tt
        sized (plain.vector d n) q e = none_some e
        sized (plain.array t l) q e = none_some e
        sized (plain.runtime t) q e = none_some e
        sized (plain.struct k ts) q e = none_some e

        by_size : (d : Elem) → elem_of u ≡ Some d → (a b : Bool) → nat_le 2 (slice_index g.args 1) ≡ a → (if a && b then Some (plain.vector d (slice_index g.args 1)) else None) ≡ Some t → Goal t
        by_size d scalar true true low e =
            let two : 2 ≤ slice_index g.args 1 = grind (arith, nat_tests, low) in
            by_count type_kinds.Vector at t (λ le.
            let least = le_first (slice_index g.args 1) (c.from (slice_index g.args 0)) (let one : 1 ≤ slice_index g.args 1 = omega (arith, two) in one) in
            let some = (part (slice_index g.args 0) u first (sized u d scalar) (let few : c.from (slice_index g.args 0) ≤ 2 ^ 31 = omega (arith, le, least) in few)).1 in
            (subst IsShort (same_Some (plain.vector d (slice_index g.args 1)) t e) tt, let all : 1 ≤ slice_index g.args 1 * c.from (slice_index g.args 0) = omega (arith, least, some) in all))
        by_size d scalar true false low e = none_some e
        by_size d scalar false b low e = none_some e

        by_elem : (q : Option Elem) → elem_of u ≡ q → option_map_or (sized_vector (slice_index g.args 1)) q None ≡ Some t → Goal t
        by_elem None scalar e = none_some e
        by_elem (Some d) scalar e = by_size d scalar (nat_le 2 (slice_index g.args 1)) (nat_le (slice_index g.args 1) 4) refl e

    array_few : kind g.op ≡ type_kinds.Array → (o : Option Tree) → tree_before Gs g.at (slice_index g.args 0) ≡ o → (q : Option Inst) → global Gs (slice_index g.args 1) ≡ q → (t : Tree) → IsSized t → array_tree o (length_by (slice_index g.args 1) q) ≡ Some t → Goal t
    array_few at None first q second t sized e = none_some e
    array_few at (Some u) first None second t sized e = none_some e
    array_few at (Some u) first (Some k) second t sized e = by_length (length_of k.op (slice_index g.args 1) (slice_index k.args 0)) refl e
      where
        by_number : (n : ℕ) → length_of k.op (slice_index g.args 1) (slice_index k.args 0) ≡ Some (Fixed n) → plain.array u (Fixed n) ≡ t → Goal t
        by_number n l_is same =
            let fixed = fixed_length k.op (slice_index g.args 1) (slice_index k.args 0) n l_is in
            let count : constant_length (global Gs (slice_index g.args 1)) ≡ n = ap constant_length second ∙ (ap (λ (b : Bool). if b then slice_index k.args 0 else 0) fixed.0 ∙ fixed.1) in
            let is_it : is_length m g.result k ≡ true = not-false (is_length m g.result k)
            (ap (λ o. option_map_or (λ (x : Inst). not (is_length m g.result x)) o (is_defined_elsewhere m (word g 1))) (sym second)
            ∙ and_off (is g.op code.TypeArray) (option_map_or (λ (x : Inst). not (is_length m g.result x)) (global Gs (word g 1)) (is_defined_elsewhere m (word g 1))) off.0 (array_op g.op at)) in
            let above : is_above_zero Gs k ≡ true = sym (ap (λ (b : Bool). if b then is_above_zero Gs k else (is_specialization k.op && is_workgroup_length m k g.result)) fixed.0) ∙ is_it in
            let less : nat_lt 0 (word k 0) ≡ true = and_left (nat_lt 0 (word k 0)) (not (is_signed Gs k.ty && nat_le 0x80000000 (word k 0))) above in
            let one : 1 ≤ n = subst (λ x. 1 ≤ x) fixed.1 (let some : 1 ≤ word k 0 = grind (arith, nat_tests, less) in some) in
            let whole : IsSized u = subst IsSized (sym same) sized in
            by_count type_kinds.Array at t (λ le.
            let most : n * c.from (slice_index g.args 0) ≤ 2 ^ 31 = subst (λ x. x * c.from (slice_index g.args 0) ≤ 2 ^ 31) count le in
            let least = le_first n (c.from (slice_index g.args 0)) one in
            let w = part (slice_index g.args 0) u first whole (let few : c.from (slice_index g.args 0) ≤ 2 ^ 31 = omega (arith, most, least) in few) in
            let long = le_second n (c.from (slice_index g.args 0)) w.1 in
            (subst IsShort same ((let few : n ≤ 2 ^ 31 = omega (arith, most, long) in few), w.0), subst (λ x. 1 ≤ x * c.from (slice_index g.args 0)) (sym count) (let some : 1 ≤ n * c.from (slice_index g.args 0) = omega (arith, one, long) in some)))

        by_length : (l : Option Length) → length_of k.op (slice_index g.args 1) (slice_index k.args 0) ≡ l → array_tree (Some u) l ≡ Some t → Goal t
        by_length None l_is e = none_some e
        by_length (Some (Fixed n)) l_is e = by_number n l_is (same_Some (plain.array u (Fixed n)) t e)
        by_length (Some (Spec l)) l_is e = absurd (subst IsSized (sym (same_Some (plain.array u (Spec l)) t e)) sized)

    -- the members of a struct
    members_few : (ids : List ℕ) (ts : Trees) → all_trees (tree_before Gs g.at) ids ≡ Some ts → AreSized ts → sum_by c.from ids ≤ 2 ^ 31 → AreShort ts × ((length ids == 0) ≡ false → 1 ≤ sum_by c.from ids)
    members_few [] ts all sized le = (subst AreShort (same_Some no_trees ts all) tt, λ some. absurd (never some))
      where
        never : (0 == 0) ≡ false → ⊥
        never e = let same : (0 == 0) ≡ true = grind (arith, nat_tests) in let clash : true ≡ false = sym same ∙ e in cc
    members_few (p ∷ ps) ts all sized le = by_parts (tree_before Gs g.at p) refl (all_trees (tree_before Gs g.at) ps) refl all (λ us more rest few. (members_few ps us more rest few).0)
      where
        total : c.from p + sum_by c.from ps ≤ 2 ^ 31
        total = subst (λ n. n ≤ 2 ^ 31) (sum_by-cons c.from p ps) le

        by_parts : (o : Option Tree) → tree_before Gs g.at p ≡ o → (q : Option Trees) → all_trees (tree_before Gs g.at) ps ≡ q → both o q ≡ Some ts → ((us : Trees) → all_trees (tree_before Gs g.at) ps ≡ Some us → AreSized us → sum_by c.from ps ≤ 2 ^ 31 → AreShort us)
            → AreShort ts × ((length (p ∷ ps) == 0) ≡ false → 1 ≤ sum_by c.from (p ∷ ps))
        by_parts None at q more e later = none_some e
        by_parts (Some v) at None more e later = none_some e
        by_parts (Some v) at (Some us) more e later =
            let same = same_Some (tree v us) ts e in
            let both_sized : AreSized (tree v us) = subst AreSized (sym same) sized in
            let w = part p v at both_sized.0 (let few : c.from p ≤ 2 ^ 31 = omega (arith, total) in few) in
            let one = w.1 in (
              subst AreShort same (w.0, later us more both_sized.1 (let few : sum_by c.from ps ≤ 2 ^ 31 = omega (arith, total) in few)),
              λ some. subst (λ n. 1 ≤ n) (sym (sum_by-cons c.from p ps)) (let all : 1 ≤ c.from p + sum_by c.from ps = omega (arith, one) in all),
            )

    struct_few : kind g.op ≡ type_kinds.Struct → (o : Option Trees) → all_trees (tree_before Gs g.at) g.args ≡ o → (t : Tree) → IsSized t → option_map (plain.struct g.result) o ≡ Some t → Goal t
    struct_few at None all t sized e = none_some e
    struct_few at (Some ts) all t sized e =
        let same = same_Some (plain.struct g.result ts) t e in
        by_count type_kinds.Struct at t (λ le.
        let w = members_few g.args ts all (subst IsSized (sym same) sized) le in
        (subst IsShort same w.0, w.1 (and_off (is g.op code.TypeStruct) (length g.args == 0) off.1 (struct_op g.op at))))

    by_kind : (k : TypeKind) → kind g.op ≡ k → (t : Tree) → IsSized t → tree_by_kind Gs (tree_before Gs g.at) g k ≡ Some t → Goal t
    by_kind type_kinds.Bool at t sized e = scalar_few type_kinds.Bool at t (subst IsShort (same_Some plain.boolean t e) tt) refl
    by_kind type_kinds.Int at t sized e = int_few at (slice_index g.args 0 == 32) (slice_index g.args 1 == 0) (slice_index g.args 1 == 1) t e
    by_kind type_kinds.Vector at t sized e = vector_few at (tree_before Gs g.at (slice_index g.args 0)) refl t e
    by_kind type_kinds.Array at t sized e = array_few at (tree_before Gs g.at (slice_index g.args 0)) refl (global Gs (slice_index g.args 1)) refl t sized e
    by_kind type_kinds.Runtime at t sized e = by_part (tree_before Gs g.at (slice_index g.args 0)) e
      where
        by_part : (o : Option Tree) → option_map plain.runtime o ≡ Some t → Goal t
        by_part None e = none_some e
        by_part (Some u) e = absurd (subst IsSized (sym (same_Some (plain.runtime u) t e)) sized)
    by_kind type_kinds.Struct at t sized e = struct_few at (all_trees (tree_before Gs g.at) g.args) refl t sized e
    by_kind type_kinds.Other at t sized e = none_some e

  few_by : (n : ℕ) (g : Inst) → IsAmong g Gs → g.at < n → (t : Tree) → tree_at Gs g ≡ Some t → IsSized t → IsFew (L g.result) t
  few_by zero g there less t e sized = absurd (omega (arith, less))
  few_by (suc n) g there less t e sized = by_kind g there (λ h among before u whole of_it. few_by n h among (let low : h.at < n = omega (arith, less, before) in low) u whole of_it) (kind g.op) refl t sized e

-- the scalars of all instructions of a function are those of its blocks
blocks_sum : (f : Inst → ℕ) (bs : List Block) → sum_by f (flat_map (λ (b : Block). b.insts) bs) ≡ sum_by (λ (b : Block). sum_by f b.insts) bs
blocks_sum f [] = refl
blocks_sum f (b ∷ bs) = sum_by-append f b.insts (flat_map (λ (c : Block). c.insts) bs) ∙ ap (λ n. sum_by f b.insts + n) (blocks_sum f bs) ∙ sym (sum_by-cons (λ (c : Block). sum_by f c.insts) b bs)

-- OpCopyLogical counts those of its result
copied_leaves : (gs : List Inst) (leaves : ℕ → ℕ) (j : Inst) → j.op ≡ code.CopyLogical → inst_leaves gs leaves j ≡ leaves j.ty
unfolding number
copied_leaves gs leaves j copies = subst (λ (o : Op). inst_leaves gs leaves (record j { op = o }) ≡ leaves j.ty) (sym copies) refl

module _ (s : Setting) (entry : Option (List ℕ)) (right : IsConforming s.of entry) (few : leaves_of_module s.of ≤ limit_number Leaves) where
  abbrev Globals : List Inst
  Globals = s.of.globals

  pub copies_short : (f : Function) (in_it : Contains s.of.functions f) (j : Inst) → IsAmong j (insts_of f) → j.op ≡ code.CopyLogical → (t : Tree) → type_tree s.of.globals j.ty ≡ Some t → IsShort t
  copies_short f in_it j there copies t shape = by_type (global Globals j.ty) refl shape
    where
      sized : IsSized t
      sized = value_sized s entry right f in_it j.result j.ty (own_type s entry right f in_it j there (shaped_some s entry right f in_it j.ty t shape)) t shape

      low : type_leaves Globals j.ty ≤ 2 ^ 31
      low =
          let leaves : Inst → ℕ = inst_leaves Globals (type_leaves Globals) in
          let own = copied_leaves Globals (type_leaves Globals) j copies in
          let one = one_in leaves (insts_of f) j there in
          let blocks = blocks_sum leaves f.blocks in
          let functions = subst (λ g. function_leaves Globals (type_leaves Globals) g ≤ sum_by (function_leaves Globals (type_leaves Globals)) s.of.functions) in_it.2 (get_or-le-sum_by (function_leaves Globals (type_leaves Globals)) s.of.functions in_it.0 f in_it.1) in
          omega (arith, own, one, blocks, functions, few)

      by_type : (o : Option Inst) → global Globals j.ty ≡ o → option_map_or (tree_at Globals) o None ≡ Some t → IsShort t
      by_type None at e = none_some e
      by_type (Some h) at e = (few_by s.of entry right (suc h.at) h (found_in Globals j.ty h at) (let less : h.at < suc h.at = omega arith in less) t e sized (subst (λ n. type_leaves Globals n ≤ 2 ^ 31) (sym (named Globals j.ty h at)) low)).0
