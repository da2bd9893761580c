-- The parts of a composite constant have the shapes of its parts (T2), and what the rules on types say of a constant with a value.
use Rattle.std.proofs.Common.{◌≡◌, ◌==◌, ℕ, suc, Bool, true, false, List, [], ◌∷◌, ◌++◌, length, not, Option, Some, None, inl, inr, refl, sym, ap, subst, ◌∙◌, if◌then◌else◌}
use Rattle.std.specs.Prelude.{option_map, option_and_then, slice_index}
use Rattle.std.specs.Option.{option_map_or, option_or}
use Rattle.std.specs.List.{list_any}
use Rattle.std.proofs.lemmas.Bool.Decides.{eqb_tells}
use Rattle.spv_ops.specs.Opcode.{is, op_of, number}
use Rattle.spv_ops.specs.OpGroups.{group_of}
use Rattle.spv_ops.specs.declared.Op.{Op}
use Rattle.spv_ops.specs.declared.Op.TheVariants as code
use Rattle.spv_ops.specs.declared.OpGroup.TheVariants as groups
use Rattle.spv_words.specs.declared.rule.Rule.TheVariants.{T1}
use Rattle.spv_words.specs.declared.rule.Refusal.{Refusal}
use Rattle.spv_module.specs.Held.{global}
use Rattle.spv_module.specs.declared.inst.Function.{Function}
use Rattle.spv_module.specs.declared.inst.Inst.{Inst}
use Rattle.spv_module.specs.declared.tree.Elem.{Elem}
use Rattle.spv_types.specs.Tree as plain
use Rattle.spv_types.specs.Tree.{Tree, ValueTree}
use Rattle.spv_types.specs.declared.kind.TypeKind.{TypeKind}
use Rattle.spv_types.specs.declared.kind.TypeKind.TheVariants as type_kinds
use Rattle.spv_types.specs.Tree.{Trees}
use Rattle.spv_module.specs.declared.tree.Length.{Length}
use Rattle.spv_types.specs.Types.{kind, length_by, array_tree, all_trees, tree_by_kind, tree_before, tree_at, type_tree}
use Rattle.spv_types.specs.Leaves.{IsSized}
use Rattle.spv_decor.specs.Rows.{word}
use Rattle.spv_index.specs.Locals.{typed, global_type, type_in}
use Rattle.spv_index.specs.ValueTypes.{is_no_value_type}
use Rattle.op_semantics.specs.Fits.{elem_tree}
use Rattle.profile_rules.specs.declared.constant.ConstantKind.TheVariants as kinds
use Rattle.profile_rules.specs.Constants.{constant_kind}
use Rattle.profile_rules.specs.Operands.{breaks_t1}
use Rattle.profile_rules.specs.TypeRows.{is_vector, is_other, type_row, constant_word}
use Rattle.profile_rules.specs.ValueRules.{are_other_parts, are_other_members, misfit, is_other_count, is_misbuilt, breaks_t2_composite, breaks_t10}
use Rattle.profile_rules.specs.TypeRules.{broken_if, is_value_broken, is_number_broken, is_broken_outside, broken_as, inner, broken_inside, broken_by_global, is_sound, rule_of}
use Rattle.module_semantics.specs.Setting.{Setting}
use Rattle.list_law.proofs.Numbers.{same_count}
use Rattle.plan_law.specs.InOrder.{AreRising}
use Rattle.fits_law.specs.Takes.{AreOfShape, AreParts, AllFit}
use Rattle.fits_law.specs.State.{value_shape}
use Rattle.fits_law.specs.Typed.{HaveShapes}
use Rattle.type_law.specs.Shaped.{HaveResults, HasConstants}
use Rattle.type_law.proofs.Rows.{vector_parts}
use Rattle.type_law.proofs.Operands.{same_shape_of}
use Rattle.type_law.proofs.Choices.{scalar_elem}
use Rattle.type_law.proofs.Parts.{row, earlier_is}
use Rattle.type_law.proofs.Made.{made_takes}
use Rattle.type_law.proofs.Constants.{typed_by}
use Rattle.typed_law.proofs.Lists.{or_left, or_right, clash, none_left, none_right}
use Rattle.typed_law.proofs.Rules.{refused}
use Rattle.global_law.proofs.Constant.Valued.{IsOperand, AreOperands}

-- a function that defines nothing: in it the types of values are those of globals
abbrev pub nothing : Function
nothing = record { id = record { 0 = 0 }; ty = record { 0 = 0 }; result = record { 0 = 0 }; at = 0; params = []; blocks = [] }

pub types_same : (gs : List Inst) → global_type gs ≡ type_in gs nothing
types_same gs = λ i n. by_type (global_type gs n) i
  where
    by_type : (o : Option ℕ) → o ≡ option_or o None
    by_type None = refl
    by_type (Some ty) = refl

-- what a constant breaks that is sound: nothing
none_broken : (rs : List Refusal) → (length rs == 0) ≡ true → rs ≡ []
none_broken [] e = refl
none_broken (r ∷ rs) e = elim (eqb_tells (suc (length rs)) 0) [ inl w ↦ (let never : suc (length rs) ≡ 0 = w.1 in absurd cc) | inr w ↦ (let never : true ≡ false = sym e ∙ w.0 in absurd cc) ]

composite_group : (o : Op) → constant_kind o ≡ kinds.Composite → group_of o ≡ groups.Composite
unfolding constant_kind group_of
composite_group code.ConstantComposite e = refl
composite_group code.SpecConstantComposite e = refl
composite_group o e = cc

pub calculated_op : (o : Op) → constant_kind o ≡ kinds.Operation → is o code.SpecConstantOp ≡ true
unfolding constant_kind number
calculated_op code.SpecConstantOp e = refl
calculated_op o e = cc

-- the type of another shape is no vector
vector_op : (o : Op) → kind o ≡ type_kinds.Vector → is o code.TypeVector ≡ true
unfolding kind number
vector_op code.TypeVector e = refl
vector_op o e = cc

vector_row : (gs : List Inst) (f : ℕ → Option Tree) (h : Inst) (e : Elem) (n : ℕ) (k : TypeKind) → kind h.op ≡ k → tree_by_kind gs f h k ≡ Some (plain.vector e n) → is_vector h ≡ true
vector_row gs f h e n type_kinds.Bool at w = cc
vector_row gs f h e n type_kinds.Int at w = by_width (slice_index h.args 0 == 32) (slice_index h.args 1 == 0) (slice_index h.args 1 == 1) w
  where
    by_width : (w a b : Bool) → (if w then (if a then Some plain.uint else (if b then Some plain.int else None)) else None) ≡ Some (plain.vector e n) → is_vector h ≡ true
    by_width true true b w = cc
    by_width true false true w = cc
    by_width true false false w = cc
    by_width false a b w = cc
vector_row gs f h e n type_kinds.Vector at w = vector_op h.op at
vector_row gs f h e n type_kinds.Array at w = by_parts (f (slice_index h.args 0)) (length_by (slice_index h.args 1) (global gs (slice_index h.args 1))) w
  where
    by_parts : (o : Option Tree) (q : Option Length) → array_tree o q ≡ Some (plain.vector e n) → is_vector h ≡ true
    by_parts None q w = cc
    by_parts (Some u) None w = cc
    by_parts (Some u) (Some l) w = cc
vector_row gs f h e n type_kinds.Runtime at w = by_part (f (slice_index h.args 0)) w
  where
    by_part : (o : Option Tree) → option_map plain.runtime o ≡ Some (plain.vector e n) → is_vector h ≡ true
    by_part None w = cc
    by_part (Some u) w = cc
vector_row gs f h e n type_kinds.Struct at w = by_parts (all_trees f h.args) w
  where
    by_parts : (o : Option Trees) → option_map (plain.struct h.result) o ≡ Some (plain.vector e n) → is_vector h ≡ true
    by_parts None w = cc
    by_parts (Some ts) w = cc
vector_row gs f h e n type_kinds.Other at w = cc

module _ (s : Setting) where
  abbrev Gs : List Inst
  Gs = s.of.globals

  abbrev T : ℕ → Option ℕ
  T = type_in s.of.globals nothing

  parts_right : (g : Inst) → is_sound s.of g ≡ true → (broken_as s.of g g.op ≡ []) × (broken_inside s.of g ≡ [])
  parts_right g sound =
      let rest = none_right (broken_if (breaks_t1 Gs g) T1 g.at) (broken_as s.of g g.op ++ broken_inside s.of g) (none_broken (broken_by_global s.of g) sound) in
      (none_left (broken_as s.of g g.op) (broken_inside s.of g) rest, none_right (broken_as s.of g g.op) (broken_inside s.of g) rest)

  -- T2 of a composite
  pub composite_right : (g : Inst) → is_sound s.of g ≡ true → constant_kind g.op ≡ kinds.Composite → breaks_t2_composite s.of.heads Gs T g ≡ false
  composite_right g sound kind =
      let off = refused (is_broken_outside s.of g (group_of g.op)) (rule_of (group_of g.op)) g.at (parts_right g sound).0 in
      let own = or_left (is_value_broken s.of (global_type Gs) g (group_of g.op)) (is_number_broken Gs (global_type Gs) g (group_of g.op)) off in
      ap (λ t. breaks_t2_composite s.of.heads Gs t g) (sym (types_same Gs)) ∙ ap (is_value_broken s.of (global_type Gs) g) (sym (composite_group g.op kind)) ∙ own

  -- the rules on the operation of a calculated constant
  pub operation_right : (g : Inst) (o : Op) → is_sound s.of g ≡ true → constant_kind g.op ≡ kinds.Operation → op_of (word g 0) ≡ Some o → (is_value_broken s.of T (inner g) (group_of o) ≡ false) × (is_number_broken Gs T (inner g) (group_of o) ≡ false)
  operation_right g o sound kind at =
      let inside : broken_as s.of (inner g) o ≡ [] =
      ap (λ q. option_map_or (broken_as s.of (inner g)) q []) (sym at) ∙ ap (λ b. if b then option_map_or (broken_as s.of (inner g)) (op_of (word g 0)) [] else []) (sym (calculated_op g.op kind)) ∙ (parts_right g sound).1 in
      let off = refused (is_broken_outside s.of (inner g) (group_of o)) (rule_of (group_of o)) g.at inside in (
        ap (λ t. is_value_broken s.of t (inner g) (group_of o)) (sym (types_same Gs)) ∙ or_left (is_value_broken s.of (global_type Gs) (inner g) (group_of o)) (is_number_broken Gs (global_type Gs) (inner g) (group_of o)) off,
        ap (λ t. is_number_broken Gs t (inner g) (group_of o)) (sym (types_same Gs)) ∙ or_right (is_value_broken s.of (global_type Gs) (inner g) (group_of o)) (is_number_broken Gs (global_type Gs) (inner g) (group_of o)) off,
      )

  module _ (chosen : ℕ → Option ℕ) (have : HasConstants s chosen) (results : HaveResults s.of.globals) (rising : AreRising 0 s.of.globals) where
    pub operand_type : (at n : ℕ) (t : Tree) (v : ValueTree) (w : IsOperand s chosen have results rising at n t v) → T n ≡ Some w.inst.ty
    operand_type at n t v w = ap (λ o. option_or (option_and_then typed o) None) w.there ∙ ap (λ o. option_or o None) (typed_by Gs results w.inst t w.typed_as)

    pub operand_shape : (at n : ℕ) (t : Tree) (v : ValueTree) → IsOperand s chosen have results rising at n t v → value_shape s nothing n ≡ Some t
    operand_shape at n t v w = ap (option_and_then (type_tree Gs)) (operand_type at n t v w) ∙ w.typed_as

    pub have_shapes : (at : ℕ) (ns : List ℕ) (ts : List Tree) (vs : List ValueTree) → AreOperands s chosen have results rising at ns ts vs → HaveShapes s nothing ns ts
    have_shapes at [] [] [] are = tt
    have_shapes at (n ∷ ns) (t ∷ ts) (v ∷ vs) are = (operand_shape at n t v are.0, have_shapes at ns ts vs are.1)
    have_shapes at [] [] (v ∷ vs) are = absurd are
    have_shapes at [] (t ∷ ts) vs are = absurd are
    have_shapes at (n ∷ ns) [] vs are = absurd are
    have_shapes at (n ∷ ns) (t ∷ ts) [] are = absurd are

    pub all_fit : (at : ℕ) (ns : List ℕ) (ts : List Tree) (vs : List ValueTree) → AreOperands s chosen have results rising at ns ts vs → AllFit ts vs
    all_fit at [] [] [] are = tt
    all_fit at (n ∷ ns) (t ∷ ts) (v ∷ vs) are = let w = are.0 in (w.fit, all_fit at ns ts vs are.1)
    all_fit at [] [] (v ∷ vs) are = absurd are
    all_fit at [] (t ∷ ts) vs are = absurd are
    all_fit at (n ∷ ns) [] vs are = absurd are
    all_fit at (n ∷ ns) (t ∷ ts) [] are = absurd are

  -- a vector has scalars as its parts, one for each component
  abbrev pub AreConstituents : Tree → List Tree → Type 0
  AreConstituents (plain.vector e n) us = (length us ≡ n) × AreOfShape (elem_tree e) us
  AreConstituents t us = AreParts t us

  as_many : (ids : List ℕ) (us : List Tree) → HaveShapes s nothing ids us → length us ≡ length ids
  as_many [] [] have = refl
  as_many [] (u ∷ us) have = absurd have
  as_many (n ∷ ids) [] have = absurd have
  as_many (n ∷ ids) (u ∷ us) have = ap (λ k. suc k) (as_many ids us have.1)

  components_are : (ty : ℕ) (t : Tree) (ids : List ℕ) (us : List Tree) → type_tree Gs ty ≡ Some t → HaveShapes s nothing ids us → list_any (is_other Gs T ty) ids ≡ false → AreOfShape t us
  components_are ty t [] [] shape have off = tt
  components_are ty t [] (u ∷ us) shape have off = absurd have
  components_are ty t (n ∷ ids) [] shape have off = absurd have
  components_are ty t (n ∷ ids) (u ∷ us) shape have off = (same_shape_of s nothing ty n t u (or_left (is_other Gs T ty n) (list_any (is_other Gs T ty) ids) off) shape have.0, components_are ty t ids us shape have.1 (or_right (is_other Gs T ty n) (list_any (is_other Gs T ty) ids) off))

  pub constituents_are : (g : Inst) (t : Tree) (us : List Tree) → breaks_t2_composite s.of.heads Gs T g ≡ false → type_tree Gs g.ty ≡ Some t → IsSized t → HaveShapes s nothing g.args us → AreConstituents t us
  constituents_are g t us off shape sized have = by_vector (is_vector c.0) refl
    where
      c : (h : Inst) × (type_row Gs g.ty ≡ Some h) × (tree_at Gs h ≡ Some t)
      c = row s nothing g.ty t shape

      parts : misfit Gs T c.0 g.args ≡ false
      parts = ap (λ o. option_map_or (λ h. misfit Gs T h g.args) o false) (sym c.1) ∙ or_right (is_no_value_type s.of.heads Gs g.ty) (option_map_or (λ h. misfit Gs T h g.args) (type_row Gs g.ty) false) off

      -- of another composite these are the parts that OpCompositeConstruct takes
      as_made : (t : Tree) → AreParts t us → ((e : Elem) (n : ℕ) → t ≡ plain.vector e n → ⊥) → AreConstituents t us
      as_made plain.boolean are far = are
      as_made plain.int are far = are
      as_made plain.uint are far = are
      as_made (plain.vector e n) are far = absurd (far e n refl)
      as_made (plain.array u l) are far = are
      as_made (plain.runtime u) are far = are
      as_made (plain.struct k ts) are far = are

      by_vector : (b : Bool) → is_vector c.0 ≡ b → AreConstituents t us
      by_vector true on =
          let v = vector_parts Gs c.0 t on c.2 in
          let many : are_other_parts Gs T (word c.0 1) (word c.0 0) g.args ≡ false = ap (λ b. if b then are_other_parts Gs T (word c.0 1) (word c.0 0) g.args else (if is c.0.op code.TypeArray then option_map_or (λ n. are_other_parts Gs T n (word c.0 0) g.args) (constant_word Gs (word c.0 1)) false else (if is c.0.op code.TypeStruct then are_other_members Gs T c.0.args g.args else true))) (sym on) ∙ parts in
          subst (λ q. AreConstituents q us) (sym v.4) (
            as_many g.args us have ∙ same_count (length g.args) (word c.0 1) (or_left (not (length g.args == word c.0 1)) (list_any (is_other Gs T (word c.0 0)) g.args) many),
            components_are (word c.0 0) (elem_tree v.1) g.args us (earlier_is s nothing c.0.at (word c.0 0) v.0 v.2 ∙ ap (λ q. Some q) (scalar_elem v.0 v.1 v.3)) have (or_right (not (length g.args == word c.0 1)) (list_any (is_other Gs T (word c.0 0)) g.args) many),
          )
      by_vector false on =
          let built : breaks_t10 Gs T g ≡ false = ap (λ o. option_map_or (is_misbuilt Gs T g.args) o false) c.1 ∙ ap (λ b. if b then is_other_count Gs T (word c.0 1) (word c.0 0) g.args else misfit Gs T c.0 g.args) on ∙ parts in
          as_made t (made_takes s nothing g t [] us built shape sized have) (λ e n same. clash (sym (vector_row Gs (tree_before Gs c.0.at) c.0 e n (kind c.0.op) refl (c.2 ∙ ap (λ q. Some q) same)) ∙ on))
