-- Parts of composites along literals: the rules lead where the shapes do.
use Rattle.std.proofs.Common.{◌≡◌, ◌<◌, ℕ, zero, suc, Bool, true, false, List, [], ◌∷◌, length, Option, Some, None, inl, inr, refl, sym, ap, ◌∙◌, subst, arith, if◌then◌else◌}
use Rattle.std.specs.Prelude.{◌⊎◌, nat_lt, option_map, option_and_then, slice_index}
use Rattle.std.specs.Option.{option_map_or}
use Rattle.std.proofs.lemmas.Bool.Decides.{nat_tests}
use Rattle.std.proofs.lemmas.Option.{same_Some}
use Rattle.spv_ops.specs.Opcode.{is, number}
use Rattle.spv_ops.specs.declared.Op.{Op}
use Rattle.spv_ops.specs.declared.Op.TheVariants as code
use Rattle.spv_module.specs.Held.{global}
use Rattle.spv_module.specs.declared.inst.Inst.{Inst}
use Rattle.spv_module.specs.declared.inst.Function.{Function}
use Rattle.spv_module.specs.declared.tree.Elem.{Elem}
use Rattle.spv_module.specs.declared.tree.Elem.TheVariants as elem
use Rattle.spv_module.specs.declared.tree.Length.{Length}
use Rattle.spv_module.specs.declared.tree.Length.TheVariants.{Fixed, Spec}
use Rattle.spv_types.specs.declared.kind.TypeKind.TheVariants.{Array, Runtime, Struct}
use Rattle.spv_types.specs.Tree.{Tree, vector, array, runtime, struct, Trees, no_trees, tree}
use Rattle.spv_types.specs.Leaves.{IsSized, AreSized}
use Rattle.spv_types.specs.Types.{kind, elem_of, length_of, length_by, array_tree, both, all_trees, tree_before, tree_at, type_tree}
use Rattle.spv_decor.specs.Rows.{word}
use Rattle.spv_index.specs.Locals.{type_in}
use Rattle.op_semantics.specs.declared.operation.Operation.TheVariants as op
use Rattle.op_semantics.specs.Fits.{elem_tree}
use Rattle.profile_rules.specs.declared.needs.Reached.{Reached}
use Rattle.profile_rules.specs.declared.needs.Reached.TheVariants.{Part, Nothing, Unknown}
use Rattle.profile_rules.specs.TypeRows.{is_int, is_vector, is_runtime_array, is_other, constant_if, constant_word}
use Rattle.profile_rules.specs.ValueRules.{walk, nth_member, one_of, literal_part, literal_step, part_of, is_elsewhere, is_value_elsewhere}
use Rattle.module_semantics.specs.Setting.{Setting}
use Rattle.list_law.proofs.Options.{some_part}
use Rattle.list_law.proofs.Tests.{clash}
use Rattle.fits_law.specs.Takes.{numbers, nth_of, part_shape, shape_at, Takes}
use Rattle.fits_law.specs.State.{value_shape}
use Rattle.type_law.proofs.Rows.{int_has, by_kind, vector_parts}
use Rattle.type_law.proofs.Scalars.{before_row}
use Rattle.type_law.proofs.Operands.{same_shape_of}
use Rattle.type_law.proofs.Choices.{scalar_elem}
pub use Rattle.type_law.proofs.Choices.{row, same_types}

-- a type with a shape is of one of five kinds besides scalars, by its opcode
pub array_kind : (o : Op) → is o code.TypeArray ≡ true → kind o ≡ Array
unfolding kind number
array_kind code.TypeArray e = refl
array_kind o e = cc

pub runtime_kind : (o : Op) → is o code.TypeRuntimeArray ≡ true → kind o ≡ Runtime
unfolding kind number
runtime_kind code.TypeRuntimeArray e = refl
runtime_kind o e = cc

pub struct_kind : (o : Op) → is o code.TypeStruct ≡ true → kind o ≡ Struct
unfolding kind number
struct_kind code.TypeStruct e = refl
struct_kind o e = cc

-- and by the kind
pub array_op : (o : Op) → kind o ≡ Array → is o code.TypeArray ≡ true
unfolding kind number
array_op code.TypeArray e = refl
array_op o e = cc

pub struct_op : (o : Op) → kind o ≡ Struct → is o code.TypeStruct ≡ true
unfolding kind number
struct_op code.TypeStruct e = refl
struct_op o e = cc

-- the length of an array is the word of an OpConstant
pub fixed_same : (w n : ℕ) → Fixed w ≡ Fixed n → w ≡ n
fixed_same w n e = cc

pub constant_length : (o : Op) (id w n : ℕ) → length_of o id w ≡ Some (Fixed n) → (is o code.Constant ≡ true) × (w ≡ n)
unfolding number
constant_length code.Constant id w n e = (refl, let same : Fixed w ≡ Fixed n = same_Some (Fixed w) (Fixed n) e in fixed_same w n same)
constant_length code.SpecConstantTrue id w n e = cc
constant_length code.SpecConstantFalse id w n e = cc
constant_length code.SpecConstant id w n e = cc
constant_length code.SpecConstantComposite id w n e = cc
constant_length code.SpecConstantOp id w n e = cc
constant_length o id w n e = cc

pub fixed_word : (gs : List Inst) (id n : ℕ) → length_by id (global gs id) ≡ Some (Fixed n) → constant_word gs id ≡ Some n
fixed_word gs id n e = by_global (global gs id) e
  where
    by_global : (o : Option Inst) → length_by id o ≡ Some (Fixed n) → option_and_then constant_if o ≡ Some n
    by_global None e = cc
    by_global (Some g) e = let c = constant_length g.op id (slice_index g.args 0) n e in ap (λ b. if b then Some (word g 0) else None) c.0 ∙ ap (λ m. Some m) c.1

-- the shape of a struct's member
pub all_nth : (f : ℕ → Option Tree) (ids : List ℕ) (ts : Trees) (k : ℕ) → all_trees f ids ≡ Some ts → nat_lt k (length ids) ≡ true → (u : Tree) × (f (slice_index ids k) ≡ Some u) × (nth_of ts k ≡ Some u)
all_nth f [] ts k e less = absurd (none k less)
  where
    none : (k : ℕ) → nat_lt k 0 ≡ true → ⊥
    none k e = let low : k < 0 = grind (arith, nat_tests, e) in omega (arith, low)
all_nth f (id ∷ ids) ts k e less = by_parts (f id) refl (all_trees f ids) refl k less e (λ rest m is low. all_nth f ids rest m is low)
  where
    by_parts : (o : Option Tree) → f id ≡ o → (q : Option Trees) → all_trees f ids ≡ q → (k : ℕ) → nat_lt k (suc (length ids)) ≡ true → both o q ≡ Some ts → ((rest : Trees) (m : ℕ) → all_trees f ids ≡ Some rest → nat_lt m (length ids) ≡ true → (u : Tree) × (f (slice_index ids m) ≡ Some u) × (nth_of rest m ≡ Some u))
        → (u : Tree) × (f (slice_index (id ∷ ids) k) ≡ Some u) × (nth_of ts k ≡ Some u)
    by_parts None is q rest k less e later = cc
    by_parts (Some t) is None rest k less e later = cc
    by_parts (Some t) is (Some us) rest zero less e later = (t, is, ap (λ x. nth_of x 0) (sym (same_Some (tree t us) ts e)))
    by_parts (Some t) is (Some us) rest (suc k) less e later = let more = later us k rest (lower k (length ids) less) in (more.0, more.1, ap (λ x. nth_of x (suc k)) (sym (same_Some (tree t us) ts e)) ∙ more.2)
      where
        lower : (k n : ℕ) → nat_lt (suc k) (suc n) ≡ true → nat_lt k n ≡ true
        lower k n e = grind (arith, nat_tests, e)

pub sized_nth : (ts : Trees) (k : ℕ) (u : Tree) → AreSized ts → nth_of ts k ≡ Some u → IsSized u
sized_nth no_trees k u s at = cc
sized_nth (tree t ts) zero u s at = let same : t ≡ u = cc in subst IsSized same s.0
sized_nth (tree t ts) (suc k) u s at = sized_nth ts k u s.1 at

pub sized_elem : (e : Elem) → IsSized (elem_tree e)
sized_elem elem.Bool = tt
sized_elem elem.Int = tt
sized_elem elem.Uint = tt

module _ (s : Setting) (f : Function) where
  abbrev Gs : List Inst
  Gs = s.of.globals

  pub earlier_is : (n c : ℕ) (u : Tree) → tree_before Gs n c ≡ Some u → type_tree Gs c ≡ Some u
  earlier_is = before_row is_int numbers int_has Gs

  -- one literal leads to nothing, or to a part with the shape of the part
  abbrev Leads : Reached → Tree → ℕ → Type 0
  Leads r t k = (r ≡ Nothing) ⊎ ((c : ℕ) × (u : Tree) × (r ≡ Part c) × (type_tree Gs c ≡ Some u) × (part_shape t k ≡ Some u) × IsSized u)

  vector_leads : (g : Inst) (t : Tree) (k : ℕ) → is_vector g ≡ true → tree_at Gs g ≡ Some t → Leads (one_of (word g 1) g k) t k
  vector_leads g t k on shape =
      let parts = vector_parts Gs g t on shape in
      by_less (nat_lt k (word g 1)) refl parts.0 parts.1 (earlier_is g.at (word g 0) parts.0 parts.2) parts.3 parts.4
    where
      by_less : (b : Bool) → nat_lt k (word g 1) ≡ b → (u : Tree) (e : Elem) → type_tree Gs (word g 0) ≡ Some u → elem_of u ≡ Some e → t ≡ vector e (word g 1)
          → ((if b then Part (word g 0) else Nothing) ≡ Nothing) ⊎ ((c : ℕ) × (u : Tree) × ((if b then Part (word g 0) else Nothing) ≡ Part c) × (type_tree Gs c ≡ Some u) × (part_shape t k ≡ Some u) × IsSized u)
      by_less true less u e there is same =
          let one = scalar_elem u e is in
          inr (word g 0, elem_tree e, refl, there ∙ ap (λ x. Some x) one, ap (λ x. part_shape x k) same ∙ ap (λ b. if b then Some (elem_tree e) else None) less, sized_elem e)
      by_less false less u e there is same = inl refl

  array_leads : (g : Inst) (t : Tree) (k : ℕ) → is g.op code.TypeArray ≡ true → tree_at Gs g ≡ Some t → IsSized t → Leads (option_map_or (λ n. one_of n g k) (constant_word Gs (word g 1)) Unknown) t k
  array_leads g t k on shape sized = by_part (tree_before Gs g.at (word g 0)) refl (length_by (word g 1) (global Gs (word g 1))) refl (by_kind Gs (tree_before Gs g.at) g Array t (array_kind g.op on) shape)
    where
      by_less : (u : Tree) (n : ℕ) (b : Bool) → nat_lt k n ≡ b → type_tree Gs (word g 0) ≡ Some u → t ≡ array u (Fixed n) → IsSized u
          → ((if b then Part (word g 0) else Nothing) ≡ Nothing) ⊎ ((c : ℕ) × (u : Tree) × ((if b then Part (word g 0) else Nothing) ≡ Part c) × (type_tree Gs c ≡ Some u) × (part_shape t k ≡ Some u) × IsSized u)
      by_less u n true less there same sized = inr (word g 0, u, refl, there, ap (λ x. part_shape x k) same ∙ ap (λ b. if b then Some u else None) less, sized)
      by_less u n false less there same sized = inl refl

      by_length : (u : Tree) (l : Length) → type_tree Gs (word g 0) ≡ Some u → length_by (word g 1) (global Gs (word g 1)) ≡ Some l → t ≡ array u l
          → (option_map_or (λ n. one_of n g k) (constant_word Gs (word g 1)) Unknown ≡ Nothing) ⊎ ((c : ℕ) × (u : Tree) × (option_map_or (λ n. one_of n g k) (constant_word Gs (word g 1)) Unknown ≡ Part c) × (type_tree Gs c ≡ Some u) × (part_shape t k ≡ Some u) × IsSized u)
      by_length u (Fixed n) there is same =
          subst (λ o. (option_map_or (λ n. one_of n g k) o Unknown ≡ Nothing) ⊎ ((c : ℕ) × (u : Tree) × (option_map_or (λ n. one_of n g k) o Unknown ≡ Part c) × (type_tree Gs c ≡ Some u) × (part_shape t k ≡ Some u) × IsSized u)) (sym (fixed_word Gs (word g 1) n is))
          (by_less u n (nat_lt k n) refl there same (subst IsSized same sized))
      by_length u (Spec id) there is same = absurd (subst IsSized same sized)

      by_part : (o : Option Tree) → tree_before Gs g.at (word g 0) ≡ o → (l : Option Length) → length_by (word g 1) (global Gs (word g 1)) ≡ l → array_tree o l ≡ Some t
          → (option_map_or (λ n. one_of n g k) (constant_word Gs (word g 1)) Unknown ≡ Nothing) ⊎ ((c : ℕ) × (u : Tree) × (option_map_or (λ n. one_of n g k) (constant_word Gs (word g 1)) Unknown ≡ Part c) × (type_tree Gs c ≡ Some u) × (part_shape t k ≡ Some u) × IsSized u)
      by_part None there l is e = cc
      by_part (Some u) there None is e = cc
      by_part (Some u) there (Some l) is e = by_length u l (earlier_is g.at (word g 0) u there) is (sym (same_Some (array u l) t e))

  struct_leads : (g : Inst) (t : Tree) (k : ℕ) → is g.op code.TypeStruct ≡ true → tree_at Gs g ≡ Some t → IsSized t → Leads (nth_member g k) t k
  struct_leads g t k on shape sized = by_members (all_trees (tree_before Gs g.at) g.args) refl (by_kind Gs (tree_before Gs g.at) g Struct t (struct_kind g.op on) shape)
    where
      by_less : (ts : Trees) (b : Bool) → nat_lt k (length g.args) ≡ b → all_trees (tree_before Gs g.at) g.args ≡ Some ts → t ≡ struct g.result ts
          → ((if b then Part (word g k) else Nothing) ≡ Nothing) ⊎ ((c : ℕ) × (u : Tree) × ((if b then Part (word g k) else Nothing) ≡ Part c) × (type_tree Gs c ≡ Some u) × (part_shape t k ≡ Some u) × IsSized u)
      by_less ts true less all same =
          let member = all_nth (tree_before Gs g.at) g.args ts k all less in
          let has : AreSized ts = subst IsSized same sized in
          inr (word g k, member.0, refl, earlier_is g.at (word g k) member.0 member.1, ap (λ x. part_shape x k) same ∙ member.2, sized_nth ts k member.0 has member.2)
      by_less ts false less all same = inl refl

      by_members : (o : Option Trees) → all_trees (tree_before Gs g.at) g.args ≡ o → option_map (struct g.result) o ≡ Some t → (nth_member g k ≡ Nothing) ⊎ ((c : ℕ) × (u : Tree) × (nth_member g k ≡ Part c) × (type_tree Gs c ≡ Some u) × (part_shape t k ≡ Some u) × IsSized u)
      by_members None all e = cc
      by_members (Some ts) all e = by_less ts (nat_lt k (length g.args)) refl all (sym (same_Some (struct g.result ts) t e))

  runtime_not : (g : Inst) (t : Tree) → is_runtime_array g ≡ true → tree_at Gs g ≡ Some t → IsSized t → ⊥
  runtime_not g t on shape sized = by_part (tree_before Gs g.at (word g 0)) (by_kind Gs (tree_before Gs g.at) g Runtime t (runtime_kind g.op on) shape)
    where
      by_part : (o : Option Tree) → option_map runtime o ≡ Some t → ⊥
      by_part None e = cc
      by_part (Some u) e = subst IsSized (sym (same_Some (runtime u) t e)) sized

  step_leads : (ty k : ℕ) (t : Tree) → type_tree Gs ty ≡ Some t → IsSized t → Leads (literal_step Gs ty k) t k
  step_leads ty k t shape sized =
      let g = row s f ty t shape in
      subst (λ o. Leads (option_map_or (λ x. literal_part Gs x k) o Unknown) t k) (sym g.1) (by_opcode g.0 g.2 (is_vector g.0) refl (is g.0.op code.TypeArray) refl (is_runtime_array g.0) refl (is g.0.op code.TypeStruct) refl)
    where
      nothing : Leads Nothing t k
      nothing = inl refl

      by_opcode : (g : Inst) → tree_at Gs g ≡ Some t → (v : Bool) → is_vector g ≡ v → (a : Bool) → is g.op code.TypeArray ≡ a → (r : Bool) → is_runtime_array g ≡ r → (q : Bool) → is g.op code.TypeStruct ≡ q
          → Leads (if v then one_of (word g 1) g k else (if a then option_map_or (λ n. one_of n g k) (constant_word Gs (word g 1)) Unknown else (if r then Part (word g 0) else (if q then nth_member g k else Nothing)))) t k
      by_opcode g shaped true v a an r ar q aq = vector_leads g t k v shaped
      by_opcode g shaped false v true an r ar q aq = array_leads g t k an shaped sized
      by_opcode g shaped false v false an true ar q aq = absurd (runtime_not g t ar shaped sized)
      by_opcode g shaped false v false an false ar true aq = struct_leads g t k aq shaped sized
      by_opcode g shaped false v false an false ar false aq = nothing

  pub nothing_on : (ks : List ℕ) → walk (literal_step Gs) Nothing ks ≡ Nothing
  nothing_on [] = refl
  nothing_on (k ∷ ks) = nothing_on ks

  -- literals lead to nothing, or along the shapes
  pub walk_leads : (ks : List ℕ) (ty : ℕ) (t : Tree) → type_tree Gs ty ≡ Some t → IsSized t → (walk (literal_step Gs) (Part ty) ks ≡ Nothing) ⊎ ((c : ℕ) × (u : Tree) × (walk (literal_step Gs) (Part ty) ks ≡ Part c) × (type_tree Gs c ≡ Some u) × (shape_at t ks ≡ Some u))
  walk_leads [] ty t shape sized = inr (ty, t, refl, shape, refl)
  walk_leads (k ∷ ks) ty t shape sized = by_step (step_leads ty k t shape sized) (λ c u is small. walk_leads ks c u is small)
    where
      by_step : Leads (literal_step Gs ty k) t k → ((c : ℕ) (u : Tree) → type_tree Gs c ≡ Some u → IsSized u → (walk (literal_step Gs) (Part c) ks ≡ Nothing) ⊎ ((d : ℕ) × (w : Tree) × (walk (literal_step Gs) (Part c) ks ≡ Part d) × (type_tree Gs d ≡ Some w) × (shape_at u ks ≡ Some w)))
          → (walk (literal_step Gs) (literal_step Gs ty k) ks ≡ Nothing) ⊎ ((c : ℕ) × (u : Tree) × (walk (literal_step Gs) (literal_step Gs ty k) ks ≡ Part c) × (type_tree Gs c ≡ Some u) × (shape_at t (k ∷ ks) ≡ Some u))
      by_step (inl none) later = inl (ap (λ r. walk (literal_step Gs) r ks) none ∙ nothing_on ks)
      by_step (inr w) later = elim (later w.0 w.1 w.3 w.5) [
        | inl none ↦ inl (ap (λ r. walk (literal_step Gs) r ks) w.2 ∙ none)
        | inr q ↦ inr (q.0, q.1, ap (λ r. walk (literal_step Gs) r ks) w.2 ∙ q.2, q.3, ap (option_and_then (λ x. shape_at x ks)) w.4 ∙ q.4)
      ]

  -- T11: the part has the type of the result
  pub extract_takes : (ty id : ℕ) (ks : List ℕ) (t a : Tree) → is_elsewhere Gs ty (part_of Gs (type_in Gs f id) ks) ≡ false → type_tree Gs ty ≡ Some t → value_shape s f id ≡ Some a → IsSized a → Takes op.CompositeExtract t ks (a ∷ [])
  extract_takes ty id ks t a right shape value sized =
      let own = some_part (type_tree Gs) (type_in Gs f id) a value in
      let there : is_elsewhere Gs ty (walk (literal_step Gs) (Part own.0) ks) ≡ false = ap (λ o. is_elsewhere Gs ty (walk (literal_step Gs) (option_map_or Part o Unknown) ks)) (sym own.1) ∙ right in
      elim (walk_leads ks own.0 a own.2 sized) [
        | inl none ↦ clash (ap (is_elsewhere Gs ty) (sym none) ∙ there)
        | inr w ↦ w.4 ∙ ap (λ x. Some x) (sym (same_types s f ty w.0 t w.1 shape w.3 (ap (is_elsewhere Gs ty) (sym w.2) ∙ there)))
      ]

  -- T11: the object has the type of the part that it takes the place of
  pub insertion_takes : (ty object id : ℕ) (ks : List ℕ) (t o a : Tree) → is_other Gs (type_in Gs f) ty id ≡ false → is_value_elsewhere Gs (type_in Gs f) object (part_of Gs (type_in Gs f id) ks) ≡ false → type_tree Gs ty ≡ Some t → value_shape s f object ≡ Some o → value_shape s f id ≡ Some a → IsSized a
      → Takes op.CompositeInsert t ks (o ∷ a ∷ [])
  insertion_takes ty object id ks t o a same right shape given value sized =
      let whole = same_shape_of s f ty id t a same shape value in
      let own = some_part (type_tree Gs) (type_in Gs f id) a value in
      let there : is_value_elsewhere Gs (type_in Gs f) object (walk (literal_step Gs) (Part own.0) ks) ≡ false = ap (λ q. is_value_elsewhere Gs (type_in Gs f) object (walk (literal_step Gs) (option_map_or Part q Unknown) ks)) (sym own.1) ∙ right in (
        whole,
        subst (λ x. shape_at x ks ≡ Some o) whole (elim (walk_leads ks own.0 a own.2 sized) [
          | inl none ↦ clash (ap (is_value_elsewhere Gs (type_in Gs f) object) (sym none) ∙ there)
          | inr w ↦ w.4 ∙ ap (λ x. Some x) (sym (same_shape_of s f w.0 object w.1 o (ap (is_value_elsewhere Gs (type_in Gs f) object) (sym w.2) ∙ there) w.3 given))
        ]),
      )
