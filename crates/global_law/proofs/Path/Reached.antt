-- Where T6 is not broken, a chain steps into structs by constants, and its type points to what its indexes lead to.
use Rattle.std.proofs.Common.{◌≡◌, ◌||◌, ℕ, Bool, true, false, List, [], ◌∷◌, length, drop, Option, Some, None, refl, sym, ap, ◌∙◌, if◌then◌else◌}
use Rattle.std.specs.Prelude.{nat_lt, is_some, option_and_then}
use Rattle.std.specs.Option.{option_map_or}
use Rattle.std.specs.List.{list_any}
use Rattle.std.proofs.lemmas.Bool.{and_parts}
use Rattle.spv_ops.specs.Opcode.{is, number}
use Rattle.spv_ops.specs.Groups.{is_constant}
use Rattle.spv_ops.specs.declared.Op.{Op}
use Rattle.spv_ops.specs.declared.Op.TheVariants as code
use Rattle.spv_module.specs.Held.{global}
use Rattle.spv_module.specs.declared.inst.Inst.{Inst}
use Rattle.spv_module.specs.declared.inst.Function.{Function}
use Rattle.spv_types.specs.Tree as plain
use Rattle.spv_types.specs.Tree.{Tree, word as word_value}
use Rattle.spv_types.specs.Types.{type_tree}
use Rattle.spv_decor.specs.Rows.{word}
use Rattle.spv_index.specs.Locals.{type_in}
use Rattle.spv_index.specs.Pointers.{pointee, storage_class, pointee_of}
use Rattle.spv_index.specs.Steps.{constant_if, constant_word, is_struct}
use Rattle.profile_rules.specs.declared.needs.Reached.{Reached}
use Rattle.profile_rules.specs.declared.needs.Reached.TheVariants.{Part, Nothing, Unknown}
use Rattle.profile_rules.specs.TypeRows.{is_int, is_type, if_type, type_row, is_pointer, fails, differ, value_fails, is_not}
use Rattle.profile_rules.specs.ValueRules.{walk, nth_member, member_by, chain_part, chain_step, chain_end, is_other_pointer, leads_elsewhere, breaks_t6}
use Rattle.module_semantics.specs.Setting.{Setting}
use Rattle.module_semantics.specs.Memory.{part_by, part_type, type_along, is_allowed, are_allowed}
use Rattle.module_semantics.specs.Steps.{base}
use Rattle.access_paths.specs.Ways.{is_constant_index}
use Rattle.list_law.proofs.Tests.{clash}
use Rattle.type_law.specs.Shaped.{AreConstants}
use Rattle.type_law.proofs.Places.{part_leads}
use Rattle.type_law.proofs.Parts.{row}
use Rattle.type_law.proofs.Vectors.{three_off}
use Rattle.type_law.proofs.Chains.{nothing_left}
use Rattle.type_law.proofs.Choices.{same_rows}
use Rattle.global_law.specs.Walks.{ByConstants}
use Rattle.global_law.specs.Chains.{ConstantsAre}
use Rattle.global_law.proofs.Path.Types.{allowed_is, op_of, declared_as, is_struct_shape, struct_by}

constant_one : (o : Op) → is o code.Constant ≡ true → is_constant o ≡ true
unfolding number
constant_one code.Constant e = refl
constant_one o e = cc

-- an OpConstant is a constant index
pub constant_known : (gs : List Inst) (n k : ℕ) → constant_word gs n ≡ Some k → is_constant_index gs n ≡ true
constant_known gs n k e = by_global (global gs n) e
  where
    by_test : (g : Inst) (b : Bool) → is g.op code.Constant ≡ b → (if b then Some (word g 0) else None) ≡ Some k → is_constant g.op ≡ true
    by_test g true on e = constant_one g.op on
    by_test g false on e = cc

    by_global : (o : Option Inst) → option_and_then constant_if o ≡ Some k → option_map_or (λ (g : Inst). is_constant g.op) o false ≡ true
    by_global None e = cc
    by_global (Some g) e = by_test g (is g.op code.Constant) refl e

-- and its value its word
pub constant_same : (s : Setting) (n k i : ℕ) → AreConstants s → constant_word s.of.globals n ≡ Some k → s.constants n ≡ Some (word_value i) → k ≡ i
constant_same s n k i right told has = let same : word_value i ≡ word_value k = right n k (word_value i) told has in word_same i k same
  where
    word_same : (i k : ℕ) → word_value i ≡ word_value k → k ≡ i
    word_same i k e = cc

module _ (s : Setting) (f : Function) (right : AreConstants s) where
  abbrev Gs : List Inst
  Gs = s.of.globals

  abbrev T : ℕ → Option ℕ
  T = type_in s.of.globals f

  -- what an index of a chain leads to from a type of this shape
  abbrev reached : Tree → Inst → ℕ → Reached
  reached (plain.struct m ts) g id = member_by Gs T g id
  reached (plain.vector e n) g id = Part (word g 0)
  reached (plain.array t l) g id = Part (word g 0)
  reached (plain.runtime t) g id = Part (word g 0)
  reached _ g id = Nothing

  part_op : (t : Tree) (g : Inst) (id : ℕ) → (if is (op_of t) code.TypeStruct then member_by Gs T g id else (if is (op_of t) code.TypeVector || (is (op_of t) code.TypeArray) || is (op_of t) code.TypeRuntimeArray then Part (word g 0) else Nothing)) ≡ reached t g id
  unfolding number
  part_op plain.boolean g id = refl
  part_op plain.int g id = refl
  part_op plain.uint g id = refl
  part_op (plain.vector e n) g id = refl
  part_op (plain.array t l) g id = refl
  part_op (plain.runtime t) g id = refl
  part_op (plain.struct m ts) g id = refl

  step_row : (ty id : ℕ) (t : Tree) → type_tree Gs ty ≡ Some t → (g : Inst) × (chain_step Gs T ty id ≡ reached t g id) × ((n : ℕ) → part_type s ty n ≡ part_by (op_of t) g.args n)
  step_row ty id t shape =
      let d = declared_as s ty t shape in
      let r = row s f ty t shape in
      let there : type_row Gs ty ≡ Some d.0 = by_type d.0 r.0 (sym (ap (option_and_then if_type) d.1) ∙ r.1) (ap (option_and_then if_type) d.1) in (
        d.0,
        ap (λ o. option_map_or (λ g. chain_part Gs T g id) o Unknown) there
            ∙ ap (λ o. if is o code.TypeStruct then member_by Gs T d.0 id else (if is o code.TypeVector || (is o code.TypeArray) || is o code.TypeRuntimeArray then Part (word d.0 0) else Nothing)) d.2
            ∙ part_op t d.0 id,
        λ n. ap (λ (o : Option Inst). option_map_or (λ (g : Inst). part_by g.op g.args n) o 0) d.1 ∙ ap (λ o. part_by o d.0.args n) d.2,
      )
    where
      by_test : (g h : Inst) (b : Bool) → (if b then Some g else None) ≡ Some h → (if b then Some g else None) ≡ Some g
      by_test g h true e = refl
      by_test g h false e = cc

      by_type : (g h : Inst) → if_type g ≡ Some h → type_row Gs ty ≡ if_type g → type_row Gs ty ≡ Some g
      by_type g h e is = is ∙ by_test g h (is_type g) e

  -- one index, which leads somewhere
  one_reach : (ty id n : ℕ) (t : Tree) → type_tree Gs ty ≡ Some t → is_some (T id) ≡ true → (is_constant_index Gs id ≡ true → s.constants id ≡ Some (word_value n)) → (chain_step Gs T ty id ≡ Nothing → ⊥)
      → (chain_step Gs T ty id ≡ Part (part_type s ty n)) × (is_struct Gs ty ≡ true → is_some (constant_word Gs id) ≡ true)
  one_reach ty id n t shape typed constant leads =
      let g = step_row ty id t shape in
      by_shape t shape g.0 g.1 g.2
    where
      Both : Type 0
      Both = (chain_step Gs T ty id ≡ Part (part_type s ty n)) × (is_struct Gs ty ≡ true → is_some (constant_word Gs id) ≡ true)

      no_struct : (t : Tree) → type_tree Gs ty ≡ Some t → is_struct_shape s t ≡ false → is_struct Gs ty ≡ true → is_some (constant_word Gs id) ≡ true
      no_struct t shape off on = let never : true ≡ false = sym on ∙ struct_by s ty t shape ∙ off in cc

      by_less : (g : Inst) (b : Bool) → nat_lt n (length g.args) ≡ b → chain_step Gs T ty id ≡ (if b then Part (word g n) else Nothing) → part_type s ty n ≡ word g n → chain_step Gs T ty id ≡ Part (part_type s ty n)
      by_less g true less is part = is ∙ ap Part (sym part)
      by_less g false less is part = absurd (leads is)

      by_constant : (g : Inst) (o : Option ℕ) → constant_word Gs id ≡ o → chain_step Gs T ty id ≡ option_map_or (nth_member g) o (if is_some (T id) then Nothing else Unknown) → part_type s ty n ≡ word g n → Both
      by_constant g None told is part = absurd (leads (is ∙ ap (λ b. if b then Nothing else Unknown) typed))
      by_constant g (Some k) told is part =
          let same : k ≡ n = constant_same s id k n right told (constant (constant_known Gs id k told)) in
          (by_less g (nat_lt n (length g.args)) refl (is ∙ ap (nth_member g) same) part, λ on. ap is_some told)

      by_shape : (t : Tree) → type_tree Gs ty ≡ Some t → (g : Inst) → chain_step Gs T ty id ≡ reached t g id → ((n : ℕ) → part_type s ty n ≡ part_by (op_of t) g.args n) → Both
      by_shape plain.boolean shape g is part = absurd (leads is)
      by_shape plain.int shape g is part = absurd (leads is)
      by_shape plain.uint shape g is part = absurd (leads is)
      by_shape (plain.vector e m) shape g is part = (is ∙ ap Part (sym (part n)), no_struct (plain.vector e m) shape refl)
      by_shape (plain.array t l) shape g is part = (is ∙ ap Part (sym (part n)), no_struct (plain.array t l) shape refl)
      by_shape (plain.runtime t) shape g is part = (is ∙ ap Part (sym (part n)), no_struct (plain.runtime t) shape refl)
      by_shape (plain.struct m ts) shape g is part = by_constant g (constant_word Gs id) refl is (part n)

  -- each index has a type
  abbrev pub HaveTypes : List ℕ → Type 0
  HaveTypes [] = Unit {0}
  HaveTypes (id ∷ ids) = (is_some (T id) ≡ true) × HaveTypes ids

  along : (ids ns : List ℕ) (ty : ℕ) (t : Tree) → type_tree Gs ty ≡ Some t → are_allowed s ty ns ≡ true → HaveTypes ids → ConstantsAre s ids ns → (walk (chain_step Gs T) (Part ty) ids ≡ Nothing → ⊥)
      → (walk (chain_step Gs T) (Part ty) ids ≡ Part (type_along s ty ns)) × ByConstants s ty ids ns × ((u : Tree) × (type_tree Gs (type_along s ty ns) ≡ Some u))
  along [] [] ty t shape allowed typed are leads = (refl, tt, (t, shape))
  along [] (n ∷ ns) ty t shape allowed typed are leads = absurd are
  along (id ∷ ids) [] ty t shape allowed typed are leads = absurd are
  along (id ∷ ids) (n ∷ ns) ty t shape allowed typed are leads =
      let both = and_parts (is_allowed s ty n) (are_allowed s (part_type s ty n) ns) allowed in
      let q = allowed_is s ty n t right shape both.0 in
      let one = one_reach ty id n t shape typed.0 are.0 (λ none. leads (ap (λ r. walk (chain_step Gs T) r ids) none ∙ nothing_left s f ids)) in
      let here : walk (chain_step Gs T) (chain_step Gs T ty id) ids ≡ walk (chain_step Gs T) (Part (part_type s ty n)) ids = ap (λ r. walk (chain_step Gs T) r ids) one.0 in
      let more = along ids ns (part_type s ty n) q.part (part_leads s ty n t q.part shape q.there) both.1 typed.1 are.1 (λ none. leads (here ∙ none)) in
      (here ∙ more.0, (one.1, more.1), more.2)

  -- T6, and T1 of its indexes
  pub record IsRightChain (i : Inst) : Type 0 where
    pub t6 : breaks_t6 Gs T i ≡ false
    pub typed : HaveTypes (drop 1 i.args)
    pub result : T i.result ≡ Some i.ty
    pub to : ℕ
    pub points_to : pointee Gs i.ty ≡ Some to
    pub shape : Tree
    pub typed_as : type_tree Gs to ≡ Some shape

  pub record Reaches (i : Inst) (ty : ℕ) (ns : List ℕ) : Type 0 where
    pub by_constants : ByConstants s ty (drop 1 i.args) ns
    pub reaches : pointee_of Gs f i.result ≡ Some (type_along s ty ns)

  pub chain_reaches : (i : Inst) (ty : ℕ) (t : Tree) (ns : List ℕ) → IsRightChain i → pointee_of Gs f (base i) ≡ Some ty → type_tree Gs ty ≡ Some t → are_allowed s ty ns ≡ true → ConstantsAre s (drop 1 i.args) ns → Reaches i ty ns
  chain_reaches i ty t ns is points shape allowed are =
      let class : Option ℕ = option_and_then (storage_class Gs) (T (word i 0)) in
      let off = three_off (value_fails is_pointer Gs T (word i 0)) (list_any (value_fails is_int Gs T) (drop 1 i.args)) (leads_elsewhere Gs i.ty class (chain_end Gs T i)) is.t6 in
      let end_is : chain_end Gs T i ≡ walk (chain_step Gs T) (Part ty) (drop 1 i.args) = ap (λ o. walk (chain_step Gs T) (option_map_or Part o Unknown) (drop 1 i.args)) points in
      let there : leads_elsewhere Gs i.ty class (walk (chain_step Gs T) (Part ty) (drop 1 i.args)) ≡ false = ap (leads_elsewhere Gs i.ty class) (sym end_is) ∙ off.2 in
      let all = along (drop 1 i.args) ns ty t shape allowed is.typed are (λ none. clash (ap (leads_elsewhere Gs i.ty class) (sym none) ∙ there)) in
      let pointer : is_other_pointer Gs i.ty class (type_along s ty ns) ≡ false = ap (leads_elsewhere Gs i.ty class) (sym all.0) ∙ there in
      let parts = three_off (fails is_pointer Gs i.ty) (option_map_or (λ c. is_not c (storage_class Gs i.ty)) class false) (option_map_or (differ Gs (type_along s ty ns)) (pointee Gs i.ty) false) pointer in
      let same : type_along s ty ns ≡ is.to = same_rows s f (type_along s ty ns) is.to all.2.0 is.shape all.2.1 is.typed_as (ap (λ o. option_map_or (differ Gs (type_along s ty ns)) o false) (sym is.points_to) ∙ parts.2) in
      record { by_constants = all.1; reaches = ap (option_and_then (pointee Gs)) is.result ∙ is.points_to ∙ ap (λ a. Some a) (sym same) }
