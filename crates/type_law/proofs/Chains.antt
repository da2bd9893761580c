-- Chains lead where the rules on types lead.
use Rattle.std.proofs.Common.{◌≡◌, ◌||◌, ℕ, Bool, true, false, List, [], ◌∷◌, length, drop, Option, Some, None, inl, inr, refl, sym, ap, ◌∙◌, subst, if◌then◌else◌}
use Rattle.std.specs.Prelude.{◌⊎◌, nat_lt, option_map, option_and_then, is_some, unwrap_or}
use Rattle.std.specs.Option.{option_map_or}
use Rattle.spv_ops.specs.Opcode.{is, number}
use Rattle.spv_ops.specs.declared.Op.{Op}
use Rattle.spv_ops.specs.declared.Op.TheVariants as code
use Rattle.spv_module.specs.Held.{global as global_inst}
use Rattle.spv_module.specs.declared.inst.Inst.{Inst}
use Rattle.spv_module.specs.declared.inst.Function.{Function}
use Rattle.spv_module.specs.declared.tree.Length.{Length}
use Rattle.spv_types.specs.declared.kind.TypeKind.TheVariants.{Array, Runtime, Struct}
use Rattle.spv_types.specs.Tree.{Tree, array, runtime, struct, Trees, ValueTree, word as word_value}
use Rattle.spv_types.specs.Types.{length_by, array_tree, all_trees, tree_before, tree_at, type_tree}
use Rattle.spv_decor.specs.Rows.{word}
use Rattle.spv_index.specs.Locals.{type_in}
use Rattle.spv_index.specs.Pointers.{pointee, storage_class}
use Rattle.profile_rules.specs.declared.needs.Reached.{Reached}
use Rattle.profile_rules.specs.declared.needs.Reached.TheVariants.{Part, Nothing, Unknown}
use Rattle.profile_rules.specs.TypeRows.{is_int, is_vector, is_runtime_array, is_pointer, fails, differ, value_fails, is_not, constant_if, constant_word}
use Rattle.profile_rules.specs.ValueRules.{walk, nth_member, member_by, chain_part, chain_step, chain_end, is_other_pointer, leads_elsewhere, breaks_t6}
use Rattle.std.specs.List.{list_any}
use Rattle.std.proofs.lemmas.Option.{same_Some}
use Rattle.module_semantics.specs.Setting.{Setting, as_variable, global_variable}
use Rattle.module_semantics.specs.State.{global, Held, value, pointer, Frame}
use Rattle.module_semantics.specs.Operands.{of_module, as_value, as_word, word_at, words_at}
use Rattle.module_semantics.specs.Steps.{base}
use Rattle.list_law.proofs.Options.{some_part, none_some}
use Rattle.list_law.proofs.Lists.{same_first, same_rest}
use Rattle.list_law.proofs.Tests.{clash}
use Rattle.fits_law.specs.Takes.{nth_of}
use Rattle.fits_law.specs.State.{target_shape, element_shape, place_shape, LeadsTo}
use Rattle.fits_law.specs.Typed.{HasOwn, IsChain}
use Rattle.fits_law.proofs.Operations.{before_some}
use Rattle.type_law.specs.Shaped.{AreConstants}
use Rattle.type_law.proofs.Rows.{by_kind, vector_parts}
use Rattle.type_law.proofs.Choices.{scalar_elem}
use Rattle.type_law.proofs.Vectors.{three_off}
use Rattle.type_law.proofs.Parts.{array_kind, runtime_kind, struct_kind, all_nth, row, earlier_is, same_types}

pub none_longer : (x : ℕ) (xs : List ℕ) → [] ≡ x ∷ xs → ⊥
none_longer x xs e = cc

constant_only : (o : Op) → is o code.Constant ≡ true → is o code.Variable ≡ false
unfolding number
constant_only code.Constant e = refl
constant_only o e = cc

module _ (s : Setting) (f : Function) where
  abbrev Gs : List Inst
  Gs = s.of.globals

  abbrev T : ℕ → Option ℕ
  T = type_in s.of.globals f

  -- one index leads to nothing, or to a part with the shape of the part
  abbrev LeadsBy : Reached → Tree → ℕ → Type 0
  LeadsBy r t n = (r ≡ Nothing) ⊎ ((c : ℕ) × (u : Tree) × (r ≡ Part c) × (type_tree Gs c ≡ Some u) × (element_shape t n ≡ Some u))

  -- an index has a type, and this value where it is a constant
  abbrev IsIndex : ℕ → ℕ → Type 0
  IsIndex id n = (is_some (T id) ≡ true) × ((w : ℕ) → constant_word Gs id ≡ Some w → n ≡ w)

  abbrev AreIndexes : List ℕ → List ℕ → Type 0
  AreIndexes [] [] = Unit {0}
  AreIndexes (id ∷ ids) (n ∷ ns) = IsIndex id n × AreIndexes ids ns
  AreIndexes _ _ = ⊥

  struct_part : (g : Inst) (t : Tree) (id n : ℕ) → is g.op code.TypeStruct ≡ true → tree_at Gs g ≡ Some t → IsIndex id n → LeadsBy (member_by Gs T g id) t n
  struct_part g t id n on shape index = by_members (all_trees (tree_before Gs g.at) g.args) refl (by_kind Gs (tree_before Gs g.at) g Struct t (struct_kind g.op on) shape)
    where
      by_less : (ts : Trees) (w : ℕ) (b : Bool) → n ≡ w → nat_lt w (length g.args) ≡ b → all_trees (tree_before Gs g.at) g.args ≡ Some ts → t ≡ struct g.result ts → LeadsBy (if b then Part (word g w) else Nothing) t n
      by_less ts w true is less all same =
          let member = all_nth (tree_before Gs g.at) g.args ts w all less in
          inr (word g w, member.0, refl, earlier_is s f g.at (word g w) member.0 member.1, ap (λ x. element_shape x n) same ∙ (ap (nth_of ts) is ∙ member.2))
      by_less ts w false is less all same = inl refl

      by_constant : (ts : Trees) (o : Option ℕ) (b : Bool) → constant_word Gs id ≡ o → b ≡ true → all_trees (tree_before Gs g.at) g.args ≡ Some ts → t ≡ struct g.result ts → LeadsBy (option_map_or (nth_member g) o (if b then Nothing else Unknown)) t n
      by_constant ts (Some w) b is some all same = by_less ts w (nat_lt w (length g.args)) (index.1 w is) refl all same
      by_constant ts None true is some all same = inl refl
      by_constant ts None false is some all same = cc

      by_members : (o : Option Trees) → all_trees (tree_before Gs g.at) g.args ≡ o → option_map (struct g.result) o ≡ Some t → LeadsBy (member_by Gs T g id) t n
      by_members None all e = cc
      by_members (Some ts) all e = by_constant ts (constant_word Gs id) (is_some (T id)) refl index.0 all (sym (same_Some (struct g.result ts) t e))

  array_part : (g : Inst) (t : Tree) (n : ℕ) → is g.op code.TypeArray ≡ true → tree_at Gs g ≡ Some t → LeadsBy (Part (word g 0)) t n
  array_part g t n on shape = by_part (tree_before Gs g.at (word g 0)) refl (length_by (word g 1) (global_inst Gs (word g 1))) (by_kind Gs (tree_before Gs g.at) g Array t (array_kind g.op on) shape)
    where
      by_part : (o : Option Tree) → tree_before Gs g.at (word g 0) ≡ o → (l : Option Length) → array_tree o l ≡ Some t → LeadsBy (Part (word g 0)) t n
      by_part None there l e = cc
      by_part (Some u) there None e = cc
      by_part (Some u) there (Some l) e = inr (word g 0, u, refl, earlier_is s f g.at (word g 0) u there, ap (λ x. element_shape x n) (sym (same_Some (array u l) t e)))

  runtime_part : (g : Inst) (t : Tree) (n : ℕ) → is_runtime_array g ≡ true → tree_at Gs g ≡ Some t → LeadsBy (Part (word g 0)) t n
  runtime_part g t n on shape = by_part (tree_before Gs g.at (word g 0)) refl (by_kind Gs (tree_before Gs g.at) g Runtime t (runtime_kind g.op on) shape)
    where
      by_part : (o : Option Tree) → tree_before Gs g.at (word g 0) ≡ o → option_map runtime o ≡ Some t → LeadsBy (Part (word g 0)) t n
      by_part None there e = cc
      by_part (Some u) there e = inr (word g 0, u, refl, earlier_is s f g.at (word g 0) u there, ap (λ x. element_shape x n) (sym (same_Some (runtime u) t e)))

  vector_part : (g : Inst) (t : Tree) (n : ℕ) → is_vector g ≡ true → tree_at Gs g ≡ Some t → LeadsBy (Part (word g 0)) t n
  vector_part g t n on shape =
      let parts = vector_parts Gs g t on shape in
      inr (word g 0, parts.0, refl, earlier_is s f g.at (word g 0) parts.0 parts.2, ap (λ x. element_shape x n) parts.4 ∙ ap (λ x. Some x) (sym (scalar_elem parts.0 parts.1 parts.3)))

  step_leads_by : (ty id n : ℕ) (t : Tree) → type_tree Gs ty ≡ Some t → IsIndex id n → LeadsBy (chain_step Gs T ty id) t n
  step_leads_by ty id n t shape index =
      let g = row s f ty t shape in
      subst (λ o. LeadsBy (option_map_or (λ x. chain_part Gs T x id) o Unknown) t n) (sym g.1) (by_opcode g.0 g.2 (is g.0.op code.TypeStruct) refl (is_vector g.0) refl (is g.0.op code.TypeArray) refl (is_runtime_array g.0) refl)
    where
      by_opcode : (g : Inst) → tree_at Gs g ≡ Some t → (q : Bool) → is g.op code.TypeStruct ≡ q → (v : Bool) → is_vector g ≡ v → (a : Bool) → is g.op code.TypeArray ≡ a → (r : Bool) → is_runtime_array g ≡ r
          → LeadsBy (if q then member_by Gs T g id else (if v || a || r then Part (word g 0) else Nothing)) t n
      by_opcode g whole true on v vn a an r rn = struct_part g t id n on whole index
      by_opcode g whole false on true vn a an r rn = vector_part g t n vn whole
      by_opcode g whole false on false vn true an r rn = array_part g t n an whole
      by_opcode g whole false on false vn false an true rn = runtime_part g t n rn whole
      by_opcode g whole false on false vn false an false rn = inl refl

  pub nothing_left : (ids : List ℕ) → walk (chain_step Gs T) Nothing ids ≡ Nothing
  nothing_left [] = refl
  nothing_left (id ∷ ids) = nothing_left ids

  chain_leads : (ids ns : List ℕ) (ty : ℕ) (t : Tree) → type_tree Gs ty ≡ Some t → AreIndexes ids ns → (walk (chain_step Gs T) (Part ty) ids ≡ Nothing) ⊎ ((c : ℕ) × (u : Tree) × (walk (chain_step Gs T) (Part ty) ids ≡ Part c) × (type_tree Gs c ≡ Some u) × (place_shape t ns ≡ Some u))
  chain_leads [] [] ty t shape are = inr (ty, t, refl, shape, refl)
  chain_leads [] (n ∷ ns) ty t shape are = absurd are
  chain_leads (id ∷ ids) [] ty t shape are = absurd are
  chain_leads (id ∷ ids) (n ∷ ns) ty t shape are = by_step (step_leads_by ty id n t shape are.0) (λ c u is. chain_leads ids ns c u is are.1)
    where
      by_step : LeadsBy (chain_step Gs T ty id) t n → ((c : ℕ) (u : Tree) → type_tree Gs c ≡ Some u → (walk (chain_step Gs T) (Part c) ids ≡ Nothing) ⊎ ((d : ℕ) × (w : Tree) × (walk (chain_step Gs T) (Part c) ids ≡ Part d) × (type_tree Gs d ≡ Some w) × (place_shape u ns ≡ Some w)))
          → (walk (chain_step Gs T) (chain_step Gs T ty id) ids ≡ Nothing) ⊎ ((c : ℕ) × (u : Tree) × (walk (chain_step Gs T) (chain_step Gs T ty id) ids ≡ Part c) × (type_tree Gs c ≡ Some u) × (place_shape t (n ∷ ns) ≡ Some u))
      by_step (inl none) later = inl (ap (λ r. walk (chain_step Gs T) r ids) none ∙ nothing_left ids)
      by_step (inr w) later = elim (later w.0 w.1 w.3) [
        | inl none ↦ inl (ap (λ r. walk (chain_step Gs T) r ids) w.2 ∙ none)
        | inr q ↦ inr (q.0, q.1, ap (λ r. walk (chain_step Gs T) r ids) w.2 ∙ q.2, q.3, ap (option_and_then (λ x. place_shape x ns)) w.4 ∙ q.4)
      ]

  -- what a constant has in a frame that has its own ids alone
  constant_there : (c : Frame) (id w n : ℕ) → AreConstants s → HasOwn s c → constant_word Gs id ≡ Some w → word_at s c id ≡ Some n → n ≡ w
  constant_there c id w n right own told at = by_global (global_inst Gs id) refl
    where
      of_word : (v : ValueTree) → v ≡ word_value w → as_word (Some v) ≡ Some n → n ≡ w
      of_word v same e = sym (same_Some w n (ap (λ x. as_word (Some x)) (sym same) ∙ e))

      by_value : (o : Option ValueTree) → s.constants id ≡ o → as_word (as_value (option_map value o)) ≡ Some n → n ≡ w
      by_value None is_value e = cc
      by_value (Some v) is_value e = of_word v (right id w v told is_value) e

      by_own : (g : Inst) → global_inst Gs id ≡ Some g → is g.op code.Constant ≡ true → (o : Option Held) → c.ids id ≡ o → as_word (as_value (elim o [ Some h ↦ Some h | None ↦ of_module s id ])) ≡ Some n → n ≡ w
      by_own g there on (Some h) has e = none_some (sym (own id h has) ∙ there)
      by_own g there on None has e =
          let none : global_variable s id ≡ None = ap (λ (o : Option Inst). elim o [ None ↦ None | Some x ↦ as_variable x ]) there ∙ ap (λ (b : Bool). elim b [ true ↦ Some g | false ↦ None ]) (constant_only g.op on) in
          by_value (s.constants id) refl (ap (λ (o : Option Inst). as_word (as_value (elim o [ Some v ↦ Some (pointer (global id) []) | None ↦ option_map value (s.constants id) ]))) (sym none) ∙ e)

      by_test : (g : Inst) → global_inst Gs id ≡ Some g → (b : Bool) → is g.op code.Constant ≡ b → (if b then Some (word g 0) else None) ≡ Some w → n ≡ w
      by_test g there true on e = by_own g there on (c.ids id) refl at
      by_test g there false on e = cc

      by_global : (o : Option Inst) → global_inst Gs id ≡ o → n ≡ w
      by_global None there = none_some (ap (option_and_then constant_if) (sym there) ∙ told)
      by_global (Some g) there = by_test g there (is g.op code.Constant) refl (ap (option_and_then constant_if) (sym there) ∙ told)

  -- each index of a chain has a type
  abbrev pub HaveTypes : List ℕ → Type 0
  HaveTypes [] = Unit {0}
  HaveTypes (id ∷ ids) = (is_some (T id) ≡ true) × HaveTypes ids

  indexes_are : (c : Frame) (ids ns : List ℕ) → AreConstants s → HasOwn s c → HaveTypes ids → words_at s c ids ≡ Some ns → AreIndexes ids ns
  indexes_are c [] [] right own have e = tt
  indexes_are c [] (n ∷ ns) right own have e = cc
  indexes_are c (id ∷ ids) [] right own have e = let b = before_some (word_at s c id) (words_at s c ids) [] e in absurd (none_longer b.0 b.1 b.4)
  indexes_are c (id ∷ ids) (n ∷ ns) right own have e =
      let b = before_some (word_at s c id) (words_at s c ids) (n ∷ ns) e in
      ((have.0, λ w is. constant_there c id w n right own is (b.2 ∙ ap (λ x. Some x) (sym (same_first n b.0 ns b.1 b.4)))), indexes_are c ids ns right own have.1 (b.3 ∙ ap (λ x. Some x) (sym (same_rest n b.0 ns b.1 b.4))))

  -- T6: a chain leads to what its type says, where pointers lead to shapes
  pub chain_typed : (i : Inst) (t : Tree) → breaks_t6 Gs T i ≡ false → AreConstants s → HaveTypes (drop 1 i.args) → target_shape s f (base i) ≡ Some t → T i.result ≡ Some i.ty → (fails is_pointer Gs i.ty ≡ false → (q : ℕ) × (u : Tree) × (pointee Gs i.ty ≡ Some q) × (type_tree Gs q ≡ Some u)) → IsChain s f i
  chain_typed i t right known have from typed to c indexes ty is own words there allowed =
      let start = some_part (type_tree Gs) (option_and_then (pointee Gs) (T (base i))) t from in
      let off = three_off (value_fails is_pointer Gs T (word i 0)) (list_any (value_fails is_int Gs T) (drop 1 i.args)) (leads_elsewhere Gs i.ty (option_and_then (storage_class Gs) (T (word i 0))) (chain_end Gs T i)) right in
      let reached : leads_elsewhere Gs i.ty (option_and_then (storage_class Gs) (T (word i 0))) (walk (chain_step Gs T) (Part start.0) (drop 1 i.args)) ≡ false
      = ap (λ o. leads_elsewhere Gs i.ty (option_and_then (storage_class Gs) (T (word i 0))) (walk (chain_step Gs T) (option_map_or Part o Unknown) (drop 1 i.args))) (sym start.1) ∙ off.2 in
      leads_from (target_shape s f (base i)) t from (by_walk start.0 (walk (chain_step Gs T) (Part start.0) (drop 1 i.args)) refl reached (chain_leads (drop 1 i.args) indexes start.0 t start.2 (indexes_are c (drop 1 i.args) indexes known own have words)))
    where
      leads_from : (o : Option Tree) (t : Tree) → o ≡ Some t → place_shape t indexes ≡ target_shape s f i.result → LeadsTo o indexes (target_shape s f i.result)
      leads_from None t e h = cc
      leads_from (Some x) t e h = ap (λ y. place_shape y indexes) (same_Some x t e) ∙ h

      by_walk : (p : ℕ) (r : Reached) → walk (chain_step Gs T) (Part p) (drop 1 i.args) ≡ r → leads_elsewhere Gs i.ty (option_and_then (storage_class Gs) (T (word i 0))) r ≡ false
          → (walk (chain_step Gs T) (Part p) (drop 1 i.args) ≡ Nothing) ⊎ ((c : ℕ) × (w : Tree) × (walk (chain_step Gs T) (Part p) (drop 1 i.args) ≡ Part c) × (type_tree Gs c ≡ Some w) × (place_shape t indexes ≡ Some w)) → place_shape t indexes ≡ target_shape s f i.result
      by_walk p r is right (inl none) = clash (ap (leads_elsewhere Gs i.ty (option_and_then (storage_class Gs) (T (word i 0)))) (sym (sym is ∙ none)) ∙ right)
      by_walk p r is right (inr w) =
          let part : is_other_pointer Gs i.ty (option_and_then (storage_class Gs) (T (word i 0))) w.0 ≡ false = ap (leads_elsewhere Gs i.ty (option_and_then (storage_class Gs) (T (word i 0)))) (sym (sym is ∙ w.2)) ∙ right in
          let off = three_off (fails is_pointer Gs i.ty) (option_map_or (λ c. is_not c (storage_class Gs i.ty)) (option_and_then (storage_class Gs) (T (word i 0))) false) (option_map_or (differ Gs w.0) (pointee Gs i.ty) false) part in
          let q = to off.0 in
          let target : target_shape s f i.result ≡ Some q.1 = ap (λ o. option_and_then (type_tree Gs) (option_and_then (pointee Gs) o)) typed ∙ (ap (option_and_then (type_tree Gs)) q.2 ∙ q.3) in
          w.4 ∙ ap (λ x. Some x) (same_types s f w.0 q.0 w.1 q.1 w.3 q.3 (ap (λ o. option_map_or (differ Gs w.0) o false) (sym q.2) ∙ off.2)) ∙ sym target

  -- T6: and its result type is a pointer
  some_indexes : (ids : List ℕ) → HaveTypes ids → (ns : List ℕ) × AreIndexes ids ns
  some_indexes [] have = ([], tt)
  some_indexes (id ∷ ids) have =
      let rest = some_indexes ids have.1 in
      (unwrap_or (constant_word Gs id) 0 ∷ rest.0, ((have.0, λ w e. ap (λ o. unwrap_or o 0) e), rest.1))

  pub chain_pointer : (i : Inst) (t : Tree) → breaks_t6 Gs T i ≡ false → HaveTypes (drop 1 i.args) → target_shape s f (base i) ≡ Some t → fails is_pointer Gs i.ty ≡ false
  chain_pointer i t right have from =
      let start = some_part (type_tree Gs) (option_and_then (pointee Gs) (T (base i))) t from in
      let off = three_off (value_fails is_pointer Gs T (word i 0)) (list_any (value_fails is_int Gs T) (drop 1 i.args)) (leads_elsewhere Gs i.ty (option_and_then (storage_class Gs) (T (word i 0))) (chain_end Gs T i)) right in
      let reached : leads_elsewhere Gs i.ty (option_and_then (storage_class Gs) (T (word i 0))) (walk (chain_step Gs T) (Part start.0) (drop 1 i.args)) ≡ false
      = ap (λ o. leads_elsewhere Gs i.ty (option_and_then (storage_class Gs) (T (word i 0))) (walk (chain_step Gs T) (option_map_or Part o Unknown) (drop 1 i.args))) (sym start.1) ∙ off.2 in
      let indexes = some_indexes (drop 1 i.args) have in
      by_walk (walk (chain_step Gs T) (Part start.0) (drop 1 i.args)) reached (elim (chain_leads (drop 1 i.args) indexes.0 start.0 t start.2 indexes.1) [ inl none ↦ inl none | inr w ↦ inr (w.0, w.2) ])
    where
      by_walk : (r : Reached) → leads_elsewhere Gs i.ty (option_and_then (storage_class Gs) (T (word i 0))) r ≡ false → (r ≡ Nothing) ⊎ ((c : ℕ) × (r ≡ Part c)) → fails is_pointer Gs i.ty ≡ false
      by_walk r right (inl none) = clash (ap (leads_elsewhere Gs i.ty (option_and_then (storage_class Gs) (T (word i 0)))) (sym none) ∙ right)
      by_walk r right (inr w) =
          let part : is_other_pointer Gs i.ty (option_and_then (storage_class Gs) (T (word i 0))) w.0 ≡ false = ap (leads_elsewhere Gs i.ty (option_and_then (storage_class Gs) (T (word i 0)))) (sym w.1) ∙ right in
          (three_off (fails is_pointer Gs i.ty) (option_map_or (λ c. is_not c (storage_class Gs i.ty)) (option_and_then (storage_class Gs) (T (word i 0))) false) (option_map_or (differ Gs w.0) (pointee Gs i.ty) false) part).0
