-- In a conforming module chains lead from types with more parts to those with fewer, so paths are short.
use Rattle.std.proofs.Common.{◌≡◌, ◌<◌, ◌≤◌, ◌+◌, ◌||◌, ℕ, zero, suc, Bool, true, false, List, [], ◌∷◌, drop, length, nat_lt, Option, Some, None, refl, sym, ap, ◌∙◌, subst, arith, if◌then◌else◌, unwrap_or}
use Rattle.std.specs.Prelude.{Contains, is_some, not, option_and_then, option_map, slice_index}
use Rattle.std.specs.List.{list_any}
use Rattle.std.specs.Option.{option_map_or}
use Rattle.std.proofs.lemmas.Bool.{not-false}
use Rattle.std.proofs.lemmas.Option.{same_Some}
use Rattle.spv_ops.specs.Opcode.{is as is_op}
use Rattle.spv_ops.specs.Groups.{is_chain}
use Rattle.spv_ops.specs.OpGroups.{group_of, takes_of}
use Rattle.spv_ops.specs.Shape.{shape, count_of}
use Rattle.spv_ops.specs.declared.Op.{Op}
use Rattle.spv_ops.specs.declared.Op.TheVariants as code
use Rattle.spv_module.specs.Inst.{has_type, has_result}
use Rattle.spv_module.specs.Held.{global}
use Rattle.spv_module.specs.declared.inst.Inst.{Inst}
use Rattle.spv_module.specs.declared.inst.Function.{Function}
use Rattle.spv_module.specs.declared.tree.Elem.{Elem}
use Rattle.spv_module.specs.declared.tree.Length.{Length}
use Rattle.spv_types.specs.declared.kind.TypeKind.TheVariants.{Array, Runtime, Struct}
use Rattle.spv_types.specs.Tree.{Tree, boolean, int, uint, vector, array, runtime, struct, Trees, no_trees, tree}
use Rattle.spv_types.specs.Types.{elem_of, length_by, array_tree, all_trees, tree_before, tree_at, type_tree}
use Rattle.spv_types.specs.Limits.{AreWithin}
use Rattle.spv_decor.specs.Rows.{word}
use Rattle.spv_index.specs.Locals.{insts_of, type_in}
use Rattle.spv_index.specs.Pointers.{pointee, storage_class}
use Rattle.profile_rules.specs.declared.needs.Need.TheVariants.{Value}
use Rattle.profile_rules.specs.declared.needs.Reached.{Reached}
use Rattle.profile_rules.specs.declared.needs.Reached.TheVariants.{Part, Nothing, Unknown}
use Rattle.profile_rules.specs.Operands.{need, suits, type_need, is_there_in}
use Rattle.profile_rules.specs.TypeRows.{is_int, is_vector, is_runtime_array, is_pointer, fails, differ, value_fails, is_not, constant_word}
use Rattle.profile_rules.specs.ValueRules.{walk, nth_member, member_by, chain_part, chain_step, chain_end, is_other_pointer, leads_elsewhere, breaks_t6}
use Rattle.profile_rules.specs.TypeRules.{is_value_broken}
use Rattle.access_paths.specs.Ways.{base, indexes, path}
use Rattle.module_semantics.specs.Setting.{Setting}
use Rattle.list_law.proofs.Tests.{clash}
use Rattle.plan_law.specs.InOrder.{IsAmong}
use Rattle.fits_law.specs.Takes.{nth_of}
use Rattle.type_law.proofs.Rows.{by_kind, vector_parts}
use Rattle.type_law.proofs.Parts.{array_kind, runtime_kind, struct_kind, all_nth, row, earlier_is, same_types}
use Rattle.type_law.proofs.Vectors.{three_off}
use Rattle.typed_law.specs.Conforms.{IsFormed, IsConforming}
use Rattle.typed_law.proofs.Rules.{operand_there, value_right}
use Rattle.typed_law.proofs.Types.{row_is, pointee_shaped}
use Rattle.typed_law.proofs.Values.{HasType, inside, typed_value, own_type, local_row, type_suits}
use Rattle.typed_law.proofs.Others.{target_of, typed_some}
use Rattle.vec_lowering.specs.Depth.{depth, deepest}
use Rattle.grammar_law.specs.Shallow.{AreDescending}
use Rattle.grammar_law.proofs.Unit.Chains.{nothing_left}
use Rattle.grammar_law.proofs.Unit.Sets.{chain_group, chain_id, chain_typed}
use Rattle.grammar_law.proofs.Height.Shapes.{shapes-le}
use Rattle.grammar_law.proofs.Height.Paths.{path-le}

same_part : (c d : ℕ) → Part c ≡ Part d → c ≡ d
same_part c d e = cc

-- how many steps lead into a shape at most
abbrev pub room : Tree → ℕ
room boolean = 0
room int = 0
room uint = 0
room (vector e n) = 1
room (array t l) = depth (array t l)
room (runtime t) = depth (runtime t)
room (struct id ts) = depth (struct id ts)

pub room-depth : (t : Tree) → room t ≤ depth t
room-depth boolean = omega arith
room-depth int = omega arith
room-depth uint = omega arith
room-depth (vector e n) = omega arith
room-depth (array t l) = omega arith
room-depth (runtime t) = omega arith
room-depth (struct id ts) = omega arith

scalar-room : (u : Tree) (e : Elem) → elem_of u ≡ Some e → room u ≤ 0
scalar-room boolean e is = omega arith
scalar-room int e is = omega arith
scalar-room uint e is = omega arith
scalar-room (vector d n) e is = cc
scalar-room (array t l) e is = cc
scalar-room (runtime t) e is = cc
scalar-room (struct n ts) e is = cc

pub nth-depth : (ts : Trees) (k : ℕ) (u : Tree) → nth_of ts k ≡ Some u → depth u ≤ deepest ts
nth-depth no_trees k u e = cc
nth-depth (tree t ts) zero u e = subst (λ x. depth x ≤ deepest (tree t ts)) (same_Some t u e) (omega arith)
nth-depth (tree t ts) (suc k) u e = let rest = nth-depth ts k u e in omega (arith, rest)

-- chains, by their opcodes
pub chain_need : (o : Op) (k : ℕ) → is_chain o ≡ true → need o k ≡ Value
unfolding need takes_of group_of
chain_need code.AccessChain k on = refl
chain_need code.InBoundsAccessChain k on = refl
chain_need o k on = cc

chain_least : (o : Op) (n : ℕ) → is_chain o ≡ true → (shape o).least ≤ 1 + count_of (has_type o) + count_of (has_result o) + n → 0 < n
unfolding shape
chain_least code.AccessChain n on least = omega (arith, least)
chain_least code.InBoundsAccessChain n on least = omega (arith, least)
chain_least o n on least = cc

module _ (s : Setting) (f : Function) where
  abbrev Gs : List Inst
  Gs = s.of.globals

  abbrev V : ℕ → Option ℕ
  V = type_in s.of.globals f

  -- one index leads to a part with less room
  abbrev StepsDown : Reached → Tree → Type 0
  StepsDown r t = (c : ℕ) → r ≡ Part c → (u : Tree) × (type_tree Gs c ≡ Some u) × (suc (room u) ≤ room t)

  member-down : (g : Inst) (t : Tree) (id : ℕ) → is_op g.op code.TypeStruct ≡ true → tree_at Gs g ≡ Some t → StepsDown (member_by Gs V g id) t
  member-down g t id on whole c e = by_members (all_trees (tree_before Gs g.at) g.args) refl (by_kind Gs (tree_before Gs g.at) g Struct t (struct_kind g.op on) whole)
    where
      by_less : (ts : Trees) (w : ℕ) (b : Bool) → nat_lt w (length g.args) ≡ b → all_trees (tree_before Gs g.at) g.args ≡ Some ts → struct g.result ts ≡ t → (if b then Part (word g w) else Nothing) ≡ Part c → (u : Tree) × (type_tree Gs c ≡ Some u) × (suc (room u) ≤ room t)
      by_less ts w true less all same e =
          let member = all_nth (tree_before Gs g.at) g.args ts w all less in
          let low = nth-depth ts w member.0 member.2 in
          let own = room-depth member.0 in
          (member.0, earlier_is s f g.at c member.0 (ap (tree_before Gs g.at) (sym (same_part (word g w) c e)) ∙ member.1), subst (λ x. suc (room member.0) ≤ room x) same (omega (arith, low, own)))
      by_less ts w false less all same e = cc

      by_constant : (ts : Trees) (q : Option ℕ) (b : Bool) → all_trees (tree_before Gs g.at) g.args ≡ Some ts → struct g.result ts ≡ t → option_map_or (nth_member g) q (if b then Nothing else Unknown) ≡ Part c → (u : Tree) × (type_tree Gs c ≡ Some u) × (suc (room u) ≤ room t)
      by_constant ts (Some w) b all same e = by_less ts w (nat_lt w (length g.args)) refl all same e
      by_constant ts None true all same e = cc
      by_constant ts None false all same e = cc

      by_members : (q : Option Trees) → all_trees (tree_before Gs g.at) g.args ≡ q → option_map (struct g.result) q ≡ Some t → (u : Tree) × (type_tree Gs c ≡ Some u) × (suc (room u) ≤ room t)
      by_members None all h = cc
      by_members (Some ts) all h = by_constant ts (constant_word Gs id) (is_some (V id)) all (same_Some (struct g.result ts) t h) e

  array-down : (g : Inst) (t : Tree) → is_op g.op code.TypeArray ≡ true → tree_at Gs g ≡ Some t → StepsDown (Part (word g 0)) t
  array-down g t on whole c e = by_part (tree_before Gs g.at (word g 0)) refl (length_by (word g 1) (global Gs (word g 1))) (by_kind Gs (tree_before Gs g.at) g Array t (array_kind g.op on) whole)
    where
      by_part : (q : Option Tree) → tree_before Gs g.at (word g 0) ≡ q → (l : Option Length) → array_tree q l ≡ Some t → (u : Tree) × (type_tree Gs c ≡ Some u) × (suc (room u) ≤ room t)
      by_part None there l h = cc
      by_part (Some u) there None h = cc
      by_part (Some u) there (Some l) h =
          let own = room-depth u in
          (u, earlier_is s f g.at c u (ap (tree_before Gs g.at) (sym (same_part (word g 0) c e)) ∙ there), subst (λ x. suc (room u) ≤ room x) (same_Some (array u l) t h) (omega (arith, own)))

  runtime-down : (g : Inst) (t : Tree) → is_runtime_array g ≡ true → tree_at Gs g ≡ Some t → StepsDown (Part (word g 0)) t
  runtime-down g t on whole c e = by_part (tree_before Gs g.at (word g 0)) refl (by_kind Gs (tree_before Gs g.at) g Runtime t (runtime_kind g.op on) whole)
    where
      by_part : (q : Option Tree) → tree_before Gs g.at (word g 0) ≡ q → option_map runtime q ≡ Some t → (u : Tree) × (type_tree Gs c ≡ Some u) × (suc (room u) ≤ room t)
      by_part None there h = cc
      by_part (Some u) there h =
          let own = room-depth u in
          (u, earlier_is s f g.at c u (ap (tree_before Gs g.at) (sym (same_part (word g 0) c e)) ∙ there), subst (λ x. suc (room u) ≤ room x) (same_Some (runtime u) t h) (omega (arith, own)))

  vector-down : (g : Inst) (t : Tree) → is_vector g ≡ true → tree_at Gs g ≡ Some t → StepsDown (Part (word g 0)) t
  vector-down g t on whole c e =
      let parts = vector_parts Gs g t on whole in
      let none = scalar-room parts.0 parts.1 parts.3 in
      (parts.0, earlier_is s f g.at c parts.0 (ap (tree_before Gs g.at) (sym (same_part (word g 0) c e)) ∙ parts.2), subst (λ x. suc (room parts.0) ≤ room x) (sym parts.4) (omega (arith, none)))

  step-down : (ty id : ℕ) (t : Tree) → type_tree Gs ty ≡ Some t → StepsDown (chain_step Gs V ty id) t
  step-down ty id t whole =
      let g = row s f ty t whole in
      subst (λ q. StepsDown (option_map_or (λ x. chain_part Gs V x id) q Unknown) t) (sym g.1) (by_opcode g.0 g.2 (is_op g.0.op code.TypeStruct) refl (is_vector g.0) refl (is_op g.0.op code.TypeArray) refl (is_runtime_array g.0) refl)
    where
      by_opcode : (g : Inst) → tree_at Gs g ≡ Some t → (q : Bool) → is_op g.op code.TypeStruct ≡ q → (v : Bool) → is_vector g ≡ v → (a : Bool) → is_op g.op code.TypeArray ≡ a → (r : Bool) → is_runtime_array g ≡ r
          → StepsDown (if q then member_by Gs V g id else (if v || a || r then Part (word g 0) else Nothing)) t
      by_opcode g at true on v vn a an r rn = member-down g t id on at
      by_opcode g at false on true vn a an r rn = vector-down g t vn at
      by_opcode g at false on false vn true an r rn = array-down g t an at
      by_opcode g at false on false vn false an true rn = runtime-down g t rn at
      by_opcode g at false on false vn false an false rn = λ c e. absurd (never c e)
        where
          never : (c : ℕ) → Nothing ≡ Part c → ⊥
          never c e = cc

  -- where an index has a type, it is known to where it leads
  member-known : (g : Inst) (id : ℕ) → is_some (V id) ≡ true → member_by Gs V g id ≡ Unknown → ⊥
  member-known g id typed e = by_constant (constant_word Gs id) (is_some (V id)) typed e
    where
      by_less : (w : ℕ) (b : Bool) → (if b then Part (word g w) else Nothing) ≡ Unknown → ⊥
      by_less w true e = cc
      by_less w false e = cc

      by_constant : (q : Option ℕ) (b : Bool) → b ≡ true → option_map_or (nth_member g) q (if b then Nothing else Unknown) ≡ Unknown → ⊥
      by_constant (Some w) b on e = by_less w (nat_lt w (length g.args)) e
      by_constant None true on e = cc
      by_constant None false on e = cc

  step-known : (ty id : ℕ) (t : Tree) → type_tree Gs ty ≡ Some t → is_some (V id) ≡ true → chain_step Gs V ty id ≡ Unknown → ⊥
  step-known ty id t whole typed e =
      let g = row s f ty t whole in
      by_opcode g.0 (is_op g.0.op code.TypeStruct) (is_vector g.0 || (is_op g.0.op code.TypeArray) || is_runtime_array g.0) (ap (λ q. option_map_or (λ x. chain_part Gs V x id) q Unknown) (sym g.1) ∙ e)
    where
      by_opcode : (g : Inst) (q v : Bool) → (if q then member_by Gs V g id else (if v then Part (word g 0) else Nothing)) ≡ Unknown → ⊥
      by_opcode g true v e = member-known g id typed e
      by_opcode g false true e = cc
      by_opcode g false false e = cc

  -- all indexes
  unknown-on : (ids : List ℕ) → walk (chain_step Gs V) Unknown ids ≡ Unknown
  unknown-on [] = refl
  unknown-on (id ∷ ids) = unknown-on ids

  walk-down : (ids : List ℕ) (ty : ℕ) (t : Tree) (c : ℕ) → type_tree Gs ty ≡ Some t → walk (chain_step Gs V) (Part ty) ids ≡ Part c → (u : Tree) × (type_tree Gs c ≡ Some u) × (room u + length ids ≤ room t)
  walk-down [] ty t c whole e = (t, ap (type_tree Gs) (sym (same_part ty c e)) ∙ whole, (omega arith))
  walk-down (id ∷ ids) ty t c whole e = by_step (chain_step Gs V ty id) refl e (walk-down ids)
    where
      by_step : (r : Reached) → chain_step Gs V ty id ≡ r → walk (chain_step Gs V) r ids ≡ Part c → ((d : ℕ) (w : Tree) (b : ℕ) → type_tree Gs d ≡ Some w → walk (chain_step Gs V) (Part d) ids ≡ Part b → (u : Tree) × (type_tree Gs b ≡ Some u) × (room u + length ids ≤ room w)) → (u : Tree) × (type_tree Gs c ≡ Some u) × (room u + suc (length ids) ≤ room t)
      by_step (Part d) is e later =
          let one = step-down ty id t whole d is in
          let rest = later d one.0 c one.1 e in
          let less = one.2 in
          let more = rest.2 in
          (rest.0, rest.1, (omega (arith, less, more)))
      by_step Nothing is e later = let none : Nothing ≡ Part c = sym (nothing_left (chain_step Gs V) ids) ∙ e in absurd cc
      by_step Unknown is e later = let none : Unknown ≡ Part c = sym (unknown-on ids) ∙ e in absurd cc

  abbrev AllTyped : List ℕ → Type 0
  AllTyped [] = Unit {0}
  AllTyped (id ∷ ids) = (is_some (V id) ≡ true) × AllTyped ids

  walk-known : (ids : List ℕ) (ty : ℕ) (t : Tree) → type_tree Gs ty ≡ Some t → AllTyped ids → walk (chain_step Gs V) (Part ty) ids ≡ Unknown → ⊥
  walk-known [] ty t whole typed e = cc
  walk-known (id ∷ ids) ty t whole typed e = by_step (chain_step Gs V ty id) refl e (λ d w at. walk-known ids d w at typed.1)
    where
      by_step : (r : Reached) → chain_step Gs V ty id ≡ r → walk (chain_step Gs V) r ids ≡ Unknown → ((d : ℕ) (w : Tree) → type_tree Gs d ≡ Some w → walk (chain_step Gs V) (Part d) ids ≡ Unknown → ⊥) → ⊥
      by_step (Part d) is e later = let one = step-down ty id t whole d is in later d one.0 one.1 e
      by_step Nothing is e later = let none : Nothing ≡ Unknown = sym (nothing_left (chain_step Gs V) ids) ∙ e in absurd cc
      by_step Unknown is e later = step-known ty id t whole typed.0 is

module _ (s : Setting) (entry : Option (List ℕ)) (right : IsConforming s.of entry) (within : AreWithin s.of.globals) (f : Function) (in_it : Contains s.of.functions f) where
  abbrev R : List Inst
  R = s.of.globals

  abbrev T : ℕ → Option ℕ
  T = type_in s.of.globals f

  -- the room where a pointer leads
  abbrev room_at : ℕ → ℕ
  room_at p = option_map_or room (option_and_then (type_tree R) (option_and_then (pointee R) (T p))) 0

  room_is : (p q : ℕ) (t : Tree) → option_and_then (pointee R) (T p) ≡ Some q → type_tree R q ≡ Some t → room_at p ≡ room t
  room_is p q t at whole = ap (λ o. option_map_or room (option_and_then (type_tree R) o) 0) at ∙ ap (λ o. option_map_or room o 0) whole

  room_low : (p : ℕ) → room_at p ≤ 16
  room_low p = by_pointee (option_and_then (pointee R) (T p))
    where
      by_shape : (q : ℕ) (o : Option Tree) → type_tree R q ≡ o → option_map_or room o 0 ≤ 16
      by_shape q None is = omega arith
      by_shape q (Some t) is =
          let low : depth (unwrap_or (type_tree R q) uint) ≤ 15 = shapes-le R right.results.none within q in
          let own : depth t ≤ 15 = subst (λ o. depth (unwrap_or o uint) ≤ 15) is low in
          let less = room-depth t in
          omega (arith, own, less)

      by_pointee : (o : Option ℕ) → option_map_or room (option_and_then (type_tree R) o) 0 ≤ 16
      by_pointee None = omega arith
      by_pointee (Some q) = by_shape q (type_tree R q) refl

  typed_ids : (i : Inst) → IsAmong i (insts_of f) → is_chain i.op ≡ true → (k : ℕ) → k < length i.args → HasType s entry right f in_it (slice_index i.args k)
  typed_ids i there on k less =
      typed_value s entry right f in_it i.at (slice_index i.args k)
      (subst (λ n. is_there_in s.of f i.at n (slice_index i.args k) ≡ true) (chain_need i.op k on) (operand_there (is_there_in s.of f i.at) i ((inside s entry right f in_it).order.there i there) k less (chain_id i.op i.args k on)))

  all_typed : (args : List ℕ) → ((k : ℕ) → k < length args → (ty : ℕ) × (T (slice_index args k) ≡ Some ty)) → AllTyped s f (drop 1 args)
  all_typed [] each = tt
  all_typed (a ∷ args) each = typed_rest args (λ k less. each (suc k) (omega (arith, less)))
    where
      typed_rest : (ids : List ℕ) → ((k : ℕ) → k < length ids → (ty : ℕ) × (T (slice_index ids k) ≡ Some ty)) → AllTyped s f ids
      typed_rest [] each = tt
      typed_rest (id ∷ ids) each = (ap is_some (each 0 (omega arith)).1, typed_rest ids (λ k less. each (suc k) (omega (arith, less))))

  -- T6: a chain leads down by one for each index
  falls : (i : Inst) → IsAmong i (insts_of f) → is_chain i.op ≡ true → room_at i.result + length (indexes i) ≤ room_at (base i)
  falls i there on =
      let formed : IsFormed i = (inside s entry right f in_it).formed i there in
      let some : 0 < length i.args = chain_least i.op (length i.args) on formed.least in
      let off : breaks_t6 R T i ≡ false = ap (is_value_broken s.of T i) (sym (chain_group i.op on)) ∙ value_right s.of entry right f in_it i there in
      let parts = three_off (value_fails is_pointer R T (word i 0)) (list_any (value_fails is_int R T) (drop 1 i.args)) (leads_elsewhere R i.ty (option_and_then (storage_class R) (T (word i 0))) (chain_end R T i)) off in
      let target = target_of s entry right f in_it (word i 0) (typed_ids i there on 0 some) parts.0 in
      let q : ℕ = target.0 in
      let t : Tree = target.1 in
      let from : option_and_then (pointee R) (T (word i 0)) ≡ Some q = target.2 in
      let reached : chain_end R T i ≡ walk (chain_step R T) (Part q) (drop 1 i.args) = ap (λ o. walk (chain_step R T) (option_map_or Part o Unknown) (drop 1 i.args)) from in
      let has = chain_typed i.op on in
      let own = own_type s entry right f in_it i there (typed_some s entry right f in_it i there has) in
      let g = local_row s entry right f in_it i there (typed_some s entry right f in_it i there has) in
      by_end q t from target.3 own g (chain_end R T i) refl reached parts.2 (all_typed i.args (typed_ids i there on))
    where
      by_end : (q : ℕ) (t : Tree) → option_and_then (pointee R) (T (word i 0)) ≡ Some q → type_tree R q ≡ Some t → T i.result ≡ Some i.ty → (g : Inst) × (global R i.ty ≡ Some g) × (suits (type_need i.op) g ≡ true)
          → (r : Reached) → chain_end R T i ≡ r → chain_end R T i ≡ walk (chain_step R T) (Part q) (drop 1 i.args) → leads_elsewhere R i.ty (option_and_then (storage_class R) (T (word i 0))) (chain_end R T i) ≡ false → AllTyped s f (drop 1 i.args) → room_at i.result + length (indexes i) ≤ room_at (base i)
      by_end q t from whole own g Nothing is reached off typed = clash (ap (leads_elsewhere R i.ty (option_and_then (storage_class R) (T (word i 0)))) (sym is) ∙ off)
      by_end q t from whole own g Unknown is reached off typed = absurd (walk-known s f (drop 1 i.args) q t whole typed (sym reached ∙ is))
      by_end q t from whole own g (Part c) is reached off typed =
          let down = walk-down s f (drop 1 i.args) q t c whole (sym reached ∙ is) in
          let right_pointer : is_other_pointer R i.ty (option_and_then (storage_class R) (T (word i 0))) c ≡ false = ap (leads_elsewhere R i.ty (option_and_then (storage_class R) (T (word i 0)))) (sym is) ∙ off in
          let tests = three_off (fails is_pointer R i.ty) (option_map_or (λ x. is_not x (storage_class R i.ty)) (option_and_then (storage_class R) (T (word i 0))) false) (option_map_or (differ R c) (pointee R i.ty) false) right_pointer in
          let pointer : is_pointer g.0 ≡ true = not-false (is_pointer g.0) (ap (λ o. option_map_or (λ (x : Inst). not (is_pointer x)) o false) (sym (row_is s.of entry right i.ty g.0 g.1 (type_suits i.op g.0 g.2))) ∙ tests.0) in
          let to = pointee_shaped s.of entry right i.ty g.0 g.1 pointer in
          let same : down.0 ≡ to.1 = same_types s f c to.0 down.0 to.1 down.1 to.3 (ap (λ o. option_map_or (differ R c) o false) (sym to.2) ∙ tests.2) in
          let at_result : room_at i.result ≡ room to.1 = room_is i.result to.0 to.1 (ap (option_and_then (pointee R)) own ∙ to.2) to.3 in
          let at_base : room_at (base i) ≡ room t = room_is (base i) q t from whole in
          let equal : room down.0 ≡ room to.1 = ap room same in
          let less = down.2 in
          omega (arith, at_result, at_base, equal, less)

  pub descending : AreDescending f room_at
  descending = record { low = room_low; falls = falls }

  -- so the paths of its pointers are short
  pub paths-short : (block pointer : ℕ) → length (path R f block pointer).steps ≤ 16
  paths-short block pointer = path-le R f room_at descending block pointer
