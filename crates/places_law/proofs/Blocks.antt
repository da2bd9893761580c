-- The block variables of a conforming module are placed, where no rule on layout is broken.
use Rattle.std.proofs.Common.{◌≡◌, ◌≤◌, ◌⊎◌, ◌==◌, ◌||◌, ◌&&◌, ℕ, zero, suc, Bool, true, false, List, [], ◌∷◌, length, Option, Some, None, inl, inr, refl, sym, ap, subst, ◌∙◌, if◌then◌else◌, unwrap_or}
use Rattle.std.specs.Prelude.{count_by, option_map, option_and_then, slice_index}
use Rattle.std.specs.Option.{option_map_or}
use Rattle.std.proofs.lemmas.Bool.{not-false}
use Rattle.std.proofs.lemmas.Option.{same_Some}
use Rattle.spv_words.specs.declared.rule.Rule.{Rule}
use Rattle.spv_ops.specs.Opcode.{is, number}
use Rattle.spv_ops.specs.Enumerants.{class_number}
use Rattle.spv_ops.specs.declared.Op.{Op}
use Rattle.spv_ops.specs.declared.Op.TheVariants as code
use Rattle.spv_ops.specs.declared.StorageClass.{StorageClass}
use Rattle.spv_ops.specs.declared.StorageClass.TheVariants as storage
use Rattle.spv_module.specs.Held.{global as global_inst}
use Rattle.spv_module.specs.declared.inst.Inst.{Inst}
use Rattle.spv_types.specs.Tree as plain
use Rattle.spv_types.specs.Tree.{Tree, Trees, no_trees, tree}
use Rattle.spv_types.specs.Types.{kind, both, all_trees, tree_by_kind, tree_before, tree_at, type_tree}
use Rattle.spv_types.specs.Leaves.{IsSized}
use Rattle.spv_decor.specs.Rows.{word}
use Rattle.spv_decor.specs.Decorations.{local_insts}
use Rattle.spv_index.specs.Pointers.{pointee}
use Rattle.spv_index.specs.BlockStructs.{is_block_struct}
use Rattle.layout_rules.specs.Blocks.{Broken, is_block_class, as_struct, block_of}
use Rattle.profile_rules.specs.Places.{is_among, is_variable, body_insts}
use Rattle.profile_rules.specs.TypeRows.{type_row}
use Rattle.profile_rules.specs.Variables.{is_buffer, is_push, is_pointee, is_no_block, is_unbound, is_other_block}
use Rattle.plan_law.specs.InOrder.{IsAmong}
use Rattle.plan_law.proofs.Order.{among_left}
use Rattle.module_semantics.specs.Setting.{Setting, global_variable}
use Rattle.module_semantics.specs.Memory.{class_of, part_by, part_type, variable_type}
use Rattle.module_semantics.specs.Accesses.{is_seen}
use Rattle.fits_law.specs.Takes.{nth_of}
use Rattle.type_law.specs.Shaped.{HasConstants}
use Rattle.type_law.proofs.Places.{part_leads}
use Rattle.type_law.proofs.Rows.{is_a_type}
use Rattle.type_law.proofs.Vectors.{three_off}
use Rattle.typed_law.specs.Conforms.{IsConforming}
use Rattle.typed_law.proofs.Lists.{and_left, and_right, and_off, found_in, none_at_fault}
use Rattle.typed_law.proofs.Types.{row_is}
use Rattle.typed_law.proofs.Used.{struct_part, IsMemberSized, member_sized, first_among}
use Rattle.typed_law.proofs.Calls.{class_is, global_variable_is, global_points}
use Rattle.memory_places.specs.Capped.{most_variables}
use Rattle.narrow_law.specs.Low.{IsFineMember}
use Rattle.narrow_law.specs.Placed.{IsPlaced}
use Rattle.narrow_law.proofs.Taken.{kind_there}
use Rattle.places_law.specs.Pointing.{ArePlaced}
use Rattle.places_law.proofs.Seen.{seen_is, seen_class}

-- the members of a struct are the parts of its type
among_more : (other id : ℕ) (ids : List ℕ) → is_among ids id ≡ true → is_among (other ∷ ids) id ≡ true
among_more other id ids e = by_test (other == id)
  where
    by_test : (b : Bool) → (b || is_among ids id) ≡ true
    by_test true = refl
    by_test false = e

no_nth : (i : ℕ) (u : Tree) → nth_of no_trees i ≡ Some u → ⊥
no_nth i u at = cc

nth_among : (f : ℕ → Option Tree) (ids : List ℕ) (ts : Trees) (i : ℕ) (u : Tree) → all_trees f ids ≡ Some ts → nth_of ts i ≡ Some u → is_among ids (slice_index ids i) ≡ true
nth_among f [] ts i u e at = absurd (no_nth i u (subst (λ x. nth_of x i ≡ Some u) (sym (same_Some no_trees ts e)) at))
nth_among f (id ∷ ids) ts i u e at = by_trees (f id) (all_trees f ids) refl e (λ us j more there. nth_among f ids us j u more there)
  where
    by_index : (x : Tree) (us : Trees) (j : ℕ) → nth_of (tree x us) j ≡ Some u → ((k : ℕ) → nth_of us k ≡ Some u → is_among ids (slice_index ids k) ≡ true) → is_among (id ∷ ids) (slice_index (id ∷ ids) j) ≡ true
    by_index x us zero there next = first_among id ids
    by_index x us (suc j) there next = among_more id (slice_index ids j) ids (next j there)

    by_trees : (o : Option Tree) (q : Option Trees) → all_trees f ids ≡ q → both o q ≡ Some ts → ((us : Trees) (j : ℕ) → all_trees f ids ≡ Some us → nth_of us j ≡ Some u → is_among ids (slice_index ids j) ≡ true) → is_among (id ∷ ids) (slice_index (id ∷ ids) i) ≡ true
    by_trees None q is e next = cc
    by_trees (Some x) None is e next = cc
    by_trees (Some x) (Some us) is e next = by_index x us i (subst (λ y. nth_of y i ≡ Some u) (sym (same_Some (tree x us) ts e)) at) (λ k there. next us k is there)

struct_shape : (gs : List Inst) (before : ℕ → Option Tree) (g : Inst) (o : Op) (t : Tree) → is o code.TypeStruct ≡ true → tree_by_kind gs before g (kind o) ≡ Some t → (ts : Trees) × (all_trees before g.args ≡ Some ts) × (t ≡ plain.struct g.result ts)
unfolding kind number
struct_shape gs before g code.TypeStruct t on e = by_trees (all_trees before g.args) refl e
  where
    by_trees : (q : Option Trees) → all_trees before g.args ≡ q → option_map (plain.struct g.result) q ≡ Some t → (ts : Trees) × (all_trees before g.args ≡ Some ts) × (t ≡ plain.struct g.result ts)
    by_trees None is e = cc
    by_trees (Some ts) is e = (ts, is, sym (same_Some (plain.struct g.result ts) t e))
struct_shape gs before g o t on e = cc

pub struct_part_by : (o : Op) (args : List ℕ) (i : ℕ) → is o code.TypeStruct ≡ true → part_by o args i ≡ slice_index args i
unfolding number
struct_part_by code.TypeStruct args i on = refl
struct_part_by o args i on = cc

-- what has values is such a member
sized_member : (u : Tree) → IsSized u → IsFineMember u
sized_member (plain.runtime t) h = absurd h
sized_member plain.boolean h = h
sized_member plain.int h = h
sized_member plain.uint h = h
sized_member (plain.vector e n) h = h
sized_member (plain.array t l) h = h
sized_member (plain.struct id ts) h = h

fine_member : (u : Tree) → IsMemberSized u → IsFineMember u
fine_member u (inl h) = sized_member u h
fine_member u (inr (t, same, h)) = subst IsFineMember (sym same) h

pub type_found : (gs : List Inst) (p : ℕ) (u : Tree) → type_tree gs p ≡ Some u → (h : Inst) × (global_inst gs p ≡ Some h) × (tree_at gs h ≡ Some u)
type_found gs p u e = by_global (global_inst gs p) refl e
  where
    by_global : (o : Option Inst) → global_inst gs p ≡ o → option_map_or (tree_at gs) o None ≡ Some u → (h : Inst) × (global_inst gs p ≡ Some h) × (tree_at gs h ≡ Some u)
    by_global None is e = cc
    by_global (Some h) is e = (h, is, e)

-- the number of a class is that of a block variable
abbrev AreBlocks : ℕ → Bool → Bool
AreBlocks n b = ((n == class_number storage.Uniform) || (n == class_number storage.StorageBuffer)) || (b && (n == class_number storage.PushConstant))

module _ (s : Setting) (entry : Option (List ℕ)) (right : IsConforming s.of entry) (chosen : ℕ → Option ℕ) (have : HasConstants s chosen) (laid : (rule : Rule) (at : ℕ) → Broken s.of rule at → ⊥) where
  abbrev Gs : List Inst
  Gs = s.of.globals

  -- P15 of a variable
  block_right : (v : Inst) → IsAmong v (body_insts s.of) → is_other_block s.of.heads Gs (count_by is_push (body_insts s.of)) v ≡ false
  block_right v there = none_at_fault (is_other_block s.of.heads Gs (count_by is_push (body_insts s.of))) (body_insts s.of) v right.declared.1.1.1.1.1.1.1.1.1.1.0 there

  block_pointee : (pushes : ℕ) (v : Inst) → is_other_block s.of.heads Gs pushes v ≡ false → is_variable v ≡ true → (is_buffer v || is_push v) ≡ true → is_pointee Gs (is_no_block s.of.heads (word v 0)) v ≡ false
  unfolding is_other_block
  block_pointee pushes v off on block =
      let first = (is_buffer v || is_push v) && is_pointee Gs (is_no_block s.of.heads (word v 0)) v in
      let second = is_buffer v && is_unbound s.of.heads v in
      and_off (is_buffer v || is_push v) (is_pointee Gs (is_no_block s.of.heads (word v 0)) v) (three_off first second _ (and_off (is_variable v) _ off on)).0 block

  module _ (id : ℕ) (v : Inst) (is_it : global_variable s id ≡ Some v) (class : StorageClass) (classed : class_of v ≡ Some class) (block : AreBlocks (class_number class) true ≡ true) (in_class : is_block_class (class_number class) ≡ true) (other : (class_number class == class_number storage.Workgroup) ≡ false) where
    there : global_inst Gs id ≡ Some v
    there = (global_variable_is s entry right chosen have id v is_it).0

    variable_is : is_variable v ≡ true
    variable_is = (global_variable_is s entry right chosen have id v is_it).1

    pub points : (q : ℕ) × (t : Tree) × (pointee Gs v.ty ≡ Some q) × (type_tree Gs q ≡ Some t)
    points = let w = global_points s entry right chosen have id v is_it in (w.0, w.1, w.2, w.3)

    of_number : word v 0 ≡ class_number class
    of_number = class_is v class classed

    in_body : IsAmong v (body_insts s.of)
    in_body = among_left v Gs (local_insts s.of) (found_in Gs id v there)

    is_a_block : (is_buffer v || is_push v) ≡ true
    is_a_block = ap (λ n. AreBlocks n (is_variable v)) of_number ∙ ap (AreBlocks (class_number class)) variable_is ∙ block

    -- the struct to which it points
    pub found : (g : Inst) × (global_inst Gs points.0 ≡ Some g) × (tree_at Gs g ≡ Some points.1)
    found = type_found Gs points.0 points.1 points.3

    abbrev g : Inst
    g = found.0

    row : type_row Gs points.0 ≡ Some g
    row = row_is s.of entry right points.0 g found.1 (is_a_type Gs (tree_before Gs g.at) g points.1 found.2)

    block_struct : ((is g.op code.TypeStruct) && is_block_struct s.of.heads (word v 0) g.result) ≡ true
    block_struct =
        let off = block_pointee (count_by is_push (body_insts s.of)) v (block_right v in_body) variable_is is_a_block in
        let here : is_no_block s.of.heads (word v 0) g ≡ false = sym (ap (λ o. option_map_or (is_no_block s.of.heads (word v 0)) o false) (ap (option_and_then (type_row Gs)) points.2 ∙ row)) ∙ off in
        not-false ((is g.op code.TypeStruct) && is_block_struct s.of.heads (word v 0) g.result) here

    pub struct_is : is g.op code.TypeStruct ≡ true
    struct_is = and_left (is g.op code.TypeStruct) (is_block_struct s.of.heads (word v 0) g.result) block_struct

    -- which is decorated as a block of the variable's class
    pub decorated_is : is_block_struct s.of.heads (word v 0) g.result ≡ true
    decorated_is = and_right (is g.op code.TypeStruct) (is_block_struct s.of.heads (word v 0) g.result) block_struct

    pub block_is : block_of Gs v ≡ Some g
    block_is =
        ap (λ (b : Bool). if b && is_block_class (word v 0) then option_and_then as_struct (option_and_then (global_inst Gs) (pointee Gs v.ty)) else None) variable_is
        ∙ ap (λ (b : Bool). if b then option_and_then as_struct (option_and_then (global_inst Gs) (pointee Gs v.ty)) else None) (ap is_block_class of_number ∙ in_class)
        ∙ ap (λ o. option_and_then as_struct (option_and_then (global_inst Gs) o)) points.2
        ∙ ap (option_and_then as_struct) found.1
        ∙ ap (λ (b : Bool). if b then Some g else None) struct_is

    type_is : variable_type s v ≡ points.0
    type_is = ap (λ o. unwrap_or o 0) points.2

    pub parts : (ts : Trees) × (all_trees (tree_before Gs g.at) g.args ≡ Some ts) × (points.1 ≡ plain.struct g.result ts)
    parts = struct_shape Gs (tree_before Gs g.at) g g.op points.1 struct_is found.2

    shape_is : type_tree Gs (variable_type s v) ≡ Some (plain.struct g.result parts.0)
    shape_is = ap (type_tree Gs) type_is ∙ points.3 ∙ ap Some parts.2

    pub member_fine : (i : ℕ) (u : Tree) → nth_of parts.0 i ≡ Some u → IsFineMember u
    member_fine i u at =
        let part : part_type s (variable_type s v) i ≡ slice_index g.args i = ap (λ o. option_map_or (λ (x : Inst). part_by x.op x.args i) o 0) (ap (global_inst Gs) type_is ∙ found.1) ∙ struct_part_by g.op g.args i struct_is in
        let typed : type_tree Gs (slice_index g.args i) ≡ Some u = ap (type_tree Gs) (sym part) ∙ part_leads s (variable_type s v) i (plain.struct g.result parts.0) u shape_is at in
        let h = type_found Gs (slice_index g.args i) u typed in
        fine_member u
        (member_sized s.of entry right v points.0 g in_body variable_is (ap (λ n. n == class_number storage.Workgroup) of_number ∙ other) points.2 found.1 (slice_index g.args i) h.0
        (struct_part g.op g.args (slice_index g.args i) struct_is (nth_among (tree_before Gs g.at) g.args parts.0 i u parts.1 at)) h.1 u h.2)

    block_placed : IsPlaced s v
    block_placed =
        let k = kind_there s.of id v g laid there block_is in
        record {
          layout = k.0;
          block = g;
          takes = k.1;
          declared_is = ap (global_inst Gs) type_is ∙ found.1;
          number = g.result;
          members = parts.0;
          shape = shape_is;
          fine = member_fine;
        }

  by_class : (id : ℕ) (v : Inst) (class : StorageClass) → global_variable s id ≡ Some v → class_of v ≡ Some class → is_seen class ≡ true → (class_of v ≡ Some storage.Workgroup) ⊎ IsPlaced s v
  by_class id v storage.Workgroup is_it classed on = inl classed
  by_class id v storage.StorageBuffer is_it classed on = inr (block_placed id v is_it storage.StorageBuffer classed refl refl refl)
  by_class id v storage.Uniform is_it classed on = inr (block_placed id v is_it storage.Uniform classed refl refl refl)
  by_class id v storage.PushConstant is_it classed on = inr (block_placed id v is_it storage.PushConstant classed refl refl refl)
  by_class id v class is_it classed on = cc

  -- all that others see
  pub are_placed : length Gs ≤ most_variables → ArePlaced s
  are_placed few = record { few = few; each = λ id v is. let w = seen_class s id v is in by_class id v w.0 (seen_is s id v is) w.1 w.2 }
