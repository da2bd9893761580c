-- Where paths begin: the name of a variable stands for it, and that of a block for its members.
use Rattle.std.proofs.Common.{◌≡◌, ◌<◌, ◌+◌, ◌==◌, ◌++◌, ℕ, zero, suc, Bool, true, false, List, [], ◌∷◌, Option, Some, None, inl, inr, refl, sym, ap, ◌∙◌, subst, arith, if◌then◌else◌}
use Rattle.std.specs.Prelude.{◌⊎◌, is_some, option_and_then, unwrap_or}
use Rattle.std.specs.Option.{option_map_or}
use Rattle.std.proofs.lemmas.Option.{same_Some}
use Rattle.spv_ops.specs.Enumerants.{class_number, class_of_number, decoration_number}
use Rattle.spv_ops.specs.declared.StorageClass.{StorageClass}
use Rattle.spv_ops.specs.declared.StorageClass.TheVariants as storage
use Rattle.spv_ops.specs.declared.Decoration.TheVariants as decoration
use Rattle.spv_module.specs.Held.{global as global_inst}
use Rattle.spv_module.specs.Lists.{id}
use Rattle.spv_module.specs.declared.inst.Inst.{Inst}
use Rattle.spv_module.specs.declared.inst.Function.{Function}
use Rattle.spv_types.specs.Tree as plain
use Rattle.spv_types.specs.Tree.{Tree, Trees, no_trees, tree, ValueTree}
use Rattle.spv_types.specs.Types.{type_tree}
use Rattle.spv_decor.specs.Rows.{word}
use Rattle.op_semantics.specs.Composite.{extracted}
use Rattle.layout_rules.specs.declared.Kind.{Kind}
use Rattle.profile_rules.specs.declared.given.Given.{Given}
use Rattle.profile_rules.specs.Places.{is_variable}
use Rattle.traces.specs.Events as event
use Rattle.traces.specs.Outcomes.{Result}
use Rattle.module_semantics.specs.Setting.{Setting, as_variable, global_variable, shared_number}
use Rattle.module_semantics.specs.Memory.{decorated, member_offset, part_type, bytes_by, bytes_along, variable_type, class_of, location_by}
use Rattle.module_semantics.specs.Memory as module_memory
use Rattle.module_semantics.specs.State.{Root, global, own, lent, Frame, Conf, call_at}
use Rattle.module_semantics.specs.Accesses.{seen, if_seen, seen_if, kept, global_value_by, global_value}
use Rattle.name_alloc.specs.declared.claims.Key.{Key}
use Rattle.name_alloc.specs.declared.claims.Key.TheVariants.{Id}
use Rattle.glsl_ast.specs.Tree.{Text, Expr}
use Rattle.glsl_ast.specs.declared.items.BlockPlace.{BlockPlace}
use Rattle.glsl_ast.specs.declared.items.BlockPlace.TheVariants.{Set, Push}
use Rattle.glsl_semantics.specs.Shapes.{Typed, typed, tree_of}
use Rattle.glsl_semantics.specs.Places.{in_buffer, in_push, in_shared, part_tree, site_along, location_of}
use Rattle.glsl_semantics.specs.States.{Variable, State, found, found_in, has_in, or_outer, Thing, value, variable, instance, memory, site_at, block_member}
use Rattle.glsl_semantics.specs.Expressions.{Program, Argument, variable_of, named}
use Rattle.text_rules.specs.Declarations.{place_of}
use Rattle.expr_forward.specs.Scope as scope
use Rattle.expr_forward.specs.Paths.{name_in, base_text}
use Rattle.list_law.proofs.Lists.{none_more, joined}
use Rattle.fits_law.specs.Takes.{nth_of}
use Rattle.fits_law.specs.State.{place_shape}
use Rattle.fits_law.proofs.Steps as fits_steps
use Rattle.type_law.specs.Shaped.{AreConstants}
use Rattle.type_law.proofs.Places.{part_leads}
use Rattle.region_law.proofs.Flags.{in_found, own_text}
use Rattle.agree_law.specs.Agree.{Naming, variable_with, IfPointer, variable_in, target_value, IsFar, Agree}
use Rattle.agree_law.proofs.Owned.{own_found}
use Rattle.agree_law.proofs.Evaluating.{named_is}
use Rattle.global_law.specs.Parts.{StructNames, AreMembersApart, HasMembersApart, shape_in, IsShape, HasScalars, part_value, IsPart}
use Rattle.global_law.specs.Laid.{IsLaidOut, HasLengths}
use Rattle.global_law.specs.Walks.{writing, struct_names}
use Rattle.global_law.specs.Starts.{members_in, IsVariable, IsOwn, IsParameter, IsPrivate, IsBuiltIn, IsShared, IsBlock, IsStart}
use Rattle.global_law.proofs.Path.Bytes.{bytes_in, buffer_along, push_along, bytes_same, member_lengths}
use Rattle.global_law.proofs.Path.BlockLayouts.{block_laid}
use Rattle.global_law.proofs.Path.Types.{declared_as}
use Rattle.global_law.proofs.Path.Parts.{own_shape}
use Rattle.global_law.proofs.Path.Walks.{IsFound}

-- classes by their numbers
input_class : (v : Inst) → word v 0 ≡ class_number storage.Input → class_of v ≡ Some storage.Input
input_class v e = ap class_of_number e

private_class : (v : Inst) → word v 0 ≡ class_number storage.Private → class_of v ≡ Some storage.Private
private_class v e = ap class_of_number e

shared_class : (v : Inst) → word v 0 ≡ class_number storage.Workgroup → class_of v ≡ Some storage.Workgroup
shared_class v e = ap class_of_number e

buffer_class : (v : Inst) → word v 0 ≡ class_number storage.StorageBuffer → class_of v ≡ Some storage.StorageBuffer
buffer_class v e = ap class_of_number e

uniform_class : (v : Inst) → word v 0 ≡ class_number storage.Uniform → class_of v ≡ Some storage.Uniform
uniform_class v e = ap class_of_number e

push_class : (v : Inst) → word v 0 ≡ class_number storage.PushConstant → class_of v ≡ Some storage.PushConstant
push_class v e = ap class_of_number e

-- a variable of the module, by its id
pub variable_named : (s : Setting) (n : ℕ) (v : Inst) → global_variable s n ≡ Some v → v.result ≡ n
variable_named s n v e = by_global (global_inst s.of.globals n) refl e
  where
    by_test : (g : Inst) → g.result ≡ n → (b : Bool) → elim b as (λ b. Option Inst) [ true ↦ Some g | false ↦ None ] ≡ Some v → v.result ≡ n
    by_test g is true e = ap (λ (x : Inst). x.result) (sym (same_Some g v e)) ∙ is
    by_test g is false e = cc

    by_global : (o : Option Inst) → global_inst s.of.globals n ≡ o → elim o as (λ o. Option Inst) [ None ↦ None | Some g ↦ as_variable g ] ≡ Some v → v.result ≡ n
    by_global None is e = cc
    by_global (Some g) is e = by_test g (fits_steps.named s.of.globals n g is) (is_variable g) e

-- the whole of what a variable has
whole_value : (o : Option ValueTree) → o ≡ option_and_then (extracted []) o
whole_value None = refl
whole_value (Some v) = refl

none_there : (z : State) (x : Text) → has_in z.frames x ≡ false → found_in z.frames x ≡ None
none_there z x off = by_found (found_in z.frames x) refl
  where
    by_found : (o : Option Variable) → found_in z.frames x ≡ o → found_in z.frames x ≡ None
    by_found None is = is
    by_found (Some v) is = let never : true ≡ false = sym (in_found z.frames x v is) ∙ off in cc

-- what stands outside of functions
pub outside_is : (p : Program) (z : State) (x : Text) → has_in z.frames x ≡ false → found z.globals x ≡ None → named p z x ≡ p.things x
outside_is p z x off none =
    ap (λ (o : Option Variable). elim (or_outer o (found z.globals x)) as (λ q. Option Thing) [ Some y ↦ Some (variable_of x y) | None ↦ p.things x ]) (none_there z x off)
    ∙ ap (λ (o : Option Variable). elim o as (λ q. Option Thing) [ Some y ↦ Some (variable_of x y) | None ↦ p.things x ]) none

-- a variable of the text
global_is : (p : Program) (z : State) (x : Text) (u : Variable) → has_in z.frames x ≡ false → found z.globals x ≡ Some u → named p z x ≡ Some (variable x [] u.shape u.value)
global_is p z x u off there =
    ap (λ (o : Option Variable). elim (or_outer o (found z.globals x)) as (λ q. Option Thing) [ Some y ↦ Some (variable_of x y) | None ↦ p.things x ]) (none_there z x off)
    ∙ ap (λ (o : Option Variable). elim o as (λ q. Option Thing) [ Some y ↦ Some (variable_of x y) | None ↦ p.things x ]) there

-- a member of a block by its name
pub member_in_block : (s : Setting) (y : StructNames) (at : BlockPlace) (kind : Kind) (n : ℕ) (whole : Trees) → AreMembersApart y n whole → (ts : Trees) (k i j : ℕ) (u : Tree) → j ≡ k + i → nth_of whole j ≡ Some u → nth_of ts i ≡ Some u
    → block_member at kind (members_in s y n k ts) (y.member_name n j) ≡ Some (memory (site_at at kind (member_offset s n j)) (shape_in s y u))
member_in_block s y at kind n whole apart no_trees k i j u same there part = cc
member_in_block s y at kind n whole apart (tree t ts) k zero j u same there part =
    let here : j ≡ k = omega (arith, same) in
    subst (λ q. block_member at kind (members_in s y n k (tree t ts)) (y.member_name n q) ≡ Some (memory (site_at at kind (member_offset s n q)) (shape_in s y u))) (sym here)
    (ap (λ b. elim b as (λ b. Option Thing) [ true ↦ Some (memory (site_at at kind (member_offset s n k)) (shape_in s y t)) | false ↦ block_member at kind (members_in s y n (k + 1) ts) (y.member_name n k) ]) (own_text (y.member_name n k))
    ∙ ap (λ a. Some (memory (site_at at kind (member_offset s n k)) (shape_in s y a))) (same_Some t u part))
member_in_block s y at kind n whole apart (tree t ts) k (suc i) j u same there part =
    let less : k < j = omega (arith, same) in
    let next : j ≡ k + 1 + i = omega (arith, same) in
    ap (λ b. elim b as (λ b. Option Thing) [ true ↦ Some (memory (site_at at kind (member_offset s n k)) (shape_in s y t)) | false ↦ block_member at kind (members_in s y n (k + 1) ts) (y.member_name n j) ]) (apart k j u less there)
    ∙ member_in_block s y at kind n whole apart ts (k + 1) i j u next there part

-- a shared variable's parts, by indexes alone
shared_along : (rest : List ℕ) (t : Tree) (way : List ℕ) (k : ℕ) → site_along t rest (in_shared k way) ≡ in_shared k (way ++ rest)
shared_along [] t way k = ap (in_shared k) (none_more way)
shared_along (i ∷ rest) t way k = shared_along rest (part_tree t i) (way ++ i ∷ []) k ∙ ap (in_shared k) (joined way rest i)

-- a member of a struct lies at its offset
struct_bytes : (s : Setting) (ty n : ℕ) (ts : Trees) (k : ℕ) → type_tree s.of.globals ty ≡ Some (plain.struct n ts) → module_memory.part_bytes s ty k ≡ member_offset s ty k
struct_bytes s ty n ts k shape =
    let d = declared_as s ty (plain.struct n ts) shape in
    ap (λ (o : Option Inst). option_map_or (λ (g : Inst). bytes_by s g k g.op) o 0) d.1 ∙ ap (bytes_by s d.0 k) d.2 ∙ ap (λ a. member_offset s a k) d.3

pub same_root : (o : Option Frame) (n : ℕ) → variable_in o n ≡ option_and_then (λ (g : Frame). g.variables n) o
same_root None n = refl
same_root (Some g) n = refl

module _ (p : Program) (calls : Text → List Argument → State → Result (Option Typed × State)) (z : State) (m : Naming) (s : Setting) (overrides : List (ℕ × Given)) (f : Function) (key : Key → Text) (globals : ℕ → Option Expr) (right : AreConstants s) where
  abbrev W : scope.Setting
  W = writing s overrides f key globals

  abbrev Y : StructNames
  Y = struct_names key

  abbrev Gs : List Inst
  Gs = s.of.globals

  -- the scalars of a block's member
  module _ (v : Inst) (ty : ℕ) (kind : Kind) (k : ℕ) (u : Tree) (is_type : variable_type s v ≡ ty) (typed_as : type_tree Gs (part_type s ty k) ≡ Some u) (lengths : HasLengths u) (laid : IsLaidOut s kind (part_type s ty k) u) (first : module_memory.part_bytes s ty k ≡ member_offset s ty k) where
    bytes_there : (rest : List ℕ) → is_some (place_shape u rest) ≡ true → member_offset s ty k + bytes_in kind (tree_of (shape_in s Y u)) rest ≡ bytes_along s (variable_type s v) (k ∷ rest)
    bytes_there rest leads =
        ap (λ a. member_offset s ty k + a) (bytes_same s Y kind rest (part_type s ty k) u typed_as lengths laid leads)
        ∙ ap (λ a. a + bytes_along s (part_type s ty k) rest) (sym first) ∙ ap (λ a. bytes_along s a (k ∷ rest)) (sym is_type)

    in_buffers : (c : StorageClass) → class_of v ≡ Some c → ((path : List ℕ) → location_by s v path c ≡ event.buffer (decorated s (decoration_number decoration.DescriptorSet) v.result) (decorated s (decoration_number decoration.Binding) v.result) (bytes_along s (variable_type s v) path))
        → HasScalars s v (k ∷ []) u (shape_in s Y u) (in_buffer (decorated s (decoration_number decoration.DescriptorSet) v.result) (decorated s (decoration_number decoration.Binding) v.result) kind (member_offset s ty k))
    in_buffers c of lies rest leads =
        ap location_of (buffer_along kind (decorated s (decoration_number decoration.DescriptorSet) v.result) (decorated s (decoration_number decoration.Binding) v.result) rest (tree_of (shape_in s Y u)) (member_offset s ty k))
        ∙ ap (event.buffer (decorated s (decoration_number decoration.DescriptorSet) v.result) (decorated s (decoration_number decoration.Binding) v.result)) (bytes_there rest leads)
        ∙ sym (lies (k ∷ rest)) ∙ sym (ap (λ o. location_by s v (k ∷ rest) (unwrap_or o storage.StorageBuffer)) of)

    in_pushed : class_of v ≡ Some storage.PushConstant → HasScalars s v (k ∷ []) u (shape_in s Y u) (in_push kind (member_offset s ty k))
    in_pushed of rest leads =
        ap location_of (push_along kind rest (tree_of (shape_in s Y u)) (member_offset s ty k))
        ∙ ap event.push (bytes_there rest leads)
        ∙ sym (ap (λ o. location_by s v (k ∷ rest) (unwrap_or o storage.StorageBuffer)) of)

    set_place : (n : ℕ) → word v 0 ≡ n → (n == class_number storage.PushConstant) ≡ false → place_of W.source v ≡ Set (decorated s (decoration_number decoration.DescriptorSet) v.result) (decorated s (decoration_number decoration.Binding) v.result)
    set_place n is off = ap (λ b. if b then Push else Set (decorated s (decoration_number decoration.DescriptorSet) v.result) (decorated s (decoration_number decoration.Binding) v.result)) (ap (λ a. a == class_number storage.PushConstant) is ∙ off)

    push_place : word v 0 ≡ class_number storage.PushConstant → place_of W.source v ≡ Push
    push_place is = ap (λ a. if a == class_number storage.PushConstant then Push else Set (decorated s (decoration_number decoration.DescriptorSet) v.result) (decorated s (decoration_number decoration.Binding) v.result)) is

    pub member_scalars : (word v 0 ≡ class_number storage.StorageBuffer) ⊎ ((word v 0 ≡ class_number storage.Uniform) ⊎ (word v 0 ≡ class_number storage.PushConstant)) → HasScalars s v (k ∷ []) u (shape_in s Y u) (site_at (place_of W.source v) kind (member_offset s ty k))
    member_scalars (inl is) = subst (λ q. HasScalars s v (k ∷ []) u (shape_in s Y u) (site_at q kind (member_offset s ty k))) (sym (set_place 12 is refl)) (in_buffers storage.StorageBuffer (buffer_class v is) (λ path. refl))
    member_scalars (inr (inl is)) = subst (λ q. HasScalars s v (k ∷ []) u (shape_in s Y u) (site_at q kind (member_offset s ty k))) (sym (set_place 2 is refl)) (in_buffers storage.Uniform (uniform_class v is) (λ path. refl))
    member_scalars (inr (inr is)) = subst (λ q. HasScalars s v (k ∷ []) u (shape_in s Y u) (site_at q kind (member_offset s ty k))) (sym (push_place is)) (in_pushed (push_class v is))

  module _ (c : Conf) (agree : Agree m c z) where
    -- what the name of a start stands for
    pub record Started (n : ℕ) (t : Tree) (r : Root) (path : List ℕ) : Type 0 where
      pub to : Thing
      pub there : named p z (base_text W n) ≡ Some to
      pub place : IsFound p calls z s overrides f key globals right c (base_text W n) path r path t to

    abbrev P : ℕ → Root → List ℕ → Tree → Thing → Type 0
    P n r path t a = IsPart s Y c (base_text W n) path r path t a

    base_is : (n : ℕ) → globals n ≡ None → base_text W n ≡ key (Id (id n))
    base_is n none = ap (λ o. option_map_or name_in o (key (Id (id n)))) none

    -- a variable of the text that stands for a part of a variable
    started_by : (n : ℕ) (t : Tree) (r : Root) (path : List ℕ) (o : Option ValueTree) → IsVariable p m s W.source key globals n t → named p z (m.name n) ≡ Some (variable (m.name n) [] (m.shape n) o) → seen s r ≡ None → o ≡ part_value s c r path → Started n t r path
    started_by n t r path o is there unseen has =
        let named_so : m.name n ≡ base_text W n = is.named ∙ sym (base_is n is.itself) in
        record {
          to = variable (m.name n) [] (m.shape n) o;
          there = ap (named p z) (sym named_so) ∙ there;
          place = inl (unseen, subst (IsShape s Y t) (sym is.typed_as) (own_shape s Y t), has, named_so, none_more path);
        }

    own_start : (n : ℕ) (t : Tree) (r : Root) (path : List ℕ) → IsOwn p m s W.source key globals n t r path → Started n t r path
    own_start n t r path is =
        subst (λ a. Started n t a path) (sym is.root) (subst (Started n t (own n)) (sym is.whole)
        (started_by n t (own n) [] (c.top.variables n) is.variable (named_is p z (m.name n) (variable_with (m.shape n) (c.top.variables n)) (own_found z.frames (m.name n) _ (agree.variables n is.is))) refl (whole_value (c.top.variables n))))

    lent_start : (n : ℕ) (t : Tree) (r : Root) (path : List ℕ) → IsParameter p m s W.source key globals c n t r path → Started n t r path
    lent_start n t r path is =
        let l = agree.lents n is.is in
        let there = subst (λ h. IfPointer h (λ r path. IsFar r × (l.0 ≡ target_value c r path))) is.leads l.2 in
        subst (λ a. l.0 ≡ target_value c a path → Started n t a path) (sym is.root)
        (λ at. started_by n t (lent is.depth is.of) path l.0 is.variable (named_is p z (m.name n) (variable_with (m.shape n) l.0) (own_found z.frames (m.name n) _ l.1)) refl (at ∙ ap (option_and_then (extracted path)) (same_root (call_at is.depth c.below) is.of))) there.1

    private_start : (n : ℕ) (t : Tree) (r : Root) (path : List ℕ) → IsPrivate p m s W.source key globals n t r path → Started n t r path
    private_start n t r path is =
        let a = agree.privates n is.is in
        let has : kept s c (global n) ≡ c.privates n
        = ap (option_and_then (global_value s c)) is.there ∙ ap (global_value_by s c is.inst) (private_class is.inst is.class) ∙ ap c.privates (variable_named s n is.inst is.there) in
        subst (λ a. Started n t a path) (sym is.root) (subst (Started n t (global n)) (sym is.whole)
        (started_by n t (global n) [] (c.privates n) is.variable (global_is p z (m.name n) (variable_with (m.shape n) (c.privates n)) a.1 a.0)
        (ap (option_and_then seen_if) is.there ∙ ap (if_seen is.inst) (private_class is.inst is.class)) (whole_value (c.privates n) ∙ ap (option_and_then (extracted [])) (sym has))))

    built_in_start : (n : ℕ) (t : Tree) (r : Root) (path : List ℕ) → IsBuiltIn p m s W.source key globals n t r path → Started n t r path
    built_in_start n t r path is =
        let o = agree.outside is.text is.outside in
        let base : base_text W n ≡ is.text = ap (λ q. option_map_or name_in q (key (Id (id n)))) is.written in
        let has : kept s c (global n) ≡ Some is.value_is
        = ap (option_and_then (global_value s c)) is.there ∙ ap (global_value_by s c is.inst) (input_class is.inst is.class) ∙ is.has in
        subst (λ a. Started n t a path) (sym is.root) (subst (Started n t (global n)) (sym is.whole) (record {
          to = value (typed (shape_in s Y t) is.value_is);
          there = ap (named p z) base ∙ outside_is p z is.text o.0 o.1 ∙ is.thing;
          place = inl (ap (option_and_then seen_if) is.there ∙ ap (if_seen is.inst) (input_class is.inst is.class), own_shape s Y t, ap (option_and_then (extracted [])) has, is.fit, (is.inst, is.there, is.class));
        }))

    shared_start : (n : ℕ) (t : Tree) (r : Root) (path : List ℕ) → IsShared p m s W.source key globals n t r path → Started n t r path
    shared_start n t r path is =
        let o = agree.outside (key (Id (id n))) is.outside in
        subst (λ a. Started n t a path) (sym is.root) (subst (Started n t (global n)) (sym is.whole) (record {
          to = memory (in_shared (shared_number s n) []) is.text_shape;
          there = ap (named p z) (base_is n is.itself) ∙ outside_is p z (key (Id (id n))) o.0 o.1 ∙ is.thing;
          place = inl (
            is.inst,
            ap (option_and_then seen_if) is.there ∙ ap (if_seen is.inst) (shared_class is.inst is.class),
            is.text_typed,
            is.typed_as,
            λ rest leads. ap location_of (shared_along rest (tree_of is.text_shape) [] (shared_number s n)) ∙ ap (λ a. event.shared (shared_number s a) rest) (sym (variable_named s n is.inst is.there)) ∙ sym (ap (λ q. location_by s is.inst rest (unwrap_or q storage.StorageBuffer)) (shared_class is.inst is.class)),
          );
        }))

    block_start : (n : ℕ) (t : Tree) (r : Root) (path : List ℕ) → HasMembersApart Y t → IsBlock p m s W.source key globals n t r path → Started n t r path
    block_start n t r path apart is =
        let o = agree.outside (key (Id (id n))) is.outside in
        let ty : ℕ = variable_type s is.inst in
        let sees : seen s (global n) ≡ Some is.inst = ap (option_and_then seen_if) is.there ∙ seen_by is.inst is.class in
        subst (λ a. Started n t a path) (sym is.root) (subst (Started n t (global n)) (sym is.whole) (record {
          to = instance (place_of W.source is.inst) is.kind (members_in s Y ty 0 is.parts);
          there = ap (named p z) (base_is n is.itself) ∙ outside_is p z (key (Id (id n))) o.0 o.1 ∙ is.thing;
          place = inr (
            ty,
            is.parts,
            is.shape,
            is.decorated,
            λ k u at.
                let whole : type_tree Gs ty ≡ Some (plain.struct ty is.parts) = is.typed_as ∙ ap (λ a. Some a) is.shape in (
                  memory (site_at (place_of W.source is.inst) is.kind (member_offset s ty k)) (shape_in s Y u),
                  member_in_block s Y (place_of W.source is.inst) is.kind ty is.parts (subst (HasMembersApart Y) is.shape apart).0 is.parts 0 k k u (let none : k ≡ 0 + k = omega arith in none) at at,
                  (
                    is.inst,
                    sees,
                    own_shape s Y u,
                    part_leads s ty k (plain.struct ty is.parts) u whole at,
                    member_scalars is.inst ty is.kind k u refl (part_leads s ty k (plain.struct ty is.parts) u whole at) (member_lengths is.parts k u (subst HasLengths is.shape is.lengths) at)
                        (block_laid s is.kind is.inst is.type ty ty is.parts k u is.takes is.type_there whole at) (struct_bytes s ty ty is.parts k whole) is.class,
                  ),
                ),
          );
        }))
      where
        seen_by : (v : Inst) → (word v 0 ≡ class_number storage.StorageBuffer) ⊎ ((word v 0 ≡ class_number storage.Uniform) ⊎ (word v 0 ≡ class_number storage.PushConstant)) → seen_if v ≡ Some v
        seen_by v (inl is) = ap (if_seen v) (buffer_class v is)
        seen_by v (inr (inl is)) = ap (if_seen v) (uniform_class v is)
        seen_by v (inr (inr is)) = ap (if_seen v) (push_class v is)

    -- The name of what a path begins with stands for what the pointer leads to.
    pub start_is : (n : ℕ) (t : Tree) (r : Root) (path : List ℕ) → HasMembersApart Y t → IsStart p m s W.source key globals c n t r path → Started n t r path
    start_is n t r path apart (inl is) = own_start n t r path is
    start_is n t r path apart (inr (inl is)) = lent_start n t r path is
    start_is n t r path apart (inr (inr (inl is))) = private_start n t r path is
    start_is n t r path apart (inr (inr (inr (inl is)))) = built_in_start n t r path is
    start_is n t r path apart (inr (inr (inr (inr (inl is))))) = shared_start n t r path is
    start_is n t r path apart (inr (inr (inr (inr (inr is))))) = block_start n t r path apart is
