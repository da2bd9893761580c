-- Locations from what a variable lies in and how far its parts lie behind its first byte.
use Rattle.std.proofs.Common.{◌≡◌, ℕ, ◌+◌, ◌-◌, ◌/◌, Option, Some, None, option_map, List, [], ◌∷◌, ◌++◌, min, refl, ap, sym, ◌∙◌, arith, map, unwrap_or}
use Rattle.std.proofs.Common.{add_assoc}
use Rattle.std.specs.Option.{option_map_or}
use Rattle.spv_ops.specs.Enumerants.{decoration_number}
use Rattle.spv_ops.specs.declared.Decoration.TheVariants as decoration
use Rattle.spv_ops.specs.declared.StorageClass.{StorageClass}
use Rattle.spv_ops.specs.declared.StorageClass.TheVariants as storage
use Rattle.spv_module.specs.State.{ModuleState}
use Rattle.spv_module.specs.declared.inst.Inst.{Inst}
use Rattle.spv_module.specs.declared.tree.Shape.{Shape}
use Rattle.spv_decor.specs.Rows.{value_of}
use Rattle.spv_types.specs.Types.{type_tree}
use Rattle.spv_types.specs.View.{tree_of}
use Rattle.group_items.specs.Sides.{bytes_in}
use Rattle.spv_types.specs.Tree.{Tree}
use Rattle.value_words.specs.Words.{scalar_paths}
use Rattle.traces.specs.Events.{Location}
use Rattle.group_items.specs.declared.event.LeafPlace.{LeafPlace}
use Rattle.group_items.specs.Events.{location_of, locations_of}
use Rattle.module_semantics.specs.Setting.{Setting}
use Rattle.module_semantics.specs.Memory.{array_stride, bytes_along, class_of, decorated, elements, location, location_by, locations, member_offset, part_bytes, part_type, shape_along, type_along, variable_type}
use Rattle.memory_places.specs.declared.bases.Base.{Base}
use Rattle.memory_places.specs.declared.leaves.Part.{Part}
use Rattle.memory_places.specs.Capped.{capped, most_bytes}
use Rattle.memory_places.specs.Bases.{place_in, base_by, base_of}
use Rattle.traces.specs.Invocations.{Invocation}
use Rattle.memory_places.specs.Kernel.{Kernel, setting_for, bare, bare_from, sized}
use Rattle.memory_places.proofs.Along.{type_bare, bytes_bare}
use Rattle.memory_places.specs.Leaves.{leaf, leaves, IsPartOf, places_with}

located_by : (s : Setting) (v : Inst) (path : List ℕ) (c : StorageClass)
    → capped (location_by s v path c) ≡ place_in (base_by s v c) (min most_bytes (bytes_along s (variable_type s v) path)) path
located_by s v path storage.PushConstant = refl
located_by s v path storage.Workgroup = refl
located_by s v path _ = refl

located : (s : Setting) (v : Inst) (path : List ℕ) → capped (location s v path) ≡ place_in (base_of s v) (min most_bytes (bytes_along s (variable_type s v) path)) path
located s v path = located_by s v path (unwrap_or (class_of v) storage.StorageBuffer)

pub location_is : (s : Setting) (v : Inst) (path : List ℕ) (base : Base) (part : Part) (place : LeafPlace) → base ≡ base_of s v → IsPartOf s v path part
    → location_of place ≡ place_in base part.bytes path → location_of place ≡ capped (location s v path)
location_is s v path base part place b (ty, bytes) p = p ∙ (ap (λ (c : Base). place_in c part.bytes path) b ∙ (ap (λ n. place_in (base_of s v) n path) bytes ∙ sym (located s v path)))

-- a path and what leads further
bytes_append : (s : Setting) (ty : ℕ) (p q : List ℕ) → bytes_along s ty (p ++ q) ≡ bytes_along s ty p + bytes_along s (type_along s ty p) q
bytes_append s ty [] q = let e : bytes_along s ty q ≡ 0 + bytes_along s ty q = omega arith in e
bytes_append s ty (i ∷ p) q =
    ap (λ n. part_bytes s ty i + n) (bytes_append s (part_type s ty i) p q)
    ∙ sym (add_assoc (part_bytes s ty i) (bytes_along s (part_type s ty i) p) (bytes_along s (type_along s (part_type s ty i) p) q))

capped_twice : (a b : ℕ) → min most_bytes (min most_bytes a + b) ≡ min most_bytes (a + b)
capped_twice a b = omega arith

leaf_is : (s : Setting) (v : Inst) (path : List ℕ) (base : Base) (part : Part) → base ≡ base_of s v → IsPartOf s v path part
    → (rest : List ℕ) → leaf s base part path rest ≡ capped (location s v (path ++ rest))
leaf_is s v path base part b (ty, bytes) rest =
    ap (λ (c : Base). place_in c (min most_bytes (part.bytes + bytes_along s part.ty rest)) (path ++ rest)) b
    ∙ (ap (λ n. place_in (base_of s v) n (path ++ rest))
    (ap (λ n. min most_bytes (n + bytes_along s part.ty rest)) bytes
    ∙ (ap (λ t. min most_bytes (min most_bytes (bytes_along s (variable_type s v) path) + bytes_along s t rest)) ty
    ∙ (capped_twice (bytes_along s (variable_type s v) path) (bytes_along s (type_along s (variable_type s v) path) rest)
    ∙ ap (λ n. min most_bytes n) (sym (bytes_append s (variable_type s v) path rest)))))
    ∙ sym (located s v (path ++ rest)))

leaves_are : (s : Setting) (v : Inst) (path : List ℕ) (base : Base) (part : Part) → base ≡ base_of s v → IsPartOf s v path part
    → (ways : List (List ℕ)) → leaves s base part path ways ≡ map capped (map (λ rest. location s v (path ++ rest)) ways)
leaves_are s v path base part b at [] = refl
leaves_are s v path base part b at (w ∷ ws) =
    ap (λ l. l ∷ leaves s base part path ws) (leaf_is s v path base part b at w) ∙ ap (λ ls. capped (location s v (path ++ w)) ∷ ls) (leaves_are s v path base part b at ws)

-- all places of a part of this shape
pub locations_are : (s : Setting) (v : Inst) (path : List ℕ) (base : Base) (part : Part) (t : Tree) → base ≡ base_of s v → IsPartOf s v path part
    → leaves s base part path (scalar_paths t) ≡ map capped (places_with s v path t)
locations_are s v path base part t b at = leaves_are s v path base part b at (scalar_paths t)

-- in each setting of a module the same
same_leaf : (k : Kernel) (told : Invocation) (base : Base) (part : Part) (path rest : List ℕ) → leaf (bare k.of) base part path rest ≡ leaf (setting_for k told) base part path rest
same_leaf k told base part path rest = ap (λ n. place_in base (min most_bytes (part.bytes + n)) (path ++ rest)) (sym (bytes_bare k told part.ty rest))

same_part : (k : Kernel) (told : Invocation) (v : Inst) (path : List ℕ) (part : Part) → IsPartOf (bare k.of) v path part → IsPartOf (setting_for k told) v path part
same_part k told v path part (ty, bytes) =
    (ty ∙ sym (type_bare k told (variable_type (bare k.of) v) path), bytes ∙ ap (λ n. min most_bytes n) (sym (bytes_bare k told (variable_type (bare k.of) v) path)))

pub locations_from : (k : Kernel) (told : Invocation) (v : Inst) (path : List ℕ) (base : Base) (part : Part) (t : Tree) (places : List LeafPlace)
    → base ≡ base_of (bare_from k.of k.entry) v → IsPartOf (bare k.of) v path part → locations_of places ≡ leaves (bare k.of) base part path (scalar_paths t)
    → locations_of places ≡ map capped (places_with (setting_for k told) v path t)
locations_from k told v path base part t places b at e =
    let same : leaf (bare k.of) base part path ≡ leaf (setting_for k told) base part path = λ i rest. same_leaf k told base part path rest i in
    e ∙ (ap (λ (f : List ℕ → Location). map f (scalar_paths t)) same ∙ locations_are (setting_for k told) v path base part t b (same_part k told v path part at))

pub location_from : (k : Kernel) (told : Invocation) (v : Inst) (path : List ℕ) (base : Base) (part : Part) (place : LeafPlace)
    → base ≡ base_of (bare_from k.of k.entry) v → IsPartOf (bare k.of) v path part → location_of place ≡ place_in base part.bytes path
    → location_of place ≡ capped (location (setting_for k told) v path)
location_from k told v path base part place b at e = location_is (setting_for k told) v path base part place b (same_part k told v path part at) e

pub shape_bare : (k : Kernel) (told : Invocation) (v : Inst) (path : List ℕ) → shape_along (setting_for k told) v path ≡ shape_along (bare k.of) v path
shape_bare k told v path = ap (type_tree k.of.globals) (type_bare k told (variable_type (bare k.of) v) path)

pub locations_none : (s : Setting) (v : Inst) (path : List ℕ) (shape : Option Shape) → option_map tree_of shape ≡ shape_along s v path → shape ≡ None → [] ≡ map capped (locations s v path)
locations_none s v path shape e n =
    ap (λ (o : Option Tree). map capped (option_map_or (places_with s v path) o [])) (sym (ap (option_map tree_of) n) ∙ e)

pub locations_some : (s : Setting) (v : Inst) (path : List ℕ) (shape : Option Shape) (t : Shape) (places : List Location) → option_map tree_of shape ≡ shape_along s v path → shape ≡ Some t
    → places ≡ map capped (places_with s v path (tree_of t)) → places ≡ map capped (locations s v path)
locations_some s v path shape t places e n h =
    h ∙ ap (λ (o : Option Tree). map capped (option_map_or (places_with s v path) o [])) (sym (ap (option_map tree_of) n) ∙ e)

-- how many elements a runtime array has
pub elements_are : (m : ModuleState) (sizes : List (ℕ × ℕ × ℕ)) (v : Inst) (member : ℕ) (heads : List Inst) (ty bytes offset part stride n : ℕ) → heads ≡ m.heads → ty ≡ variable_type (bare m) v
    → bytes ≡ bytes_in sizes (unwrap_or (value_of heads v.result (decoration_number decoration.DescriptorSet)) 0) (unwrap_or (value_of heads v.result (decoration_number decoration.Binding)) 0)
    → offset ≡ member_offset (bare m) ty member → part ≡ part_type (bare m) ty member → stride ≡ array_stride (bare m) part → n ≡ (bytes - offset) / stride
    → n ≡ elements (sized m sizes) v member
elements_are m sizes v member heads ty bytes offset part stride n hs t b o p s e =
    e
    ∙ (ap (λ x. (x - offset) / stride) (b ∙ ap (λ (h : List Inst). bytes_in sizes (unwrap_or (value_of h v.result (decoration_number decoration.DescriptorSet)) 0) (unwrap_or (value_of h v.result (decoration_number decoration.Binding)) 0)) hs)
    ∙ (ap (λ x. (bytes_in sizes (unwrap_or (value_of m.heads v.result (decoration_number decoration.DescriptorSet)) 0) (unwrap_or (value_of m.heads v.result (decoration_number decoration.Binding)) 0) - x) / stride) (o ∙ ap (λ y. member_offset (bare m) y member) t)
    ∙ ap (λ x. (bytes_in sizes (unwrap_or (value_of m.heads v.result (decoration_number decoration.DescriptorSet)) 0) (unwrap_or (value_of m.heads v.result (decoration_number decoration.Binding)) 0) - member_offset (bare m) (variable_type (bare m) v) member) / x) (s ∙ ap (array_stride (bare m)) (p ∙ ap (λ y. part_type (bare m) y member) t))))

pub elements_told : (k : Kernel) (told : Invocation) (sizes : List (ℕ × ℕ × ℕ)) (v : Inst) (member : ℕ) → told.buffer_bytes ≡ bytes_in sizes → elements (sized k.of sizes) v member ≡ elements (setting_for k told) v member
elements_told k told sizes v member e =
    ap (λ (bytes : ℕ → ℕ → ℕ).
    (bytes (decorated (bare k.of) (decoration_number decoration.DescriptorSet) v.result) (decorated (bare k.of) (decoration_number decoration.Binding) v.result)
    - member_offset (bare k.of) (variable_type (bare k.of) v) member)
    / array_stride (bare k.of) (part_type (bare k.of) (variable_type (bare k.of) v) member)) (sym e)
