-- Places whose numbers the program has are the module's own.
use Rattle.std.proofs.Common.{◌≡◌, ◌≤◌, ℕ, List, [], ◌∷◌, ◌++◌, min, refl, ap, ◌∙◌, arith, map, unwrap_or}
use Rattle.spv_ops.specs.Enumerants.{decoration_number}
use Rattle.spv_ops.specs.declared.Decoration.TheVariants as decoration
use Rattle.spv_ops.specs.declared.StorageClass.{StorageClass}
use Rattle.spv_ops.specs.declared.StorageClass.TheVariants as storage
use Rattle.spv_module.specs.declared.inst.Inst.{Inst}
use Rattle.traces.specs.Events.{Location, buffer, push, shared}
use Rattle.module_semantics.specs.Setting.{Setting, shared_number}
use Rattle.module_semantics.specs.Memory.{bytes_along, class_of, decorated, location, location_by, variable_type}
use Rattle.memory_places.specs.Capped.{capped, most_bytes, most_variables}

low : (most n : ℕ) → n ≤ most → min most n ≡ n
low most n h = omega (arith, h)

by_class : (s : Setting) (v : Inst) (path : List ℕ) (c : StorageClass) → bytes_along s (variable_type s v) path ≤ most_bytes → shared_number s v.result ≤ most_variables → capped (location_by s v path c) ≡ location_by s v path c
by_class s v path storage.PushConstant b n = ap push (low most_bytes (bytes_along s (variable_type s v) path) b)
by_class s v path storage.Workgroup b n = ap (λ k. shared k path) (low most_variables (shared_number s v.result) n)
by_class s v path _ b n =
    ap (buffer (decorated s (decoration_number decoration.DescriptorSet) v.result) (decorated s (decoration_number decoration.Binding) v.result)) (low most_bytes (bytes_along s (variable_type s v) path) b)

pub narrow_location : (s : Setting) (v : Inst) (path : List ℕ) → bytes_along s (variable_type s v) path ≤ most_bytes → shared_number s v.result ≤ most_variables → capped (location s v path) ≡ location s v path
narrow_location s v path b n = by_class s v path (unwrap_or (class_of v) storage.StorageBuffer) b n

-- the bytes of each place to which one of these ways leads further
abbrev pub AreLow : Setting → Inst → List ℕ → List (List ℕ) → Type 0
AreLow s v path [] = Unit {0}
AreLow s v path (w ∷ ws) = (bytes_along s (variable_type s v) (path ++ w) ≤ most_bytes) × AreLow s v path ws

pub narrow_locations : (s : Setting) (v : Inst) (path : List ℕ) (ways : List (List ℕ)) → AreLow s v path ways → shared_number s v.result ≤ most_variables
    → map capped (map (λ rest. location s v (path ++ rest)) ways) ≡ map (λ rest. location s v (path ++ rest)) ways
narrow_locations s v path [] low n = refl
narrow_locations s v path (w ∷ ws) (here, low) n =
    ap (λ l. l ∷ map capped (map (λ rest. location s v (path ++ rest)) ws)) (narrow_location s v (path ++ w) here n)
    ∙ ap (λ (ls : List Location). location s v (path ++ w) ∷ ls) (narrow_locations s v path ws low n)
