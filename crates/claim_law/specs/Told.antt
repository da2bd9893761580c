-- The names that a text may have, where keys have these: of each key, and of what GLSL has.
use Rattle.std.specs.Prelude.{◌≡◌, ◌⊎◌, Bool, true, List, [], ◌∷◌, ◌++◌, Option, Some, bytes_eq, codes}
use Rattle.std.specs.List.{list_any}
use Rattle.name_alloc.specs.declared.claims.Key.{Key}
use Rattle.glsl_ast.specs.Tree.{Text}
use Rattle.claim_law.specs.Uses.{Words as Asked}

-- variables that GLSL has (GLSL 4.60, section 7.1.3); the size of workgroups is a constant
abbrev pub built_in_variables : List Text
built_in_variables = codes "gl_NumWorkGroups" ∷ codes "gl_WorkGroupID" ∷ codes "gl_LocalInvocationID" ∷ codes "gl_GlobalInvocationID" ∷ codes "gl_LocalInvocationIndex" ∷ []

-- functions (section 8), variables and constants that GLSL has, and the components of vectors (section 5.5)
abbrev pub built_ins : List Text
built_ins =
    codes "min" ∷ codes "max" ∷ codes "sign" ∷ codes "bitCount" ∷ codes "findLSB" ∷ codes "findMSB" ∷ codes "bitfieldInsert" ∷ codes "bitfieldExtract" ∷ codes "bitfieldReverse" ∷ codes "any" ∷ codes "all"
    ∷ codes "atomicAdd" ∷ codes "atomicExchange" ∷ codes "atomicCompSwap" ∷ codes "atomicMin" ∷ codes "atomicMax" ∷ codes "atomicAnd" ∷ codes "atomicOr" ∷ codes "atomicXor"
    ∷ codes "memoryBarrierBuffer" ∷ codes "memoryBarrierShared" ∷ codes "barrier"
    ∷ (built_in_variables ++ codes "gl_WorkGroupSize" ∷ [])

abbrev pub components : List Text
components = codes "x" ∷ codes "y" ∷ codes "z" ∷ codes "w" ∷ []

abbrev pub is_among : List Text → Text → Bool
is_among ws w = list_any (bytes_eq w) ws

-- a key has this name
abbrev pub IsGiven : (Key → Option Text) → Text → Type 0
IsGiven found w = (key : Key) × (found key ≡ Some w)

-- the names of keys, and those
abbrev pub told : (Key → Option Text) → Asked
told found = record {
  value = λ w. IsGiven found w ⊎ (is_among built_ins w ≡ true);
  called = λ w. IsGiven found w ⊎ (is_among built_ins w ≡ true);
  size = λ w. IsGiven found w ⊎ (is_among built_ins w ≡ true);
  measured = λ w. IsGiven found w ⊎ (is_among built_ins w ≡ true);
  member = λ w. IsGiven found w ⊎ (is_among components w ≡ true);
  struct = IsGiven found;
}
