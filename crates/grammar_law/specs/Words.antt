-- The names that an item of a text may have, where the structs that stand before it have these names.
use Rattle.std.specs.Prelude.{◌≡◌, ◌⊎◌, ℕ, Bool, true, false, List, Option, Some, None}
use Rattle.spv_ops.specs.declared.Op.TheVariants as code
use Rattle.spv_module.specs.Lists.{id}
use Rattle.spv_module.specs.declared.inst.Inst.{Inst}
use Rattle.hoist_plan.specs.Plan.{has_type}
use Rattle.name_alloc.specs.declared.claims.Key.{Key}
use Rattle.name_alloc.specs.declared.claims.Key.TheVariants.{Id}
use Rattle.name_alloc.specs.Naming.{space_of}
use Rattle.glsl_ast.specs.Tree.{Text}
use Rattle.glsl_grammar.specs.Read.{is_declared}
use Rattle.claim_law.specs.Uses.{Words}
use Rattle.claim_law.specs.Told.{built_ins, is_among, IsGiven, told}

-- the key is that of a struct
abbrev pub is_struct_key : List Inst → Key → Bool
is_struct_key gs (Id n) = has_type gs code.TypeStruct n.0
is_struct_key gs _ = false

-- a name of the text's own space that is no struct's
pub record IsOwnName (gs : List Inst) (found : Key → Option Text) (w : Text) : Type 0 where
  pub key : Key
  pub is : found key ≡ Some w
  pub space : space_of key ≡ None
  pub other : is_struct_key gs key ≡ false

abbrev pub words_of : List Inst → (Key → Option Text) → List Text → Words
words_of gs found names = record {
  value = λ w. (IsOwnName gs found w ⊎ (is_among built_ins w ≡ true)) × (is_declared names w ≡ false);
  called = λ w. (IsOwnName gs found w ⊎ (is_among built_ins w ≡ true)) × (is_declared names w ≡ false);
  size = λ w. (IsOwnName gs found w ⊎ (is_among built_ins w ≡ true)) × (is_declared names w ≡ false);
  measured = λ w. (IsOwnName gs found w ⊎ (is_among built_ins w ≡ true)) × (is_declared names w ≡ false);
  member = (told found).member;
  struct = λ w. IsGiven found w × (is_declared names w ≡ true);
}

-- each of the names is that of a struct
abbrev pub AreOfStructs : List Inst → (Key → Option Text) → List Text → Type 0
AreOfStructs gs found names = (w : Text) → is_declared names w ≡ true → (n : ℕ) × (has_type gs code.TypeStruct n ≡ true) × (found (Id (id n)) ≡ Some w)
