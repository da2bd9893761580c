-- Keys that are claimed, and have names.
use Rattle.std.specs.Prelude.{◌≡◌, ◌⊎◌, ℕ, true, List, [], ◌∷◌, Option, Some, is_some, slice_get}
use Rattle.spv_module.specs.declared.inst.Inst.{Inst}
use Rattle.spv_module.specs.declared.inst.Block.{Block}
use Rattle.name_alloc.specs.declared.claims.Key.{Key}
use Rattle.text_rules.specs.Claims.{Claim, Plan}

-- it stands in the list
abbrev pub IsIn : {A : Type 0} → A → List A → Type 0
IsIn x [] = ⊥
IsIn x (y ∷ ys) = (y ≡ x) ⊎ IsIn x ys

-- a claim has the key
abbrev pub HasKey : Key → List Claim → Type 0
HasKey key [] = ⊥
HasKey key (c ∷ cs) = (c.0 ≡ key) ⊎ HasKey key cs

-- the key has a name
abbrev pub HasName : (Key → Option (List ℕ)) → Key → Type 0
HasName found key = is_some (found key) ≡ true

-- the instruction stands in a block of the planned function
pub record IsOf (p : Plan) (i : Inst) : Type 0 where
  pub number : ℕ
  pub block : Block
  pub there : slice_get p.function.blocks number ≡ Some block
  pub among : IsIn i block.insts
