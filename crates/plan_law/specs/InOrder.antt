-- What the rules on ids and on operands (P3, T1) say of the instructions of a function, as their order needs it.
use Rattle.std.specs.Prelude.{◌≡◌, ◌≤◌, ◌+◌, ◌⊎◌, ℕ, false, List, [], ◌∷◌, None}
use Rattle.spv_module.specs.Held.{global}
use Rattle.spv_module.specs.State.{ModuleState}
use Rattle.spv_module.specs.declared.inst.Inst.{Inst}
use Rattle.spv_module.specs.declared.inst.Function.{Function}
use Rattle.spv_index.specs.Locals.{insts_of, parameter_in}
use Rattle.profile_rules.specs.Operands.{breaks_t1_in}

-- it is one of these
abbrev pub IsAmong : Inst → List Inst → Type 0
IsAmong i [] = ⊥
IsAmong i (j ∷ js) = (j ≡ i) ⊎ IsAmong i js

-- each stands behind the one before it, the first at this word or behind it
abbrev pub AreRising : ℕ → List Inst → Type 0
AreRising n [] = Unit {0}
AreRising n (i ∷ is) = (n ≤ i.at) × AreRising (i.at + 1) is

-- none of them has this result
abbrev pub HaveNot : ℕ → List Inst → Type 0
HaveNot id [] = Unit {0}
HaveNot id (i ∷ is) = (i.result ≡ id → ⊥) × HaveNot id is

-- each result is that of one of them; 0 is none
abbrev pub AreApart : List Inst → Type 0
AreApart [] = Unit {0}
AreApart (i ∷ is) = ((i.result ≡ 0 → ⊥) → HaveNot i.result is) × AreApart is

-- the id is none of a global, and none of a parameter
pub record IsOwn (m : ModuleState) (f : Function) (id : ℕ) : Type 0 where
  pub inside : global m.globals id ≡ None
  pub made : parameter_in f id ≡ None

-- the instructions of a function stand in text order, each result is that of one instruction alone, and none breaks T1
pub record AreInOrder (m : ModuleState) (f : Function) : Type 0 where
  pub rising : AreRising 0 (insts_of f)
  pub apart : AreApart (insts_of f)
  pub own : (i : Inst) → IsAmong i (insts_of f) → (i.result ≡ 0 → ⊥) → IsOwn m f i.result
  pub there : (i : Inst) → IsAmong i (insts_of f) → breaks_t1_in m f i ≡ false
