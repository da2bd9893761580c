-- Results that stand once, and functions whose instructions stand in order and have results apart, from each other, from globals and from parameters.
use Rattle.std.specs.Prelude.{◌≡◌, ℕ, List, [], ◌∷◌}
use Rattle.spv_module.specs.declared.inst.Id.{Id}
use Rattle.spv_module.specs.declared.inst.Inst.{Inst}
use Rattle.spv_module.specs.declared.inst.Function.{Function}
use Rattle.spv_index.specs.Locals.{insts_of}
use Rattle.plan_law.specs.InOrder.{AreRising, HaveNot, AreApart}

-- it is none of these
abbrev pub IsNone : ℕ → List ℕ → Type 0
IsNone id [] = Unit {0}
IsNone id (r ∷ rs) = (r ≡ id → ⊥) × IsNone id rs

-- each result stands among them once; 0 is none
abbrev pub AreDistinct : List ℕ → Type 0
AreDistinct [] = Unit {0}
AreDistinct (r ∷ rs) = ((r ≡ 0 → ⊥) → IsNone r rs) × AreDistinct rs

-- the instructions of each function rise, and their results are apart
abbrev pub AllRise : List Function → Type 0
AllRise [] = Unit {0}
AllRise (f ∷ fs) = AreRising 0 (insts_of f) × AllRise fs

abbrev pub AllApart : List Function → Type 0
AllApart [] = Unit {0}
AllApart (f ∷ fs) = AreApart (insts_of f) × AllApart fs

-- no result of the first is one of the second; 0 is none
abbrev pub Avoid : List Inst → List Inst → Type 0
Avoid [] js = Unit {0}
Avoid (g ∷ gs) js = ((g.result ≡ 0 → ⊥) → HaveNot g.result js) × Avoid gs js

-- no parameter is a result of these
abbrev pub AreNone : List (Id × Id) → List Inst → Type 0
AreNone [] js = Unit {0}
AreNone (p ∷ ps) js = ((p.0.0 ≡ 0 → ⊥) → HaveNot p.0.0 js) × AreNone ps js

-- no global and no parameter of a function has a result of the function's instructions
abbrev pub AllAvoid : List Inst → List Function → Type 0
AllAvoid gs [] = Unit {0}
AllAvoid gs (f ∷ fs) = Avoid gs (insts_of f) × AllAvoid gs fs

abbrev pub AllNone : List Function → Type 0
AllNone [] = Unit {0}
AllNone (f ∷ fs) = AreNone f.params (insts_of f) × AllNone fs
