-- Operands stand before what mentions them (SPIR-V 1.6, section 2.16.1), as the heights of expressions need it.
use Rattle.std.specs.Prelude.{◌≡◌, ◌⊎◌, ℕ, false, List, [], ◌∷◌, ◌++◌, IfSome, IsSomeAnd}
use Rattle.spv_ops.specs.Opcode.{is}
use Rattle.spv_ops.specs.declared.Op.TheVariants as code
use Rattle.spv_module.specs.declared.inst.Inst.{Inst}
use Rattle.spv_module.specs.declared.inst.Function.{Function}
use Rattle.use_chains.specs.declared.slot.SlotPlace.{SlotPlace}
use Rattle.hoist_plan.specs.Plan.{Placed, user}

-- at none of these places the instruction with this result mentions something
abbrev pub NoOperand : Function → ℕ → List SlotPlace → Type 0
NoOperand f n [] = Unit {0}
NoOperand f n (at ∷ places) = IfSome (user f at) (λ (i : Inst). i.result ≡ n → ⊥) × NoOperand f n places

-- it mentions none of these results, and is none of them
abbrev pub NoneMentioned : Function → ℕ → List Placed → Type 0
NoneMentioned f n [] = Unit {0}
NoneMentioned f n (p ∷ ps) = NoOperand f n p.mentions × NoneMentioned f n ps

abbrev pub NoneIs : ℕ → List Placed → Type 0
NoneIs n [] = Unit {0}
NoneIs n (p ∷ ps) = (p.result ≡ n → ⊥) × NoneIs n ps

-- the operands of each instruction stand before it, but of a phi; and each result is that of one instruction
pub record AreOrdered (f : Function) (ps : List Placed) : Type 0 where
  pub before : (front back : List Placed) (p : Placed) → ps ≡ front ++ p ∷ back → is p.op code.Phi ≡ false → NoneMentioned f p.result (p ∷ back)
  pub once : (front back : List Placed) (p : Placed) → ps ≡ front ++ p ∷ back → NoneIs p.result back

-- the instruction with this result mentions something at one of these places
abbrev pub IsOperand : Function → ℕ → List SlotPlace → Type 0
IsOperand f n [] = ⊥
IsOperand f n (at ∷ places) = IsSomeAnd (user f at) (λ (i : Inst). i.result ≡ n) ⊎ IsOperand f n places
