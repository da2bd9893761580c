-- The instruction that is next.
use Rattle.std.specs.Prelude.{ℕ, ◌≡◌, ◌+◌, ◌<◌, ◌^◌, List, ◌∷◌, drop}
use Rattle.spv_module.specs.declared.inst.Inst.{Inst}
use Rattle.spv_module.specs.declared.inst.Function.{Function}
use Rattle.memory_places.specs.Kernel.{Kernel}
use Rattle.run_state.specs.declared.conf.Conf.{Conf}
use Rattle.run_state.specs.Confs.{function_at, left_at, frame_of, behind}

-- it is the first behind so many, and there is a number for the place behind it
abbrev pub IsFirst : List Inst → ℕ → Inst → Type 0
IsFirst is at i = (drop at is ≡ i ∷ drop (at + 1) is) × (at + 1 < 2 ^ 64)

abbrev pub IsFirstAt : Function → ℕ → ℕ → Inst → Type 0
IsFirstAt f block at i = (left_at f block at ≡ i ∷ left_at f block (at + 1)) × (at + 1 < 2 ^ 64)

-- of the function of the present call
pub record IsNext (k : Kernel) (c : Conf) (f : Function) (i : Inst) : Type 0 where
  pub here : function_at k.of.functions c.top.function ≡ f
  pub next : (frame_of k.of.functions c.top).rest ≡ i ∷ behind k.of.functions c
  pub room : c.top.at + 1 < 2 ^ 64
