-- No id is that of two things: what the names of a function need of its parameters, its results and the module's globals.
use Rattle.std.specs.Prelude.{◌≡◌, ℕ, true, None, Some, List}
use Rattle.spv_module.specs.Held.{global}
use Rattle.spv_module.specs.declared.inst.Inst.{Inst}
use Rattle.spv_module.specs.declared.inst.Function.{Function}
use Rattle.spv_index.specs.Locals.{inst_in}
use Rattle.call_law.specs.Known.{is_parameter}

pub record AreAlone (gs : List Inst) (f : Function) : Type 0 where
  pub parameters : (n : ℕ) → is_parameter f n ≡ true → (inst_in f n ≡ None) × (global gs n ≡ None)
  pub globals : (n : ℕ) (g : Inst) → global gs n ≡ Some g → inst_in f n ≡ None
