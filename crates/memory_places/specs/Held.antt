-- What `MemoryMap` keeps true of its fields.
use Rattle.std.specs.Prelude.{ℕ, ◌≡◌, Bool, List, Option}
use Rattle.std.specs.List.{All}
use Rattle.spv_module.specs.declared.inst.Inst.{Inst}
use Rattle.spv_types.specs.Limits.{AreWithin}
use Rattle.few_law.specs.Short.{HasFewArgs}
use Rattle.module_semantics.specs.Run.{have_values}
use Rattle.memory_places.specs.Kernel.{Kernel, plain}
use Rattle.memory_places.specs.Mentions.{AreNumbers}

pub record IsHeld (k : Kernel) (heads : List Inst) (place : ℕ → Option ℕ) (fine : Bool) : Type 0 where
  pub heads_are : heads ≡ k.of.heads
  pub numbers : AreNumbers k.of k.entry place
  pub fine_is : fine ≡ have_values (plain k)
  pub types : AreWithin k.of.globals
  pub few : All HasFewArgs k.of.globals
