-- What instructions are judged by.
use Rattle.std.specs.Prelude.{ℕ, ◌≡◌, Bool, Option, Some, IfSome}
use Rattle.std.specs.BTreeMap.{BTreeMap}
use Rattle.spv_module.specs.declared.inst.Block.{Block}
use Rattle.spv_module.specs.declared.inst.Function.{Function}
use Rattle.type_rules.specs.Scopes.{Scoped}
use Rattle.type_rules.specs.Matches.{AreKnown}

-- the answers are right in this module, and the edges are those of this function
pub record IsJudge (s : Scoped) (known : BTreeMap (ℕ × ℕ) Bool) (edges : Option Function) : Type 0 where
  pub known_are : AreKnown s.m.globals known
  pub edges_are : IfSome edges (λ f. s.function ≡ Some f)

-- a function, and one of its blocks
pub record Stood : Type 0 where
  pub function : Function
  pub block : Block

abbrev pub stood : Function → Block → Stood
stood f b = record { function = f; block = b }
