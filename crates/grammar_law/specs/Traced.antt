-- What is known of the calls under way in a conforming module: that the block of each is reached, and to what its chains lead; and that values are of words.
use Rattle.std.specs.Prelude.{◌≡◌, ℕ, true}
use Rattle.spv_module.specs.declared.inst.Function.{Function}
use Rattle.structure_rules.specs.Graph.{nth, graph}
use Rattle.module_semantics.specs.Setting.{Setting}
use Rattle.module_semantics.specs.State.{Conf}
use Rattle.call_law.specs.Frames.{HoldsOfAll}
use Rattle.call_law.specs.Reached.{IsInReached}
use Rattle.global_law.specs.Chains.{AreLed}
use Rattle.typed_law.specs.Words.{IsStateOfWords}

-- edges lead there from the first block (SPIR-V 1.6, section 2.11)
abbrev pub IsReachedBlock : Function → ℕ → Type 0
IsReachedBlock f b = (nth (graph f) b).reached ≡ true

pub record IsTraced (s : Setting) (c : Conf) : Type 0 where
  pub reached : HoldsOfAll 0 (λ ds f. IsInReached s IsReachedBlock f) c
  pub led : HoldsOfAll 0 (AreLed s) c
  pub words : IsStateOfWords c
