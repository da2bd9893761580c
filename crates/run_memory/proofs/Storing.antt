-- Stores, by where they lead.
use Rattle.std.proofs.Common.{◌≡◌, List, refl, ap, sym, ◌∙◌}
use Rattle.std.specs.Prelude.{Option, Some, None}
use Rattle.spv_module.specs.declared.inst.Inst.{Inst}
use Rattle.spv_types.specs.Tree.{ValueTree}
use Rattle.traces.specs.Runs.{Act, fails}
use Rattle.module_semantics.specs.Setting.{Setting}
use Rattle.module_semantics.specs.State.{Conf, Root}
use Rattle.module_semantics.specs.Operands.{Target, arg, pointer_at}
use Rattle.module_semantics.specs.Steps.{with_some, store_step}
use Rattle.run_acts.specs.Narrowed.{narrowed}
use Rattle.run_memory.specs.Outcomes.{kept_with, store_value}

-- no place is told where nothing is seen
pub kept_narrowed : (c : Conf) (rest : List Inst) (r : Root) (o : Option ValueTree) → narrowed (kept_with c rest r o) ≡ kept_with c rest r o
kept_narrowed c rest r None = refl
kept_narrowed c rest r (Some v) = refl

module _ (s : Setting) (c : Conf) (rest : List Inst) (i : Inst) where
  pub store_there : (p : Target) (x : Act Conf) → Some p ≡ pointer_at s c.top (arg i 0) → narrowed (store_value s c rest i p) ≡ x → narrowed (store_step s c rest i) ≡ x
  unfolding store_step
  store_there p x is leads = ap (λ (o : Option Target). narrowed (with_some o (store_value s c rest i))) (sym is) ∙ leads

  pub store_nowhere : None ≡ pointer_at s c.top (arg i 0) → narrowed (store_step s c rest i) ≡ fails
  unfolding store_step
  store_nowhere is = ap (λ (o : Option Target). narrowed (with_some o (store_value s c rest i))) (sym is)
