-- Atomic instructions, by what they change.
use Rattle.std.proofs.Common.{◌≡◌, ℕ, List, ap, sym, ◌∙◌}
use Rattle.std.specs.Prelude.{Option, Some, None}
use Rattle.spv_ops.specs.declared.AtomicOp.{AtomicOp}
use Rattle.spv_module.specs.declared.inst.Inst.{Inst}
use Rattle.traces.specs.Events.{updating}
use Rattle.traces.specs.Runs.{Act, asks, fails}
use Rattle.module_semantics.specs.Setting.{Setting}
use Rattle.module_semantics.specs.State.{Conf}
use Rattle.module_semantics.specs.Memory.{location}
use Rattle.module_semantics.specs.Operands.{Target, arg, pointer_at}
use Rattle.module_semantics.specs.Steps.{with_some, set_found, atomic_operation, atomic_operands, atomic_step}
use Rattle.run_memory.specs.Outcomes.{update_in, update_at}

module _ (s : Setting) (c : Conf) (rest : List Inst) (i : Inst) (o : AtomicOp) where
  pub atomic_there : (p : Target) (x : Act Conf) → Some p ≡ pointer_at s c.top (arg i 0) → update_at s c rest i o p ≡ x → atomic_step o s c rest i ≡ x
  unfolding atomic_step
  atomic_there p x is leads = ap (λ (q : Option Target). with_some q (update_at s c rest i o)) (sym is) ∙ leads

  pub atomic_nowhere : None ≡ pointer_at s c.top (arg i 0) → atomic_step o s c rest i ≡ fails
  unfolding atomic_step
  atomic_nowhere is = ap (λ (q : Option Target). with_some q (update_at s c rest i o)) (sym is)

  -- along a path, with operands that were found or not
  pub atomic_with : (path : List ℕ) (v : Inst) (q : Option (List ℕ)) → q ≡ atomic_operands o s c.top i → update_in s c rest i o path v ≡ with_some q (λ operands. asks (updating (atomic_operation o) (location s v path) operands) (set_found c rest i o))
  atomic_with path v q is = ap (λ (q : Option (List ℕ)). with_some q (λ operands. asks (updating (atomic_operation o) (location s v path) operands) (set_found c rest i o))) (sym is)
