-- Steps that ask for no words: whatever words are told, they leave all as it was.
use Rattle.std.proofs.Common.{◌≡◌, ℕ, Bool, true, false, List, [], ◌∷◌, refl, drop}
use Rattle.std.specs.Prelude.{Option, Some, None, slice_get, option_and_then}
use Rattle.spv_ops.specs.declared.AtomicOp.{AtomicOp}
use Rattle.spv_ops.specs.declared.OpGroup.{OpGroup}
use Rattle.spv_ops.specs.declared.OpGroup.TheVariants as groups
use Rattle.spv_ops.specs.declared.Terminator.{Terminator}
use Rattle.spv_ops.specs.declared.Terminator.TheVariants as ends
use Rattle.spv_module.specs.declared.inst.Inst.{Inst}
use Rattle.spv_types.specs.Tree.{ValueTree}
use Rattle.spv_index.specs.Locals.{block_in}
use Rattle.op_semantics.specs.Component.{each_one}
use Rattle.op_semantics.specs.Composite.{inserted}
use Rattle.profile_rules.specs.Entry.{function_of}
use Rattle.profile_rules.specs.MemoryRules.{pointee_of}
use Rattle.traces.specs.Events.{Event}
use Rattle.traces.specs.Runs.{Act, goes}
use Rattle.module_semantics.specs.Setting.{Setting}
use Rattle.module_semantics.specs.State.{Conf, Frame}
use Rattle.module_semantics.specs.Memory.{are_allowed}
use Rattle.module_semantics.specs.Operands.{Target, arg, held, value_at, word_at, pointer_at, words_at}
use Rattle.module_semantics.specs.Accesses.{seen, kept}
use Rattle.module_semantics.specs.Steps.{with_some, set_value, computed, operation_step, base, lead_if, chain_step, length_step, variable_step, store_to, store_step, memory_barrier_step, control_barrier_step, call_step, return_step, given_to, return_value_step, target_label, phi_value, phis, present_label, edge_step, branch_step, step_at_end, step_in, step_by}
use Rattle.run_acts.specs.Narrowed.{narrowed, told_words}

abbrev pub IsQuiet : Act Conf → Type 0
IsQuiet a = (words : List ℕ) (d : Conf) → told_words (narrowed a) words d ≡ d

goes_quiet : (es : List Event) (c : Conf) → IsQuiet (goes es c)
goes_quiet es c = λ words d. refl

some_quiet : {A : Type 0} (o : Option A) (f : A → Act Conf) → ((a : A) → IsQuiet (f a)) → IsQuiet (with_some o f)
some_quiet None f h = λ words d. refl
some_quiet (Some a) f h = h a

-- a value that is the result
pub value_quiet : (c : Conf) (rest : List Inst) (i : Inst) (o : Option ValueTree) → IsQuiet (with_some o (λ v. goes [] (set_value c rest i v)))
value_quiet c rest i o = some_quiet o _ (λ v. goes_quiet [] (set_value c rest i v))

lead_quiet : (b : Bool) (c : Conf) (rest : List Inst) (i : Inst) (p : Target) (indexes : List ℕ) → IsQuiet (lead_if b c rest i p indexes)
lead_quiet true c rest i p indexes = λ words d. refl
lead_quiet false c rest i p indexes = λ words d. refl

given_quiet : (v : ValueTree) (c : Conf) (below : List (Frame × ℕ)) → IsQuiet (given_to v c below)
given_quiet v c [] = λ words d. refl
given_quiet v c (b ∷ below) = λ words d. refl

return_quiet : (c : Conf) (below : List (Frame × ℕ)) → IsQuiet (return_step c below)
unfolding return_step
return_quiet c [] = λ words d. refl
return_quiet c (b ∷ below) = λ words d. refl

module _ (s : Setting) (c : Conf) (rest : List Inst) where
  store_to_quiet : (p : Target) (v : ValueTree) (o : Option Inst) → IsQuiet (store_to s c rest p v o)
  store_to_quiet p v (Some var) = λ words d. refl
  store_to_quiet p v None = some_quiet (option_and_then (inserted v p.1) (kept s c p.0)) _ (λ whole words d. refl)

module _ (s : Setting) (c : Conf) (rest : List Inst) (i : Inst) where
  operation_quiet : IsQuiet (operation_step s c rest i)
  unfolding operation_step
  operation_quiet = value_quiet c rest i (computed s c.top i)

  chain_quiet : IsQuiet (chain_step s c rest i)
  unfolding chain_step
  chain_quiet =
      some_quiet (pointer_at s c.top (base i)) _ (λ p.
      some_quiet (words_at s c.top (drop 1 i.args)) _ (λ indexes.
      some_quiet (pointee_of s.of.globals c.top.function (base i)) _ (λ ty. lead_quiet (are_allowed s ty indexes) c rest i p indexes)))

  length_quiet : IsQuiet (length_step s c rest i)
  unfolding length_step
  length_quiet = some_quiet (pointer_at s c.top (arg i 0)) _ (λ p. some_quiet (seen s p.0) _ (λ v words d. refl))

  variable_quiet : IsQuiet (variable_step s c rest i)
  unfolding variable_step
  variable_quiet = some_quiet (c.top.variables i.result) _ (λ v words d. refl)

  store_quiet : IsQuiet (store_step s c rest i)
  unfolding store_step
  store_quiet = some_quiet (pointer_at s c.top (arg i 0)) _ (λ p. some_quiet (value_at s c.top (arg i 1)) _ (λ v. store_to_quiet s c rest p v (seen s p.0)))

  memory_barrier_quiet : IsQuiet (memory_barrier_step s c rest i)
  unfolding memory_barrier_step
  memory_barrier_quiet = some_quiet (word_at s c.top (arg i 1)) _ (λ w words d. refl)

  control_barrier_quiet : IsQuiet (control_barrier_step s c rest i)
  unfolding control_barrier_step
  control_barrier_quiet = some_quiet (word_at s c.top (arg i 2)) _ (λ w words d. refl)

  call_quiet : IsQuiet (call_step s c rest i)
  unfolding call_step
  call_quiet = some_quiet (function_of s.of.functions (arg i 0)) _ (λ f. some_quiet (each_one (held s c.top) (drop 1 i.args)) _ (λ arguments words d. refl))

  return_value_quiet : IsQuiet (return_value_step s c i)
  unfolding return_value_step
  return_value_quiet = some_quiet (value_at s c.top (arg i 0)) _ (λ v. given_quiet v c c.below)

  edge_quiet : (label : ℕ) → IsQuiet (edge_step s c label)
  unfolding edge_step
  edge_quiet label =
      some_quiet (block_in c.top.function label) _ (λ t.
      some_quiet (slice_get c.top.function.blocks t) _ (λ b.
      some_quiet (each_one (phi_value s c.top (present_label c.top)) (phis b)) _ (λ values words d. refl)))

  branch_quiet : (o : Terminator) → IsQuiet (branch_step o s c i)
  unfolding branch_step
  branch_quiet o = some_quiet (target_label o s c.top i) _ edge_quiet

  end_quiet : (o : Terminator) → IsQuiet (step_by (step_at_end o) s c rest i)
  end_quiet ends.Branch = branch_quiet ends.Branch
  end_quiet ends.BranchConditional = branch_quiet ends.BranchConditional
  end_quiet ends.Switch = branch_quiet ends.Switch
  end_quiet ends.Return = return_quiet c c.below
  end_quiet ends.ReturnValue = return_value_quiet
  end_quiet ends.Unreachable = λ words d. refl

  -- no instruction asks for words but loads and atomic instructions
  pub others_quiet : (g : OpGroup) → (g ≡ groups.Load → ⊥) → ((o : AtomicOp) → g ≡ groups.Atomic o → ⊥) → IsQuiet (step_by (step_in g) s c rest i)
  others_quiet groups.Load load atomic = absurd (load refl)
  others_quiet (groups.Atomic o) load atomic = absurd (atomic o refl)
  others_quiet groups.Variable load atomic = variable_quiet
  others_quiet groups.Store load atomic = store_quiet
  others_quiet groups.Chain load atomic = chain_quiet
  others_quiet groups.ArrayLength load atomic = length_quiet
  others_quiet groups.ControlBarrier load atomic = control_barrier_quiet
  others_quiet groups.MemoryBarrier load atomic = memory_barrier_quiet
  others_quiet groups.Call load atomic = call_quiet
  others_quiet groups.Merge load atomic = λ words d. refl
  others_quiet (groups.Terminator o) load atomic = end_quiet o
  others_quiet g load atomic = operation_quiet
