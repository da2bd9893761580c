-- What operations, lengths and variables of functions do.
use Rattle.std.proofs.Common.{◌≡◌, ℕ, List, [], refl, ap, ◌∙◌}
use Rattle.std.specs.Prelude.{Option, Some, None, option_and_then}
use Rattle.spv_module.specs.declared.inst.Inst.{Inst}
use Rattle.spv_types.specs.Tree.{ValueTree, word}
use Rattle.traces.specs.Runs.{Act, goes, fails}
use Rattle.module_semantics.specs.Setting.{Setting}
use Rattle.module_semantics.specs.Memory.{elements}
use Rattle.module_semantics.specs.State.{Held, value, pointer, own, Conf}
use Rattle.module_semantics.specs.Operands.{Target, pointer_at, arg}
use Rattle.module_semantics.specs.Accesses.{seen}
use Rattle.module_semantics.specs.Steps.{with_some, set, set_value, computed, operation_step, length_step, variable_step}
use Rattle.run_acts.specs.Narrowed.{narrowed}

module _ (s : Setting) (c : Conf) (rest : List Inst) (i : Inst) where
  -- an operation
  abbrev operation_is : Option ValueTree → Act Conf
  operation_is o = narrowed (with_some o (λ v. goes [] (set_value c rest i v)))

  pub operation_goes : (v : ValueTree) → Some v ≡ computed s c.top i → goes [] (set_value c rest i v) ≡ narrowed (operation_step s c rest i)
  unfolding operation_step
  operation_goes v is = ap operation_is is

  pub operation_fails : None ≡ computed s c.top i → fails ≡ narrowed (operation_step s c rest i)
  unfolding operation_step
  operation_fails is = ap operation_is is

  -- a length, of the variable that is seen from the operand
  abbrev seen_from : ℕ → Option Inst
  seen_from id = option_and_then (λ (p : Target). seen s p.0) (pointer_at s c.top id)

  length_by : (o : Option Target) (f : Inst → Act Conf) → with_some (option_and_then (λ (p : Target). seen s p.0) o) f ≡ with_some o (λ p. with_some (seen s p.0) f)
  length_by None f = refl
  length_by (Some p) f = refl

  abbrev length_is : Option Inst → ℕ → Act Conf
  length_is o member = narrowed (with_some o (λ v. goes [] (set_value c rest i (word (elements s v member)))))

  length_whole : (id member : ℕ) → id ≡ arg i 0 → member ≡ arg i 1 → length_is (seen_from id) member ≡ narrowed (length_step s c rest i)
  unfolding length_step
  length_whole id member first second =
      ap (λ n. length_is (seen_from n) member) first
      ∙ ap (λ n. length_is (seen_from (arg i 0)) n) second
      ∙ ap narrowed (length_by (pointer_at s c.top (arg i 0)) (λ v. goes [] (set_value c rest i (word (elements s v (arg i 1))))))

  pub length_goes : (id member n : ℕ) (v : Inst) (h : Held) → id ≡ arg i 0 → member ≡ arg i 1 → Some v ≡ option_and_then (λ (p : Target). seen s p.0) (pointer_at s c.top id) → n ≡ elements s v member → h ≡ value (word n) → goes [] (set c rest i h) ≡ narrowed (length_step s c rest i)
  length_goes id member n v h first second is count held =
      ap (λ h. goes [] (set c rest i h)) (held ∙ ap (λ n. value (word n)) count)
      ∙ ap (λ o. length_is o member) is
      ∙ length_whole id member first second

  pub length_fails : (id : ℕ) → id ≡ arg i 0 → None ≡ option_and_then (λ (p : Target). seen s p.0) (pointer_at s c.top id) → fails ≡ narrowed (length_step s c rest i)
  length_fails id first is = ap (λ o. length_is o (arg i 1)) is ∙ length_whole id (arg i 1) first refl

  -- a variable
  abbrev variable_is : Option ValueTree → Act Conf
  variable_is o = narrowed (with_some o (λ v. goes [] (set c rest i (pointer (own i.result) []))))

  pub variable_goes : (v : ValueTree) (path : List ℕ) → path ≡ [] → Some v ≡ c.top.variables i.result → goes [] (set c rest i (pointer (own i.result) path)) ≡ narrowed (variable_step s c rest i)
  unfolding variable_step
  variable_goes v path whole is = ap (λ (l : List ℕ). goes [] (set c rest i (pointer (own i.result) l))) whole ∙ ap variable_is is

  pub variable_fails : None ≡ c.top.variables i.result → fails ≡ narrowed (variable_step s c rest i)
  unfolding variable_step
  variable_fails is = ap variable_is is
