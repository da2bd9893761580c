-- Loads, by where they read.
use Rattle.std.proofs.Common.{◌≡◌, ℕ, List, [], ap, sym, ◌∙◌}
use Rattle.std.specs.Prelude.{Option, Some, None}
use Rattle.std.specs.Option.{option_map_or}
use Rattle.spv_module.specs.declared.inst.Inst.{Inst}
use Rattle.spv_types.specs.Tree.{Tree}
use Rattle.value_words.specs.Words.{value_from}
use Rattle.traces.specs.Events.{reading}
use Rattle.traces.specs.Runs.{Act, asks, fails}
use Rattle.module_semantics.specs.Setting.{Setting}
use Rattle.module_semantics.specs.State.{Conf, Root}
use Rattle.module_semantics.specs.Memory.{shape_along}
use Rattle.module_semantics.specs.Operands.{Target, arg, pointer_at}
use Rattle.module_semantics.specs.Accesses.{seen}
use Rattle.module_semantics.specs.Steps.{with_some, set_value, read_shape, load_from, load_step}
use Rattle.memory_places.specs.Leaves.{places_with}

module _ (s : Setting) (c : Conf) (rest : List Inst) (i : Inst) where
  pub load_there : (p : Target) (x : Act Conf) → Some p ≡ pointer_at s c.top (arg i 0) → load_from s c rest i p (seen s p.0) ≡ x → load_step s c rest i ≡ x
  unfolding load_step
  load_there p x is from = ap (λ (o : Option Target). with_some o (λ p. load_from s c rest i p (seen s p.0))) (sym is) ∙ from

  pub load_nowhere : None ≡ pointer_at s c.top (arg i 0) → load_step s c rest i ≡ fails
  unfolding load_step
  load_nowhere is = ap (λ (o : Option Target). with_some o (λ p. load_from s c rest i p (seen s p.0))) (sym is)

  pub part_of_shape : (r : Root) (v : Inst) (path : List ℕ) (t : Tree) → Some t ≡ shape_along s v path → load_from s c rest i (r, path) (Some v) ≡ asks (reading (places_with s v path t)) (λ words. set_value c rest i (value_from t words))
  part_of_shape r v path t is =
      ap (λ (o : Option Tree). with_some o (read_shape s c rest i v (r, path))) (sym is)
      ∙ ap (λ (o : Option Tree). asks (reading (option_map_or (places_with s v path) o [])) (λ words. set_value c rest i (value_from t words))) (sym is)

  pub part_without_shape : (r : Root) (v : Inst) (path : List ℕ) → None ≡ shape_along s v path → load_from s c rest i (r, path) (Some v) ≡ fails
  part_without_shape r v path is = ap (λ (o : Option Tree). with_some o (read_shape s c rest i v (r, path))) (sym is)
