-- The labels to which control goes, by the end of the block.
use Rattle.std.proofs.Common.{◌≡◌, ℕ, Bool, ap, sym, ◌∙◌, drop}
use Rattle.std.specs.Prelude.{Option, option_map, if◌then◌else◌}
use Rattle.spv_ops.specs.declared.Terminator.{Terminator}
use Rattle.spv_ops.specs.declared.Terminator.TheVariants as ends
use Rattle.spv_module.specs.declared.inst.Inst.{Inst}
use Rattle.module_semantics.specs.Setting.{Setting}
use Rattle.module_semantics.specs.State.{Frame}
use Rattle.module_semantics.specs.Operands.{arg, truth_at, word_at}
use Rattle.module_semantics.specs.Steps.{case_label, target_label}

module _ (s : Setting) (f : Frame) (i : Inst) (end : Terminator) (label : Option ℕ) where
  pub label_chosen : (condition : Option Bool) (id a b : ℕ) → end ≡ ends.BranchConditional → id ≡ arg i 0 → a ≡ arg i 1 → b ≡ arg i 2 → condition ≡ truth_at s f id → label ≡ option_map (λ t. if t then a else b) condition → label ≡ target_label end s f i
  label_chosen condition id a b is id_is a_is b_is found h =
      h
      ∙ ap (option_map (λ t. if t then a else b)) (found ∙ ap (truth_at s f) id_is)
      ∙ ap (λ n. option_map (λ t. if t then n else b) (truth_at s f (arg i 0))) a_is
      ∙ ap (λ n. option_map (λ t. if t then arg i 1 else n) (truth_at s f (arg i 0))) b_is
      ∙ ap (λ e. target_label e s f i) (sym is)

  pub label_switched : (selector : Option ℕ) (id : ℕ) → end ≡ ends.Switch → id ≡ arg i 0 → selector ≡ word_at s f id → label ≡ option_map (λ w. case_label w (arg i 1) (drop 2 i.args)) selector → label ≡ target_label end s f i
  label_switched selector id is id_is found h =
      h
      ∙ ap (option_map (λ w. case_label w (arg i 1) (drop 2 i.args))) (found ∙ ap (word_at s f) id_is)
      ∙ ap (λ e. target_label e s f i) (sym is)
