-- What is no terminator goes nowhere.
use Rattle.std.proofs.Common.{◌≡◌, ◌+◌, ℕ, false, List, [], ◌∷◌, map, cond, refl, ap, ◌∙◌}
use Rattle.std.specs.List.{filter, enumerate_from}
use Rattle.spv_ops.specs.Groups.{is_terminator}
use Rattle.spv_ops.specs.declared.Op.{Op}
use Rattle.spv_ops.specs.declared.Op.TheVariants as code
use Rattle.spv_module.specs.declared.inst.Inst.{Inst}
use Rattle.profile_rules.specs.FlowRules.{is_target, targets}

no_target : (o : Op) (k : ℕ) → is_terminator o ≡ false → is_target o k ≡ false
no_target code.Branch k other = cc
no_target code.BranchConditional k other = cc
no_target code.Switch k other = cc
no_target o k other = refl

goes_nowhere : (o : Op) (k : ℕ) (ws : List ℕ) → is_terminator o ≡ false → filter (λ (p : ℕ × ℕ). is_target o p.0) (enumerate_from k ws) ≡ []
goes_nowhere o k [] other = refl
goes_nowhere o k (w ∷ ws) other =
    let rest : List (ℕ × ℕ) = filter (λ (p : ℕ × ℕ). is_target o p.0) (enumerate_from (k + 1) ws) in
    ap (λ b. cond b ((k, w) ∷ rest) rest) (no_target o k other) ∙ goes_nowhere o (k + 1) ws other

-- what is no terminator goes nowhere
pub no_targets : (i : Inst) → is_terminator i.op ≡ false → targets i ≡ []
no_targets i other = ap (map (λ (p : ℕ × ℕ). p.1)) (goes_nowhere i.op 0 i.args other)
