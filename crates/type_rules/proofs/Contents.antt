-- What a pointer points to, and the type of a value.
use Rattle.std.proofs.Common.{◌≡◌, ◌||◌, ℕ, Bool, true, false, List, Option, Some, None, refl, ap, sym, ◌∙◌}
use Rattle.std.specs.Option.{option_map_or}
use Rattle.spv_ops.specs.Opcode.{is}
use Rattle.spv_ops.specs.declared.Op.TheVariants as code
use Rattle.spv_module.specs.declared.inst.Inst.{Inst}
use Rattle.profile_rules.specs.TypeRows.{differ, value_fails}
use Rattle.profile_rules.specs.NumberRules.{pointee_of, points_to_other, is_no_content}

abbrev content_by : List Inst → (ℕ → Option ℕ) → ℕ → Option ℕ → Bool
content_by gs t pointer ty =
    value_fails (λ g. is g.op code.TypePointer) gs t pointer || option_map_or (λ p. option_map_or (differ gs p) ty false) (pointee_of gs t pointer) false

-- a value of this type, and one without a type
pub content_typed : (gs : List Inst) (t : ℕ → Option ℕ) (pointer id ty : ℕ) → t id ≡ Some ty → points_to_other gs t pointer ty ≡ is_no_content gs t pointer id
content_typed gs t pointer id ty is_one = ap (content_by gs t pointer) (sym is_one)

pub content_untyped : (gs : List Inst) (t : ℕ → Option ℕ) (pointer id : ℕ) → t id ≡ None → value_fails (λ g. is g.op code.TypePointer) gs t pointer ≡ is_no_content gs t pointer id
content_untyped gs t pointer id none =
    sym (only (value_fails (λ g. is g.op code.TypePointer) gs t pointer) (pointee_of gs t pointer)) ∙ ap (content_by gs t pointer) (sym none)
  where
    only : (b : Bool) (o : Option ℕ) → (b || option_map_or (λ (p : ℕ). false) o false) ≡ b
    only true o = refl
    only false None = refl
    only false (Some p) = refl

pub ruleset content_rules = (content_typed, content_untyped)
