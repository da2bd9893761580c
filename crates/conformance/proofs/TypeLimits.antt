-- Where each type is within the limits, none passes one.
use Rattle.std.proofs.Common.{◌≡◌, ◌≤◌, ℕ, List, Option, None, Some, refl, arith}
use Rattle.std.specs.Option.{option_map_or}
use Rattle.std.proofs.lemmas.List.Elements.{All-contains}
use Rattle.spv_words.specs.Limit.{limit_number}
use Rattle.spv_words.specs.declared.rule.Limit.{Limit}
use Rattle.spv_words.specs.declared.rule.Limit.TheVariants.{Types, Parts}
use Rattle.spv_module.specs.Held.{global}
use Rattle.spv_module.specs.declared.inst.Inst.{Inst}
use Rattle.spv_types.specs.Types.{depth_at, parts_at, IsAbove}
use Rattle.spv_types.specs.Limits.{AreWithin}
use Rattle.profile_rules.proofs.Globals.{found_global}
use Rattle.layout_rules.specs.Blocks.{SomeTypePasses}

above : (gs : List Inst) (id : ℕ) (found : Option Inst) → global gs id ≡ found → (l : Limit) → AreWithin gs → IsAbove (limit_number Types) (limit_number Parts) (option_map_or (depth_at gs) found 0) (option_map_or (parts_at gs) found 0) l → ⊥
above gs id None e Types within h = omega (arith, h)
above gs id None e Parts within h = omega (arith, h)
above gs id (Some g) e Types within h = let both = All-contains (λ (i : Inst). (depth_at gs i ≤ limit_number Types) × (parts_at gs i ≤ limit_number Parts)) gs g within (found_global gs id g e).0 in omega (arith, both.0, h)
above gs id (Some g) e Parts within h = let both = All-contains (λ (i : Inst). (depth_at gs i ≤ limit_number Types) × (parts_at gs i ≤ limit_number Parts)) gs g within (found_global gs id g e).0 in omega (arith, both.1, h)
above gs id found e _ within h = absurd h

pub none_passes : (gs : List Inst) (l : Limit) → AreWithin gs → SomeTypePasses gs l → ⊥
none_passes gs l within passes = above gs passes.0 (global gs passes.0) refl l within passes.1
