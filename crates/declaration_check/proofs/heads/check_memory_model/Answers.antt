use Rattle.std.proofs.Common.{◌≡◌, List, [], ◌∷◌}
use Rattle.std.specs.Prelude.{not}
use Rattle.spv_words.specs.declared.rule.Rule.TheVariants.{P7}
use Rattle.profile_rules.specs.Heads.{is_other_model, has_memory_model}
use Rattle.profile_rules.specs.Places.{when, places}
use Rattle.declaration_check.specs.Checked.{IsChecked}
use Rattle.declaration_check.proofs.Listed.{checked_found, checked_else}
use Rattle.declaration_check.proofs.heads.check_memory_model.Goals as goal

pub returns : goal.returns
returns c =
    let heads : List _ = c.args.context.now.heads in
    let second : IsChecked P7 (places is_other_model heads) c.refuse_at.result = checked_found P7 _ c.refuse_at.result is_other_model heads c.refuse_at.ensures c.first_other_model.ensures in
    let first : when (not (has_memory_model heads)) (0 ∷ []) ≡ [] = rw c.has_memory_model.ensures at (c.in_ok-refuse_if.ensures).passes in
    checked_else P7 (has_memory_model heads) (places is_other_model heads) c.refuse_at.result first second
