use Rattle.std.proofs.Common.{◌≡◌, ℕ, List, ap, subst, ◌∙◌}
use Rattle.std.specs.List.{list_any}
use Rattle.id_map.specs.Entries.{is_in}
use Rattle.spv_module.specs.State.{ModuleState}
use Rattle.text_rules.specs.Constants.{Source}
use Rattle.text_rules.specs.Printed.{needed_from, type_has_struct}
use Rattle.text_items.specs.State.{functions_at, needed_first, types_by}
use Rattle.text_items.proofs.Laws.{holding}
use Rattle.text_items.proofs.written.Written.of.Goals as goal

pub invariant_of-result : goal.invariant_of-result
invariant_of-result c =
    let s : Source = c.args.readings.now in
    let ids = c.in_ok-operand_ids.operand_ids in
    let constants = c.in_ok-needed.needed in
    let needed = subst (λ (ms : List ℕ). (id : ℕ) → is_in constants id ≡ needed_from s (needed_first s (is_in ids) ms) s.of.globals id) c.as_slice.ensures.value c.in_ok-needed.ensures in
    let structs = c.in_ok-structs.structs in
    let types_are : c.in_ok-types.types.items ≡ types_by s (is_in ids) (is_in constants) (functions_at c.args.functions.now) c.args.live.now.types.items =
    c.in_ok-types.ensures ∙ ap (types_by s (is_in ids) (is_in constants) (functions_at c.args.functions.now)) c.as_slice-live_types.ensures.value in
    let found = subst (λ (m : ModuleState). (id : ℕ) → is_in structs id ≡ list_any (type_has_struct m.globals id) c.as_slice-2.result.now) c.module.ensures c.in_ok-structs.ensures in
    let types = subst (λ (ts : List ℕ). (id : ℕ) → is_in structs id ≡ list_any (type_has_struct s.of.globals id) ts) (c.as_slice-2.ensures.value ∙ types_are) found in
    holding s (functions_at c.args.functions.now) c.args.live.now.types.items c.args.live.now.mentions.items ids constants structs c.in_ok-operand_ids.ensures needed types
