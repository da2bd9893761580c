use Rattle.std.proofs.Common.{◌≡◌, ◌<◌, ◌∙◌, List, length, subst, arith, get_or, rules}
use Rattle.std.specs.Prelude.{option_map}
use Rattle.std.specs.BTreeMap.{get}
use Rattle.std.specs.Ordering.{nat_cmp}
use Rattle.spv_module.specs.State.{ModuleState}
use Rattle.spv_module.specs.declared.inst.Inst.{Inst}
use Rattle.spv_types.specs.View.{value_of}
use Rattle.profile_rules.specs.TypeRules.{is_sound}
use Rattle.constant_values.specs.Held.{value_in, chosen_by}
use Rattle.constant_values.proofs.Evaluation.{value_next, sound_at}
use Rattle.constant_values.proofs.evaluate.evaluated.Goals as goal

pub loop-k-preserved : goal.loop-k-preserved
loop-k-preserved c =
    let m : ModuleState = c.args.«module».now in
    let given = chosen_by c.args.decor.now (get nat_cmp c.args.given.now) (get nat_cmp c.args.special.now) in
    let g = c.inst-item.result in
    let globals : c.globals-inst-items.result.now ≡ m.globals = search rules in
    let inside : c.loop-k.k < length m.globals = subst (λ (gs : List Inst). c.loop-k.k < length gs) globals (omega arith) in
    let own : g ≡ get_or m.globals c.loop-k.k g = search rules in
    let judged : c.is_marked-is_sound.result ≡ is_sound m g = c.is_marked-is_sound.ensures ∙ sound_at m given c.args.sound.now c.loop-k.k g c.requires inside own in
    λ q. value_next m given c.loop-k.k q g c.chosen_word-chosen.result c.is_marked-is_sound.result (value_in c.loop-k.values) (value_in c.put.new.values) (option_map value_of c.in_ok-value.value) inside own c.loop-k.invariant c.chosen_word-chosen.ensures judged c.in_ok-value.ensures.value (c.in_ok-put.ensures q)
