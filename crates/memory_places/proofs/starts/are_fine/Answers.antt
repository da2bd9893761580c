use Rattle.std.proofs.Common.{◌≡◌, ◌∙◌, true, false, List, ap, sym, get_or, rules}
use Rattle.std.specs.List.{list_all}
use Rattle.module_semantics.specs.Run.{have_values}
use Rattle.spv_module.specs.declared.inst.Inst.{Inst}
use Rattle.id_map.specs.Entries.{is_in}
use Rattle.memory_places.specs.Kernel.{bare_with, kernel, plain}
use Rattle.memory_places.specs.Mentions.{is_fine_by}
use Rattle.memory_places.proofs.Fine.{fine_are, unasked_fine, asked_fine, all_next, all_stop}
use Rattle.memory_places.proofs.starts.are_fine.Goals as goal
use Rattle.memory_places.proofs.starts.are_fine.Goals.{else-is_asked-via-then-is_asked+in_ok-has_value+else-not-branch, else-is_asked-via-else-is_asked}

pub loop-inst-init : goal.loop-inst-init
loop-inst-init c =
    let s = bare_with c.args.module.now c.args.values.now in
    let asked = is_in c.args.mentioned.now in
    ap (list_all (is_fine_by s asked)) c.globals-inst-items.ensures ∙ fine_are c.args.module.now c.args.entry c.args.values.now asked c.requires.mentioned

pub returns-then-not-branch : goal.returns-then-not-branch
returns-then-not-branch c =
    let s = bare_with c.args.module.now c.args.values.now in
    let asked = is_in c.args.mentioned.now in
    let gs : List Inst = c.globals-inst-items.result.now in
    let g : Inst = c.inst-item.result in
    let at : get_or gs c.loop-inst.inst-index g ≡ g = search rules in
    let off : c.in_ok-has_value.field-0 ≡ false = search rules in
    let here : is_fine_by s asked g ≡ false = asked_fine s asked g c.in_ok-has_value.field-0 (sym c.is_asked.ensures ∙ c.if-is_asked.true) c.in_ok-has_value.ensures ∙ off in
    all_stop (is_fine_by s asked) gs c.loop-inst.inst-index g (have_values (plain (kernel c.args.module.now c.args.entry c.args.values.now))) (search rules) c.loop-inst.invariant (ap (is_fine_by s asked) at ∙ here)

pub loop-inst-preserved : goal.loop-inst-preserved
loop-inst-preserved c =
    let s = bare_with c.args.module.now c.args.values.now in
    let asked = is_in c.args.mentioned.now in
    let gs : List Inst = c.globals-inst-items.result.now in
    let g : Inst = c.inst-item.result in
    let at : get_or gs c.loop-inst.inst-index g ≡ g = search rules in
    let here : is_fine_by s asked g ≡ true = elim c.else-is_asked.branch [
      | else-is_asked-via-then-is_asked+in_ok-has_value+else-not-branch w ↦
          let on : w.in_ok-has_value.field-0 ≡ true = search rules in
          asked_fine s asked g w.in_ok-has_value.field-0 (sym c.is_asked.ensures ∙ w.if-is_asked.true) w.in_ok-has_value.ensures ∙ on
      | else-is_asked-via-else-is_asked w ↦ unasked_fine s asked g (sym c.is_asked.ensures ∙ w.if-is_asked.false)
    ] in
    all_next (is_fine_by s asked) gs c.loop-inst.inst-index g (have_values (plain (kernel c.args.module.now c.args.entry c.args.values.now))) (search rules) c.loop-inst.invariant (ap (is_fine_by s asked) at ∙ here)
