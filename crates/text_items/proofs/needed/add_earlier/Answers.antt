use Rattle.std.proofs.Common.{◌≡◌, ◌∙◌, ℕ, ◌+◌, ◌-◌, ap, arith, drop, subst, sym}
use Rattle.id_map.specs.Entries.{is_in}
use Rattle.spv_module.specs.declared.inst.Inst.{Inst}
use Rattle.text_rules.specs.Printed.{needed_from, needed_with}
use Rattle.text_items.proofs.Built.{earlier_more}
use Rattle.text_items.proofs.needed.add_earlier.Goals as goal

pub loop-k-preserved : goal.loop-k-preserved
loop-k-preserved c = λ id.
    let s = c.args.readings.now in
    let first = is_in c.args.needed.now in
    let set = is_in c.loop-k.needed in
    let gs = c.args.globals.now in
    let at : c.loop-k.k - 1 + 1 ≡ c.loop-k.k = omega arith in
    c.in_ok-add_operands.ensures id
    ∙ (ap (λ (g : Inst). needed_with s set g id) c.index-globals-k.is
    ∙ earlier_more s first set gs (c.loop-k.k - 1) c.index-globals-k.result id (omega arith) (λ n. subst (λ (m : ℕ). set n ≡ needed_from s first (drop m gs) n) (sym at) (c.loop-k.invariant n)))
