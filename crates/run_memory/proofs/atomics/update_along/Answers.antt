use Rattle.std.proofs.Common.{ℕ, ap, sym, ◌∙◌, Vec, Global}
use Rattle.std.specs.Prelude.{Option, Some, None, option_map}
use Rattle.memory_places.specs.Kernel.{setting_for}
use Rattle.run_state.specs.Confs.{conf_of}
use Rattle.run_memory.proofs.Updating.{atomic_with}
use Rattle.run_memory.proofs.atomics.update_along.Goals as goal

pub returns-in-None : goal.returns-in-None
returns-in-None c = λ told fs rest.
    let s = setting_for c.args.site.now.map.now told in
    let d = conf_of fs c.args.conf.now in
    atomic_with s d rest c.args.site.now.inst.now c.args.op c.args.path.now c.args.variable.now None (sym (ap (λ (o : Option (Vec ℕ Global)). option_map (λ (l : Vec ℕ Global). l.items) o) c.in-None.is) ∙ (c.in_ok-words_from.ensures ∙ c.atomic_operands.ensures s d.top))

pub returns-in-Some : goal.returns-in-Some
returns-in-Some c = λ told fs rest.
    let s = setting_for c.args.site.now.map.now told in
    let d = conf_of fs c.args.conf.now in
    atomic_with s d rest c.args.site.now.inst.now c.args.op c.args.path.now c.args.variable.now (Some c.in-Some.operands.items) (sym (ap (λ (o : Option (Vec ℕ Global)). option_map (λ (l : Vec ℕ Global). l.items) o) c.in-Some.is) ∙ (c.in_ok-words_from.ensures ∙ c.atomic_operands.ensures s d.top))
