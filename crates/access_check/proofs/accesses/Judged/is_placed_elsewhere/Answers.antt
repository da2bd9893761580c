use Rattle.std.proofs.Common.{◌≡◌, true, false, rules, ap, sym, subst, ◌∙◌}
use Rattle.std.specs.Option.{option_map_or}
use Rattle.spv_ops.specs.Groups.{is_atomic}
use Rattle.spv_decor.specs.Rows.{word}
use Rattle.spv_index.specs.Locals.{type_in}
use Rattle.profile_rules.specs.declared.way.Way.TheVariants.{BufferBlock}
use Rattle.profile_rules.specs.MemoryRules.{is_through}
use Rattle.profile_rules.specs.AtomicRules.{leads_elsewhere}
use Rattle.access_check.specs.Accesses.{Surrounded}
use Rattle.access_check.proofs.accesses.Judged.is_placed_elsewhere.Goals as goal

pub returns-then-is_atomic : goal.returns-then-is_atomic
returns-then-is_atomic c =
    let i = c.args.inst.now in
    let gs = c.self.inside.module.now.globals in
    let f = c.self.inside.locals.now in
    let atomic : is_atomic i.op ≡ true = search rules in
    let P : Surrounded → Type 0 = λ s. c.is_on.result ≡ is_through s.heads s.globals s.function BufferBlock (word i 0) in
    let on : P c.args.self.now = search rules in
    let into = subst P (sym c.self.view_is) on in
    rw (← c.self.view_is, atomic)
    (c.has_other_place.ensures ∙ ap (λ b. option_map_or (leads_elsewhere gs i.op b) (type_in gs f (word i 0)) false) into)
