use Rattle.std.proofs.Common.{◌≡◌, None, false, arith, sym, subst, ◌∙◌}
use Rattle.std.specs.List.{find, list_any}
use Rattle.std.proofs.lemmas.Bool.{or_parts}
use Rattle.std.proofs.lemmas.Grind.{common_steps}
use Rattle.id_map.specs.Entries.{is_in}
use Rattle.profile_rules.specs.AccessRules.{breaks, access_rules}
use Rattle.access_check.specs.Accesses.{Surrounded}
use Rattle.access_check.specs.Pointed.{is_access}
use Rattle.access_check.proofs.Pointed.{nothing_broken}
use Rattle.access_check.proofs.accesses.Judged.broken_rule.Goals as goal

pub returns-else-may_break : goal.returns-else-may_break
returns-else-may_break c =
    let i = c.args.inst.now in
    let known = is_in c.self.inside.pointers.now in
    let other : c.may_break.result ≡ false = grind (arith, common_steps, c.if-may_break.false) in
    let parts = or_parts (is_access i) (list_any known i.args) (sym c.may_break.ensures ∙ other) in
    let P : Surrounded → Type 0 = λ s. None ≡ find (λ r. breaks s.heads s.globals s.function r i) access_rules in
    subst P c.self.view_is (sym (nothing_broken c.self.inside.decor.now c.self.inside.module.now.globals c.self.inside.locals.now known c.self.invariant.1 i parts.0 parts.1))
