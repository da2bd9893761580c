use Rattle.std.proofs.Common.{◌≡◌, map, take}
use Rattle.std.specs.Prelude.{filter, option_map}
use Rattle.profile_rules.specs.Entry.{is_meant}
use Rattle.declaration_check.proofs.choice.meant_entries.Given as goal

abbrev pub invariant-loop-inst : goal.invariant-loop-inst
invariant-loop-inst l = map (λ i. i.now) l.list.items ≡ filter (is_meant (option_map (λ n. n.now) l.name)) (take l.inst-index l.inst-items)
