use Rattle.std.proofs.Common.{false, ℕ, ap, ◌∙◌}
use Rattle.std.specs.Option.{option_map_or}
use Rattle.spv_module.specs.State.{ModuleState}
use Rattle.profile_rules.specs.MemoryRules.{pointee_of}
use Rattle.module_semantics.specs.Memory.{are_allowed}
use Rattle.memory_places.specs.Kernel.{setting_for}
use Rattle.run_values.proofs.chains.allows.Goals as goal

pub returns-in-None : goal.returns-in-None
returns-in-None c = λ told. ap (λ o. option_map_or (λ (ty : ℕ). are_allowed (setting_for c.args.map.now told) ty c.args.indexes.now) o false) (c.in-None.ensures ∙ ap (λ (m : ModuleState). pointee_of m.globals c.args.locals.now c.args.id) c.module.ensures)

pub returns-in-Some : goal.returns-in-Some
returns-in-Some c = λ told.
    c.are_allowed.ensures told
    ∙ ap (λ o. option_map_or (λ (ty : ℕ). are_allowed (setting_for c.args.map.now told) ty c.args.indexes.now) o false) (c.in-Some.ensures ∙ ap (λ (m : ModuleState). pointee_of m.globals c.args.locals.now c.args.id) c.module.ensures)
