use Rattle.std.proofs.Common.{Some, ap, refl, ◌∙◌}
use Rattle.traces.specs.Events.{AtomicOperation, Location, updating}
use Rattle.group_items.specs.Events.{location_of}
use Rattle.module_semantics.specs.Memory.{location}
use Rattle.module_semantics.specs.Steps.{atomic_operation, set_found}
use Rattle.memory_places.specs.Kernel.{setting_for}
use Rattle.run_state.specs.Confs.{conf_of, behind}
use Rattle.run_acts.specs.Narrowed.{narrowed, narrow_access}
use Rattle.run_memory.specs.Outcomes.{updated_by}
use Rattle.run_memory.proofs.atomics.atomic_step.Goals as goal

pub returns-in-None : goal.returns-in-None
returns-in-None c = λ told.
    let s = setting_for c.args.site.now.map.now told in
    let fs = c.args.site.now.map.now.of.functions in
    let d = conf_of fs c.args.conf.now in
    let rest = behind fs c.args.conf.now in
    (ap narrowed (c.in_ok-update_of.ensures told fs rest ∙ ap (updated_by s d rest c.args.site.now.inst.now c.args.op) c.in-None.is), refl)

pub returns-in_ok-place-in-Some : goal.returns-in_ok-place-in-Some
returns-in_ok-place-in-Some c = λ told.
    let s = setting_for c.args.site.now.map.now told in
    let fs = c.args.site.now.map.now.of.functions in
    let d = conf_of fs c.args.conf.now in
    let rest = behind fs c.args.conf.now in (
      narrow_access (updating (atomic_operation c.args.op) (location s c.in-Some.update.variable.now c.in-Some.update.path.now) c.in-Some.update.operands.items),
      (
        set_found d rest c.args.site.now.inst.now c.args.op,
        (
          ap narrowed (c.in_ok-update_of.ensures told fs rest ∙ ap (updated_by s d rest c.args.site.now.inst.now c.args.op) c.in-Some.is),
          (
            ap (λ (o : AtomicOperation). Some (updating o (location_of c.in_ok-place-in-Some.place) c.in-Some.update.operands.items)) c.atomic_kind.ensures
                ∙ ap (λ (l : Location). Some (updating (atomic_operation c.args.op) l c.in-Some.update.operands.items)) (c.in_ok-place-in-Some.ensures told),
            refl,
          ),
        ),
      ),
    )
