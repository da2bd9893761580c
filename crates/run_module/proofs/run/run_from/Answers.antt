use Rattle.std.proofs.Common.{◌≡◌, ◌∙◌, ◌<◌, ◌*◌, ℕ, List, Option, ap, map, refl, string_bytes, subst, sym}
use Rattle.std.specs.BTreeMap.{get}
use Rattle.std.specs.Ordering.{nat_cmp}
use Rattle.traces.specs.Invocations.{Triple}
use Rattle.profile_rules.specs.declared.given.Given.{Given}
use Rattle.profile_rules.specs.declared.size.SizePart.{SizePart}
use Rattle.module_check.specs.Asked.{asked}
use Rattle.memory_places.specs.Kernel.{Kernel}
use Rattle.dispatch_semantics.specs.Grid.{product}
use Rattle.group_items.specs.Schedule.{IsTooMuch}
use Rattle.dispatch_case.specs.Three.{triple_of}
use Rattle.dispatch_case.specs.Cases.{parts_of}
use Rattle.group_sched.specs.Start.{setup_of}
use Rattle.run_lines.specs.Said.{IsSaid, walks}
use Rattle.spv_run.specs.Runs.{Takes, walk}
use Rattle.run_module.specs.Runs.{given_words, part_word, workgroup_size}
use Rattle.run_module.proofs.Words.{constants_same}
use Rattle.run_module.proofs.Ran.{said_here, much_here}
use Rattle.run_module.proofs.run.run_from.Goals as goal

pub run_program-requires-clause-takes : goal.run_program-requires-clause-takes
run_program-requires-clause-takes c =
    let pairs = c.args.options.now.overrides.pairs.items in
    let special = get nat_cmp c.in_ok-special.special in
    let given : (id : ℕ) → special id ≡ given_words pairs id = λ id. c.in_ok-special.ensures id ∙ ap (λ (ps : List (ℕ × Given)). given_words ps id) c.as_slice.ensures.value in
    subst (λ (k : Kernel). Takes k special) (sym (c.in_ok-program.ensures ∙ c.in_ok-map.ensures)) (λ id. sym (constants_same c.args.«module».now pairs special given id) ∙ sym (c.in_ok-constants.ensures.values id))

pub returns-in-Ok-clause-run : goal.returns-in-Ok-clause-run
returns-in-Ok-clause-run c =
    let m = c.args.«module».now in
    let entry = c.args.entry.now.function.0 in
    let pairs = c.args.options.now.overrides.pairs.items in
    let k = parts_of c.args.case.now in
    let special = get nat_cmp c.in_ok-special.special in
    let size = triple_of c.size_of-size.result in
    let given : (id : ℕ) → special id ≡ given_words pairs id = λ id. c.in_ok-special.ensures id ∙ ap (λ (ps : List (ℕ × Given)). given_words ps id) c.as_slice.ensures.value in
    let is = c.size_of-size.ensures ∙ ap (λ (parts : List SizePart). triple_of (map (part_word special) parts)) (c.as_slice-2.ensures.value ∙ c.requires.size) in
    said_here c.requires.read.bytes m (asked c.args.options.now) c.requires.read.is c.requires.passes entry pairs c.in_ok-constants.constants k special c.in_ok-constants.ensures.values size (string_bytes c.in-Ok.lines) given is
    (subst (λ (p : Kernel). IsSaid k size special (walks (walk p) k.steps) (string_bytes c.in-Ok.lines)) (c.in_ok-program.ensures ∙ c.in_ok-map.ensures) c.in-Ok.ensures.said)

pub returns-in-Err-Invocations-clause-run : goal.returns-in-Err-Invocations-clause-run
returns-in-Err-Invocations-clause-run c =
    let m = c.args.«module».now in
    let entry = c.args.entry.now.function.0 in
    let pairs = c.args.options.now.overrides.pairs.items in
    let groups = triple_of c.args.case.now.groups in
    let special = get nat_cmp c.in_ok-special.special in
    let given : (id : ℕ) → special id ≡ given_words pairs id = λ id. c.in_ok-special.ensures id ∙ ap (λ (ps : List (ℕ × Given)). given_words ps id) c.as_slice.ensures.value in
    let is = c.size_of-size.ensures ∙ ap (λ (parts : List SizePart). triple_of (map (part_word special) parts)) (c.as_slice-2.ensures.value ∙ c.requires.size) in
    let many = c.in-Err-Invocations.ensures.invocations (rw c.in-Err-Invocations.field-0-is refl) in
    subst (λ (s : ℕ → Option ℕ). 1024 < product groups * product (workgroup_size m s entry)) (λ i id. given id i) (subst (λ (s : Triple). 1024 < product groups * product s) is many)

pub returns-in-Err-Events-clause-run : goal.returns-in-Err-Events-clause-run
returns-in-Err-Events-clause-run c =
    let m = c.args.«module».now in
    let entry = c.args.entry.now.function.0 in
    let pairs = c.args.options.now.overrides.pairs.items in
    let k = parts_of c.args.case.now in
    let special = get nat_cmp c.in_ok-special.special in
    let size = triple_of c.size_of-size.result in
    let given : (id : ℕ) → special id ≡ given_words pairs id = λ id. c.in_ok-special.ensures id ∙ ap (λ (ps : List (ℕ × Given)). given_words ps id) c.as_slice.ensures.value in
    let is = c.size_of-size.ensures ∙ ap (λ (parts : List SizePart). triple_of (map (part_word special) parts)) (c.as_slice-2.ensures.value ∙ c.requires.size) in
    let much = c.in-Err-Events.ensures.events (rw c.in-Err-Events.field-0-is refl) in
    much_here c.requires.read.bytes m (asked c.args.options.now) c.requires.read.is c.requires.passes entry pairs c.in_ok-constants.constants k special c.in_ok-constants.ensures.values size given is
    (subst (λ (p : Kernel). IsTooMuch (setup_of k size special) (walks (walk p) k.steps) k.first) (c.in_ok-program.ensures ∙ c.in_ok-map.ensures) much)
