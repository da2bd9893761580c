use Rattle.std.proofs.Common.{◌∙◌, ℕ, ◌<◌, ◌≤◌, ◌/◌, List, refl, sym, ap, subst, length, slice_index}
use Rattle.std.proofs.lemmas.List.{length-replicate, get_or-replicate}
use Rattle.std.proofs.lemmas.Nat.{div_below}
use Rattle.std.specs.BTreeMap.{get}
use Rattle.std.specs.Ordering.{nat_cmp}
use Rattle.dispatch_semantics.specs.Grid.{product, invocation}
use Rattle.group_items.specs.Sides.{bytes_in, keys_repeat, fresh}
use Rattle.dispatch_case.specs.Three.{triple_of}
use Rattle.dispatch_case.specs.Cases.{parts_of}
use Rattle.group_sched.specs.Start.{setup_of}
use Rattle.group_sched.proofs.Beginning.{begins}
use Rattle.group_sched.proofs.Fine.{groups_above, groups_small, sizes_apart, product_above, sides_small}
use Rattle.group_sched.proofs.start.begin.Goals as goal

pub begin_all-requires : goal.begin_all-requires
begin_all-requires g c κs within =
    let parts = parts_of c.args.case.now in
    let size = triple_of c.args.size in
    let e = c.requires.start.extent in
    let above = groups_above parts c.requires.start.fine in
    let few = subst (λ n. n ≤ 1024) e.count e.small in (
      within,
      (
        record {
          groups_are = refl;
          size_is = refl;
          above = (above, c.requires.start.above);
          small = (groups_small parts c.requires.start.fine, sides_small parts.groups size above c.requires.start.above few);
        },
        (
          e,
          (
            refl,
            (
              ap keys_repeat c.requires.sizes ∙ sizes_apart parts c.requires.start.fine,
              (refl, (c.requires.takes, c.requires.none)),
            ),
          ),
        ),
      ),
    )

pub first_memory-requires-clause-some : goal.first_memory-requires-clause-some
first_memory-requires-clause-some g c =
    subst (λ n. 0 < n) (sym c.requires.start.extent.groups) (product_above (triple_of c.args.case.now.groups) (groups_above (parts_of c.args.case.now) c.requires.start.fine))

pub returns-clause-at : goal.returns-clause-at
returns-clause-at g c =
    let parts = parts_of c.args.case.now in
    let size = triple_of c.args.size in
    let special = get nat_cmp c.args.inv.now.special in
    let e = c.requires.start.extent in
    let zeros = c.in_ok-zeros.ensures in
    begins (setup_of parts size special) (g.R.Runner.at c.begin_all.new.side)
    (record { group = c.args.extent.group; passed = c.in_ok-zeros.field-0; store = c.in_ok-first_memory.field-0; events = c.new.result; weight = 0 })
    (ap length zeros ∙ length-replicate c.args.extent.count 0 ∙ e.count)
    (λ i less. ap (λ (xs : List ℕ). slice_index xs i) zeros ∙ get_or-replicate c.args.extent.count i 0 0 (subst (λ n. i < n) (sym e.count) less))
    e.group
    (product_above size c.requires.start.above)
    (λ i less. subst (λ n. i / product size < n) (sym (c.in_ok-first_memory.ensures.rooms ∙ e.groups)) (div_below i (product size) (product parts.groups) (product_above size c.requires.start.above) less))
    (λ i less. c.in_ok-begin_all.ensures.begun i (subst (λ n. i < n) (sym e.count) less)
    ∙ ap (λ (zs : List (ℕ × ℕ × ℕ)). fresh (invocation (record { groups = parts.groups; size = size; buffer_bytes = bytes_in zs; specialization = special }) i)) c.requires.sizes)
    (sym c.in_ok-first_memory.ensures.words)
    c.new.ensures.items
    refl
