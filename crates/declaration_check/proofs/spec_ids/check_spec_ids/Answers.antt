use Rattle.std.proofs.Common.{arith, rules, ◌≡◌, ◌<◌, ◌≤◌, ℕ, true, false, List, Some, None, get_or, length, subst, sym, refl}
use Rattle.std.specs.Prelude.{Contains}
use Rattle.std.specs.BTreeSet.{contains}
use Rattle.std.specs.Ordering.{nat_cmp}
use Rattle.spv_ops.specs.Enumerants.{decoration_number}
use Rattle.spv_ops.specs.declared.Decoration.TheVariants as decoration
use Rattle.spv_module.specs.State.{ModuleState}
use Rattle.spv_module.specs.declared.inst.Inst.{Inst}
use Rattle.spv_decor.specs.Rows.{value_of}
use Rattle.profile_rules.specs.TypeForm.{p20}
use Rattle.declaration_check.proofs.SpecIds.{IsSeen, seen_other, seen_new, seen_twice, seen_end}
use Rattle.declaration_check.proofs.spec_ids.check_spec_ids.Goals as goal
use Rattle.declaration_check.proofs.spec_ids.check_spec_ids.Goals.{in-None, in-Some+else-contains+in_ok-add_id-in-Some}

pub loop-inst-preserved : goal.loop-inst-preserved
loop-inst-preserved c =
    let heads : List Inst = c.args.context.now.heads in
    let gs : List Inst = c.globals-inst-items.result.now in
    let i : ℕ = c.loop-inst.inst-index in
    let d : Inst = c.inst-item.result in
    let inside : i < length gs = omega arith in
    let is : d ≡ get_or gs i d = c.inst-item.is in
    let value : c.value.result ≡ value_of heads (get_or gs i d).result (decoration_number decoration.SpecId) = cc in
    elim c.match-value.branch [
      | in-None w ↦
          let none : value_of heads (get_or gs i d).result (decoration_number decoration.SpecId) ≡ None = cc in
          rw w.seen-is (seen_other heads gs i d (contains nat_cmp c.loop-inst.seen) inside c.loop-inst.invariant none)
      | in-Some+else-contains+in_ok-add_id-in-Some w ↦
          let own : value_of heads (get_or gs i d).result (decoration_number decoration.SpecId) ≡ Some w.in-Some.id = cc in
          let fresh : contains nat_cmp c.loop-inst.seen w.in-Some.id ≡ false = search rules in
          rw w.seen-is (seen_new heads gs i d (contains nat_cmp c.loop-inst.seen) inside c.loop-inst.invariant w.in-Some.id own (contains nat_cmp w.add_id.new.ids) fresh w.in_ok-add_id-in-Some.ensures)
    ]

pub returns-then-contains : goal.returns-then-contains
returns-then-contains c =
    let m : ModuleState = c.args.context.now in
    let i : ℕ = c.loop-inst.inst-index in
    let d : Inst = c.inst-item.result in
    let gs : List Inst = c.globals-inst-items.result.now in
    let same : gs ≡ m.globals = c.globals-inst-items.ensures in
    let is : d ≡ get_or m.globals i d = cc in
    let inside : i < length m.globals = (let P : List Inst → Type 0 = λ l. i < length l in subst P same (omega arith)) in
    let before : IsSeen m.heads m.globals i (contains nat_cmp c.loop-inst.seen) = (let P : List Inst → Type 0 = λ l. IsSeen m.heads l i (contains nat_cmp c.loop-inst.seen) in subst P same c.loop-inst.invariant) in
    let own : value_of m.heads (get_or m.globals i d).result (decoration_number decoration.SpecId) ≡ Some c.in-Some.id = cc in
    let there : contains nat_cmp c.loop-inst.seen c.in-Some.id ≡ true = search rules in
    let at = seen_twice m i d (contains nat_cmp c.loop-inst.seen) c.in-Some.id inside before own there in
    let P : Inst → Type 0 = λ x. Contains (p20 m) x.at in
    record { passes = tt; refused = (refl, subst P (sym is) at) }

pub returns : goal.returns
returns c =
    let m : ModuleState = c.args.context.now in
    let gs : List Inst = c.globals-inst-items.result.now in
    let same : gs ≡ m.globals = c.globals-inst-items.ensures in
    let i : ℕ = c.loop-inst.inst-index in
    let past : length m.globals ≤ i = (let P : List Inst → Type 0 = λ l. length l ≤ i in subst P same (omega arith)) in
    let before : IsSeen m.heads m.globals i (contains nat_cmp c.loop-inst.seen) = (let P : List Inst → Type 0 = λ l. IsSeen m.heads l i (contains nat_cmp c.loop-inst.seen) in subst P same c.loop-inst.invariant) in
    record { passes = seen_end m (contains nat_cmp c.loop-inst.seen) i past before; refused = tt }
