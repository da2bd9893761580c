use Rattle.std.proofs.Common.{arith, ◌≡◌, ◌&&◌, ◌||◌, ℕ, subst}
use Rattle.id_map.specs.Entries.{is_in}
use Rattle.spv_module.specs.declared.inst.Inst.{Inst}
use Rattle.profile_rules.specs.Places.{is_among}
use Rattle.profile_rules.specs.TypeForm.{parts_of}
use Rattle.declaration_check.proofs.HeldTypes.{held_step}
use Rattle.declaration_check.proofs.holders.held.Goals as goal

pub loop-left-preserved : goal.loop-left-preserved
loop-left-preserved c =
    let P : Inst → Type 0 = λ x. (id : ℕ) → is_in c.add_parts.new.set id ≡ (is_in c.loop-left.set id || (is_in c.loop-left.set x.result && is_among (parts_of x) id)) in
    let more = subst P c.index-globals-left.is c.in_ok-add_parts.ensures in
    record {
      inside = omega arith;
      holds = held_step c.globals-globals.result.now c.args.types.now c.loop-left.left c.index-globals-left.result (is_in c.loop-left.set) (is_in c.add_parts.new.set) (omega arith) c.loop-left.invariant.inside c.loop-left.invariant.holds more;
    }
