use Rattle.std.proofs.Common.{◌≡◌, true, false, sym, ◌∙◌, arith}
use Rattle.std.specs.BTreeMap.{get}
use Rattle.std.specs.Ordering.{nat_cmp}
use Rattle.spv_ops.specs.Opcode.{is}
use Rattle.spv_ops.specs.declared.Op.TheVariants as code
use Rattle.spv_module.specs.declared.inst.Inst.{Inst}
use Rattle.type_rules.proofs.Imports.{import_more, other_more}
use Rattle.type_rules.proofs.index.imports_of.Goals as goal
use Rattle.type_rules.proofs.index.imports_of.Goals.{then-eq+in_ok-put_first, else-eq}

pub loop-head-preserved : goal.loop-head-preserved
loop-head-preserved c =
    let x : Inst = c.head-item.result in
    elim c.if-eq.branch [
      | then-eq+in_ok-put_first w ↦
          let is_one : (is x.op code.ExtInstImport) ≡ true = sym c.eq.ensures ∙ w.if-eq.true in
          rw w.imports-is (import_more c.args.heads.now c.loop-head.head-index x (get nat_cmp c.loop-head.imports) (get nat_cmp w.put_first.new.map) (omega arith) c.head-item.is is_one c.loop-head.invariant w.in_ok-put_first.ensures)
      | else-eq w ↦
          let is_none : (is x.op code.ExtInstImport) ≡ false = sym c.eq.ensures ∙ w.if-eq.false in
          rw w.imports-is (other_more c.args.heads.now c.loop-head.head-index x (get nat_cmp c.loop-head.imports) (omega arith) c.head-item.is is_none c.loop-head.invariant)
    ]
