use Rattle.std.proofs.Common.{◌<◌, ◌≤◌, List, length, arith}
use Rattle.spv_module.specs.declared.inst.Inst.{Inst}
use Rattle.profile_rules.specs.FlowRules.{goes}
use Rattle.type_rules.proofs.Sources.{adds_more, adds_insts}
use Rattle.type_rules.proofs.edges.Adding.add_block.Goals as goal

pub loop-inst-preserved : goal.loop-inst-preserved
loop-inst-preserved c =
    let insts : List Inst = c.as_slice-inst-items.result.now in
    let inside : c.loop-inst.inst-index < length insts = omega arith in
    adds_more c.args.self.now.locals.now c.args.self.now.source goes insts c.loop-inst.inst-index c.inst-item.result c.args.lists.now.items c.loop-inst.lists.items c.add_inst.new.lists.items inside c.inst-item.is c.loop-inst.invariant c.in_ok-add_inst.ensures

pub returns : goal.returns
returns c =
    let insts : List Inst = c.as_slice-inst-items.result.now in
    let all : length insts ≤ c.loop-inst.inst-index = omega arith in
    adds_insts c.args.self.now.locals.now c.args.self.now.source c.args.block.now insts c.loop-inst.inst-index c.args.lists.now.items c.loop-inst.lists.items c.as_slice-inst-items.ensures all c.loop-inst.invariant
