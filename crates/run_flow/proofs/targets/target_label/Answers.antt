use Rattle.memory_places.specs.Kernel.{setting_for}
use Rattle.run_state.specs.Confs.{frame_of}
use Rattle.run_flow.proofs.Labels.{label_chosen, label_switched}
use Rattle.run_flow.proofs.targets.target_label.Goals as goal

pub returns-in-BranchConditional : goal.returns-in-BranchConditional
returns-in-BranchConditional c = λ told fs.
    label_chosen (setting_for c.args.map.now told) (frame_of fs c.args.frame.now) c.args.inst.now c.args.end c.chosen.result c.truth-condition.result c.operand-in-BranchConditional.result c.operand-in-BranchConditional-2.result c.operand-in-BranchConditional-3.result c.in-BranchConditional.is c.operand-in-BranchConditional.ensures c.operand-in-BranchConditional-2.ensures c.operand-in-BranchConditional-3.ensures c.truth-condition.ensures c.chosen.ensures

pub returns-in-Switch : goal.returns-in-Switch
returns-in-Switch c = λ told fs.
    label_switched (setting_for c.args.map.now told) (frame_of fs c.args.frame.now) c.args.inst.now c.args.end c.switched.result c.word.result c.operand-in-Switch.result c.in-Switch.is c.operand-in-Switch.ensures c.word.ensures c.switched.ensures
