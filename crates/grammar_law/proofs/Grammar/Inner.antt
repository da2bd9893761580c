-- In the blocks of a module that was read stand no functions, parameters, types and constants.
use Rattle.std.proofs.Common.{◌≡◌, ◌∙◌, ℕ, true, List, refl, sym}
use Rattle.spv_ops.specs.OpGroups.{group_of}
use Rattle.spv_ops.specs.declared.OpGroup.{OpGroup}
use Rattle.spv_ops.specs.declared.OpGroup.TheVariants as groups
use Rattle.spv_module.specs.State.{ModuleState}
use Rattle.spv_module.specs.declared.inst.Inst.{Inst}
use Rattle.spv_module.specs.declared.inst.Function.{Function}
use Rattle.spv_index.specs.Locals.{insts_of}
use Rattle.module_check.specs.ReadFrom.{IsReadFrom}
use Rattle.claim_law.specs.Claimed.{IsIn}
use Rattle.grammar_law.proofs.Formed.Inner.{is_inner, accepted_inner}
use Rattle.grammar_law.proofs.Unit.Lists.{as_among}
use Rattle.grammar_law.proofs.Unit.ResultShapes.{stands_inside}
use Rattle.grammar_law.proofs.Grammar.FirstBlocks.{as_function}

same_groups : (q : OpGroup) → is_inner q ≡ stands_inside q
same_groups groups.Debug = refl
same_groups q = refl

pub stands_within : (bytes : List ℕ) (m : ModuleState) → IsReadFrom bytes m → (f : Function) → IsIn f m.functions → (i : Inst) → IsIn i (insts_of f) → stands_inside (group_of i.op) ≡ true
stands_within bytes m read f f_in i i_in = sym (same_groups (group_of i.op)) ∙ (accepted_inner bytes m read f (as_function m.functions f f_in) i (as_among (insts_of f) i i_in)).0
