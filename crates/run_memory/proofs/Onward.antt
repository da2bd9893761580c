-- A variable that has something else, and then on behind the instruction.
use Rattle.std.proofs.Common.{◌≡◌, ◌+◌, List, refl, ap, sym, ◌∙◌, drop}
use Rattle.std.specs.Prelude.{Option, Some, None, slice_get}
use Rattle.std.proofs.lemmas.List.{drop-drop}
use Rattle.spv_module.specs.declared.inst.Block.{Block}
use Rattle.spv_module.specs.declared.inst.Function.{Function}
use Rattle.spv_types.specs.Tree.{ValueTree}
use Rattle.module_semantics.specs.State.{Conf, Frame, Root, global, own, lent, call_at}
use Rattle.module_semantics.specs.Accesses.{keeping, with_lent}
use Rattle.module_semantics.specs.Steps.{advanced}
use Rattle.run_state.specs.declared.conf.Conf as mine
use Rattle.run_state.specs.Confs.{function_at, left_in, conf_of, behind, IsAdvanced}
use Rattle.run_state.proofs.States.{advanced_conf}

abbrev onward : Conf → Conf
onward c = advanced c (drop 1 c.top.rest)

rest_behind : (fs : List Function) (c : mine.Conf) → behind fs c ≡ drop 1 (conf_of fs c).top.rest
rest_behind fs c = by_block (slice_get (function_at fs c.top.function).blocks c.top.block)
  where
    by_block : (b : Option Block) → left_in b (c.top.at + 1) ≡ drop 1 (left_in b c.top.at)
    by_block None = refl
    by_block (Some b) = sym (drop-drop 1 c.top.at b.insts)

keeping_onward : (r : Root) (w : ValueTree) (c : Conf) → onward (keeping r w c) ≡ keeping r w (onward c)
keeping_onward (global id) w c = refl
keeping_onward (own id) w c = refl
keeping_onward (lent depth id) w c = by_call (call_at depth c.below)
  where
    by_call : (o : Option Frame) → onward (with_lent depth id w c o) ≡ with_lent depth id w (onward c) o
    by_call None = refl
    by_call (Some f) = refl

pub kept_onward : (fs : List Function) (old between new : mine.Conf) (r : Root) (w : ValueTree) → conf_of fs between ≡ keeping r w (conf_of fs old) → IsAdvanced between new → conf_of fs new ≡ keeping r w (advanced (conf_of fs old) (behind fs old))
kept_onward fs old between new r w is on =
    advanced_conf fs between new on
    ∙ ap (advanced (conf_of fs between)) (rest_behind fs between)
    ∙ ap onward is
    ∙ keeping_onward r w (conf_of fs old)
    ∙ ap (λ l. keeping r w (advanced (conf_of fs old) l)) (sym (rest_behind fs old))
