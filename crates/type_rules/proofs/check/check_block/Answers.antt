use Rattle.std.proofs.Common.{◌≡◌, ◌<◌, ◌∙◌, [], length, List, ap, rules, subst, sym}
use Rattle.std.proofs.lemmas.Result.{err_from_is_err_and}
use Rattle.spv_module.specs.declared.inst.Block.{Block}
use Rattle.spv_module.specs.declared.inst.Inst.{Inst}
use Rattle.profile_rules.specs.TypeRules.{broken_by_local, IsRefusedBy}
use Rattle.type_rules.specs.Scopes.{Scoped, inside}
use Rattle.type_rules.proofs.Refused.{none_more, one_at}
use Rattle.type_rules.proofs.check.check_block.Goals as goal

pub check_local-requires : goal.check_local-requires
check_local-requires c = subst (λ (s : Scoped). s ≡ inside s.m c.args.here.now.function) (sym c.loop-inst.invariant.same) c.requires

pub returns-in_err-check_local-clause-refused : goal.returns-in_err-check_local-clause-refused
returns-in_err-check_local-clause-refused c =
    let p = err_from_is_err_and c.from_residual.result c.from_residual.ensures.1 in
    let f = c.args.here.now.function in
    let b = c.args.here.now.block in
    let xs : List Inst = c.as_slice-inst-items.result.now in
    let within : c.loop-inst.inst-index < length xs = search rules in
    let all : xs ≡ b.insts = c.as_slice-inst-items.ensures ∙ ap (λ (x : Block). x.insts) c.block.ensures.block in
    let refused = subst (λ (s : Scoped). IsRefusedBy (broken_by_local s.m f b c.inst-item.result) c.in_err-check_local.field-0.0) c.loop-inst.invariant.same c.in_err-check_local.ensures.refused in
    rw (p.1, p.2) (one_at (broken_by_local c.args.judge.now.m f b) xs b.insts c.loop-inst.inst-index c.inst-item.result c.in_err-check_local.field-0.0 all within c.inst-item.is refused)

pub loop-inst-preserved : goal.loop-inst-preserved
loop-inst-preserved c =
    let f = c.args.here.now.function in
    let b = c.args.here.now.block in
    let xs : List Inst = c.as_slice-inst-items.result.now in
    let within : c.loop-inst.inst-index < length xs = search rules in
    let passes = subst (λ (s : Scoped). broken_by_local s.m f b c.inst-item.result ≡ []) c.loop-inst.invariant.same c.in_ok-check_local.ensures.passes in
    record {
      same = c.in_ok-check_local.ensures.same ∙ c.loop-inst.invariant.same;
      none = none_more (broken_by_local c.args.judge.now.m f b) xs c.loop-inst.inst-index c.inst-item.result within c.inst-item.is c.loop-inst.invariant.none passes;
    }
