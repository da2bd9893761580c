use Rattle.std.proofs.Common.{◌≡◌, ◌<◌, ◌∙◌, [], length, List, ap, rules, subst, sym}
use Rattle.std.proofs.lemmas.Result.{err_from_is_err_and}
use Rattle.spv_module.specs.declared.inst.Block.{Block}
use Rattle.spv_module.specs.declared.inst.Function.{Function}
use Rattle.profile_rules.specs.TypeRules.{broken_by_block, IsRefusedBy}
use Rattle.type_rules.specs.Scopes.{Scoped, inside}
use Rattle.type_rules.specs.Judging.{Stood}
use Rattle.type_rules.proofs.Refused.{none_more, one_at}
use Rattle.type_rules.proofs.Sources.{block_found}
use Rattle.type_rules.proofs.check.check_blocks.Goals as goal

pub of-requires : goal.of-requires
of-requires c =
    let f = c.args.locals.now in
    let xs : List Block = c.as_slice-block-items.result.now in
    let within : c.loop-block.block-index < length xs = search rules in
    let all : xs ≡ f.blocks = c.as_slice-block-items.ensures ∙ ap (λ (g : Function). g.blocks) c.function.ensures in
    block_found f xs c.loop-block.block-index c.block-item.result all within c.block-item.is

pub check_block-requires : goal.check_block-requires
check_block-requires c =
    let here : c.of.result.function ≡ c.args.locals.now = ap (λ (s : Stood). s.function) c.of.ensures in
    subst (λ (s : Scoped). s ≡ inside s.m c.of.result.function) (sym c.loop-block.invariant.same) (subst (λ (g : Function). c.args.judge.now ≡ inside c.args.judge.now.m g) (sym here) c.requires)

pub returns-in_err-check_block-clause-refused : goal.returns-in_err-check_block-clause-refused
returns-in_err-check_block-clause-refused c =
    let p = err_from_is_err_and c.from_residual.result c.from_residual.ensures.1 in
    let f = c.args.locals.now in
    let xs : List Block = c.as_slice-block-items.result.now in
    let within : c.loop-block.block-index < length xs = search rules in
    let all : xs ≡ f.blocks = c.as_slice-block-items.ensures ∙ ap (λ (g : Function). g.blocks) c.function.ensures in
    let at : IsRefusedBy (broken_by_block c.loop-block.judge.m f c.block-item.result) c.in_err-check_block.field-0.0 =
    subst (λ (s : Stood). IsRefusedBy (broken_by_block c.loop-block.judge.m s.function s.block) c.in_err-check_block.field-0.0) c.of.ensures c.in_err-check_block.ensures.refused in
    let refused = subst (λ (s : Scoped). IsRefusedBy (broken_by_block s.m f c.block-item.result) c.in_err-check_block.field-0.0) c.loop-block.invariant.same at in
    rw (p.1, p.2) (one_at (broken_by_block c.args.judge.now.m f) xs f.blocks c.loop-block.block-index c.block-item.result c.in_err-check_block.field-0.0 all within c.block-item.is refused)

pub loop-block-preserved : goal.loop-block-preserved
loop-block-preserved c =
    let f = c.args.locals.now in
    let xs : List Block = c.as_slice-block-items.result.now in
    let within : c.loop-block.block-index < length xs = search rules in
    let at : broken_by_block c.loop-block.judge.m f c.block-item.result ≡ [] = subst (λ (s : Stood). broken_by_block c.loop-block.judge.m s.function s.block ≡ []) c.of.ensures c.in_ok-check_block.ensures.passes in
    let passes = subst (λ (s : Scoped). broken_by_block s.m f c.block-item.result ≡ []) c.loop-block.invariant.same at in
    record {
      same = c.in_ok-check_block.ensures.same ∙ c.loop-block.invariant.same;
      none = none_more (broken_by_block c.args.judge.now.m f) xs c.loop-block.block-index c.block-item.result within c.block-item.is c.loop-block.invariant.none passes;
    }
