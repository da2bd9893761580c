use Rattle.std.proofs.Common.{◌≡◌, ◌∙◌, IfErr, OnOk, ap, length, subst}
use Rattle.std.specs.Prelude.{IfOk}
use Rattle.std.proofs.lemmas.Result.{IfOk-weaker}
use Rattle.spv_module.specs.declared.inst.Function.{Function}
use Rattle.spv_words.specs.Breaks.{NoRuleBroken}
use Rattle.structure_rules.specs.Graph.{graph}
use Rattle.structure_rules.specs.Structure.{BrokenStructure, IsRightStructure, IsTooDeep, structure_rules}
use Rattle.block_graph.proofs.Within.{graph_sized}
use Rattle.nest_place.proofs.judge.places.Goals as goal

pub returns-clause-places : goal.returns-clause-places
returns-clause-places c = subst (λ (g : Function). IfOk c.places_by.result (λ p. p ≡ graph g)) c.in_ok-locals.ensures c.places_by.ensures.places

pub returns-clause-sized : goal.returns-clause-sized
returns-clause-sized c =
    let f = c.args.f.now in
    let are = subst (λ (g : Function). IfOk c.places_by.result (λ p. p ≡ graph g)) c.in_ok-locals.ensures c.places_by.ensures.places in
    IfOk-weaker c.places_by.result (λ p. p ≡ graph f) (λ p. length p ≡ length f.blocks) (λ p e. ap length e ∙ graph_sized f) are

pub returns-clause-passes : goal.returns-clause-passes
returns-clause-passes c = subst (λ (g : Function). OnOk c.places_by.result (NoRuleBroken (BrokenStructure g) structure_rules)) c.in_ok-locals.ensures c.places_by.ensures.passes

pub returns-clause-within : goal.returns-clause-within
returns-clause-within c = subst (λ (g : Function). OnOk c.places_by.result (IsTooDeep (graph g) → ⊥)) c.in_ok-locals.ensures c.places_by.ensures.within

pub returns-clause-refused : goal.returns-clause-refused
returns-clause-refused c = subst (λ (g : Function). IfErr c.places_by.result (IsRightStructure g)) c.in_ok-locals.ensures c.places_by.ensures.refused
