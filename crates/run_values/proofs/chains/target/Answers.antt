use Rattle.std.proofs.Common.{◌≡◌, ℕ, List, true, false, ap, sym, ◌∙◌, Vec, Global}
use Rattle.std.specs.Prelude.{Some, None, option_map}
use Rattle.module_semantics.specs.State as state
use Rattle.memory_places.specs.Kernel.{setting_for}
use Rattle.run_state.specs.Ids.{ids_of, root_of}
use Rattle.run_state.specs.Confs.{frame_of}
use Rattle.run_operands.specs.Looks.{words_by}
use Rattle.run_values.specs.Chained.{allows}
use Rattle.run_values.proofs.Led.{no_base, no_words, is_chained}
use Rattle.run_values.proofs.chains.target.Goals as goal

pub returns-in-None : goal.returns-in-None
returns-in-None c = λ told.
    let s = setting_for c.args.site.now.map.now told in
    no_base s (frame_of s.of.functions c.args.frame.now) c.args.site.now.inst.now c.operand-base.result c.operand-base.ensures c.in-None.ensures

pub returns-in-None-2 : goal.returns-in-None-2
returns-in-None-2 c = λ told.
    let s = setting_for c.args.site.now.map.now told in
    let none : None ≡ words_by c.args.site.now.map.now (ids_of c.args.frame.now.ids) c.behind_first.result.now = sym (ap (option_map (λ (v : Vec ℕ Global). v.items)) c.in-None-2.is) ∙ c.in_ok-words-in-Some.ensures in
    no_words s (frame_of s.of.functions c.args.frame.now) c.args.site.now.inst.now c.operand-base.result c.behind_first.result.now (root_of c.in-Some.root, c.in-Some.path.now) c.operand-base.ensures c.behind_first.ensures c.in-Some.ensures none

pub returns-in_ok-joined-in-Some-2 : goal.returns-in_ok-joined-in-Some-2
returns-in_ok-joined-in-Some-2 c = λ told.
    let s = setting_for c.args.site.now.map.now told in
    let words : Some c.in-Some-2.indexes.items ≡ words_by c.args.site.now.map.now (ids_of c.args.frame.now.ids) c.behind_first.result.now = sym (ap (option_map (λ (v : Vec ℕ Global). v.items)) c.in-Some-2.is) ∙ c.in_ok-words-in-Some.ensures in
    ap (λ (l : List ℕ). Some (state.pointer (root_of c.in-Some.root) l)) c.in_ok-joined-in-Some-2.ensures
    ∙ is_chained s (frame_of s.of.functions c.args.frame.now) c.args.site.now.inst.now c.operand-base.result c.behind_first.result.now c.in-Some-2.indexes.items (root_of c.in-Some.root, c.in-Some.path.now) true c.args.locals.now c.operand-base.ensures c.behind_first.ensures c.requires.here c.in-Some.ensures words
    (sym c.if-allows.true ∙ c.allows.ensures told ∙ ap (allows s c.args.locals.now c.operand-base.result) c.deref.ensures.value)

pub returns-else-allows : goal.returns-else-allows
returns-else-allows c = λ told.
    let s = setting_for c.args.site.now.map.now told in
    let words : Some c.in-Some-2.indexes.items ≡ words_by c.args.site.now.map.now (ids_of c.args.frame.now.ids) c.behind_first.result.now = sym (ap (option_map (λ (v : Vec ℕ Global). v.items)) c.in-Some-2.is) ∙ c.in_ok-words-in-Some.ensures in
    is_chained s (frame_of s.of.functions c.args.frame.now) c.args.site.now.inst.now c.operand-base.result c.behind_first.result.now c.in-Some-2.indexes.items (root_of c.in-Some.root, c.in-Some.path.now) false c.args.locals.now c.operand-base.ensures c.behind_first.ensures c.requires.here c.in-Some.ensures words
    (sym c.if-allows.false ∙ c.allows.ensures told ∙ ap (allows s c.args.locals.now c.operand-base.result) c.deref.ensures.value)
