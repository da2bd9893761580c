use Rattle.std.proofs.Common.{◌≡◌, ◌∙◌, ◌++◌, ◌∷◌, [], ◌≤◌, ◌<◌, ap, sym, rules, get_or, length}
use Rattle.std.specs.Prelude.{Some, slice_get}
use Rattle.std.proofs.lemmas.Option.{slice_get-get_or}
use Rattle.run_state.specs.Ids.{ids_of}
use Rattle.run_calls.proofs.Taken.{noted_more, passed_more, all_noted}
use Rattle.run_calls.proofs.calls.arguments.Goals as goal

pub loop-argument-preserved : goal.loop-argument-preserved
loop-argument-preserved c = λ q.
    let items : c.loop-argument.left.items ≡ c.pop.new.self.items ++ c.in-Some.argument ∷ [] = search rules in
    let at : c.len.result ≡ length c.pop.new.self.items = search rules in
    let is : c.in-Some-get.param.now ≡ get_or c.args.params.now c.len.result c.in-Some-get.param.now = search rules in
    let inside : c.len.result < length c.args.params.now = search rules in
    let there : slice_get c.args.params.now (length c.pop.new.self.items) ≡ Some c.in-Some-get.param.now =
    ap (slice_get c.args.params.now) (sym at) ∙ slice_get-get_or c.args.params.now c.len.result c.in-Some-get.param.now inside ∙ ap Some (sym is) in
    noted_more c.args.params.now c.pop.new.self.items c.loop-argument.left.items c.in-Some.argument c.in-Some-get.param.now q (ids_of c.loop-argument.ids) (ids_of c.put.new.ids q) _ there (c.in_ok-put-in-Some-get.ensures.put q) items (c.loop-argument.invariant q)

pub loop-argument-preserved-in-None : goal.loop-argument-preserved-in-None
loop-argument-preserved-in-None c = λ q.
    let items : c.loop-argument.left.items ≡ c.pop.new.self.items ++ c.in-Some.argument ∷ [] = search rules in
    let past : length c.args.params.now ≤ length c.pop.new.self.items = search rules in
    passed_more c.args.params.now c.pop.new.self.items c.loop-argument.left.items c.in-Some.argument q (ids_of c.loop-argument.ids q) _ past items (c.loop-argument.invariant q)

pub loop-argument-preserved-in-None-2 : goal.loop-argument-preserved-in-None-2
loop-argument-preserved-in-None-2 c = λ q.
    let items : c.loop-argument.left.items ≡ c.pop.new.self.items ++ c.in-Some.argument ∷ [] = search rules in
    let past : length c.args.params.now ≤ length c.pop.new.self.items = search rules in
    passed_more c.args.params.now c.pop.new.self.items c.loop-argument.left.items c.in-Some.argument q (ids_of c.loop-argument.ids q) _ past items (c.loop-argument.invariant q)

pub loop-argument-preserved-in-None-3 : goal.loop-argument-preserved-in-None-3
loop-argument-preserved-in-None-3 c = λ q.
    let items : c.loop-argument.left.items ≡ c.pop.new.self.items ++ c.in-Some.argument ∷ [] = search rules in
    let past : length c.args.params.now ≤ length c.pop.new.self.items = search rules in
    passed_more c.args.params.now c.pop.new.self.items c.loop-argument.left.items c.in-Some.argument q (ids_of c.loop-argument.ids q) _ past items (c.loop-argument.invariant q)

pub returns : goal.returns
returns c = λ q.
    let none : c.loop-argument.left.items ≡ [] = search rules in
    all_noted c.args.params.now c.loop-argument.left.items q (ids_of c.loop-argument.ids q) none ∙ c.loop-argument.invariant q
