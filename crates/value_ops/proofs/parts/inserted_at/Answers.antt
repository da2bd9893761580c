use Rattle.std.proofs.Common.{◌≡◌, ◌∙◌, ◌∷◌, [], ap, sym, subst, rules, IfOk, option_map}
use Rattle.std.specs.Prelude.{Option}
use Rattle.spv_types.specs.Tree.{ValueTree, word}
use Rattle.spv_types.specs.View.{value_of}
use Rattle.spv_types.proofs.Views.{value_rows}
use Rattle.op_semantics.specs.Composite.{inserted, inserted_at}
use Rattle.value_ops.proofs.Paths.{single_inserted}
use Rattle.value_ops.proofs.parts.inserted_at.Goals as goal

pub returns-in-Word : goal.returns-in-Word
returns-in-Word c =
    let P : Option ValueTree → Type 0 = λ o. IfOk c.inserted.result (λ v. option_map value_of v ≡ o) in
    let is : value_of c.args.index.now ≡ word c.in-Word.index = search (rules, value_rows) in
    let e : inserted (value_of c.args.part.now) (c.in-Word.index ∷ []) (value_of c.args.whole.now) ≡ inserted_at (value_of c.args.whole.now) (value_of c.args.part.now) (value_of c.args.index.now) =
    single_inserted (value_of c.args.part.now) c.in-Word.index (value_of c.args.whole.now) ∙ sym (ap (inserted_at (value_of c.args.whole.now) (value_of c.args.part.now)) is) in
    subst P e c.inserted.ensures
