use Rattle.std.proofs.Common.{◌==◌, ◌∙◌, ap, sym}
use Rattle.std.specs.Prelude.{if◌then◌else◌}
use Rattle.module_semantics.specs.Setting.{is_listed}
use Rattle.run_state.proofs.Based.{listed_out}
use Rattle.run_state.proofs.chain.note.Goals as goal

pub returns-else-listed : goal.returns-else-listed
returns-else-listed c = λ q.
    ap (λ xs. is_listed xs q) c.unlist.ensures
    ∙ listed_out c.args.list.now.items c.args.id q
    ∙ ap (λ b. if c.args.id == q then b else is_listed c.args.list.now.items q) (sym c.if-listed.false)
