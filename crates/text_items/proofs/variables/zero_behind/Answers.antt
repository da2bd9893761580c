use Rattle.std.proofs.Common.{◌≡◌, ◌∙◌, ap, rules}
use Rattle.std.proofs.lemmas.Result.{MatchResult-weaker}
use Rattle.text_rules.specs.Declarations.{zero_at, pointee_at}
use Rattle.text_items.specs.Wording.{source_of, names_of}
use Rattle.text_items.proofs.variables.zero_behind.Goals as goal

pub returns : goal.returns
returns c =
    let at : c.pointee_at-pointee.result ≡ pointee_at (source_of c.args.wording.now) c.args.ty = search rules in
    MatchResult-weaker c.zero_at.result c.zero_at.ensures (λ z is. is ∙ ap (zero_at (source_of c.args.wording.now) (names_of c.args.wording.now)) at) (λ e no. no)
