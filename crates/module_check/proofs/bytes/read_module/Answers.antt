use Rattle.std.proofs.Common.{List, ℕ, ◌∙◌, ap, subst}
use Rattle.list_law.proofs.Results.{if_ok_both}
use Rattle.std.proofs.lemmas.Result.{IfErr-weaker}
use Rattle.spv_words.specs.Breaks.{NoRuleBroken}
use Rattle.spv_module.specs.Lists.{module_of}
use Rattle.spv_module.specs.Broken.{Broken, form_rules}
use Rattle.module_check.specs.ReadFrom.{IsReadFrom, IsUnread}
use Rattle.module_check.proofs.Judged.{form_fault}
use Rattle.module_check.proofs.bytes.read_module.Goals as goal

pub returns-clause-refused : goal.returns-clause-refused
returns-clause-refused c =
    IfErr-weaker c.read.result _ (IsUnread c.args.bytes.now)
    (λ fault h. record { right = λ o. form_fault c.args.bytes.now c.in_ok-words.words o c.in_ok-words.ensures.words c.in_ok-words.ensures.passes.0 fault h })
    c.read.ensures.refused

pub returns-clause-read : goal.returns-clause-read
returns-clause-read c =
    if_ok_both _ _ (IsReadFrom c.args.bytes.now) c.read.result
    (λ m made form.
    record {
      short = c.requires;
      fine = c.in_ok-words.ensures.passes.0;
      bound = c.in_ok-words.ensures.passes.1;
      made = made ∙ ap module_of c.in_ok-words.ensures.words;
      form = subst (λ (l : List ℕ). NoRuleBroken (Broken l) form_rules) c.in_ok-words.ensures.words form;
    })
    c.read.ensures.module c.read.ensures.passes
