use Rattle.std.proofs.Common.{◌≡◌, ◌==◌, ◌||◌, ◌∙◌, ℕ, Bool, ap, sym, rules}
use Rattle.std.specs.List.{list_any}
use Rattle.id_map.specs.Entries.{is_in}
use Rattle.spv_ops.specs.Operands.{has_id}
use Rattle.spv_ops.specs.declared.operands.IdWords.{IdWords}
use Rattle.spv_ops.specs.declared.operands.IdWords.TheVariants.{Range, OneAndFrom}
use Rattle.text_rules.specs.Printed.{has_operand_from}
use Rattle.text_items.proofs.Firsts.{first_words, all_words}
use Rattle.text_items.proofs.operands.add_those.Goals as goal

pub returns-in_ok-add_ids-in-Range-eq0-default : goal.returns-in_ok-add_ids-in-Range-eq0-default
returns-in_ok-add_ids-in-Range-eq0-default c = λ id.
    let count = c.in-Range-eq0-default.count in
    let args = c.args.args.now in
    let is : c.args.words ≡ Range 0 count = search rules in
    let same : list_any (λ (w : ℕ). w == id) c.first.result.now ≡ has_operand_from (has_id c.args.words) id 0 args =
    ap (list_any (λ (w : ℕ). w == id)) c.first.ensures ∙ (sym (first_words id count args) ∙ ap (λ (w : IdWords). has_operand_from (has_id w) id 0 args) (sym is)) in
    c.in_ok-add_ids-in-Range-eq0-default.ensures id ∙ ap (λ (b : Bool). is_in c.args.ids.now id || b) same

pub returns-in_ok-add_ids-in-OneAndFrom-eq0-eq0 : goal.returns-in_ok-add_ids-in-OneAndFrom-eq0-eq0
returns-in_ok-add_ids-in-OneAndFrom-eq0-eq0 c = λ id.
    let args = c.args.args.now in
    let is : c.args.words ≡ OneAndFrom 0 0 = search rules in
    let same : list_any (λ (w : ℕ). w == id) args ≡ has_operand_from (has_id c.args.words) id 0 args =
    sym (all_words id args) ∙ ap (λ (w : IdWords). has_operand_from (has_id w) id 0 args) (sym is) in
    c.in_ok-add_ids-in-OneAndFrom-eq0-eq0.ensures id ∙ ap (λ (b : Bool). is_in c.args.ids.now id || b) same
