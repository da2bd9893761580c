use Rattle.std.proofs.Common.{◌≡◌, ◌&&◌, true, false, Some, rules, ap, sym, ◌∙◌}
use Rattle.std.proofs.lemmas.Result.{IfOk-weaker}
use Rattle.std.specs.BTreeMap.{get}
use Rattle.spv_ops.specs.Opcode.{is}
use Rattle.spv_ops.specs.declared.Op.TheVariants as code
use Rattle.spv_decor.specs.Rows.{word}
use Rattle.profile_rules.specs.ValueRules.{is_same_length, do_parts_match, match_before}
use Rattle.spv_types.specs.Types.{earlier}
use Rattle.type_rules.specs.Edges.{pair_cmp}
use Rattle.type_rules.specs.Matches.{match_of}
use Rattle.type_rules.proofs.Matched.{arrays, and_true, and_false, noted, known_more, match_of_row}
use Rattle.type_rules.proofs.matching.+matching.Goals as goal

pub match_part-returns-in-Some-copied-clause-value :
    goal.match_part-returns-in-Some-copied-clause-value
match_part-returns-in-Some-copied-clause-value t c =
    let gs = c.args.scope.now.m.globals in
    let e : earlier gs c.args.before c.args.a ≡ Some c.in-Some.row.now = search rules in
    let found : get pair_cmp c.args.known.now (c.args.a, c.args.b) ≡ Some c.in-Some-copied.answer = search rules in
    noted gs c.args.before c.args.a c.args.b c.in-Some.row.now (get pair_cmp c.args.known.now (c.args.a, c.args.b)) c.in-Some-copied.answer e found (c.requires (c.args.a, c.args.b))

pub match_part-returns-clause-known : goal.match_part-returns-clause-known
match_part-returns-clause-known t c =
    let gs = c.args.scope.now.m.globals in
    let e : earlier gs c.args.before c.args.a ≡ Some c.in-Some.row.now = search rules in
    let right : c.in_ok-answer.answer ≡ match_of gs c.args.a c.args.b = c.in_ok-answer.ensures.value ∙ sym (match_of_row gs c.args.before c.args.a c.args.b c.in-Some.row.now e) in
    known_more gs (c.args.a, c.args.b) c.in_ok-answer.answer c.match_row.new.known c.insert.new.self c.in_ok-answer.ensures.known right (λ q. c.in_ok-insert.ensures.updates.0 q)

pub match_parts-returns-then-not-is_same_length-clause-value :
    goal.match_parts-returns-then-not-is_same_length-clause-value
match_parts-returns-then-not-is_same_length-clause-value t c =
    let gs = c.args.scope.now.m.globals in
    let g = c.args.row.now in
    let h = c.args.other.now in
    let same : is g.op h.op ≡ true = search rules in
    let array : is g.op code.TypeArray ≡ true = sym c.eq.ensures ∙ c.if-eq.true in
    let other : is_same_length gs (word g 1) (word h 1) ≡ false = search rules in
    sym (arrays gs (match_before gs g.at) g h same array ∙ ap (λ b. match_before gs g.at (word g 0) (word h 0) && b) other ∙ and_false (match_before gs g.at (word g 0) (word h 0)))

pub match_parts-returns-then-eq-clause-value : goal.match_parts-returns-then-eq-clause-value
match_parts-returns-then-eq-clause-value t c =
    let gs = c.args.scope.now.m.globals in
    let g = c.args.row.now in
    let h = c.args.other.now in
    let same : is g.op h.op ≡ true = search rules in
    let array : is g.op code.TypeArray ≡ true = sym c.eq.ensures ∙ c.if-eq.true in
    let lengths : is_same_length gs (word g 1) (word h 1) ≡ true = search rules in
    let parts : match_before gs g.at (word g 0) (word h 0) ≡ do_parts_match gs (match_before gs g.at) g h =
    sym (arrays gs (match_before gs g.at) g h same array ∙ ap (λ b. match_before gs g.at (word g 0) (word h 0) && b) lengths ∙ and_true (match_before gs g.at (word g 0) (word h 0))) in
    let by : match_before gs g.at c.operand-then-eq-2.result c.operand-then-eq-3.result ≡ match_before gs g.at (word g 0) (word h 0) =
    ap (λ x. match_before gs g.at x c.operand-then-eq-3.result) c.operand-then-eq-2.ensures ∙ ap (match_before gs g.at (word g 0)) c.operand-then-eq-3.ensures in
    IfOk-weaker c.match_part.result (λ r. r ≡ match_before gs g.at c.operand-then-eq-2.result c.operand-then-eq-3.result) (λ r. r ≡ do_parts_match gs (match_before gs g.at) g h) (λ r is. is ∙ by ∙ parts) c.match_part.ensures.value
