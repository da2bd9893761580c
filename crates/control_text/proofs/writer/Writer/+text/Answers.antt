use Rattle.std.proofs.Common.{◌≡◌, ◌++◌, ◌∙◌, List, map, ap, subst, arith}
use Rattle.std.specs.Prelude.{OnOk, IfOk}
use Rattle.structure_recover.specs.Tree.{before, ends}
use Rattle.structure_recover.specs.View.{item_of, group_of, groups_of}
use Rattle.structure_recover.specs.declared.region.Item.{Item}
use Rattle.structure_recover.proofs.Views.{region_is}
use Rattle.glsl_ast.specs.View.{stmt_of}
use Rattle.control_text.specs.Statements.{labels_text, region_text, groups_text, has_break, groups_have_break}
use Rattle.control_text.specs.Size.{region_size}
use Rattle.control_text.proofs.Steps.{item_smaller, group_smaller, item_more, item_breaks_more, items_end, items_breaks_end, group_more, group_breaks_more}
use Rattle.control_text.proofs.writer.Writer.+text.Goals as goal

pub region_text-items_text-requires : goal.region_text-items_text-requires
region_text-items_text-requires g t c κs within =
    let r = c.args.region.now in
    let same : c.deref.result.now ≡ r.items.items = grind (arith, c.deref.ensures.value) in
    let size = ap (λ (l : List Item). region_size (before (map item_of l) (ends r.exit))) same in
    (omega (arith, size, ap region_size (region_is r)), within)

pub region_text-returns-clause-text : goal.region_text-returns-clause-text
region_text-returns-clause-text g t c =
    let r = c.args.region.now in
    let same : c.deref.result.now ≡ r.items.items = grind (arith, c.deref.ensures.value) in
    rw (region_is r) (subst (λ (l : List Item). OnOk c.items_text.result (map stmt_of c.items_text.new.out.items ≡ map stmt_of c.args.out.now.items ++ region_text (g.B.BlockText.blocks c.args.self.now.blocks.now) c.args.place (before (map item_of l) (ends r.exit)))) same c.items_text.ensures.text)

pub region_text-returns-clause-breaks : goal.region_text-returns-clause-breaks
region_text-returns-clause-breaks g t c =
    let r = c.args.region.now in
    let same : c.deref.result.now ≡ r.items.items = grind (arith, c.deref.ensures.value) in
    rw (region_is r) (subst (λ (l : List Item). IfOk c.items_text.result (λ b. b ≡ has_break (before (map item_of l) (ends r.exit)))) same c.items_text.ensures.breaks)

pub items_text-item_text-requires : goal.items_text-item_text-requires
items_text-item_text-requires g t c κs within =
    let less = item_smaller c.args.items.now c.loop-item.item-index c.item-item.result c.args.exit c.loop-item-test.true c.item-item.is in
    (omega (arith, less), within)

pub items_text-loop-item-preserved : goal.items_text-loop-item-preserved
items_text-loop-item-preserved g t c =
    let w = g.B.BlockText.blocks c.args.self.now.blocks.now in
    let is = c.args.items.now in
    let i = c.loop-item.item-index in
    let x = c.item-item.result in
    let all = before (map item_of is) (ends c.args.exit) in
    record {
      text = item_more w c.args.place c.args.exit is i x c.loop-item.from c.plain_block-from.result (map stmt_of c.loop-item.out.items) (map stmt_of c.copies_from.new.out.items) (map stmt_of c.item_text.new.out.items) (map stmt_of c.args.out.now.items ++ region_text w c.args.place all) c.loop-item-test.true c.item-item.is c.plain_block-from.ensures c.in_ok-copies_from.ensures c.in_ok-breaks.ensures.text c.loop-item.invariant.text;
      breaks = item_breaks_more c.args.exit is i x c.loop-item.breaks c.in_ok-breaks.field-0 (has_break all) c.loop-item-test.true c.item-item.is c.in_ok-breaks.ensures.breaks c.loop-item.invariant.breaks;
    }

pub items_text-returns-clause-text : goal.items_text-returns-clause-text
items_text-returns-clause-text g t c =
    let w = g.B.BlockText.blocks c.args.self.now.blocks.now in
    items_end w c.args.place c.args.exit c.args.items.now c.loop-item.item-index c.loop-item.from (map stmt_of c.loop-item.out.items) (map stmt_of c.exit_text.new.out.items) (map stmt_of c.args.out.now.items ++ region_text w c.args.place (before (map item_of c.args.items.now) (ends c.args.exit))) c.loop-item-test.false c.in_ok-exit_text.ensures c.loop-item.invariant.text

pub items_text-returns-clause-breaks : goal.items_text-returns-clause-breaks
items_text-returns-clause-breaks g t c = items_breaks_end c.args.exit c.args.items.now c.loop-item.item-index c.loop-item.breaks c.is_break.result (has_break (before (map item_of c.args.items.now) (ends c.args.exit))) c.loop-item-test.false c.is_break.ensures c.loop-item.invariant.breaks

pub groups_text-case_body-requires : goal.groups_text-case_body-requires
groups_text-case_body-requires g t c κs within =
    let less = group_smaller c.args.groups.now c.loop-group.group-index c.group-item.result c.loop-group-test.true c.group-item.is in
    (omega (arith, less), within)

pub groups_text-loop-group-preserved : goal.groups_text-loop-group-preserved
groups_text-loop-group-preserved g t c =
    let w = g.B.BlockText.blocks c.args.self.now.blocks.now in
    let gs = c.args.groups.now in
    let i = c.loop-group.group-index in
    let x = c.group-item.result in
    let same : c.deref.result.now ≡ x.labels.items = grind (arith, c.deref.ensures.value) in
    let labels : c.in_ok-labels.labels.items ≡ labels_text w c.args.head x.labels.items x.default = c.in_ok-labels.ensures ∙ ap (λ l. labels_text w c.args.head l x.default) same in
    record {
      text = group_more w c.args.place c.args.head gs i x (record { labels = c.in_ok-labels.labels; body = c.in_ok-part.part.text }) c.loop-group.arms.items c.push.new.self.items (groups_text w c.args.place c.args.head (groups_of (map group_of gs))) c.loop-group-test.true c.group-item.is labels c.in_ok-part.ensures.text c.in_ok-push.ensures.items c.loop-group.invariant.text;
      breaks = group_breaks_more gs i x c.loop-group.breaks c.in_ok-part.part.breaks (groups_have_break (groups_of (map group_of gs))) c.loop-group-test.true c.group-item.is c.in_ok-part.ensures.breaks c.loop-group.invariant.breaks;
    }
