-- The next member stands behind those before it, and ends within.
use Rattle.std.proofs.Common.{◌≡◌, ◌≤◌, ◌+◌, get_or, min, ap, ◌∙◌, sym, arith, drop}
use Rattle.std.proofs.lemmas.Grind.{common_steps}
use Rattle.spv_types.specs.View.{tree_of, trees_of}
use Rattle.layout_rules.specs.Sizes.{aligned, alignment_of, size_of, end_from}
use Rattle.buffer_layout.specs.declared.sizes.TheConstants.{LAST}
use Rattle.buffer_layout.proofs.Bytes.{end_next}
use Rattle.buffer_layout.proofs.Fits.{next_fits, offsets_next}
use Rattle.buffer_layout.proofs.layouts.offsets_behind.Goals as goal

pub loop-k-preserved : goal.loop-k-preserved
loop-k-preserved c =
    let kind = c.args.ruler.now.kind in
    let l = c.args.members.now in
    let i = c.loop-k.k in
    let m = c.index-members-k.result in
    let end = c.loop-k.end in
    let fits : aligned end (alignment_of kind (tree_of (get_or l i m))) + size_of kind (tree_of (get_or l i m)) ≤ end_from kind end (trees_of (drop i l)) = next_fits kind end l i m c.loop-k-test.true in
    let within : end_from kind end (trees_of (drop i l)) ≤ LAST = rw c.loop-k.invariant.end c.requires in
    let here : c.next_aligned-offset.result ≡ aligned end (alignment_of kind (tree_of (get_or l i m))) = c.next_aligned-offset.ensures.value ∙ ap (aligned end) (c.measure-found.ensures.alignment ∙ ap (λ s. alignment_of kind (tree_of s)) c.index-members-k.is) in
    let whole : c.measure-found.result.size ≡ size_of kind (tree_of (get_or l i m)) = (let cut = c.measure-found.ensures.size ∙ ap (λ s. min 4294967296 (size_of kind (tree_of s))) c.index-members-k.is in omega arith) in
    let next = end_next kind end l i m c.loop-k-test.true in
    let more = offsets_next kind end l i m c.loop-k-test.true in
    record {
      within = omega arith;
      end = rw (here, whole) (sym next ∙ c.loop-k.invariant.end);
      offsets = rw (here, whole) (grind (arith, common_steps, more, here));
    }
