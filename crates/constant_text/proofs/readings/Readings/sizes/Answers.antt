use Rattle.std.proofs.Common.{ℕ, ap, ◌∙◌}
use Rattle.std.specs.Prelude.{flat_map}
use Rattle.std.proofs.lemmas.Iterator.{YieldsList-from_slice, YieldsList-from_zip}
use Rattle.std.proofs.lemmas.Iterator.Consumers.{YieldsList-end}
use Rattle.profile_rules.specs.declared.size.SizePart.{SizePart}
use Rattle.text_rules.specs.Constants.{axes, size_now, sizes_of}
use Rattle.constant_text.proofs.readings.Readings.sizes.Goals as goal

pub returns : goal.returns
returns c =
    let end = YieldsList-end (YieldsList-from_zip {s = c.into_iter-axis-iterator.result} (YieldsList-from_slice axes (cc)) (YieldsList-from_slice c.args.parts.now (cc))) c.loop-axis.yielded c.loop-axis.axis-iterator c.loop-axis.yielded_by c.next.result c.next.new.self c.in-None.is c.next.ensures.steps in
    c.loop-axis.invariant ∙ ap (flat_map (λ (p : ℕ × SizePart). sizes_of p.0 (size_now c.args.self.now.overrides p.1))) end.0
