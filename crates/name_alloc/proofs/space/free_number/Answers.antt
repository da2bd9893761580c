use Rattle.std.proofs.Common.{rules, ◌≡◌, ◌-◌, ◌<◌, ℕ, true, false, Bool, sym, ◌∙◌, subst, arith}
use Rattle.glsl_ast.specs.View.{name_text}
use Rattle.name_alloc.specs.Naming.{numbered}
use Rattle.name_alloc.specs.Taken.{is_held}
use Rattle.name_alloc.proofs.First.{passes_taken, stops_free}
use Rattle.name_alloc.proofs.space.free_number.Goals as goal

pub loop-number-preserved : goal.loop-number-preserved
loop-number-preserved c =
    let taken : ℕ → Bool = λ k. is_held c.args.space.now (numbered c.args.base.now k) in
    let below : c.loop-number.number < c.args.last = search rules in
    let name = name_text c.in_ok-numbered.field-0 in
    let named : name ≡ numbered c.args.base.now c.loop-number.number = c.in_ok-numbered.ensures in
    let is : is_held c.args.space.now name ≡ true = sym c.contains_key.ensures ∙ c.if-contains_key.true in
    let held : taken c.loop-number.number ≡ true = subst (λ q. is_held c.args.space.now q ≡ true) named is in
    (omega (arith, below), sym (passes_taken taken c.args.last c.loop-number.number below held) ∙ c.loop-number.invariant.1)

pub returns-else-contains_key : goal.returns-else-contains_key
returns-else-contains_key c =
    let taken : ℕ → Bool = λ k. is_held c.args.space.now (numbered c.args.base.now k) in
    let name = name_text c.in_ok-numbered.field-0 in
    let named : name ≡ numbered c.args.base.now c.loop-number.number = c.in_ok-numbered.ensures in
    let is : is_held c.args.space.now name ≡ false = sym c.contains_key.ensures ∙ c.if-contains_key.false in
    let free : taken c.loop-number.number ≡ false = subst (λ q. is_held c.args.space.now q ≡ false) named is in
    record {
      within = c.loop-number.invariant.0;
      first = sym (stops_free taken (c.args.last - c.loop-number.number) c.loop-number.number free) ∙ c.loop-number.invariant.1;
    }
