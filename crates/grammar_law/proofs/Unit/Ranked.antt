-- The rank of a value: the height of its expression, where it has no variable. What stands in the expression of another is lower, and none is above 16.
use Rattle.std.proofs.Common.{◌≡◌, ◌<◌, ◌≤◌, ◌+◌, ◌==◌, ◌&&◌, ◌||◌, ℕ, Bool, true, false, List, [], ◌∷◌, Option, Some, None, IsSomeAnd, find, min, unwrap_or, nat_le, length, inl, inr, refl, sym, ap, ◌∙◌, subst, arith, if◌then◌else◌}
use Rattle.std.specs.Option.{option_map_or}
use Rattle.std.specs.List.{list_any}
use Rattle.std.proofs.lemmas.Bool.{and_from, or_left, or_right}
use Rattle.std.proofs.lemmas.Option.{same_Some}
use Rattle.spv_ops.specs.Opcode.{is, number}
use Rattle.spv_ops.specs.Groups.{is_atomic}
use Rattle.spv_ops.specs.declared.Op.{Op}
use Rattle.spv_ops.specs.declared.Op.TheVariants as code
use Rattle.spv_module.specs.State.{ModuleState}
use Rattle.spv_module.specs.declared.inst.Inst.{Inst}
use Rattle.spv_module.specs.declared.inst.Block.{Block}
use Rattle.spv_module.specs.declared.inst.Function.{Function}
use Rattle.spv_index.specs.Locals.{insts_of, inst_in}
use Rattle.use_chains.specs.declared.slot.SlotPlace.{SlotPlace}
use Rattle.use_chains.specs.Links.{Link, AreLiveLinks}
use Rattle.hoist_plan.specs.declared.form.Form.{Form}
use Rattle.hoist_plan.specs.declared.form.Form.TheVariants.{Gone, Forwarded, Local, Hoisted}
use Rattle.hoist_plan.specs.Plan.{Placed, user, is_live, is_value, is_always_named, is_named_other, wants_variable, is_named_by_use, own_height, is_named, is_hoisted, form_with, known, mentions_of, results, Scope, form}
use Rattle.list_law.proofs.Numbers.{same_number, number_same}
use Rattle.list_law.proofs.Tests.{and_left, and_right}
use Rattle.plan_law.specs.Ordered.{AreOrdered, IsOperand}
use Rattle.plan_law.specs.InOrder.{AreInOrder}
use Rattle.plan_law.proofs.Order.{found, in_order}
use Rattle.plan_law.proofs.Heights.{forms_fall, form_low}
use Rattle.typed_law.proofs.Lists.{some_of, clash}
use Rattle.claim_law.specs.Claimed.{IsIn}
use Rattle.claim_law.proofs.Claim.Listed.{in_flat, at_place}
use Rattle.claim_law.proofs.Claim.Constants.{found_in}
use Rattle.grammar_law.specs.Mentioned.{IsMentioned}
use Rattle.grammar_law.proofs.Unit.Lists.{split_at, found_by, found_some, two_split, as_among}
use Rattle.grammar_law.proofs.Unit.Links.{mention_at, user_is, mention_stands}
use Rattle.grammar_law.proofs.Unit.Forms.{IsMadeBy, made_by, formed_result, form_at}
use Rattle.grammar_law.proofs.Unit.Bases.{none_at, none_of}

phi_named : (o : Op) → is o code.Phi ≡ true → is_named_other o ≡ true
unfolding number
phi_named code.Phi on = refl
phi_named o on = cc

-- what a form that is forwarded says
forwarded_by : (l n h : Bool) → (if l then (if n then (if h then Hoisted else Local) else Forwarded) else Gone) ≡ Forwarded → (l ≡ true) × (n ≡ false)
forwarded_by true false h is = (refl, refl)
forwarded_by true true true is = cc
forwarded_by true true false is = cc
forwarded_by false n h is = cc

no_phi : (gs : List Inst) (f : Function) (k : ℕ → Option ℕ) (p : Placed) → is_value gs p.ty ≡ true → form_with gs f k p ≡ Forwarded → is p.op code.Phi ≡ false
no_phi gs f k p value form = by_test (is p.op code.Phi) refl
  where
    parts : (is_live p ≡ true) × (is_named gs f k p ≡ false)
    parts = forwarded_by (is_live p) (is_named gs f k p) (is_hoisted f p) form

    by_test : (b : Bool) → is p.op code.Phi ≡ b → b ≡ false
    by_test false phi = refl
    by_test true phi =
        let always : is_always_named p.op ≡ true = or_right (is_atomic p.op) (is_named_other p.op) (phi_named p.op phi) in
        let used : is_named_by_use gs f p ≡ true = or_left (is_always_named p.op) (nat_le 2 (length p.mentions) || list_any (wants_variable gs f p.block) p.mentions) always in
        let named : is_named gs f k p ≡ true =
        and_from (is_value gs p.ty) (is_live p && (is_named_by_use gs f p || (own_height k p == 17))) value
        (and_from (is_live p) (is_named_by_use gs f p || (own_height k p == 17)) parts.0 (or_left (is_named_by_use gs f p) (own_height k p == 17) used)) in
        clash (sym named ∙ parts.1)

-- mentions
operand_in : (f : Function) (n : ℕ) (places : List SlotPlace) (at : SlotPlace) (i : Inst) → IsIn at places → user f at ≡ Some i → i.result ≡ n → IsOperand f n places
operand_in f n [] at i among there same = absurd among
operand_in f n (x ∷ places) at i (inl here) there same = inl (subst (λ (o : Option Inst). IsSomeAnd o (λ (j : Inst). j.result ≡ n)) (sym (ap (user f) here ∙ there)) same)
operand_in f n (x ∷ places) at i (inr among) there same = inr (operand_in f n places at i among there same)

abbrev is_forwarded : Form → Bool
is_forwarded Forwarded = true
is_forwarded _ = false

forwarded_is : (x : Form) → is_forwarded x ≡ true → x ≡ Forwarded
forwarded_is Forwarded on = refl
forwarded_is Gone on = cc
forwarded_is Local on = cc
forwarded_is Hoisted on = cc

module _ (m : ModuleState) (f : Function) (order : AreInOrder m f) (reached : List Bool) (links : List Link) (live : AreLiveLinks f reached links) where
  abbrev Ps : List Placed
  Ps = results links f

  abbrev S : Scope
  S = record { globals = m.globals; function = f; links = links }

  abbrev H : ℕ → Option ℕ
  H = (known m.globals f (results links f)).operands

  abbrev counts : Placed → Bool
  counts p = is_value m.globals p.ty && is_forwarded (form S p.result)

  abbrev height_of : Placed → ℕ
  height_of p = if counts p then own_height H p else 0

  abbrev with_result : ℕ → Placed → Bool
  with_result n p = p.result == n

  abbrev pub rank : ℕ → ℕ
  rank n = option_map_or height_of (find (with_result n) Ps) 0

  ordered : AreOrdered f Ps
  ordered = in_order m f order reached links live

  -- a result that counts is no phi
  counted_phi : (p : Placed) → IsIn p Ps → is_value m.globals p.ty ≡ true → form S p.result ≡ Forwarded → is p.op code.Phi ≡ false
  counted_phi p among value form = let k = form_at m.globals f links ordered p among in no_phi m.globals f k.0 p value (sym k.1 ∙ form)

  low_of : (p : Placed) → IsIn p Ps → (b : Bool) → counts p ≡ b → (if b then own_height H p else 0) ≤ 16
  low_of p among false off = omega arith
  low_of p among true on =
      let value = and_left (is_value m.globals p.ty) (is_forwarded (form S p.result)) on in
      let form_is = forwarded_is (form S p.result) (and_right (is_value m.globals p.ty) (is_forwarded (form S p.result)) on) in
      let w = split_at Ps p among in
      form_low S ordered w.0 w.1 p w.2 (counted_phi p among value form_is) value form_is

  pub rank_low : (n : ℕ) → rank n ≤ 16
  rank_low n = by_found (find (with_result n) Ps) refl
    where
      by_found : (o : Option Placed) → find (with_result n) Ps ≡ o → option_map_or height_of o 0 ≤ 16
      by_found None is = omega arith
      by_found (Some q) is = low_of q (found_by (with_result n) Ps q is).0 (counts q) refl

  -- where an instruction that stands in expressions mentions a value, this is lower
  module _ (n : ℕ) (i : Inst) (there : inst_in f n ≡ Some i) (forwarded : form S n ≡ Forwarded) (value : is_value m.globals i.ty ≡ true) (undef : is i.op code.Undef ≡ false) where
    own : (p : Placed) × IsIn p Ps × (p.result ≡ n)
    own = formed_result m.globals f links n forwarded

    first : (q : Placed) × (find (with_result n) Ps ≡ Some q)
    first = some_of (find (with_result n) Ps) (found_some (with_result n) Ps own.0 own.1 (number_same own.0.result n own.2))

    abbrev Q : Placed
    Q = first.0

    q_in : IsIn Q Ps × (with_result n Q ≡ true)
    q_in = found_by (with_result n) Ps Q first.1

    q_result : Q.result ≡ n
    q_result = same_number Q.result n q_in.1

    maker : IsMadeBy links f Q
    maker = made_by links f Q q_in.0

    maker_is : maker.inst ≡ i
    maker_is =
        let among : IsIn maker.inst (insts_of f) = in_flat (λ (b : Block). b.insts) f.blocks maker.holder maker.inst (at_place f.blocks maker.block maker.holder maker.there) maker.among in
        let same : maker.inst.result ≡ n = ap (λ (x : Placed). x.result) maker.is ∙ q_result in
        let at_it : inst_in f n ≡ Some maker.inst = subst (λ (k : ℕ). inst_in f k ≡ Some maker.inst) same (found maker.inst (insts_of f) order.apart (as_among (insts_of f) maker.inst among) maker.some) in
        same_Some maker.inst i (sym at_it ∙ there)

    q_value : is_value m.globals Q.ty ≡ true
    q_value = ap (is_value m.globals) (sym (ap (λ (x : Placed). x.ty) maker.is) ∙ ap (λ (x : Inst). x.ty) maker_is) ∙ value

    q_form : form S Q.result ≡ Forwarded
    q_form = ap (form S) q_result ∙ forwarded

    q_undef : is Q.op code.Undef ≡ false
    q_undef = ap (λ (o : Op). is o code.Undef) (sym (ap (λ (x : Placed). x.op) maker.is) ∙ ap (λ (x : Inst). x.op) maker_is) ∙ undef

    q_phi : is Q.op code.Phi ≡ false
    q_phi = counted_phi Q q_in.0 q_value q_form

    rank_is : rank n ≡ own_height H Q
    rank_is =
        ap (λ (o : Option Placed). option_map_or height_of o 0) first.1
        ∙ ap (λ (b : Bool). if b then own_height H Q else 0) (and_from (is_value m.globals Q.ty) (is_forwarded (form S Q.result)) q_value (ap is_forwarded q_form))

    rank_some : 0 < rank n
    rank_some =
        let high : own_height H Q ≡ min 16 (unwrap_or (H Q.result) 0) + 1 = ap (λ (b : Bool). if b then 0 else min 16 (unwrap_or (H Q.result) 0) + 1) q_undef in
        let whole = rank_is in
        omega (arith, whole, high)

    module _ (block id : ℕ) (w : IsMentioned f reached block i id) where
      user_result : i.result ≡ Q.result
      user_result = (found_in (insts_of f) n i there).1 ∙ sym q_result

      -- the operand's own result
      module _ (P : Placed) (among : IsIn P Ps) (result : P.result ≡ id) (p_value : is_value m.globals P.ty ≡ true) (p_form : form S P.result ≡ Forwarded) where
        p_mentions : IsIn (mention_at f reached block i id w) P.mentions
        p_mentions =
            let by = made_by links f P among in
            let mentions_are : P.mentions ≡ mentions_of links id = sym (ap (λ (x : Placed). x.mentions) by.is) ∙ ap (mentions_of links) (ap (λ (x : Placed). x.result) by.is ∙ result) in
            subst (IsIn (mention_at f reached block i id w)) (sym mentions_are) (mention_stands f reached block i id w links live)

        lower : own_height H P < own_height H Q
        lower = elim (two_split P Q Ps among q_in.0) [
          | inl b ↦ forms_fall S ordered b.0 b.1 b.2 P Q b.3 (counted_phi P among p_value p_form) q_phi q_undef p_value q_value p_form q_form (operand_in f Q.result P.mentions (mention_at f reached block i id w) i p_mentions (user_is f reached block i id w) user_result)
          | inr b ↦ absurd (none_at f Q.result P.mentions (mention_at f reached block i id w) i (none_of f Q.result (Q ∷ b.1) P (ordered.before b.0 b.1 Q b.2 q_phi) b.3) p_mentions (user_is f reached block i id w) user_result)
        ]

      by_count : (P : Placed) → IsIn P Ps → P.result ≡ id → (b : Bool) → counts P ≡ b → (if b then own_height H P else 0) < rank n
      by_count P among result false off = rank_some
      by_count P among result true on =
          let value = and_left (is_value m.globals P.ty) (is_forwarded (form S P.result)) on in
          let form_is = forwarded_is (form S P.result) (and_right (is_value m.globals P.ty) (is_forwarded (form S P.result)) on) in
          let less = lower P among result value form_is in
          let whole = rank_is in
          omega (arith, less, whole)

      by_found : (o : Option Placed) → find (with_result id) Ps ≡ o → option_map_or height_of o 0 < rank n
      by_found None is = rank_some
      by_found (Some P) is = let q = found_by (with_result id) Ps P is in by_count P q.0 (same_number P.result id q.1) (counts P) refl

      pub rank_falls : rank id < rank n
      rank_falls = by_found (find (with_result id) Ps) refl
