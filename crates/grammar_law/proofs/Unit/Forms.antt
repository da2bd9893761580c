-- The form of a result that a live instruction mentions: a variable at the top of the function, or one of its own block, or an expression there.
use Rattle.std.proofs.Common.{◌≡◌, ◌==◌, ◌&&◌, ◌||◌, not, ℕ, Bool, true, false, List, [], ◌∷◌, Option, Some, None, fold, length, nat_le, nat_lt, unwrap_or, inl, inr, refl, sym, ap, ◌∙◌, subst, if◌then◌else◌}
use Rattle.std.specs.Prelude.{◌⊎◌, slice_get}
use Rattle.std.specs.Option.{option_map_or}
use Rattle.std.specs.List.{enumerate_from, list_any}
use Rattle.std.proofs.lemmas.Bool.{or_right as second_on}
use Rattle.std.proofs.lemmas.Option.{none-some}
use Rattle.spv_ops.specs.Opcode.{is}
use Rattle.spv_ops.specs.Shape.{is_pure}
use Rattle.spv_ops.specs.declared.Op.TheVariants as code
use Rattle.spv_module.specs.declared.inst.Inst.{Inst}
use Rattle.spv_module.specs.declared.inst.Block.{Block}
use Rattle.spv_module.specs.declared.inst.Function.{Function}
use Rattle.use_chains.specs.declared.slot.SlotPlace.{SlotPlace}
use Rattle.use_chains.specs.Links.{Link}
use Rattle.hoist_plan.specs.declared.form.Form.{Form}
use Rattle.hoist_plan.specs.declared.form.Form.TheVariants.{Gone, Forwarded, Local, Hoisted}
use Rattle.hoist_plan.specs.Plan.{Placed, user, mention_block, is_elsewhere_by, is_elsewhere, is_live, is_value, is_always_named, wants_by, wants_variable, is_named_by_use, own_height, is_named, is_hoisted, form_with, with_operand, Known, with_result, nothing, known, mentions_of, result_of, results_of_block, results, form}
use Rattle.list_law.proofs.Numbers.{same_number, number_same, number_other}
use Rattle.plan_law.specs.Ordered.{AreOrdered}
use Rattle.plan_law.proofs.Heights.{form_is}
use Rattle.typed_law.proofs.Lists.{or_left, or_right, and_off, clash}
use Rattle.typed_law.proofs.Values.{same_count}
use Rattle.claim_law.specs.Claimed.{IsIn}
use Rattle.claim_law.proofs.Claim.Listed.{in_flat}
use Rattle.grammar_law.specs.Mentioned.{Stands}
use Rattle.grammar_law.proofs.Unit.Lists.{split_at, numbered_first, of_numbered_first, none_passes, some_length, of_flat}

-- the result of an instruction, as it is planned
abbrev pub placed : List Link → ℕ → Inst → Placed
placed links c j = record { block = c; op = j.op; ty = j.ty; result = j.result; mentions = mentions_of links j.result }

module _ (links : List Link) (f : Function) where
  pub is_placed : (c : ℕ) (block : Block) (j : Inst) → slice_get f.blocks c ≡ Some block → IsIn j block.insts → (j.result ≡ 0 → ⊥) → IsIn (placed links c j) (results links f)
  is_placed c block j there among some =
      in_flat (results_of_block links) (enumerate_from 0 f.blocks) (c, block) (placed links c j) (numbered_first f.blocks c block there)
      (in_flat (result_of links c) block.insts j (placed links c j) among
      (subst (λ (b : Bool). IsIn (placed links c j) (if b then [] else placed links c j ∷ [])) (sym (number_other j.result 0 some)) (inl refl)))

  -- each is that of an instruction of the function
  pub record IsMadeBy (p : Placed) : Type 0 where
    pub block : ℕ
    pub holder : Block
    pub inst : Inst
    pub there : slice_get f.blocks block ≡ Some holder
    pub among : IsIn inst holder.insts
    pub some : inst.result ≡ 0 → ⊥
    pub is : placed links block inst ≡ p

  pub made_by : (p : Placed) → IsIn p (results links f) → IsMadeBy p
  made_by p stands =
      let b = of_flat (results_of_block links) (enumerate_from 0 f.blocks) p stands in
      let j = of_flat (result_of links b.0.0) b.0.1.insts p b.2 in
      by_result b.0.0 b.0.1 (of_numbered_first f.blocks b.0.0 b.0.1 b.1) j.0 j.1 (j.0.result == 0) refl j.2
    where
      by_result : (c : ℕ) (block : Block) → slice_get f.blocks c ≡ Some block → (j : Inst) → IsIn j block.insts → (t : Bool) → (j.result == 0) ≡ t → IsIn p (if t then [] else placed links c j ∷ []) → IsMadeBy p
      by_result c block there j among true is stands = absurd stands
      by_result c block there j among false is (inr stands) = absurd stands
      by_result c block there j among false is (inl same) = record {
        block = c;
        holder = block;
        inst = j;
        there = there;
        among = among;
        some = λ lacks. clash (sym (number_same j.result 0 lacks) ∙ is);
        is = same;
      }

-- what is told of an id is told of a result
module _ (gs : List Inst) (f : Function) where
  told_result : (k : Known) (ps : List Placed) (n : ℕ) (x : Form) → (fold (with_result gs f) k ps).forms n ≡ Some x → (k.forms n ≡ Some x) ⊎ ((p : Placed) × IsIn p ps × (p.result ≡ n))
  told_result k [] n x is = inl is
  told_result k (p ∷ ps) n x is = elim (told_result (with_result gs f k p) ps n x is) [
    | inl here ↦ by_test (p.result == n) refl here
    | inr later ↦ inr (later.0, inr later.1, later.2)
  ]
    where
      by_test : (b : Bool) → (p.result == n) ≡ b → elim b as (λ b. Option Form) [ true ↦ Some (form_with gs f k.operands p) | false ↦ k.forms n ] ≡ Some x → (k.forms n ≡ Some x) ⊎ ((q : Placed) × IsIn q (p ∷ ps) × (q.result ≡ n))
      by_test true same told = inr (p, inl refl, same_number p.result n same)
      by_test false other told = inl told

  -- a form that is not gone is that of a result
  pub formed_result : (links : List Link) (n : ℕ) → form (record { globals = gs; function = f; links = links }) n ≡ Forwarded → (p : Placed) × IsIn p (results links f) × (p.result ≡ n)
  formed_result links n is = by_form ((known gs f (results links f)).forms n) refl is
    where
      by_form : (o : Option Form) → (known gs f (results links f)).forms n ≡ o → unwrap_or o Gone ≡ Forwarded → (p : Placed) × IsIn p (results links f) × (p.result ≡ n)
      by_form None told is = cc
      by_form (Some x) told is = elim (told_result nothing (results links f) n x told) [
        | inl here ↦ absurd (none_told here)
        | inr there ↦ there
      ]
        where
          none_told : None ≡ Some x → ⊥
          none_told e = cc

  -- 0 is no result
  pub unmade_gone : (links : List Link) → form (record { globals = gs; function = f; links = links }) 0 ≡ Gone
  unmade_gone links = by_form ((known gs f (results links f)).forms 0) refl
    where
      by_form : (o : Option Form) → (known gs f (results links f)).forms 0 ≡ o → unwrap_or o Gone ≡ Gone
      by_form None told = refl
      by_form (Some x) told = elim (told_result nothing (results links f) 0 x told) [
        | inl here ↦ absurd (none-some x here)
        | inr there ↦ let w = made_by links f there.0 there.1 in absurd (w.some (ap (λ (q : Placed). q.result) w.is ∙ there.2))
      ]

  module _ (links : List Link) (ordered : AreOrdered f (results links f)) where
    pub form_at : (p : Placed) → IsIn p (results links f) → (k : ℕ → Option ℕ) × (form (record { globals = gs; function = f; links = links }) p.result ≡ form_with gs f k p)
    form_at p among =
        let w = split_at (results links f) p among in
        (fold (with_operand gs f) (λ n. None) w.0, ap (λ o. unwrap_or o Gone) (form_is gs f (results links f) ordered w.0 w.1 p w.2))

  -- by where it is mentioned
  module _ (p : Placed) (k : ℕ → Option ℕ) (at : SlotPlace) (i : Inst) (among : IsIn at p.mentions) (there : user f at ≡ Some i) (value : is_value gs p.ty ≡ true) where
    live_result : is_live p ≡ true
    live_result = second_on (not (is_pure p.op)) (nat_lt 0 (length p.mentions)) (some_length p.mentions at among)

    here : is_elsewhere_by f p.block at i ≡ false → p.block ≡ mention_block f at i
    here off = sym (same_count (mention_block f at i) p.block off)

    elsewhere_off : list_any (is_elsewhere f p.block) p.mentions ≡ false → is_elsewhere_by f p.block at i ≡ false
    elsewhere_off none = ap (λ o. option_map_or (is_elsewhere_by f p.block at) o false) (sym there) ∙ none_passes (is_elsewhere f p.block) p.mentions at among none

    wants_off : list_any (wants_variable gs f p.block) p.mentions ≡ false → wants_by gs f p.block at i ≡ false
    wants_off none = ap (λ o. option_map_or (wants_by gs f p.block at) o false) (sym there) ∙ none_passes (wants_variable gs f p.block) p.mentions at among none

    unused : is_named gs f k p ≡ false → is_elsewhere_by f p.block at i ≡ false
    unused off =
        let live = and_off (is_value gs p.ty) (is_live p && (is_named_by_use gs f p || (own_height k p == 17))) off value in
        let used = and_off (is_live p) (is_named_by_use gs f p || (own_height k p == 17)) live live_result in
        let named = or_left (is_named_by_use gs f p) (own_height k p == 17) used in
        let wanted = or_right (nat_le 2 (length p.mentions)) (list_any (wants_variable gs f p.block) p.mentions) (or_right (is_always_named p.op) (nat_le 2 (length p.mentions) || list_any (wants_variable gs f p.block) p.mentions) named) in
        or_left (is_elsewhere_by f p.block at i) _ (wants_off wanted)

    by_hoisted : (b : Bool) → is_hoisted f p ≡ b → Stands (if b then Hoisted else Local) p.block (mention_block f at i)
    by_hoisted true on = inl refl
    by_hoisted false off = inr (inl refl, here (elsewhere_off (or_right (is p.op code.Phi) (list_any (is_elsewhere f p.block) p.mentions) off)))

    by_named : (b : Bool) → is_named gs f k p ≡ b → Stands (if b then (if is_hoisted f p then Hoisted else Local) else Forwarded) p.block (mention_block f at i)
    by_named true on = by_hoisted (is_hoisted f p) refl
    by_named false off = inr (inr refl, here (unused off))

    pub mentioned_form : Stands (form_with gs f k p) p.block (mention_block f at i)
    mentioned_form =
        subst (λ (l : Bool). Stands (if l then (if is_named gs f k p then (if is_hoisted f p then Hoisted else Local) else Forwarded) else Gone) p.block (mention_block f at i)) (sym live_result)
        (by_named (is_named gs f k p) refl)

    -- where the mention asks for a variable, it has one
    pub wanted_form : wants_by gs f p.block at i ≡ true → form_with gs f k p ≡ Forwarded → ⊥
    wanted_form wants form = by_named_off (is_live p) (is_named gs f k p) (is_hoisted f p) refl form
      where
        off : is_named gs f k p ≡ false → ⊥
        off named =
            let live = and_off (is_value gs p.ty) (is_live p && (is_named_by_use gs f p || (own_height k p == 17))) named value in
            let used = and_off (is_live p) (is_named_by_use gs f p || (own_height k p == 17)) live live_result in
            let by_use = or_left (is_named_by_use gs f p) (own_height k p == 17) used in
            let wanted = or_right (nat_le 2 (length p.mentions)) (list_any (wants_variable gs f p.block) p.mentions) (or_right (is_always_named p.op) (nat_le 2 (length p.mentions) || list_any (wants_variable gs f p.block) p.mentions) by_use) in
            clash (sym wants ∙ wants_off wanted)

        by_named_off : (l n h : Bool) → is_named gs f k p ≡ n → (if l then (if n then (if h then Hoisted else Local) else Forwarded) else Gone) ≡ Forwarded → ⊥
        by_named_off true false h named form = off named
        by_named_off true true true named form = cc
        by_named_off true true false named form = cc
        by_named_off false n h named form = cc
