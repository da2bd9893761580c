-- An instruction of a function is live, or its result is gone: then it is mentioned nowhere, and nothing is written of it.
use Rattle.std.proofs.Common.{◌≡◌, ◌==◌, ◌||◌, not, ℕ, Bool, true, false, List, [], ◌∷◌, drop, length, map, Contains, Option, Some, None, inl, inr, refl, sym, ap, ◌∙◌, subst, arith, if◌then◌else◌}
use Rattle.std.specs.Prelude.{◌⊎◌, nat_lt, slice_get, slice_index, slice_index_or}
use Rattle.std.specs.Option.{option_map_or}
use Rattle.std.specs.List.{enumerate_from, list_any}
use Rattle.std.proofs.lemmas.Bool.Decides.{nat_tests}
use Rattle.std.proofs.lemmas.Bool.{or_left, or_from, false_from_ne_true, and_right, or_right}
use Rattle.spv_ops.specs.OpGroups.{group_of}
use Rattle.spv_ops.specs.Groups.{is_chain}
use Rattle.spv_ops.specs.Shape.{shape, is_pure}
use Rattle.spv_ops.specs.declared.Op.{Op}
use Rattle.spv_ops.specs.declared.Op.TheVariants as code
use Rattle.spv_module.specs.Inst.{has_result}
use Rattle.spv_module.specs.declared.inst.Inst.{Inst}
use Rattle.spv_module.specs.declared.inst.Block.{Block}
use Rattle.spv_module.specs.declared.inst.Function.{Function}
use Rattle.spv_index.specs.Locals.{insts_of}
use Rattle.conformance.specs.Rules.{Options}
use Rattle.module_semantics.specs.Setting.{Setting}
use Rattle.use_chains.specs.declared.mention.Mention.{Mention}
use Rattle.use_chains.specs.declared.slot.SlotPlace.{SlotPlace}
use Rattle.use_chains.specs.Slots.{inst_at, slots, IsClosed, IsLive}
use Rattle.use_chains.specs.Links.{Link, chain, link_of}
use Rattle.hoist_plan.specs.declared.form.Form.{Form}
use Rattle.hoist_plan.specs.declared.form.Form.TheVariants.{Gone, Forwarded, Local, Hoisted}
use Rattle.hoist_plan.specs.Plan.{Placed, mentions_of, results, is_live, is_named, is_hoisted, form_with, is_carried_with, carries, carried_from}
use Rattle.glsl_ast.specs.Tree.{Stmt, LStep, TranslationUnit}
use Rattle.expr_forward.specs.Scope.{Scope, globals}
use Rattle.expr_forward.specs.declared.kinds.InstKind.{InstKind}
use Rattle.expr_forward.specs.declared.kinds.InstKind.TheVariants as kind
use Rattle.expr_forward.specs.Kinds.{kind_of}
use Rattle.expr_forward.specs.Values.{value, expression}
use Rattle.expr_forward.specs.Statements.{set_by, capture, insert_text, is_variable_form, inst_text}
use Rattle.expr_forward.specs.Paths.{part_steps}
use Rattle.access_paths.specs.Ways.{captured_indexes}
use Rattle.function_plan.specs.Phis.{is_gone}
use Rattle.function_text.specs.Functions.{FunctionPlan}
use Rattle.unit_rules.specs.Unit.{IsUnitOf}
use Rattle.list_law.proofs.Numbers.{same_number, number_same}
use Rattle.plan_law.specs.Ordered.{AreOrdered}
use Rattle.plan_law.proofs.Order.{in_order}
use Rattle.typed_law.specs.Conforms.{IsConforming}
use Rattle.typed_law.proofs.Lists.{clash}
use Rattle.typed_law.proofs.Values.{inside}
use Rattle.claim_law.specs.Claimed.{IsIn}
use Rattle.claim_law.proofs.Claim.Listed.{in_flat, in_mapped, at_place}
use Rattle.grammar_law.proofs.Unit.Lists.{some_length, at_some, contained, of_contained, numbered_first, in_filter, of_filter, of_numbered_first, as_among}
use Rattle.grammar_law.proofs.Unit.Forms.{placed, is_placed, made_by, form_at}
use Rattle.grammar_law.proofs.Unit.Ways.{HaveKinds, F, R, V, plan_is, ordered, in_module}

pub of_mapped : {A B : Type 0} (f : A → B) (xs : List A) (y : B) → IsIn y (map f xs) → (x : A) × IsIn x xs × (f x ≡ y)
of_mapped f [] y there = absurd there
of_mapped f (x ∷ xs) y (inl same) = (x, inl refl, same)
of_mapped f (x ∷ xs) y (inr there) = let w = of_mapped f xs y there in (w.0, inr w.1, w.2)

pure_result : (o : Op) → is_pure o ≡ true → has_result o ≡ true
unfolding shape
pure_result code.Undef on = refl
pure_result o on = cc

-- kinds of instructions without effect
abbrev pub is_quiet : InstKind → Bool
is_quiet kind.Chain = true
is_quiet kind.CompositeInsert = true
is_quiet kind.VectorInsertDynamic = true
is_quiet (kind.Value o) = true
is_quiet kind.Silent = true
is_quiet _ = false

pub pure_quiet : (o : Op) → is_pure o ≡ true → is_quiet (kind_of o) ≡ true
unfolding shape kind_of group_of
pure_quiet code.Undef on = refl
pure_quiet o on = cc

-- nothing is written of what is gone, and of no index where it is not carried
module _ (w : Scope) (block : ℕ) (i : Inst) (gone : w.form i.result ≡ Gone) (left : w.carried i.result ≡ false) where
  no_insert : (xs : List Stmt) → (if is_variable_form (w.form i.result) then xs else []) ≡ []
  no_insert xs = ap (λ (x : Form). if is_variable_form x then xs else []) gone

  quiet_text : (k : InstKind) → is_quiet k ≡ true → inst_text w block i k ≡ []
  quiet_text kind.Chain on = ap (λ (b : Bool). map (capture w i) (if b then captured_indexes (globals w) i else [])) (and_right (is_chain i.op) (w.carried i.result) left)
  quiet_text kind.CompositeInsert on = no_insert (insert_text w block i (slice_index i.args 1) (part_steps w.setting i.ty (drop 2 i.args)) (slice_index i.args 0))
  quiet_text kind.VectorInsertDynamic on = no_insert (insert_text w block i (slice_index i.args 0) (LStep.index (value w block (slice_index i.args 2)) ∷ []) (slice_index i.args 1))
  quiet_text (kind.Value o) on = ap (set_by w i (expression w (value w block) block i)) gone
  quiet_text kind.Silent on = refl
  quiet_text k on = cc

-- what is not mentioned is not carried
module _ (f : Function) (links : List Link) where
  unmentioned : (ps : List Placed) → ((p : Placed) → IsIn p ps → p.mentions ≡ mentions_of links p.result) → (n : ℕ) → mentions_of links n ≡ [] → carried_from f ps n ≡ false
  unmentioned [] own n none = refl
  unmentioned (p ∷ ps) own n none = by_test (is_carried_with f (carried_from f ps) p) refl (unmentioned ps (λ q q_in. own q (inr q_in)))
    where
      lone : n ≡ p.result → ((k : ℕ) → mentions_of links k ≡ [] → carried_from f ps k ≡ false) → is_carried_with f (carried_from f ps) p ≡ false
      lone same later =
          let empty : mentions_of links p.result ≡ [] = ap (mentions_of links) (sym same) ∙ none in
          and_right (is_chain p.op) (carried_from f ps p.result || list_any (carries f (carried_from f ps) p.block) p.mentions)
          (or_from (carried_from f ps p.result) (list_any (carries f (carried_from f ps) p.block) p.mentions) (later p.result empty)
          (ap (list_any (carries f (carried_from f ps) p.block)) (own p (inl refl) ∙ empty)))

      by_test : (b : Bool) → is_carried_with f (carried_from f ps) p ≡ b → ((k : ℕ) → mentions_of links k ≡ [] → carried_from f ps k ≡ false) → elim b as (λ b. Bool) [ true ↦ carried_from f ps n || (n == p.result) | false ↦ carried_from f ps n ] ≡ false
      by_test false is_it later = later n none
      by_test true is_it later = or_from (carried_from f ps n) (n == p.result) (later n none) (false_from_ne_true (n == p.result) (λ same. clash (sym is_it ∙ lone (same_number n p.result same) later)))

module _ (s : Setting) (entry : Option (List ℕ)) (right : IsConforming s.of entry) (kinds : HaveKinds s.of.globals) (o : Options) (unit : TranslationUnit) (u : IsUnitOf s.of o unit) (p : FunctionPlan) (among : IsIn p u.plans) where
  abbrev Fn : Function
  Fn = F s entry right kinds o unit u p among

  abbrev Marks : List Bool
  Marks = R s entry right kinds o unit u p among

  abbrev Where : Scope
  Where = V s entry right kinds o unit u p among

  abbrev links : List Link
  links = (plan_is s entry right kinds o unit u p among).links

  order : AreOrdered Fn (results links Fn)
  order = in_order s.of Fn (ordered s entry right kinds o unit u p among) Marks links (plan_is s entry right kinds o unit u p among).live

  own_mentions : (q : Placed) → IsIn q (results links Fn) → q.mentions ≡ mentions_of links q.result
  own_mentions q q_in = let w = made_by links Fn q q_in in subst (λ (y : Placed). y.mentions ≡ mentions_of links y.result) w.is refl

  -- an instruction is live where it has an effect, or a live instruction mentions it
  module _ (block place : ℕ) (i : Inst) (stands : inst_at Fn block place ≡ Some i) where
    by_mention : (at : SlotPlace) → IsIn at (mentions_of links i.result) → IsLive Fn Marks block place
    by_mention at at_in set closed =
        let live = (plan_is s entry right kinds o unit u p among).live in
        let l = of_mapped (λ (l : Link). l.place) (chain links i.result) at at_in in
        let w = of_filter (λ (l : Link). l.id == i.result) links l.0 l.1 in
        let k = of_filter (λ (l : Link). slice_index_or live.0 l.slot false) (map link_of (enumerate_from 0 (slots Fn Marks))) l.0 (subst (IsIn l.0) live.1.links_are w.0) in
        let m = of_mapped link_of (enumerate_from 0 (slots Fn Marks)) l.0 k.0 in
        let numbered : slice_get (slots Fn Marks) m.0.0 ≡ Some m.0.1 = of_numbered_first (slots Fn Marks) m.0.0 m.0.1 m.1 in
        let user = live.1.live m.0.0 m.0.1 numbered (ap (λ (x : Link). slice_index_or live.0 x.slot false) m.2 ∙ k.1) in
        closed.mentioned m.0.1 block place i (contained (slots Fn Marks) m.0.1 (at_place (slots Fn Marks) m.0.0 m.0.1 numbered)) (user set closed) stands (sym (ap (λ (x : Link). x.id) m.2 ∙ same_number l.0.id i.result w.1))

    by_mentions : (ats : List SlotPlace) → mentions_of links i.result ≡ ats → nat_lt 0 (length ats) ≡ true → IsLive Fn Marks block place
    by_mentions [] is_it some = absurd (grind (arith, nat_tests, some))
    by_mentions (at ∷ ats) is_it some = by_mention at (subst (IsIn at) (sym is_it) (inl refl))

    pub placed_live : is_live (placed links block i) ≡ true → IsLive Fn Marks block place
    placed_live on = by_pure (is_pure i.op) refl on
      where
        by_pure : (b : Bool) → is_pure i.op ≡ b → (not b || nat_lt 0 (length (mentions_of links i.result))) ≡ true → IsLive Fn Marks block place
        by_pure false off on set closed = closed.effects block place i stands off
        by_pure true pure on set closed = by_mentions (mentions_of links i.result) refl on set closed

  -- and only there
  abbrev in_set : ℕ → ℕ → Bool
  in_set b n = option_map_or (λ (i : Inst). is_live (placed links b i)) (inst_at Fn b n) false

  set_closed : IsClosed Fn Marks in_set
  set_closed = record {
    effects = λ b n i at off. ap (λ (q : Option Inst). option_map_or (λ (j : Inst). is_live (placed links b j)) q false) at ∙ or_left (not (is_pure i.op)) (nat_lt 0 (length (mentions_of links i.result))) (ap not off);
    mentioned = λ m b n i m_in user at same. mention_in m b n i m_in (inst_at Fn m.place.block m.place.inst) refl user at same;
  }
    where
      linked : (m : Mention) → Contains (slots Fn Marks) m → IsLive Fn Marks m.place.block m.place.inst → IsIn m.place (mentions_of links m.id)
      linked m m_in live =
          let w = (plan_is s entry right kinds o unit u p among).live in
          let k = at_some (slots Fn Marks) m (of_contained (slots Fn Marks) m m_in) in
          let l : Link = link_of (k.0, m) in
          let there : IsIn l links = subst (IsIn l) (sym w.1.links_are)
          (in_filter (λ (x : Link). slice_index_or w.0 x.slot false) (map link_of (enumerate_from 0 (slots Fn Marks))) l (in_mapped link_of (enumerate_from 0 (slots Fn Marks)) (k.0, m) (numbered_first (slots Fn Marks) k.0 m k.1)) (w.1.whole k.0 m k.1 live)) in
          in_mapped (λ (x : Link). x.place) (chain links m.id) l (in_filter (λ (x : Link). x.id == m.id) links l there (number_same m.id m.id refl))

      mention_in : (m : Mention) (b n : ℕ) (i : Inst) → Contains (slots Fn Marks) m → (q : Option Inst) → inst_at Fn m.place.block m.place.inst ≡ q → option_map_or (λ (j : Inst). is_live (placed links m.place.block j)) (inst_at Fn m.place.block m.place.inst) false ≡ true → inst_at Fn b n ≡ Some i → i.result ≡ m.id → in_set b n ≡ true
      mention_in m b n i m_in q is_it user at same =
          ap (λ (x : Option Inst). option_map_or (λ (j : Inst). is_live (placed links b j)) x false) at
          ∙ or_right (not (is_pure i.op)) (nat_lt 0 (length (mentions_of links i.result))) (subst (λ (k : ℕ). nat_lt 0 (length (mentions_of links k)) ≡ true) (sym same) (some_length (mentions_of links m.id) m.place (linked m m_in (user_live q is_it user))))
        where
          user_live : (q : Option Inst) → inst_at Fn m.place.block m.place.inst ≡ q → option_map_or (λ (j : Inst). is_live (placed links m.place.block j)) (inst_at Fn m.place.block m.place.inst) false ≡ true → IsLive Fn Marks m.place.block m.place.inst
          user_live None is_it user = clash (sym user ∙ ap (λ (x : Option Inst). option_map_or (λ (j : Inst). is_live (placed links m.place.block j)) x false) is_it)
          user_live (Some j) is_it user = placed_live m.place.block m.place.inst j is_it (sym (ap (λ (x : Option Inst). option_map_or (λ (k : Inst). is_live (placed links m.place.block k)) x false) is_it) ∙ user)

  pub live_placed : (b n : ℕ) (i : Inst) → inst_at Fn b n ≡ Some i → IsLive Fn Marks b n → is_live (placed links b i) ≡ true
  live_placed b n i at live = sym (ap (λ (q : Option Inst). option_map_or (λ (j : Inst). is_live (placed links b j)) q false) at) ∙ live in_set set_closed

  -- a live instruction of a reached block, which is not gone
  pub record IsRun (block : ℕ) (i : Inst) : Type 0 where
    pub place : ℕ
    pub holder : Block
    pub there : slice_get Fn.blocks block ≡ Some holder
    pub within : IsIn i holder.insts
    pub at : inst_at Fn block place ≡ Some i
    pub here : slice_index_or Marks block false ≡ true
    pub live : IsLive Fn Marks block place
    pub kept : (i.result ≡ 0 → ⊥) → is_gone (Where.form i.result) ≡ false

  module _ (block : ℕ) (holder : Block) (i : Inst) (there : slice_get Fn.blocks block ≡ Some holder) (inside_it : IsIn i holder.insts) where
    abbrev pub P : Placed
    P = placed links block i

    pub some : is_pure i.op ≡ true → i.result ≡ 0 → ⊥
    some on =
        let listed : IsIn i (insts_of Fn) = in_flat (λ (b : Block). b.insts) Fn.blocks holder i (at_place Fn.blocks block holder there) inside_it in
        ((inside s entry right Fn (in_module s entry right kinds o unit u p among)).formed i (as_among (insts_of Fn) i listed)).result (pure_result i.op on)

    pub told : (i.result ≡ 0 → ⊥) → (k : ℕ → Option ℕ) × (Where.form i.result ≡ form_with s.of.globals Fn k P)
    told made = form_at s.of.globals Fn links order P (is_placed links Fn block holder i there inside_it made)

    formed_by : (l : Bool) (k : ℕ → Option ℕ) → is_live P ≡ l → is_gone (form_with s.of.globals Fn k P) ≡ not l
    formed_by l k is_it = ap (λ (x : Bool). is_gone (if x then (if is_named s.of.globals Fn k P then (if is_hoisted Fn P then Hoisted else Local) else Forwarded) else Gone)) is_it ∙ by_named l (is_named s.of.globals Fn k P) (is_hoisted Fn P)
      where
        by_named : (l n h : Bool) → is_gone (if l then (if n then (if h then Hoisted else Local) else Forwarded) else Gone) ≡ not l
        by_named false n h = refl
        by_named true true true = refl
        by_named true true false = refl
        by_named true false h = refl

    pub live_form : (l : Bool) → is_live P ≡ l → (i.result ≡ 0 → ⊥) → is_gone (Where.form i.result) ≡ not l
    live_form l is_it made = ap is_gone (told made).1 ∙ formed_by l (told made).0 is_it

    gone_of : (x : Form) → is_gone x ≡ true → x ≡ Gone
    gone_of Gone on = refl
    gone_of x on = cc

    module _ (place : ℕ) (stands : inst_at Fn block place ≡ Some i) (here : slice_index_or Marks block false ≡ true) where
      pub run : IsLive Fn Marks block place → IsRun block i
      run live = record { place = place; holder = holder; there = there; within = inside_it; at = stands; here = here; live = live; kept = live_form true (live_placed block place i stands live) }

      -- it is live, or nothing is written of it
      pub live_or_gone : IsRun block i ⊎ (inst_text Where block i (kind_of i.op) ≡ [])
      live_or_gone = by_live (is_live P) refl
        where
          split : (a b : Bool) → (not a || b) ≡ false → (a ≡ true) × (b ≡ false)
          split true b off = (refl, off)
          split false b off = cc

          empty : (ats : List SlotPlace) → nat_lt 0 (length ats) ≡ false → ats ≡ []
          empty [] off = refl
          empty (at ∷ ats) off = absurd (grind (arith, nat_tests, off))

          by_live : (l : Bool) → is_live P ≡ l → IsRun block i ⊎ (inst_text Where block i (kind_of i.op) ≡ [])
          by_live true on = inl (run (placed_live block place i stands on))
          by_live false off =
              let parts = split (is_pure i.op) (nat_lt 0 (length (mentions_of links i.result))) off in
              let none = empty (mentions_of links i.result) parts.1 in
              inr (quiet_text Where block i (gone_of (Where.form i.result) (live_form false off (some parts.0))) (unmentioned Fn links (results links Fn) own_mentions i.result none) (kind_of i.op) (pure_quiet i.op parts.0))
