-- Chains that other blocks mention are carried; and results that have a variable wherever they are live are named.
use Rattle.std.proofs.Common.{◌≡◌, ◌==◌, ◌&&◌, ◌||◌, ◌++◌, not, ℕ, Bool, true, false, List, [], ◌∷◌, Option, Some, inl, inr, refl, sym, ap, ◌∙◌, subst, if◌then◌else◌}
use Rattle.std.specs.Prelude.{◌⊎◌, slice_get, slice_index_or}
use Rattle.std.specs.Option.{option_map_or}
use Rattle.std.specs.List.{list_any}
use Rattle.std.proofs.lemmas.Bool.{and_from, or_left, or_right}
use Rattle.spv_ops.specs.Opcode.{is}
use Rattle.spv_ops.specs.Groups.{is_chain}
use Rattle.spv_ops.specs.declared.Op.TheVariants as code
use Rattle.spv_module.specs.Lists.{id}
use Rattle.spv_module.specs.declared.inst.Inst.{Inst}
use Rattle.spv_module.specs.declared.inst.Block.{Block}
use Rattle.spv_module.specs.declared.inst.Function.{Function}
use Rattle.structure_rules.specs.declared.graph.Node.{Node}
use Rattle.structure_rules.specs.Graph.{graph, nth}
use Rattle.conformance.specs.Rules.{Options}
use Rattle.module_semantics.specs.Setting.{Setting}
use Rattle.use_chains.specs.declared.slot.SlotPlace.{SlotPlace}
use Rattle.hoist_plan.specs.declared.form.Form.{Form}
use Rattle.hoist_plan.specs.declared.form.Form.TheVariants.{Gone, Forwarded, Local, Hoisted}
use Rattle.hoist_plan.specs.Plan.{Placed, user, results, is_elsewhere_by, is_live, is_value, is_always_named, is_named_by_use, own_height, is_named, is_hoisted, form_with, carries_by, carries, is_carried_with, carried_from}
use Rattle.name_alloc.specs.declared.claims.Key.TheVariants.{Id}
use Rattle.name_alloc.specs.Naming.{name_of}
use Rattle.glsl_ast.specs.Tree.{TranslationUnit}
use Rattle.expr_forward.specs.Scope.{Scope}
use Rattle.function_plan.specs.Phis.{is_gone}
use Rattle.function_text.specs.Functions.{FunctionPlan}
use Rattle.unit_rules.specs.Translation.{Naming, text_of}
use Rattle.unit_rules.specs.Unit.{IsUnitOf}
use Rattle.list_law.proofs.Numbers.{number_same, number_other}
use Rattle.list_law.proofs.Tests.{clash}
use Rattle.plan_law.specs.Ordered.{AreOrdered}
use Rattle.plan_law.proofs.Order.{in_order}
use Rattle.typed_law.specs.Conforms.{IsConforming}
use Rattle.claim_law.specs.Claimed.{IsIn}
use Rattle.claim_law.proofs.Claim.Listed.{any_in}
use Rattle.grammar_law.specs.Mentioned.{IsLinked}
use Rattle.grammar_law.specs.Words.{words_of, AreOfStructs}
use Rattle.grammar_law.proofs.Unit.Lists.{split_at}
use Rattle.grammar_law.proofs.Unit.Links.{link_at, linked_user, own_block, link_stands}
use Rattle.grammar_law.proofs.Unit.Forms.{placed, is_placed, form_at}
use Rattle.grammar_law.proofs.Unit.Ways.{HaveKinds, F, R, V, plan_is, ordered, reached_nth}
use Rattle.grammar_law.proofs.Unit.Sets.{formed_text}

module _ (f : Function) where
  -- what is carried after some results is carried after all
  pub carried_on : (front back : List Placed) (n : ℕ) → carried_from f back n ≡ true → carried_from f (front ++ back) n ≡ true
  carried_on [] back n on = on
  carried_on (p ∷ ps) back n on = by_test (is_carried_with f (carried_from f (ps ++ back)) p) (carried_on ps back n on)
    where
      by_test : (b : Bool) → carried_from f (ps ++ back) n ≡ true → elim b as (λ b. Bool) [ true ↦ carried_from f (ps ++ back) n || (n == p.result) | false ↦ carried_from f (ps ++ back) n ] ≡ true
      by_test true on = or_left (carried_from f (ps ++ back) n) (n == p.result) on
      by_test false on = on

  -- and a chain that is to be carried is
  pub own_carried : (back : List Placed) (p : Placed) → is_carried_with f (carried_from f back) p ≡ true → carried_from f (p ∷ back) p.result ≡ true
  own_carried back p = by_test (is_carried_with f (carried_from f back) p)
    where
      by_test : (b : Bool) → b ≡ true → elim b as (λ b. Bool) [ true ↦ carried_from f back p.result || (p.result == p.result) | false ↦ carried_from f back p.result ] ≡ true
      by_test true on = or_right (carried_from f back p.result) (p.result == p.result) (number_same p.result p.result refl)
      by_test false on = cc

  -- a chain that is mentioned in another block than its own
  carried_elsewhere : (ps : List Placed) (p : Placed) (at : SlotPlace) (i : Inst) → IsIn p ps → is_chain p.op ≡ true → IsIn at p.mentions → user f at ≡ Some i → is_elsewhere_by f p.block at i ≡ true → carried_from f ps p.result ≡ true
  carried_elsewhere ps p at i among chain mentioned there elsewhere =
      let w = split_at ps p among in
      subst (λ (qs : List Placed). carried_from f qs p.result ≡ true) (sym w.2) (carried_on w.0 (p ∷ w.1) p.result (own w.1))
    where
      own : (back : List Placed) → carried_from f (p ∷ back) p.result ≡ true
      own back =
          let carried : carries f (carried_from f back) p.block at ≡ true
          = ap (λ (q : Option Inst). option_map_or (carries_by f (carried_from f back) p.block at) q false) there
          ∙ or_left (is_elsewhere_by f p.block at i) ((at.arg == 0) && (is_chain i.op && carried_from f back i.result)) elsewhere in
          own_carried back p
          (and_from (is_chain p.op) (carried_from f back p.result || list_any (carries f (carried_from f back) p.block) p.mentions) chain
          (or_right (carried_from f back p.result) (list_any (carries f (carried_from f back) p.block) p.mentions) (any_in (carries f (carried_from f back) p.block) p.mentions at mentioned carried)))

-- a result that has a variable wherever it is live has one where it is not gone
always_formed : (gs : List Inst) (f : Function) (k : ℕ → Option ℕ) (p : Placed) → is_value gs p.ty ≡ true → is_always_named p.op ≡ true → is_gone (form_with gs f k p) ≡ false → (form_with gs f k p ≡ Local) ⊎ (form_with gs f k p ≡ Hoisted)
always_formed gs f k p value always kept = by_live (is_live p) refl (is_named gs f k p) refl kept
  where
    by_hoisted : (h : Bool) → ((if h then Hoisted else Local) ≡ Local) ⊎ ((if h then Hoisted else Local) ≡ Hoisted)
    by_hoisted true = inr refl
    by_hoisted false = inl refl

    named_on : is_live p ≡ true → is_named gs f k p ≡ true
    named_on live =
        and_from (is_value gs p.ty) (is_live p && (is_named_by_use gs f p || (own_height k p == 17))) value
        (and_from (is_live p) (is_named_by_use gs f p || (own_height k p == 17)) live
        (or_left (is_named_by_use gs f p) (own_height k p == 17) (or_left (is_always_named p.op) _ always)))

    by_live : (l : Bool) → is_live p ≡ l → (n : Bool) → is_named gs f k p ≡ n → is_gone (if l then (if n then (if is_hoisted f p then Hoisted else Local) else Forwarded) else Gone) ≡ false
        → ((if l then (if n then (if is_hoisted f p then Hoisted else Local) else Forwarded) else Gone) ≡ Local) ⊎ ((if l then (if n then (if is_hoisted f p then Hoisted else Local) else Forwarded) else Gone) ≡ Hoisted)
    by_live false live n named kept = cc
    by_live true live true named kept = by_hoisted (is_hoisted f p)
    by_live true live false named kept = clash (sym (named_on live) ∙ named)

module _ (s : Setting) (entry : Option (List ℕ)) (right : IsConforming s.of entry) (kinds : HaveKinds s.of.globals) (o : Options) (unit : TranslationUnit) (u : IsUnitOf s.of o unit) (p : FunctionPlan) (among : IsIn p u.plans) where
  abbrev Found : Naming
  Found = name_of u.claimed

  abbrev Fn : Function
  Fn = F s entry right kinds o unit u p among

  abbrev Marks : List Bool
  Marks = R s entry right kinds o unit u p among

  abbrev Where : Scope
  Where = V s entry right kinds o unit u p among

  module _ (block : ℕ) (holder : Block) (j : Inst) (there : slice_get Fn.blocks block ≡ Some holder) (inside : IsIn j holder.insts) (some : j.result ≡ 0 → ⊥) where
    abbrev P : Placed
    P = placed (plan_is s entry right kinds o unit u p among).links block j

    listed : IsIn P (results (plan_is s entry right kinds o unit u p among).links Fn)
    listed = is_placed (plan_is s entry right kinds o unit u p among).links Fn block holder j there inside some

    -- a chain that a live instruction of another block mentions is carried
    pub carried_by_use : is_chain j.op ≡ true → (b : ℕ) (i : Inst) (m : IsLinked Fn Marks b i j.result) → is i.op code.Phi ≡ false → (b ≡ block → ⊥) → Where.carried j.result ≡ true
    carried_by_use chain b i m no_phi apart =
        carried_elsewhere Fn (results (plan_is s entry right kinds o unit u p among).links Fn) P (link_at Fn Marks b i j.result m) i listed chain
        (link_stands Fn Marks b i j.result m (plan_is s entry right kinds o unit u p among).links (plan_is s entry right kinds o unit u p among).live)
        (linked_user Fn Marks b i j.result m)
        (ap (λ (c : ℕ). not (c == block)) (own_block Fn Marks b i j.result m no_phi) ∙ ap not (number_other b block apart))

    -- a load, a call, an atomic instruction or a composite that is put together has a variable, where it is not gone
    pub always_form : is_value s.of.globals j.ty ≡ true → is_always_named j.op ≡ true → is_gone (Where.form j.result) ≡ false → (Where.form j.result ≡ Local) ⊎ (Where.form j.result ≡ Hoisted)
    always_form value always kept =
        subst (λ (x : Form). (x ≡ Local) ⊎ (x ≡ Hoisted)) (sym told.1) (always_formed s.of.globals Fn told.0 P value always (ap is_gone (sym told.1) ∙ kept))
      where
        order : AreOrdered Fn (results (plan_is s entry right kinds o unit u p among).links Fn)
        order = in_order s.of Fn (ordered s entry right kinds o unit u p among) Marks (plan_is s entry right kinds o unit u p among).links (plan_is s entry right kinds o unit u p among).live

        told : (k : ℕ → Option ℕ) × (Where.form j.result ≡ form_with s.of.globals Fn k P)
        told = form_at s.of.globals Fn (plan_is s entry right kinds o unit u p among).links order P listed

    -- and a name
    pub always_text : (names : List (List ℕ)) (structs : AreOfStructs s.of.globals (name_of u.claimed) names) → is_value s.of.globals j.ty ≡ true → is_always_named j.op ≡ true → is_gone (Where.form j.result) ≡ false → slice_index_or Marks block false ≡ true
        → (words_of s.of.globals (name_of u.claimed) names).value (text_of Found (Id (id j.result)))
    always_text names structs value always kept here = by_form (always_form value always kept)
      where
        reached : (nth p.graph block).reached ≡ true
        reached = ap (λ (g : List Node). (nth g block).reached) (plan_is s entry right kinds o unit u p among).graph_is ∙ (sym (reached_nth (graph Fn) block) ∙ here)

        by_form : (Where.form j.result ≡ Local) ⊎ (Where.form j.result ≡ Hoisted) → (words_of s.of.globals (name_of u.claimed) names).value (text_of Found (Id (id j.result)))
        by_form (inl local) = formed_text s entry right kinds o unit u p among names structs block holder j there inside some Local local (or_left (nth p.graph block).reached (is j.op code.Variable) reached)
        by_form (inr top) = formed_text s entry right kinds o unit u p among names structs block holder j there inside some Hoisted top refl
