-- What live instructions read as globals is made of declared words: a constant that is mentioned is declared, and what is built in has its name.
use Rattle.std.proofs.Common.{◌≡◌, ◌+◌, ◌==◌, ◌&&◌, ◌||◌, not, ℕ, suc, Bool, true, false, List, [], map, Option, Some, None, unwrap_or, refl, sym, ap, ◌∙◌, subst, if◌then◌else◌}
use Rattle.std.specs.Prelude.{slice_get, slice_index, slice_index_or, option_and_then}
use Rattle.std.specs.List.{enumerate_from}
use Rattle.std.proofs.lemmas.Bool.{and_from}
use Rattle.std.proofs.lemmas.Option.{same_Some}
use Rattle.spv_ops.specs.Groups.{is_chain}
use Rattle.spv_ops.specs.Operands.{is_id}
use Rattle.spv_ops.specs.Shape.{is_pure}
use Rattle.spv_ops.specs.Enumerants.{built_in_of_number, decoration_number}
use Rattle.spv_ops.specs.declared.BuiltIn.{BuiltIn}
use Rattle.spv_ops.specs.declared.BuiltIn.TheVariants as built
use Rattle.spv_ops.specs.declared.Decoration.TheVariants as decoration
use Rattle.spv_module.specs.Held.{global}
use Rattle.spv_module.specs.Lists.{id}
use Rattle.spv_module.specs.declared.inst.Inst.{Inst}
use Rattle.spv_module.specs.declared.inst.Block.{Block}
use Rattle.spv_module.specs.declared.inst.Function.{Function}
use Rattle.spv_decor.specs.Rows.{value_of}
use Rattle.spv_index.specs.Locals.{insts_of}
use Rattle.structure_rules.specs.declared.graph.Node.{Node}
use Rattle.conformance.specs.Rules.{Options}
use Rattle.module_semantics.specs.Setting.{Setting}
use Rattle.use_chains.specs.Slots.{is_slot, is_value, is_taken, is_label_reached, operands, mentions}
use Rattle.name_alloc.specs.declared.claims.Key.TheVariants.{Id}
use Rattle.name_alloc.specs.Naming.{name_of}
use Rattle.glsl_ast.specs.Tree.{Expr, name, TranslationUnit}
use Rattle.access_paths.specs.Ways.{indexes}
use Rattle.text_rules.specs.declared.readings.Reading.TheVariants.{Named}
use Rattle.text_rules.specs.Constants.{Source, is_constant, reading, constant_expr}
use Rattle.text_rules.specs.Printed.{is_named}
use Rattle.text_items.specs.Globals.{built_in_name, built_in_text, is_input, global_by}
use Rattle.expr_forward.specs.Scope.{Scope}
use Rattle.expr_forward.specs.Paths.{index_expr}
use Rattle.function_plan.specs.Phis.{is_gone}
use Rattle.function_plan.specs.Planned.{is_live, is_reached_node}
use Rattle.function_text.specs.Functions.{FunctionPlan, written}
use Rattle.function_text.specs.Live.{mentions_of, in_block}
use Rattle.unit_rules.specs.Translation.{Naming, id_text}
use Rattle.unit_rules.specs.Unit.{liveness_of, live_of, source_of, IsUnitOf}
use Rattle.list_law.proofs.Lists.{behind_first}
use Rattle.list_law.proofs.Numbers.{number_same}
use Rattle.claim_law.specs.Uses.{Words, UsesExpr}
use Rattle.typed_law.specs.Conforms.{IsConforming}
use Rattle.typed_law.proofs.Lists.{some_part}
use Rattle.claim_law.specs.Claimed.{IsIn, HasName}
use Rattle.claim_law.specs.Told.{built_ins, is_among}
use Rattle.claim_law.proofs.Claim.Listed.{in_flat, in_mapped, any_in, at_place}
use Rattle.claim_law.proofs.Claim.Constants.{found_in, constant_named}
use Rattle.grammar_law.specs.Mentioned.{IsMentioned, IsCaptured}
use Rattle.grammar_law.specs.Words.{words_of, AreOfStructs}
use Rattle.grammar_law.proofs.Unit.Lists.{at_some, as_among, numbered_first, in_filter}
use Rattle.grammar_law.proofs.Unit.Ways.{HaveKinds, F, R, V, plan_is, written_is}
use Rattle.grammar_law.proofs.Unit.Words.{built_value}
use Rattle.grammar_law.proofs.Unit.Structs.{Written}
use Rattle.grammar_law.proofs.Unit.TypesWritten.{kept_live}
use Rattle.grammar_law.proofs.Unit.Sets.{chain_id, chain_value, chain_no_phi, index_uses}
use Rattle.grammar_law.proofs.Unit.Indexes.{index_readable}
use Rattle.grammar_law.proofs.Unit.Ruled.{chain_ruled}
use Rattle.grammar_law.proofs.Meets.LiveOrGone.{IsRun, some, run}

pub input_among : (q : Option BuiltIn) → is_among built_ins (built_in_name q) ≡ true
input_among None = refl
input_among (Some built.NumWorkgroups) = refl
input_among (Some built.WorkgroupId) = refl
input_among (Some built.LocalInvocationId) = refl
input_among (Some built.GlobalInvocationId) = refl
input_among (Some b) = refl

module _ (s : Setting) (entry : Option (List ℕ)) (right : IsConforming s.of entry) (kinds : HaveKinds s.of.globals) (o : Options) (unit : TranslationUnit) (u : IsUnitOf s.of o unit) (p : FunctionPlan) (among : IsIn p u.plans) (names : List (List ℕ)) (structs : AreOfStructs s.of.globals (name_of u.claimed) names) where
  abbrev Gs : List Inst
  Gs = s.of.globals

  abbrev S : Source
  S = source_of s.of o u.entry

  abbrev Found : Naming
  Found = name_of u.claimed

  abbrev Fn : Function
  Fn = F s entry right kinds o unit u p among

  abbrev Marks : List Bool
  Marks = R s entry right kinds o unit u p among

  abbrev Where : Scope
  Where = V s entry right kinds o unit u p among

  abbrev W : Words
  W = words_of s.of.globals (name_of u.claimed) names

  abbrev All : List ℕ
  All = (Written s.of o unit u).mentions

  marks_are : map is_reached_node p.graph ≡ Marks
  marks_are = ap (λ (g : List Node). map is_reached_node g) (plan_is s entry right kinds o unit u p among).graph_is

  -- what an instruction counts as mentioned is mentioned in the text
  listed : (block : ℕ) (holder : Block) (i : Inst) (n : ℕ) → slice_get Fn.blocks block ≡ Some holder → IsIn i holder.insts → IsIn n (mentions_of (liveness_of S p) (slice_index_or (liveness_of S p).reached block false) i) → IsIn n All
  listed block holder i n there inside_it own =
      in_flat (live_of mentions_of S) u.plans p n among
      (in_flat (in_block mentions_of (liveness_of S p)) (enumerate_from 0 (written p).blocks) (block, holder) n (numbered_first (written p).blocks block holder (subst (λ (f : Function). slice_get f.blocks block ≡ Some holder) (sym (written_is s entry right kinds o unit u p among)) there))
      (in_flat (mentions_of (liveness_of S p) (slice_index_or (liveness_of S p).reached block false)) holder.insts i n inside_it own))

  -- so is what a live instruction of a reached block mentions
  pub mention_listed : (block n : ℕ) (i : Inst) → IsMentioned Fn Marks block i n → IsIn n All
  mention_listed block n i m =
      let w = some_part (λ (b : Block). slice_get b.insts m.place) (slice_get Fn.blocks block) i m.there in
      let inside_it : IsIn i w.0.insts = at_place w.0.insts m.place i w.2 in
      let r = run s entry right kinds o unit u p among block w.0 i w.1 inside_it m.place m.there m.here m.live in
      listed block w.0 i n w.1 inside_it (own w.0 w.1 inside_it r)
    where
      live_here : (holder : Block) → slice_get Fn.blocks block ≡ Some holder → IsIn i holder.insts → IsRun s entry right kinds o unit u p among block i → is_live p.scope.form i ≡ true
      live_here holder there inside_it r = subst (λ (w : Scope). is_live w.form i ≡ true) (sym (plan_is s entry right kinds o unit u p among).scope_is) (by_pure (is_pure i.op) refl)
        where
          by_pure : (b : Bool) → is_pure i.op ≡ b → is_live Where.form i ≡ true
          by_pure true on = kept_live Where.form i (r.kept (some s entry right kinds o unit u p among block holder i there inside_it on))
          by_pure false off = ap (λ (b : Bool). elim b as (λ b. Bool) [ true ↦ elim (is_gone (Where.form i.result)) as (λ b. Bool) [ true ↦ false | false ↦ true ] | false ↦ true ]) off

      there_too : IsIn n (mentions Fn Marks i)
      there_too =
          in_mapped (λ (q : ℕ × ℕ). q.1) (operands Fn Marks i) (m.arg, n)
          (in_filter (λ (q : ℕ × ℕ). is_slot Fn Marks i q.0) (enumerate_from 0 i.args) (m.arg, n) (numbered_first i.args m.arg n m.word) m.slot)

      own : (holder : Block) → slice_get Fn.blocks block ≡ Some holder → IsIn i holder.insts → IsRun s entry right kinds o unit u p among block i → IsIn n (mentions_of (liveness_of S p) (slice_index_or (liveness_of S p).reached block false) i)
      own holder there inside_it r =
          subst (λ (b : Bool). IsIn n (mentions_of (liveness_of S p) b i)) (sym (ap (λ (l : List Bool). slice_index_or l block false) marks_are ∙ m.here))
          (subst (λ (b : Bool). IsIn n (if b then mentions (written p) (liveness_of S p).reached i else [])) (sym (live_here holder there inside_it r))
          (subst (λ (f : Function). IsIn n (mentions f (liveness_of S p).reached i)) (sym (written_is s entry right kinds o unit u p among))
          (subst (λ (l : List Bool). IsIn n (mentions Fn l i)) (sym marks_are) there_too)))

  -- and an index of a chain that a reached block needs
  pub captured_listed : (block n : ℕ) (i : Inst) → IsCaptured Where Marks block i → IsIn n (indexes i) → IsIn n All
  captured_listed block n i c n_in =
      listed block c.holder i n c.there c.among
      (subst (λ (b : Bool). IsIn n (mentions_of (liveness_of S p) b i)) (sym (ap (λ (l : List Bool). slice_index_or l block false) marks_are ∙ c.off))
      (subst (λ (b : Bool). IsIn n (if b then indexes i else [])) (sym (and_from (is_chain i.op) (p.scope.carried i.result) c.chain (ap (λ (w : Scope). w.carried i.result) (plan_is s entry right kinds o unit u p among).scope_is ∙ c.carried))) n_in))

  module _ (constant_uses : (g : Inst) → IsIn g s.of.globals → is_constant g ≡ true → (reading S g ≡ Named → HasName Found (Id (id g.result))) → UsesExpr (words_of s.of.globals (name_of u.claimed) names) (constant_expr S (id_text Found) g)) where
    -- what is read of a mentioned global
    pub read_uses : (n : ℕ) → IsIn n All → (e : Expr) → Where.setting.global n ≡ Some e → UsesExpr W e
    read_uses n n_in e is_it = by_global (global Gs n) refl is_it
      where
        by_input : (g : Inst) (b : Bool) → (if b then Some (name (built_in_text (unwrap_or (value_of s.of.heads g.result (decoration_number decoration.BuiltIn)) 0))) else None) ≡ Some e → UsesExpr W e
        by_input g true is_it =
            let w = built_in_text (unwrap_or (value_of s.of.heads g.result (decoration_number decoration.BuiltIn)) 0) in
            subst (UsesExpr W) (same_Some (name w) e is_it) (built_value Gs Found u.lawful names structs w (input_among (built_in_of_number (unwrap_or (value_of s.of.heads g.result (decoration_number decoration.BuiltIn)) 0))))
        by_input g false is_it = cc

        by_constant : (g : Inst) → global Gs n ≡ Some g → (b : Bool) → is_constant g ≡ b → (if b then Some (constant_expr S (id_text Found) g) else (if is_input g then Some (name (built_in_text (unwrap_or (value_of s.of.heads g.result (decoration_number decoration.BuiltIn)) 0))) else None)) ≡ Some e → UsesExpr W e
        by_constant g at true on is_it =
            let there = found_in Gs n g at in
            subst (UsesExpr W) (same_Some (constant_expr S (id_text Found) g) e is_it)
            (constant_uses g there.0 on (λ named. subst (λ (k : ℕ). HasName Found (Id (id k))) (sym there.1) (constant_named s.of o unit u n g (any_in (λ (k : ℕ). k == n) All n n_in (number_same n n refl)) at on (ap is_named named))))
        by_constant g at false off is_it = by_input g (is_input g) is_it

        by_global : (q : Option Inst) → global Gs n ≡ q → option_and_then (global_by S (id_text Found)) q ≡ Some e → UsesExpr W e
        by_global None at is_it = cc
        by_global (Some g) at is_it = by_constant g at (is_constant g) refl is_it

    -- the index of a live chain
    pub index_written : (b : ℕ) (i : Inst) → IsRun s entry right kinds o unit u p among b i → is_chain i.op ≡ true → (n : ℕ) → IsIn n (indexes i) → UsesExpr W (index_expr Where.setting n)
    index_written b i r chain n n_in =
        let stands = as_among (insts_of Fn) i (in_flat (λ (c : Block). c.insts) Fn.blocks r.holder i (at_place Fn.blocks b r.holder r.there) r.within) in
        let ruled = chain_ruled s entry right kinds o unit u p among names structs i stands chain in
        let at = at_some (indexes i) n n_in in
        let arg = behind_first i.args at.0 n at.1 in
        let q = index_readable s entry right kinds o unit u p among names structs i ruled n n_in (read_uses n (mention_listed b n i (mention at.0 arg))) in
        index_uses s entry right kinds o unit u p among names structs b r.holder i r.there r.within ruled.some r.place at.0 n chain r.at r.here r.live arg q.shape q.shaped q.other q.read
      where
        mention : (k : ℕ) → slice_get i.args (suc k) ≡ Some n → IsMentioned Fn Marks b i n
        mention k arg = record {
          place = r.place;
          arg = suc k;
          there = r.at;
          here = r.here;
          live = r.live;
          slot = and_from (is_id i.op i.args (suc k)) (is_value i.op (suc k) && is_taken Fn Marks i (suc k)) (chain_id i.op i.args (suc k) chain)
              (and_from (is_value i.op (suc k)) (is_taken Fn Marks i (suc k)) (chain_value i.op (suc k) chain) (ap (λ (x : Bool). not x || is_label_reached Fn Marks (slice_index i.args (suc k + 1))) (chain_no_phi i.op chain)));
          word = arg;
        }
