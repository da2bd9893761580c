-- The copies of an edge between reached blocks are made of declared words.
use Rattle.std.proofs.Common.{◌≡◌, ◌<◌, ◌^◌, ◌==◌, ◌||◌, ℕ, Bool, true, false, List, [], ◌∷◌, length, Option, Some, None, inl, inr, refl, sym, ap, subst, if◌then◌else◌}
use Rattle.std.specs.Prelude.{◌⊎◌, slice_get}
use Rattle.std.specs.Option.{option_map_or}
use Rattle.std.specs.List.{list_any}
use Rattle.spv_module.specs.Lists.{id}
use Rattle.spv_module.specs.declared.inst.Inst.{Inst}
use Rattle.spv_module.specs.declared.inst.Block.{Block}
use Rattle.spv_module.specs.declared.inst.Function.{Function}
use Rattle.structure_rules.specs.declared.graph.Node.{Node}
use Rattle.structure_rules.specs.Graph.{graph, nth}
use Rattle.block_graph.proofs.Within.{graph_sized}
use Rattle.nest_place.specs.Nests.{IsSound}
use Rattle.nest_place.proofs.Outward.{reached_inside}
use Rattle.conformance.specs.Rules.{Options}
use Rattle.module_semantics.specs.Setting.{Setting}
use Rattle.use_chains.specs.Slots.{inst_at, IsLive}
use Rattle.hoist_plan.specs.declared.form.Form.{Form}
use Rattle.phi_copies.specs.declared.moves.Var.{Var}
use Rattle.phi_copies.specs.declared.moves.Src.{Src as Source_of}
use Rattle.phi_copies.specs.declared.moves.Move.{Move}
use Rattle.phi_copies.specs.declared.moves.Move.TheVariants.{Set, Save, Restore}
use Rattle.phi_copies.specs.Sequence.{Pair}
use Rattle.name_alloc.specs.declared.claims.Key.TheVariants.{Id, Spare}
use Rattle.name_alloc.specs.Naming.{name_of}
use Rattle.glsl_ast.specs.Tree.{TranslationUnit}
use Rattle.glsl_grammar.specs.Read.{is_declared}
use Rattle.text_rules.specs.Declarations.{type_at}
use Rattle.text_rules.specs.Printed.{is_written_struct}
use Rattle.expr_forward.specs.Scope.{Scope, type_of}
use Rattle.expr_forward.specs.Values.{variable}
use Rattle.function_plan.specs.Phis.{is_gone, pairs_into, pairs}
use Rattle.function_plan.specs.Once.{once, itself}
use Rattle.function_plan.specs.Targets.{targets_in}
use Rattle.function_plan.specs.Planned.{spares_in}
use Rattle.function_text.specs.Functions.{FunctionPlan, label_of, source_expr, spare_name, set_variable, move_text, copies_text}
use Rattle.unit_rules.specs.Translation.{Naming, text_of, id_text}
use Rattle.unit_rules.specs.Unit.{source_of, IsUnitOf}
use Rattle.list_law.proofs.Numbers.{same_number}
use Rattle.claim_law.specs.Uses.{Words, UsesType, UsesExpr}
use Rattle.claim_law.specs.Statements.{UsesStmt, EachStmt}
use Rattle.claim_law.specs.Blocks.{FitWords}
use Rattle.typed_law.specs.Conforms.{IsConforming}
use Rattle.typed_law.specs.Words.{AreGivenWords}
use Rattle.claim_law.specs.Claimed.{IsIn}
use Rattle.claim_law.proofs.Claim.Named.{spare_named}
use Rattle.claim_law.proofs.Claim.Flags.{at_inside}
use Rattle.grammar_law.specs.Switches.{Leads}
use Rattle.grammar_law.specs.Words.{words_of, AreOfStructs}
use Rattle.grammar_law.proofs.Unit.Structs.{Written}
use Rattle.grammar_law.proofs.Unit.Ways.{HaveKinds, F, R, V, plan_is, written_is}
use Rattle.grammar_law.proofs.Unit.Sets.{own_text}
use Rattle.grammar_law.proofs.Meets.LiveOrGone.{of_mapped}
use Rattle.grammar_law.proofs.Grammar.Listed.{each_stmt}
use Rattle.grammar_law.proofs.Grammar.Moving.{IsTargetOf, IsMoveOf, edge_moves}
use Rattle.grammar_law.proofs.Grammar.PairsOf.{IsPairOf, pair_of, in_once}
use Rattle.grammar_law.proofs.Grammar.PhiNames.{target_value, target_type, source_uses}

-- an edge is among those of the block
pub in_targets : (ts : List ℕ) (t : ℕ) → list_any (λ (x : ℕ). x == t) ts ≡ true → IsIn t ts
in_targets [] t on = cc
in_targets (x ∷ ts) t on = by_test (x == t) refl on (in_targets ts t)
  where
    by_test : (b : Bool) → (x == t) ≡ b → (b || list_any (λ (y : ℕ). y == t) ts) ≡ true → (list_any (λ (y : ℕ). y == t) ts ≡ true → IsIn t ts) → (x ≡ t) ⊎ IsIn t ts
    by_test true same on later = inl (same_number x t same)
    by_test false other on later = inr (later on)

module _ (s : Setting) (entry : Option (List ℕ)) (right : IsConforming s.of entry) (kinds : HaveKinds s.of.globals) (o : Options) (unit : TranslationUnit) (u : IsUnitOf s.of o unit) (p : FunctionPlan) (among : IsIn p u.plans) (names : List (List ℕ)) (structs : AreOfStructs s.of.globals (name_of u.claimed) names)
    (declared : (g : Inst) → IsIn g s.of.globals → is_written_struct (source_of s.of o u.entry) (Written s.of o unit u) g ≡ true → is_declared names (id_text (name_of u.claimed) g.result) ≡ true)
    (words : (g : Inst) → IsIn g s.of.globals → FitWords g.args) (given : AreGivenWords o.overrides)
    (lives : (c place : ℕ) (i : Inst) → inst_at (F s entry right kinds o unit u p among) c place ≡ Some i → is_gone ((V s entry right kinds o unit u p among).form i.result) ≡ false → IsLive (F s entry right kinds o unit u p among) (R s entry right kinds o unit u p among) c place)
    (sound : IsSound (graph (F s entry right kinds o unit u p among)))
    (few : (b t : ℕ) → length (pairs s.of.globals p.scope.form (F s entry right kinds o unit u p among) b t) < 2 ^ 32) where
  abbrev Gs : List Inst
  Gs = s.of.globals

  abbrev Found : Naming
  Found = name_of u.claimed

  abbrev Fn : Function
  Fn = F s entry right kinds o unit u p among

  abbrev Where : Scope
  Where = V s entry right kinds o unit u p among

  abbrev W : Words
  W = words_of s.of.globals (name_of u.claimed) names

  scope_is : p.scope ≡ Where
  scope_is = (plan_is s entry right kinds o unit u p among).scope_is

  module _ (b t : ℕ) (here : (nth (graph Fn) b).reached ≡ true) (leads : Leads (graph Fn) b t) where
    there : (nth (graph Fn) t).reached ≡ true
    there = sound.reached b t here leads

    -- a pair of the edge
    module _ (q : Pair) (holder : Block) (held : slice_get Fn.blocks t ≡ Some holder) (w : IsPairOf Gs Where.form Fn b holder q) where
      target_named : W.value (text_of Found (Id (id q.0.0)))
      target_named =
          subst (λ (x : Pair). W.value (text_of Found (Id (id x.0.0)))) w.same
          (target_value s entry right kinds o unit u p among names structs declared words given lives t holder w.phi held w.among w.is_phi w.kept there)

      target_typed : UsesType W (type_at Where.setting.source Where.names (type_of Where q.0.0))
      target_typed =
          subst (λ (x : Pair). UsesType W (type_at Where.setting.source Where.names (type_of Where x.0.0))) w.same
          (target_type s entry right kinds o unit u p among names structs declared words given lives t holder w.phi held w.among w.is_phi w.kept there)

      source_made : UsesExpr W (source_expr Where q.1)
      source_made =
          subst (λ (x : Pair). UsesExpr W (source_expr Where x.1)) w.same
          (source_uses s entry right kinds o unit u p among names structs declared words given lives t holder w.phi held w.among w.is_phi w.kept there w.place w.value.0 b w.at w.even w.from here)

    abbrev Pairs : List Pair
    Pairs = pairs Gs Where.form Fn b t

    held_pair : (q : Pair) → IsIn q Pairs → (holder : Block) × (slice_get Fn.blocks t ≡ Some holder) × IsPairOf Gs Where.form Fn b holder q
    held_pair q q_in = by_block (slice_get Fn.blocks t) refl q_in
      where
        by_block : (x : Option Block) → slice_get Fn.blocks t ≡ x → IsIn q (option_map_or (pairs_into Gs Where.form Fn b) x []) → (holder : Block) × (slice_get Fn.blocks t ≡ Some holder) × IsPairOf Gs Where.form Fn b holder q
        by_block None is_it among = absurd among
        by_block (Some holder) is_it among = (holder, is_it, pair_of Gs Where.form Fn b holder q among)

    -- a spare
    spare_value : (k : ℕ) → k < spares_in (p.moves b t) → W.value (spare_name p b t k)
    spare_value k less =
        subst (λ (w : Scope). W.value (w.setting.key (Spare (label_of p b) (label_of p t) k))) (sym scope_is)
        (own_text s entry right kinds o unit u p among names structs (Spare (label_of p b) (label_of p t) k)
        (spare_named s.of o unit u p b t k from.0 among (subst (λ (f : Function). slice_get f.blocks b ≡ Some from.0) (sym (written_is s entry right kinds o unit u p among)) from.1) aimed less) refl refl)
      where
        from : (block : Block) × (slice_get Fn.blocks b ≡ Some block)
        from = at_inside Fn.blocks b (subst (λ (n : ℕ). b < n) (graph_sized Fn) (reached_inside (graph Fn) b here))

        aimed : IsIn t (once itself (targets_in p.graph b))
        aimed =
            subst (λ (g : List Node). IsIn t (once itself (targets_in g b))) (sym (plan_is s entry right kinds o unit u p among).graph_is)
            (subst (λ (r : Bool). IsIn t (once itself (if r then (nth (graph Fn) b).targets else []))) (sym here)
            (in_once (λ n. false) (nth (graph Fn) b).targets t refl (in_targets (nth (graph Fn) b).targets t leads)))

    -- by whatever words, where targets and spares have such names, and types and sources are made of such
    module _ (X : Words) (named : (q : Pair) (holder : Block) → slice_get Fn.blocks t ≡ Some holder → IsPairOf Gs Where.form Fn b holder q → X.value (text_of Found (Id (id q.0.0))))
        (typed : (q : Pair) (holder : Block) → slice_get Fn.blocks t ≡ Some holder → IsPairOf Gs Where.form Fn b holder q → UsesType X (type_at Where.setting.source Where.names (type_of Where q.0.0)))
        (source : (q : Pair) (holder : Block) → slice_get Fn.blocks t ≡ Some holder → IsPairOf Gs Where.form Fn b holder q → UsesExpr X (source_expr Where q.1))
        (spare : (k : ℕ) → k < spares_in (p.moves b t) → X.value (spare_name p b t k)) where
      target_pair : (v : Var) → IsTargetOf Pairs v → X.value (text_of Found (Id (id v.0))) × UsesType X (type_at Where.setting.source Where.names (type_of Where v.0))
      target_pair v w =
          let h = held_pair w.0 w.1 in (
            subst (λ (x : Var). X.value (text_of Found (Id (id x.0)))) w.2 (named w.0 h.0 h.1 h.2),
            subst (λ (x : Var). UsesType X (type_at Where.setting.source Where.names (type_of Where x.0))) w.2 (typed w.0 h.0 h.1 h.2),
          )

      -- a move
      move_made : (x : Move) → IsMoveOf Pairs (spares_in (p.moves b t)) x → UsesStmt X (move_text p b t x)
      move_made (Set v src) w =
          let h = held_pair w.0 w.1 in
          subst (λ (y : Scope). UsesStmt X (set_variable y v (source_expr y src))) (sym scope_is)
          (((target_pair v (w.0, w.1, w.2)).0, tt), subst (λ (x : Source_of). UsesExpr X (source_expr Where x)) w.3 (source w.0 h.0 h.1 h.2))
      move_made (Save k v) w =
          let own = target_pair v w.1 in (
            subst (λ (y : Scope). UsesType X (type_at y.setting.source y.names (type_of y v.0))) (sym scope_is) own.1,
            spare k w.0,
            subst (λ (y : Scope). UsesExpr X (variable y v.0)) (sym scope_is) own.0,
          )
      move_made (Restore v k) w =
          ((subst (λ (y : Scope). X.value (y.setting.key (Id (id v.0)))) (sym scope_is) (target_pair v w.1).0, tt), spare k w.0)

      -- the law
      pub copies_of : EachStmt X (copies_text p b t)
      copies_of = each_stmt X (copies_text p b t) (λ x x_in. let m = of_mapped (move_text p b t) (p.moves b t) x x_in in subst (UsesStmt X) m.2 (move_made m.0 (move_known m.0 m.1)))
        where
          move_known : (x : Move) → IsIn x (p.moves b t) → IsMoveOf Pairs (spares_in (p.moves b t)) x
          move_known x x_in =
              subst (λ (form : ℕ → Form). IsMoveOf (pairs Gs form Fn b t) (spares_in (p.moves b t)) x) (ap (λ (w : Scope). w.form) scope_is)
              (edge_moves (pairs Gs p.scope.form Fn b t) (p.moves b t) ((plan_is s entry right kinds o unit u p among).moves_are b t) (few b t) x x_in)

    -- of declared words
    pub copies_made : EachStmt W (copies_text p b t)
    copies_made = copies_of W (λ q holder held w. target_named q holder held w) (λ q holder held w. target_typed q holder held w) (λ q holder held w. source_made q holder held w) (λ k less. spare_value k less)
