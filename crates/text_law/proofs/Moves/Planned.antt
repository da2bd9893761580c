-- An edge of a planned function that is taken is as the law of functions asks, where the types of its phis are declared in the text, the constants that its moves read say their values, and its pairs can be counted.
use Rattle.std.proofs.Common.{◌≡◌, ◌<◌, ◌+◌, ◌==◌, ◌^◌, ℕ, Bool, true, false, List, [], length, Option, Some, Contains, refl, sym, ap, ◌∙◌, subst, if◌then◌else◌}
use Rattle.std.specs.Prelude.{slice_get}
use Rattle.std.specs.Option.{option_map_or}
use Rattle.std.specs.List.{list_any}
use Rattle.spv_module.specs.State.{ModuleState}
use Rattle.spv_module.specs.Lists.{id}
use Rattle.spv_module.specs.declared.inst.Inst.{Inst}
use Rattle.spv_module.specs.declared.inst.Block.{Block}
use Rattle.spv_module.specs.declared.inst.Function.{Function}
use Rattle.spv_types.specs.Tree.{Tree, ValueTree}
use Rattle.spv_types.specs.Types.{type_tree}
use Rattle.spv_index.specs.Locals.{block_in, insts_of}
use Rattle.structure_rules.specs.declared.graph.Node.{Node}
use Rattle.structure_rules.specs.Graph.{graph, nth}
use Rattle.conformance.specs.Rules.{Options}
use Rattle.traces.specs.Invocations.{Invocation}
use Rattle.traces.specs.Outcomes.{Result, got}
use Rattle.module_semantics.specs.Setting.{Setting}
use Rattle.module_semantics.specs.State.{Conf}
use Rattle.module_semantics.specs.Steps.{is_phi}
use Rattle.use_chains.specs.Slots.{inst_at, IsLive}
use Rattle.phi_copies.specs.declared.moves.Src.{Src}
use Rattle.phi_copies.specs.declared.moves.Src.TheVariants.{Var as Variable, Constant}
use Rattle.phi_copies.specs.Sequence.{Pair, is_proper}
use Rattle.name_alloc.specs.Naming.{name_of}
use Rattle.glsl_ast.specs.Tree.{Text, TranslationUnit}
use Rattle.glsl_semantics.specs.Shapes.{Typed, typed}
use Rattle.glsl_semantics.specs.States.{State}
use Rattle.glsl_semantics.specs.Expressions.{Program, Argument, evaluate}
use Rattle.function_plan.specs.Once.{once, itself}
use Rattle.function_plan.specs.Phis.{is_gone, pairs_into, firsts}
use Rattle.function_plan.specs.Targets.{targets_in}
use Rattle.function_text.specs.Functions.{FunctionPlan, written, label_of, constant_text, copies_text}
use Rattle.unit_rules.specs.Unit.{reached_of, source_of, IsUnitOf}
use Rattle.list_law.proofs.Numbers.{odd_on}
use Rattle.agree_law.specs.Agree.{Naming, AreApart, Agree}
use Rattle.agree_law.specs.Blocks.{have_result}
use Rattle.agree_law.specs.Points.{Body, behind}
use Rattle.fits_law.specs.State.{ConfFits, functions_of}
use Rattle.edge_law.proofs.Copies.{IsTaken}
use Rattle.call_law.specs.Known.{IsFunctionOf, LendsWhole}
use Rattle.function_law.specs.Edges.{ArePhisOf}
use Rattle.function_law.proofs.Firsts.{firsts_are}
use Rattle.function_law.proofs.PhiSources.{own_targets}
use Rattle.function_law.proofs.WholeEdges.{IsPlannedEdge}
use Rattle.plan_law.specs.InOrder.{AreInOrder}
use Rattle.global_law.specs.Sources.{chosen}
use Rattle.typed_law.specs.Conforms.{IsConforming}
use Rattle.claim_law.specs.Claimed.{IsIn}
use Rattle.claim_law.specs.Apart.{AreOfKeys}
use Rattle.claim_law.proofs.Claim.Listed.{any_in}
use Rattle.grammar_law.proofs.Unit.Lists.{same_test, test_same, of_contained, of_filter}
use Rattle.grammar_law.proofs.Unit.Ways.{HaveKinds, F, R, V, in_module, plan_is, ordered, written_is}
use Rattle.grammar_law.specs.Formed.{IsFormedFunction}
use Rattle.grammar_law.proofs.Formed.Blocks.{reached_body, reached_only}
use Rattle.text_law.proofs.Naming.Keys.{S, names, some_in}
use Rattle.grammar_law.proofs.Grammar.PairsOf.{IsPairOf, pair_of, in_once}
use Rattle.text_law.proofs.Written.EdgeMoves.{IsRightPair, all_typed, all_reads}
use Rattle.text_law.proofs.Moves.Spares.{spares_apart}
use Rattle.text_law.proofs.Moves.Copies.{reads_source, reads_constant, saved, all_pairs, proper, edge_names, sequence_is, move_of, copies_are, all_named, spare_types}
use Rattle.text_law.proofs.Moves.Taken.{constants_known, phi_sources}
use Rattle.text_law.proofs.Moves.Aimed.{leads_there, from_predecessor}
use Rattle.text_law.proofs.Moves.Standing.{AreDeclaredAt, types_stand}
use Rattle.text_law.proofs.Moves.RightPairs.{right_pairs, constants_mentioned, phis_right}

-- a source that is read as a constant is it
constant_is : (n : ℕ) (x : Src) → reads_source n x ≡ true → x ≡ Constant (id n)
constant_is n (Variable v) on = cc
constant_is n (Constant c) on = ap (λ (k : ℕ). Constant (id k)) (test_same c.0 n on)

module _ (m : ModuleState) (opts : Options) (right : IsConforming m opts.entry) (kinds : HaveKinds m.globals) (unit : TranslationUnit) (u : IsUnitOf m opts unit) (inv : Invocation) (p : FunctionPlan) (among : IsIn p u.plans)
    (lives : (c place : ℕ) (i : Inst) → inst_at (F (S m opts unit u inv) opts.entry right kinds opts unit u p among) c place ≡ Some i → is_gone ((V (S m opts unit u inv) opts.entry right kinds opts unit u p among).form i.result) ≡ false
    → IsLive (F (S m opts unit u inv) opts.entry right kinds opts unit u p among) (R (S m opts unit u inv) opts.entry right kinds opts unit u p among) c place)
    (lends : LendsWhole (S m opts unit u inv)) (is_one : IsFunctionOf (F (S m opts unit u inv) opts.entry right kinds opts unit u p among) m.functions)
    (keys : AreOfKeys (name_of u.claimed) (names m opts unit u inv p)) (form : IsFormedFunction (written p)) (places : (k : ℕ) (x : Block) → slice_get (written p).blocks k ≡ Some x → block_in (written p) x.label.0 ≡ Some k)
    (shaped : (i : Inst) → IsIn i (insts_of (F (S m opts unit u inv) opts.entry right kinds opts unit u p among)) → is_phi i ≡ true → (t : Tree) × (type_tree m.globals i.ty ≡ Some t))
    (program : Program) (calls : Text → List Argument → State → Result (Option Typed × State)) (k : ℕ) (apart : AreApart (names m opts unit u inv p)) (chains : (q j : ℕ) → (names m opts unit u inv p).is_kept q j ≡ true → (names m opts unit u inv p).is_outer q ≡ false)
    (Holds : Conf → Type 0) (fits : (c : Conf) → Holds c → ConfFits (S m opts unit u inv) c) where
  abbrev s : Setting
  s = S m opts unit u inv

  abbrev N : Naming
  N = names m opts unit u inv p

  abbrev f : Function
  f = written p

  abbrev body : (b : ℕ) → Option (Body f b)
  body = reached_body f form

  function_is : f ≡ F s opts.entry right kinds opts unit u p among
  function_is = written_is s opts.entry right kinds opts unit u p among

  in_it : Contains m.functions f
  in_it = subst (λ (x : Function). Contains m.functions x) (sym function_is) (in_module s opts.entry right kinds opts unit u p among)

  order : AreInOrder m f
  order = subst (AreInOrder m) (sym function_is) (ordered s opts.entry right kinds opts unit u p among)

  graph_is : p.graph ≡ graph f
  graph_is = (plan_is s opts.entry right kinds opts unit u p among).graph_is ∙ ap graph (sym function_is)

  -- What is left of an edge: that the types of the live phis to which it leads are declared in the text, and that the constants which the text mentions say their values; and that its pairs are not too many to be counted.
  pub record IsLeftOfEdge (b t : ℕ) : Type 0 where
    pub declared : AreDeclaredAt m opts right kinds unit u inv p among lives program t
    pub constants : (n : ℕ) (v : ValueTree) → list_any (λ (x : ℕ). x == n) (reached_of (source_of m opts u.entry) u.plans).mentions ≡ true → s.constants n ≡ Some v → (c : Conf) (z : State) → Agree N c z → evaluate program calls (constant_text p.scope n) z ≡ got [] (typed (N.shape n) v, z)
    pub few : length (all_pairs m opts unit u inv p among b t) < 2 ^ 32

  module _ (b t : ℕ) (o : Body f b) (at : body b ≡ Some o) (from : Conf) (block : Block) (values : List ValueTree) (taken : IsTaken program calls k N apart chains s Holds f body b t from block values) (g : Body f t) (goes : body t ≡ Some g) (same : g.block ≡ block) where
    phis_of : ArePhisOf N p.scope.form f b g.block
    phis_of =
        subst (ArePhisOf N p.scope.form f b) (sym same)
        (phis_right m opts right kinds unit u inv p among lives lends is_one shaped form places b t o.block block o.there taken.there
        (phi_sources s f b o.block o.there from.top taken.function taken.at block values taken.sources))

    -- its pairs are those of the phis of the block
    pairs_are : firsts (all_pairs m opts unit u inv p among b t) ≡ pairs_into m.globals p.scope.form f b g.block
    pairs_are =
        ap (λ (x : Option Block). firsts (option_map_or (pairs_into m.globals p.scope.form f b) x [])) g.there
        ∙ firsts_are (pairs_into m.globals p.scope.form f b g.block) (own_targets N m.globals p.scope.form f b g.block phis_of)

    all_are : all_pairs m opts unit u inv p among b t ≡ pairs_into m.globals p.scope.form f b g.block
    all_are = ap (λ (x : Option Block). option_map_or (pairs_into m.globals p.scope.form f b) x []) g.there

    of_phis : (q : Pair) → Contains (proper m opts unit u inv p among b t) q → IsIn q (pairs_into m.globals p.scope.form f b g.block)
    of_phis q there =
        subst (IsIn q) pairs_are (of_filter is_proper (firsts (all_pairs m opts unit u inv p among b t)) q (of_contained (proper m opts unit u inv p among b t) q there)).0

    constant_read : (q : Pair) → Contains (proper m opts unit u inv p among b t) q → (n : ℕ) → q.1 ≡ Constant (id n) → list_any (reads_constant n) (all_pairs m opts unit u inv p among b t) ≡ true
    constant_read q there n is =
        any_in (reads_constant n) (all_pairs m opts unit u inv p among b t) q (subst (IsIn q) (sym all_are) (of_phis q there))
        (by_source q.1 is)
      where
        by_source : (x : Src) → x ≡ Constant (id n) → reads_constant n (q.0, x) ≡ true
        by_source x e = ap (λ (y : Src). reads_constant n (q.0, y)) e ∙ same_test n n refl

    -- a constant that is read is one that the text mentions
    mentioned : (n : ℕ) → list_any (reads_constant n) (all_pairs m opts unit u inv p among b t) ≡ true → list_any (λ (x : ℕ). x == n) (reached_of (source_of m opts u.entry) u.plans).mentions ≡ true
    mentioned n on =
        let q = some_in (reads_constant n) (all_pairs m opts unit u inv p among b t) on in
        constants_mentioned m opts right kinds unit u inv p among lives lends is_one b t (reached_only f form b o at) (reached_only f form t g goes) g.block g.there q.0 (subst (IsIn q.0) all_are q.1) n (constant_is n q.0.1 q.2)

    pair_right : (q : Pair) → Contains (proper m opts unit u inv p among b t) q → IsRightPair N (edge_names m opts unit u inv p among b t) (have_result (behind [] o.insts)) (proper m opts unit u inv p among b t) q
    pair_right q there =
        right_pairs m opts right kinds unit u inv p among lives lends is_one b t o (form.blocks b o.block o.there) (reached_only f form b o at) (reached_only f form t g goes) g.block g.there phis_of
        (edge_names m opts unit u inv p among b t) (proper m opts unit u inv p among b t) q (of_phis q there) (constant_read q there)

    -- a pair comes by an edge, so the target is among those of the block
    leads : (q : Pair) → Contains (proper m opts unit u inv p among b t) q → IsIn t (nth (graph f) b).targets
    leads q there =
        let w : IsPairOf m.globals p.scope.form f b g.block q = pair_of m.globals p.scope.form f b g.block q (of_phis q there) in
        leads_there f form places b t w.value.1 o at w.comes g.block g.there
        (from_predecessor m opts.entry right f in_it order t g.block g.there w.phi w.among w.is_phi (w.place + 1) w.value.1 (odd_on w.place w.even) w.label)

    aimed : (q : Pair) → Contains (proper m opts unit u inv p among b t) q → IsIn t (once itself (targets_in p.graph b))
    aimed q there =
        subst (λ (x : List Node). IsIn t (once itself (targets_in x b))) (sym graph_is)
        (subst (λ (r : Bool). IsIn t (once itself (if r then (nth (graph f) b).targets else []))) (sym (reached_only f form b o at)) (in_once (λ n. false) (nth (graph f) b).targets t refl (leads q there)))

    -- The law.
    pub planned_edge : IsLeftOfEdge b t → IsPlannedEdge program calls k N apart chains s Holds f body m.globals p.scope.form b t o (copies_text p b t)
    planned_edge left = record {
      names = edge_names m opts unit u inv p among b t;
      spares = spares_apart (name_of u.claimed) u.lawful N keys (label_of p b) (label_of p t) (edge_names m opts unit u inv p among b t) (λ j. refl);
      types = spare_types m opts unit u inv p among b t program (λ q there. types_stand m opts right kinds unit u inv p among lives program b t g.block g.there (reached_only f form t g goes) left.declared q (of_phis q there));
      moves = p.moves b t;
      sequence = sequence_is m opts unit u inv p among b t;
      written = copies_are m opts unit u inv p among b t (λ q there. all_named m opts unit u inv p among b t o.block o.there (aimed q there)) left.few;
      typed_moves = all_typed N (edge_names m opts unit u inv p among b t) (have_result (behind [] o.insts)) (proper m opts unit u inv p among b t) pair_right (saved m opts unit u inv p among b t) (λ j. refl) (p.moves b t) (move_of m opts unit u inv p among b t);
      reads = all_reads N (edge_names m opts unit u inv p among b t) (have_result (behind [] o.insts)) (proper m opts unit u inv p among b t) pair_right (saved m opts unit u inv p among b t) (λ j. refl) (p.moves b t) (move_of m opts unit u inv p among b t);
      constants_say = λ n v c z on has agree. left.constants n v (mentioned n on) has c z agree.all;
      goes_to = g;
      there = goes;
      phis_of = phis_of;
      constants_are = λ c function holds. constants_known s (chosen s opts.overrides) (λ n. refl) right.results (functions_of c.below) c.top (fits c holds).top;
    }
