-- A function and the names determine its plan; what it claims, and what is live in it, do not depend on names.
use Rattle.std.proofs.Common.{◌≡◌, ◌++◌, ℕ, List, [], ◌∷◌, map, refl, ap, sym, ◌∙◌, subst}
use Rattle.std.specs.Prelude.{flat_map}
use Rattle.std.specs.List.{All, AllZip}
use Rattle.std.proofs.lemmas.List.Elements.{All-head, All-tail}
use Rattle.spv_module.specs.declared.inst.Function.{Function}
use Rattle.structure_rules.specs.Graph.{graph}
use Rattle.hoist_plan.specs.declared.form.Form.{Form}
use Rattle.hoist_plan.specs.Plan as plan
use Rattle.phi_copies.specs.Sequence.{IsSequence}
use Rattle.text_rules.specs.Constants.{Source}
use Rattle.expr_forward.specs.Scope.{Scope}
use Rattle.function_plan.specs.Once.{once, itself}
use Rattle.function_plan.specs.Targets.{targets_in}
use Rattle.function_plan.specs.Planned.{captured_numbers, is_named_in, is_reached_node, spares_in}
use Rattle.function_plan.specs.Phis.{pairs, firsts, phi_blocks}
use Rattle.function_plan.specs.Orders.{is_among}
use Rattle.switch_ladder.specs.Flags.{blocks_that, needs_fell}
use Rattle.function_text.specs.Functions.{FunctionPlan, written}
use Rattle.function_text.specs.Live.{Liveness, types_of, mentions_of, in_function}
use Rattle.module_check.specs.Structure.{IsStructured}
use Rattle.grammar_law.proofs.Height.Closed.{sound-of}
use Rattle.unit_rules.specs.Translation.{Naming, plan_scope, scope_of, IsPlanOf}
use Rattle.unit_rules.specs.Unit.{claims_by, liveness_of, reached_of}
use Rattle.text_law.proofs.One.Links.{links_one}
use Rattle.text_law.proofs.One.Moves.{sequence_one}
use Rattle.text_law.proofs.One.Trees.{tree_one}

module _ (s : Source) where
  -- the same is claimed for two plans, and the same is live
  pub record AreAlike (p q : FunctionPlan) : Type 0 where
    pub claims : claims_by s p ≡ claims_by s q
    pub live : liveness_of s p ≡ liveness_of s q

  module _ (found other : Naming) (f : Function) (p q : FunctionPlan) (a : IsPlanOf s found f p) (b : IsPlanOf s other f q) where
    links_same : a.links ≡ b.links
    links_same = links_one f (map is_reached_node (graph f)) a.links b.links a.live b.live

    function_same : written p ≡ written q
    function_same = ap (λ (w : Scope). w.setting.function) a.scope_is ∙ sym (ap (λ (w : Scope). w.setting.function) b.scope_is)

    form_same : p.scope.form ≡ q.scope.form
    form_same = ap (λ (w : Scope). w.form) a.scope_is ∙ (ap (λ l. plan.form (plan_scope s f l)) links_same ∙ sym (ap (λ (w : Scope). w.form) b.scope_is))

    carried_same : p.scope.carried ≡ q.scope.carried
    carried_same = ap (λ (w : Scope). w.carried) a.scope_is ∙ (ap (λ l. plan.is_carried (plan_scope s f l)) links_same ∙ sym (ap (λ (w : Scope). w.carried) b.scope_is))

    graph_same : p.graph ≡ q.graph
    graph_same = a.graph_is ∙ sym b.graph_is

    moves_same : p.moves ≡ q.moves
    moves_same =
        λ i k t. sequence_one (firsts (pairs s.of.globals p.scope.form f k t)) (p.moves k t) (q.moves k t) (a.moves_are k t)
        (subst (λ (form : ℕ → Form). IsSequence (firsts (pairs s.of.globals form f k t)) (q.moves k t)) (sym form_same) (b.moves_are k t)) i

    again_same : p.again ≡ q.again
    again_same = λ i k. (a.again_is k ∙ sym (b.again_is k)) i

    leave_same : p.leave ≡ q.leave
    leave_same = λ i k. (a.leave_is k ∙ sym (b.leave_is k)) i

    fell_same : p.fell ≡ q.fell
    fell_same = λ i k. (a.fell_is k ∙ (ap (λ form. is_among (blocks_that (needs_fell (graph f) (phi_blocks form f)) (graph f)) k) form_same ∙ sym (b.fell_is k))) i

    order_same : p.order ≡ q.order
    order_same = λ i h. (a.order_is h ∙ sym (b.order_is h)) i

    alike : AreAlike p q
    alike = record {
      claims = λ i. record {
        function = function_same i;
        is_named = is_named_in (form_same i) (graph_same i) (function_same i).blocks;
        again = again_same i;
        leave = leave_same i;
        fell = fell_same i;
        captured = captured_numbers s.of.globals (carried_same i);
        targets = λ k. once itself (targets_in (graph_same i) k);
        spares = λ k t. spares_in (moves_same i k t);
      };
      live = λ i. record { globals = s.of.globals; function = function_same i; reached = map is_reached_node (graph_same i); form = form_same i; carried = carried_same i };
    }

  -- by the same names two plans of a function are one
  plan_one : (found : Naming) (f : Function) (p q : FunctionPlan) → IsStructured f → IsPlanOf s found f p → IsPlanOf s found f q → p ≡ q
  plan_one found f p q right a b =
      let scope : p.scope ≡ q.scope = a.scope_is ∙ (ap (scope_of s found f) (links_same found found f p q a b) ∙ sym b.scope_is) in
      let region = tree_one f (sound-of f right.unbroken) p.region q.region a.tree b.tree in
      λ i. record {
        scope = scope i;
        graph = graph_same found found f p q a b i;
        region = region i;
        moves = moves_same found found f p q a b i;
        again = again_same found found f p q a b i;
        leave = leave_same found found f p q a b i;
        fell = fell_same found found f p q a b i;
        order = order_same found found f p q a b i;
      }

  pub plans_one : (found : Naming) (fs : List Function) (ps qs : List FunctionPlan) → All IsStructured fs → AllZip (IsPlanOf s found) fs ps → AllZip (IsPlanOf s found) fs qs → ps ≡ qs
  plans_one found [] [] [] right a b = refl
  plans_one found [] [] (q ∷ qs) right a b = absurd b
  plans_one found [] (p ∷ ps) qs right a b = absurd a
  plans_one found (f ∷ fs) [] qs right a b = absurd a
  plans_one found (f ∷ fs) (p ∷ ps) [] right a b = absurd b
  plans_one found (f ∷ fs) (p ∷ ps) (q ∷ qs) right a b =
      let one = plan_one found f p q (All-head IsStructured f fs right) a.0 b.0 in
      let rest = plans_one found fs ps qs (All-tail IsStructured f fs right) a.1 b.1 in
      λ i. one i ∷ rest i

  pub all_alike : (found other : Naming) (fs : List Function) (ps qs : List FunctionPlan) → AllZip (IsPlanOf s found) fs ps → AllZip (IsPlanOf s other) fs qs → AllZip AreAlike ps qs
  all_alike found other [] [] [] a b = tt
  all_alike found other [] [] (q ∷ qs) a b = absurd b
  all_alike found other [] (p ∷ ps) qs a b = absurd a
  all_alike found other (f ∷ fs) [] qs a b = absurd a
  all_alike found other (f ∷ fs) (p ∷ ps) [] a b = absurd b
  all_alike found other (f ∷ fs) (p ∷ ps) (q ∷ qs) a b = (alike found other f p q a.0 b.0, all_alike found other fs ps qs a.1 b.1)

  pub claims_same : (ps qs : List FunctionPlan) → AllZip AreAlike ps qs → map (claims_by s) ps ≡ map (claims_by s) qs
  claims_same [] [] all = refl
  claims_same [] (q ∷ qs) all = absurd all
  claims_same (p ∷ ps) [] all = absurd all
  claims_same (p ∷ ps) (q ∷ qs) all = let rest = claims_same ps qs all.1 in λ i. all.0.claims i ∷ rest i

  live_same : {A : Type 0} (h : Liveness → A) (ps qs : List FunctionPlan) → AllZip AreAlike ps qs → map (λ (p : FunctionPlan). h (liveness_of s p)) ps ≡ map (λ (p : FunctionPlan). h (liveness_of s p)) qs
  live_same h [] [] all = refl
  live_same h [] (q ∷ qs) all = absurd all
  live_same h (p ∷ ps) [] all = absurd all
  live_same h (p ∷ ps) (q ∷ qs) all = let rest = live_same h ps qs all.1 in λ i. h (all.0.live i) ∷ rest i

  flat_same : (h : Liveness → List ℕ) (ps qs : List FunctionPlan) → AllZip AreAlike ps qs → flat_map (λ (p : FunctionPlan). h (liveness_of s p)) ps ≡ flat_map (λ (p : FunctionPlan). h (liveness_of s p)) qs
  flat_same h [] [] all = refl
  flat_same h [] (q ∷ qs) all = absurd all
  flat_same h (p ∷ ps) [] all = absurd all
  flat_same h (p ∷ ps) (q ∷ qs) all = let rest = flat_same h ps qs all.1 in λ i. h (all.0.live i) ++ rest i

  pub reached_same : (ps qs : List FunctionPlan) → AllZip AreAlike ps qs → reached_of s ps ≡ reached_of s qs
  reached_same ps qs all =
      let functions = live_same (λ (l : Liveness). l.function) ps qs all in
      let types = flat_same (in_function types_of) ps qs all in
      let mentions = flat_same (in_function mentions_of) ps qs all in
      λ i. record { functions = functions i; types = types i; mentions = mentions i }
