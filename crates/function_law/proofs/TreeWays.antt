-- The recovered tree of a function leads where its blocks lead, with the cases of its switches as following asks them.
use Rattle.std.proofs.Common.{◌≡◌, ℕ, true, false, List, [], ◌∷◌, Option, Some, None, refl, sym, subst}
use Rattle.spv_module.specs.declared.inst.Inst.{Inst}
use Rattle.spv_module.specs.declared.inst.Function.{Function}
use Rattle.structure_rules.specs.declared.graph.Node.{Node}
use Rattle.structure_rules.specs.Graph.{nth, graph, is_switch}
use Rattle.structure_recover.specs.Tree.{Region, ends, item, Groups, targets}
use Rattle.structure_recover.specs.Follows.{switch_targets, first, Follows, FollowsGroups, IsTree}
use Rattle.structure_rules.specs.Nesting.{first_of}
use Rattle.structure_rules.specs.Structure.{fall_links}
use Rattle.nest_place.specs.Nests.{IsSound}
use Rattle.control_text.specs.Statements.{Blocks}
use Rattle.traces.specs.Outcomes.{Result}
use Rattle.module_semantics.specs.Setting.{Setting}
use Rattle.module_semantics.specs.State.{Conf}
use Rattle.glsl_ast.specs.Tree.{Text, Stmt}
use Rattle.glsl_semantics.specs.Shapes.{Typed}
use Rattle.glsl_semantics.specs.States.{State}
use Rattle.glsl_semantics.specs.Expressions.{Program, Argument}
use Rattle.region_law.specs.Leads.{Term, In, AreApart, IsOrder, IsItem, Leads}
use Rattle.agree_law.specs.Agree.{Naming}
use Rattle.agree_law.specs.Evaluates.{IsKept}
use Rattle.agree_law.specs.Points.{Body}
use Rattle.agree_law.proofs.Machine.{machine}
use Rattle.agree_law.proofs.Closed.{AreCases}
use Rattle.agree_law.proofs.Bodies.{AreNone}
use Rattle.tree_law.specs.Serves.{no_ways}
use Rattle.tree_law.specs.Written.{IsWritten}
use Rattle.tree_law.proofs.SwitchOrder.{order_is}
use Rattle.tree_law.proofs.Leading.{tree_leads}
use Rattle.function_law.proofs.CaseGroups.{IsSwitchOf, word_picks}

-- no way leads out of a function
pub none_out : AreNone no_ways
none_out = record { normal = refl; fall = refl; leave = refl; again = refl; out = refl }

-- a function whose first block is reached begins with it
pub begins_with : (f : Function) (r : Region) → (nth (graph f) 0).reached ≡ true → IsTree f r → IsItem r
begins_with f r here tree = by_graph (graph f) here r tree
  where
    by_graph : (g : List Node) → (nth g 0).reached ≡ true → (r : Region) → Follows f g r (first g) → IsItem r
    by_graph [] here r follows = let never : false ≡ true = here in cc
    by_graph (n ∷ g) here (ends e) follows = cc
    by_graph (n ∷ g) here (item i r) follows = tt

-- the groups of a tree are those of its switches
abbrev pub AreGroups : Function → ℕ → Groups → Type 0
AreGroups f h gs = (targets gs ≡ switch_targets (graph f) h) × FollowsGroups f (graph f) gs h

module _ (p : Program) (calls : Text → List Argument → State → Result (Option Typed × State)) (k : ℕ) (m : Naming) (s : Setting) (Holds : Conf → Type 0) (keeps : IsKept (machine s) Holds) (f : Function) (body : (b : ℕ) → Option (Body f b)) (w : Blocks) (term : ℕ → Term) (IsFlag : Text → Type 0) (text : ℕ → Inst → List Stmt) where
  abbrev falls : ℕ → Option ℕ
  falls = first_of (fall_links (graph f))

  abbrev Cases : ℕ → Groups → Type 0
  Cases = AreCases p calls k m s Holds keeps f body w term falls IsFlag text

  module _ (sound : IsSound (graph f)) (written : IsWritten f (graph f) w term (AreGroups f)) (switches : (h : ℕ) → (nth (graph f) h).reached ≡ true → is_switch (nth (graph f) h).exit ≡ true → (o : Body f h) → body h ≡ Some o → IsSwitchOf f (graph f) h o.last) where
    cases_of : (h : ℕ) (gs : Groups) → (nth (graph f) h).reached ≡ true → is_switch (nth (graph f) h).exit ≡ true → targets gs ≡ switch_targets (graph f) h → FollowsGroups f (graph f) gs h → Cases h gs
    cases_of h gs reached is all follows =
        let order : IsOrder falls (w.order h) (switch_targets (graph f) h) = subst (λ ts. IsOrder falls ts (switch_targets (graph f) h)) (sym (written.order_is h reached is)) (order_is (graph f) sound h reached is) in
        record {
          once = subst (λ ts. AreApart ts) (sym all) order.all_apart;
          written = λ u there. order.in_order u (subst (In u) all there);
          each = λ o has x. word_picks f (graph f) h o.last (switches h reached is o has) gs all follows x;
        }

    -- so it leads where its blocks lead
    pub ways_lead : (r : Region) → (nth (graph f) 0).reached ≡ true → IsTree f r → Leads w term falls Cases r (record { in_loop = None; continues = false; in_switch = false }) no_ways 0
    ways_lead r here tree = tree_leads f w term Cases r sound here (record {
      target_is = written.target_is;
      jumps = written.jumps;
      branches = written.branches;
      tables = written.tables;
      returns = written.returns;
      loses = written.loses;
      order_is = written.order_is;
      cases_are = cases_of;
      again = written.again;
      no_again = written.no_again;
      leave = written.leave;
      fell = written.fell;
      flags = written.flags;
    }) tree
