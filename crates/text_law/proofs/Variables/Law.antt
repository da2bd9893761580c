-- The functions of a text of an accepted module declare the variables of the module's functions.
use Rattle.std.proofs.Common.{◌≡◌, ◌<◌, ◌≤◌, ℕ, true, false, List, [], ◌∷◌, ◌++◌, length, map, Option, Some, None, inl, inr, refl, sym, ap, subst}
use Rattle.std.specs.Prelude.{flat_map, find}
use Rattle.std.specs.Option.{option_to_list}
use Rattle.std.proofs.lemmas.List.Elements.{All-contains}
use Rattle.spv_ops.specs.OpGroups.{group_of}
use Rattle.spv_module.specs.Inst.{has_type}
use Rattle.spv_module.specs.State.{ModuleState}
use Rattle.spv_module.specs.declared.inst.Id.{Id as IdOf}
use Rattle.spv_module.specs.declared.inst.Inst.{Inst}
use Rattle.spv_module.specs.declared.inst.Function.{Function}
use Rattle.spv_index.specs.Locals.{insts_of}
use Rattle.structure_rules.specs.Graph.{graph}
use Rattle.nest_place.specs.Nests.{IsSound}
use Rattle.conformance.specs.Rules.{Options}
use Rattle.module_check.specs.Structure.{IsStructured}
use Rattle.module_check.specs.Judged.{IsFine}
use Rattle.module_check.specs.ReadFrom.{IsReadFrom}
use Rattle.module_semantics.specs.Setting.{Setting}
use Rattle.name_alloc.specs.declared.claims.Key.{Key}
use Rattle.name_alloc.specs.Naming.{name_of}
use Rattle.glsl_ast.specs.Tree.{Text, Stmts, stmts_in, TranslationUnit}
use Rattle.text_rules.specs.Claims.{label}
use Rattle.text_rules.specs.Constants.{Source}
use Rattle.expr_forward.specs.Scope.{Scope, globals}
use Rattle.function_text.specs.Functions.{FunctionPlan, written, function_name, function_decl, body_text}
use Rattle.unit_rules.specs.Translation.{Naming, scope_of, IsPlanOf}
use Rattle.unit_rules.specs.Unit.{source_of, called, is_called, in_order, has_id, IsUnitOf}
use Rattle.grammar_law.proofs.Height.Closed.{sound-of}
use Rattle.plan_law.specs.InOrder.{IsAmong}
use Rattle.accepted_law.proofs.Accepted.{accepted_conforming}
use Rattle.typed_law.specs.Conforms.{IsConforming}
use Rattle.grammar_law.proofs.Ruled.Ruled.{contains_of}
use Rattle.call_law.specs.Known.{IsFunctionOf}
use Rattle.claim_law.specs.Claimed.{IsIn, HasName}
use Rattle.grammar_law.proofs.Formed.Inner.{accepted_inner}
use Rattle.grammar_law.proofs.Formed.Labelled.{accepted_labels}
use Rattle.grammar_law.proofs.Unit.Ways.{HaveKinds, planned, F, written_is}
use Rattle.grammar_law.proofs.Unit.Lists.{of_filter, as_in}
use Rattle.grammar_law.proofs.Unit.ResultShapes.{stands_inside}
use Rattle.grammar_law.proofs.Grammar.Held.{any_invocation}
use Rattle.grammar_law.proofs.Grammar.Inner.{stands_within}
use Rattle.grammar_law.proofs.Grammar.Outside.{have_kinds}
use Rattle.text_law.specs.Ends.{term_of}
use Rattle.function_law.proofs.TreeWays.{AreGroups}
use Rattle.text_law.proofs.Naming.Keys.{S}
use Rattle.text_law.proofs.Naming.Unit.{found_plan}
use Rattle.text_law.proofs.Naming.Planned.{same_block, leave_inside, flags_apart}
use Rattle.text_law.proofs.Naming.Functions.{planned_of, function_of_plan}
use Rattle.text_law.proofs.Naming.Tree.{tree_written}
use Rattle.text_law.proofs.Whole.Accepted.{formed_so, few_so, few_pairs_so}
use Rattle.claim_law.specs.Bodies.{function_in, functions_in}
use Rattle.claim_law.proofs.Claim.Bodies.{bodies_are}
use Rattle.text_law.specs.Declarations.{valued, unset, occurs, AreSame}
use Rattle.text_law.specs.Variables.{phi_pairs, with_value, without_value, Declares, IsBodyOf, HasVariables}
use Rattle.text_law.proofs.Variables.Plans.{IsKnown, spares}
use Rattle.text_law.proofs.Variables.Bodies.{body_unset, body_opened, body_valued}
use Rattle.text_law.proofs.Variables.Sets.{AreSet, are_set}
use Rattle.text_law.proofs.Variables.Known.{known}
use Rattle.text_law.proofs.Variables.Few.{few_spares}
use Rattle.text_law.proofs.Variables.Named.{are_spares, all_named}
use Rattle.text_law.proofs.Variables.Spared.{spares_named}
use Rattle.text_law.proofs.Variables.OnceAll.{declared_once}

abbrev function_of : FunctionPlan → Text × Stmts
function_of p = (function_name p.scope, stmts_in (body_text p))

of_functions : (q : Text × Stmts) (ps : List FunctionPlan) → IsIn q (flat_map function_in (map function_decl ps)) → (p : FunctionPlan) × IsIn p ps × (function_of p ≡ q)
of_functions q [] there = absurd there
of_functions q (p ∷ ps) (inl same) = (p, inl refl, same)
of_functions q (p ∷ ps) (inr there) = let w = of_functions q ps there in (w.0, inr w.1, w.2)

module _ (bytes : List ℕ) (m : ModuleState) (o : Options) (read : IsReadFrom bytes m) (fine : IsFine m o) (unit : TranslationUnit) (u : IsUnitOf m o unit) where
  abbrev src : Source
  src = source_of m o u.entry

  abbrev found : Naming
  found = name_of u.claimed

  abbrev s : Setting
  s = S m o unit u any_invocation

  module _ (p : FunctionPlan) (among : IsIn p u.plans) where
    abbrev r : IsConforming m o.entry
    r = accepted_conforming bytes m o read fine

    abbrev kinds : HaveKinds m.globals
    kinds = have_kinds bytes m o.entry read r

    abbrev one : IsFunctionOf (written p) m.functions
    one = function_of_plan bytes m o read fine unit u p among

    sound : IsSound (graph (written p))
    sound = sound-of (written p) (All-contains IsStructured m.functions (written p) fine.later.structure (contains_of m.functions (written p) one)).unbroken

    sets : AreSet p.scope
    sets = are_set s o.entry r kinds o unit u p among (λ i there. (within i there, lacks i there))
      where
        of_it : written p ≡ F s o.entry r kinds o unit u p among
        of_it = written_is s o.entry r kinds o unit u p among

        in_it : (i : Inst) → IsAmong i (insts_of (F s o.entry r kinds o unit u p among)) → IsAmong i (insts_of (written p))
        in_it i there = subst (λ (f : Function). IsAmong i (insts_of f)) (sym of_it) there

        within : (i : Inst) → IsAmong i (insts_of (F s o.entry r kinds o unit u p among)) → stands_inside (group_of i.op) ≡ true
        within i there = stands_within bytes m read (F s o.entry r kinds o unit u p among) (of_filter (is_called u.order) m.functions (F s o.entry r kinds o unit u p among) (planned s o.entry r kinds o unit u p among).1).0 i (as_in (insts_of (F s o.entry r kinds o unit u p among)) i there)

        lacks : (i : Inst) → IsAmong i (insts_of (F s o.entry r kinds o unit u p among)) → has_type i.op ≡ false → i.result ≡ 0
        lacks i there off = (accepted_inner bytes m read (written p) one i (in_it i there)).1 off

    plan_so : IsPlanOf src found (written p) p
    plan_so = planned_of bytes m o read fine unit u p among

    known_so : IsKnown p
    known_so =
        let is_written = tree_written src found (written p) (formed_so bytes m o read fine unit u any_invocation (written p) one) (few_so bytes m o read fine unit u any_invocation (written p) one) p plan_so (flags_apart m o unit u p among (accepted_labels bytes m o read fine (written p) one)) (leave_inside (graph (written p))) in
        known src found p plan_so sound (term_of (written p)) (AreGroups (written p)) is_written sets

    globals_are : globals p.scope ≡ m.globals
    globals_are = ap globals plan_so.scope_is

    -- labels are those of one block, and all variables have names
    labels : (a b : ℕ) → a < length (written p).blocks → b < length (written p).blocks → label (written p) a ≡ label (written p) b → a ≡ b
    labels a b a_in b_in same = same_block m o unit u p among (accepted_labels bytes m o read fine (written p) one) a b a_in b_in same

    all_have : (key : Key) → IsIn key (without_value (globals p.scope) (written p) p.scope.form p.scope.carried ++ with_value (globals p.scope) (written p) p.scope.form p.scope.carried (spares p)) → HasName found key
    all_have = all_named m o unit u p among known_so plan_so.graph_is (globals p.scope) globals_are (spares_named m o unit u p among plan_so.graph_is (few_pairs_so bytes m o read fine unit u any_invocation p among) plan_so.moves_are)

    -- The body of a planned function.
    pub declares : (f : Function) → (plan : IsPlanOf src found f p) → Declares m.globals f (scope_of src found f plan.links).form (scope_of src found f plan.links).carried found (stmts_in (body_text p))
    declares f plan = record {
      spares = spares p;
      are_spares = are_spares p;
      few = subst (λ (w : Scope). length (spares p) ≤ length (phi_pairs m.globals w.setting.function w.form w.carried)) plan.scope_is (few_spares m.globals p sound plan_so.moves_are);
      at_top = body_opened p;
      without = subst (λ (w : Scope). AreSame (unset (stmts_in (body_text p))) (map w.setting.key (without_value (globals w) w.setting.function w.form w.carried))) plan.scope_is (λ x. ap (occurs x) (body_unset p));
      with = subst (λ (w : Scope). AreSame (valued (stmts_in (body_text p))) (map w.setting.key (with_value (globals w) w.setting.function w.form w.carried (spares p)))) plan.scope_is (body_valued p known_so);
      once = declared_once m o unit u any_invocation p among o.entry r one known_so plan_so labels all_have;
      named = subst (λ (w : Scope). (key : Key) → IsIn key (without_value (globals w) w.setting.function w.form w.carried ++ with_value (globals w) w.setting.function w.form w.carried (spares p)) → HasName found key) plan.scope_is
          all_have;
    }

  in_plans : (p : FunctionPlan) (order : List IdOf) → IsIn p (in_order order u.plans) → IsIn p u.plans
  in_plans p [] there = absurd there
  in_plans p (n ∷ order) there = by_plan (find (has_id n) u.plans) refl there (in_plans p order)
    where
      by_plan : (q : Option FunctionPlan) → find (has_id n) u.plans ≡ q → IsIn p (option_to_list q ++ in_order order u.plans) → (IsIn p (in_order order u.plans) → IsIn p u.plans) → IsIn p u.plans
      by_plan None at there later = later there
      by_plan (Some q) at (inl same) later = subst (λ (x : FunctionPlan). IsIn x u.plans) same (found_plan m o unit u any_invocation u.plans n q at).0
      by_plan (Some q) at (inr there) later = later there

  -- The law.
  pub has_variables : HasVariables m o found unit
  has_variables = record {
    entry = u.entry;
    is_entry = u.is_entry;
    order = u.order;
    calls = u.calls;
    each = each;
  }
    where
      each : (q : Text × Stmts) → IsIn q (functions_in unit) → (f : Function) × IsIn f (called u.order m.functions) × IsBodyOf m.globals u.entry found q f
      each q there =
          let w = of_functions q (in_order u.order u.plans) (subst (IsIn q) (bodies_are m o unit u) there) in
          let among = in_plans w.0 u.order w.1 in
          let plan = planned s o.entry (accepted_conforming bytes m o read fine) (have_kinds bytes m o.entry read (accepted_conforming bytes m o read fine)) o unit u w.0 among in (
            plan.0,
            plan.1,
            subst (λ (x : Text × Stmts). IsBodyOf m.globals u.entry found x plan.0) w.2 (record {
              links = plan.2.links;
              live = plan.2.live;
              name = ap function_name plan.2.scope_is;
              declares = declares w.0 among plan.0 plan.2;
            }),
          )
