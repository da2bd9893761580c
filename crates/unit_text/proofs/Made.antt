-- What the code makes of planned functions is the unit of the definitions.
use Rattle.std.proofs.Common.{◌≡◌, ℕ, Bool, List, [], ◌∷◌, ◌++◌, Option, Some, None, map, refl, sym, ◌∙◌, ap, subst}
use Rattle.std.specs.Prelude.{flat_map, option_map, option_to_list}
use Rattle.std.specs.List.{AllZip}
use Rattle.std.proofs.lemmas.List.{map-append}
use Rattle.list_law.proofs.Lists.{find_map}
use Rattle.spv_module.specs.State.{ModuleState}
use Rattle.spv_module.specs.declared.inst.Id.{Id}
use Rattle.spv_module.specs.declared.inst.Inst.{Inst}
use Rattle.spv_module.specs.declared.inst.Function.{Function}
use Rattle.structure_rules.specs.declared.graph.Node.{Node}
use Rattle.profile_rules.specs.declared.size.SizePart.{SizePart}
use Rattle.profile_rules.specs.Calls.{IsCallOrder, numbers}
use Rattle.profile_rules.specs.Entry.{group_size}
use Rattle.conformance.specs.Rules.{Options}
use Rattle.module_check.specs.Judged.{IsEntry}
use Rattle.hoist_plan.specs.Kept.{form_in, is_carried_in}
use Rattle.name_alloc.specs.declared.claims.Names.{Names as Given}
use Rattle.name_alloc.specs.Law.{AreNames}
use Rattle.name_alloc.specs.Naming.{name_of}
use Rattle.name_alloc.specs.Lookup.{name_in}
use Rattle.vec_lowering.specs.Named.{naming_of}
use Rattle.glsl_ast.specs.Tree.{Decl, TranslationUnit, translation_unit}
use Rattle.text_rules.specs.Constants.{Source, sizes_by}
use Rattle.text_rules.specs.Printed.{Reached}
use Rattle.text_rules.specs.Declarations.{declarations}
use Rattle.text_rules.specs.Claims.{claims}
use Rattle.text_items.specs.Names.{item_names}
use Rattle.expr_forward.specs.Globals.{global_in}
use Rattle.expr_forward.specs.declared.globals.Globals.{Globals}
use Rattle.function_plan.specs.declared.plan.FunctionPlan.{FunctionPlan as Planned}
use Rattle.function_plan.specs.Claimed.{claimed_by}
use Rattle.function_text.specs.Functions.{FunctionPlan, function_decl}
use Rattle.function_plan.specs.Planned.{captured_numbers, is_named_in, is_reached_node}
use Rattle.function_plan.specs.Plans.{IsPlanned}
use Rattle.function_text.specs.Live.{Liveness, types_of, mentions_of, in_function, liveness_in, types_in, mentions_in}
use Rattle.unit_text.specs.Reached.{function_in, reached_in, planned_at, decls_at, AreGlobals, IsWritten, IsMade}
use Rattle.function_text.specs.State.{plan_with}
use Rattle.unit_rules.specs.Translation.{Naming, id_text, global_expr, scope_by, scope_of, IsPlanOf}
use Rattle.unit_rules.specs.Unit.{item_names_of, claims_by, liveness_of, live_of, reached_of, called, has_id as has_id_of, plan_at, in_order, source_of, IsUnitOf}

-- lists side by side
zip_each : {A B C : Type 0} (R : A → B → Type 0) (Q : A → C → Type 0) (g : B → C) → ((a : A) (b : B) → R a b → Q a (g b)) → (xs : List A) (ys : List B) → AllZip R xs ys → AllZip Q xs (map g ys)
zip_each R Q g each [] [] all = tt
zip_each R Q g each [] (y ∷ ys) all = absurd all
zip_each R Q g each (x ∷ xs) [] all = absurd all
zip_each R Q g each (x ∷ xs) (y ∷ ys) all = (each x y all.0, zip_each R Q g each xs ys all.1)

zip_maps : {A B C D : Type 0} (R : A → B → Type 0) (g : B → D) (k : B → C) (h : C → D) → ((a : A) (b : B) → R a b → g b ≡ h (k b)) → (xs : List A) (ys : List B) → AllZip R xs ys → map g ys ≡ map h (map k ys)
zip_maps R g k h each [] [] all = refl
zip_maps R g k h each [] (y ∷ ys) all = absurd all
zip_maps R g k h each (x ∷ xs) [] all = absurd all
zip_maps R g k h each (x ∷ xs) (y ∷ ys) all = ap (λ d. d ∷ map g ys) (each x y all.0) ∙ ap (λ ds. h (k y) ∷ ds) (zip_maps R g k h each xs ys all.1)

zip_flats : {A B C D : Type 0} (R : A → B → Type 0) (g : B → List D) (k : B → C) (h : C → List D) → ((a : A) (b : B) → R a b → g b ≡ h (k b)) → (xs : List A) (ys : List B) → AllZip R xs ys → flat_map g ys ≡ flat_map h (map k ys)
zip_flats R g k h each [] [] all = refl
zip_flats R g k h each [] (y ∷ ys) all = absurd all
zip_flats R g k h each (x ∷ xs) [] all = absurd all
zip_flats R g k h each (x ∷ xs) (y ∷ ys) all = ap (λ d. d ++ flat_map g ys) (each x y all.0) ∙ ap (λ ds. h (k y) ++ ds) (zip_flats R g k h each xs ys all.1)

listed_map : {A B : Type 0} (f : A → B) (o : Option A) → option_to_list (option_map f o) ≡ map f (option_to_list o)
listed_map f None = refl
listed_map f (Some a) = refl

map_twice : {A B C : Type 0} (f : A → B) (g : B → C) (o : Option A) → option_map (λ a. g (f a)) o ≡ option_map g (option_map f o)
map_twice f g None = refl
map_twice f g (Some a) = refl

module _ (s : Source) (names : Given) (globals : Globals) (found : Naming) where
  abbrev plain : Planned → FunctionPlan
  plain = plan_with s names globals

  -- the functions in the order of calls
  decl_at : (ps : List Planned) (n : Id) → decls_at s names globals ps n ≡ map function_decl (plan_at (map plain ps) n)
  decl_at ps n =
      ap option_to_list (map_twice plain function_decl (planned_at ps n.0))
      ∙ (listed_map function_decl (option_map plain (planned_at ps n.0))
      ∙ ap (λ o. map function_decl (option_to_list o)) (sym (find_map (has_id_of n) plain ps)))

  decls : (ps : List Planned) (order : List Id) → flat_map (decls_at s names globals ps) order ≡ map function_decl (in_order order (map plain ps))
  decls ps [] = refl
  decls ps (n ∷ order) =
      ap (λ ds. ds ++ flat_map (decls_at s names globals ps) order) (decl_at ps n)
      ∙ (ap (λ ds. map function_decl (plan_at (map plain ps) n) ++ ds) (decls ps order)
      ∙ sym (map-append function_decl (plan_at (map plain ps) n) (in_order order (map plain ps))))

  -- a planned function
  module _ (f : Function) (p : Planned) (is : IsPlanned s.of f p) where
    claim_is : claimed_by p ≡ claims_by s (plain p)
    claim_is =
        let named : (n : ℕ) → (claimed_by p).is_named n ≡ is_named_in (form_in p.naming) p.nodes.items p.locals.blocks n =
        λ n. is.named n ∙ (ap (λ (g : List Node). is_named_in (form_in p.naming) g f.blocks n) (sym is.graph_is) ∙ ap (λ (l : Function). is_named_in (form_in p.naming) p.nodes.items l.blocks n) (sym is.of_function)) in
        λ i. record (claimed_by p) { is_named = λ n. named n i; captured = captured_numbers (ap (λ (m : ModuleState). m.globals) is.of_module i) (is_carried_in p.naming) }

    liveness_is : liveness_in p ≡ liveness_of s (plain p)
    liveness_is =
        let reached : p.reached.items ≡ map is_reached_node p.nodes.items = is.reached_is ∙ ap (map is_reached_node) (sym is.graph_is) in
        λ i. record (liveness_in p) { globals = ap (λ (m : ModuleState). m.globals) is.of_module i; reached = reached i }

    live_is : (each : Liveness → Bool → Inst → List ℕ) → in_function each (liveness_in p) ≡ live_of each s (plain p)
    live_is each = ap (in_function each) liveness_is

    module _ (names_are : name_in names ≡ found) (globals_are : AreGlobals s names globals) where
      lowering_is : naming_of names ≡ found
      unfolding naming_of
      lowering_is = names_are

      global_is : (n : ℕ) → global_in globals n ≡ global_expr s (id_text found) n
      global_is n = globals_are n ∙ ap (λ (F : Naming). global_expr s (id_text F) n) names_are

      scope_is : (plain p).scope ≡ scope_of s found f is.naming.links
      scope_is = λ i. scope_by s (names_are i) (lowering_is i) (is.of_function i) (λ n. global_is n i) (λ n. is.naming.forms n i) (λ n. is.naming.carried n i)

      plan_is : IsPlanOf s found f (plain p)
      plan_is = record {
        links = is.naming.links;
        live = is.naming.live;
        scope_is = scope_is;
        graph_is = is.graph_is;
        tree = is.tree;
        moves_are = is.moves;
        again_is = is.flags.again;
        leave_is = is.flags.leave;
        fell_is = is.flags.fell;
        order_is = is.orders;
      }

  -- all of them
  module _ (fs : List Function) (ps : List Planned) (planned : AllZip (IsPlanned s.of) fs ps) where
    claims_are_same : map claimed_by ps ≡ map (claims_by s) (map plain ps)
    claims_are_same = zip_maps (IsPlanned s.of) claimed_by plain (claims_by s) claim_is fs ps planned

    reached_is : reached_in ps ≡ reached_of s (map plain ps)
    reached_is =
        let functions = zip_maps (IsPlanned s.of) function_in plain (λ (q : FunctionPlan). q.scope.setting.function) (λ f p is. refl) fs ps planned in
        let types = zip_flats (IsPlanned s.of) types_in plain (live_of types_of s) (λ f p is. live_is f p is types_of) fs ps planned in
        let mentions = zip_flats (IsPlanned s.of) mentions_in plain (live_of mentions_of s) (λ f p is. live_is f p is mentions_of) fs ps planned in
        λ i. record { functions = functions i; types = types i; mentions = mentions i }

    plans_are : name_in names ≡ found → AreGlobals s names globals → AllZip (IsPlanOf s found) fs (map plain ps)
    plans_are names_are globals_are = zip_each (IsPlanned s.of) (IsPlanOf s found) plain (λ f p is. plan_is f p is names_are globals_are) fs ps planned

pub made_unit : (m : ModuleState) (o : Options) (entry : ℕ) (size : List SizePart) (order : List Id) (unit : TranslationUnit) → IsEntry m o entry → IsCallOrder m.functions entry (numbers order) → size ≡ group_size m entry
    → IsMade (source_of m o entry) size order unit → IsUnitOf m o unit
made_unit m o entry size order unit is_entry calls size_is made =
    let s : Source = source_of m o entry in
    let w : IsWritten s size order made.plans unit = made.made in
    let plain : Planned → FunctionPlan = plan_with s w.names w.globals in
    let found : Naming = name_of w.named.claimed in
    let names_are : name_in w.names ≡ found = λ i key. w.named.names_are key i in
    let fs : List Function = called order m.functions in
    let reached : reached_in made.plans ≡ reached_of s (map plain made.plans) = reached_is s w.names w.globals found fs made.plans made.planned in
    record {
      entry = entry;
      is_entry = is_entry;
      order = order;
      calls = calls;
      plans = map plain made.plans;
      claimed = w.named.claimed;
      claims_are = w.named.claims_are ∙ (ap (λ (r : Reached). claims s r (map claimed_by made.plans)) reached ∙ ap (claims s (reached_of s (map plain made.plans))) (claims_are_same s w.names w.globals found fs made.plans made.planned));
      lawful = subst AreNames names_are w.named.lawful;
      planned = plans_are s w.names w.globals found fs made.plans made.planned names_are w.globals_are;
      unit_is =
          w.unit_is
          ∙ (ap (λ (parts : List SizePart). translation_unit (sizes_by s.overrides parts) (declarations s (reached_in made.plans) (item_names s w.names) ++ flat_map (decls_at s w.names w.globals made.plans) order)) size_is
          ∙ (ap (λ (r : Reached). translation_unit (sizes_by s.overrides (group_size m entry)) (declarations s r (item_names s w.names) ++ flat_map (decls_at s w.names w.globals made.plans) order)) reached
          ∙ (ap (λ (F : Naming). translation_unit (sizes_by s.overrides (group_size m entry)) (declarations s (reached_of s (map plain made.plans)) (item_names_of s F) ++ flat_map (decls_at s w.names w.globals made.plans) order)) names_are
          ∙ ap (λ (ds : List Decl). translation_unit (sizes_by s.overrides (group_size m entry)) (declarations s (reached_of s (map plain made.plans)) (item_names_of s found) ++ ds)) (decls s w.names w.globals found made.plans order))));
    }
