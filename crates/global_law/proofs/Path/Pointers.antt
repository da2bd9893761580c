-- The text of a pointer's path stands for the place to which the pointer leads.
use Rattle.std.proofs.Common.{◌≡◌, ◌<◌, ◌++◌, ℕ, zero, suc, List, [], drop, Option, Some, inl, inr, refl, sym, ap, ◌∙◌, subst, arith, append_assoc}
use Rattle.std.specs.Prelude.{unwrap_or}
use Rattle.std.proofs.lemmas.Option.{same_Some}
use Rattle.spv_module.specs.declared.inst.Inst.{Inst}
use Rattle.spv_module.specs.declared.inst.Function.{Function}
use Rattle.spv_types.specs.Tree.{Tree}
use Rattle.spv_types.specs.Types.{type_tree}
use Rattle.spv_index.specs.Pointers.{pointee_of}
use Rattle.profile_rules.specs.declared.given.Given.{Given}
use Rattle.traces.specs.Outcomes.{Result, got, or_stuck}
use Rattle.module_semantics.specs.Setting.{Setting}
use Rattle.module_semantics.specs.Memory.{type_along}
use Rattle.module_semantics.specs.State.{Root, Conf}
use Rattle.module_semantics.specs.Operands.{pointer_at}
use Rattle.name_alloc.specs.declared.claims.Key.{Key}
use Rattle.access_paths.specs.declared.forms.Step.{Step}
use Rattle.access_paths.specs.Ways.{Way, base, spot_of, chain_steps, steps_from, path}
use Rattle.glsl_ast.specs.Tree.{Text, Expr, name}
use Rattle.glsl_semantics.specs.Shapes.{Typed}
use Rattle.glsl_semantics.specs.States.{State, Thing}
use Rattle.glsl_semantics.specs.Expressions.{Program, Argument, named, denote, steps}
use Rattle.expr_forward.specs.Scope as scope
use Rattle.expr_forward.specs.Paths as paths
use Rattle.expr_forward.specs.Paths.{base_text, steps_text, place_expr}
use Rattle.list_law.proofs.Lists.{none_more}
use Rattle.list_law.proofs.Numbers.{none_below}
use Rattle.type_law.specs.Shaped.{AreConstants}
use Rattle.agree_law.specs.Agree.{Naming, Agree}
use Rattle.global_law.specs.Walks.{writing, struct_names, Walks}
use Rattle.global_law.specs.Pointers.{BeginsAs, IsLedBy, GoesOn, Written}
use Rattle.global_law.proofs.Path.Parts.{types_more}
use Rattle.global_law.proofs.Path.Walks.{steps_walk, further_walk, walks_on, way_type, steps_more, way_more, IsPlace, chain_walks}
use Rattle.global_law.proofs.Path.Starts.{start_is}

none_less : {A : Type 0} (n : ℕ) → n < 0 → A
none_less n e = absurd (none_below n e)

module _ (p : Program) (calls : Text → List Argument → State → Result (Option Typed × State)) (z : State) (m : Naming) (s : Setting) (overrides : List (ℕ × Given)) (f : Function) (key : Key → Text) (globals : ℕ → Option Expr) (right : AreConstants s) (c : Conf) (agree : Agree m c z) (b : ℕ) where
  abbrev W : scope.Setting
  W = writing s overrides f key globals

  abbrev Gs : List Inst
  Gs = s.of.globals

  -- where a path begins, and the type of what stands there
  abbrev pub first_type : ℕ → ℕ
  first_type n = unwrap_or (pointee_of Gs f n) 0

  -- What a pointer's text stands for: from what its path begins with, by its steps, a part of the variable into which the pointer leads.
  pub record Leads (n : ℕ) (r : Root) (at : List ℕ) : Type 0 where
    pub begin : ℕ
    pub from : List ℕ
    pub along : List ℕ
    pub begins : BeginsAs p calls z m s overrides f key globals c b begin
    pub begin_is : pointer_at s c.top begin ≡ Some (r, from)
    pub base_is : (path Gs f b n).base ≡ begin
    pub whole : at ≡ from ++ along
    pub first : Thing
    pub named_as : named p z (base_text W begin) ≡ Some first
    pub to : Thing
    pub type : ℕ
    pub shape : Tree
    pub walks : Walks p calls z (steps_text W (first_type begin) (path Gs f b n).steps) first to
    pub place : IsPlace p calls z s overrides f key globals right c (base_text W begin) from r at shape to
    pub points_to : pointee_of Gs f n ≡ Some type
    pub typed_as : type_tree Gs type ≡ Some shape
    pub type_is : type ≡ type_along s (first_type begin) along
    pub way : way_type p calls z s overrides f key globals right (first_type begin) (path Gs f b n).steps ≡ type

  begins_leads : (n : ℕ) (r : Root) (at : List ℕ) → BeginsAs p calls z m s overrides f key globals c b n → pointer_at s c.top n ≡ Some (r, at) → Leads n r at
  begins_leads n r at is leads =
      let first = start_is p calls z m s overrides f key globals right c agree n is.shape r at is.members (is.is r at leads) in
      let type_first : first_type n ≡ is.type = ap (λ o. unwrap_or o 0) is.points_to in
      record {
        begin = n;
        from = at;
        along = [];
        begins = is;
        begin_is = leads;
        base_is = ap (λ (w : Way). w.base) is.way;
        whole = none_more at;
        first = first.to;
        named_as = first.there;
        to = first.to;
        type = is.type;
        shape = is.shape;
        walks = subst (λ (w : Way). Walks p calls z (steps_text W (first_type n) w.steps) first.to first.to) (sym is.way) refl;
        place = (is.members, first.place);
        points_to = is.points_to;
        typed_as = is.typed_as;
        type_is = sym type_first;
        way = ap (λ (w : Way). way_type p calls z s overrides f key globals right (first_type n) w.steps) is.way ∙ type_first;
      }

  module _ (rank : ℕ → ℕ) (IsUsable : ℕ → Type 0) where
    chain_leads : (n : ℕ) (r : Root) (at : List ℕ) (g : GoesOn p calls z m s overrides f key globals c b rank IsUsable n) → (q : IsLedBy p calls z m s overrides f key globals c b g.by g.stands n r at) → Leads (base g.by) r q.from → Leads n r at
    chain_leads n r at g q l =
        let spot = spot_of b (g.stands, g.by) in
        let old = (path Gs f b (base g.by)).steps in
        let same : l.type ≡ q.type = same_Some l.type q.type (sym l.points_to ∙ q.points_to) in
        let typed : type_tree Gs q.type ≡ Some l.shape = ap (type_tree Gs) (sym same) ∙ l.typed_as in
        let more : List Step = steps_from Gs spot 0 (Some q.type) (drop 1 g.by.args) in
        let more_is : chain_steps Gs f spot g.by ≡ more = ap (λ o. steps_from Gs spot 0 o (drop 1 g.by.args)) q.points_to in
        let steps_are : (path Gs f b n).steps ≡ old ++ more = ap (λ (w : Way). w.steps) g.way ∙ ap (λ l. old ++ l) more_is in
        let w = chain_walks p calls z s overrides f key globals right c (base_text W l.begin) l.from r (drop 1 g.by.args) q.indexes q.from q.type 0 spot l.shape l.to typed l.place q.allowed q.says q.by_constants in
        let here : way_type p calls z s overrides f key globals right (first_type l.begin) old ≡ q.type = l.way ∙ same in
        record {
          begin = l.begin;
          from = l.from;
          along = l.along ++ q.indexes;
          begins = l.begins;
          begin_is = l.begin_is;
          base_is = ap (λ (w : Way). w.base) g.way ∙ l.base_is;
          whole = q.whole ∙ ap (λ l. l ++ q.indexes) l.whole ∙ append_assoc l.from l.along q.indexes;
          first = l.first;
          named_as = l.named_as;
          to = w.to;
          type = type_along s q.type q.indexes;
          shape = w.shape;
          walks = subst (λ qs. Walks p calls z (steps_text W (first_type l.begin) qs) l.first w.to) (sym steps_are)
              (subst (λ ls. Walks p calls z ls l.first w.to) (sym (steps_more p calls z s overrides f key globals right (first_type l.begin) old more))
              (walks_on p calls z (steps_text W (first_type l.begin) old) (steps_text W (way_type p calls z s overrides f key globals right (first_type l.begin) old) more) l.first l.to w.to l.walks
              (subst (λ ty. Walks p calls z (steps_text W ty more) l.to w.to) (sym here) w.walks)));
          place = subst (λ l'. IsPlace p calls z s overrides f key globals right c (base_text W l.begin) l.from r l' w.shape w.to) (sym q.whole) w.place;
          points_to = q.reaches;
          typed_as = w.typed;
          type_is = ap (λ ty. type_along s ty q.indexes) (sym same ∙ l.type_is) ∙ sym (types_more s (struct_names key) (first_type l.begin) l.along q.indexes);
          way = ap (way_type p calls z s overrides f key globals right (first_type l.begin)) steps_are ∙ way_more p calls z s overrides f key globals right (first_type l.begin) old more ∙ ap (λ ty. way_type p calls z s overrides f key globals right ty more) here ∙ w.type;
        }

    leads_below : ((n : ℕ) → IsUsable n → Written p calls z m s overrides f key globals c b rank IsUsable n) → (h n : ℕ) → rank n < h → IsUsable n → (r : Root) (at : List ℕ) → pointer_at s c.top n ≡ Some (r, at) → Leads n r at
    leads_below written zero n low usable r at leads = none_less (rank n) low
    leads_below written (suc h) n low usable r at leads = by_way (written n usable) (λ k less may path there. leads_below written h k less may r path there)
      where
        by_way : Written p calls z m s overrides f key globals c b rank IsUsable n → ((k : ℕ) → rank k < h → IsUsable k → (path : List ℕ) → pointer_at s c.top k ≡ Some (r, path) → Leads k r path) → Leads n r at
        by_way (inl is) below = begins_leads n r at is leads
        by_way (inr g) below =
            let q = g.leads r at leads in
            chain_leads n r at g q (below (base g.by) (omega (arith, low, g.lower)) g.usable q.from q.base_is)

    -- So each pointer that may be written, and leads somewhere, stands for that.
    pub pointer_leads : ((n : ℕ) → IsUsable n → Written p calls z m s overrides f key globals c b rank IsUsable n) → (n : ℕ) → IsUsable n → (r : Root) (at : List ℕ) → pointer_at s c.top n ≡ Some (r, at) → Leads n r at
    pointer_leads written n usable r at leads = leads_below written (suc (rank n)) n (omega arith) usable r at leads

  -- as the left side of an assignment, and as an expression
  pub place_stands : (n : ℕ) (r : Root) (at : List ℕ) (l : Leads n r at) → or_stuck (named p z (base_text W (path Gs f b n).base)) (λ (x : Thing). steps p calls x (steps_text W (first_type (path Gs f b n).base) (path Gs f b n).steps) z) ≡ got [] (l.to, z)
  place_stands n r at l =
      ap (λ k. or_stuck (named p z (base_text W k)) (λ (x : Thing). steps p calls x (steps_text W (first_type k) (path Gs f b n).steps) z)) l.base_is
      ∙ ap (λ o. or_stuck o (λ (x : Thing). steps p calls x (steps_text W (first_type l.begin) (path Gs f b n).steps) z)) l.named_as
      ∙ steps_walk p calls z (steps_text W (first_type l.begin) (path Gs f b n).steps) l.first l.to l.walks

  pub expr_stands : (n : ℕ) (r : Root) (at : List ℕ) (l : Leads n r at) → denote p calls (place_expr W b n) z ≡ got [] (l.to, z)
  expr_stands n r at l =
      ap (λ k. denote p calls (paths.further (name (base_text W k)) (steps_text W (first_type k) (path Gs f b n).steps)) z) l.base_is
      ∙ further_walk p calls z (steps_text W (first_type l.begin) (path Gs f b n).steps) (name (base_text W l.begin)) l.first l.to (ap (λ o. or_stuck o (λ x. got [] (x, z))) l.named_as) l.walks
