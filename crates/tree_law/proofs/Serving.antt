-- An edge out of a region leads where its kind says; and what serves a region goes over into the constructs in it.
use Rattle.std.proofs.Common.{◌≡◌, ◌||◌, ℕ, Bool, true, false, List, [], ◌∷◌, Option, Some, None, is_some, if◌then◌else◌, refl, sym, ap, ◌∙◌, subst, ◌⊎◌, inl, inr, ⊎_elim}
use Rattle.std.specs.Prelude.{option_and_then}
use Rattle.std.proofs.lemmas.Bool.{and_parts}
use Rattle.std.proofs.lemmas.Option.{same_Some}
use Rattle.structure_rules.specs.declared.graph.Node.{Node}
use Rattle.structure_rules.specs.declared.graph.Part.{Part}
use Rattle.structure_rules.specs.declared.graph.Part.TheVariants.{If, Loop, Cont, Case}
use Rattle.structure_rules.specs.declared.graph.EdgeKind.{EdgeKind}
use Rattle.structure_rules.specs.declared.graph.EdgeKind.TheVariants.{Enter, Merge, SwitchBreak, Break, Continue, Back, Fall}
use Rattle.structure_rules.specs.Graph.{nth, leads_to, merge_block, continue_target, is_value}
use Rattle.structure_rules.specs.Nesting.{role}
use Rattle.structure_rules.specs.EdgeKinds.{body_header, continue_header, loop_header, if_header, case_switch, case_target, nearest_loop, innermost, innermost_switch, merges_to, continues_to, is_break, case_of, are_same, is_enter, has_kind}
use Rattle.structure_rules.specs.Structure.{falls_from}
use Rattle.nest_place.proofs.OneKind.{value_some}
use Rattle.structure_recover.specs.Tree.{Groups}
use Rattle.glsl_ast.specs.Tree.{Text}
use Rattle.control_text.specs.Statements.{Blocks}
use Rattle.region_law.specs.Leads.{Term, Ways, out_of, out_if, in_case, BreakLeads, BackLeads, EdgeLeads}
use Rattle.tree_law.specs.Serves.{nearest, top, switch_in, place_of, Sees, Serves, if_there, behind, in_choice, in_body, in_continue}

pub merges : (g : List Node) (t : ℕ) (o : Option ℕ) → merges_to g t o ≡ true → (h : ℕ) × (o ≡ Some h) × (merge_block g h ≡ Some t)
merges g t None e = cc
merges g t (Some h) e = (h, refl, value_some t (merge_block g h) e)

continues : (g : List Node) (t : ℕ) (o : Option ℕ) → continues_to g t o ≡ true → (h : ℕ) × (o ≡ Some h) × (continue_target g h ≡ Some t)
continues g t None e = cc
continues g t (Some h) e = (h, refl, value_some t (continue_target g h) e)

module _ (w : Blocks) (term : ℕ → Term) (falls : ℕ → Option ℕ) (Cases : ℕ → Groups → Type 0) (g : List Node) (b t : ℕ) (ps : List Part) (v : Ways) (breaks : Bool) (serves : Serves w.leave g ps v breaks) (here : (nth g b).reached ≡ true) (leads : leads_to t (nth g b) ≡ true) (there : (nth g t).reached ≡ true) (sees : Sees g b ps)
    (flagged : (s h : ℕ) → switch_in ps ≡ Some s → option_and_then loop_header (nearest ps) ≡ Some h → is_break g b t ≡ true → (l : Text) × (w.leave h ≡ Some l)) where
  -- what the innermost construct is, the region's is
  kept : (f : Part → Option ℕ) (x : ℕ) → option_and_then f (innermost g b) ≡ Some x → option_and_then f (top ps) ≡ Some x
  kept f x e = by_part (innermost g b) refl e
    where
      by_part : (o : Option Part) → innermost g b ≡ o → option_and_then f o ≡ Some x → option_and_then f (top ps) ≡ Some x
      by_part None is e = cc
      by_part (Some p) is e = ap (λ o. option_and_then f o) (sees.first p is) ∙ e

  by_switch : (o : Option ℕ) → switch_in ps ≡ o → (h : ℕ) → option_and_then loop_header (nearest ps) ≡ Some h → merge_block g h ≡ Some t → is_break g b t ≡ true → breaks ≡ true → BreakLeads w term falls Cases v (option_and_then loop_header (nearest ps)) t (is_some o)
  by_switch None e h near_is merge_is is br = serves.left h t e near_is merge_is there
  by_switch (Some s) e h near_is merge_is is br = let l = flagged s h e near_is is in (h, l.0, near_is, l.1, serves.out br h t l.0 near_is l.1 merge_is there)

  -- the nearest construct of a body, and of a continue construct
  loop_cases : (o : Option Part) → (h : ℕ) → option_and_then loop_header o ≡ Some h → ((option_and_then body_header o ≡ Some h) × (is_some (option_and_then continue_header o) ≡ false)) ⊎ ((option_and_then continue_header o ≡ Some h) × (is_some (option_and_then continue_header o) ≡ true))
  loop_cases None h e = cc
  loop_cases (Some (If k)) h e = cc
  loop_cases (Some (Case s u)) h e = cc
  loop_cases (Some (Loop k)) h e = inl (e, refl)
  loop_cases (Some (Cont k)) h e = inr (e, refl)

  -- where the first is a continue construct, it is the nearest
  cont_near : (qs : List Part) (h : ℕ) → option_and_then continue_header (top qs) ≡ Some h → option_and_then continue_header (nearest qs) ≡ Some h
  cont_near [] h e = cc
  cont_near (If k ∷ qs) h e = cc
  cont_near (Loop k ∷ qs) h e = cc
  cont_near (Case s u ∷ qs) h e = cc
  cont_near (Cont k ∷ qs) h e = e

  some_is : (o : Option ℕ) (h : ℕ) → o ≡ Some h → is_some o ≡ true
  some_is o h e = ap is_some e

  pub exit_leads : (k : EdgeKind) → has_kind g b t k ≡ true → is_enter g b t ≡ false → (k ≡ Break → breaks ≡ true) → EdgeLeads w term falls Cases v (place_of ps) t k
  exit_leads Enter e none br = let never : true ≡ false = sym e ∙ none in cc
  exit_leads Merge e none br =
      let m = merges g t (option_and_then if_header (innermost g b)) e in
      serves.merge m.0 t (kept if_header m.0 m.1) m.2 there
  exit_leads SwitchBreak e none br =
      let m = merges g t (innermost_switch g b) e in
      serves.switched m.0 t (sym sees.switch ∙ m.1) m.2 there
  exit_leads Break e none br =
      let m = merges g t (option_and_then loop_header (nearest_loop g b)) e in
      by_switch (switch_in ps) refl m.0 (ap (λ o. option_and_then loop_header o) (sym sees.near) ∙ m.1) m.2 e (br refl)
  exit_leads Continue e none br =
      let a = and_parts _ _ e in
      let m = continues g t (option_and_then body_header (nearest_loop g b)) a.0 in
      serves.again m.0 t (ap (λ o. option_and_then body_header o) (sym sees.near) ∙ m.1) m.2 there
  exit_leads Back e none br =
      let a = and_parts _ _ e in
      let is : option_and_then loop_header (nearest ps) ≡ Some t = ap (λ o. option_and_then loop_header o) (sym sees.near) ∙ value_some t (option_and_then loop_header (nearest_loop g b)) a.0 in
      ⊎_elim
      (λ body. subst (λ q. BackLeads w term falls Cases v t q) (sym body.1) (by_first (is_value t (option_and_then continue_header (innermost g b))) refl a.1 body.0 body.1))
      (λ cont. subst (λ q. BackLeads w term falls Cases v t q) (sym cont.1) (by_top (is_value t (option_and_then continue_header (innermost g b))) refl a.1 cont.0))
      (loop_cases (nearest ps) t is)
    where
      by_first : (q : Bool) → is_value t (option_and_then continue_header (innermost g b)) ≡ q → (q || is_value t (continue_target g t)) ≡ true → option_and_then body_header (nearest ps) ≡ Some t → is_some (option_and_then continue_header (nearest ps)) ≡ false → v.again ≡ Some t
      by_first true e h body no_cont =
          let c = cont_near ps t (kept continue_header t (value_some t (option_and_then continue_header (innermost g b)) e)) in
          let never : true ≡ false = sym (some_is (option_and_then continue_header (nearest ps)) t c) ∙ no_cont in cc
      by_first false e h body no_cont = serves.again t t body (value_some t (continue_target g t) h) there

      by_top : (q : Bool) → is_value t (option_and_then continue_header (innermost g b)) ≡ q → (q || is_value t (continue_target g t)) ≡ true → option_and_then continue_header (nearest ps) ≡ Some t → v.normal ≡ Some t
      by_top true e h cont = serves.back t (kept continue_header t (value_some t (option_and_then continue_header (innermost g b)) e))
      by_top false e h cont = absurd (serves.other t cont (value_some t (continue_target g t) h))
  exit_leads Fall e none br = by_case (innermost g b) refl (and_parts _ _ e).0
    where
      by_case : (o : Option Part) → innermost g b ≡ o → are_same (option_and_then case_switch o) (case_of (role g t)) ≡ true → v.fall ≡ Some t
      by_case None is same = cc
      by_case (Some (If h)) is same = cc
      by_case (Some (Loop h)) is same = cc
      by_case (Some (Cont h)) is same = cc
      by_case (Some (Case s u)) is same =
          serves.fall b t u here leads (ap (λ q. if q then option_and_then case_target (innermost g b) else None) e ∙ ap (λ o. option_and_then case_target o) is) (ap (λ o. option_and_then case_target o) (sees.first (Case s u) is))

behind_is : (g : List Node) (h t : ℕ) → merge_block g h ≡ Some t → (nth g t).reached ≡ true → behind g h ≡ Some t
behind_is g h t is there = ap (λ o. if_there g o) is ∙ ap (λ q. elim q as (λ x. Option ℕ) [ true ↦ Some t | false ↦ None ]) there

module _ (leave : ℕ → Option Text) (g : List Node) (ps : List Part) where
  pub choice_serves : (h : ℕ) (v : Ways) (outer inner : Bool) → (inner ≡ true → outer ≡ true) → Serves leave g ps v outer → Serves leave g (If h ∷ ps) (in_choice g h v) inner
  choice_serves h v outer inner more s = record {
    merge = λ k t e m there. behind_is g h t (ap (λ q. merge_block g q) (same_Some h k e) ∙ m) there;
    switched = s.switched;
    left = s.left;
    out = λ b. s.out (more b);
    again = s.again;
    other = s.other;
    back = λ k e. let never = e in cc;
    fall = λ b t u here leads f e. let never = e in cc;
  }

  pub body_serves : (h c : ℕ) (breaks : Bool) → ((t : ℕ) → continue_target g h ≡ Some t → (nth g t).reached ≡ true → t ≡ c) → Serves leave g (Loop h ∷ ps) (in_body leave g h c) breaks
  body_serves h c breaks own = record {
    merge = λ k t e m there. let never = e in cc;
    switched = λ k t e m there. let never = e in cc;
    left = λ k t none e m there. behind_is g h t (ap (λ q. merge_block g q) (same_Some h k e) ∙ m) there;
    out = λ b k t l e f m there. ap (λ q. out_of (leave q) (behind g h)) (same_Some h k e) ∙ ap (λ q. out_of q (behind g h)) f ∙ ap (λ q. out_of (Some l) q) (behind_is g h t (ap (λ q. merge_block g q) (same_Some h k e) ∙ m) there);
    again = λ k t e m there. ap (λ q. Some q) (sym (own t (ap (λ q. continue_target g q) (same_Some h k e) ∙ m) there));
    other = λ k e m. let never = e in cc;
    back = λ k e. let never = e in cc;
    fall = λ b t u here leads f e. let never = e in cc;
  }

  pub continue_serves : (h : ℕ) (breaks : Bool) → (continue_target g h ≡ Some h → ⊥) → Serves leave g (Cont h ∷ ps) (in_continue leave g h) breaks
  continue_serves h breaks own = record {
    merge = λ k t e m there. let never = e in cc;
    switched = λ k t e m there. let never = e in cc;
    left = λ k t none e m there. behind_is g h t (ap (λ q. merge_block g q) (same_Some h k e) ∙ m) there;
    out = λ b k t l e f m there. ap (λ q. out_of (leave q) (behind g h)) (same_Some h k e) ∙ ap (λ q. out_of q (behind g h)) f ∙ ap (λ q. out_of (Some l) q) (behind_is g h t (ap (λ q. merge_block g q) (same_Some h k e) ∙ m) there);
    again = λ k t e m there. let never = e in cc;
    other = λ k e m. let same = same_Some h k e in own (subst (λ q. continue_target g q ≡ Some q) (sym same) m);
    back = λ k e. e;
    fall = λ b t u here leads f e. let never = e in cc;
  }

module _ (w : Blocks) (term : ℕ → Term) (falls : ℕ → Option ℕ) (Cases : ℕ → Groups → Type 0) (g : List Node) (ps : List Part) where
  pub case_serves : (s u : ℕ) (v : Ways) (outer inner : Bool) → (inner ≡ true → outer ≡ true)
      → ((b t : ℕ) → (nth g b).reached ≡ true → leads_to t (nth g b) ≡ true → falls_from g b t ≡ Some u → falls u ≡ Some t) → Serves w.leave g ps v outer
      → Serves w.leave g (Case s u ∷ ps) (in_case w term falls Cases v inner (behind g s) u) inner
  case_serves s u v outer inner more one z = record {
    merge = λ k t e m there. let never = e in cc;
    switched = λ k t e m there. behind_is g s t (ap (λ q. merge_block g q) (same_Some s k e) ∙ m) there;
    left = λ k t none e m there. let never = none in cc;
    out = λ b k t l e f m there. ap (λ q. out_if w term falls Cases v q) b ∙ z.out (more b) k t l e f m there;
    again = z.again;
    other = z.other;
    back = λ k e. let never = e in cc;
    fall = λ b t x here leads f e. let same = same_Some u x e in one b t here leads (f ∙ ap (λ q. Some q) (sym same));
  }
