-- A switch is entered at the group of the module's target, whatever the order in which its groups are written.
use Rattle.std.proofs.Common.{◌≡◌, ◌⊎◌, ◌==◌, ◌++◌, ℕ, Bool, true, false, List, [], ◌∷◌, Option, Some, None, inl, inr, refl, sym, ap, ◌∙◌, subst}
use Rattle.std.specs.Prelude.{nat_eq}
use Rattle.std.specs.Option.{option_to_list}
use Rattle.std.specs.Map.{update, update_all}
use Rattle.std.proofs.lemmas.Bool.Decides.{eqb_tells}
use Rattle.glsl_ast.specs.Tree as tree
use Rattle.glsl_ast.specs.Tree.{Text, stmts_in}
use Rattle.glsl_ast.specs.declared.statements.Label.{Label}
use Rattle.structure_recover.specs.Tree.{Region, Groups, none, group, targets}
use Rattle.control_text.specs.declared.place.Place.{Place}
use Rattle.control_text.specs.Statements.{Blocks, labels_text, groups_text, entering_case, region_text, inside_switch, by_target, in_order}
use Rattle.traces.specs.Outcomes.{behind_switch, Result, got, stuck}
use Rattle.glsl_semantics.specs.Shapes.{Typed}
use Rattle.glsl_semantics.specs.States.{State}
use Rattle.glsl_semantics.specs.Expressions.{Program, Argument, literal_value, evaluate}
use Rattle.glsl_semantics.specs.Statements.{Run, is_case, has_case, has_default, any_case, entered, is_selector, stmt_run, arms_run}
use Rattle.region_law.specs.Leads.{In, AreApart}
use Rattle.region_law.proofs.Regions.{update_own, update_apart}
use Rattle.agree_law.specs.Tables.{has_word, CasesAre, DefaultIs, IsPicked, Picks, arms}
use Rattle.agree_law.proofs.Steps.{on_known}

module _ (w : Blocks) (h : ℕ) (v : Typed) (x : ℕ) (cases : (l : ℕ) → is_case v (literal_value (w.case h l)) ≡ (l == x)) where
  -- the labels of a group have the word, or the default
  case_is : (words : List ℕ) (default : Bool) → has_case v (labels_text w h words default) ≡ has_word x words
  case_is [] true = refl
  case_is [] false = refl
  case_is (l ∷ ls) default = ap (λ (b : Bool). elim b as (λ b. Bool) [ true ↦ true | false ↦ has_case v (labels_text w h ls default) ]) (cases l) ∙ ap (λ (r : Bool). elim (l == x) as (λ b. Bool) [ true ↦ true | false ↦ r ]) (case_is ls default)

  default_is : (words : List ℕ) (default : Bool) → has_default (labels_text w h words default) ≡ default
  default_is [] true = refl
  default_is [] false = refl
  default_is (l ∷ ls) default = default_is ls default

  abbrev labels_of : tree.Arm → List Label
  labels_of (tree.group ls body) = ls

  -- no group that is written has the word
  abbrev NoneHas : (ℕ → Option tree.Arm) → Type 0
  NoneHas fa = (u : ℕ) (a : tree.Arm) → fa u ≡ Some a → has_case v (labels_of a) ≡ false

  none_updated : (fa : ℕ → Option tree.Arm) (j : ℕ) (o : Option tree.Arm) → ((a : tree.Arm) → o ≡ Some a → has_case v (labels_of a) ≡ false) → NoneHas fa → NoneHas (update nat_eq fa j o)
  none_updated fa j o new old u a is = elim (eqb_tells j u) [
    | inl e ↦ new a (sym (update_own fa j u o e.1) ∙ is)
    | inr e ↦ old u a (sym (update_apart fa j u o e.1) ∙ is)
  ]

  none_in_arms : (ts : List ℕ) (fa : ℕ → Option tree.Arm) → NoneHas fa → any_case v (tree.arms_in (in_order ts fa)) ≡ false
  none_in_arms [] fa lacks = refl
  none_in_arms (t ∷ ts) fa lacks = by_arm (fa t) refl (none_in_arms ts (update nat_eq fa t None) (none_updated fa t None (λ a e. let never : None ≡ Some a = e in cc) lacks))
    where
      by_arm : (o : Option tree.Arm) → fa t ≡ o → any_case v (tree.arms_in (in_order ts (update nat_eq fa t None))) ≡ false → any_case v (tree.arms_in (option_to_list o ++ in_order ts (update nat_eq fa t None))) ≡ false
      by_arm None is rest = rest
      by_arm (Some (tree.group ls body)) is rest = ap (λ (b : Bool). elim b as (λ b. Bool) [ true ↦ true | false ↦ any_case v (tree.arms_in (in_order ts (update nat_eq fa t None))) ]) (lacks t (tree.group ls body) is) ∙ rest

  -- one that is written has it
  one_in_arms : (ts : List ℕ) (fa : ℕ → Option tree.Arm) (u : ℕ) (a : tree.Arm) → In u ts → fa u ≡ Some a → has_case v (labels_of a) ≡ true → any_case v (tree.arms_in (in_order ts fa)) ≡ true
  one_in_arms [] fa u a i is has = absurd i
  one_in_arms (t ∷ ts) fa u a i is has = by_place (eqb_tells t u) (λ j later. one_in_arms ts (update nat_eq fa t None) u a j later has)
    where
      first : (o : Option tree.Arm) → o ≡ Some a → any_case v (tree.arms_in (option_to_list o ++ in_order ts (update nat_eq fa t None))) ≡ true
      first None e = cc
      first (Some (tree.group ls body)) e = let same : has_case v ls ≡ true = ap has_of e ∙ has in ap (λ (b : Bool). elim b as (λ b. Bool) [ true ↦ true | false ↦ any_case v (tree.arms_in (in_order ts (update nat_eq fa t None))) ]) same
        where
          has_of : Option tree.Arm → Bool
          has_of None = false
          has_of (Some a) = has_case v (labels_of a)

      behind : (o : Option tree.Arm) → any_case v (tree.arms_in (in_order ts (update nat_eq fa t None))) ≡ true → any_case v (tree.arms_in (option_to_list o ++ in_order ts (update nat_eq fa t None))) ≡ true
      behind None e = e
      behind (Some (tree.group ls body)) e = by_test (has_case v ls)
        where
          by_test : (b : Bool) → elim b as (λ b. Bool) [ true ↦ true | false ↦ any_case v (tree.arms_in (in_order ts (update nat_eq fa t None))) ] ≡ true
          by_test true = refl
          by_test false = e

      later : (t ≡ u → ⊥) → (u ≡ t) ⊎ In u ts → In u ts
      later ne (inl same) = absurd (ne (sym same))
      later ne (inr j) = j

      by_place : (((t == u) ≡ true) × (t ≡ u)) ⊎ (((t == u) ≡ false) × (t ≡ u → ⊥)) → (In u ts → update nat_eq fa t None u ≡ Some a → any_case v (tree.arms_in (in_order ts (update nat_eq fa t None))) ≡ true) → any_case v (tree.arms_in (in_order (t ∷ ts) fa)) ≡ true
      by_place (inl e) rest = first (fa t) (ap fa e.1 ∙ is)
      by_place (inr e) rest = behind (fa t) (rest (later e.1 i) (update_apart fa t u None e.1 ∙ is))

  module _ (pl : Place) where
    abbrev written : Groups → List (ℕ × tree.Arm)
    written gs = groups_text w (inside_switch pl) h gs

    abbrev arm_of : ℕ → List ℕ → Bool → Region → tree.Arm
    arm_of t labels default r = tree.group (labels_text w h labels default) (stmts_in (entering_case w h t r ++ region_text w (inside_switch pl) r))

    none_written : (gs : Groups) (fa : ℕ → Option tree.Arm) → CasesAre x (λ u. false) gs → NoneHas fa → NoneHas (update_all nat_eq fa (written gs))
    none_written none fa lacks old = old
    none_written (group t labels default r gs) fa lacks old =
        none_written gs (update nat_eq fa t (Some (arm_of t labels default r))) lacks.1
        (none_updated fa t (Some (arm_of t labels default r)) of_arm old)
      where
        of_arm : (a : tree.Arm) → Some (arm_of t labels default r) ≡ Some a → has_case v (labels_of a) ≡ false
        of_arm a e = let same : arm_of t labels default r ≡ a = cc in sym (ap (λ a. has_case v (labels_of a)) same) ∙ (case_is labels default ∙ lacks.0)

    not_among : (gs : Groups) (fa : ℕ → Option tree.Arm) (u : ℕ) → (In u (targets gs) → ⊥) → update_all nat_eq fa (written gs) u ≡ fa u
    not_among none fa u ne = refl
    not_among (group j labels default r gs) fa u ne =
        not_among gs (update nat_eq fa j (Some (arm_of j labels default r))) u (λ i. ne (inr i)) ∙ update_apart fa j u (Some (arm_of j labels default r)) (λ e. ne (inl (sym e)))

    -- the arm of a target that has the word
    has_written : (t : ℕ) (gs : Groups) (fa : ℕ → Option tree.Arm) → AreApart (targets gs) → In t (targets gs) → CasesAre x (nat_eq t) gs → (a : tree.Arm) × (update_all nat_eq fa (written gs) t ≡ Some a) × (has_case v (labels_of a) ≡ true)
    has_written t none fa apart i are = absurd i
    has_written t (group j labels default r gs) fa apart (inl same) are = (
      arm_of j labels default r,
      not_among gs (update nat_eq fa j (Some (arm_of j labels default r))) t (λ i. apart.0 (subst (λ z. In z (targets gs)) same i)) ∙ update_own fa j t (Some (arm_of j labels default r)) (sym same),
      case_is labels default ∙ (are.0 ∙ elim (eqb_tells t j) [ inl e ↦ e.0 | inr e ↦ absurd (e.1 same) ]),
    )
    has_written t (group j labels default r gs) fa apart (inr i) are = has_written t gs (update nat_eq fa j (Some (arm_of j labels default r))) apart.1 i are.1

    by_cases : (t : ℕ) (q : List Label → Bool) (gs : Groups) → ((ls : List Label) → q ls ≡ has_case v ls) → CasesAre x (nat_eq t) gs → Picks w h t q gs
    by_cases t q none is are = tt
    by_cases t q (group u labels default r gs) is are = (is (labels_text w h labels default) ∙ (case_is labels default ∙ are.0), by_cases t q gs is are.1)

    by_default : (t : ℕ) (q : List Label → Bool) (gs : Groups) → ((ls : List Label) → q ls ≡ has_default ls) → DefaultIs (nat_eq t) gs → Picks w h t q gs
    by_default t q none is are = tt
    by_default t q (group u labels default r gs) is are = (is (labels_text w h labels default) ∙ (default_is labels default ∙ are.0), by_default t q gs is are.1)

    pub picks : (t : ℕ) (gs : Groups) → AreApart (targets gs) → ((u : ℕ) → In u (targets gs) → In u (w.order h)) → IsPicked x t gs → Picks w h t (entered v (arms w h pl gs)) gs
    picks t gs apart order picked = by_way picked.by
      where
        enters : (b : Bool) → any_case v (arms w h pl gs) ≡ b → (ls : List Label) → entered v (arms w h pl gs) ls ≡ elim b as (λ b. Bool) [ true ↦ has_case v ls | false ↦ has_default ls ]
        enters b is ls = ap (λ (b : Bool). elim b as (λ b. Bool) [ true ↦ has_case v ls | false ↦ has_default ls ]) is

        by_way : CasesAre x (nat_eq t) gs ⊎ (CasesAre x (λ u. false) gs × DefaultIs (nat_eq t) gs) → Picks w h t (entered v (arms w h pl gs)) gs
        by_way (inl are) =
            let a = has_written t gs (λ u. None) apart picked.there are in
            by_cases t (entered v (arms w h pl gs)) gs (enters true (one_in_arms (w.order h) (by_target (written gs)) t a.0 (order t picked.there) a.1 a.2)) are
        by_way (inr are) = by_default t (entered v (arms w h pl gs)) gs (enters false (none_in_arms (w.order h) (by_target (written gs)) (none_written gs (λ u. None) are.0 (λ u a e. let never : None ≡ Some a = e in cc)))) are.1

    -- so the switch goes on from there
    pub switch_runs : (p : Program) (calls : Text → List Argument → State → Result (Option Typed × State)) (k : ℕ) (gs : Groups) (z : State) → is_selector v ≡ true → evaluate p calls (w.condition h) z ≡ got [] (v, z)
        → stmt_run p calls k (tree.switch (w.condition h) (arms w h pl gs)) z ≡ behind_switch (arms_run p calls k (arms w h pl gs) (entered v (arms w h pl gs)) z)
    switch_runs p calls k gs z selects says =
        on_known (evaluate p calls (w.condition h) z) (v, z) (λ u. elim (is_selector u.0) as (λ b. Run) [ true ↦ behind_switch (arms_run p calls k (arms w h pl gs) (entered u.0 (arms w h pl gs)) u.1) | false ↦ stuck [] ]) says
        ∙ ap (λ (b : Bool). elim b as (λ b. Run) [ true ↦ behind_switch (arms_run p calls k (arms w h pl gs) (entered v (arms w h pl gs)) z) | false ↦ stuck [] ]) selects
