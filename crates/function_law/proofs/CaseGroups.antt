-- For each word that the selector of a switch may have the module goes to the target of the group that the word picks: groups have the literals of their targets, each literal once.
use Rattle.std.proofs.Common.{◌≡◌, ◌≢◌, ◌⊎◌, ◌==◌, ◌<◌, ℕ, zero, suc, Bool, true, false, List, [], ◌∷◌, length, map, filter, drop, Option, Some, None, inl, inr, refl, sym, ap, ◌∙◌, subst, arith}
use Rattle.std.specs.Prelude.{slice_get, slice_index, if◌then◌else◌}
use Rattle.std.specs.List.{zip}
use Rattle.std.proofs.lemmas.Bool.Decides.{eqb_tells}
use Rattle.spv_module.specs.declared.inst.Inst.{Inst}
use Rattle.spv_module.specs.declared.inst.Block.{Block}
use Rattle.spv_module.specs.declared.inst.Function.{Function}
use Rattle.spv_index.specs.Locals.{block_in}
use Rattle.structure_rules.specs.declared.graph.Node.{Node}
use Rattle.structure_rules.specs.Graph.{nth, index_of, seconds, is_value, leads_to}
use Rattle.structure_recover.specs.Tree.{Groups, none, group, targets}
use Rattle.structure_recover.specs.Follows.{switch_targets, firsts, literals_by, last_inst, cases, labels_to, FollowsGroups}
use Rattle.module_semantics.specs.Operands.{arg}
use Rattle.module_semantics.specs.Steps.{case_label}
use Rattle.region_law.specs.Leads.{In}
use Rattle.agree_law.specs.Tables.{has_word, CasesAre, DefaultIs, IsPicked}
use Rattle.tree_law.proofs.SwitchOrder.{list_in, in_range, in_filter}
use Rattle.function_law.proofs.PhiSources.{label_found}

-- each word stands once
abbrev pub IsNoWord : ℕ → List ℕ → Type 0
IsNoWord x [] = Unit {0}
IsNoWord x (w ∷ ws) = (w ≢ x) × IsNoWord x ws

abbrev pub AreOnceWords : List ℕ → Type 0
AreOnceWords [] = Unit {0}
AreOnceWords (w ∷ ws) = IsNoWord w ws × AreOnceWords ws

-- the label of the first literal that is this word
first_label : ℕ → List ℕ → Option ℕ
first_label x (literal ∷ label ∷ more) = elim (literal == x) [ true ↦ Some label | false ↦ first_label x more ]
first_label x _ = None

abbrev or_default : ℕ → Option ℕ → ℕ
or_default default None = default
or_default default (Some label) = label

case_is : (x default : ℕ) (ws : List ℕ) → case_label x default ws ≡ or_default default (first_label x ws)
unfolding first_label
case_is x default [] = refl
case_is x default (w ∷ []) = refl
case_is x default (literal ∷ label ∷ more) = by_test (literal == x) (case_is x default more)
  where
    by_test : (t : Bool) → case_label x default more ≡ or_default default (first_label x more) → elim t as (λ t. ℕ) [ true ↦ label | false ↦ case_label x default more ] ≡ or_default default (elim t as (λ t. Option ℕ) [ true ↦ Some label | false ↦ first_label x more ])
    by_test true later = refl
    by_test false later = later

module _ (index : ℕ → ℕ) where
  abbrev Pairs : List ℕ → List (ℕ × ℕ)
  Pairs ws = zip (map index (seconds ws)) (firsts ws)

  abbrev With : Bool → ℕ → ℕ → List ℕ → ℕ → List ℕ
  With t literal label more u = map (λ (c : ℕ × ℕ). c.1) (if t then (index label, literal) ∷ filter (λ (c : ℕ × ℕ). c.0 == u) (Pairs more) else filter (λ (c : ℕ × ℕ). c.0 == u) (Pairs more))

  -- a word that is no literal is none of a group
  none_there : (x u : ℕ) (ws : List ℕ) → IsNoWord x (firsts ws) → has_word x (labels_to (Pairs ws) u) ≡ false
  none_there x u [] no_word = refl
  none_there x u (w ∷ []) no_word = refl
  none_there x u (literal ∷ label ∷ more) no_word = by_target (index label == u) (none_there x u more no_word.1)
    where
      off : (literal == x) ≡ false
      off = elim (eqb_tells literal x) [ inl w ↦ absurd (no_word.0 w.1) | inr w ↦ w.0 ]

      by_target : (t : Bool) → has_word x (labels_to (Pairs more) u) ≡ false → has_word x (With t literal label more u) ≡ false
      by_target true later = ap (λ b. elim b as (λ b. Bool) [ true ↦ true | false ↦ has_word x (labels_to (Pairs more) u) ]) off ∙ later
      by_target false later = later

  abbrev goes_by : Option ℕ → ℕ → Bool
  goes_by None u = false
  goes_by (Some label) u = index label == u

  -- the literals of a target have the word where the first label of the word leads there
  word_is : (x u : ℕ) (ws : List ℕ) → AreOnceWords (firsts ws) → has_word x (labels_to (Pairs ws) u) ≡ goes_by (first_label x ws) u
  unfolding first_label
  word_is x u [] once = refl
  word_is x u (w ∷ []) once = refl
  word_is x u (literal ∷ label ∷ more) once = by_tests (literal == x) (eqb_tells literal x) refl (index label == u) refl (word_is x u more once.1)
    where
      by_tests : (t : Bool) → ((t ≡ true) × (literal ≡ x)) ⊎ ((t ≡ false) × (literal ≡ x → ⊥)) → (literal == x) ≡ t → (v : Bool) → (index label == u) ≡ v → has_word x (labels_to (Pairs more) u) ≡ goes_by (first_label x more) u
          → has_word x (With v literal label more u) ≡ goes_by (elim t as (λ t. Option ℕ) [ true ↦ Some label | false ↦ first_label x more ]) u
      by_tests true (inr w) is v goes later = cc
      by_tests true (inl w) is true goes later = ap (λ b. elim b as (λ b. Bool) [ true ↦ true | false ↦ has_word x (labels_to (Pairs more) u) ]) is ∙ sym goes
      by_tests true (inl w) is false goes later = none_there x u more (subst (λ y. IsNoWord y (firsts more)) w.1 once.0) ∙ sym goes
      by_tests false w is true goes later = ap (λ b. elim b as (λ b. Bool) [ true ↦ true | false ↦ has_word x (labels_to (Pairs more) u) ]) is ∙ later
      by_tests false w is false goes later = later

-- What is known of a block that ends in OpSwitch: its node leads to the blocks of its labels, the default first, and each literal stands once.
pub record IsSwitchOf (f : Function) (g : List Node) (h : ℕ) (last : Inst) : Type 0 where
  pub last_is : last_inst (slice_get f.blocks h) ≡ Some last
  pub selector : ℕ
  pub default : ℕ
  pub words : List ℕ
  pub args : last.args ≡ selector ∷ default ∷ words
  pub leads : (nth g h).targets ≡ map (index_of f) (seconds last.args)
  pub labels : (label : ℕ) → In label (seconds last.args) → block_in f label ≡ Some (index_of f label)
  pub size : length g ≡ length f.blocks
  pub once : AreOnceWords (firsts words)

in_mapped : (index : ℕ → ℕ) (x : ℕ) (xs : List ℕ) → In x xs → In (index x) (map index xs)
in_mapped index x [] is = absurd is
in_mapped index x (y ∷ ys) (inl same) = inl (ap index same)
in_mapped index x (y ∷ ys) (inr is) = inr (in_mapped index x ys is)

label_in : (x label : ℕ) (ws : List ℕ) → first_label x ws ≡ Some label → In label (seconds ws)
unfolding first_label
label_in x label [] e = cc
label_in x label (w ∷ []) e = cc
label_in x label (literal ∷ l ∷ more) e = by_test (literal == x) e (label_in x label more)
  where
    by_test : (t : Bool) → elim t as (λ t. Option ℕ) [ true ↦ Some l | false ↦ first_label x more ] ≡ Some label → (first_label x more ≡ Some label → In label (seconds more)) → In label (l ∷ seconds more)
    by_test true e later = inl (let same : label ≡ l = cc in same)
    by_test false e later = inr (later e)

pub placed_below : {A : Type 0} (xs : List A) (n : ℕ) (x : A) → slice_get xs n ≡ Some x → n < length xs
placed_below [] n x e = cc
placed_below (y ∷ xs) zero x e = omega arith
placed_below (y ∷ xs) (suc n) x e = let le = placed_below xs n x e in omega (arith, le)

module _ (f : Function) (g : List Node) (h : ℕ) (last : Inst) (is : IsSwitchOf f g h last) where
  pairs_are_cases : cases f g h ≡ zip (map (index_of f) (seconds is.words)) (firsts is.words)
  pairs_are_cases =
      ap (λ ts. zip (drop 1 ts) (literals_by (last_inst (slice_get f.blocks h)))) (is.leads ∙ ap (λ l. map (index_of f) (seconds l)) is.args)
      ∙ (ap (λ o. zip (map (index_of f) (seconds is.words)) (literals_by o)) is.last_is ∙ ap (λ l. zip (map (index_of f) (seconds is.words)) (firsts (drop 2 l))) is.args)

  labels_in : (x : ℕ) (o : Option ℕ) → first_label x is.words ≡ o → In (or_default is.default o) (seconds last.args)
  labels_in x None e = subst (λ l. In is.default (seconds l)) (sym is.args) (inl refl)
  labels_in x (Some label) e = subst (λ l. In label (seconds l)) (sym is.args) (inr (label_in x label is.words e))

  block_is : (x : ℕ) → block_in f (case_label x (arg last 1) (drop 2 last.args)) ≡ Some (index_of f (or_default is.default (first_label x is.words)))
  block_is x = ap (block_in f) (words_are ∙ case_is x is.default is.words) ∙ is.labels (or_default is.default (first_label x is.words)) (labels_in x (first_label x is.words) refl)
    where
      words_are : case_label x (arg last 1) (drop 2 last.args) ≡ case_label x is.default is.words
      words_are = ap (λ l. case_label x (slice_index l 1) (drop 2 l)) is.args

  target_in : (x : ℕ) → In (index_of f (or_default is.default (first_label x is.words))) (switch_targets g h)
  target_in x =
      let label : ℕ = or_default is.default (first_label x is.words) in
      let there : In label (seconds last.args) = labels_in x (first_label x is.words) refl in
      let at = label_found f.blocks 0 (index_of f label) label (is.labels label there) in
      let below : at.0 < length f.blocks = placed_below f.blocks at.0 at.1 at.3 in
      let within : index_of f label < length g = (let same = at.2 in let size = is.size in omega (arith, below, same, size)) in
      in_filter (λ t. leads_to t (nth g h)) _ (index_of f label) (in_range 0 (length g) (index_of f label) (omega arith) (omega (arith, within)))
      (list_in (index_of f label) (nth g h).targets (subst (In (index_of f label)) (sym is.leads) (in_mapped (index_of f) label (seconds last.args) there)))

  -- the groups that have the word
  cases_are : (x : ℕ) (gs : Groups) → FollowsGroups f g gs h → CasesAre x (goes_by (index_of f) (first_label x is.words)) gs
  cases_are x none follows = tt
  cases_are x (group t labels default r gs) follows = (
    ap (has_word x) (follows.0 ∙ ap (λ cs. labels_to cs t) pairs_are_cases) ∙ word_is (index_of f) x t is.words is.once,
    cases_are x gs follows.3,
  )

  default_is : (gs : Groups) → FollowsGroups f g gs h → DefaultIs (λ t. index_of f is.default == t) gs
  default_is none follows = tt
  default_is (group t labels default r gs) follows = (
    follows.1 ∙ ap (is_value t) (ap (λ l. slice_get l 0) (is.leads ∙ ap (λ l. map (index_of f) (seconds l)) is.args)),
    default_is gs follows.3,
  )

  -- so each word picks the group of the block to which the module goes
  pub word_picks : (gs : Groups) → targets gs ≡ switch_targets g h → FollowsGroups f g gs h → (x : ℕ) → (t : ℕ) × (block_in f (case_label x (arg last 1) (drop 2 last.args)) ≡ Some t) × IsPicked x t gs
  word_picks gs all follows x = by_label (first_label x is.words) refl (block_is x) (target_in x) (cases_are x gs follows)
    where
      by_label : (o : Option ℕ) → first_label x is.words ≡ o → block_in f (case_label x (arg last 1) (drop 2 last.args)) ≡ Some (index_of f (or_default is.default (first_label x is.words))) → In (index_of f (or_default is.default (first_label x is.words))) (switch_targets g h)
          → CasesAre x (goes_by (index_of f) (first_label x is.words)) gs → (t : ℕ) × (block_in f (case_label x (arg last 1) (drop 2 last.args)) ≡ Some t) × IsPicked x t gs
      by_label (Some label) e goes there are = (
        index_of f label,
        goes ∙ ap (λ o. Some (index_of f (or_default is.default o))) e,
        record { there = subst (In (index_of f label)) (sym all) (subst (λ o. In (index_of f (or_default is.default o)) (switch_targets g h)) e there); by = inl (subst (λ o. CasesAre x (goes_by (index_of f) o) gs) e are) },
      )
      by_label None e goes there are = (
        index_of f is.default,
        goes ∙ ap (λ o. Some (index_of f (or_default is.default o))) e,
        record { there = subst (In (index_of f is.default)) (sym all) (subst (λ o. In (index_of f (or_default is.default o)) (switch_targets g h)) e there); by = inr (subst (λ o. CasesAre x (goes_by (index_of f) o) gs) e are, default_is gs follows) },
      )
