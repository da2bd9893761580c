-- The tree of a module's text is one: the module and the options determine it.
use Rattle.std.proofs.Common.{◌≡◌, ℕ, List, Option, None, Some, IsSomeAnd, map, ap, sym, ◌∙◌, subst}
use Rattle.std.specs.List.{All, AllZip}
use Rattle.std.proofs.lemmas.List.Elements.{All-filter}
use Rattle.spv_module.specs.State.{ModuleState}
use Rattle.spv_module.specs.declared.inst.Id.{Id}
use Rattle.spv_module.specs.declared.inst.Inst.{Inst}
use Rattle.spv_decor.specs.Rows.{word}
use Rattle.profile_rules.specs.Entry.{chosen}
use Rattle.profile_rules.specs.Calls.{IsCallOrder, numbers}
use Rattle.conformance.specs.Rules.{Options}
use Rattle.module_check.specs.ReadFrom.{IsReadFrom}
use Rattle.module_check.specs.Judged.{IsEntry, IsFine}
use Rattle.module_check.specs.Structure.{IsStructured}
use Rattle.module_check.proofs.Causes.{entry_is_function}
use Rattle.module_check.proofs.OfBytes.{own_functions, called_functions, read_is}
use Rattle.name_alloc.specs.declared.claims.Claim.{Claim}
use Rattle.name_alloc.specs.Naming.{name_of}
use Rattle.glsl_ast.specs.Tree.{TranslationUnit}
use Rattle.glsl_grammar.specs.Layout.{unit_text as laid_out}
use Rattle.text_rules.specs.Constants.{Source}
use Rattle.text_rules.specs.Claims.{claims}
use Rattle.text_items.specs.View.{claims_of}
use Rattle.function_text.specs.Functions.{FunctionPlan}
use Rattle.unit_rules.specs.Translation.{IsPlanOf}
use Rattle.unit_rules.specs.Unit.{unit_text, item_names_of, claims_by, reached_of, is_called, called, in_order, source_of, IsUnitOf}
use Rattle.unit_rules.specs.Text.{IsTranslationOf}
use Rattle.text_law.proofs.One.Names.{names_one}
use Rattle.text_law.proofs.One.Orders.{order_one}
use Rattle.text_law.proofs.One.Plans.{plans_one, all_alike, claims_same, reached_same}

-- the entry is one
entry_one : (m : ModuleState) (o : Options) (a b : ℕ) → IsEntry m o a → IsEntry m o b → a ≡ b
entry_one m o a b v w = by_choice (chosen o.entry m.heads) v w
  where
    by_choice : (c : Option Inst) → IsSomeAnd c (λ (i : Inst). a ≡ word i 1) → IsSomeAnd c (λ (i : Inst). b ≡ word i 1) → a ≡ b
    by_choice None v w = absurd v
    by_choice (Some i) v w = v ∙ sym w

-- what is claimed for plans by an entry
abbrev ClaimsOf : ModuleState → Options → ℕ → List FunctionPlan → List Claim → Type 0
ClaimsOf m o entry plans claimed = claims_of claimed ≡ claims (source_of m o entry) (reached_of (source_of m o entry) plans) (map (claims_by (source_of m o entry)) plans)

abbrev PlansOf : ModuleState → Options → ℕ → List Id → List FunctionPlan → List Claim → Type 0
PlansOf m o entry order plans claimed = AllZip (IsPlanOf (source_of m o entry) (name_of claimed)) (called order m.functions) plans

abbrev text_by : ModuleState → Options → ℕ → List Id → List FunctionPlan → List Claim → TranslationUnit
text_by m o entry order plans claimed = unit_text (source_of m o entry) (reached_of (source_of m o entry) plans) (item_names_of (source_of m o entry) (name_of claimed)) (in_order order plans)

module _ (m : ModuleState) (o : Options) (structured : All IsStructured m.functions) (entry : ℕ) (order : List Id) (ps qs : List FunctionPlan) (cs ds : List Claim)
    (claimed : ClaimsOf m o entry ps cs) (others : ClaimsOf m o entry qs ds) (planned : PlansOf m o entry order ps cs) (apart : PlansOf m o entry order qs ds) where
  abbrev S : Source
  S = source_of m o entry

  text_one : text_by m o entry order ps cs ≡ text_by m o entry order qs ds
  text_one =
      let all = all_alike S (name_of cs) (name_of ds) (called order m.functions) ps qs planned apart in
      let same = claims_same S ps qs all in
      let reached = reached_same S ps qs all in
      let both : claims S (reached_of S ps) (map (claims_by S) ps) ≡ claims S (reached_of S qs) (map (claims_by S) qs) = λ i. claims S (reached i) (same i) in
      let names = names_one cs ds (claimed ∙ (both ∙ sym others)) in
      let right = All-filter (is_called order) IsStructured m.functions structured in
      let plans = plans_one S (name_of cs) (called order m.functions) ps qs right planned (subst (λ found. AllZip (IsPlanOf S found) (called order m.functions) qs) (sym names) apart) in
      λ i. unit_text S (reached i) (item_names_of S (names i)) (in_order order (plans i))

-- two trees of the text of a module that was read and is not refused are one
pub one_tree : (bytes : List ℕ) (m : ModuleState) (o : Options) → IsReadFrom bytes m → IsFine m o → (t u : TranslationUnit) → IsUnitOf m o t → IsUnitOf m o u → t ≡ u
one_tree bytes m o read fine t u v w =
    let entry = entry_one m o v.entry w.entry v.is_entry w.is_entry in
    let calls = subst (λ e. IsCallOrder m.functions e (numbers w.order)) (sym entry) w.calls in
    let order = order_one m.functions v.entry (own_functions m (read_is bytes m read)) (called_functions m (read_is bytes m read) fine.typed.unbroken) (entry_is_function m o v.entry fine.declared v.is_entry) v.order w.order v.calls calls in
    let claimed = subst (λ e. ClaimsOf m o e w.plans w.claimed) (sym entry) w.claims_are in
    let planned = subst (λ e. PlansOf m o e v.order w.plans w.claimed) (sym entry) (subst (λ l. PlansOf m o w.entry l w.plans w.claimed) (sym order) w.planned) in
    let moved : text_by m o v.entry v.order w.plans w.claimed ≡ text_by m o w.entry w.order w.plans w.claimed = λ i. text_by m o (entry i) (order i) w.plans w.claimed in
    v.unit_is
    ∙ (text_one m o fine.later.structure v.entry v.order v.plans w.plans v.claimed w.claimed v.claims_are claimed v.planned planned
    ∙ (moved ∙ sym w.unit_is))

-- so two texts that are laid out of such trees are the same, byte for byte
pub one_text : (bytes : List ℕ) (m : ModuleState) (o : Options) → IsReadFrom bytes m → IsFine m o → (t u : TranslationUnit) → IsTranslationOf m o t → IsTranslationOf m o u → (a b : List ℕ) → a ≡ laid_out t → b ≡ laid_out u → a ≡ b
one_text bytes m o read fine t u v w a b is are = is ∙ (ap laid_out (one_tree bytes m o read fine t u v.translated w.translated) ∙ sym are)
