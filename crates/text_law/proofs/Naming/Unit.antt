-- The functions of a module's text are those of its plans, in the order of calls, each with a name of its own.
use Rattle.std.proofs.Common.{◌≡◌, ◌≢◌, ◌<◌, ◌==◌, ◌++◌, ℕ, suc, Bool, true, false, List, [], ◌∷◌, length, map, reverse, Option, Some, None, inl, inr, refl, sym, ap, ◌∙◌, subst, if◌then◌else◌, arith}
use Rattle.std.specs.Prelude.{◌⊎◌, find, slice_index, take, Contains, option_to_list}
use Rattle.std.proofs.lemmas.Bool.Decides.{eqb_tells}
use Rattle.std.proofs.lemmas.List.{reverse-append}
use Rattle.spv_module.specs.State.{ModuleState}
use Rattle.spv_module.specs.declared.inst.Id.{Id as IdOf}
use Rattle.spv_module.specs.declared.inst.Function.{Function}
use Rattle.conformance.specs.Rules.{Options}
use Rattle.profile_rules.specs.Calls.{numbers}
use Rattle.traces.specs.Invocations.{Invocation}
use Rattle.name_alloc.specs.declared.claims.Key.{Key}
use Rattle.name_alloc.specs.declared.claims.Key.TheVariants.{Main, Id}
use Rattle.name_alloc.specs.Naming.{space_of}
use Rattle.glsl_ast.specs.Tree.{Text, Decl, TranslationUnit}
use Rattle.text_rules.specs.Declarations.{declarations}
use Rattle.expr_forward.specs.Scope.{Scope}
use Rattle.function_text.specs.Functions.{FunctionPlan, written, function_key, function_name, function_decl}
use Rattle.unit_rules.specs.Translation.{text_of, IsPlanOf}
use Rattle.unit_rules.specs.Unit.{item_names_of, called, has_id, in_order, source_of, IsUnitOf}
use Rattle.list_law.proofs.Lists.{map_joined, map_twice, contains_head, contains_tail}
use Rattle.list_law.proofs.Tests.{no_flip}
use Rattle.function_law.specs.Texts.{FunctionText, decl_of, IsNoName, AreOnceNames}
use Rattle.claim_law.specs.Claimed.{IsIn, HasName}
use Rattle.claim_law.proofs.Claim.Keys.{main_claimed}
use Rattle.claim_law.proofs.Claim.Named.{Plans, has_name_of, function_named}
use Rattle.claim_law.proofs.Claim.Told.{named_is}
use Rattle.claim_law.proofs.Claim.Flags.{planned_as}
use Rattle.text_law.specs.Names.{text_of_plan}
use Rattle.text_law.proofs.Naming.Keys.{S, found as names_found, key as key_of, R}

map_reversed : {A B : Type 0} (f : A → B) (xs : List A) → map f (reverse xs) ≡ reverse (map f xs)
map_reversed f [] = refl
map_reversed f (x ∷ xs) =
    ap (map f) (reverse-append (x ∷ []) xs)
    ∙ (map_joined f (reverse xs) (x ∷ [])
    ∙ (ap (λ l. l ++ f x ∷ []) (map_reversed f xs) ∙ sym (reverse-append (f x ∷ []) (map f xs))))

-- names that are apart in one order are so in the other
no_name_behind : (x : Text) (ts : List FunctionText) (t : FunctionText) → IsNoName x ts → t.name ≢ x → IsNoName x (ts ++ t ∷ [])
no_name_behind x [] t none differ = (differ, tt)
no_name_behind x (u ∷ ts) t none differ = (none.0, no_name_behind x ts t none.1 differ)

no_name_turned : (x : Text) (ts : List FunctionText) → IsNoName x ts → IsNoName x (reverse ts)
no_name_turned x [] none = tt
no_name_turned x (t ∷ ts) none = subst (IsNoName x) (sym (reverse-append (t ∷ []) ts)) (no_name_behind x (reverse ts) t (no_name_turned x ts none.1) none.0)

once_behind : (ts : List FunctionText) (t : FunctionText) → AreOnceNames ts → IsNoName t.name ts → AreOnceNames (ts ++ t ∷ [])
once_behind [] t once none = (tt, tt)
once_behind (u ∷ ts) t once none = (no_name_behind u.name ts t once.0 (λ same. none.0 (sym same)), once_behind ts t once.1 none.1)

once_turned : (ts : List FunctionText) → AreOnceNames ts → AreOnceNames (reverse ts)
once_turned [] once = tt
once_turned (t ∷ ts) once = subst AreOnceNames (sym (reverse-append (t ∷ []) ts)) (once_behind (reverse ts) t (once_turned ts once.1) (no_name_turned t.name ts once.0))

-- each stands behind others
abbrev AreFresh : List ℕ → Type 0
AreFresh xs = (k : ℕ) → k < length xs → Contains (take k xs) (slice_index xs k) → ⊥

abbrev NotAmong : ℕ → List ℕ → Type 0
NotAmong x [] = Unit {0}
NotAmong x (y ∷ ys) = (y ≢ x) × NotAmong x ys

abbrev AllApart : List ℕ → Type 0
AllApart [] = Unit {0}
AllApart (x ∷ xs) = NotAmong x xs × AllApart xs

not_first : (x : ℕ) (xs : List ℕ) → ((k : ℕ) → k < length xs → slice_index xs k ≡ x → ⊥) → NotAmong x xs
not_first x [] far = tt
not_first x (y ∷ xs) far = (λ same. far 0 (let some : 0 < suc (length xs) = omega arith in some) same, not_first x xs (λ k less same. far (suc k) (let more : suc k < suc (length xs) = omega (arith, less) in more) same))

all_apart : (xs : List ℕ) → AreFresh xs → AllApart xs
all_apart [] fresh = tt
all_apart (x ∷ xs) fresh = (
  not_first x xs (λ k less same. fresh (suc k) (let more : suc k < suc (length xs) = omega (arith, less) in more) (subst (Contains (x ∷ take k xs)) (sym same) (contains_head x (take k xs)))),
  all_apart xs (λ k less there. fresh (suc k) (let more : suc k < suc (length xs) = omega (arith, less) in more) (contains_tail x (slice_index xs k) (take k xs) there)),
)

-- the key of a function
abbrev key_number : Key → ℕ
key_number (Id n) = n.0
key_number _ = 0

same_function : (entry : ℕ) (a b : IdOf) → function_key entry a ≡ function_key entry b → a.0 ≡ b.0
same_function entry a b e = by_tests (a.0 == entry) (b.0 == entry) (eqb_tells a.0 entry) (eqb_tells b.0 entry) e
  where
    by_tests : (x y : Bool) → ((x ≡ true) × (a.0 ≡ entry)) ⊎ ((x ≡ false) × (a.0 ≡ entry → ⊥)) → ((y ≡ true) × (b.0 ≡ entry)) ⊎ ((y ≡ false) × (b.0 ≡ entry → ⊥)) → (if x then Main else Id a) ≡ (if y then Main else Id b) → a.0 ≡ b.0
    by_tests true true (inl w) (inl v) e = w.1 ∙ sym v.1
    by_tests true y (inr w) v e = no_flip true refl w.0
    by_tests true true (inl w) (inr v) e = no_flip true refl v.0
    by_tests true false w v e = cc
    by_tests false true w v e = cc
    by_tests false false w v e = ap key_number e

function_space : (entry : ℕ) (a : IdOf) → space_of (function_key entry a) ≡ None
function_space entry a = by_test (a.0 == entry)
  where
    by_test : (t : Bool) → space_of (if t then Main else Id a) ≡ None
    by_test true = refl
    by_test false = refl

module _ (m : ModuleState) (o : Options) (unit : TranslationUnit) (u : IsUnitOf m o unit) (inv : Invocation) where
  abbrev found : Key → Option Text
  found = names_found m o unit u inv

  -- the functions of the text, the last one first
  abbrev pub text : FunctionPlan → FunctionText
  text p = text_of_plan (S m o unit u inv) o.overrides (R m o unit u inv) (key_of m o unit u inv) p

  abbrev pub ordered : List FunctionPlan
  ordered = in_order u.order u.plans

  abbrev pub texts : List FunctionText
  texts = reverse (map text ordered)

  abbrev pub items : List Decl
  items = declarations (source_of m o u.entry) (R m o unit u inv) (item_names_of (source_of m o u.entry) found)

  -- stand behind the other items
  pub functions_are : reverse (items ++ map function_decl ordered) ≡ map decl_of texts ++ reverse items
  functions_are = reverse-append items (map function_decl ordered) ∙ ap (λ l. l ++ reverse items) (sym (map_reversed decl_of (map text ordered) ∙ ap reverse (map_twice decl_of text ordered)))

  module _ (p : FunctionPlan) (among : IsIn p u.plans) where
    planned : (f : Function) × IsPlanOf (source_of m o u.entry) found f p
    planned = planned_as (IsPlanOf (source_of m o u.entry) found) (called u.order m.functions) u.plans p u.planned among

    function_is : written p ≡ planned.0
    function_is = ap (λ (w : Scope). w.setting.function) planned.1.scope_is

    name_is : function_name p.scope ≡ text_of found (function_key u.entry (written p).id)
    name_is = ap function_name planned.1.scope_is ∙ ap (λ (f : Function). text_of found (function_key u.entry f.id)) (sym function_is)

    function_has : HasName found (function_key u.entry (written p).id)
    function_has = by_test ((written p).id.0 == u.entry) refl
      where
        by_test : (t : Bool) → ((written p).id.0 == u.entry) ≡ t → HasName found (if t then Main else Id (written p).id)
        by_test true is = has_name_of m o unit u Main (main_claimed (source_of m o u.entry) (R m o unit u inv) (Plans m o unit u))
        by_test false other = function_named m o unit u p among other

    pub named_so : found (function_key u.entry (written p).id) ≡ Some (function_name p.scope)
    named_so = named_is found (function_key u.entry (written p).id) function_has ∙ ap (λ (x : Text). Some x) (sym name_is)

  pub names_differ : (p q : FunctionPlan) → IsIn p u.plans → IsIn q u.plans → (written p).id.0 ≢ (written q).id.0 → function_name p.scope ≢ function_name q.scope
  names_differ p q one two differ same =
      differ (same_function u.entry (written p).id (written q).id
      (u.lawful.apart (function_key u.entry (written p).id) (function_key u.entry (written q).id) (function_name p.scope)
      (function_space u.entry (written p).id ∙ sym (function_space u.entry (written q).id)) (named_so p one) (named_so q two ∙ ap (λ (x : Text). Some x) (sym same))))

  -- a plan in the order is one of the plans, with the number there
  pub found_plan : (ps : List FunctionPlan) (n : IdOf) (p : FunctionPlan) → find (has_id n) ps ≡ Some p → IsIn p ps × ((written p).id.0 ≡ n.0)
  found_plan [] n p e = cc
  found_plan (q ∷ ps) n p e = by_test (has_id n q) (eqb_tells (written q).id.0 n.0) e (found_plan ps n p)
    where
      by_test : (t : Bool) → ((t ≡ true) × ((written q).id.0 ≡ n.0)) ⊎ ((t ≡ false) × ((written q).id.0 ≡ n.0 → ⊥)) → (if t then Some q else find (has_id n) ps) ≡ Some p → (find (has_id n) ps ≡ Some p → IsIn p ps × ((written p).id.0 ≡ n.0)) → IsIn p (q ∷ ps) × ((written p).id.0 ≡ n.0)
      by_test true (inl w) e later = let same : q ≡ p = cc in (inl same, ap (λ (x : FunctionPlan). (written x).id.0) (sym same) ∙ w.1)
      by_test true (inr w) e later = no_flip true refl w.0
      by_test false w e later = let r = later e in (inr r.0, r.1)

  no_later : (p : FunctionPlan) (order : List IdOf) → IsIn p u.plans → NotAmong (written p).id.0 (numbers order) → IsNoName (function_name p.scope) (map text (in_order order u.plans))
  no_later p [] one none = tt
  no_later p (n ∷ order) one none = by_plan (find (has_id n) u.plans) refl (no_later p order one none.1)
    where
      by_plan : (q : Option FunctionPlan) → find (has_id n) u.plans ≡ q → IsNoName (function_name p.scope) (map text (in_order order u.plans)) → IsNoName (function_name p.scope) (map text (option_to_list q ++ in_order order u.plans))
      by_plan None at later = later
      by_plan (Some q) at later = let w = found_plan u.plans n q at in (names_differ q p w.0 one (λ same. none.0 (sym w.1 ∙ same)), later)

  once_from : (order : List IdOf) → AllApart (numbers order) → AreOnceNames (map text (in_order order u.plans))
  once_from [] apart = tt
  once_from (n ∷ order) apart = by_plan (find (has_id n) u.plans) refl (once_from order apart.1)
    where
      by_plan : (q : Option FunctionPlan) → find (has_id n) u.plans ≡ q → AreOnceNames (map text (in_order order u.plans)) → AreOnceNames (map text (option_to_list q ++ in_order order u.plans))
      by_plan None at later = later
      by_plan (Some q) at later = let w = found_plan u.plans n q at in (no_later q order w.0 (subst (λ (k : ℕ). NotAmong k (numbers order)) (sym w.1) apart.0), later)

  -- no two of them have one name
  pub once_named : AreOnceNames texts
  once_named = once_turned (map text ordered) (once_from u.order (all_apart (numbers u.order) (λ k less there. (u.calls.next k less).ready.unlisted there)))
