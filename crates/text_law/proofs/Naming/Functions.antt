-- The planned functions of a module that was read are functions of it, and each function that calls reach from the entry has one plan.
use Rattle.std.proofs.Common.{◌≡◌, ◌<◌, ◌==◌, ◌||◌, ℕ, zero, suc, Bool, true, false, List, [], ◌∷◌, length, filter, find, Some, Contains, inl, inr, refl, sym, ap, ◌∙◌, subst, if◌then◌else◌, arith}
use Rattle.std.specs.Prelude.{◌⊎◌, slice_index, slice_index_or}
use Rattle.std.specs.List.{AllZip, list_any}
use Rattle.std.proofs.lemmas.Bool.Decides.{eqb_tells}
use Rattle.spv_module.specs.State.{ModuleState}
use Rattle.spv_module.specs.declared.inst.Id.{Id as IdOf}
use Rattle.spv_module.specs.declared.inst.Inst.{Inst}
use Rattle.spv_module.specs.declared.inst.Function.{Function}
use Rattle.profile_rules.specs.Calls.{is_call, Calls, Leads, Reaches, ids_of, numbers, HaveOwnIds}
use Rattle.profile_rules.specs.Entry.{function_of}
use Rattle.conformance.specs.Rules.{Options}
use Rattle.module_check.specs.Judged.{IsFine}
use Rattle.module_check.specs.ReadFrom.{IsReadFrom}
use Rattle.module_check.proofs.Causes.{entry_is_function}
use Rattle.module_check.proofs.OfBytes.{own_functions, called_functions, read_is}
use Rattle.name_alloc.specs.Naming.{name_of}
use Rattle.glsl_ast.specs.Tree.{TranslationUnit}
use Rattle.expr_forward.specs.Scope.{Scope}
use Rattle.function_text.specs.Functions.{FunctionPlan, written}
use Rattle.unit_rules.specs.Translation.{IsPlanOf}
use Rattle.unit_rules.specs.Unit.{is_called, called, has_id, source_of, IsUnitOf}
use Rattle.list_law.proofs.Numbers.{same_number, number_same}
use Rattle.agree_law.specs.Blocks.{IsOf}
use Rattle.call_law.specs.Known.{IsFunctionOf}
use Rattle.claim_law.specs.Claimed.{IsIn}

-- functions with ids of their own
abbrev AreOwn : List Function → Type 0
AreOwn [] = Unit {0}
AreOwn (f ∷ fs) = ((g : Function) → IsFunctionOf g fs → g.id.0 ≡ f.id.0 → ⊥) × AreOwn fs

place_of : (fs : List Function) (g : Function) → IsFunctionOf g fs → (k : ℕ) × (k < length fs) × (slice_index (ids_of fs) k ≡ g.id.0)
place_of [] g one = absurd one
place_of (f ∷ fs) g (inl same) = (0, (let some : 0 < suc (length fs) = omega arith in some), ap (λ (x : Function). x.id.0) same)
place_of (f ∷ fs) g (inr one) = let w = place_of fs g one in let less = w.1 in (suc w.0, (let more : suc w.0 < suc (length fs) = omega (arith, less) in more), w.2)

are_own : (fs : List Function) → HaveOwnIds fs → AreOwn fs
are_own [] own = tt
are_own (f ∷ fs) own = (
  λ g one same.
      let w = place_of fs g one in
      let less = w.1 in
      own 0 (suc w.0) (let before : 0 < suc w.0 = omega arith in before) (let more : suc w.0 < suc (length fs) = omega (arith, less) in more) (sym same ∙ sym w.2),
  are_own fs (λ j k before less. own (suc j) (suc k) (let next : suc j < suc k = omega (arith, before) in next) (let more : suc k < suc (length fs) = omega (arith, less) in more)),
)

same_id : (fs : List Function) → AreOwn fs → (f g : Function) → IsFunctionOf f fs → IsFunctionOf g fs → f.id.0 ≡ g.id.0 → f ≡ g
same_id [] own f g a b same = absurd a
same_id (x ∷ fs) own f g (inl a) (inl b) same = sym a ∙ b
same_id (x ∷ fs) own f g (inl a) (inr b) same = absurd (own.0 g b (sym same ∙ ap (λ (y : Function). y.id.0) (sym a)))
same_id (x ∷ fs) own f g (inr a) (inl b) same = absurd (own.0 f a (same ∙ ap (λ (y : Function). y.id.0) (sym b)))
same_id (x ∷ fs) own f g (inr a) (inr b) same = same_id fs own.1 f g a b same

-- what is found by its id, and what has one
pub found_by : (fs : List Function) (n : ℕ) (g : Function) → function_of fs n ≡ Some g → IsFunctionOf g fs × (g.id.0 ≡ n)
found_by [] n g e = cc
found_by (f ∷ fs) n g e = by_test (f.id.0 == n) (eqb_tells f.id.0 n) e (found_by fs n g)
  where
    by_test : (b : Bool) → ((b ≡ true) × (f.id.0 ≡ n)) ⊎ ((b ≡ false) × (f.id.0 ≡ n → ⊥)) → (if b then Some f else function_of fs n) ≡ Some g → (function_of fs n ≡ Some g → IsFunctionOf g fs × (g.id.0 ≡ n)) → IsFunctionOf g (f ∷ fs) × (g.id.0 ≡ n)
    by_test true (inl w) e later = let same : f ≡ g = cc in (inl same, ap (λ (x : Function). x.id.0) (sym same) ∙ w.1)
    by_test true (inr w) e later = cc
    by_test false w e later = let r = later e in (inr r.0, r.1)

found_own : (fs : List Function) → AreOwn fs → (f : Function) → IsFunctionOf f fs → function_of fs f.id.0 ≡ Some f
found_own [] own f one = absurd one
found_own (g ∷ fs) own f (inl same) = by_test (g.id.0 == f.id.0) (eqb_tells g.id.0 f.id.0)
  where
    by_test : (b : Bool) → ((b ≡ true) × (g.id.0 ≡ f.id.0)) ⊎ ((b ≡ false) × (g.id.0 ≡ f.id.0 → ⊥)) → (if b then Some g else function_of fs f.id.0) ≡ Some f
    by_test true w = ap (λ (x : Function). Some x) same
    by_test false (inl w) = cc
    by_test false (inr w) = absurd (w.1 (ap (λ (x : Function). x.id.0) same))
found_own (g ∷ fs) own f (inr one) = by_test (g.id.0 == f.id.0) (eqb_tells g.id.0 f.id.0) (found_own fs own.1 f one)
  where
    by_test : (b : Bool) → ((b ≡ true) × (g.id.0 ≡ f.id.0)) ⊎ ((b ≡ false) × (g.id.0 ≡ f.id.0 → ⊥)) → function_of fs f.id.0 ≡ Some f → (if b then Some g else function_of fs f.id.0) ≡ Some f
    by_test true (inl w) later = absurd (own.0 f one (sym w.1))
    by_test true (inr w) later = cc
    by_test false w later = later

with_id : (fs : List Function) (n k : ℕ) → k < length (ids_of fs) → slice_index_or (ids_of fs) k n ≡ n → (f : Function) × IsFunctionOf f fs × (f.id.0 ≡ n)
with_id [] n k less e = absurd (omega (arith, less))
with_id (f ∷ fs) n zero less e = (f, inl refl, e)
with_id (f ∷ fs) n (suc k) less e = let w = with_id fs n k (let low : k < length (ids_of fs) = omega (arith, less) in low) e in (w.0, inr w.1, w.2)

of_filtered : (test : Function → Bool) (fs : List Function) (f : Function) → IsFunctionOf f (filter test fs) → IsFunctionOf f fs
of_filtered test [] f one = absurd one
of_filtered test (g ∷ fs) f one = by_test (test g) one (of_filtered test fs f)
  where
    by_test : (b : Bool) → IsFunctionOf f (if b then g ∷ filter test fs else filter test fs) → (IsFunctionOf f (filter test fs) → IsFunctionOf f fs) → IsFunctionOf f (g ∷ fs)
    by_test true (inl same) later = inl same
    by_test true (inr rest) later = inr (later rest)
    by_test false rest later = inr (later rest)

in_filtered : (test : Function → Bool) (fs : List Function) (f : Function) → IsFunctionOf f fs → test f ≡ true → IsFunctionOf f (filter test fs)
in_filtered test [] f one on = absurd one
in_filtered test (g ∷ fs) f (inl same) on = by_test (test g) (ap test same ∙ on)
  where
    by_test : (b : Bool) → b ≡ true → IsFunctionOf f (if b then g ∷ filter test fs else filter test fs)
    by_test true e = inl same
    by_test false e = cc
in_filtered test (g ∷ fs) f (inr one) on = by_test (test g) (in_filtered test fs f one on)
  where
    by_test : (b : Bool) → IsFunctionOf f (filter test fs) → IsFunctionOf f (if b then g ∷ filter test fs else filter test fs)
    by_test true later = inr later
    by_test false later = later

-- lists of as many, one by one
zipped : (R : Function → FunctionPlan → Type 0) (fs : List Function) (ps : List FunctionPlan) → AllZip R fs ps → (p : FunctionPlan) → IsIn p ps → (f : Function) × IsFunctionOf f fs × R f p
zipped R [] [] all p among = absurd among
zipped R [] (q ∷ ps) all p among = absurd all
zipped R (f ∷ fs) [] all p among = absurd all
zipped R (f ∷ fs) (q ∷ ps) all p (inl same) = (f, inl refl, subst (R f) same all.0)
zipped R (f ∷ fs) (q ∷ ps) all p (inr among) = let w = zipped R fs ps all.1 p among in (w.0, inr w.1, w.2)

zipped_back : (R : Function → FunctionPlan → Type 0) (fs : List Function) (ps : List FunctionPlan) → AllZip R fs ps → (f : Function) → IsFunctionOf f fs → (p : FunctionPlan) × IsIn p ps × R f p
zipped_back R [] [] all f one = absurd one
zipped_back R [] (q ∷ ps) all f one = absurd all
zipped_back R (g ∷ fs) [] all f one = absurd all
zipped_back R (g ∷ fs) (q ∷ ps) all f (inl same) = (q, inl refl, subst (λ (h : Function). R h q) same all.0)
zipped_back R (g ∷ fs) (q ∷ ps) all f (inr one) = let w = zipped_back R fs ps all.1 f one in (w.0, inr w.1, w.2)

first_that : (test : FunctionPlan → Bool) (ps : List FunctionPlan) (p : FunctionPlan) → IsIn p ps → test p ≡ true → (q : FunctionPlan) × (find test ps ≡ Some q) × IsIn q ps × (test q ≡ true)
first_that test [] p among on = absurd among
first_that test (x ∷ ps) p among on = by_test (test x) refl among (λ rest. first_that test ps p rest on)
  where
    by_test : (b : Bool) → test x ≡ b → (x ≡ p) ⊎ IsIn p ps → (IsIn p ps → (q : FunctionPlan) × (find test ps ≡ Some q) × IsIn q ps × (test q ≡ true)) → (q : FunctionPlan) × ((if b then Some x else find test ps) ≡ Some q) × IsIn q (x ∷ ps) × (test q ≡ true)
    by_test true at here later = (x, refl, inl refl, at)
    by_test false at (inl same) later = let never : true ≡ false = sym on ∙ (ap test (sym same) ∙ at) in cc
    by_test false at (inr rest) later = let w = later rest in (w.0, w.1, inr w.2, w.3)

called_among : (order : List IdOf) (n k : ℕ) → k < length (numbers order) → slice_index_or (numbers order) k n ≡ n → list_any (λ (i : IdOf). i.0 == n) order ≡ true
called_among [] n k less e = absurd (omega (arith, less))
called_among (i ∷ order) n zero less e = here (i.0 == n) (elim (eqb_tells i.0 n) [ inl w ↦ w.0 | inr w ↦ absurd (w.1 e) ])
  where
    here : (b : Bool) → b ≡ true → (b || list_any (λ (j : IdOf). j.0 == n) order) ≡ true
    here true on = refl
    here false on = cc
called_among (i ∷ order) n (suc k) less e = later (i.0 == n) (called_among order n k (let low : k < length (numbers order) = omega (arith, less) in low) e)
  where
    later : (b : Bool) → list_any (λ (j : IdOf). j.0 == n) order ≡ true → (b || list_any (λ (j : IdOf). j.0 == n) order) ≡ true
    later true on = refl
    later false on = on

-- a call of a function
pub contains_call : (is : List Inst) (i : Inst) → IsOf i is → is_call i ≡ true → Contains (filter is_call is) i
contains_call [] i there on = absurd there
contains_call (x ∷ is) i (inl same) on = by_test (is_call x) (ap is_call same ∙ on)
  where
    by_test : (b : Bool) → b ≡ true → Contains (if b then x ∷ filter is_call is else filter is_call is) i
    by_test true e = (0, (let some : 0 < suc (length (filter is_call is)) = omega arith in some), same)
    by_test false e = cc
contains_call (x ∷ is) i (inr there) on = by_test (is_call x) (contains_call is i there on)
  where
    by_test : (b : Bool) → Contains (filter is_call is) i → Contains (if b then x ∷ filter is_call is else filter is_call is) i
    by_test true w = let less = w.1 in (suc w.0, (let more : suc w.0 < suc (length (filter is_call is)) = omega (arith, less) in more), w.2)
    by_test false w = w

module _ (bytes : List ℕ) (m : ModuleState) (o : Options) (read : IsReadFrom bytes m) (fine : IsFine m o) (unit : TranslationUnit) (u : IsUnitOf m o unit) where
  abbrev IsPlan : Function → FunctionPlan → Type 0
  IsPlan = IsPlanOf (source_of m o u.entry) (name_of u.claimed)

  own : AreOwn m.functions
  own = are_own m.functions (own_functions m (read_is bytes m read))

  written_is : (f : Function) (p : FunctionPlan) → IsPlan f p → written p ≡ f
  written_is f p plan = ap (λ (w : Scope). w.setting.function) plan.scope_is

  -- a planned function is one of the module's
  pub function_of_plan : (p : FunctionPlan) → IsIn p u.plans → IsFunctionOf (written p) m.functions
  function_of_plan p among =
      let w = zipped IsPlan (called u.order m.functions) u.plans u.planned p among in
      subst (λ (f : Function). IsFunctionOf f m.functions) (sym (written_is w.0 p w.2)) (of_filtered (is_called u.order) m.functions w.0 w.1)

  pub planned_of : (p : FunctionPlan) → IsIn p u.plans → IsPlan (written p) p
  planned_of p among =
      let w = zipped IsPlan (called u.order m.functions) u.plans u.planned p among in
      subst (λ (f : Function). IsPlan f p) (sym (written_is w.0 p w.2)) w.2

  -- a function whose id is in the order has a plan, which is found by the id
  pub record HasPlan (f : Function) (n : IdOf) : Type 0 where
    pub plan : FunctionPlan
    pub at : find (has_id n) u.plans ≡ Some plan
    pub among : IsIn plan u.plans
    pub of_it : written plan ≡ f

  pub has_plan : (f : Function) (n : IdOf) → IsFunctionOf f m.functions → f.id.0 ≡ n.0 → Contains (numbers u.order) n.0 → HasPlan f n
  has_plan f n one same there =
      let on : is_called u.order f ≡ true = subst (λ (k : ℕ). list_any (λ (i : IdOf). i.0 == k) u.order ≡ true) (sym same) (called_among u.order n.0 there.0 there.1 there.2) in
      let p = zipped_back IsPlan (called u.order m.functions) u.plans u.planned f (in_filtered (is_called u.order) m.functions f one on) in
      let id_of_it : (written p.0).id.0 ≡ n.0 = ap (λ (g : Function). g.id.0) (written_is f p.0 p.2) ∙ same in
      let q = first_that (has_id n) u.plans p.0 p.1 (number_same (written p.0).id.0 n.0 id_of_it) in
      record {
        plan = q.0;
        at = q.1;
        among = q.2;
        of_it = same_id m.functions own (written q.0) f (function_of_plan q.0 q.2) one (same_number (written q.0).id.0 n.0 q.3 ∙ sym same);
      }

  -- and calls reach only functions of the module
  pub reached_function : (n : ℕ) → Reaches (Calls m.functions) u.entry n → (f : Function) × IsFunctionOf f m.functions × (f.id.0 ≡ n)
  reached_function n way = by_steps way.0 way.1
    where
      by_steps : (k : ℕ) → Leads (Calls m.functions) k u.entry n → (f : Function) × IsFunctionOf f m.functions × (f.id.0 ≡ n)
      by_steps zero same =
          let there = entry_is_function m o u.entry fine.declared u.is_entry in
          let w = with_id m.functions u.entry there.0 there.1 there.2 in
          (w.0, w.1, w.2 ∙ same)
      by_steps (suc k) step =
          let there = called_functions m (read_is bytes m read) fine.typed.unbroken step.0 n step.2 in
          with_id m.functions n there.0 there.1 there.2

  -- what a function of it calls is one
  pub called_function : (f n : ℕ) → Calls m.functions f n → (g : Function) × IsFunctionOf g m.functions × (g.id.0 ≡ n)
  called_function f n calls = let there = called_functions m (read_is bytes m read) fine.typed.unbroken f n calls in with_id m.functions n there.0 there.1 there.2

  pub function_found : (f : Function) → IsFunctionOf f m.functions → function_of m.functions f.id.0 ≡ Some f
  function_found f one = found_own m.functions own f one

  pub one_with : (f g : Function) → IsFunctionOf f m.functions → IsFunctionOf g m.functions → f.id.0 ≡ g.id.0 → f ≡ g
  one_with = same_id m.functions own
