-- Variables of calls under way. The program keeps the call that began first as the first, and a pointer counts from there.
use Rattle.std.proofs.Common.{◌≡◌, ◌==◌, ◌<◌, ◌≤◌, ℕ, zero, suc, Bool, true, false, List, [], ◌∷◌, ◌++◌, refl, ap, sym, subst, ◌∙◌, arith, get_or, length}
use Rattle.std.specs.Prelude.{Option, Some, None, option_map, option_and_then, slice_get, slice_set}
use Rattle.std.specs.BTreeMap.{BTreeMap}
use Rattle.std.proofs.lemmas.Bool.Decides.{nat_tests}
use Rattle.std.proofs.lemmas.List.{length-append}
use Rattle.std.proofs.lemmas.Option.{slice_get-get_or, slice_get_past}
use Rattle.spv_module.specs.declared.inst.Function.{Function}
use Rattle.spv_module.specs.declared.tree.Value.{Value}
use Rattle.spv_types.specs.Tree.{ValueTree}
use Rattle.op_semantics.specs.Composite.{inserted}
use Rattle.module_semantics.specs.State as state
use Rattle.module_semantics.specs.State.{call_at, with_call, with_variable}
use Rattle.module_semantics.specs.Accesses.{with_lent}
use Rattle.run_state.specs.declared.conf.Frame.{Frame}
use Rattle.run_state.specs.declared.conf.Conf.{Conf}
use Rattle.run_state.specs.Ids.{variables_of}
use Rattle.run_state.specs.Confs.{frame_of, calls_of, conf_of}
use Rattle.run_variables.specs.Stored.{HasStored, HasKept}

longer : (bs : List (state.Frame × ℕ)) (y : state.Frame × ℕ) → (length (bs ++ y ∷ []) == 0) ≡ false
longer bs y = grind (arith, nat_tests, length-append bs (y ∷ []))

as_long : (bs : List (state.Frame × ℕ)) (y : state.Frame × ℕ) (d : ℕ) → (length (bs ++ y ∷ []) == suc d) ≡ (length bs == d)
as_long bs y d = grind (arith, nat_tests, length-append bs (y ∷ []))

none_below : (d : ℕ) → (0 == suc d) ≡ false
none_below d = grind (arith, nat_tests)

at_last : (xs : List (state.Frame × ℕ)) (y : state.Frame × ℕ) → call_at 0 (xs ++ y ∷ []) ≡ Some y.0
at_last [] y = refl
at_last (b ∷ bs) y = ap (λ t. elim t as (λ x. Option state.Frame) [ true ↦ Some b.0 | false ↦ call_at 0 (bs ++ y ∷ []) ]) (longer bs y) ∙ at_last bs y

at_before : (d : ℕ) (xs : List (state.Frame × ℕ)) (y : state.Frame × ℕ) → call_at (suc d) (xs ++ y ∷ []) ≡ call_at d xs
at_before d [] y = ap (λ t. elim t as (λ x. Option state.Frame) [ true ↦ Some y.0 | false ↦ None ]) (none_below d)
at_before d (b ∷ bs) y =
    ap (λ t. elim t as (λ x. Option state.Frame) [ true ↦ Some b.0 | false ↦ call_at (suc d) (bs ++ y ∷ []) ]) (as_long bs y d)
    ∙ ap (λ o. elim (length bs == d) as (λ x. Option state.Frame) [ true ↦ Some b.0 | false ↦ o ]) (at_before d bs y)

-- the call below which so many stand is the one with that number
called : (fs : List Function) (cs : List (Frame × ℕ)) (d : ℕ) → call_at d (calls_of fs cs) ≡ option_map (λ (c : Frame × ℕ). frame_of fs c.0) (slice_get cs d)
called fs [] d = refl
called fs (c ∷ cs) zero = at_last (calls_of fs cs) (frame_of fs c.0, c.1)
called fs (c ∷ cs) (suc d) = at_before d (calls_of fs cs) (frame_of fs c.0, c.1) ∙ called fs cs d

pub called_at : (fs : List Function) (cs : List (Frame × ℕ)) (d : ℕ) (c : Frame × ℕ) → c ≡ get_or cs d c → d < length cs → call_at d (calls_of fs cs) ≡ Some (frame_of fs c.0)
called_at fs cs d c is inside = called fs cs d ∙ ap (option_map (λ (c : Frame × ℕ). frame_of fs c.0)) (slice_get-get_or cs d c inside ∙ ap Some (sym is))

pub called_past : (fs : List Function) (cs : List (Frame × ℕ)) (d : ℕ) → length cs ≤ d → call_at d (calls_of fs cs) ≡ None
called_past fs cs d past = called fs cs d ∙ ap (option_map (λ (c : Frame × ℕ). frame_of fs c.0)) (slice_get_past cs d past)

with_last : (f : state.Frame) (xs : List (state.Frame × ℕ)) (y : state.Frame × ℕ) → with_call 0 f (xs ++ y ∷ []) ≡ xs ++ (f, y.1) ∷ []
with_last f [] y = refl
with_last f (b ∷ bs) y =
    ap (λ t. elim t as (λ x. List (state.Frame × ℕ)) [ true ↦ (f, b.1) ∷ (bs ++ y ∷ []) | false ↦ b ∷ with_call 0 f (bs ++ y ∷ []) ]) (longer bs y) ∙ ap (λ l. b ∷ l) (with_last f bs y)

by_test : (t : Bool) (f : state.Frame) (b y : state.Frame × ℕ) (bs more less : List (state.Frame × ℕ)) → more ≡ less ++ y ∷ [] → (elim t as (λ x. List (state.Frame × ℕ)) [ true ↦ (f, b.1) ∷ (bs ++ y ∷ []) | false ↦ b ∷ more ]) ≡ (elim t as (λ x. List (state.Frame × ℕ)) [ true ↦ (f, b.1) ∷ bs | false ↦ b ∷ less ]) ++ y ∷ []
by_test true f b y bs more less e = refl
by_test false f b y bs more less e = ap (λ l. b ∷ l) e

with_before : (d : ℕ) (f : state.Frame) (xs : List (state.Frame × ℕ)) (y : state.Frame × ℕ) → with_call (suc d) f (xs ++ y ∷ []) ≡ with_call d f xs ++ y ∷ []
with_before d f [] y = ap (λ t. elim t as (λ x. List (state.Frame × ℕ)) [ true ↦ (f, y.1) ∷ [] | false ↦ y ∷ [] ]) (none_below d)
with_before d f (b ∷ bs) y =
    ap (λ t. elim t as (λ x. List (state.Frame × ℕ)) [ true ↦ (f, b.1) ∷ (bs ++ y ∷ []) | false ↦ b ∷ with_call (suc d) f (bs ++ y ∷ []) ]) (as_long bs y d)
    ∙ by_test (length bs == d) f b y bs (with_call (suc d) f (bs ++ y ∷ [])) (with_call d f bs) (with_before d f bs y)

replaced : (fs : List Function) (cs : List (Frame × ℕ)) (d : ℕ) (g : Frame) (c : Frame × ℕ) → c ≡ get_or cs d c → d < length cs → calls_of fs (slice_set cs d (g, c.1)) ≡ with_call d (frame_of fs g) (calls_of fs cs)
replaced fs [] d g c is inside = absurd (omega arith)
replaced fs (x ∷ cs) zero g c is inside =
    ap (λ (y : Frame × ℕ). calls_of fs cs ++ (frame_of fs g, y.1) ∷ []) is ∙ sym (with_last (frame_of fs g) (calls_of fs cs) (frame_of fs x.0, x.1))
replaced fs (x ∷ cs) (suc d) g c is inside =
    ap (λ l. l ++ (frame_of fs x.0, x.1) ∷ []) (replaced fs cs d g c is (omega arith)) ∙ sym (with_before d (frame_of fs g) (calls_of fs cs) (frame_of fs x.0, x.1))

same_calls : (fs : List Function) (cs : List (Frame × ℕ)) (d : ℕ) (g : Frame) (c : Frame × ℕ) → c ≡ get_or cs d c → d < length cs → frame_of fs g ≡ frame_of fs c.0 → calls_of fs (slice_set cs d (g, c.1)) ≡ calls_of fs cs
same_calls fs [] d g c is inside same = absurd (omega arith)
same_calls fs (x ∷ cs) zero g c is inside same =
    ap (λ f. calls_of fs cs ++ (f, c.1) ∷ []) same ∙ ap (λ (y : Frame × ℕ). calls_of fs cs ++ (frame_of fs y.0, y.1) ∷ []) is
same_calls fs (x ∷ cs) (suc d) g c is inside same = ap (λ l. l ++ (frame_of fs x.0, x.1) ∷ []) (same_calls fs cs d g c is (omega arith) same)

lent_kept : (fs : List Function) (old : Conf) (d id : ℕ) (c : Frame × ℕ) (m : BTreeMap ℕ Value) (path : List ℕ) (v : ValueTree) (r : Bool) → c ≡ get_or old.below.items d c → d < length old.below.items → HasStored (variables_of c.0.variables) (variables_of m) id path v r
    → HasKept (conf_of fs old) (record (conf_of fs old) { below = calls_of fs (slice_set old.below.items d (record c.0 { variables = m }, c.1)) }) (state.lent d id) path v r
lent_kept fs old d id c m path v true is inside h =
    let at : call_at d (calls_of fs old.below.items) ≡ Some (frame_of fs c.0) = called_at fs old.below.items d c is inside in
    let frame : frame_of fs (record c.0 { variables = m }) ≡ with_variable id h.0 (frame_of fs c.0) = λ i. record (frame_of fs c.0) { variables = λ q. h.1.1 q i } in (
      h.0,
      (
        ap (λ o. option_and_then (inserted v path) (option_and_then (λ (f : state.Frame). f.variables id) o)) at ∙ h.1.0,
        ap (λ l. record (conf_of fs old) { below = l }) (replaced fs old.below.items d (record c.0 { variables = m }) c is inside ∙ ap (λ f. with_call d f (calls_of fs old.below.items)) frame)
            ∙ sym (ap (with_lent d id h.0 (conf_of fs old)) at),
      ),
    )
lent_kept fs old d id c m path v false is inside h =
    let at : call_at d (calls_of fs old.below.items) ≡ Some (frame_of fs c.0) = called_at fs old.below.items d c is inside in
    let frame : frame_of fs (record c.0 { variables = m }) ≡ frame_of fs c.0 = λ i. record (frame_of fs c.0) { variables = λ q. h.1 q i } in (
      ap (λ o. option_and_then (inserted v path) (option_and_then (λ (f : state.Frame). f.variables id) o)) at ∙ h.0,
      ap (λ l. record (conf_of fs old) { below = l }) (same_calls fs old.below.items d (record c.0 { variables = m }) c is inside frame),
    )

pub lent_kept_by : (fs : List Function) (old : Conf) (s : state.Root) (d id : ℕ) (c : Frame × ℕ) (m : BTreeMap ℕ Value) (path : List ℕ) (v : ValueTree) (r : Bool) → s ≡ state.lent d id → c ≡ get_or old.below.items d c → d < length old.below.items → HasStored (variables_of c.0.variables) (variables_of m) id path v r
    → HasKept (conf_of fs old) (record (conf_of fs old) { below = calls_of fs (slice_set old.below.items d (record c.0 { variables = m }, c.1)) }) s path v r
lent_kept_by fs old s d id c m path v r root is inside h =
    let P : state.Root → Type 0 = λ s. HasKept (conf_of fs old) (record (conf_of fs old) { below = calls_of fs (slice_set old.below.items d (record c.0 { variables = m }, c.1)) }) s path v r in
    subst P (sym root) (lent_kept fs old d id c m path v r is inside h)
