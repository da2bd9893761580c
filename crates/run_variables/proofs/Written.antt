-- A variable with another part.
use Rattle.std.proofs.Common.{◌≡◌, ◌==◌, ℕ, Bool, true, false, cond, List, refl, ap, sym, ◌∙◌, arith}
use Rattle.std.specs.Prelude.{Option, Some, None, option_map, option_and_then, if◌then◌else◌}
use Rattle.std.specs.BTreeMap.{BTreeMap, get, is_at}
use Rattle.std.specs.Ordering.{nat_cmp}
use Rattle.std.proofs.lemmas.Bool.Decides.{nat_tests}
use Rattle.spv_module.specs.declared.tree.Value.{Value}
use Rattle.spv_types.specs.Tree.{ValueTree}
use Rattle.spv_types.specs.View.{value_of}
use Rattle.op_semantics.specs.Composite.{inserted}
use Rattle.module_semantics.specs.State.{put}
use Rattle.run_state.specs.Ids.{variables_of}
use Rattle.run_variables.specs.Stored.{HasStored}

at_is : (a b : ℕ) → is_at (nat_cmp a) b ≡ (b == a)
at_is a b = grind (arith, nat_tests)

same_key : (a b : ℕ) → (b == a) ≡ true → b ≡ a
same_key a b e = grind (arith, nat_tests, e)

put_at : (f : ℕ → Option Value) (id q : ℕ) (y : Value) (b : Bool) → option_map value_of (cond b (Some y) (f q)) ≡ (elim b as (λ x. Option ValueTree) [ true ↦ Some (value_of y) | false ↦ option_map value_of (f q) ])
put_at f id q y true = refl
put_at f id q y false = refl

written : (old new : BTreeMap ℕ Value) (id : ℕ) (y : Value) → ((q : ℕ) → get nat_cmp new q ≡ cond (is_at (nat_cmp id) q) (Some y) (get nat_cmp old q)) → (q : ℕ) → variables_of new q ≡ put (variables_of old) id (value_of y) q
written old new id y set q = ap (option_map value_of) (set q ∙ ap (λ b. cond b (Some y) (get nat_cmp old q)) (at_is id q)) ∙ put_at (get nat_cmp old) id q y (q == id)

put_back : (f : ℕ → Option ValueTree) (id : ℕ) (w : ValueTree) (q : ℕ) → f id ≡ Some w → (b : Bool) → (b ≡ true → q ≡ id) → (elim b as (λ x. Option ValueTree) [ true ↦ Some w | false ↦ f q ]) ≡ f q
put_back f id w q there true key = sym (ap f (key refl) ∙ there)
put_back f id w q there false key = refl

pub stored : (old new : BTreeMap ℕ Value) (id : ℕ) (x y : Value) (path : List ℕ) (v : ValueTree) (r : Bool) → get nat_cmp old id ≡ Some x → ((q : ℕ) → get nat_cmp new q ≡ cond (is_at (nat_cmp id) q) (Some y) (get nat_cmp old q)) → (if r then Some (value_of y) else None) ≡ inserted v path (value_of x) → (r ≡ false → value_of y ≡ value_of x) → HasStored (variables_of old) (variables_of new) id path v r
stored old new id x y path v true found set done kept = (value_of y, (ap (λ o. option_and_then (inserted v path) (option_map value_of o)) found ∙ sym done, written old new id y set))
stored old new id x y path v false found set done kept = (
  ap (λ o. option_and_then (inserted v path) (option_map value_of o)) found ∙ sym done,
  λ q. written old new id y set q
      ∙ ap (λ w. put (variables_of old) id w q) (kept refl)
      ∙ put_back (variables_of old) id (value_of x) q (ap (option_map value_of) found) (q == id) (same_key id q),
)
