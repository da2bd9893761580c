-- The truth values of a vector, one after the other.
use Rattle.std.proofs.Common.{◌≡◌, ◌<◌, ◌≤◌, ◌+◌, ℕ, Bool, true, false, List, [], refl, ap, sym, ◌∙◌, add-one, map, length, drop, get_or}
use Rattle.std.specs.Prelude.{Option, Some, None, option_map}
use Rattle.std.proofs.Math.Seq.{drop-cons}
use Rattle.std.proofs.Math.ListN.{drop_of_length-le}
use Rattle.spv_module.specs.declared.tree.Value.{Value}
use Rattle.spv_types.specs.Tree.{truth, many, values_in}
use Rattle.spv_types.specs.View.{value_of}
use Rattle.op_semantics.specs.Component.{before, each_one}
use Rattle.op_semantics.specs.Composite.{as_truth, over_truths}
use Rattle.value_ops.specs.declared.truths.Quantity.{Quantity}
use Rattle.value_ops.specs.declared.truths.Quantity.TheVariants as quantity
use Rattle.value_ops.specs.Quantity.{over, of_none, with_next}
use Rattle.value_ops.proofs.Lists.{listed_values}

-- the truth values from a place on
abbrev pub truths_from : List Value → ℕ → Option (List Bool)
truths_from vs i = each_one as_truth (map value_of (drop i vs))

from_next : (vs : List Value) (i : ℕ) (d : Value) → i < length vs → truths_from vs i ≡ before (as_truth (value_of (get_or vs i d))) (truths_from vs (i + 1))
from_next vs i d inside = ap (λ l. each_one as_truth (map value_of l)) (drop-cons vs i d inside) ∙ ap (λ n. before (as_truth (value_of (get_or vs i d))) (truths_from vs n)) (sym (add-one i))

from_end : (vs : List Value) (i : ℕ) → length vs ≤ i → truths_from vs i ≡ Some []
from_end vs i past = ap (λ l. each_one as_truth (map value_of l)) (drop_of_length-le vs past)

-- what is known of the truth values before, and these
abbrev pub known_with : Quantity → Bool → List Bool → Bool
known_with q known bs = with_next q known (over q bs)

none_before : (q : Quantity) (bs : List Bool) → known_with q (of_none q) bs ≡ over q bs
none_before quantity.Any bs = refl
none_before quantity.All bs = refl

pub known_start : (q : Quantity) (o : Option (List Bool)) → option_map (known_with q (of_none q)) o ≡ option_map (over q) o
known_start q None = refl
known_start q (Some bs) = ap Some (none_before q bs)

next_step : (q : Quantity) (known b : Bool) (o : Option (List Bool)) → option_map (known_with q (with_next q known b)) o ≡ option_map (known_with q known) (before (Some b) o)
next_step quantity.Any known b None = refl
next_step quantity.All known b None = refl
next_step quantity.Any true b (Some bs) = refl
next_step quantity.Any false b (Some bs) = refl
next_step quantity.All true b (Some bs) = refl
next_step quantity.All false b (Some bs) = refl

pub known_more : (q : Quantity) (vs : List Value) (i : ℕ) (v : Value) (known b : Bool) → v ≡ get_or vs i v → i < length vs → Some b ≡ as_truth (value_of v) → option_map (known_with q (with_next q known b)) (truths_from vs (i + 1)) ≡ option_map (known_with q known) (truths_from vs i)
known_more q vs i v known b is inside told =
    next_step q known b (truths_from vs (i + 1))
    ∙ sym (ap (option_map (known_with q known)) (from_next vs i v inside ∙ ap (λ x. before (as_truth (value_of x)) (truths_from vs (i + 1))) (sym is) ∙ ap (λ o. before o (truths_from vs (i + 1))) (sym told)))

-- where one is no truth value there is no answer
pub none_at : (f : List Bool → Bool) (vs : List Value) (i : ℕ) (v : Value) → v ≡ get_or vs i v → i < length vs → None ≡ as_truth (value_of v) → option_map f (truths_from vs i) ≡ None
none_at f vs i v is inside none =
    ap (option_map f) (from_next vs i v inside ∙ ap (λ x. before (as_truth (value_of x)) (truths_from vs (i + 1))) (sym is) ∙ ap (λ o. before o (truths_from vs (i + 1))) (sym none))

known_nil : (q : Quantity) (known : Bool) → known_with q known [] ≡ known
known_nil quantity.Any true = refl
known_nil quantity.Any false = refl
known_nil quantity.All true = refl
known_nil quantity.All false = refl

pub known_end : (q : Quantity) (vs : List Value) (i : ℕ) (known : Bool) → length vs ≤ i → option_map (known_with q known) (truths_from vs i) ≡ Some known
known_end q vs i known past = ap (option_map (known_with q known)) (from_end vs i past) ∙ ap Some (known_nil q known)

pub ruleset over_rules = (known_start, known_more, none_at, known_end)

pub over_values : (f : List Bool → Bool) (vs : List Value) → over_truths f (many (values_in (map value_of vs))) ≡ option_map (λ bs. truth (f bs)) (each_one as_truth (map value_of vs))
over_values f vs = ap (λ l. option_map (λ bs. truth (f bs)) (each_one as_truth l)) (listed_values (map value_of vs))
