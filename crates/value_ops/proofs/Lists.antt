-- Lists of components, and operations on each of them.
use Rattle.std.proofs.Common.{◌≡◌, suc, List, [], ◌∷◌, refl, ap, sym, ◌∙◌, map, length}
use Rattle.std.specs.Prelude.{Option, Some, None, option_map}
use Rattle.std.proofs.lemmas.List.{length-map}
use Rattle.spv_module.specs.declared.tree.Value.{Value}
use Rattle.spv_types.specs.Tree.{ValueTree, many, ValueTrees, no_values, value, values_in}
use Rattle.spv_types.specs.View.{value_of}
use Rattle.op_semantics.specs.Component.{listed, composite, before, each_one, each_two, each_three, by_one, by_two, by_three}

pub listed_values : (vs : List ValueTree) → listed (values_in vs) ≡ vs
listed_values [] = refl
listed_values (v ∷ vs) = ap (λ ws. v ∷ ws) (listed_values vs)

pub values_listed : (vs : ValueTrees) → values_in (listed vs) ≡ vs
values_listed no_values = refl
values_listed (value v vs) = ap (value v) (values_listed vs)

before_none : (o : Option ValueTree) → before o None ≡ None
before_none None = refl
before_none (Some v) = refl

-- lists of other lengths have no values
each_two_short : (f : ValueTree → ValueTree → Option ValueTree) (xs ys : List ValueTree) → (length xs ≡ length ys → ⊥) → each_two f xs ys ≡ None
each_two_short f [] [] h = absurd (h refl)
each_two_short f [] (y ∷ ys) h = refl
each_two_short f (x ∷ xs) [] h = refl
each_two_short f (x ∷ xs) (y ∷ ys) h = ap (before (f x y)) (each_two_short f xs ys (λ e. h (ap suc e))) ∙ before_none (f x y)

pub short : (f : ValueTree → ValueTree → Option ValueTree) (xs ys : List Value) → (length xs ≡ length ys → ⊥) → each_two f (map value_of xs) (map value_of ys) ≡ None
short f xs ys h = each_two_short f (map value_of xs) (map value_of ys) (λ e. h (sym (length-map xs value_of) ∙ e ∙ length-map ys value_of))

pub short_first : (f : ValueTree → ValueTree → ValueTree → Option ValueTree) (xs ys zs : List Value) → (length xs ≡ length ys → ⊥) → each_three f (map value_of xs) (map value_of ys) (map value_of zs) ≡ None
short_first f [] [] zs h = absurd (h refl)
short_first f [] (y ∷ ys) zs h = refl
short_first f (x ∷ xs) [] zs h = refl
short_first f (x ∷ xs) (y ∷ ys) [] h = refl
short_first f (x ∷ xs) (y ∷ ys) (z ∷ zs) h = ap (before (f (value_of x) (value_of y) (value_of z))) (short_first f xs ys zs (λ e. h (ap suc e))) ∙ before_none (f (value_of x) (value_of y) (value_of z))

pub short_second : (f : ValueTree → ValueTree → ValueTree → Option ValueTree) (xs ys zs : List Value) → (length ys ≡ length zs → ⊥) → each_three f (map value_of xs) (map value_of ys) (map value_of zs) ≡ None
short_second f [] [] [] h = absurd (h refl)
short_second f [] [] (z ∷ zs) h = refl
short_second f [] (y ∷ ys) zs h = refl
short_second f (x ∷ xs) [] zs h = refl
short_second f (x ∷ xs) (y ∷ ys) [] h = refl
short_second f (x ∷ xs) (y ∷ ys) (z ∷ zs) h = ap (before (f (value_of x) (value_of y) (value_of z))) (short_second f xs ys zs (λ e. h (ap suc e))) ∙ before_none (f (value_of x) (value_of y) (value_of z))

pub ruleset short_rules = (short_first, short_second)

-- an operation on vectors is one on their components
pub one_sized : (f : ValueTree → Option ValueTree) (vs : List Value) → by_one f (many (values_in (map value_of vs))) ≡ option_map composite (each_one f (map value_of vs))
one_sized f vs = ap (λ xs. option_map composite (each_one f xs)) (listed_values (map value_of vs))

pub two_sized : (f : ValueTree → ValueTree → Option ValueTree) (vs ws : List Value) → by_two f (many (values_in (map value_of vs))) (many (values_in (map value_of ws))) ≡ option_map composite (each_two f (map value_of vs) (map value_of ws))
two_sized f vs ws = ap (λ xs. option_map composite (each_two f xs (listed (values_in (map value_of ws))))) (listed_values (map value_of vs)) ∙ ap (λ ys. option_map composite (each_two f (map value_of vs) ys)) (listed_values (map value_of ws))

pub three_sized : (f : ValueTree → ValueTree → ValueTree → Option ValueTree) (xs ys zs : List Value) → by_three f (many (values_in (map value_of xs))) (many (values_in (map value_of ys))) (many (values_in (map value_of zs))) ≡ option_map composite (each_three f (map value_of xs) (map value_of ys) (map value_of zs))
three_sized f xs ys zs =
    ap (λ l. option_map composite (each_three f l (listed (values_in (map value_of ys))) (listed (values_in (map value_of zs))))) (listed_values (map value_of xs))
    ∙ ap (λ l. option_map composite (each_three f (map value_of xs) l (listed (values_in (map value_of zs))))) (listed_values (map value_of ys))
    ∙ ap (λ l. option_map composite (each_three f (map value_of xs) (map value_of ys) l)) (listed_values (map value_of zs))
