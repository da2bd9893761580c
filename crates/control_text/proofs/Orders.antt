-- Groups by their targets, against maps.
use Rattle.std.proofs.Common.{◌≡◌, ◌++◌, ℕ, true, false, cond, List, [], ◌∷◌, map, refl, ap, sym, ◌∙◌, append_assoc, arith}
use Rattle.std.specs.Prelude.{nat_eq, Option, Some, None, option_map}
use Rattle.std.specs.Option.{option_to_list}
use Rattle.std.specs.Map.{update, update_all}
use Rattle.std.specs.BTreeMap.{BTreeMap, get, is_at}
use Rattle.std.specs.Ordering.{nat_cmp, eq_by_cmp}
use Rattle.std.proofs.lemmas.Bool.Decides.{nat_tests}
use Rattle.std.proofs.lemmas.List.{map_push, append-nil}
use Rattle.glsl_ast.specs.Tree as text
use Rattle.glsl_ast.specs.View.{arm_of}
use Rattle.glsl_ast.specs.declared.statements.Arm.{Arm}
use Rattle.control_text.specs.Statements.{in_order, by_target}
use Rattle.control_text.specs.Written.{group_written}

-- the groups that a map has
abbrev pub arms_at : BTreeMap ℕ Arm → ℕ → Option text.Arm
arms_at m t = option_map arm_of (get nat_cmp m t)

at_is : (a b : ℕ) → is_at (nat_cmp a) b ≡ nat_eq a b
at_is a b = grind (arith, nat_tests)

updated : (k u : ℕ) (w x : Option Arm) → option_map arm_of (cond (is_at (nat_cmp k) u) w x) ≡ cond (nat_eq k u) (option_map arm_of w) (option_map arm_of x)
updated k u w x =
    ap (λ b. option_map arm_of (cond b w x)) (at_is k u)
    ∙ (elim (nat_eq k u) as (λ b. option_map arm_of (cond b w x) ≡ cond b (option_map arm_of w) (option_map arm_of x)) [ true ↦ refl | false ↦ refl ])

collected : (gs : List (ℕ × Arm)) (f : ℕ → Option Arm) (t : ℕ) → option_map arm_of (update_all (eq_by_cmp nat_cmp) f gs t) ≡ update_all nat_eq (λ u. option_map arm_of (f u)) (map group_written gs) t
collected [] f t = refl
collected (g ∷ gs) f t =
    collected gs (update (eq_by_cmp nat_cmp) f g.0 (Some g.1)) t
    ∙ ap (λ h. update_all nat_eq h (map group_written gs) t) (λ i u. updated g.0 u (Some g.1) (f u) i)

-- a map into which the groups are collected has each by its target
pub map_is : (m : BTreeMap ℕ Arm) (gs : List (ℕ × Arm)) → ((q : ℕ) → get nat_cmp m q ≡ update_all (eq_by_cmp nat_cmp) (λ _. None) gs q) → arms_at m ≡ by_target (map group_written gs)
map_is m gs h = λ i t. (ap (option_map arm_of) (h t) ∙ collected gs (λ _. None) t) i

-- one more target is written
pub order_more : (t : ℕ) (ts : List ℕ) (m n : BTreeMap ℕ Arm) (old new all : List text.Arm) → ((q : ℕ) → get nat_cmp n q ≡ cond (is_at (nat_cmp t) q) None (get nat_cmp m q)) → new ≡ old ++ option_to_list (arms_at m t) → old ++ in_order (t ∷ ts) (arms_at m) ≡ all → new ++ in_order ts (arms_at n) ≡ all
order_more t ts m n old new all h e p =
    ap (λ l. l ++ in_order ts (arms_at n)) e
    ∙ append_assoc old (option_to_list (arms_at m t)) (in_order ts (arms_at n))
    ∙ ap (λ f. old ++ (option_to_list (arms_at m t) ++ in_order ts f)) (λ i q. (ap (option_map arm_of) (h q) ∙ updated t q None (get nat_cmp m q)) i)
    ∙ p

-- what is taken for a target is pushed
pub pushed_some : (m : BTreeMap ℕ Arm) (t : ℕ) (r : Option Arm) (a : Arm) (old new : List Arm) → r ≡ get nat_cmp m t → r ≡ Some a → new ≡ old ++ a ∷ [] → map arm_of new ≡ map arm_of old ++ option_to_list (arms_at m t)
pushed_some m t r a old new e s p = ap (map arm_of) p ∙ map_push arm_of old a ∙ ap (λ o. map arm_of old ++ option_to_list (option_map arm_of o)) (sym s ∙ e)

pub pushed_none : (m : BTreeMap ℕ Arm) (t : ℕ) (r : Option Arm) (old new : List Arm) → r ≡ get nat_cmp m t → r ≡ None → new ≡ old → map arm_of new ≡ map arm_of old ++ option_to_list (arms_at m t)
pushed_none m t r old new e n p = ap (map arm_of) p ∙ sym (append-nil (map arm_of old)) ∙ ap (λ o. map arm_of old ++ option_to_list (option_map arm_of o)) (sym n ∙ e)
